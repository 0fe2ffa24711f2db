use Rattle.std.proofs.Common.{◌≡◌, ◌++◌, drop}
use Rattle.std.specs.List.{flat_map}
use Rattle.kp_words.specs.Texts.{session_line}
use Rattle.kp_words.proofs.lists.print_sessions.Given as goal

abbrev pub invariant-loop-session : goal.invariant-loop-session
invariant-loop-session l = l.out.items ++ flat_map (session_line l.before) (drop l.session-index l.sessions) ≡ l.fn.out.items ++ flat_map (session_line l.before) l.sessions
