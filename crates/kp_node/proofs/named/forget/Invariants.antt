use Rattle.std.proofs.Common.{◌≡◌, drop}
use Rattle.kp_node.specs.Named.{forgotten}
use Rattle.kp_node.proofs.named.forget.Given as goal

-- those that are left leave what all leave
abbrev pub invariant-loop-session : goal.invariant-loop-session
invariant-loop-session l = forgotten l.expiry (drop l.session-index l.sessions) ≡ forgotten l.fn.expiry l.sessions
