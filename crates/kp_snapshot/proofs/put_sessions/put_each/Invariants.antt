use Rattle.std.proofs.Common.{◌≡◌, take}
use Rattle.std.specs.FinMap as map
use Rattle.kp_snapshot.specs.Rules.{numbers_of, holders_of}
use Rattle.kp_snapshot.specs.Images.{session_behind, spell_session}
use Rattle.kp_snapshot.specs.Knowing.{knowing}
use Rattle.kp_snapshot.specs.Written.{WroteRows}
use Rattle.kp_snapshot.proofs.put_sessions.put_each.Given as goal

-- the sessions of the numbers so far are known and written
abbrev pub invariant-loop-id : goal.invariant-loop-id
invariant-loop-id g l = (l.known ≡ knowing l.fn.known.next (take l.id-index (map.entries (g.V.View.state l.view).sessions)))
    × WroteRows spell_session (λ before. session_behind l.fn.known.next (numbers_of before) (holders_of before)) (take l.id-index (map.entries (g.V.View.state l.view).sessions)) l.fn.out.items l.out.items
