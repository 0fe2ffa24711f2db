use Rattle.std.proofs.Common.{◌≡◌, drop}
use Rattle.kp_step.specs.Committing.{hear_all}
use Rattle.kp_node.specs.Named.{AreKnown}
use Rattle.kp_node.proofs.named.hear_known.Given as goal

-- all are known, and those that are left make of what is heard so far what all make
abbrev pub invariant-loop-session : goal.invariant-loop-session
invariant-loop-session g l = AreKnown (g.V.View.state l.view).sessions l.sessions l.expiry × (hear_all l.now (g.V.View.state l.view) l.expiry (drop l.session-index l.sessions) ≡ hear_all l.now (g.V.View.state l.view) l.fn.expiry l.sessions)
