use Rattle.std.proofs.Common.{drop}
use Rattle.kp_node.proofs.Known.{Admits}
use Rattle.kp_node.proofs.named.admit.Given as goal

-- those that are left are known, or will be
abbrev pub invariant-loop-session : goal.invariant-loop-session
invariant-loop-session g l = Admits (g.V.View.state l.view).sessions l.sessions l.fn.expiry l.list.items l.expiry (drop l.session-index l.sessions)
