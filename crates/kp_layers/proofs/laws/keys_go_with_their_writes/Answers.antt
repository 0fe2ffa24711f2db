use Rattle.std.specs.Cmp.{nat_cmp_total}
use Rattle.kp_layers.proofs.Used.{used_undone, used_front_committed, used_back_dropped}
use Rattle.kp_layers.proofs.laws.keys_go_with_their_writes.Goals as goal

pub returns-clause-undone : goal.returns-clause-undone
returns-clause-undone g c = used_undone

pub returns-clause-committed : goal.returns-clause-committed
returns-clause-committed g c = used_front_committed nat_cmp_total

pub returns-clause-dropped : goal.returns-clause-dropped
returns-clause-dropped g c = used_back_dropped
