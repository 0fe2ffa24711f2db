use Rattle.std.proofs.Common.{sym, ◌∙◌}
use Rattle.kp_node.specs.Parts.{node_of}
use Rattle.kp_kept.specs.Ahead.{all_records}
use Rattle.kp_kept.proofs.Put.{batch_left, batch_has, none_is}
use Rattle.kp_kept.proofs.slots.put_waiting.Goals as goal

pub returns-then-is_some-clause-crash : goal.returns-then-is_some-clause-crash
returns-then-is_some-clause-crash g c = c.put_image.ensures.crash (all_records c.args.waiting.now)

pub returns-then-is_some-clause-keeps : goal.returns-then-is_some-clause-keeps
returns-then-is_some-clause-keeps g c = c.put_image.ensures.keeps (all_records c.args.waiting.now)

pub returns-else-is_some-clause-crash : goal.returns-else-is_some-clause-crash
returns-else-is_some-clause-crash g c = batch_left g.H.Disk.held g.H.Disk.past c.args.home.now c.put.new.home (node_of c.args.node.now) c.args.image.now (all_records c.args.waiting.now) (none_is c.args.image.now (sym c.is_some.ensures ∙ c.if-is_some.false)) c.put.ensures.crash

pub returns-else-is_some-clause-keeps : goal.returns-else-is_some-clause-keeps
returns-else-is_some-clause-keeps g c = batch_has g.H.Disk.held g.H.Disk.past c.args.home.now c.put.new.home (node_of c.args.node.now) c.args.image.now (all_records c.args.waiting.now) c.put.result (none_is c.args.image.now (sym c.is_some.ensures ∙ c.if-is_some.false)) c.put.ensures.keeps
