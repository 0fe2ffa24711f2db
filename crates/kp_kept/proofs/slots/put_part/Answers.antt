use Rattle.std.proofs.Common.{sym, ◌∙◌}
use Rattle.kp_homes.specs.declared.fail.HomeFail.TheVariants as home_fail
use Rattle.kp_node.specs.Parts.{node_of}
use Rattle.kp_kept.proofs.Put.{none_is}
use Rattle.kp_kept.proofs.TornHome.{batch_leaves, image_has, image_leaves}
use Rattle.kp_kept.proofs.slots.put_part.Goals as goal

pub returns-then-is_some-clause-crash : goal.returns-then-is_some-clause-crash
returns-then-is_some-clause-crash g c = image_leaves g.H.Disk.held g.H.Disk.past c.args.home.now c.put_image.new.home c.args.records.now (node_of c.args.node.now) c.args.image.now (sym c.is_some.ensures ∙ c.if-is_some.true) (c.put_image.ensures.crash c.args.records.now)

pub returns-then-is_some-clause-keeps : goal.returns-then-is_some-clause-keeps
returns-then-is_some-clause-keeps g c = image_has g.H.Disk.held g.H.Disk.past c.args.home.now c.put_image.new.home c.args.records.now (node_of c.args.node.now) c.args.image.now c.put_image.result (sym c.is_some.ensures ∙ c.if-is_some.true) (c.put_image.ensures.keeps c.args.records.now)

pub returns-else-is_some-clause-crash : goal.returns-else-is_some-clause-crash
returns-else-is_some-clause-crash g c = batch_leaves g.H.Disk.held g.H.Disk.past c.args.home.now c.put_some.new.home c.args.records.now (node_of c.args.node.now) c.args.image.now (none_is c.args.image.now (sym c.is_some.ensures ∙ c.if-is_some.false)) c.put_some.ensures.crash

pub returns-else-is_some-clause-memory : goal.returns-else-is_some-clause-memory
returns-else-is_some-clause-memory g c = λ e. absurd (c.put_some.ensures.only home_fail.NoMemory e)
