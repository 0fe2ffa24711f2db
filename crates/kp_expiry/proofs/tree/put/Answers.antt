use Rattle.std.proofs.Common.{refl, ◌∙◌}
use Rattle.kp_expiry.specs.declared.tree.Slot.{Slot}
use Rattle.kp_expiry.proofs.Mended.{put_tags, put_others}
use Rattle.kp_expiry.proofs.tree.put.Goals as goal

abbrev blank : Slot
blank = record { session = 0; deadline = 0; least = 0 }

pub mend-requires-clause-right : goal.mend-requires-clause-right
mend-requires-clause-right c = put_others c.args.slots.now _ c.args.node c.args.session c.args.deadline blank refl c.requires.right

pub returns-clause-tags : goal.returns-clause-tags
returns-clause-tags c = c.mend.ensures.tags ∙ put_tags c.args.slots.now _ c.args.node c.args.session c.args.deadline blank refl
