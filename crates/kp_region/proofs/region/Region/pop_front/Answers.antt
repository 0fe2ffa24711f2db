use Rattle.std.proofs.Common.{ap, ◌∙◌, arith}
use Rattle.kp_region.proofs.Steps.{front_fits, popped_front, popped_front_holds}
use Rattle.kp_region.specs.Marked.{without_first}
use Rattle.kp_region.proofs.region.Region.pop_front.Goals as goal

pub drop_front-requires : goal.drop_front-requires
drop_front-requires c = front_fits c.self.inside.window c.self.inside.spans.items c.pop_front.new.self.items c.in-Some.span c.in-Some.ensures.items c.self.invariant.run

pub invariant_of-self-in-Some : goal.invariant_of-self-in-Some
invariant_of-self-in-Some c = popped_front_holds c.self.inside.window c.drop_front.new.self c.self.inside.spans.items c.pop_front.new.self.items c.in-Some.span c.drop_front.ensures.start c.drop_front.ensures.bytes c.in-Some.ensures.items c.self.inside.first c.self.inside.spare_records c.self.inside.spare_bytes _ _ c.self.invariant (omega (arith, c.in-Some.ensures.len, c.in-Some.ensures.capacity)) c.drop_front.ensures.room

pub returns-in-Some-clause-after : goal.returns-in-Some-clause-after
returns-in-Some-clause-after c = popped_front c.self.inside.window c.drop_front.new.self c.self.inside.spans.items c.pop_front.new.self.items c.in-Some.span c.drop_front.ensures.start c.drop_front.ensures.bytes c.in-Some.ensures.items c.self.inside.first c.self.inside.spare_records c.self.inside.spare_bytes c.self.invariant.run ∙ ap without_first c.self.view_is
