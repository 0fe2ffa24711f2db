use Rattle.std.proofs.Common.{ap, ◌∙◌, arith}
use Rattle.kp_region.proofs.Steps.{back_fits, popped_back, popped_back_holds}
use Rattle.kp_region.specs.Marked.{without_last}
use Rattle.kp_region.proofs.region.Region.pop_back.Goals as goal

pub drop_back-requires : goal.drop_back-requires
drop_back-requires c = back_fits c.self.inside.window c.self.inside.spans.items c.pop_back.new.self.items c.in-Some.span c.in-Some.ensures.items c.self.invariant.run

pub invariant_of-self-in-Some : goal.invariant_of-self-in-Some
invariant_of-self-in-Some c = popped_back_holds c.self.inside.window c.drop_back.new.self c.self.inside.spans.items c.pop_back.new.self.items c.in-Some.span c.drop_back.ensures.start c.drop_back.ensures.bytes c.in-Some.ensures.items c.self.inside.first c.self.inside.spare_records c.self.inside.spare_bytes _ _ c.self.invariant (omega (arith, c.in-Some.ensures.cases, c.in-Some.ensures.capacity)) c.drop_back.ensures.room

pub returns-in-Some-clause-after : goal.returns-in-Some-clause-after
returns-in-Some-clause-after c = popped_back c.self.inside.window c.drop_back.new.self c.self.inside.spans.items c.pop_back.new.self.items c.in-Some.span c.drop_back.ensures.start c.drop_back.ensures.bytes c.in-Some.ensures.items c.self.inside.first c.self.inside.spare_records c.self.inside.spare_bytes c.self.invariant.run ∙ ap without_last c.self.view_is
