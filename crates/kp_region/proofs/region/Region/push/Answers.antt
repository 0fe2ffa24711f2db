use Rattle.std.proofs.Common.{ap, subst, sym, ◌∙◌, refl, arith, ◌≤◌, length}
use Rattle.kp_region.proofs.Steps.{pushed, pushed_holds}
use Rattle.kp_region.specs.Marked.{Marked, with_string}
use Rattle.kp_region.proofs.region.Region.push.Goals as goal

pub invariant_of-self : goal.invariant_of-self
invariant_of-self c = pushed_holds c.self.inside.window c.append.new.self c.self.inside.spans.items c.push_back_reserved.new.self.items _ c.args.bytes.now c.append.ensures.start c.append.ensures.bytes c.push_back_reserved.ensures.items c.end.ensures.place refl c.self.inside.first c.self.inside.spare_records c.self.inside.spare_bytes _ _ c.self.invariant (subst (λ (m : Marked). 1 ≤ m.spare_records) (sym c.self.view_is) c.requires.record) (subst (λ (m : Marked). length c.args.bytes.now ≤ m.spare_bytes) (sym c.self.view_is) c.requires.bytes) (omega (arith, c.push_back_reserved.ensures.len, c.push_back_reserved.ensures.capacity)) c.append.ensures.room

pub returns-clause-after : goal.returns-clause-after
returns-clause-after c = pushed c.self.inside.window c.append.new.self c.self.inside.spans.items c.push_back_reserved.new.self.items _ c.args.bytes.now c.append.ensures.start c.append.ensures.bytes c.push_back_reserved.ensures.items c.end.ensures.place refl c.self.inside.first c.self.inside.spare_records c.self.inside.spare_bytes c.self.invariant.run ∙ ap (λ (m : Marked). with_string m c.args.bytes.now) c.self.view_is
