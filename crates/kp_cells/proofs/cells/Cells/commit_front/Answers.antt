use Rattle.std.proofs.Common.{◌≡◌, ap, sym, ◌∙◌, length, is_some}
use Rattle.std.specs.Prelude.{map}
use Rattle.kp_layers.specs.Layering.{first_layer}
use Rattle.kp_cells.specs.Naming.{writes_by_path}
use Rattle.kp_cells.specs.Overlays.{all_committed, applied_after}
use Rattle.kp_cells.specs.Held.{overlays}
use Rattle.kp_cells.specs.Traced.{uses}
use Rattle.kp_cells.proofs.ByPath.{length_mapped}
use Rattle.kp_cells.proofs.Together.{all_committed_is, no_mark, committed_to, raised_is}
use Rattle.kp_cells.proofs.Released.{held_still, overlays_still, used_still}
use Rattle.kp_cells.proofs.Traces.{traced_committed, loses_committed, all_lost}
use Rattle.kp_cells.proofs.cells.Cells.commit_front.Goals as goal

pub invariant_of-self : goal.invariant_of-self
invariant_of-self c =
    let t = c.self.inside.trail in
    let t' = c.take_front-first.new.self in
    let ns = c.as_slice.result.now in
    let are : ns ≡ first_layer t.layers = c.as_slice.ensures.value ∙ c.take_front-first.ensures.numbers in
    let layers = c.take_front-first.ensures.layers in
    let staged = c.take_front-first.ensures.staged in
    record {
      held = held_still _ _ _ _ _ _ _ _ _ c.self.inside.applied ns c.release.ensures.numbers c.release.ensures.naming
          (all_committed_is _ no_mark _ _ _ _ _ _ _ _ _ _ _ _ _ _ c.self.inside.applied c.commit_front-there.ensures.changed c.commit_front.ensures.changed c.commit_front-2.ensures.changed c.commit_front-3.ensures.changed c.commit_front-4.ensures.changed c.commit_front-5.ensures.changed c.commit_front-6.ensures.changed c.self.invariant.held).0;
      used = used_still c.self.inside.names c.release.new.names (uses c.commit_front-there.new.self c.commit_front.new.self c.commit_front-2.new.self c.commit_front-3.new.self c.commit_front-4.new.self) ns c.release.ensures.numbers (uses c.self.inside.nodes.metas c.self.inside.nodes.contents c.self.inside.nodes.acls c.self.inside.nodes.children c.self.inside.nodes.owners) c.self.invariant.used (all_lost c.self.inside.nodes.metas c.commit_front-there.new.self c.self.inside.nodes.contents c.commit_front.new.self c.self.inside.nodes.acls c.commit_front-2.new.self c.self.inside.nodes.children c.commit_front-3.new.self c.self.inside.nodes.owners c.commit_front-4.new.self ns
          (loses_committed t _ _ ns are c.commit_front-there.ensures.changed c.self.invariant.metas_traced)
          (loses_committed t _ _ ns are c.commit_front.ensures.changed c.self.invariant.contents_traced)
          (loses_committed t _ _ ns are c.commit_front-2.ensures.changed c.self.invariant.acls_traced)
          (loses_committed t _ _ ns are c.commit_front-3.ensures.changed c.self.invariant.children_traced)
          (loses_committed t _ _ ns are c.commit_front-4.ensures.changed c.self.invariant.owners_traced));
      open_too = ap is_some staged ∙ c.self.invariant.open_too ∙ sym (ap (λ l. is_some l.staged) c.commit_front-there.ensures.changed);
      metas_traced = traced_committed t t' _ _ c.commit_front-there.ensures.changed layers staged c.self.invariant.metas_traced;
      contents_traced = traced_committed t t' _ _ c.commit_front.ensures.changed layers staged c.self.invariant.contents_traced;
      acls_traced = traced_committed t t' _ _ c.commit_front-2.ensures.changed layers staged c.self.invariant.acls_traced;
      children_traced = traced_committed t t' _ _ c.commit_front-3.ensures.changed layers staged c.self.invariant.children_traced;
      owners_traced = traced_committed t t' _ _ c.commit_front-4.ensures.changed layers staged c.self.invariant.owners_traced;
    }

pub returns-clause-changed : goal.returns-clause-changed
returns-clause-changed c =
    let applied : c.raised-self-inside.result ≡ applied_after c.self.inside.applied (length (map (writes_by_path c.self.inside.names) c.self.inside.nodes.metas.layers)) =
    c.raised-self-inside.ensures
    ∙ raised_is c.self.inside.applied c.commit_front-there.result (length c.self.inside.nodes.metas.layers) c.commit_front-there.ensures.there
    ∙ ap (applied_after c.self.inside.applied) (sym (length_mapped (writes_by_path c.self.inside.names) c.self.inside.nodes.metas.layers)) in
    overlays_still c.self.inside.names c.release.new.names _ _ _ _ _ _ _ c.raised-self-inside.result c.as_slice.result.now c.release.ensures.numbers c.release.ensures.naming
    (all_committed_is _ no_mark _ _ _ _ _ _ _ _ _ _ _ _ _ _ c.self.inside.applied c.commit_front-there.ensures.changed c.commit_front.ensures.changed c.commit_front-2.ensures.changed c.commit_front-3.ensures.changed c.commit_front-4.ensures.changed c.commit_front-5.ensures.changed c.commit_front-6.ensures.changed c.self.invariant.held).0
    ∙ (all_committed_is _ no_mark _ _ _ _ _ _ _ _ _ _ _ _ _ _ c.raised-self-inside.result c.commit_front-there.ensures.changed c.commit_front.ensures.changed c.commit_front-2.ensures.changed c.commit_front-3.ensures.changed c.commit_front-4.ensures.changed c.commit_front-5.ensures.changed c.commit_front-6.ensures.changed c.self.invariant.held).1
    ∙ ap (λ a. committed_to a (overlays c.self.inside.names c.self.inside.nodes.metas c.self.inside.nodes.contents c.self.inside.nodes.acls c.self.inside.nodes.children c.self.inside.nodes.owners c.self.inside.sessions c.self.inside.next c.self.inside.applied)) applied
    ∙ ap all_committed c.self.view_is
