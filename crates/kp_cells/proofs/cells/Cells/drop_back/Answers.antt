use Rattle.std.proofs.Common.{◌≡◌, ap, sym, ◌∙◌, is_some}
use Rattle.kp_layers.specs.Layering.{back_dropped}
use Rattle.kp_layers.specs.Used.{last_layer}
use Rattle.kp_cells.specs.Traced.{uses}
use Rattle.kp_cells.proofs.Together.{all_dropped_is, no_mark}
use Rattle.kp_cells.proofs.Released.{held_still, overlays_still, used_still}
use Rattle.kp_cells.proofs.Traces.{traced_dropped, loses_dropped, all_lost}
use Rattle.kp_cells.proofs.cells.Cells.drop_back.Goals as goal

pub invariant_of-self : goal.invariant_of-self
invariant_of-self c =
    let t = c.self.inside.trail in
    let t' = c.take_back-last.new.self in
    let ns = c.as_slice.result.now in
    let are : ns ≡ last_layer t.layers = c.as_slice.ensures.value ∙ c.take_back-last.ensures.numbers in
    let layers = c.take_back-last.ensures.layers in
    let staged = c.take_back-last.ensures.staged in
    record {
      held = held_still _ _ _ _ _ _ _ _ _ c.self.inside.applied ns c.release.ensures.numbers c.release.ensures.naming
          (all_dropped_is _ no_mark _ _ _ _ _ _ _ _ _ _ _ _ _ _ c.self.inside.applied c.drop_back-there.ensures.changed c.drop_back.ensures.changed c.drop_back-2.ensures.changed c.drop_back-3.ensures.changed c.drop_back-4.ensures.changed c.drop_back-5.ensures.changed c.drop_back-6.ensures.changed c.self.invariant.held).0;
      used = used_still c.self.inside.names c.release.new.names (uses c.drop_back-there.new.self c.drop_back.new.self c.drop_back-2.new.self c.drop_back-3.new.self c.drop_back-4.new.self) ns c.release.ensures.numbers (uses c.self.inside.nodes.metas c.self.inside.nodes.contents c.self.inside.nodes.acls c.self.inside.nodes.children c.self.inside.nodes.owners) c.self.invariant.used (all_lost c.self.inside.nodes.metas c.drop_back-there.new.self c.self.inside.nodes.contents c.drop_back.new.self c.self.inside.nodes.acls c.drop_back-2.new.self c.self.inside.nodes.children c.drop_back-3.new.self c.self.inside.nodes.owners c.drop_back-4.new.self ns
          (loses_dropped t _ _ ns are c.drop_back-there.ensures.changed c.self.invariant.metas_traced)
          (loses_dropped t _ _ ns are c.drop_back.ensures.changed c.self.invariant.contents_traced)
          (loses_dropped t _ _ ns are c.drop_back-2.ensures.changed c.self.invariant.acls_traced)
          (loses_dropped t _ _ ns are c.drop_back-3.ensures.changed c.self.invariant.children_traced)
          (loses_dropped t _ _ ns are c.drop_back-4.ensures.changed c.self.invariant.owners_traced));
      open_too = ap is_some staged ∙ c.self.invariant.open_too ∙ sym (ap (λ l. is_some l.staged) c.drop_back-there.ensures.changed);
      metas_traced = traced_dropped t t' _ _ c.drop_back-there.ensures.changed layers staged c.self.invariant.metas_traced;
      contents_traced = traced_dropped t t' _ _ c.drop_back.ensures.changed layers staged c.self.invariant.contents_traced;
      acls_traced = traced_dropped t t' _ _ c.drop_back-2.ensures.changed layers staged c.self.invariant.acls_traced;
      children_traced = traced_dropped t t' _ _ c.drop_back-3.ensures.changed layers staged c.self.invariant.children_traced;
      owners_traced = traced_dropped t t' _ _ c.drop_back-4.ensures.changed layers staged c.self.invariant.owners_traced;
    }

pub returns-clause-changed : goal.returns-clause-changed
returns-clause-changed c =
    overlays_still c.self.inside.names c.release.new.names _ _ _ _ _ _ _ c.self.inside.applied c.as_slice.result.now c.release.ensures.numbers c.release.ensures.naming
    (all_dropped_is _ no_mark _ _ _ _ _ _ _ _ _ _ _ _ _ _ c.self.inside.applied c.drop_back-there.ensures.changed c.drop_back.ensures.changed c.drop_back-2.ensures.changed c.drop_back-3.ensures.changed c.drop_back-4.ensures.changed c.drop_back-5.ensures.changed c.drop_back-6.ensures.changed c.self.invariant.held).0
    ∙ (all_dropped_is _ no_mark _ _ _ _ _ _ _ _ _ _ _ _ _ _ c.self.inside.applied c.drop_back-there.ensures.changed c.drop_back.ensures.changed c.drop_back-2.ensures.changed c.drop_back-3.ensures.changed c.drop_back-4.ensures.changed c.drop_back-5.ensures.changed c.drop_back-6.ensures.changed c.self.invariant.held).1
    ∙ ap (λ o. record { metas = back_dropped o.metas; contents = back_dropped o.contents; acls = back_dropped o.acls; children = back_dropped o.children; owners = back_dropped o.owners; sessions = back_dropped o.sessions; next = back_dropped o.next; applied = o.applied }) c.self.view_is
