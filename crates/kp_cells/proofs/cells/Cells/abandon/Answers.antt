use Rattle.std.proofs.Common.{◌≡◌, ap, sym, ◌∙◌, is_some}
use Rattle.kp_layers.specs.Layering.{abandoned}
use Rattle.kp_cells.proofs.Together.{all_abandoned_is, no_mark}
use Rattle.kp_cells.specs.Traced.{uses, latest_in}
use Rattle.kp_cells.proofs.Released.{held_still, overlays_still, used_still}
use Rattle.kp_cells.proofs.Traces.{traced_abandoned, loses_abandoned, all_lost}
use Rattle.kp_cells.proofs.cells.Cells.abandon.Goals as goal

pub invariant_of-self : goal.invariant_of-self
invariant_of-self c =
    let t = c.self.inside.trail in
    let ns = c.as_slice.result.now in
    let are : ns ≡ latest_in t = c.as_slice.ensures.value ∙ c.take_staged-opened.ensures.numbers in
    record {
      held = held_still _ _ _ _ _ _ _ _ _ c.self.inside.applied ns c.release.ensures.numbers c.release.ensures.naming
          (all_abandoned_is _ no_mark _ _ _ _ _ _ _ _ _ _ _ _ _ _ c.self.inside.applied c.abandon.ensures c.abandon-2.ensures c.abandon-3.ensures c.abandon-4.ensures c.abandon-5.ensures c.abandon-6.ensures c.abandon-7.ensures c.self.invariant.held).0;
      used = used_still c.self.inside.names c.release.new.names (uses c.abandon.new.self c.abandon-2.new.self c.abandon-3.new.self c.abandon-4.new.self c.abandon-5.new.self) ns c.release.ensures.numbers (uses c.self.inside.nodes.metas c.self.inside.nodes.contents c.self.inside.nodes.acls c.self.inside.nodes.children c.self.inside.nodes.owners) c.self.invariant.used (all_lost c.self.inside.nodes.metas c.abandon.new.self c.self.inside.nodes.contents c.abandon-2.new.self c.self.inside.nodes.acls c.abandon-3.new.self c.self.inside.nodes.children c.abandon-4.new.self c.self.inside.nodes.owners c.abandon-5.new.self ns
          (loses_abandoned t _ _ ns are c.abandon.ensures c.self.invariant.metas_traced)
          (loses_abandoned t _ _ ns are c.abandon-2.ensures c.self.invariant.contents_traced)
          (loses_abandoned t _ _ ns are c.abandon-3.ensures c.self.invariant.acls_traced)
          (loses_abandoned t _ _ ns are c.abandon-4.ensures c.self.invariant.children_traced)
          (loses_abandoned t _ _ ns are c.abandon-5.ensures c.self.invariant.owners_traced));
      open_too = ap is_some c.take_staged-opened.ensures.staged ∙ sym (ap (λ l. is_some l.staged) c.abandon.ensures);
      metas_traced = traced_abandoned t c.take_staged-opened.new.self _ _ c.abandon.ensures c.take_staged-opened.ensures.layers c.self.invariant.metas_traced;
      contents_traced = traced_abandoned t c.take_staged-opened.new.self _ _ c.abandon-2.ensures c.take_staged-opened.ensures.layers c.self.invariant.contents_traced;
      acls_traced = traced_abandoned t c.take_staged-opened.new.self _ _ c.abandon-3.ensures c.take_staged-opened.ensures.layers c.self.invariant.acls_traced;
      children_traced = traced_abandoned t c.take_staged-opened.new.self _ _ c.abandon-4.ensures c.take_staged-opened.ensures.layers c.self.invariant.children_traced;
      owners_traced = traced_abandoned t c.take_staged-opened.new.self _ _ c.abandon-5.ensures c.take_staged-opened.ensures.layers c.self.invariant.owners_traced;
    }

pub returns : goal.returns
returns c =
    overlays_still c.self.inside.names c.release.new.names _ _ _ _ _ _ _ c.self.inside.applied c.as_slice.result.now c.release.ensures.numbers c.release.ensures.naming
    (all_abandoned_is _ no_mark _ _ _ _ _ _ _ _ _ _ _ _ _ _ c.self.inside.applied c.abandon.ensures c.abandon-2.ensures c.abandon-3.ensures c.abandon-4.ensures c.abandon-5.ensures c.abandon-6.ensures c.abandon-7.ensures c.self.invariant.held).0
    ∙ (all_abandoned_is _ no_mark _ _ _ _ _ _ _ _ _ _ _ _ _ _ c.self.inside.applied c.abandon.ensures c.abandon-2.ensures c.abandon-3.ensures c.abandon-4.ensures c.abandon-5.ensures c.abandon-6.ensures c.abandon-7.ensures c.self.invariant.held).1
    ∙ ap (λ o. record { metas = abandoned o.metas; contents = abandoned o.contents; acls = abandoned o.acls; children = abandoned o.children; owners = abandoned o.owners; sessions = abandoned o.sessions; next = abandoned o.next; applied = o.applied }) c.self.view_is
