use Rattle.std.proofs.Common.{◌≡◌, ap, sym, subst, ◌∙◌, is_some, IsSome}
use Rattle.kp_layers.specs.Layering.{undone}
use Rattle.kp_cells.proofs.Together.{all_undone_is, is_open}
use Rattle.kp_cells.specs.Naming.{writes_by_path}
use Rattle.kp_cells.specs.Traced.{uses, latest_in}
use Rattle.kp_cells.proofs.Released.{held_still, overlays_still, used_still}
use Rattle.kp_cells.proofs.Traces.{traced_undone, loses_undone, all_lost}
use Rattle.kp_cells.proofs.cells.Cells.undo_to.Goals as goal

pub invariant_of-self : goal.invariant_of-self
invariant_of-self c =
    let t = c.self.inside.trail in
    let ns = c.staged.result.now in
    let are : ns ≡ latest_in t = c.staged.ensures in
    let there : IsSome c.self.inside.nodes.metas.staged = is_open (writes_by_path c.self.inside.names) c.self.inside.nodes.metas.staged (subst (λ o. IsSome o.metas.staged) (sym c.self.view_is) c.requires) in
    record {
      held = held_still _ _ _ _ _ _ _ _ _ c.self.inside.applied ns c.release.ensures.numbers c.release.ensures.naming
          (all_undone_is _ c.args.mark _ _ _ _ _ _ _ _ _ _ _ _ _ _ c.self.inside.applied c.undo_to.ensures c.undo_to-2.ensures c.undo_to-3.ensures c.undo_to-4.ensures c.undo_to-5.ensures c.undo_to-6.ensures c.undo_to-7.ensures c.self.invariant.held).0;
      used = used_still c.self.inside.names c.release.new.names (uses c.undo_to.new.self c.undo_to-2.new.self c.undo_to-3.new.self c.undo_to-4.new.self c.undo_to-5.new.self) ns c.release.ensures.numbers (uses c.self.inside.nodes.metas c.self.inside.nodes.contents c.self.inside.nodes.acls c.self.inside.nodes.children c.self.inside.nodes.owners) c.self.invariant.used (all_lost c.self.inside.nodes.metas c.undo_to.new.self c.self.inside.nodes.contents c.undo_to-2.new.self c.self.inside.nodes.acls c.undo_to-3.new.self c.self.inside.nodes.children c.undo_to-4.new.self c.self.inside.nodes.owners c.undo_to-5.new.self ns
          (loses_undone t _ _ c.args.mark.metas ns are c.undo_to.ensures c.self.invariant.metas_traced)
          (loses_undone t _ _ c.args.mark.contents ns are c.undo_to-2.ensures c.self.invariant.contents_traced)
          (loses_undone t _ _ c.args.mark.acls ns are c.undo_to-3.ensures c.self.invariant.acls_traced)
          (loses_undone t _ _ c.args.mark.children ns are c.undo_to-4.ensures c.self.invariant.children_traced)
          (loses_undone t _ _ c.args.mark.owners ns are c.undo_to-5.ensures c.self.invariant.owners_traced));
      open_too = c.self.invariant.open_too ∙ there ∙ sym (ap (λ l. is_some l.staged) c.undo_to.ensures);
      metas_traced = traced_undone t _ _ c.args.mark.metas c.undo_to.ensures c.self.invariant.metas_traced;
      contents_traced = traced_undone t _ _ c.args.mark.contents c.undo_to-2.ensures c.self.invariant.contents_traced;
      acls_traced = traced_undone t _ _ c.args.mark.acls c.undo_to-3.ensures c.self.invariant.acls_traced;
      children_traced = traced_undone t _ _ c.args.mark.children c.undo_to-4.ensures c.self.invariant.children_traced;
      owners_traced = traced_undone t _ _ c.args.mark.owners c.undo_to-5.ensures c.self.invariant.owners_traced;
    }

pub returns : goal.returns
returns c =
    overlays_still c.self.inside.names c.release.new.names _ _ _ _ _ _ _ c.self.inside.applied c.staged.result.now c.release.ensures.numbers c.release.ensures.naming
    (all_undone_is _ c.args.mark _ _ _ _ _ _ _ _ _ _ _ _ _ _ c.self.inside.applied c.undo_to.ensures c.undo_to-2.ensures c.undo_to-3.ensures c.undo_to-4.ensures c.undo_to-5.ensures c.undo_to-6.ensures c.undo_to-7.ensures c.self.invariant.held).0
    ∙ (all_undone_is _ c.args.mark _ _ _ _ _ _ _ _ _ _ _ _ _ _ c.self.inside.applied c.undo_to.ensures c.undo_to-2.ensures c.undo_to-3.ensures c.undo_to-4.ensures c.undo_to-5.ensures c.undo_to-6.ensures c.undo_to-7.ensures c.self.invariant.held).1
    ∙ ap (λ o. record { metas = undone o.metas c.args.mark.metas; contents = undone o.contents c.args.mark.contents; acls = undone o.acls c.args.mark.acls; children = undone o.children c.args.mark.children; owners = undone o.owners c.args.mark.owners; sessions = undone o.sessions c.args.mark.sessions; next = undone o.next c.args.mark.next; applied = o.applied }) c.self.view_is
