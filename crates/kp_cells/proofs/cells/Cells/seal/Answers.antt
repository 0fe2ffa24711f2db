use Rattle.std.proofs.Common.{ap, sym, ◌∙◌, is_some}
use Rattle.kp_layers.specs.Layering.{sealed}
use Rattle.kp_cells.proofs.Together.{all_sealed_is, no_mark}
use Rattle.kp_cells.proofs.Traces.{traced_sealed, keeps_sealed, all_kept}
use Rattle.kp_cells.proofs.cells.Cells.seal.Goals as goal

pub invariant_of-self : goal.invariant_of-self
invariant_of-self c =
    let t = c.self.inside.trail in
    let t' = c.seal-8.new.self in
    let layers = c.seal-8.ensures.layers in
    record {
      held = (all_sealed_is _ no_mark _ _ _ _ _ _ _ _ _ _ _ _ _ _ c.self.inside.applied c.seal.ensures c.seal-2.ensures c.seal-3.ensures c.seal-4.ensures c.seal-5.ensures c.seal-6.ensures c.seal-7.ensures c.self.invariant.held).0;
      used = λ p n e. all_kept c.self.inside.nodes.metas c.seal.new.self c.self.inside.nodes.contents c.seal-2.new.self c.self.inside.nodes.acls c.seal-3.new.self c.self.inside.nodes.children c.seal-4.new.self c.self.inside.nodes.owners c.seal-5.new.self
          (keeps_sealed c.self.inside.nodes.metas c.seal.new.self c.seal.ensures)
          (keeps_sealed c.self.inside.nodes.contents c.seal-2.new.self c.seal-2.ensures)
          (keeps_sealed c.self.inside.nodes.acls c.seal-3.new.self c.seal-3.ensures)
          (keeps_sealed c.self.inside.nodes.children c.seal-4.new.self c.seal-4.ensures)
          (keeps_sealed c.self.inside.nodes.owners c.seal-5.new.self c.seal-5.ensures)
          n (c.self.invariant.used p n e);
      open_too = ap is_some c.seal-8.ensures.staged ∙ sym (ap (λ l. is_some l.staged) c.seal.ensures);
      metas_traced = traced_sealed t t' _ _ c.seal.ensures layers c.self.invariant.metas_traced;
      contents_traced = traced_sealed t t' _ _ c.seal-2.ensures layers c.self.invariant.contents_traced;
      acls_traced = traced_sealed t t' _ _ c.seal-3.ensures layers c.self.invariant.acls_traced;
      children_traced = traced_sealed t t' _ _ c.seal-4.ensures layers c.self.invariant.children_traced;
      owners_traced = traced_sealed t t' _ _ c.seal-5.ensures layers c.self.invariant.owners_traced;
    }

pub returns : goal.returns
returns c =
    (all_sealed_is _ no_mark _ _ _ _ _ _ _ _ _ _ _ _ _ _ c.self.inside.applied c.seal.ensures c.seal-2.ensures c.seal-3.ensures c.seal-4.ensures c.seal-5.ensures c.seal-6.ensures c.seal-7.ensures c.self.invariant.held).1
    ∙ ap (λ o. record { metas = sealed o.metas; contents = sealed o.contents; acls = sealed o.acls; children = sealed o.children; owners = sealed o.owners; sessions = sealed o.sessions; next = sealed o.next; applied = o.applied }) c.self.view_is
