use Rattle.std.proofs.Common.{◌≡◌, ap, sym, ◌∙◌, false, is_some, None, subst}
use Rattle.std.specs.Prelude.{is_err}
use Rattle.kp_cells.proofs.Named.{not_err}
use Rattle.kp_cells.proofs.Together.{all_begun_is, no_mark, is_closed, closed_alike}
use Rattle.kp_cells.specs.Naming.{writes_by_path}
use Rattle.kp_cells.proofs.Traces.{traced_begun, keeps_begun, all_kept}
use Rattle.kp_cells.proofs.cells.Cells.begin.Goals as goal

pub invariant_of-self-else-is_err : goal.invariant_of-self-else-is_err
invariant_of-self-else-is_err c =
    let ok : is_err c.begin_rest.result ≡ false = sym c.is_err.ensures.value ∙ c.if-is_err.false in
    let trace = not_err _ ok c.begin_rest.ensures.trail in
    let layers = ap (λ t. t.layers) trace in
    let owners = not_err _ ok c.begin_rest.ensures.one in
    let none : c.self.inside.nodes.metas.staged ≡ None = is_closed (writes_by_path c.self.inside.names) c.self.inside.nodes.metas.staged (subst (λ o. o.metas.staged ≡ None) (sym c.self.view_is) c.requires) in
    let h = c.self.invariant.held in
    record {
      held = (all_begun_is _ no_mark _ _ _ _ _ _ _ _ _ _ _ _ _ _ c.self.inside.applied c.in_ok-begin_four.ensures.one c.in_ok-begin_four.ensures.other c.in_ok-begin_four.ensures.third c.in_ok-begin_four.ensures.fourth (not_err _ ok c.begin_rest.ensures.one) (not_err _ ok c.begin_rest.ensures.other) (not_err _ ok c.begin_rest.ensures.third) c.self.invariant.held).0;
      used = λ p n e. all_kept c.self.inside.nodes.metas c.begin_four.new.one c.self.inside.nodes.contents c.begin_four.new.other c.self.inside.nodes.acls c.begin_four.new.third c.self.inside.nodes.children c.begin_four.new.fourth c.self.inside.nodes.owners c.begin_rest.new.one
          (keeps_begun c.self.inside.nodes.metas c.begin_four.new.one none c.in_ok-begin_four.ensures.one)
          (keeps_begun c.self.inside.nodes.contents c.begin_four.new.other (closed_alike _ _ h.contents_alike none) c.in_ok-begin_four.ensures.other)
          (keeps_begun c.self.inside.nodes.acls c.begin_four.new.third (closed_alike _ _ h.acls_alike none) c.in_ok-begin_four.ensures.third)
          (keeps_begun c.self.inside.nodes.children c.begin_four.new.fourth (closed_alike _ _ h.children_alike none) c.in_ok-begin_four.ensures.fourth)
          (keeps_begun c.self.inside.nodes.owners c.begin_rest.new.one (closed_alike _ _ h.owners_alike none) owners)
          n (c.self.invariant.used p n e);
      open_too = ap (λ t. is_some t.staged) trace ∙ sym (ap (λ l. is_some l.staged) c.in_ok-begin_four.ensures.one);
      metas_traced = traced_begun _ _ _ _ c.in_ok-begin_four.ensures.one layers c.self.invariant.metas_traced;
      contents_traced = traced_begun _ _ _ _ c.in_ok-begin_four.ensures.other layers c.self.invariant.contents_traced;
      acls_traced = traced_begun _ _ _ _ c.in_ok-begin_four.ensures.third layers c.self.invariant.acls_traced;
      children_traced = traced_begun _ _ _ _ c.in_ok-begin_four.ensures.fourth layers c.self.invariant.children_traced;
      owners_traced = traced_begun _ _ _ _ owners layers c.self.invariant.owners_traced;
    }
