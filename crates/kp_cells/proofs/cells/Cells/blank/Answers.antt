use Rattle.std.proofs.Common.{ap, sym, ◌∙◌, is_some}
use Rattle.kp_cells.proofs.Together.{blank_is}
use Rattle.kp_cells.proofs.Kept.{none_used, traced_empty}
use Rattle.kp_cells.proofs.cells.Cells.blank.Goals as goal

pub invariant_of-result : goal.invariant_of-result
invariant_of-result c = record {
  held = (blank_is _ _ _ _ _ _ _ _ c.new-metas.ensures c.new-contents.ensures c.new-acls.ensures c.new-children.ensures c.new-owners.ensures c.new-sessions.ensures c.new-next.ensures c.new.ensures.naming).0;
  used = none_used _ _ c.new.ensures.value;
  open_too = ap (λ t. is_some t.staged) c.new-2.ensures ∙ sym (ap (λ l. is_some l.staged) c.new-metas.ensures);
  metas_traced = traced_empty _ _ c.new-2.ensures c.new-metas.ensures;
  contents_traced = traced_empty _ _ c.new-2.ensures c.new-contents.ensures;
  acls_traced = traced_empty _ _ c.new-2.ensures c.new-acls.ensures;
  children_traced = traced_empty _ _ c.new-2.ensures c.new-children.ensures;
  owners_traced = traced_empty _ _ c.new-2.ensures c.new-owners.ensures;
}

pub returns : goal.returns
returns c = (blank_is _ _ _ _ _ _ _ _ c.new-metas.ensures c.new-contents.ensures c.new-acls.ensures c.new-children.ensures c.new-owners.ensures c.new-sessions.ensures c.new-next.ensures c.new.ensures.naming).1
