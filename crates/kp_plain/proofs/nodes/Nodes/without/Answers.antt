use Rattle.std.proofs.Common.{◌∙◌}
use Rattle.kp_plain.proofs.Shows.{gone_ordered, gone_shown, gone_is}
use Rattle.kp_plain.proofs.nodes.Nodes.without.Goals as goal

pub show_both-requires-clause-nodes : goal.show_both-requires-clause-nodes
show_both-requires-clause-nodes c = gone_ordered c.self.inside.items.items _ c.in_ok-from_str.field-0 c.self.invariant.ordered (c.as_slice.ensures.value ∙ c.remove_from-2.ensures)

pub show_both-requires-clause-sorted : goal.show_both-requires-clause-sorted
show_both-requires-clause-sorted c = c.self.invariant.sorted

pub invariant_of-result : goal.invariant_of-result
invariant_of-result c = gone_shown c.self.inside.items.items _ c.as_slice.result.now c.self.inside.metas.items _ c.in_ok-from_str.field-0 c.args.path.now c.self.invariant c.in_ok-from_str.ensures c.remove_from-2.ensures c.as_slice.ensures.value c.in_ok-show_both.ensures

pub returns : goal.returns
returns c = gone_is c.self.inside.items.items c.remove_from-2.new.items.items c.args.self c.in_ok-from_str.field-0 c.args.path.now c.self.invariant.ordered.sorted c.self.view_is c.in_ok-from_str.ensures c.remove_from-2.ensures
