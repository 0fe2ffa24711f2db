use Rattle.std.proofs.Common.{sym, ap, ◌∙◌, ◌≡◌, true, List, ◌∷◌, length}
use Rattle.std.specs.List.{list_all}
use Rattle.std.specs.Vec.Iter.{into_iter_items}
use Rattle.kp_model.specs.declared.entry.Body.{Body}
use Rattle.kp_model.specs.Grammar.{is_body}
use Rattle.kp_raft.specs.Rules.{entry_with}
use Rattle.kp_raft.proofs.Proposed.{one_more, none_more, rest_in, head_in, more_left}
use Rattle.kp_raft.proofs.lead.entries_of.Goals as goal

pub push_body-requires-clause-body : goal.push_body-requires-clause-body
push_body-requires-clause-body c = head_in is_body c.in-Some.body _ (into_iter_items c.next.new.self) c.in-Some.ensures.steps.0 c.loop-body.invariant.in_grammar

pub loop-body-preserved : goal.loop-body-preserved
loop-body-preserved c = record {
  so_far = one_more (entry_with c.args.term c.args.time) c.args.most c.loop-body.entries c.push_body.new.entries c.in-Some.body _ (into_iter_items c.next.new.self) c.in-Some.ensures.steps.0 c.in_ok-push_body.ensures ∙ c.loop-body.invariant.so_far;
  left = more_left c.loop-body.invariant.left c.in-Some.ensures.steps.0 c.in-Some.ensures.steps.1;
  in_grammar = rest_in is_body c.in-Some.body _ (into_iter_items c.next.new.self) c.in-Some.ensures.steps.0 c.loop-body.invariant.in_grammar;
}

pub returns : goal.returns
returns c = none_more (entry_with c.args.term c.args.time) c.args.most c.loop-body.entries _ (into_iter_items c.loop-body.body-iterator) (sym c.loop-body.invariant.left ∙ c.in-None.ensures.steps.0) c.loop-body.invariant.so_far
