use Rattle.std.proofs.Common.{◌≡◌, ◌++◌, ◌-◌, true, length, take, map}
use Rattle.std.specs.List.{list_all}
use Rattle.std.specs.Vec.Iter.{into_iter_items, into_iter_len}
use Rattle.kp_model.specs.Grammar.{is_body}
use Rattle.kp_raft.specs.Rules.{entry_with}
use Rattle.kp_raft.proofs.lead.entries_of.Given as goal

abbrev pub invariant-loop-body : goal.invariant-loop-body
invariant-loop-body l = record {
  so_far : l.entries ++ take (l.most - length l.entries) (map (entry_with l.term l.time) (into_iter_items l.body-iterator)) ≡ take l.most (map (entry_with l.term l.time) l.fn.bodies);
  left : into_iter_len l.body-iterator ≡ length (into_iter_items l.body-iterator);
  in_grammar : list_all is_body (into_iter_items l.body-iterator) ≡ true;
}
