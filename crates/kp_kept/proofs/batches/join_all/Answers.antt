use Rattle.std.proofs.Common.{ap, ◌∙◌, sym, ◌++◌}
use Rattle.kp_entry.specs.Records.{has_base}
use Rattle.kp_kept.proofs.Joining.{next_joined, part_open, one_open}
use Rattle.kp_kept.proofs.batches.join_all.Goals as goal

pub join-requires-clause-here : goal.join-requires-clause-here
join-requires-clause-here c = ap has_base c.loop-records.invariant ∙ part_open c.args.waiting.now c.loop-records.records-index c.requires.plain

pub join-requires-clause-there : goal.join-requires-clause-there
join-requires-clause-there c = one_open c.args.waiting.now c.loop-records.records-index c.records-item.result c.loop-records-test.true c.records-item.is c.requires.plain

pub loop-records-preserved : goal.loop-records-preserved
loop-records-preserved c = c.in_ok-join.ensures.ok ∙ ap (λ rs. rs ++ c.records-item.result) c.loop-records.invariant ∙ sym (next_joined c.args.waiting.now c.loop-records.records-index c.records-item.result c.loop-records-test.true c.records-item.is)
