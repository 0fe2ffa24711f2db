use Rattle.kp_audit.proofs.Telling.{store_last, store_counted}
use Rattle.kp_audit.proofs.printing.counted.Goals as goal

pub returns-in-Ok-clause-last : goal.returns-in-Ok-clause-last
returns-in-Ok-clause-last c = store_last c.in_ok-store.store c.last-last.result c.args.slot.now.kept.image c.args.slot.now.kept.rest.items c.as_slice.result.now c.in_ok-store.ensures.value c.as_slice.ensures.value c.last-last.ensures.index

pub returns-in-Ok-clause-counts : goal.returns-in-Ok-clause-counts
returns-in-Ok-clause-counts c = store_counted c.in_ok-store.store c.in-Ok.counts c.args.slot.now.kept.image c.args.slot.now.kept.rest.items c.as_slice.result.now c.in_ok-store.ensures.value c.as_slice.ensures.value c.in-Ok.ensures
