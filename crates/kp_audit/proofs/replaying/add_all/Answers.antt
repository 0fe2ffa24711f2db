use Rattle.std.proofs.Common.{refl}
use Rattle.std.proofs.lemmas.Option.{slice_get_read}
use Rattle.kp_audit.proofs.Adding.{none_added, one_added, room_left, all_added}
use Rattle.kp_audit.proofs.replaying.add_all.Goals as goal

pub loop-entry-init : goal.loop-entry-init
loop-entry-init c = none_added c.args.store.now c.args.entries.now

pub preprocess-requires : goal.preprocess-requires
preprocess-requires c = record { room = room_left c.args.store.now c.loop-entry.store c.args.entries.now c.loop-entry.entry-index c.loop-entry.invariant c.loop-entry-test.true c.requires.room }

pub loop-entry-preserved : goal.loop-entry-preserved
loop-entry-preserved c =
    let i = c.loop-entry.entry-index in
    one_added c.args.store.now c.loop-entry.store c.preprocess.new.self c.args.entries.now i c.entry-item.result (slice_get_read c.args.entries.now _ i c.entry-item.result refl c.loop-entry-test.true c.entry-item.is) c.loop-entry.invariant c.in_ok-preprocess.ensures.ok

pub returns : goal.returns
returns c = all_added c.args.store.now c.loop-entry.store c.args.entries.now c.loop-entry.entry-index c.loop-entry-test.false c.loop-entry.invariant
