use Rattle.std.proofs.Common.{List, ◌≡◌, ap, ◌∙◌, subst, sym, length, OnOk, ◌+◌, inl, arith}
use Rattle.kp_entry.specs.declared.record.Record.{Record}
use Rattle.kp_entry.specs.Records.{spelled}
use Rattle.kp_homes.specs.declared.fail.HomeFail.TheVariants as home_fail
use Rattle.kp_homes.specs.Opening.{with_records}
use Rattle.kp_kept.specs.Ahead.{all_records}
use Rattle.kp_kept.specs.Finding.{LeavesBatch, HasBatch}
use Rattle.kp_kept.proofs.Found.{finds_it}
use Rattle.kp_kept.proofs.Joining.{only_one}
use Rattle.kp_kept.proofs.Places.{batch_over, over_batch, some_wanted}
use Rattle.kp_kept.proofs.batches.put.Goals as goal

pub returns-in-empty-clause-crash : goal.returns-in-empty-clause-crash
returns-in-empty-clause-crash g c = λ f k room fits. finds_it g.H.Disk.held g.H.Disk.past c.args.home.now.disks c.args.home.now.second c.args.home.now.journal f k (with_records (all_records c.args.waiting.now) f)

pub returns-in-len1-clause-crash : goal.returns-in-len1-clause-crash
returns-in-len1-clause-crash g c =
    let len : length c.args.waiting.now ≡ 1 = omega (arith, c.in-len1.len_at_least, c.in-len1.len_below) in
    subst (λ (rs : List Record). LeavesBatch g.H.Disk.held g.H.Disk.past c.args.home.now c.put_one.new.home rs) (only_one c.args.waiting.now c.records-item.result len c.records-item.is) c.put_one.ensures.crash

pub returns-in-len1-clause-keeps : goal.returns-in-len1-clause-keeps
returns-in-len1-clause-keeps g c =
    let len : length c.args.waiting.now ≡ 1 = omega (arith, c.in-len1.len_at_least, c.in-len1.len_below) in
    subst (λ (rs : List Record). OnOk c.put_one.result (HasBatch g.H.Disk.held g.H.Disk.past c.args.home.now c.put_one.new.home rs)) (only_one c.args.waiting.now c.records-item.result len c.records-item.is) c.put_one.ensures.keeps

pub returns-in-len1-clause-full : goal.returns-in-len1-clause-full
returns-in-len1-clause-full g c = λ slot len e.
    let one : length c.args.waiting.now ≡ 1 = omega (arith, c.in-len1.len_at_least, c.in-len1.len_below) in
    let f = (c.put_one.ensures.full slot len).0 e in
    over_batch c.args.home.now.second c.args.home.now.journal.gate (all_records c.args.waiting.now) slot len (some_wanted c.args.waiting.now c.requires.wanted c.in-len1.len_at_least)
    (f.0, f.1 ∙ ap (λ (rs : List Record). c.args.home.now.journal.gate + 6 + length (spelled rs)) (only_one c.args.waiting.now c.records-item.result one c.records-item.is), f.2)

pub returns-in-len1-clause-over : goal.returns-in-len1-clause-over
returns-in-len1-clause-over g c = λ slot len o.
    let one : length c.args.waiting.now ≡ 1 = omega (arith, c.in-len1.len_at_least, c.in-len1.len_below) in
    let b = batch_over c.args.home.now.second c.args.home.now.journal.gate (all_records c.args.waiting.now) slot len o in
    inl ((c.put_one.ensures.full slot len).1 (b.0, b.1 ∙ sym (ap (λ (rs : List Record). c.args.home.now.journal.gate + 6 + length (spelled rs)) (only_one c.args.waiting.now c.records-item.result one c.records-item.is)), b.2))

pub returns-in-len1-clause-memory : goal.returns-in-len1-clause-memory
returns-in-len1-clause-memory g c = λ e. absurd (c.put_one.ensures.only home_fail.NoMemory e)

pub returns-in_default-clause-full : goal.returns-in_default-clause-full
returns-in_default-clause-full g c = λ slot len e.
    over_batch c.args.home.now.second c.args.home.now.journal.gate (all_records c.args.waiting.now) slot len (some_wanted c.args.waiting.now c.requires.wanted (omega (arith, c.in_default.len_at_least)))
    (c.put_joined.ensures.full slot len e)
