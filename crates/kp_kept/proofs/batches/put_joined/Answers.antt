use Rattle.std.proofs.Common.{List, ap, ◌∙◌, subst, length, OnOk, ◌+◌, inl, sym}
use Rattle.kp_entry.specs.declared.record.Record.{Record}
use Rattle.kp_entry.specs.Records.{spelled}
use Rattle.kp_homes.specs.Opening.{with_records}
use Rattle.kp_kept.specs.Ahead.{all_records}
use Rattle.kp_kept.specs.Finding.{LeavesBatch, HasBatch}
use Rattle.kp_kept.proofs.Found.{finds_it}
use Rattle.kp_kept.proofs.batches.put_joined.Goals as goal

pub returns-in_err-all-clause-crash : goal.returns-in_err-all-clause-crash
returns-in_err-all-clause-crash g c = λ f k room fits. finds_it g.H.Disk.held g.H.Disk.past c.args.home.now.disks c.args.home.now.second c.args.home.now.journal f k (with_records (all_records c.args.waiting.now) f)

pub returns-clause-crash : goal.returns-clause-crash
returns-clause-crash g c = subst (λ (rs : List Record). LeavesBatch g.H.Disk.held g.H.Disk.past c.args.home.now c.put_one-kept.new.home rs) c.in_ok-all.ensures c.put_one-kept.ensures.crash

pub returns-clause-keeps : goal.returns-clause-keeps
returns-clause-keeps g c = subst (λ (rs : List Record). OnOk c.put_one-kept.result (HasBatch g.H.Disk.held g.H.Disk.past c.args.home.now c.put_one-kept.new.home rs)) c.in_ok-all.ensures c.put_one-kept.ensures.keeps

pub returns-clause-full : goal.returns-clause-full
returns-clause-full g c = λ slot len e. let f = (c.put_one-kept.ensures.full slot len).0 e in (f.0, f.1 ∙ ap (λ (rs : List Record). c.args.home.now.journal.gate + 6 + length (spelled rs)) c.in_ok-all.ensures, f.2)

pub returns-clause-over : goal.returns-clause-over
returns-clause-over g c = λ slot len b. inl ((c.put_one-kept.ensures.full slot len).1 (b.0, b.1 ∙ sym (ap (λ (rs : List Record). c.args.home.now.journal.gate + 6 + length (spelled rs)) c.in_ok-all.ensures), b.2))
