use Rattle.std.proofs.Common.{ap, sym, subst, ◌∙◌, length, map, List, ℕ}
use Rattle.kp_entry.specs.Log.{behind}
use Rattle.kp_entry.specs.Spellings.{AreEntries, entry_of}
use Rattle.kp_entry.proofs.Cuts.{is_of, holds}
use Rattle.kp_raftlog.proofs.Adjacent.{copied, copied_entries, read_copied}
use Rattle.kp_raftlog.proofs.log.RaftLog.batch.Goals as goal

pub joined-requires-clause-ended : goal.joined-requires-clause-ended
joined-requires-clause-ended c =
    let ends = c.batch_ends.new.ends.items in
    let es = behind c.args.self.now c.args.after in
    holds c.in_ok-bytes.bytes.items ends _ (copied c.in_ok-bytes.bytes.items ends es _ (ap (λ (x : List ℕ). length x) c.as_slice-count.ensures.value) (c.in_ok-bytes.ensures.items ∙ c.bytes_behind.ensures.bytes) c.in_ok-batch_ends.ensures)

pub joined-requires-clause-spelled : goal.joined-requires-clause-spelled
joined-requires-clause-spelled c =
    let ends = c.batch_ends.new.ends.items in
    let es = behind c.args.self.now c.args.after in
    let all = copied c.in_ok-bytes.bytes.items ends es _ (ap (λ (x : List ℕ). length x) c.as_slice-count.ensures.value) (c.in_ok-bytes.ensures.items ∙ c.bytes_behind.ensures.bytes) c.in_ok-batch_ends.ensures in
    subst AreEntries (sym (is_of c.in_ok-bytes.bytes.items ends _ all)) (copied_entries ends es _ (ap (λ (x : List ℕ). length x) c.as_slice-count.ensures.value) c.bytes_behind.ensures.fits c.in_ok-batch_ends.ensures)

pub returns : goal.returns
returns c =
    let ends = c.batch_ends.new.ends.items in
    let es = behind c.args.self.now c.args.after in
    let all = copied c.in_ok-bytes.bytes.items ends es _ (ap (λ (x : List ℕ). length x) c.as_slice-count.ensures.value) (c.in_ok-bytes.ensures.items ∙ c.bytes_behind.ensures.bytes) c.in_ok-batch_ends.ensures in
    c.joined.ensures
    ∙ ap (map entry_of) (is_of c.in_ok-bytes.bytes.items ends _ all)
    ∙ read_copied ends es _ (ap (λ (x : List ℕ). length x) c.as_slice-count.ensures.value) c.bytes_behind.ensures.fits c.in_ok-batch_ends.ensures
