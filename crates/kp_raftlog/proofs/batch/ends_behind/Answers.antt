use Rattle.std.proofs.Common.{◌+◌, ◌-◌, ◌≡◌, ◌≤◌, ◌<◌, arith, ap, sym, subst, ◌∙◌, length, slice_get, Option, List, ℕ}
use Rattle.std.specs.Prelude.{option_map, IfSome}
use Rattle.kp_model.specs.LogEntry.{LogEntry}
use Rattle.kp_entry.specs.Entries.{entries}
use Rattle.kp_entry.specs.Log.{batch, behind}
use Rattle.kp_entry.proofs.Spelled.{none_there}
use Rattle.kp_raftlog.proofs.Adjacent.{next_end, next_ended, ends_are}
use Rattle.kp_raftlog.proofs.Parts.{some_is, batch_next, full_ends, past_ends, most_ends, found_within}
use Rattle.kp_raftlog.proofs.Logs.{behind_at}
use Rattle.kp_raftlog.proofs.batch.ends_behind.Goals as goal

pub returns-then-end-ge-ENOUGH_BYTES : goal.returns-then-end-ge-ENOUGH_BYTES
returns-then-end-ge-ENOUGH_BYTES c =
    let l = c.loop-count in
    let es = behind c.args.log.now c.args.after in
    let full : 1048576 - l.end ≡ 0 = omega (arith, c.if-end-ge-ENOUGH_BYTES.true) in
    let few : l.count ≤ 64 = omega (arith, l.auto.count-end) in
    ends_are l.count l.ends.items es (full_ends (64 - l.count) l.count (1048576 - l.end) es (batch 64 1048576 es) full l.invariant.so_far) l.invariant.within few l.invariant.many l.invariant.ended

pub returns-in-None : goal.returns-in-None
returns-in-None c =
    let l = c.loop-count in
    let es = behind c.args.log.now c.args.after in
    let none = sym (behind_at c.args.log.now c.args.after l.count c.requires.from) ∙ none_there _ c.in-None.ensures.bytes in
    let few : l.count ≤ 64 = omega (arith, l.auto.count-end) in
    ends_are l.count l.ends.items es (past_ends (64 - l.count) l.count (1048576 - l.end) es (batch 64 1048576 es) none l.invariant.so_far) l.invariant.within few l.invariant.many l.invariant.ended

pub loop-count-preserved : goal.loop-count-preserved
loop-count-preserved c =
    let l = c.loop-count in
    let es = behind c.args.log.now c.args.after in
    let b = c.in-Some.entry.now in
    let at = behind_at c.args.log.now c.args.after l.count c.requires.from in
    let e = some_is b (slice_get es l.count) (c.in-Some.ensures.bytes ∙ ap (λ (o : Option LogEntry). option_map entries.spell o) at) (subst (λ (o : Option LogEntry). IfSome o entries.Fits) at c.in-Some.ensures.fits) in
    let some_room : 0 < 1048576 - l.end = omega (arith, c.if-end-ge-ENOUGH_BYTES.false) in
    let len : length b ≡ length (entries.spell e.0) = ap (λ (x : List ℕ). length x) e.2 in
    let less : 1048576 - (l.end + length b) ≡ 1048576 - l.end - length (entries.spell e.0) = omega (arith, len) in
    let goes : l.end + length b ≡ l.end + length (entries.spell e.0) = omega (arith, len) in
    let end = next_end l.count es e.0 l.end (l.end + length b) e.1 l.invariant.at goes in
    record {
      so_far = batch_next 64 l.count (1048576 - l.end) (1048576 - (l.end + length b)) es (batch 64 1048576 es) e.0 c.loop-count-test.true some_room e.1 less l.invariant.so_far;
      within = found_within es l.count e.0 e.1;
      many = omega (arith, c.in_ok-push-in-Some.ensures.len, l.invariant.many);
      at = end;
      ended = next_ended l.count es e.0 l.ends.items _ (l.end + length b) e.1 l.invariant.ended c.in_ok-push-in-Some.ensures.items end;
    }

pub returns : goal.returns
returns c =
    let l = c.loop-count in
    let es = behind c.args.log.now c.args.after in
    let end : l.count ≡ 64 = omega (arith, c.loop-count-test.false, l.auto.count-end) in
    let zero : 64 - l.count ≡ 0 = omega (arith, end) in
    let few : l.count ≤ 64 = omega (arith, end) in
    ends_are l.count l.ends.items es (most_ends (64 - l.count) l.count (1048576 - l.end) es (batch 64 1048576 es) zero l.invariant.so_far) l.invariant.within few l.invariant.many l.invariant.ended
