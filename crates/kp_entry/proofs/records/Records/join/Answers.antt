use Rattle.std.proofs.Common.{ap, sym, ◌∙◌, ◌≤◌, ◌++◌, take, drop, append-nil, arith, List, length}
use Rattle.kp_entry.specs.declared.record.Record.{Record}
use Rattle.kp_entry.proofs.Runs.{was_ok, was_err, taken_next, whole_taken, more_added, open_behind, part_open, is_undone}
use Rattle.kp_entry.proofs.records.Records.join.Goals as goal

pub loop-index-init : goal.loop-index-init
loop-index-init c = record { so_far = sym (append-nil c.args.self.now); unended = c.requires.here }

pub copy_at-requires-clause-none : goal.copy_at-requires-clause-none
copy_at-requires-clause-none c = c.loop-index.invariant.unended

pub returns-then-is_err-clause-err : goal.returns-then-is_err-clause-err
returns-then-is_err-clause-err c =
    c.keep.ensures ∙ is_undone c.args.self.now (take c.loop-index.index c.args.more.now) c.loop-index.self c.copy_at.new.self c.len-len.result c.len-len.ensures c.loop-index.invariant.so_far (was_err c.copy_at.result (sym c.is_err.ensures.value ∙ c.if-is_err.true) c.copy_at.ensures.err)

pub loop-index-preserved : goal.loop-index-preserved
loop-index-preserved c =
    let added = was_ok c.copy_at.result (sym c.is_err.ensures.value ∙ c.if-is_err.false) c.copy_at.ensures.ok in
    record {
      so_far = more_added c.args.self.now (take c.loop-index.index c.args.more.now) (take 1 (drop c.loop-index.index c.args.more.now)) _ c.loop-index.self c.copy_at.new.self c.loop-index.invariant.so_far added (taken_next c.loop-index.index c.args.more.now);
      unended = open_behind c.loop-index.self (take 1 (drop c.loop-index.index c.args.more.now)) c.copy_at.new.self c.loop-index.invariant.unended (part_open c.loop-index.index c.args.more.now c.requires.there) added;
    }

pub returns-clause-ok : goal.returns-clause-ok
returns-clause-ok c =
    let all : length c.args.more.now ≤ c.loop-index.index = omega (arith, c.loop-index-test.false, c.len-count.ensures) in
    c.loop-index.invariant.so_far ∙ ap (λ (rs : List Record). c.args.self.now ++ rs) (whole_taken c.loop-index.index c.args.more.now all)
