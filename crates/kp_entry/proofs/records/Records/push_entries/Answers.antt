use Rattle.std.proofs.Common.{ap, sym, ◌∙◌, ◌≡◌, ◌≤◌, ◌<◌, ◌++◌, take, drop, append-nil, arith, List, ℕ, length}
use Rattle.kp_entry.specs.declared.record.Record.{Record}
use Rattle.kp_entry.specs.Heads.{appended, part_of}
use Rattle.kp_entry.proofs.Runs.{was_ok, was_err, part_next, part_none, more_added, open_behind, appended_open, is_undone}
use Rattle.kp_entry.proofs.records.Records.push_entries.Goals as goal

pub loop-index-init : goal.loop-index-init
loop-index-init c = record {
  so_far = sym (append-nil c.args.self.now) ∙ ap (λ (rs : List Record). c.args.self.now ++ rs) (sym (part_none c.args.first c.args.from.now (omega (arith, c.requires.from, c.requires.to))));
  unended = c.requires.none;
  above = omega arith;
}

pub append_at-requires-clause-none : goal.append_at-requires-clause-none
append_at-requires-clause-none c = c.loop-index.invariant.unended

pub returns-then-is_err-clause-err : goal.returns-then-is_err-clause-err
returns-then-is_err-clause-err c =
    c.keep.ensures ∙ is_undone c.args.self.now (appended (part_of c.args.first c.loop-index.index c.args.from.now)) c.loop-index.self c.append_at.new.self c.len-len.result c.len-len.ensures c.loop-index.invariant.so_far (was_err c.append_at.result (sym c.is_err.ensures.value ∙ c.if-is_err.true) c.append_at.ensures.err)

pub loop-index-preserved : goal.loop-index-preserved
loop-index-preserved c =
    let added = was_ok c.append_at.result (sym c.is_err.ensures.value ∙ c.if-is_err.false) c.append_at.ensures.ok in
    let lt : c.loop-index.index < length c.args.from.now = omega (arith, c.loop-index-test.true, c.requires.to) in
    let above : c.args.first ≤ c.loop-index.index = c.loop-index.invariant.above in
    record {
      so_far = more_added c.args.self.now (appended (part_of c.args.first c.loop-index.index c.args.from.now)) (appended (take 1 (drop c.loop-index.index c.args.from.now))) _ c.loop-index.self c.append_at.new.self c.loop-index.invariant.so_far added (part_next c.args.first c.loop-index.index c.args.from.now above lt);
      unended = open_behind c.loop-index.self (appended (take 1 (drop c.loop-index.index c.args.from.now))) c.append_at.new.self c.loop-index.invariant.unended (appended_open (take 1 (drop c.loop-index.index c.args.from.now))) added;
      above = omega (arith, above);
    }

pub returns-clause-ok : goal.returns-clause-ok
returns-clause-ok c =
    let end : c.loop-index.index ≡ c.args.until = omega (arith, c.loop-index-test.false, c.loop-index.auto.index-end) in
    c.loop-index.invariant.so_far ∙ ap (λ (n : ℕ). c.args.self.now ++ appended (part_of c.args.first n c.args.from.now)) end
