use Rattle.std.proofs.Common.{ap, sym, ◌∙◌, Some, List, ℕ, slice_get, [], ◌-◌}
use Rattle.kp_entry.specs.declared.record.Record.{Record}
use Rattle.kp_entry.specs.Records.{records}
use Rattle.kp_entry.specs.Spellings.{listed}
use Rattle.kp_entry.proofs.Spelled.{one_of}
use Rattle.kp_entry.proofs.Runs.{list_at, list_past}
use Rattle.kp_entry.proofs.records.Records.get.Goals as goal

pub spelled_record-requires : goal.spelled_record-requires
spelled_record-requires c = one_of records c.args.index c.self.inside.pieces.strings c.in-Some.bytes.now c.self.invariant.spelled (sym c.in-Some.ensures)

pub returns-in_ok-spelled_record-in-Some : goal.returns-in_ok-spelled_record-in-Some
returns-in_ok-spelled_record-in-Some c = ap Some c.in_ok-spelled_record-in-Some.ensures ∙ sym (list_at c.self.inside.pieces.strings c.self.inside.base c.args.index c.in-Some.bytes.now c.in-Some.ensures) ∙ ap (λ (rs : List Record). slice_get rs c.args.index) c.self.view_is

pub returns-in-None : goal.returns-in-None
returns-in-None c =
    c.base_at.ensures
    ∙ ap (λ (n : ℕ). slice_get (listed [] c.self.inside.base) n) (c.saturating_sub.ensures ∙ ap (λ (n : ℕ). c.args.index - n) c.len.ensures.count)
    ∙ list_past c.self.inside.pieces.strings c.self.inside.base c.args.index c.in-None.ensures
    ∙ ap (λ (rs : List Record). slice_get rs c.args.index) c.self.view_is
