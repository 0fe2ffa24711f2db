use Rattle.std.proofs.Common.{ap, sym, ◌∙◌, ◌≤◌, ◌≡◌, ◌++◌, ◌∷◌, [], List, ℕ, append-nil, arith, length, slice_get}
use Rattle.kp_entry.specs.declared.record.Record.{Record}
use Rattle.kp_entry.specs.Records.{records, has_base}
use Rattle.kp_entry.specs.Spellings.{listed}
use Rattle.kp_entry.proofs.Spelled.{one_of, ok_then}
use Rattle.kp_entry.proofs.Runs.{list_at, list_none, no_base, one_taken, none_taken}
use Rattle.kp_entry.proofs.records.Records.copy_at.Goals as goal

pub add-requires-clause-spelled : goal.add-requires-clause-spelled
add-requires-clause-spelled c = one_of records c.args.index c.more.inside.pieces.strings c.in-Some.bytes.now c.more.invariant.spelled (sym c.in-Some.ensures)

pub returns-in-None-clause-ok : goal.returns-in-None-clause-ok
returns-in-None-clause-ok c =
    let gone = no_base c.more.inside.pieces.strings c.more.inside.base (ap has_base c.more.view_is ∙ c.requires.there) in
    let none = none_taken c.args.more.now c.args.index (ap (λ (rs : List Record). slice_get rs c.args.index) (sym c.more.view_is) ∙ list_none c.more.inside.pieces.strings c.more.inside.base c.args.index gone c.in-None.ensures) in
    sym (append-nil c.args.self.now) ∙ ap (λ (rs : List Record). c.args.self.now ++ rs) (sym none)

pub returns-in-Some-clause-ok : goal.returns-in-Some-clause-ok
returns-in-Some-clause-ok c =
    let one = one_taken c.args.more.now c.args.index _ (ap (λ (rs : List Record). slice_get rs c.args.index) (sym c.more.view_is) ∙ list_at c.more.inside.pieces.strings c.more.inside.base c.args.index c.in-Some.bytes.now c.in-Some.ensures) in
    ok_then c.add.result (λ e. e ∙ ap (λ (rs : List Record). c.args.self.now ++ rs) (sym one)) c.add.ensures.ok
