-- The numbers of records are in the ranges of the format.
use Rattle.std.proofs.Common.{◌≡◌, ℕ, zero, suc, ◌≤◌, ◌^◌, true, List, [], ◌∷◌, Option, sym, subst, arith}
use Rattle.std.specs.Prelude.{IfSome, slice_get}
use Rattle.std.proofs.lemmas.Bool.Decides.{nat_tests}
use Rattle.std.proofs.lemmas.Option.{same_Some}
use Rattle.kp_jute.specs.Form.{tagged}
use Rattle.kp_model.specs.Grammar.{is_number}
use Rattle.kp_entry.specs.declared.kinds.RecordKind.{RecordKind}
use Rattle.kp_entry.specs.declared.record.Record.{Record}
use Rattle.kp_entry.specs.declared.record.Record.TheVariants as record_
use Rattle.kp_entry.specs.Fields.{kinds}
use Rattle.kp_entry.specs.Records.{is_vote, record_number, record_kinds, RecordFields, record_fields, IsRecord, IsRun}

number_within : (n : ℕ) → is_number n ≡ true → n ≤ 2 ^ 62
number_within n is = grind (arith, nat_tests)

vote_within : (n : ℕ) → is_vote n ≡ true → n ≤ 7
vote_within n is = grind (arith, nat_tests)

-- its kind and its fields fit
abbrev FitsAs : (k : RecordKind) × RecordFields k → Type 0
FitsAs x = (tagged (kinds record_kinds record_number) record_fields).Fits x

pub vote_fits : (term vote : ℕ) → IsRecord (record_.Vote term vote) → (term ≤ 2 ^ 62) × (vote ≤ 7)
vote_fits term vote is =
    let fits = subst FitsAs (sym (same_Some _ _ is.1)) is.2 in
    (number_within term fits.1.0.1, vote_within vote fits.1.1.1)

pub boot_fits : (boot : ℕ) → IsRecord (record_.Boot boot) → boot ≤ 2 ^ 62
boot_fits boot is =
    let fits = subst FitsAs (sym (same_Some _ _ is.1)) is.2 in
    number_within boot fits.1.1

-- each record of a list is one
pub record_there : (k : ℕ) (rs : List Record) (o : Option Record) → IsRun rs → o ≡ slice_get rs k → IfSome o IsRecord
record_there k rs o run is = subst (λ (p : Option Record). IfSome p IsRecord) (sym is) (there k rs run)
  where
    there : (k : ℕ) (rs : List Record) → IsRun rs → IfSome (slice_get rs k) IsRecord
    there zero [] run = tt
    there zero (r ∷ rs) run = run.0
    there (suc k) [] run = tt
    there (suc k) (r ∷ rs) run = there k rs run.2
