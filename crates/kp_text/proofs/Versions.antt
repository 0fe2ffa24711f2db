-- A version has one spelling.
use Rattle.std.proofs.Common.{◌≡◌, ◌≤◌, ℕ, Bool, true, false, cond, ◌||◌, ◌==◌, List, Some, arith, refl, ap, subst, ◌∙◌, sym, eqb-true}
use Rattle.std.specs.Prelude.{nat_le}
use Rattle.std.specs.List.{list_all}
use Rattle.std.specs.Str.{bytes_eq}
use Rattle.std.specs.Fmt.{decimal}
use Rattle.std.specs.Char.{is_ascii_digit}
use Rattle.std.proofs.lemmas.Fmt.{digits_decimal}
use Rattle.std.proofs.lemmas.Bool.Decides.{nat_tests}
use Rattle.std.proofs.lemmas.Slice.Eq.{bytes_eq-Decides}
use Rattle.kp_model.specs.Limits.{last_count}
use Rattle.kp_text.specs.Words.{number_of, version_of, any_version}
use Rattle.kp_text.specs.Spelling.{is_asked, spelled_version}
use Rattle.kp_text.proofs.Numerals.{own}
use Rattle.kp_text.proofs.Spelled.{number_is_spelled, spelled_is_read}
use Rattle.kp_text.specs.Spelling.{is_part}
use Rattle.kp_text.proofs.Visible.{visible_part, decimal_part}
use lib.Chars.{codes}

-- a version within its limit is spelled as a number
within_spelled : (v : ℕ) → v ≤ last_count → spelled_version v ≡ decimal v
within_spelled v le = let other : (v == any_version) ≡ false = grind (arith, nat_tests, le) in ap (λ b. cond b (codes "-1") (decimal v)) other

within_asked : (v : ℕ) → v ≤ last_count → is_asked v ≡ true
within_asked v le = let small : nat_le v last_count ≡ true = grind (arith, nat_tests, le) in ap (λ b. b || v == any_version) small

asked_any : is_asked any_version ≡ true
asked_any = refl

version_case : (w : List ℕ) (v : ℕ) (b : Bool) → bytes_eq w (codes "-1") ≡ b → cond b (Some any_version) (number_of last_count w) ≡ Some v → (w ≡ spelled_version v) × (is_asked v ≡ true)
version_case w v true t e =
    let any : any_version ≡ v = cc in
    (subst (λ k. w ≡ spelled_version k) any ((bytes_eq-Decides w (codes "-1")).0 t), subst (λ k. is_asked k ≡ true) any asked_any)
version_case w v false t e =
    let n = number_is_spelled last_count v w (omega arith) e in
    (n.0 ∙ sym (within_spelled v n.1), within_asked v n.1)

pub version_is_spelled : (w : List ℕ) (v : ℕ) → version_of w ≡ Some v → (w ≡ spelled_version v) × (is_asked v ≡ true)
unfolding version_of
version_is_spelled w v e = version_case w v (bytes_eq w (codes "-1")) refl e

-- no number is spelled with a sign
unsigned : (n : ℕ) (b : Bool) → n ≤ last_count → bytes_eq (decimal n) (codes "-1") ≡ b → b ≡ false
unsigned n true le t =
    let same = (bytes_eq-Decides (decimal n) (codes "-1")).0 t in
    let digits : list_all is_ascii_digit (codes "-1") ≡ true = subst (λ w. list_all is_ascii_digit w ≡ true) same (digits_decimal own n (omega (arith, le))) in
    absurd (cc)
unsigned n false le t = refl

number_version : (n : ℕ) → n ≤ last_count → version_of (decimal n) ≡ Some n
unfolding version_of
number_version n le =
    ap (λ b. cond b (Some any_version) (number_of last_count (decimal n))) (unsigned n (bytes_eq (decimal n) (codes "-1")) le refl)
    ∙ spelled_is_read last_count n le (omega arith)

any_is_read : version_of (codes "-1") ≡ Some any_version
unfolding version_of
any_is_read = refl

pub within : (v : ℕ) → is_asked v ≡ true → (v == any_version) ≡ false → v ≤ last_count
within v h other = grind (arith, nat_tests, h, other)

read_case : (v : ℕ) (b : Bool) → is_asked v ≡ true → (v == any_version) ≡ b → version_of (cond b (codes "-1") (decimal v)) ≡ Some v
read_case v true h t = any_is_read ∙ ap Some (sym (eqb-true v any_version t))
read_case v false h t = number_version v (within v h t)

pub version_is_read : (v : ℕ) → is_asked v ≡ true → version_of (spelled_version v) ≡ Some v
version_is_read v h = read_case v (v == any_version) h refl

part_case : (v : ℕ) (b : Bool) → is_asked v ≡ true → (v == any_version) ≡ b → is_part (cond b (codes "-1") (decimal v)) ≡ true
part_case v true h t = visible_part (codes "-1") refl
part_case v false h t = let small = within v h t in decimal_part v (omega (arith, small))

pub version_word : (v : ℕ) → is_asked v ≡ true → is_part (spelled_version v) ≡ true
version_word v h = part_case v (v == any_version) h refl
