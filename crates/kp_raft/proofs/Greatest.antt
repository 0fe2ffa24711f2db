-- The greatest index that passes, found from above.
use Rattle.std.proofs.Common.{◌≡◌, ℕ, zero, suc, ◌+◌, ◌-◌, ◌<◌, ◌≤◌, true, false, List, length, take, refl, sym, ◌∙◌, ap, arith, Option, Some, None}
use Rattle.std.specs.Prelude.{Bool, cond, nat_lt, nat_le, ◌&&◌}
use Rattle.std.proofs.lemmas.Bool.Decides.{nat_tests}
use Rattle.kp_model.specs.LogEntry.{LogEntry}
use Rattle.kp_entry.specs.Log.{Log, last_from, last_index, has_index, term_of, term_at}
use Rattle.kp_raftlog.proofs.Totals.{all_taken}
use Rattle.kp_raft.specs.Numbers.{greatest}

-- none above old
pub greatest_none : (i : ℕ) (f : ℕ → Bool) (old : ℕ) → i ≤ old → greatest i f old ≡ old
greatest_none zero f old le = refl
greatest_none (suc i) f old le = let low : nat_lt old (suc i) ≡ false = grind (arith, nat_tests) in rw low (greatest_none i f old (omega (arith, le)))

greatest_by : (i : ℕ) (f : ℕ → Bool) (old : ℕ) (b : Bool) → old < suc i → f (suc i) ≡ b → greatest (suc i) f old ≡ cond b (suc i) (greatest i f old)
greatest_by i f old b lt is = let high : nat_lt old (suc i) ≡ true = grind (arith, nat_tests) in rw (high, is) refl

-- an index above old that passes is it
pub greatest_is : (whole last passed : ℕ) (f : ℕ → Bool) (old : ℕ) → passed < last - old → whole ≡ greatest (last - passed) f old → f (last - passed) ≡ true → last - passed ≡ whole
greatest_is whole last passed f old lt so_far is =
    let count : last - passed ≡ suc (last - passed - 1) = omega (arith, lt) in
    let test : f (suc (last - passed - 1)) ≡ true = ap f (sym count) ∙ is in
    let found : greatest (suc (last - passed - 1)) f old ≡ suc (last - passed - 1) = greatest_by (last - passed - 1) f old true (omega (arith, lt)) test in
    count ∙ sym found ∙ ap (λ (n : ℕ). greatest n f old) (sym count) ∙ sym so_far

-- and one that doesn't is passed over
pub greatest_on : (whole last passed : ℕ) (f : ℕ → Bool) (old : ℕ) → passed < last - old → whole ≡ greatest (last - passed) f old → f (last - passed) ≡ false → whole ≡ greatest (last - (passed + 1)) f old
greatest_on whole last passed f old lt so_far is =
    let count : last - passed ≡ suc (last - passed - 1) = omega (arith, lt) in
    let less : last - passed - 1 ≡ last - (passed + 1) = omega arith in
    let test : f (suc (last - passed - 1)) ≡ false = ap f (sym count) ∙ is in
    so_far ∙ ap (λ (n : ℕ). greatest n f old) count ∙ greatest_by (last - passed - 1) f old false (omega (arith, lt)) test ∙ ap (λ (n : ℕ). greatest n f old) less

pub greatest_ends : (whole last passed : ℕ) (f : ℕ → Bool) (old : ℕ) → last - old ≤ passed → whole ≡ greatest (last - passed) f old → old ≡ whole
greatest_ends whole last passed f old le so_far = sym (so_far ∙ greatest_none (last - passed) f old (omega (arith, le)))

-- ---- terms

pub term_known : (l : Log) (index term : ℕ) → l.base ≤ index → index ≤ last_index l → Some term ≡ term_at l index → term ≡ term_of l index
term_known l index term from to is =
    let one : nat_le l.base index ≡ true = grind (arith, nat_tests) in
    let two : nat_le index (l.base + length l.entries) ≡ true = grind (arith, nat_tests) in
    let both : has_index l index ≡ true = rw (one, two) refl in
    let there : term_at l index ≡ Some (term_of l index) = ap (λ (b : Bool). cond b (Some (term_of l index)) None) both in
    let same : Some term ≡ Some (term_of l index) = is ∙ there in
    cc same

pub term_low : (l : Log) (index : ℕ) → index ≤ l.base → l.base_term ≡ term_of l index
term_low l index le = let none : index - l.base ≡ 0 = omega (arith, le) in ap (λ (n : ℕ). last_from l.base_term (take n l.entries)) (sym none)

clamped : (l : Log) (index at : ℕ) → at ≡ index → term_of l at ≡ term_of l index
clamped l index at is = ap (λ (n : ℕ). term_of l n) is

above : (l : Log) (index at : ℕ) → last_index l ≤ index → at ≡ last_index l → term_of l at ≡ term_of l index
above l index at le is =
    let one : take (at - l.base) l.entries ≡ l.entries = all_taken (at - l.base) l.entries (omega (arith, is)) in
    let two : take (index - l.base) l.entries ≡ l.entries = all_taken (index - l.base) l.entries (omega (arith, le)) in
    ap (λ (es : List LogEntry). last_from l.base_term es) (one ∙ sym two)

term_split : (l : Log) (index at term : ℕ) (b : Bool) → nat_lt index (last_index l) ≡ b → (index < last_index l → at ≡ index) → (last_index l ≤ index → at ≡ last_index l) → term ≡ term_of l at → term ≡ term_of l index
term_split l index at term true test low high e = let lt : index < last_index l = grind (arith, nat_tests) in e ∙ clamped l index at (low lt)
term_split l index at term false test low high e = let le : last_index l ≤ index = grind (arith, nat_tests) in e ∙ above l index at le (high le)

pub term_high : (l : Log) (index at term : ℕ) → l.base < index → at ≤ last_index l → l.base ≤ at → (index < last_index l → at ≡ index) → (last_index l ≤ index → at ≡ last_index l) → Some term ≡ term_at l at → term ≡ term_of l index
term_high l index at term lt to from low high is = term_split l index at term (nat_lt index (last_index l)) refl low high (term_known l at term from to is)
