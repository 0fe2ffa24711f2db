-- A running number has no slash, so the parent of a node that is made with one is that of the path before it.
use Rattle.std.proofs.Common.{◌≡◌, ℕ, zero, suc, ◌+◌, ◌-◌, ◌<◌, ◌^◌, Bool, true, false, List, [], ◌∷◌, ◌++◌, length, map, replicate, decimal, Option, Some, None, refl, ap, sym, ◌∙◌, arith}
use Rattle.std.specs.Prelude.{◌==◌, if◌then◌else◌, IfSome}
use Rattle.std.proofs.lemmas.Bool.Decides.{Decides-eqb}
use Rattle.std.proofs.lemmas.Fmt.{decimal-digits_of, decimal_digit}
use Rattle.std.proofs.lemmas.List.{take-append-le}
use Rattle.std.specs.Int.Digits.{digits_of}
use Rattle.kp_model.specs.Path.{root, parent, last_slash, before_slash}
use Rattle.kp_model.specs.Sequenced.{ten_digits, sequenced}
use Rattle.kp_path.specs.Slash.{IsSlashAt}
use Rattle.kp_path.proofs.Slashes.{further, is_at_slash}

-- what has no slash leaves the last one where it is
behind : (xs ys : List ℕ) → last_slash ys ≡ None → last_slash (xs ++ ys) ≡ last_slash xs
unfolding last_slash
behind [] ys none = none
behind (x ∷ xs) ys none = ap (further x) (behind xs ys none)

zeros : (k : ℕ) → last_slash (replicate k 48) ≡ None
unfolding last_slash
zeros zero = refl
zeros (suc k) = ap (further 48) (zeros k)

abbrev further_of : Bool → Option ℕ
further_of b = if b then Some 0 else None

is_none : (b : Bool) → b ≡ false → further_of b ≡ None
is_none true e = ap further_of e
is_none false e = refl

apart : (d : ℕ) → 48 + d ≡ 47 → ⊥
apart d same = omega (arith, same)

no_slash : (d : ℕ) → (48 + d == 47) ≡ false
no_slash d = cases (48 + d == 47) refl where
  cases : (b : Bool) → (48 + d == 47) ≡ b → b ≡ false
  cases false e = refl
  cases true e = absurd (apart d ((Decides-eqb (48 + d) 47).0 e))

digits : (ds : List ℕ) → last_slash (map (λ d. 48 + d) ds) ≡ None
unfolding last_slash
digits [] = refl
digits (d ∷ ds) = ap (further (48 + d)) (digits ds) ∙ is_none (48 + d == 47) (no_slash d)

number : (n : ℕ) → n < 2 ^ 32 → last_slash (decimal n) ≡ None
unfolding last_slash
number zero small = ap last_slash (decimal_digit 0 (omega arith))
number (suc n) small = ap last_slash (decimal-digits_of (suc n) (omega arith) (omega (arith, small))) ∙ digits (digits_of 10 (suc n))

ten : (n : ℕ) → n < 2 ^ 32 → last_slash (ten_digits n) ≡ None
ten n small = behind (replicate (10 - length (decimal n)) 48) (decimal n) (number n small) ∙ zeros (10 - length (decimal n))

cut : (xs ys : List ℕ) (o : Option ℕ) → IfSome o (IsSlashAt xs) → before_slash (xs ++ ys) o ≡ before_slash xs o
cut xs ys None h = refl
cut xs ys (Some i) h = ap (λ p. if i == 0 then root else p) (take-append-le i xs ys (omega (arith, h.0)))

-- the parent is the same for each number
pub same_parent : (path : List ℕ) (n : ℕ) → n < 2 ^ 32 → before_slash path (last_slash path) ≡ parent (sequenced path n)
unfolding parent sequenced
same_parent path n small = sym (
    ap (before_slash (path ++ ten_digits n)) (behind path (ten_digits n) (ten n small))
    ∙ cut path (ten_digits n) (last_slash path) (is_at_slash path))
