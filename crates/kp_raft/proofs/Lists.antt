-- A list taken one element further.
use Rattle.std.proofs.Common.{◌≡◌, ℕ, suc, ◌+◌, ◌<◌, List, [], ◌∷◌, ◌++◌, length, take, get_or, sym, ◌∙◌, ap, arith, take-suc}

pub next_taken : {A : Type 0} (xs : List A) (i : ℕ) (x : A) → i < length xs → x ≡ get_or xs i x → take (i + 1) xs ≡ take i xs ++ x ∷ []
next_taken {A} xs i x lt is =
    let count : i + 1 ≡ suc i = omega arith in
    ap (λ (n : ℕ). take n xs) count ∙ take-suc xs i x lt ∙ ap (λ (y : A). take i xs ++ y ∷ []) (sym is)
