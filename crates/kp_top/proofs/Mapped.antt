-- A list, mapped item by item.
use Rattle.std.proofs.Common.{◌≡◌, ℕ, suc, ◌+◌, ◌<◌, ◌≤◌, List, [], ◌∷◌, ◌++◌, length, drop, get_or, map, sym, ap, ◌∙◌, append_assoc, append-nil, add-one, drop_of_length-le}
use Rattle.std.proofs.Math.Seq.{drop-cons}

-- one item further
pub mapped_more : {X Y : Type 0} (f : X → Y) (old new all : List Y) (xs : List X) (i : ℕ) (x : X)
    → i < length xs → x ≡ get_or xs i x → new ≡ old ++ f x ∷ [] → old ++ map f (drop i xs) ≡ all → new ++ map f (drop (i + 1) xs) ≡ all
mapped_more f old new all xs i x lt at e so_far =
    ap (λ l. l ++ map f (drop (i + 1) xs)) e ∙ append_assoc old (f x ∷ []) (map f (drop (i + 1) xs))
    ∙ ap (λ n. old ++ f x ∷ map f (drop n xs)) (add-one i) ∙ ap (λ y. old ++ f y ∷ map f (drop (suc i) xs)) at ∙ ap (λ l. old ++ map f l) (sym (drop-cons xs i x lt)) ∙ so_far

-- nothing is to come behind the last item
pub mapped_all : {X Y : Type 0} (f : X → Y) (out all : List Y) (xs : List X) (i : ℕ) → length xs ≤ i → out ++ map f (drop i xs) ≡ all → out ≡ all
mapped_all f out all xs i h so_far = sym (append-nil out) ∙ ap (λ r. out ++ r) (sym (ap (map f) (drop_of_length-le xs h))) ∙ so_far
