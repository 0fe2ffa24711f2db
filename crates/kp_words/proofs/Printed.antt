-- A list, printed item by item.
use Rattle.std.proofs.Common.{◌≡◌, ℕ, ◌+◌, ◌<◌, ◌≤◌, List, ◌++◌, length, drop, get_or, sym, ap, ◌∙◌, append_assoc, append-nil, add-one, drop_of_length-le}
use Rattle.std.proofs.Math.Seq.{drop-cons}
use Rattle.std.specs.List.{flat_map}

next_item : {X : Type 0} (one : X → List ℕ) (xs : List X) (i : ℕ) (d : X) → i < length xs → flat_map one (drop i xs) ≡ one (get_or xs i d) ++ flat_map one (drop (i + 1) xs)
next_item one xs i d lt =
    ap (flat_map one) (drop-cons xs i d lt) ∙ ap (λ n. one (get_or xs i d) ++ flat_map one (drop n xs)) (sym (add-one i))

-- what was printed and what is still to come, behind one item more
pub printed_next : {X : Type 0} (one : X → List ℕ) → (old new all : List ℕ) (xs : List X) (i : ℕ) (d : X)
    → i < length xs → new ≡ old ++ one (get_or xs i d) → old ++ flat_map one (drop i xs) ≡ all → new ++ flat_map one (drop (i + 1) xs) ≡ all
printed_next one old new all xs i d lt e so_far =
    let rest = flat_map one (drop (i + 1) xs) in
    ap (λ l. l ++ rest) e ∙ append_assoc old (one (get_or xs i d)) rest ∙ ap (λ l. old ++ l) (sym (next_item one xs i d lt)) ∙ so_far

-- the same where the item has a name
pub printed_more : {X : Type 0} (one : X → List ℕ) → (old new all : List ℕ) (xs : List X) (i : ℕ) (x : X)
    → i < length xs → x ≡ get_or xs i x → new ≡ old ++ one x → old ++ flat_map one (drop i xs) ≡ all → new ++ flat_map one (drop (i + 1) xs) ≡ all
printed_more one old new all xs i x lt at e so_far = printed_next one old new all xs i x lt (e ∙ ap (λ y. old ++ one y) at) so_far

-- nothing is to come behind the last item
pub printed_all : {X : Type 0} (one : X → List ℕ) → (out all : List ℕ) (xs : List X) (i : ℕ) → length xs ≤ i → out ++ flat_map one (drop i xs) ≡ all → out ≡ all
printed_all one out all xs i h so_far = sym (append-nil out) ∙ ap (λ r. out ++ r) (sym (ap (flat_map one) (drop_of_length-le xs h))) ∙ so_far

-- a part, and behind it the rest
pub printed_onto : (old : List ℕ) {mid new : List ℕ} (x rest : List ℕ) → mid ≡ old ++ x → new ≡ mid ++ rest → new ≡ old ++ (x ++ rest)
printed_onto old x rest first behind = behind ∙ ap (λ l. l ++ rest) first ∙ append_assoc old x rest
