-- A list, printed item by item.
use Rattle.std.proofs.Common.{◌≡◌, ℕ, suc, ◌+◌, ◌<◌, ◌≤◌, List, [], ◌∷◌, ◌++◌, length, drop, get_or, sym, ap, ◌∙◌, append_assoc, append-nil, add-one, drop_of_length-le}
use Rattle.std.proofs.Math.Seq.{drop-cons}

-- the text of a list is that of its first item, and then that of the others
abbrev pub IsByItem : {X : Type 0} → (X → List ℕ) → (List X → List ℕ) → Type 0
IsByItem {X} one text = (text [] ≡ []) × ((x : X) (xs : List X) → text (x ∷ xs) ≡ one x ++ text xs)

next_item : {X : Type 0} (one : X → List ℕ) (text : List X → List ℕ) → IsByItem one text → (xs : List X) (i : ℕ) (d : X) → i < length xs → text (drop i xs) ≡ one (get_or xs i d) ++ text (drop (i + 1) xs)
next_item one text by xs i d lt =
    ap text (drop-cons xs i d lt) ∙ by.1 (get_or xs i d) (drop (suc i) xs) ∙ ap (λ n. one (get_or xs i d) ++ text (drop n xs)) (sym (add-one i))

-- what was printed and what is still to come, behind one item more
pub printed_next : {X : Type 0} (one : X → List ℕ) (text : List X → List ℕ) → IsByItem one text → (old new all : List ℕ) (xs : List X) (i : ℕ) (d : X)
    → i < length xs → new ≡ old ++ one (get_or xs i d) → old ++ text (drop i xs) ≡ all → new ++ text (drop (i + 1) xs) ≡ all
printed_next one text by old new all xs i d lt e so_far =
    let rest = text (drop (i + 1) xs) in
    ap (λ l. l ++ rest) e ∙ append_assoc old (one (get_or xs i d)) rest ∙ ap (λ l. old ++ l) (sym (next_item one text by xs i d lt)) ∙ so_far

-- the same where the item has a name
pub printed_more : {X : Type 0} (one : X → List ℕ) (text : List X → List ℕ) → IsByItem one text → (old new all : List ℕ) (xs : List X) (i : ℕ) (x : X)
    → i < length xs → x ≡ get_or xs i x → new ≡ old ++ one x → old ++ text (drop i xs) ≡ all → new ++ text (drop (i + 1) xs) ≡ all
printed_more one text by old new all xs i x lt at e so_far = printed_next one text by old new all xs i x lt (e ∙ ap (λ y. old ++ one y) at) so_far

-- nothing is to come behind the last item
pub printed_all : {X : Type 0} (one : X → List ℕ) (text : List X → List ℕ) → IsByItem one text → (out all : List ℕ) (xs : List X) (i : ℕ) → length xs ≤ i → out ++ text (drop i xs) ≡ all → out ≡ all
printed_all one text by out all xs i h so_far = sym (append-nil out) ∙ ap (λ r. out ++ r) (sym (ap text (drop_of_length-le xs h) ∙ by.0)) ∙ so_far
