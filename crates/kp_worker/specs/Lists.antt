-- Lists that are joined, and the part of one connection.
use Rattle.std.specs.Prelude.{◌≡◌, ℕ, Bool, true, false, ◌==◌, List, [], ◌∷◌, ◌++◌, Option, Some, None, ⊤}

-- what each gives, joined in order
abbrev pub joined : {A B : Type 0} → (A → List B) → List A → List B
joined f [] = []
joined f (x ∷ xs) = f x ++ joined f xs

abbrev pub where_true : {B : Type 0} → Bool → List B → List B
where_true true xs = xs
where_true false xs = []

-- what belongs to one connection, or came from one node
abbrev pub about : {B : Type 0} → ℕ → List (ℕ × B) → List B
about c ps = joined (λ p. where_true (p.0 == c) (p.1 ∷ [])) ps

-- the bytes for one connection, joined
abbrev pub bytes_to : ℕ → List (ℕ × List ℕ) → List ℕ
bytes_to c ps = joined (λ p. where_true (p.0 == c) p.1) ps

-- what is told grew by these; what doesn't tell says nothing
abbrev pub Grew : {B : Type 0} → Option (List B) → Option (List B) → List B → Type 0
Grew None new more = ⊤
Grew (Some xs) None more = ⊥
Grew (Some xs) (Some ys) more = ys ≡ xs ++ more

-- the first list is a beginning of the second
abbrev pub Begins : {B : Type 0} → List B → List B → Type 0
Begins {B} xs ys = (rest : List B) × (ys ≡ xs ++ rest)
