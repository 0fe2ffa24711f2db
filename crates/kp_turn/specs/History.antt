-- A history of events, each with its answer and the value after it. All definitions of this crate are this project's own.
use Rattle.std.specs.Prelude.{◌≡◌, ℕ, length, List, [], ◌∷◌, ◌++◌}

-- the value that the history ends with, from x on
abbrev pub value_after : {T E A : Type 0} → T → List (E × A × T) → T
value_after x [] = x
value_after x (t ∷ ts) = value_after t.2 ts

module _ {T E A : Type 0} (steps : T → E → A → T → Type 0) where
  -- each event of the history was a step from the value after those before it, from x on
  abbrev pub Runs : T → List (E × A × T) → Type 0
  Runs x [] = Unit {0}
  Runs x (t ∷ ts) = steps x t.0 t.1 t.2 × Runs t.2 ts

-- ys begins with xs
abbrev pub IsPrefix : {B : Type 0} → List B → List B → Type 0
IsPrefix {B} xs ys = (more : List B) × (ys ≡ xs ++ more)

module _ {T E A : Type 0} (events : T → ℕ) (steps : T → E → A → T → Type 0) where
  -- the history leads from x to y, which stands for as many events
  abbrev pub Leads : T → List (E × A × T) → T → Type 0
  Leads x ts y = Runs steps x ts × (y ≡ value_after x ts) × (events y ≡ length ts)

-- the event, the answer and the value after are a step from the value after all events before
abbrev pub Answers : {T E A : Type 0} → (T → E → A → T → Type 0) → T → List (E × A × T) → E → A → T → Type 0
Answers {T} steps start before e a y = Runs steps start before × steps (value_after start before) e a y
