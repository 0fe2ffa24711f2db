-- How much was read and written.
use Rattle.std.specs.Prelude.{ℕ, ◌≡◌, ◌+◌, ◌≤◌, ◌<◌, List, [], ◌++◌, length, Option, Some, None, ⊤}

-- what a sink holds now is what it held and all of this but the rest; a sink that doesn't tell says nothing
abbrev pub Wrote : Option (List ℕ) → Option (List ℕ) → List ℕ → List ℕ → Type 0
Wrote None now rest all = ⊤
Wrote (Some xs) None rest all = ⊥
Wrote (Some xs) (Some ys) rest all = ys ++ rest ≡ xs ++ all

-- all of this was written
abbrev pub WroteAll : Option (List ℕ) → Option (List ℕ) → List ℕ → Type 0
WroteAll old now all = Wrote old now [] all

-- a beginning of this was written
abbrev pub WrotePart : Option (List ℕ) → Option (List ℕ) → List ℕ → Type 0
WrotePart old now all = (rest : List ℕ) × Wrote old now rest all

-- the most bytes that are read
abbrev pub input_limit : ℕ
input_limit = 67108864

-- a source that held the first list and holds the second gave more bytes than the limit; a source that doesn't tell says nothing
abbrev pub TookMore : Option (List ℕ) → Option (List ℕ) → Type 0
TookMore None now = ⊤
TookMore (Some before) None = ⊥
TookMore (Some before) (Some after) = input_limit + length after < length before

-- it gave no more than that
abbrev pub TookWithin : Option (List ℕ) → Option (List ℕ) → Type 0
TookWithin None now = ⊤
TookWithin (Some before) None = ⊥
TookWithin (Some before) (Some after) = length before ≤ input_limit + length after
