-- Tokens and the numbers of their lines (this project's own).
use Rattle.std.specs.Prelude.{◌≡◌, ◌==◌, ◌≤◌, ◌<◌, ◌+◌, ◌^◌, ℕ, nat_eq, false, List, [], ◌∷◌, ◌++◌, ◌||◌, Bool, Option, Some, None}
use Rattle.std.specs.HashMap.{HashMap, get, spare}
use Rattle.mio.specs.Event.{event_token}
use Rattle.mio.specs.declared.event.event.Event.{Event}

module _ {S : Type 0} where
  -- there is room for one more line, and a further token
  pub record HasRoom (names : HashMap ℕ (Option ℕ) S) (next : ℕ) : Type 0 where
    pub room : 1 ≤ spare names
    pub further : next + 1 < 2 ^ 64

  -- all tokens but this one are as they were
  abbrev pub OthersStay : HashMap ℕ (Option ℕ) S → HashMap ℕ (Option ℕ) S → ℕ → Type 0
  OthersStay m m' token = (t : ℕ) → (token == t) ≡ false → get nat_eq m' t ≡ get nat_eq m t

-- the number of a line, where there is a line and it has one
abbrev pub name_in : Option (Option ℕ) → Option ℕ
name_in None = None
name_in (Some n) = n

-- the line has this number, where there is a line
abbrev pub renamed : Option (Option ℕ) → ℕ → Option (Option ℕ)
renamed None n = None
renamed (Some m) n = Some (Some n)

-- a list of the number, where there is one
abbrev pub listed : Option ℕ → List ℕ
listed None = []
listed (Some n) = n ∷ []

module _ {S : Type 0} where
  -- the numbers of the lines of these tokens, in order; of a token that is of no line, or of a line without a number, there is none
  abbrev pub numbers_of : HashMap ℕ (Option ℕ) S → List ℕ → List ℕ
  numbers_of names [] = []
  numbers_of names (t ∷ ts) = listed (name_in (get nat_eq names t)) ++ numbers_of names ts

-- the token of a listener: the last that there is
abbrev pub of_listener : ℕ
of_listener = 18446744073709551615

-- the tokens of these events
abbrev pub tokens_of : List Event → List ℕ
tokens_of [] = []
tokens_of (e ∷ es) = (event_token e).0 ∷ tokens_of es

abbrev pub is_among : ℕ → List ℕ → Bool
is_among n [] = false
is_among n (t ∷ ts) = t == n || is_among n ts
