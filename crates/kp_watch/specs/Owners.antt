-- The numbers of the watches that each connection has.
use Rattle.std.specs.Prelude.{ℕ, Bool, false, List, Option, Some, None, nat_eq}
use Rattle.std.specs.Map.{lookup}
use Rattle.std.specs.Ordering.{nat_cmp}
use Rattle.std.specs.BTreeSet.{BTreeSet, contains}

-- the numbers of a connection, if it has any
abbrev pub set_of : List (ℕ × BTreeSet ℕ) → ℕ → Option (BTreeSet ℕ)
set_of own c = lookup (nat_eq c) own

-- whether the set, if there is one, has the number
abbrev pub is_within : Option (BTreeSet ℕ) → ℕ → Bool
is_within None n = false
is_within (Some s) n = contains nat_cmp s n

-- whether the number is one of the connection's
abbrev pub is_own : List (ℕ × BTreeSet ℕ) → ℕ → ℕ → Bool
is_own own c n = is_within (set_of own c) n
