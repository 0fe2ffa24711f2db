-- Watches under running numbers.
use Rattle.std.specs.Prelude.{◌≡◌, ℕ, Bool, List, [], ◌∷◌, Option, Some, None, map, nat_eq}
use Rattle.std.specs.List.{filter, list_any}
use Rattle.std.specs.List.Sorted.{IsStrictlySortedBy}
use Rattle.std.specs.Map.{lookup}
use Rattle.std.specs.BTreeMap.{is_at}
use Rattle.std.specs.Ordering.{nat_cmp}
use Rattle.kp_watch.specs.declared.watch.Watch.{Watch}

-- numbers with their watches, in the order of the numbers
abbrev pub Numbered : Type 0
Numbered = List (ℕ × Watch)

-- the watches in order of their numbers
abbrev pub watches_of : Numbered → List Watch
watches_of es = map (λ (e : ℕ × Watch). e.1) es

-- the numbers of the watches that pass
abbrev pub numbers : (Watch → Bool) → Numbered → List ℕ
numbers p es = map (λ (e : ℕ × Watch). e.0) (filter (λ (e : ℕ × Watch). p e.1) es)

-- the watch of a number
abbrev pub watch_at : Numbered → ℕ → Option Watch
watch_at es n = lookup (is_at (nat_cmp n)) es

-- the numbers rise
abbrev pub AreOrdered : Numbered → Type 0
AreOrdered es = IsStrictlySortedBy nat_cmp (map (λ (e : ℕ × Watch). e.0) es)

-- the connection of the watch, if there is one
abbrev pub conn_in : Option Watch → List ℕ
conn_in None = []
conn_in (Some w) = w.conn ∷ []

-- the connection of the number's watch, if there is one
unfoldable pub conn_at : (ℕ → Option Watch) → ℕ → List ℕ
conn_at look n = conn_in (look n)

-- ns has the same numbers, each once, and they rise
pub record Lists (numbers ns : List ℕ) : Type 0 where
  pub sorted : IsStrictlySortedBy nat_cmp ns
  pub members : (q : ℕ) → list_any (nat_eq q) ns ≡ list_any (nat_eq q) numbers
