-- A map under a list of writes.
use Rattle.std.specs.Prelude.{ℕ, List, [], ◌∷◌, refl, Option, Some, None}
use Rattle.std.specs.declared.cmp.Ordering.{Ordering}
use Rattle.std.specs.Ordering.{nat_cmp}
use Rattle.std.specs.FinMap as map
use Rattle.std.specs.FinMap.{FinMap}
use Rattle.std.specs.Coded.{Coded, code_by, coded×, coded_ℕ, coded_list, coded_option}

module _ {K : Type 0} {R : K → K → Ordering} {V : Type 0} where
  -- m with the value at the key, or without the key
  abbrev pub put : FinMap R V → K → Option V → FinMap R V
  put m key (Some value) = map.insert m key value
  put m key None = map.remove m key

  -- m after the writes, in their order
  abbrev pub overlay : FinMap R V → List (K × Option V) → FinMap R V
  overlay m [] = m
  overlay m (w ∷ ws) = overlay (put m w.0 w.1) ws

-- a map, and the writes over it, the oldest first: each gives a key a value, or takes the key away
pub record Past (V : Type 0) : Type 0 where
  pub base : FinMap nat_cmp V
  pub writes : List (ℕ × Option V)

module _ {V : Type 0} where
  -- a past is stored as the pair of its fields
  abbrev pub past_code : Coded V → Coded (Past V)
  past_code v =
      code_by (FinMap nat_cmp V × List (ℕ × Option V)) (coded× (map.code coded_ℕ v) (coded_list (coded× coded_ℕ (coded_option v)))) (λ p. (p.base, p.writes)) (λ p. record { base = p.0; writes = p.1 }) (λ _. refl)

  -- an empty map with no writes
  abbrev pub empty_past : Past V
  empty_past = record { base = map.empty; writes = [] }

  -- the map under all writes
  abbrev pub newest_of : Past V → FinMap nat_cmp V
  newest_of p = overlay p.base p.writes

  -- with the first write made on the base
  abbrev pub commit_first : FinMap nat_cmp V → List (ℕ × Option V) → Past V
  commit_first m [] = record { base = m; writes = [] }
  commit_first m (w ∷ ws) = record { base = put m w.0 w.1; writes = ws }
