-- A walk over all connections lists what is known of each.
use Rattle.std.proofs.Common.{◌≡◌, ℕ, cond, List, [], ◌∷◌, ◌++◌, Some, None, refl, ap, sym, ◌∙◌, append-nil, append_assoc}
use Rattle.std.specs.Prelude.{map}
use Rattle.std.specs.List.{AllByRecursion, flat_map}
use Rattle.std.specs.Map.{lookup}
use Rattle.std.specs.Ordering.{nat_cmp, eq_by_cmp}
use Rattle.std.specs.Cmp.{nat_cmp_total}
use Rattle.std.specs.FinMap as map
use Rattle.std.specs.FinMap.{find}
use Rattle.kp_layers.proofs.Listed.{sorted_keys}
use Rattle.kp_seats.specs.Seating.{above, Leads}
use Rattle.kp_words.specs.declared.facts.ConnFacts.{ConnFacts}
use Rattle.kp_step.specs.declared.seat.Seat.{Seat}
use Rattle.kp_step.specs.Node.{Seats}
use Rattle.kp_facts.specs.Facts.{conn_facts, facts_at, conns_facts}
use Rattle.kp_facts.proofs.Grouped.{found_all}

abbrev pub facts_over : Seats → List ℕ → List ConnFacts
facts_over m ks = flat_map (λ k. facts_at k (map.get m k)) ks

module _ (m : Seats) (conn : ℕ) (list : List ConnFacts) (h : list ++ facts_over m (above m conn) ≡ facts_over m (above m 0)) where
  pub lists_on : (k : ℕ) (new : List ConnFacts) → Leads m conn (Some k) → new ≡ list ++ facts_at k (map.get m k) → new ++ facts_over m (above m k) ≡ facts_over m (above m 0)
  lists_on k new leads is =
      ap (λ l. l ++ facts_over m (above m k)) is
      ∙ append_assoc list (facts_at k (map.get m k)) (facts_over m (above m k))
      ∙ ap (λ ks. list ++ facts_over m ks) (sym leads)
      ∙ h

  pub lists_all : Leads m conn None → list ≡ facts_over m (above m 0)
  lists_all none = sym (append-nil list) ∙ ap (λ ks. list ++ facts_over m ks) (sym none) ∙ h

find_is : (q : ℕ) (es : List (ℕ × Seat)) → find nat_cmp q es ≡ lookup (eq_by_cmp nat_cmp q) es
find_is q [] = refl
find_is q (e ∷ es) = ap (cond (eq_by_cmp nat_cmp q e.0) (Some e.1)) (find_is q es)

each : (m : Seats) (es : List (ℕ × Seat)) → AllByRecursion (λ e. lookup (eq_by_cmp nat_cmp e.0) (map.entries m) ≡ Some e.1) es → facts_over m (map (λ e. e.0) es) ≡ map (λ (e : ℕ × Seat). conn_facts e.0 e.1) es
each m [] h = refl
each m (e ∷ es) h =
    let found : map.get m e.0 ≡ Some e.1 = map.get-entries m e.0 ∙ find_is e.0 (map.entries m) ∙ h.0 in
    λ i. facts_at e.0 (found i) ++ each m es h.1 i

pub over_all : (m : Seats) → facts_over m (map.keys m) ≡ conns_facts m
over_all m = each m (map.entries m) (found_all nat_cmp nat_cmp_total (map.entries m) (sorted_keys nat_cmp (map.entries m) (map.entries_sorted m)))
