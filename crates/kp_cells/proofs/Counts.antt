-- How many nodes, sessions and owned nodes there are.
use Rattle.std.proofs.Common.{◌≡◌, ℕ, ◌+◌, Bool, true, false, true≢false, cond, List, [], ◌∷◌, length, Option, Some, None, is_some, refl, ap, sym, subst, ◌∙◌}
use Rattle.std.specs.Prelude.{T, not, ◌==◌}
use Rattle.std.specs.Option.{option_and_then}
use Rattle.std.specs.declared.cmp.Ordering.{Ordering}
use Rattle.std.specs.Ordering.{nat_cmp, eq_by_cmp, is_eq}
use Rattle.std.specs.Cmp.{nat_cmp_total, tied_itself}
use Rattle.std.specs.Cmp.Lexicographic.{nat_list_cmp_total}
use Rattle.std.specs.FinMap as fin
use Rattle.std.specs.FinMap.{FinMap, find, nat_cmp-IsAntisymmetric}
use Rattle.kp_layers.specs.Layering.{Layering}
use Rattle.kp_model.specs.State.{path_cmp}
use Rattle.kp_cells.specs.Mapped.{mapped, kept}
use Rattle.kp_cells.specs.Parts.{Parts, FitTogether, parts_of, whole}
use Rattle.kp_cells.specs.Overlays.{Overlays, committed_parts, committed_state}
use Rattle.kp_cells.specs.Naming.{Naming, IsNaming, Knows, path_of, by_path, IsNamed}
use Rattle.kp_cells.proofs.Maps.{sorted_same}
use Rattle.kp_cells.proofs.ByPath.{path_is, get-by_path, by_path_empty, by_path_insert, length_mapped}

pub len-mapped : {K X Y : Type 0} {R : K → K → Ordering} (f : K → X → Y) (m : FinMap R X) → fin.len (mapped f m) ≡ fin.len m
unfolding mapped
len-mapped {R = R} f m =
    fin.len-entries (mapped f m)
    ∙ ap length (fin.entries-from_sorted R _ (subst T (sym (sorted_same R f (fin.entries m))) (fin.entries_sorted m)))
    ∙ length_mapped _ (fin.entries m)
    ∙ sym (fin.len-entries m)

module _ {V : Type 0} where
  some_either : (b : Bool) (x : V) (o : Option V) → is_some o ≡ true → is_some (cond b (Some x) o) ≡ true
  some_either true x o h = refl
  some_either false x o h = h

  head_there : (e : ℕ × V) (es : List (ℕ × V)) → is_some (find nat_cmp e.0 (e ∷ es)) ≡ true
  head_there e es = ap (λ r. is_some (cond (is_eq r) (Some e.1) (find nat_cmp e.0 es))) (tied_itself nat_cmp_total e.0)

  module _ (names : Naming) (h : IsNaming names) where
    -- a path and its number have a value together
    both_there : (m : FinMap nat_cmp V) (n : ℕ) → Knows names n → is_some (fin.get (by_path names m) (path_of names n)) ≡ is_some (fin.get m n)
    both_there m n known =
        ap is_some (get-by_path names m (path_of names n)
        ∙ ap (λ p. option_and_then (fin.get m) (fin.get names.numbers p)) (path_is names known.0 n h known.1)
        ∙ ap (option_and_then (fin.get m)) known.1)

    len_of : (es : List (ℕ × V)) → ((n : ℕ) → is_some (find nat_cmp n es) ≡ true → Knows names n) → fin.len (by_path names (fin.from_entries {R = nat_cmp} es)) ≡ fin.len (fin.from_entries {R = nat_cmp} es)
    len_of [] known = ap fin.len (by_path_empty names) ∙ fin.len-empty path_cmp V ∙ sym (fin.len-empty nat_cmp V)
    len_of (e ∷ es) known =
        let m : FinMap nat_cmp V = fin.from_entries es in
        let first : Knows names e.0 = known e.0 (head_there e es) in
        let rest : fin.len (by_path names m) ≡ fin.len m = len_of es (λ n s. known n (some_either (eq_by_cmp nat_cmp n e.0) e.1 (find nat_cmp n es) s)) in
        ap fin.len (by_path_insert names h m e.0 e.1 first)
        ∙ fin.len-insert nat_list_cmp_total (by_path names m) (path_of names e.0) e.1
        ∙ (λ i. cond (both_there m e.0 first i) (rest i) (rest i + 1))
        ∙ sym (fin.len-insert nat_cmp_total m e.0 e.1)

    same_entries : (m : FinMap nat_cmp V) → fin.from_entries (fin.entries m) ≡ m
    same_entries m = fin.same_map nat_cmp_total nat_cmp-IsAntisymmetric _ _ (λ q. fin.get-from_entries nat_cmp_total (fin.entries m) q ∙ sym (fin.get-entries m q))

    -- as many paths as numbers have a value in the base
    pub len-by_path : (l : Layering nat_cmp V) → IsNamed names l → fin.len (by_path names l.base) ≡ fin.len l.base
    len-by_path l named =
        ap (λ m. fin.len (by_path names m)) (sym (same_entries l.base))
        ∙ len_of (fin.entries l.base) (λ n s. found n (fin.get l.base n) refl (ap is_some (fin.get-entries l.base n) ∙ s))
        ∙ ap fin.len (same_entries l.base)
      where
        found : (n : ℕ) (o : Option V) → fin.get l.base n ≡ o → is_some (fin.get l.base n) ≡ true → Knows names n
        found n None e s = absurd (true≢false (sym s ∙ ap is_some e))
        found n (Some v) e s = named.base n v e

-- ---- the committed state
pub nodes_are : (o : Overlays) → fin.len (committed_state o).nodes ≡ fin.len o.metas.base
unfolding whole
nodes_are o = len-mapped _ o.metas.base

pub sessions_are : (o : Overlays) → fin.len (committed_state o).sessions ≡ fin.len o.sessions.base
unfolding whole
sessions_are o = refl

pub owned_are : (o : Overlays) → FitTogether (committed_parts o) → fin.len (kept (λ _ n. not (n.owner == 0)) (committed_state o).nodes) ≡ fin.len o.owners.base
unfolding whole parts_of
owned_are o fits =
    sym (len-mapped (λ _ n. n.owner) (kept (λ _ n. not (n.owner == 0)) (committed_state o).nodes))
    ∙ sym (ap (λ (p : Parts). fin.len p.owners) fits)
