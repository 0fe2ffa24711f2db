-- How many nodes are owned.
use Rattle.std.proofs.Common.{◌≡◌, ◌==◌, ◌&&◌, ℕ, suc, not, Bool, true, false, cond, List, [], ◌∷◌, Option, Some, None, is_some, refl, ap, sym, ◌∙◌, length}
use Rattle.std.specs.Prelude.{map}
use Rattle.std.specs.List.{filter, AllByRecursion}
use Rattle.std.specs.Option.{option_map_or}
use Rattle.std.specs.Map.{lookup}
use Rattle.std.specs.Ordering.{eq_by_cmp}
use Rattle.std.proofs.lemmas.List.{length-map}
use Rattle.std.specs.FinMap as fin
use Rattle.kp_model.specs.declared.node.Node.{Node}
use Rattle.kp_model.specs.State.{Nodes, path_cmp}
use Rattle.kp_layers.proofs.Listed.{sorted_keys, filter_lists, keys_listed}
use Rattle.kp_cells.specs.Mapped.{kept}
use Rattle.kp_cells.proofs.Maps.{passing, get-kept}
use Rattle.kp_cells.proofs.Paths.{path_total, path_same}
use Rattle.kp_facts.proofs.Grouped.{found_all}
use Rattle.kp_facts.proofs.Sizes.{find_is}

module _ (t : Node → Bool) where
  there : (r : Option Node) → (option_map_or t r false && is_some r) ≡ is_some (passing t r)
  there None = refl
  there (Some n) = both (t n) n where
    both : (b : Bool) (n : Node) → (b && true) ≡ is_some (cond b (Some n) None)
    both true n = refl
    both false n = refl

  module _ (nodes : Nodes) where
    abbrev passes : List ℕ → Bool
    passes q = option_map_or t (fin.get nodes q) false

    lengths : (es : List (List ℕ × Node)) → AllByRecursion (λ e. lookup (eq_by_cmp path_cmp e.0) (fin.entries nodes) ≡ Some e.1) es → length (filter passes (map (λ e. e.0) es)) ≡ length (filter t (map (λ e. e.1) es))
    lengths [] h = refl
    lengths (e ∷ es) h =
        let here : passes e.0 ≡ t e.1 = ap (λ r. option_map_or t r false) (fin.get-entries nodes e.0 ∙ find_is e.0 (fin.entries nodes) ∙ h.0) in
        ap (λ b. length (cond b (e.0 ∷ filter passes (map (λ x. x.0) es)) (filter passes (map (λ x. x.0) es)))) here
        ∙ either (t e.1) e.0 e.1 _ _ (lengths es h.1)
      where
        either : (b : Bool) (k : List ℕ) (n : Node) (ks : List (List ℕ)) (ns : List Node) → length ks ≡ length ns → length (cond b (k ∷ ks) ks) ≡ length (cond b (n ∷ ns) ns)
        either true k n ks ns e = ap suc e
        either false k n ks ns e = e

    keys_kept : filter passes (fin.keys nodes) ≡ fin.keys (kept (λ _ n. t n) nodes)
    keys_kept = keys_listed path_cmp path_total path_same (kept (λ _ n. t n) nodes) (λ q. passes q && fin.contains_key nodes q) (filter passes (fin.keys nodes)) (filter_lists path_cmp path_total path_same nodes passes) (λ q.
        there (fin.get nodes q) ∙ sym (ap is_some (get-kept path_total path_same (λ _ n. t n) nodes q)))

    pub count_kept : fin.len (kept (λ _ n. t n) nodes) ≡ length (filter t (fin.values nodes))
    count_kept =
        fin.len-entries (kept (λ _ n. t n) nodes)
        ∙ sym (length-map (fin.entries (kept (λ _ n. t n) nodes)) (λ e. e.0))
        ∙ ap length (sym keys_kept)
        ∙ lengths (fin.entries nodes) (found_all path_cmp path_total (fin.entries nodes) (sorted_keys path_cmp (fin.entries nodes) (fin.entries_sorted nodes)))

-- the nodes that a session owns
pub owned_counted : (nodes : Nodes) → fin.len (kept (λ _ n. not (n.owner == 0)) nodes) ≡ length (filter (λ (n : Node). not (n.owner == 0)) (fin.values nodes))
owned_counted = count_kept (λ n. not (n.owner == 0))
