-- Groups, and the list of them.
use Rattle.std.proofs.Common.{◌≡◌, ◌||◌, Bool, true, false, cond, List, [], ◌∷◌, ◌++◌, Option, Some, is_some, refl, ap, sym, subst, ◌∙◌, append-nil, append_assoc, length, ◌<◌, arith}
use Rattle.std.specs.Prelude.{map, T}
use Rattle.std.specs.List.{list_any, AllByRecursion, AllZip}
use Rattle.std.specs.List.Sorted.{IsStrictlySortedBy}
use Rattle.std.specs.declared.cmp.Ordering.{Ordering}
use Rattle.std.specs.declared.cmp.Ordering.TheVariants.{Less}
use Rattle.std.specs.Ordering.{eq_by_cmp, is_eq}
use Rattle.std.specs.Cmp.{IsTotalOrder, eq_by_cmp_equiv}
use Rattle.std.specs.Map.{lookup, keys_of}
use Rattle.std.specs.BTreeSet.{BTreeSet, contains}
use Rattle.kp_layers.specs.Listed.{Lists}
use Rattle.kp_facts.specs.Groups.{has_group, value_in, is_in}

pub none_left : {X : Type 0} (es : List X) → (0 < length es → false ≡ true) → es ≡ []
none_left [] h = refl
none_left (x ∷ es) h = absurd (subst T (sym (h (omega arith))) tt)

found_or : {X : Type 0} (b : Bool) (x : X) (r : Option X) → is_some (cond b (Some x) r) ≡ (b || is_some r)
found_or true x r = refl
found_or false x r = refl

module _ {K X : Type 0} (R : K → K → Ordering) where
  -- the keys that entries have
  keys_found : (q : K) (es : List (K × X)) → list_any (eq_by_cmp R q) (keys_of es) ≡ is_some (lookup (eq_by_cmp R q) es)
  keys_found q [] = refl
  keys_found q (e ∷ es) = ap (λ b. eq_by_cmp R q e.0 || b) (keys_found q es) ∙ sym (found_or (eq_by_cmp R q e.0) e.1 (lookup (eq_by_cmp R q) es))

  module _ (o : IsTotalOrder R) where
    later : (e : K × X) (es ls : List (K × X)) → AllByRecursion (λ y. R e.0 y ≡ Less) (keys_of ls) → AllByRecursion (λ x. lookup (eq_by_cmp R x.0) es ≡ Some x.1) ls → AllByRecursion (λ x. lookup (eq_by_cmp R x.0) (e ∷ es) ≡ Some x.1) ls
    later e es [] h all = tt
    later e es (x ∷ ls) h all = (
      ap (λ b. cond b (Some e.1) (lookup (eq_by_cmp R x.0) es)) ((eq_by_cmp_equiv o).symm x.0 e.0 ∙ ap is_eq h.0) ∙ all.0,
      later e es ls h.1 all.1,
    )

    -- each entry is found at its key
    pub found_all : (es : List (K × X)) → IsStrictlySortedBy R (keys_of es) → AllByRecursion (λ x. lookup (eq_by_cmp R x.0) es ≡ Some x.1) es
    unfolding IsStrictlySortedBy
    found_all [] h = tt
    found_all (e ∷ es) h = (
      ap (λ b. cond b (Some e.1) (lookup (eq_by_cmp R e.0) es)) ((eq_by_cmp_equiv o).refl e.0),
      later e es es h.0 (found_all es h.1),
    )

module _ {K V W : Type 0} (R : K → K → Ordering) (S : V → V → Ordering) (items : W → List V) where
  -- a key with its values
  abbrev pub Shows : K × BTreeSet V → K × W → Type 0
  Shows e f = (f.0 ≡ e.0) × Lists S (contains S e.1) (items f.1)

  -- with a list of the groups that are left, the list is one of all
  abbrev pub LeadsOn : List (K × BTreeSet V) → List (K × W) → List (K × BTreeSet V) → Type 0
  LeadsOn all list left = (fs : List (K × W)) → AllZip Shows left fs → AllZip Shows all (list ++ fs)

  pub leads_on : (all left rest : List (K × BTreeSet V)) (list : List (K × W)) (e : K × BTreeSet V) (f : K × W) → LeadsOn all list left → left ≡ e ∷ rest → Shows e f → LeadsOn all (list ++ f ∷ []) rest
  leads_on all left rest list e f leads is shows fs h =
      subst (AllZip Shows all) (sym (append_assoc list (f ∷ []) fs)) (leads (f ∷ fs) (subst (λ es. AllZip Shows es (f ∷ fs)) (sym is) (shows, h)))

  pub leads_to : (all left : List (K × BTreeSet V)) (list : List (K × W)) → LeadsOn all list left → left ≡ [] → AllZip Shows all list
  leads_to all left list leads is = subst (AllZip Shows all) (append-nil list) (leads [] (subst (λ es. AllZip Shows es []) (sym is) tt))

  keys_same : (es : List (K × BTreeSet V)) (fs : List (K × W)) → AllZip Shows es fs → map (λ f. f.0) fs ≡ keys_of es
  keys_same [] [] h = refl
  keys_same [] (f ∷ fs) h = absurd h
  keys_same (e ∷ es) [] h = absurd h
  keys_same (e ∷ es) (f ∷ fs) h = λ i. h.0.0 i ∷ keys_same es fs h.1 i

  pub keys_list : (o : IsTotalOrder R) (es : List (K × BTreeSet V)) (fs : List (K × W)) → IsStrictlySortedBy R (keys_of es) → AllZip Shows es fs → Lists R (has_group R es) (map (λ f. f.0) fs)
  keys_list o es fs sorted h = subst (Lists R (has_group R es)) (sym (keys_same es fs h)) record { sorted = sorted; members = λ q. keys_found R q es }

  values_of_all : (all es : List (K × BTreeSet V)) (fs : List (K × W)) → AllByRecursion (λ x. lookup (eq_by_cmp R x.0) all ≡ Some x.1) es → AllZip Shows es fs → AllByRecursion (λ f. Lists S (is_in R S all f.0) (items f.1)) fs
  values_of_all all [] [] found h = tt
  values_of_all all [] (f ∷ fs) found h = absurd h
  values_of_all all (e ∷ es) [] found h = absurd h
  values_of_all all (e ∷ es) (f ∷ fs) found h = (
    record {
      sorted = h.0.1.sorted;
      members = λ v. h.0.1.members v ∙ sym (ap (λ r. value_in R S r v) found.0) ∙ ap (λ k. is_in R S all k v) (sym h.0.0);
    },
    values_of_all all es fs found.1 h.1,
  )

  pub values_list : (o : IsTotalOrder R) (es : List (K × BTreeSet V)) (fs : List (K × W)) → IsStrictlySortedBy R (keys_of es) → AllZip Shows es fs → AllByRecursion (λ f. Lists S (is_in R S es f.0) (items f.1)) fs
  values_list o es fs sorted h = values_of_all es es fs (found_all R o es sorted) h
