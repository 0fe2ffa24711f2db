-- The list of groups that were gathered from items.
use Rattle.std.proofs.Common.{◌≡◌, ◌||◌, ◌&&◌, Bool, true, false, cond, List, [], ◌∷◌, Option, Some, is_some, Result, Ok, Err, IfOk, refl, ap, sym, ◌∙◌}
use Rattle.std.specs.Prelude.{map}
use Rattle.std.specs.List.{list_any, filter, AllByRecursion}
use Rattle.std.specs.declared.cmp.Ordering.{Ordering}
use Rattle.std.specs.Ordering.{eq_by_cmp}
use Rattle.std.specs.Cmp.{IsTotalOrder, eq_by_cmp_equiv}
use Rattle.std.specs.BTreeSet.{BTreeSet}
use Rattle.std.specs.FinMap as fin
use Rattle.kp_layers.specs.Listed.{Lists}
use Rattle.kp_layers.proofs.Listed.{keys_listed}
use Rattle.kp_facts.specs.Groups.{has_group, is_in, Gathers, shown}

-- what holds of the value where both hold
pub both_ok : {X Y : Type 0} (P Q R : X → Type 0) → (r : Result X Y) → ((x : X) → P x → Q x → R x) → IfOk r P → IfOk r Q → IfOk r R
both_ok P Q R (Ok x) f p q = f x p q
both_ok P Q R (Err y) f p q = tt

found_or : {X : Type 0} (b : Bool) (x : X) (r : Option X) → is_some (cond b (Some x) r) ≡ (b || is_some r)
found_or true x r = refl
found_or false x r = refl

any_both : {A : Type 0} (f g : A → Bool) (xs : List A) → list_any (λ x. f x && g x) xs ≡ list_any g (filter f xs)
any_both f g [] = refl
any_both f g (x ∷ xs) = elim (f x) as (λ b. ((b && g x) || list_any (λ y. f y && g y) xs) ≡ list_any g (cond b (x ∷ filter f xs) (filter f xs))) [
  | true ↦ ap (λ b. g x || b) (any_both f g xs)
  | false ↦ any_both f g xs
]

filter_so : {A : Type 0} (f g : A → Bool) → ((x : A) → f x ≡ g x) → (xs : List A) → filter f xs ≡ filter g xs
filter_so f g h xs = ap (λ (t : _ → Bool). filter t xs) (λ i x. h x i)

-- the keys of items
keys_gathered : {A K V : Type 0} (R : K → K → Ordering) → IsTotalOrder R → (key : A → K) (value : A → V) (xs : List A) (q : K) → fin.contains_key (fin.from_entries {R = R} (map (λ x. (key x, value x)) xs)) q ≡ list_any (λ x. eq_by_cmp R (key x) q) xs
keys_gathered R o key value [] q = ap is_some (fin.get-empty R q)
keys_gathered R o key value (x ∷ xs) q =
    ap is_some (fin.get-insert o (fin.from_entries {R = R} (map (λ y. (key y, value y)) xs)) (key x) (value x) q)
    ∙ found_or (eq_by_cmp R q (key x)) (value x) (fin.get (fin.from_entries {R = R} (map (λ y. (key y, value y)) xs)) q)
    ∙ ap (λ b. b || fin.contains_key (fin.from_entries {R = R} (map (λ y. (key y, value y)) xs)) q) ((eq_by_cmp_equiv o).symm q (key x))
    ∙ ap (λ b. eq_by_cmp R (key x) q || b) (keys_gathered R o key value xs q)

module _ {K W V : Type 0} (items : W → List V) (values : K → List V) where
  zipped : (list : List (K × W)) → AllByRecursion (λ e. items e.1 ≡ values e.0) list → shown items list ≡ map (λ k. (k, values k)) (map (λ e. e.0) list)
  zipped [] h = refl
  zipped (e ∷ es) h = λ i. (e.0, h.0 i) ∷ zipped es h.1 i

all_so : {A : Type 0} (P Q : A → Type 0) → ((x : A) → P x → Q x) → (xs : List A) → AllByRecursion P xs → AllByRecursion Q xs
all_so P Q f [] h = tt
all_so P Q f (x ∷ xs) h = (f x h.0, all_so P Q f xs h.1)

module _ {A K V W : Type 0} (R : K → K → Ordering) (S : V → V → Ordering) (key : A → K) (value : A → V) (of : K → A → Bool) (items : W → List V)
    (o : IsTotalOrder R) (a : fin.IsAntisymmetric R) (p : IsTotalOrder S) (b : fin.IsAntisymmetric S) (same : (k : K) (x : A) → eq_by_cmp R (key x) k ≡ of k x) where
  -- the keys of items, ascending, and the values of those with a key
  abbrev pub keys_in : List A → List K
  keys_in xs = fin.keys (fin.from_entries {R = R} (map (λ x. (key x, value x)) xs))

  abbrev pub values_in : List A → List V
  values_in xs = fin.keys (fin.from_entries {R = S} (map (λ x. (value x, key x)) xs))

  module _ (xs : List A) (groups : List (K × BTreeSet V)) (g : Gathers R S key value xs groups) where
    pub keys_are : (ks : List K) → Lists R (has_group R groups) ks → ks ≡ keys_in xs
    keys_are ks h = keys_listed R o a (fin.from_entries {R = R} (map (λ x. (key x, value x)) xs)) (has_group R groups) ks h (λ q. g.keys q ∙ sym (keys_gathered R o key value xs q))

    values_are : (k : K) (vs : List V) → Lists S (is_in R S groups k) vs → vs ≡ values_in (filter (of k) xs)
    values_are k vs h = keys_listed S p b (fin.from_entries {R = S} (map (λ x. (value x, key x)) (filter (of k) xs))) (is_in R S groups k) vs h (λ q.
        g.values k q
        ∙ any_both (λ x. eq_by_cmp R (key x) k) (λ x. eq_by_cmp S (value x) q) xs
        ∙ ap (list_any (λ x. eq_by_cmp S (value x) q)) (filter_so (λ x. eq_by_cmp R (key x) k) (of k) (same k) xs)
        ∙ sym (keys_gathered S p value key (filter (of k) xs) q))

    pub list_is : (list : List (K × W)) → Lists R (has_group R groups) (map (λ e. e.0) list) → AllByRecursion (λ e. Lists S (is_in R S groups e.0) (items e.1)) list → shown items list ≡ map (λ k. (k, values_in (filter (of k) xs))) (keys_in xs)
    list_is list keys values =
        zipped items (λ k. values_in (filter (of k) xs)) list (all_so (λ e. Lists S (is_in R S groups e.0) (items e.1)) (λ e. items e.1 ≡ values_in (filter (of e.0) xs)) (λ e h. values_are e.0 (items e.1) h) list values)
        ∙ ap (λ ks. map {B = K × List V} (λ k. (k, values_in (filter (of k) xs))) ks) (keys_are (map (λ e. e.0) list) keys)
