-- A list in the order of its keys, as a finite map.
use Rattle.std.proofs.Common.{◌≡◌, Bool, true, false, not, cond, None, T, count_by, List, [], ◌∷◌, length, map, ◌||◌, Ordering, refl, sym, ap, subst, ◌∙◌}
use Rattle.std.specs.Bool.{IsTrue}
use Rattle.std.specs.Cmp.{IsTotalOrder}
use Rattle.std.specs.List.{list_any, filter}
use Rattle.std.proofs.lemmas.List.Sums.{length-filter}
use Rattle.std.proofs.lemmas.List.{length-map}
use Rattle.std.specs.FinMap as fin
use Rattle.std.specs.FinMap.{IsAntisymmetric, find, put, is_sorted, from_sorted, same_entries_map, entries-from_sorted, empty_of_len, len-entries, entries-insert, get-from_sorted}
use Rattle.std.specs.FinMap.Entries.{is_sorted-put, where_key, is_sorted-where_key, find-where_key}
use Rattle.std.specs.Ordering.{eq_by_cmp, is_eq}
use Rattle.std.specs.Cmp.{alike_right, eq_by_cmp_equiv}

to_T : (b : Bool) → IsTrue b → T b
to_T b h = subst T (sym h) tt

from_T : (b : Bool) → T b → IsTrue b
from_T true h = refl
from_T false h = absurd h

turned : {A : Type 0} (b : Bool) (x y : A) → cond (not b) x y ≡ cond b y x
turned true x y = refl
turned false x y = refl

one_of : {A B : Type 0} (b : Bool) (x : A) (e : A × B) (xs : List A) (es : List (A × B)) → xs ≡ map (λ (p : A × B). p.0) es → cond b (e.0 ∷ xs) xs ≡ map (λ (p : A × B). p.0) (cond b (e ∷ es) es)
one_of true x e xs es h = ap (λ l. e.0 ∷ l) h
one_of false x e xs es h = h

module _ {K X : Type 0} (R : K → K → Ordering) where
  pub from_sorted-nil : from_sorted {R = R} [] ≡ fin.empty {X = X}
  from_sorted-nil = empty_of_len _ (len-entries _ ∙ ap (λ es. length es) (entries-from_sorted R [] tt))

  any_mapped : (p : X → Bool) (es : List (K × X)) → list_any p (map (λ e. e.1) es) ≡ list_any (λ e. p e.1) es
  any_mapped p [] = refl
  any_mapped p (e ∷ es) = ap (λ b. p e.1 || b) (any_mapped p es)

  -- a test of the values
  pub any_value : (p : X → Bool) (es : List (K × X)) → IsTrue (is_sorted R es) → list_any p (fin.values (from_sorted {R = R} es)) ≡ list_any (λ e. p e.1) es
  any_value p es h = ap (λ fs. list_any p (map (λ e. e.1) fs)) (entries-from_sorted R es (to_T _ h)) ∙ any_mapped p es

  filter_keys : (p : K → Bool) (es : List (K × X)) → filter p (map (λ (e : K × X). e.0) es) ≡ map (λ (e : K × X). e.0) (filter (λ (e : K × X). p e.0) es)
  filter_keys p [] = refl
  filter_keys p (e ∷ es) = one_of (p e.0) e.0 e _ _ (filter_keys p es)

  -- how many keys pass a test
  pub count_sorted : (p : K → Bool) (es : List (K × X)) → IsTrue (is_sorted R es) → length (filter p (fin.keys (from_sorted {R = R} es))) ≡ count_by (λ (e : K × X). p e.0) es
  count_sorted p es h = ap (λ fs. length (filter p (map (λ e. e.0) fs))) (entries-from_sorted R es (to_T _ h)) ∙ ap length (filter_keys p es) ∙ length-map (filter (λ (e : K × X). p e.0) es) (λ (e : K × X). e.0) ∙ length-filter (λ (e : K × X). p e.0) es

  -- the keys
  pub keys_sorted : (es : List (K × X)) → IsTrue (is_sorted R es) → fin.keys (from_sorted {R = R} es) ≡ map (λ (e : K × X). e.0) es
  keys_sorted es h = ap (map (λ (e : K × X). e.0)) (entries-from_sorted R es (to_T _ h))

  -- how many entries
  pub len_sorted : (es : List (K × X)) → IsTrue (is_sorted R es) → fin.len (from_sorted {R = R} es) ≡ length es
  len_sorted es h = len-entries _ ∙ ap length (entries-from_sorted R es (to_T _ h))

  pub get_sorted : (es : List (K × X)) (q : K) → IsTrue (is_sorted R es) → fin.get (from_sorted {R = R} es) q ≡ find R q es
  get_sorted es q h = get-from_sorted R es q (to_T _ h)

module _ {K X : Type 0} {R : K → K → Ordering} (o : IsTotalOrder R) where
  pub stays_sorted : (k : K) (v : X) (es : List (K × X)) → IsTrue (is_sorted R es) → IsTrue (is_sorted R (put R k v es))
  stays_sorted k v es h = from_T _ (is_sorted-put R o k v es (to_T _ h))

  pub put_sorted : (k : K) (v : X) (es : List (K × X)) → IsTrue (is_sorted R es) → from_sorted {R = R} (put R k v es) ≡ fin.insert (from_sorted es) k v
  put_sorted k v es h = same_entries_map _ _ (
      entries-from_sorted R (put R k v es) (is_sorted-put R o k v es (to_T _ h))
      ∙ ap (put R k v) (sym (entries-from_sorted R es (to_T _ h)))
      ∙ sym (entries-insert o (from_sorted es) k v))

  -- without the entry of a key
  pub stays_sorted_without : (k : K) (es : List (K × X)) → IsTrue (is_sorted R es) → IsTrue (is_sorted R (where_key R (λ x. not (eq_by_cmp R k x)) es))
  stays_sorted_without k es h = from_T _ (is_sorted-where_key R (λ x. not (eq_by_cmp R k x)) es (to_T _ h))

  pub remove_sorted : IsAntisymmetric R → (k : K) (es : List (K × X)) → IsTrue (is_sorted R es) → from_sorted {R = R} (where_key R (λ x. not (eq_by_cmp R k x)) es) ≡ fin.remove (from_sorted es) k
  remove_sorted same k es h = fin.same_map o same _ _ (λ q.
      get-from_sorted R (where_key R (λ x. not (eq_by_cmp R k x)) es) q (is_sorted-where_key R (λ x. not (eq_by_cmp R k x)) es (to_T _ h))
      ∙ find-where_key R (λ x. not (eq_by_cmp R k x)) q (λ x t. ap (λ r. not (is_eq r)) (sym (alike_right o q x k t))) es
      ∙ turned (eq_by_cmp R k q) (find R q es) None
      ∙ ap (λ b. cond b None (find R q es)) ((eq_by_cmp_equiv o).symm k q)
      ∙ ap (cond (eq_by_cmp R q k) None) (sym (get-from_sorted R es q (to_T _ h)))
      ∙ sym (fin.get-remove o (from_sorted es) k q))
