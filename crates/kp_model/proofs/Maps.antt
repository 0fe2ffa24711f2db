-- What is true of each value of a finite map stays true when one value is put in or taken out.
use Rattle.std.proofs.Common.{◌≡◌, Bool, true, false, cond, ◌&&◌, ◌||◌, ◌⊎◌, inl, inr, T, List, [], ◌∷◌, length, map, Option, Some, None, is_some, IsSome, filter, Ordering, Less, Equal, Greater, is_eq, refl, sym, ap, subst, ◌∙◌, true≢false, arith}
use Rattle.std.specs.List.{list_any}
use Rattle.std.specs.Ordering.{eq_by_cmp}
use Rattle.std.specs.Option.{unwrap_or}
use Rattle.std.specs.Cmp.{IsTotalOrder, tied_itself}
use Rattle.std.specs.FinMap as fin
use Rattle.std.specs.FinMap.{FinMap, IsAntisymmetric, get-insert, get-remove, get-entries, contains_key-keys}
use Rattle.std.proofs.lemmas.Map.Views.{any-filter_same}

pub same_value : {X : Type 0} (x y : X) → Some x ≡ Some y → x ≡ y
same_value x y e = ap (λ o. unwrap_or o x) e

pub no_value : {X : Type 0} (x : X) → Some x ≡ None → ⊥
no_value x e = subst T (ap is_some e) tt

pub equal : (r : Ordering) → is_eq r ≡ true → r ≡ Equal
equal Less e = absurd (true≢false (sym e))
equal Equal e = refl
equal Greater e = absurd (true≢false (sym e))

-- after an insertion one finds the new value at its key, and elsewhere what was there
picked : {X : Type 0} (P : X → Type 0) (b : Bool) (v : X) (old : Option X) (x : X)
    → (b ≡ true → P v) → (old ≡ Some x → P x) → cond b (Some v) old ≡ Some x → P x
picked P true v old x new keeps found = subst P (same_value v x found) (new refl)
picked P false v old x new keeps found = keeps found

-- after a removal one finds what was there, at another key
left : {X : Type 0} (b : Bool) (old : Option X) (x : X) → cond b None old ≡ Some x → (b ≡ false) × (old ≡ Some x)
left true old x found = absurd (no_value x (sym found))
left false old x found = (refl, found)

stays : {X : Type 0} (b : Bool) (old : Option X) → (b ≡ true → ⊥) → cond b None old ≡ old
stays true old apart = absurd (apart refl)
stays false old apart = refl

still_some : {X : Type 0} (b : Bool) (v : X) (old : Option X) → IsSome old → IsSome (cond b (Some v) old)
still_some true v old h = refl
still_some false v old h = h

-- a value is found at q, and it has the property
abbrev pub Finds : {K X : Type 0} {R : K → K → Ordering} → (X → Type 0) → FinMap R X → K → Type 0
Finds {X = X} P m q = (x : X) × (fin.get m q ≡ Some x) × P x

-- each value that is found has the property, which may speak of its key
abbrev pub Each : {K X : Type 0} {R : K → K → Ordering} → (K → X → Type 0) → FinMap R X → Type 0
Each {K} {X} P m = (q : K) (x : X) → fin.get m q ≡ Some x → P q x

chosen : {X : Type 0} (P : X → Type 0) (b : Bool) (v : X) (old : Option X) (x : X)
    → (b ≡ true → P v) → old ≡ Some x → P x → (y : X) × (cond b (Some v) old ≡ Some y) × P y
chosen P true v old x new found h = (v, refl, new refl)
chosen P false v old x new found h = (x, found, h)

either_of : {C : Type 0} (a b : Bool) → (a || b) ≡ true → (a ≡ true → C) → (b ≡ true → C) → C
either_of true b e here there = here refl
either_of false b e here there = there e

-- where a filtered list is empty, its first element failed the test
failed : {K : Type 0} (b : Bool) (x : K) (xs : List K) → length (cond b (x ∷ xs) xs) ≡ 0 → (b ≡ false) × (length xs ≡ 0)
failed true x xs e = absurd (omega arith)
failed false x xs e = (refl, e)

pub none_of : (a b : Bool) → (a || b) ≡ false → (a ≡ false) × (b ≡ false)
none_of true b e = absurd (true≢false e)
none_of false b e = (refl, e)

new_or_old : {X : Type 0} (b : Bool) (v : X) (old : Option X) (x : X) → cond b (Some v) old ≡ Some x → (b ≡ true) × (x ≡ v) ⊎ (old ≡ Some x)
new_or_old true v old x found = inl (refl, sym (same_value v x found))
new_or_old false v old x found = inr found

and_true : (b : Bool) → (b && true) ≡ b
and_true true = refl
and_true false = refl

with_key : {A B C D : Type 0} → (A → C) → A × B ⊎ D → C × B ⊎ D
with_key f (inl p) = inl (f p.0, p.1)
with_key f (inr d) = inr d

module _ {K X : Type 0} (R : K → K → Ordering) where
  no_found : (p : X → Bool) (es : List (K × X)) (q : K) (x : X)
      → list_any p (map (λ e. e.1) es) ≡ false → fin.find R q es ≡ Some x → p x ≡ false
  no_found p [] q x none found = absurd (no_value x (sym found))
  no_found p (e ∷ es) q x none found =
      let fails = none_of (p e.1) _ none in
      picked (λ y. p y ≡ false) (eq_by_cmp R q e.0) e.1 _ x (λ _. fails.0) (no_found p es q x fails.1) found

  -- where no value passes a test, none that is found does
  pub no_value_passes : (p : X → Bool) (m : FinMap R X) (q : K) (x : X) → list_any p (fin.values m) ≡ false → fin.get m q ≡ Some x → p x ≡ false
  no_value_passes p m q x none found = no_found p (fin.entries m) q x none (sym (get-entries m q) ∙ found)

module _ {K : Type 0} {R : K → K → Ordering} (same : IsAntisymmetric R) where
  same_key : (q k : K) → eq_by_cmp R q k ≡ true → q ≡ k
  same_key q k e = same q k (equal (R q k) e)

  fails_each : (p : K → Bool) (xs : List K) (q : K) → length (filter p xs) ≡ 0 → list_any (eq_by_cmp R q) xs ≡ true → p q ≡ false
  fails_each p [] q none among = absurd (true≢false (sym among))
  fails_each p (x ∷ xs) q none among =
      let fails = failed (p x) x (filter p xs) none in
      either_of (eq_by_cmp R q x) _ among (λ e. subst (λ y. p y ≡ false) (sym (same_key q x e)) fails.0) (fails_each p xs q fails.1)

module _ {K X : Type 0} {R : K → K → Ordering} (o : IsTotalOrder R) (same : IsAntisymmetric R) where
  pub get_inserted : (m : FinMap R X) (k : K) (v : X) → fin.get (fin.insert m k v) k ≡ Some v
  get_inserted m k v = get-insert o m k v k ∙ ap (λ r. cond (is_eq r) (Some v) (fin.get m k)) (tied_itself o k)

  -- what is found after an insertion is the new value at its key, or it was there
  pub inserted_or_there : (m : FinMap R X) (k : K) (v : X) (q : K) (x : X) → fin.get (fin.insert m k v) q ≡ Some x → (q ≡ k) × (x ≡ v) ⊎ (fin.get m q ≡ Some x)
  inserted_or_there m k v q x found = with_key (same_key same q k) (new_or_old (eq_by_cmp R q k) v (fin.get m q) x (sym (get-insert o m k v q) ∙ found))

  pub each_inserted : (P : K → X → Type 0) (m : FinMap R X) (k : K) (v : X) → P k v → Each P m → Each P (fin.insert m k v)
  each_inserted P m k v new keeps q x found =
      picked (P q) (eq_by_cmp R q k) v (fin.get m q) x (λ e. subst (λ j. P j v) (sym (same_key same q k e)) new) (keeps q x) (sym (get-insert o m k v q) ∙ found)

  pub left_there : (m : FinMap R X) (k q : K) (x : X) → fin.get (fin.remove m k) q ≡ Some x → (eq_by_cmp R q k ≡ false) × (fin.get m q ≡ Some x)
  left_there m k q x found = left (eq_by_cmp R q k) _ x (sym (get-remove o m k q) ∙ found)

  pub each_removed : (P : K → X → Type 0) (m : FinMap R X) (k : K) → Each P m → Each P (fin.remove m k)
  each_removed P m k keeps q x found = keeps q x (left_there m k q x found).1

  -- a value with the property is still found where the one that takes its place has the property too
  pub finds_inserted : (P : X → Type 0) (m : FinMap R X) (k : K) (v : X) (q : K)
      → ((x : X) → fin.get m k ≡ Some x → P x → P v) → Finds P m q → Finds P (fin.insert m k v) q
  finds_inserted P m k v q upkeep f =
      let there = chosen P (eq_by_cmp R q k) v (fin.get m q) f.0 (λ e. upkeep f.0 (subst (λ j. fin.get m j ≡ Some f.0) (same_key same q k e) f.1) f.2) f.1 f.2 in
      (there.0, get-insert o m k v q ∙ there.1, there.2)

  pub finds_removed : (P : X → Type 0) (m : FinMap R X) (k q : K) → (q ≡ k → ⊥) → Finds P m q → Finds P (fin.remove m k) q
  finds_removed P m k q apart f = (f.0, get-remove o m k q ∙ stays (eq_by_cmp R q k) _ (λ e. apart (same_key same q k e)) ∙ f.1, f.2)

  pub some_removed : (m : FinMap R X) (k q : K) → (q ≡ k → ⊥) → IsSome (fin.get m q) → IsSome (fin.get (fin.remove m k) q)
  some_removed m k q apart h = subst IsSome (sym (get-remove o m k q ∙ stays (eq_by_cmp R q k) _ (λ e. apart (same_key same q k e)))) h

  pub some_inserted : (m : FinMap R X) (k : K) (v : X) (q : K) → IsSome (fin.get m q) → IsSome (fin.get (fin.insert m k v) q)
  some_inserted m k v q h = subst IsSome (sym (get-insert o m k v q)) (still_some (eq_by_cmp R q k) v _ h)

  -- where no key passes a test, none at which something is found does
  pub no_key_passes : (p : K → Bool) (m : FinMap R X) → length (filter p (fin.keys m)) ≡ 0 → Each (λ q _. p q ≡ false) m
  no_key_passes p m none q x found = fails_each same p (fin.keys m) q none (sym (contains_key-keys m q) ∙ ap is_some found)

  -- a key at which something is found is among the keys that pass a test exactly where it passes
  pub among_passing : (p : K → Bool) (m : FinMap R X) (q : K) (x : X) → fin.get m q ≡ Some x → list_any (eq_by_cmp R q) (filter p (fin.keys m)) ≡ p q
  among_passing p m q x found = any-filter_same (eq_by_cmp R q) p (p q) (λ k e. ap p (sym (same_key same q k e))) (fin.keys m)
      ∙ ap (λ b. p q && b) (sym (contains_key-keys m q) ∙ ap is_some found) ∙ and_true (p q)
