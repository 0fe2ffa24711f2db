-- What `mapped` and `chosen` have at a key, and after a change.
use Rattle.std.proofs.Common.{◌≡◌, Bool, true, false, cond, ◌&&◌, List, [], ◌∷◌, Option, Some, None, is_some, refl, ap, sym, subst, ◌∙◌}
use Rattle.std.specs.Prelude.{map, T}
use Rattle.std.specs.Option.{option_map, option_map_or}
use Rattle.std.specs.declared.cmp.Ordering.{Ordering}
use Rattle.std.specs.declared.cmp.Ordering.TheVariants.{Less, Equal, Greater}
use Rattle.std.specs.Ordering.{eq_by_cmp, is_eq, is_lt}
use Rattle.std.specs.Cmp.{IsTotalOrder}
use Rattle.std.specs.FinMap as map
use Rattle.std.specs.FinMap.{FinMap, find, is_sorted}
use Rattle.std.specs.FinMap.Entries.{below_all}
use Rattle.kp_cells.specs.Mapped.{mapped, kept, chosen}

pub no : {A : Type 0} (b : Bool) → b ≡ false → b ≡ true → A
no true e h = absurd (subst T e tt)
no false e h = absurd (subst T (sym h) tt)

pub not_some : {A : Type 0} {x : A} → Some x ≡ None → ⊥
not_some e = no false refl (sym (ap is_some e))

equal : (r : Ordering) → is_eq r ≡ true → r ≡ Equal
equal Less h = no false refl h
equal Equal h = refl
equal Greater h = no false refl h

pub tied : {K : Type 0} {R : K → K → Ordering} → map.IsAntisymmetric R → (q k : K) → eq_by_cmp R q k ≡ true → q ≡ k
tied {R = R} a q k h = a q k (equal (R q k) h)

-- whether a test picks what is at a key
abbrev pub picked : {X : Type 0} → (X → Bool) → Option X → Option (Unit {0})
picked f None = None
picked f (Some x) = cond (f x) (Some (tt {0})) None

module _ {K X Y : Type 0} where
  below_same : (R : K → K → Ordering) (f : K → X → Y) (k : K) (es : List (K × X)) → below_all R k (map (λ e. (e.0, f e.0 e.1)) es) ≡ below_all R k es
  below_same R f k [] = refl
  below_same R f k (e ∷ es) = ap (λ b. is_lt (R k e.0) && b) (below_same R f k es)

  pub sorted_same : (R : K → K → Ordering) (f : K → X → Y) (es : List (K × X)) → is_sorted R (map (λ e. (e.0, f e.0 e.1)) es) ≡ is_sorted R es
  sorted_same R f [] = refl
  sorted_same R f (e ∷ es) = λ i. below_same R f e.0 es i && sorted_same R f es i

  step : (f : K → X → Y) (q x : K) (v : X) (b : Bool) (rest : Option X) → (b ≡ true → q ≡ x) → cond b (Some (f x v)) (option_map (f q) rest) ≡ option_map (f q) (cond b (Some v) rest)
  step f q x v true rest h = ap (λ y. Some (f y v)) (sym (h refl))
  step f q x v false rest h = refl

  find-map : {R : K → K → Ordering} → map.IsAntisymmetric R → (f : K → X → Y) (q : K) (es : List (K × X)) → find R q (map (λ e. (e.0, f e.0 e.1)) es) ≡ option_map (f q) (find R q es)
  find-map a f q [] = refl
  find-map {R = R} a f q (e ∷ es) = ap (cond (eq_by_cmp R q e.0) (Some (f e.0 e.1))) (find-map a f q es) ∙ step f q e.0 e.1 (eq_by_cmp R q e.0) (find R q es) (tied a q e.0)

  at_insert : (f g : K → X → Y) (q k : K) (v : X) (b : Bool) (rest : Option X) → (b ≡ true → q ≡ k) → (b ≡ false → (x : X) → g q x ≡ f q x) → option_map (g q) (cond b (Some v) rest) ≡ cond b (Some (g k v)) (option_map (f q) rest)
  at_insert f g q k v true rest e h = ap (λ z. Some (g z v)) (e refl)
  at_insert f g q k v false None e h = refl
  at_insert f g q k v false (Some x) e h = ap Some (h refl x)

  at_remove : (f g : K → X → Y) (q : K) (b : Bool) (rest : Option X) → (b ≡ false → (x : X) → g q x ≡ f q x) → option_map (g q) (cond b None rest) ≡ cond b None (option_map (f q) rest)
  at_remove f g q true rest h = refl
  at_remove f g q false None h = refl
  at_remove f g q false (Some x) h = ap Some (h refl x)

module _ {K X Y : Type 0} {R : K → K → Ordering} (o : IsTotalOrder R) (a : map.IsAntisymmetric R) where
  pub get-mapped : (f : K → X → Y) (m : FinMap R X) (q : K) → map.get (mapped f m) q ≡ option_map (f q) (map.get m q)
  unfolding mapped
  get-mapped f m q =
      map.get-from_sorted R _ q (subst T (sym (sorted_same R f (map.entries m))) (map.entries_sorted m))
      ∙ find-map a f q (map.entries m)
      ∙ ap (option_map (f q)) (sym (map.get-entries m q))

  -- an entry more, where the functions agree at the other keys
  pub mapped-insert : (f g : K → X → Y) (m : FinMap R X) (k : K) (v : X) → ((q : K) → eq_by_cmp R q k ≡ false → (x : X) → g q x ≡ f q x) → mapped g (map.insert m k v) ≡ map.insert (mapped f m) k (g k v)
  mapped-insert f g m k v h = map.same_map o a _ _ (λ q.
      get-mapped g (map.insert m k v) q
      ∙ ap (option_map (g q)) (map.get-insert o m k v q)
      ∙ at_insert f g q k v (eq_by_cmp R q k) (map.get m q) (tied a q k) (h q)
      ∙ sym (map.get-insert o (mapped f m) k (g k v) q ∙ ap (cond (eq_by_cmp R q k) (Some (g k v))) (get-mapped f m q)))

  pub mapped-remove : (f g : K → X → Y) (m : FinMap R X) (k : K) → ((q : K) → eq_by_cmp R q k ≡ false → (x : X) → g q x ≡ f q x) → mapped g (map.remove m k) ≡ map.remove (mapped f m) k
  mapped-remove f g m k h = map.same_map o a _ _ (λ q.
      get-mapped g (map.remove m k) q
      ∙ ap (option_map (g q)) (map.get-remove o m k q)
      ∙ at_remove f g q (eq_by_cmp R q k) (map.get m q) (h q)
      ∙ sym (map.get-remove o (mapped f m) k q ∙ ap (cond (eq_by_cmp R q k) None) (get-mapped f m q)))

  -- an entry that is seen as the one before it
  pub mapped-over : (f g : K → X → Y) (m : FinMap R X) (k : K) (u v : X) → map.get m k ≡ Some u → g k v ≡ f k u → ((q : K) → eq_by_cmp R q k ≡ false → (x : X) → g q x ≡ f q x) → mapped g (map.insert m k v) ≡ mapped f m
  mapped-over f g m k u v there is h = map.same_map o a _ _ (λ q.
      get-mapped g (map.insert m k v) q
      ∙ ap (option_map (g q)) (map.get-insert o m k v q)
      ∙ over q (eq_by_cmp R q k) (tied a q k) (h q)
      ∙ sym (get-mapped f m q)) where
        each : (q : K) (r : Option X) → ((x : X) → g q x ≡ f q x) → option_map (g q) r ≡ option_map (f q) r
        each q None e = refl
        each q (Some x) e = ap Some (e x)

        over : (q : K) (b : Bool) → (b ≡ true → q ≡ k) → (b ≡ false → (x : X) → g q x ≡ f q x) → option_map (g q) (cond b (Some v) (map.get m q)) ≡ option_map (f q) (map.get m q)
        over q true e d = ap (λ z. Some (g z v)) (e refl) ∙ ap Some is ∙ sym (ap (option_map (f k)) there) ∙ ap (λ z. option_map (f z) (map.get m z)) (sym (e refl))
        over q false e d = each q (map.get m q) (d refl)

  -- the function changed at one key that is there
  pub mapped-at : (f g : K → X → Y) (m : FinMap R X) (k : K) (x : X) → map.get m k ≡ Some x → ((q : K) → eq_by_cmp R q k ≡ false → (x : X) → g q x ≡ f q x) → mapped g m ≡ map.insert (mapped f m) k (g k x)
  mapped-at f g m k x there h = map.same_map o a _ _ (λ q.
      get-mapped g m q
      ∙ at q (eq_by_cmp R q k) (tied a q k) (h q)
      ∙ sym (map.get-insert o (mapped f m) k (g k x) q ∙ ap (cond (eq_by_cmp R q k) (Some (g k x))) (get-mapped f m q))) where
        each : (q : K) (r : Option X) → ((x : X) → g q x ≡ f q x) → option_map (g q) r ≡ option_map (f q) r
        each q None e = refl
        each q (Some y) e = ap Some (e y)

        at : (q : K) (b : Bool) → (b ≡ true → q ≡ k) → (b ≡ false → (x : X) → g q x ≡ f q x) → option_map (g q) (map.get m q) ≡ cond b (Some (g k x)) (option_map (f q) (map.get m q))
        at q true e d = ap (λ z. option_map (g z) (map.get m z)) (e refl) ∙ ap (option_map (g k)) there
        at q false e d = each q (map.get m q) (d refl)

  pub mapped-same : (f g : K → X → Y) (m : FinMap R X) → ((q : K) (x : X) → map.get m q ≡ Some x → g q x ≡ f q x) → mapped g m ≡ mapped f m
  mapped-same f g m h = map.same_map o a _ _ (λ q. get-mapped g m q ∙ alike q (map.get m q) refl ∙ sym (get-mapped f m q)) where
    alike : (q : K) (r : Option X) → map.get m q ≡ r → option_map (g q) r ≡ option_map (f q) r
    alike q None e = refl
    alike q (Some x) e = ap Some (h q x e)

-- what is at a key, if it passes the test
abbrev pub passing : {X : Type 0} → (X → Bool) → Option X → Option X
passing f None = None
passing f (Some x) = cond (f x) (Some x) None

through : {X : Type 0} (p : X → Bool) (r : Option X) → cond (option_map_or p r false) r None ≡ passing p r
through p None = refl
through p (Some x) = refl

marked_if : {X : Type 0} (b : Bool) (x : X) → option_map (λ _. tt {0}) (cond b (Some x) None) ≡ cond b (Some (tt {0})) None
marked_if true x = refl
marked_if false x = refl

marked : {X : Type 0} (p : X → Bool) (r : Option X) → option_map (λ _. tt {0}) (passing p r) ≡ picked p r
marked p None = refl
marked p (Some x) = marked_if (p x) x

module _ {K X : Type 0} where
  pick_in : (p : K → X → Bool) (q k : K) (v : X) (b : Bool) (rest : Option X) → (b ≡ true → q ≡ k) → p k v ≡ true → picked (p q) (cond b (Some v) rest) ≡ cond b (Some (tt {0})) (picked (p q) rest)
  pick_in p q k v true rest e h = ap (λ z. cond (p z v) (Some (tt {0})) None) (e refl) ∙ ap (λ c. cond c (Some (tt {0})) None) h
  pick_in p q k v false rest e h = refl

  pick_over : {R : K → K → Ordering} (p : K → X → Bool) (m : FinMap R X) (q k : K) (v : X) (b : Bool) → (b ≡ true → q ≡ k) → picked (p k) (Some v) ≡ picked (p k) (map.get m k) → picked (p q) (cond b (Some v) (map.get m q)) ≡ picked (p q) (map.get m q)
  pick_over p m q k v true e h = ap (λ z. picked (p z) (Some v)) (e refl) ∙ h ∙ ap (λ z. picked (p z) (map.get m z)) (sym (e refl))
  pick_over p m q k v false e h = refl

  pick_out : (p : K → X → Bool) (q : K) (b : Bool) (rest : Option X) → picked (p q) (cond b None rest) ≡ cond b None (picked (p q) rest)
  pick_out p q true rest = refl
  pick_out p q false rest = refl

  pick_past : {R : K → K → Ordering} (p : K → X → Bool) (m : FinMap R X) (q k : K) (b : Bool) → (b ≡ true → q ≡ k) → picked (p k) (map.get m k) ≡ None → picked (p q) (cond b None (map.get m q)) ≡ picked (p q) (map.get m q)
  pick_past p m q k true e h = sym (ap (λ z. picked (p z) (map.get m z)) (e refl) ∙ h)
  pick_past p m q k false e h = refl

module _ {K X : Type 0} {R : K → K → Ordering} (o : IsTotalOrder R) (a : map.IsAntisymmetric R) where
  pub get-kept : (p : K → X → Bool) (m : FinMap R X) (q : K) → map.get (kept p m) q ≡ passing (p q) (map.get m q)
  unfolding kept
  get-kept p m q =
      let test : K → Bool = λ x. option_map_or (p x) (map.get m x) false in
      map.get-retain_keys m test q (λ x t. ap test (sym (a q x t)))
      ∙ through (p q) (map.get m q)

  pub get-chosen : (p : K → X → Bool) (m : FinMap R X) (q : K) → map.get (chosen p m) q ≡ picked (p q) (map.get m q)
  unfolding chosen
  get-chosen p m q =
      get-mapped o a (λ _ _. tt {0}) (kept p m) q
      ∙ ap (option_map (λ _. tt {0})) (get-kept p m q)
      ∙ marked (p q) (map.get m q)

  pub chosen-insert : (p : K → X → Bool) (m : FinMap R X) (k : K) (v : X) → p k v ≡ true → chosen p (map.insert m k v) ≡ map.insert (chosen p m) k tt
  chosen-insert p m k v h = map.same_map o a _ _ (λ q.
      get-chosen p (map.insert m k v) q
      ∙ ap (picked (p q)) (map.get-insert o m k v q)
      ∙ pick_in p q k v (eq_by_cmp R q k) (map.get m q) (tied a q k) h
      ∙ sym (map.get-insert o (chosen p m) k tt q ∙ ap (cond (eq_by_cmp R q k) (Some (tt {0}))) (get-chosen p m q)))

  -- an entry that is picked as the one before it
  pub chosen-over : (p : K → X → Bool) (m : FinMap R X) (k : K) (v : X) → picked (p k) (Some v) ≡ picked (p k) (map.get m k) → chosen p (map.insert m k v) ≡ chosen p m
  chosen-over p m k v h = map.same_map o a _ _ (λ q.
      get-chosen p (map.insert m k v) q
      ∙ ap (picked (p q)) (map.get-insert o m k v q)
      ∙ pick_over p m q k v (eq_by_cmp R q k) (tied a q k) h
      ∙ sym (get-chosen p m q))

  pub chosen-remove : (p : K → X → Bool) (m : FinMap R X) (k : K) → chosen p (map.remove m k) ≡ map.remove (chosen p m) k
  chosen-remove p m k = map.same_map o a _ _ (λ q.
      get-chosen p (map.remove m k) q
      ∙ ap (picked (p q)) (map.get-remove o m k q)
      ∙ pick_out p q (eq_by_cmp R q k) (map.get m q)
      ∙ sym (map.get-remove o (chosen p m) k q ∙ ap (cond (eq_by_cmp R q k) None) (get-chosen p m q)))

  pub chosen-past : (p : K → X → Bool) (m : FinMap R X) (k : K) → picked (p k) (map.get m k) ≡ None → chosen p (map.remove m k) ≡ chosen p m
  chosen-past p m k h = map.same_map o a _ _ (λ q.
      get-chosen p (map.remove m k) q
      ∙ ap (picked (p q)) (map.get-remove o m k q)
      ∙ pick_past p m q k (eq_by_cmp R q k) (tied a q k) h
      ∙ sym (get-chosen p m q))

  pub chosen-none : (p : K → X → Bool) (m : FinMap R X) → ((q : K) → picked (p q) (map.get m q) ≡ None) → chosen p m ≡ map.empty
  chosen-none p m h = map.same_map o a _ _ (λ q. get-chosen p m q ∙ h q ∙ sym (map.get-empty R q))
