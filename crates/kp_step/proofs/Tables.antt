-- A map of connections in which places change.
use Rattle.std.proofs.Common.{◌≡◌, ℕ, Bool, true, false, cond, ◌&&◌, List, [], ◌∷◌, Option, Some, None, is_some, refl, ap, sym, subst, ◌∙◌}
use Rattle.std.specs.Prelude.{map, T}
use Rattle.std.specs.Option.{option_map}
use Rattle.std.specs.declared.cmp.Ordering.{Ordering}
use Rattle.std.specs.declared.cmp.Ordering.TheVariants.{Less, Equal, Greater}
use Rattle.std.specs.Ordering.{nat_cmp, eq_by_cmp, is_eq, is_lt}
use Rattle.std.specs.Cmp.{nat_cmp_total}
use Rattle.std.specs.FinMap as map
use Rattle.std.specs.FinMap.{FinMap, find, is_sorted, nat_cmp-IsAntisymmetric}
use Rattle.std.specs.FinMap.Entries.{below_all}
use Rattle.kp_step.specs.Tables.{mapped}

pub no : {A : Type 0} (b : Bool) → b ≡ false → b ≡ true → A
no true e h = absurd (subst T e tt)
no false e h = absurd (subst T (sym h) tt)

pub not_some : {A : Type 0} {x : A} → Some x ≡ None → ⊥
not_some e = no false refl (sym (ap is_some e))

equal : (r : Ordering) → is_eq r ≡ true → r ≡ Equal
equal Less h = no false refl h
equal Equal h = refl
equal Greater h = no false refl h

pub tied : (q k : ℕ) → eq_by_cmp nat_cmp q k ≡ true → q ≡ k
tied q k h = nat_cmp-IsAntisymmetric q k (equal (nat_cmp q k) h)

module _ {X Y : Type 0} where
  below_same : (f : ℕ → X → Y) (k : ℕ) (es : List (ℕ × X)) → below_all nat_cmp k (map (λ e. (e.0, f e.0 e.1)) es) ≡ below_all nat_cmp k es
  below_same f k [] = refl
  below_same f k (e ∷ es) = ap (λ b. is_lt (nat_cmp k e.0) && b) (below_same f k es)

  sorted_same : (f : ℕ → X → Y) (es : List (ℕ × X)) → is_sorted nat_cmp (map (λ e. (e.0, f e.0 e.1)) es) ≡ is_sorted nat_cmp es
  sorted_same f [] = refl
  sorted_same f (e ∷ es) = λ i. below_same f e.0 es i && sorted_same f es i

  step : (f : ℕ → X → Y) (q x : ℕ) (v : X) (b : Bool) (rest : Option X) → (b ≡ true → q ≡ x) → cond b (Some (f x v)) (option_map (f q) rest) ≡ option_map (f q) (cond b (Some v) rest)
  step f q x v true rest h = ap (λ y. Some (f y v)) (sym (h refl))
  step f q x v false rest h = refl

  find-map : (f : ℕ → X → Y) (q : ℕ) (es : List (ℕ × X)) → find nat_cmp q (map (λ e. (e.0, f e.0 e.1)) es) ≡ option_map (f q) (find nat_cmp q es)
  find-map f q [] = refl
  find-map f q (e ∷ es) = ap (cond (eq_by_cmp nat_cmp q e.0) (Some (f e.0 e.1))) (find-map f q es) ∙ step f q e.0 e.1 (eq_by_cmp nat_cmp q e.0) (find nat_cmp q es) (tied q e.0)

  pub get-mapped : (f : ℕ → X → Y) (m : FinMap nat_cmp X) (q : ℕ) → map.get (mapped f m) q ≡ option_map (f q) (map.get m q)
  unfolding mapped
  get-mapped f m q =
      map.get-from_sorted nat_cmp _ q (subst T (sym (sorted_same f (map.entries m))) (map.entries_sorted m))
      ∙ find-map f q (map.entries m)
      ∙ ap (option_map (f q)) (sym (map.get-entries m q))

module _ {X : Type 0} where
  pub get-insert : (m : FinMap nat_cmp X) (k : ℕ) (v : X) (q : ℕ) → map.get (map.insert m k v) q ≡ cond (eq_by_cmp nat_cmp q k) (Some v) (map.get m q)
  get-insert m k v q = map.get-insert nat_cmp_total m k v q

  pub same : (m n : FinMap nat_cmp X) → ((q : ℕ) → map.get m q ≡ map.get n q) → m ≡ n
  same m n h = map.same_map nat_cmp_total nat_cmp-IsAntisymmetric m n h

  -- what is there, put there again
  again : (k : ℕ) (v : X) (m : FinMap nat_cmp X) (q : ℕ) (b : Bool) → map.get m k ≡ Some v → (b ≡ true → q ≡ k) → cond b (Some v) (map.get m q) ≡ map.get m q
  again k v m q true there e = sym there ∙ ap (map.get m) (sym (e refl))
  again k v m q false there e = refl

  pub insert-same : (m : FinMap nat_cmp X) (k : ℕ) (v : X) → map.get m k ≡ Some v → map.insert m k v ≡ m
  insert-same m k v there = same _ _ (λ q. get-insert m k v q ∙ again k v m q (eq_by_cmp nat_cmp q k) there (tied q k))
