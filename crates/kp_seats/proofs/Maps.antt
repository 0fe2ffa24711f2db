-- The map that a hash map stands for.
use Rattle.std.proofs.Common.{◌≡◌, ℕ, ◌+◌, Bool, true, false, cond, nat_eq, List, [], ◌∷◌, length, Some, None, is_some, Result, Ok, Err, OnErr, refl, ap, sym, subst, ◌∙◌, arith}
use Rattle.std.specs.Prelude.{T}
use Rattle.std.specs.Map.{keys_of}
use Rattle.std.specs.List.{AllByRecursion, IsDistinct}
use Rattle.std.specs.Ordering.{nat_cmp}
use Rattle.std.specs.Cmp.{nat_cmp_total, unsigned_tied, nat_eq_equiv}
use Rattle.std.specs.FinMap as map
use Rattle.std.specs.FinMap.{FinMap, get-insert, get-remove, get-empty, same_map, nat_cmp-IsAntisymmetric}
use Rattle.kp_seats.specs.Index.{at, base_of}

pub no : {A : Type 0} (b : Bool) → b ≡ false → b ≡ true → A
no true e h = absurd (subst T e tt)
no false e h = absurd (subst T (sym h) tt)

-- what holds, holds where there is an error
pub on_err : {V E : Type 0} (r : Result V E) {P : Type 0} → P → OnErr r P
on_err (Ok x) p = tt
on_err (Err e) p = p

module _ {X : Type 0} where
  pub get-base_of : (es : List (ℕ × X)) (q : ℕ) → map.get (base_of es) q ≡ at es q
  get-base_of [] q = get-empty nat_cmp q
  get-base_of (e ∷ es) q =
      get-insert nat_cmp_total (base_of es) e.0 e.1 q
      ∙ ap (λ b. cond b (Some e.1) (map.get (base_of es) q)) (unsigned_tied q e.0)
      ∙ ap (cond (nat_eq q e.0) (Some e.1)) (get-base_of es q)

  pub same : (m n : FinMap nat_cmp X) → ((q : ℕ) → map.get m q ≡ map.get n q) → m ≡ n
  same m n h = same_map nat_cmp_total nat_cmp-IsAntisymmetric m n h

  pub get-put : (m : FinMap nat_cmp X) (k : ℕ) (v : X) (q : ℕ) → map.get (map.insert m k v) q ≡ cond (nat_eq k q) (Some v) (map.get m q)
  get-put m k v q = get-insert nat_cmp_total m k v q ∙ ap (λ b. cond b (Some v) (map.get m q)) (unsigned_tied q k ∙ nat_eq_equiv.symm q k)

  pub get-taken : (m : FinMap nat_cmp X) (k q : ℕ) → map.get (map.remove m k) q ≡ cond (nat_eq k q) None (map.get m q)
  get-taken m k q = get-remove nat_cmp_total m k q ∙ ap (λ b. cond b None (map.get m q)) (unsigned_tied q k ∙ nat_eq_equiv.symm q k)

  module _ (es es' : List (ℕ × X)) (m : FinMap nat_cmp X) (is : base_of es ≡ m) where
    pub at_is : (q : ℕ) → at es q ≡ map.get m q
    at_is q = sym (get-base_of es q) ∙ ap (λ n. map.get n q) is

    pub base_kept : ((q : ℕ) → at es' q ≡ at es q) → base_of es' ≡ m
    base_kept h = same _ _ (λ q. get-base_of es' q ∙ h q ∙ at_is q)

    pub base_put : (k : ℕ) (v : X) → ((q : ℕ) → at es' q ≡ cond (nat_eq k q) (Some v) (at es q)) → base_of es' ≡ map.insert m k v
    base_put k v h = same _ _ (λ q. get-base_of es' q ∙ h q ∙ ap (cond (nat_eq k q) (Some v)) (at_is q) ∙ sym (get-put m k v q))

    pub base_taken : (k : ℕ) → ((q : ℕ) → at es' q ≡ cond (nat_eq k q) None (at es q)) → base_of es' ≡ map.remove m k
    base_taken k h = same _ _ (λ q. get-base_of es' q ∙ h q ∙ ap (cond (nat_eq k q) None) (at_is q) ∙ sym (get-taken m k q))

  pub base_empty : (es : List (ℕ × X)) → es ≡ [] → base_of es ≡ map.empty
  base_empty es e = ap base_of e

  -- ---- as many as there are entries
  no_other : (k : ℕ) (es : List (ℕ × X)) → AllByRecursion (λ y. nat_eq k y ≡ false) (keys_of es) → at es k ≡ None
  no_other k [] h = refl
  no_other k (e ∷ es) h = ap (λ b. cond b (Some e.1) (at es k)) h.0 ∙ no_other k es h.1

  pub len-base_of : (es : List (ℕ × X)) → IsDistinct nat_eq (keys_of es) → map.len (base_of es) ≡ length es
  unfolding IsDistinct
  len-base_of [] h = map.len-empty nat_cmp X
  len-base_of (e ∷ es) h =
      let none : map.get (base_of es) e.0 ≡ None = get-base_of es e.0 ∙ no_other e.0 es h.0 in
      map.len-insert nat_cmp_total (base_of es) e.0 e.1
      ∙ ap (λ b. cond b (map.len (base_of es)) (map.len (base_of es) + 1)) (ap is_some none)
      ∙ ap (λ n. n + 1) (len-base_of es h.1)
      ∙ omega arith
