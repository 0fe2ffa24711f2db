-- The counts of keys in their groups, and what becomes of them with one value more or less.
use Rattle.std.proofs.Common.{◌≡◌, ℕ, zero, suc, ◌+◌, ◌-◌, ◌<◌, Bool, true, false, cond, nat_eq, ◌&&◌, List, [], ◌∷◌, ◌++◌, length, Option, Some, None, refl, ap, sym, ◌∙◌, subst, arith}
use Rattle.std.specs.Prelude.{option_and_then, nat_lt}
use Rattle.std.specs.Ordering.{nat_cmp}
use Rattle.std.specs.Cmp.{IsEquivalence, nat_eq_equiv}
use Rattle.std.specs.Map.{lookup}
use Rattle.std.specs.BTreeMap as tree
use Rattle.std.specs.BTreeMap.{BTreeMap}
use Rattle.std.proofs.lemmas.Bool.{lt-ltb}
use Rattle.std.specs.FinMap.{FinMap, get}
use Rattle.std.proofs.lemmas.Bool.{eqb-true}
use Rattle.kp_layers.specs.declared.cells.Cell.{Cell}
use Rattle.kp_layers.specs.declared.history.Write.{Write}
use Rattle.kp_layers.specs.Overlay.{put, overlay}
use Rattle.kp_layers.specs.Chains.{shown, committed_in, ChangesNewest}
use Rattle.kp_layers.specs.Grouped.{number, positive, one, read, has_keys, is_group, count_at, IsFilled, Adds, Takes, Keeps, is_of, times, HasIndex, IsSound}
use Rattle.kp_layers.proofs.Overlaid.{get-put}

some-not-none : {A B : Type 0} {x : A} → Some x ≡ None → B
some-not-none e = absurd (subst (λ o. IsThere o) e tt) where
  IsThere : {A : Type 0} → Option A → Type 0
  IsThere None = ⊥
  IsThere (Some x) = Unit {0}

-- a map that has something at a key isn't empty
pub filled_by : (m : BTreeMap ℕ ℕ) (k n : ℕ) → tree.get nat_cmp m k ≡ Some n → has_keys (Some m) ≡ true
filled_by m k n e = entries_filled m.entries e where
  entries_filled : (es : List (ℕ × ℕ)) → lookup (tree.is_at (nat_cmp k)) es ≡ Some n → nat_lt 0 (length es) ≡ true
  entries_filled [] e = some-not-none (sym e)
  entries_filled (x ∷ es) e = lt-ltb 0 (length (x ∷ es)) (omega arith)

-- ---- a group's counts are written
picked : (m : BTreeMap ℕ ℕ) (k : ℕ) (b c : Bool) (o : Option (BTreeMap ℕ ℕ)) (x : Option ℕ) → (b ≡ true → tree.get nat_cmp m k ≡ cond c x (read o k)) → read (cond b (Some m) o) k ≡ cond (b && c) x (read o k)
picked m k true c o x h = h refl
picked m k false c o x h = refl

both_filled : (m : BTreeMap ℕ ℕ) (b : Bool) (o : Option (BTreeMap ℕ ℕ)) → has_keys (Some m) ≡ true → has_keys o ≡ true → has_keys (cond b (Some m) o) ≡ true
both_filled m true o h g = h
both_filled m false o h g = g

module _ {G : Type 0} (eq : G → G → Bool) (laws : IsEquivalence eq) where
  look_same : (es : List (G × BTreeMap ℕ ℕ)) (h g : G) → eq h g ≡ true → lookup (eq h) es ≡ lookup (eq g) es
  look_same [] h g e = refl
  look_same (x ∷ es) h g e = λ i. cond (laws.congr h g x.0 e i) (Some x.1) (look_same es h g e i)

  module _ (old new : List (G × BTreeMap ℕ ℕ)) (group : G) (m : BTreeMap ℕ ℕ) (look : (g : G) → lookup (eq g) new ≡ cond (eq group g) (Some m) (lookup (eq g) old)) where
    -- one more at the key
    pub added : (key : ℕ) → ((k : ℕ) → tree.get nat_cmp m k ≡ cond (nat_eq key k) (Some (number (read (lookup (eq group) old) k) + 1)) (read (lookup (eq group) old) k)) → Adds eq old new (Some group) key
    added key at = record {
      counts = λ g k. ap (λ o. read o k) (look g) ∙ picked m k (eq group g) (nat_eq key k) (lookup (eq g) old) (Some (number (read (lookup (eq g) old) k) + 1))
          (λ e. at k ∙ ap (λ o. cond (nat_eq key k) (Some (number (read o k) + 1)) (read o k)) (look_same old group g e));
      filled = λ h g. ap has_keys (look g) ∙ both_filled m (eq group g) (lookup (eq g) old)
          (filled_by m key _ (at key ∙ ap (λ b. cond b (Some (number (read (lookup (eq group) old) key) + 1)) (read (lookup (eq group) old) key)) (nat_eq_equiv.refl key)))
          (h g);
    }

-- ---- the index and the writes
number-positive : (n : ℕ) → number (positive n) ≡ n
number-positive zero = refl
number-positive (suc n) = refl

some_more : (n : ℕ) → Some (n + 1) ≡ positive (n + 1)
some_more n = let e : n + 1 ≡ suc n = omega arith in ap Some e ∙ ap positive (sym e)

more : (b : Bool) (e : ℕ) → cond b (Some (number (positive e) + 1)) (positive e) ≡ positive (e + one b)
more true e = ap (λ n. Some (n + 1)) (number-positive e) ∙ some_more e
more false e = let h : e ≡ e + 0 = omega arith in ap positive h

less : (b : Bool) (e n : ℕ) → e ≡ n + one b → cond b (positive (number (positive e) - 1)) (positive e) ≡ positive n
less true e n h = let k : e - 1 ≡ n = omega arith in ap (λ m. positive (m - 1)) (number-positive e) ∙ ap positive k
less false e n h = let k : e ≡ n = omega arith in ap positive k

one-and : (a b : Bool) → one (a && b) ≡ one (b && a)
one-and true true = refl
one-and true false = refl
one-and false true = refl
one-and false false = refl

front : (c p q x : Bool) (t : ℕ) → (c ≡ true → p ≡ x) → one x + (one (c && q) + t) ≡ (one (cond c q x) + t) + one (p && c)
front true p q x t h =
    let e : one (p && true) ≡ one p = one-and p true in
    let f : one p ≡ one x = ap one (h refl) in
    omega arith
front false p q x t h =
    let e : one (p && false) ≡ 0 = one-and p false in
    omega arith

pub one-true : (b : Bool) → b ≡ true → 0 < one b
one-true b e = let h : one b ≡ 1 = ap one e in omega arith

no_split : {A P : Type 0} (before after : List A) (x : A) → [] ≡ before ++ x ∷ after → P
no_split [] after x e = (cc)
no_split (b ∷ before) after x e = (cc)

module _ {G V : Type 0} (eq : G → G → Bool) (of : V → Option G) where
  times-push : (g : G) (k : ℕ) (ws : List (Write V)) (w : Write V) → times eq of g k (ws ++ w ∷ []) ≡ times eq of g k ws + one (nat_eq w.key k && is_of eq of g w.value)
  times-push g k [] w = omega arith
  times-push g k (x ∷ ws) w =
      let e : times eq of g k (ws ++ w ∷ []) ≡ times eq of g k ws + one (nat_eq w.key k && is_of eq of g w.value) = times-push g k ws w in
      omega arith

  of_cond : (g : G) (c : Bool) (a b : Option V) → is_of eq of g (cond c a b) ≡ cond c (is_of eq of g a) (is_of eq of g b)
  of_cond g true a b = refl
  of_cond g false a b = refl

  module _ (groups groups' : List (G × BTreeMap ℕ ℕ)) (cells cells' : List (ℕ × Cell V)) where
    pub index_keeps : (log : List (Write V)) → HasIndex eq of groups cells log → Keeps eq groups groups' → HasIndex eq of groups' cells log
    index_keeps log h keeps = record {
      counted = λ g k. keeps.counts g k ∙ h.counted g k;
      filled = keeps.filled h.filled;
    }

    pub index_push : (full log : List (Write V)) (w : Write V) (group : Option G) (key number : ℕ) → full ≡ log ++ w ∷ [] → HasIndex eq of groups cells log → Adds eq groups groups' group key → ChangesNewest cells cells' key number → w.key ≡ key → group ≡ option_and_then of w.value → HasIndex eq of groups' cells' full
    index_push full log w group key n is h adds changes same_key in_group = record {
      counted = λ g k.
          let b : Bool = is_group eq group g && nat_eq key k in
          let base : ℕ = one (is_of eq of g (committed_in (lookup (nat_eq k) cells))) in
          let same_bit : one b ≡ one (nat_eq w.key k && is_of eq of g w.value) =
          ap (λ o. one (is_group eq o g && nat_eq key k)) in_group ∙ ap (λ i. one (is_of eq of g w.value && nat_eq i k)) (sym same_key) ∙ one-and (is_of eq of g w.value) (nat_eq w.key k) in
          let pushed : times eq of g k (log ++ w ∷ []) ≡ times eq of g k log + one (nat_eq w.key k && is_of eq of g w.value) = times-push g k log w in
          let all : base + times eq of g k log + one b ≡ base + times eq of g k (log ++ w ∷ []) = omega (arith, same_bit, pushed) in
          adds.counts g k
          ∙ ap (λ c. cond b (Some (number c + 1)) c) (h.counted g k)
          ∙ more b (base + times eq of g k log)
          ∙ ap positive all
          ∙ ap (λ o. positive (one (is_of eq of g o) + times eq of g k (log ++ w ∷ []))) (sym (changes.committed k))
          ∙ ap (λ l. positive (one (is_of eq of g (committed_in (lookup (nat_eq k) cells'))) + times eq of g k l)) (sym is);
      filled = adds.filled h.filled;
    }

    pub index_pop_back : (full log : List (Write V)) (w : Write V) (group : Option G) → full ≡ log ++ w ∷ [] → HasIndex eq of groups cells full → Takes eq groups groups' group w.key → ((k : ℕ) → committed_in (lookup (nat_eq k) cells') ≡ committed_in (lookup (nat_eq k) cells)) → group ≡ option_and_then of w.value → HasIndex eq of groups' cells' log
    index_pop_back full log w group is h takes same in_group = record {
      counted = λ g k.
          let b : Bool = is_group eq group g && nat_eq w.key k in
          let base : ℕ = one (is_of eq of g (committed_in (lookup (nat_eq k) cells))) in
          let same_bit : one b ≡ one (nat_eq w.key k && is_of eq of g w.value) =
          ap (λ o. one (is_group eq o g && nat_eq w.key k)) in_group ∙ one-and (is_of eq of g w.value) (nat_eq w.key k) in
          let pushed : times eq of g k full ≡ times eq of g k log + one (nat_eq w.key k && is_of eq of g w.value) = ap (times eq of g k) is ∙ times-push g k log w in
          let all : base + times eq of g k full ≡ base + times eq of g k log + one b = omega (arith, same_bit, pushed) in
          takes.counts g k
          ∙ ap (λ c. cond b (positive (number c - 1)) c) (h.counted g k)
          ∙ less b (base + times eq of g k full) (base + times eq of g k log) all
          ∙ ap (λ o. positive (one (is_of eq of g o) + times eq of g k log)) (sym (same k));
      filled = takes.filled h.filled;
    }

    pub index_pop_front : (full log : List (Write V)) (w : Write V) (group : Option G) → full ≡ w ∷ log → HasIndex eq of groups cells full → Takes eq groups groups' group w.key → ((k : ℕ) → committed_in (lookup (nat_eq k) cells') ≡ cond (nat_eq w.key k) w.value (committed_in (lookup (nat_eq k) cells))) → group ≡ option_and_then of (committed_in (lookup (nat_eq w.key) cells)) → HasIndex eq of groups' cells' log
    index_pop_front full log w group is h takes changes in_group = record {
      counted = λ g k.
          let p : Bool = is_group eq group g in
          let c : Bool = nat_eq w.key k in
          let x : Bool = is_of eq of g (committed_in (lookup (nat_eq k) cells)) in
          let q : Bool = is_of eq of g w.value in
          let t : ℕ = times eq of g k log in
          takes.counts g k
          ∙ ap (λ r. cond (p && c) (positive (number r - 1)) r) (h.counted g k ∙ ap (λ l. positive (one x + times eq of g k l)) is)
          ∙ less (p && c) (one x + (one (c && q) + t)) (one (cond c q x) + t)
          (front c p q x t (λ e. ap (λ o. is_group eq o g) in_group ∙ ap (λ i. is_of eq of g (committed_in (lookup (nat_eq i) cells))) (eqb-true w.key k e)))
          ∙ ap (λ b. positive (one b + t)) (sym (of_cond g c w.value (committed_in (lookup (nat_eq k) cells))) ∙ ap (is_of eq of g) (sym (changes k)));
      filled = takes.filled h.filled;
    }

    -- a value is added and taken again
    pub index_restored : (between : List (G × BTreeMap ℕ ℕ)) (log : List (Write V)) (group : Option G) (key : ℕ) → HasIndex eq of groups cells log → Adds eq groups between group key → Takes eq between groups' group key → HasIndex eq of groups' cells log
    index_restored between log group key h adds takes = record {
      counted = λ g k.
          let b : Bool = is_group eq group g && nat_eq key k in
          let e : ℕ = one (is_of eq of g (committed_in (lookup (nat_eq k) cells))) + times eq of g k log in
          takes.counts g k
          ∙ ap (λ c. cond b (positive (number c - 1)) c) (adds.counts g k ∙ ap (λ c. cond b (Some (number c + 1)) c) (h.counted g k) ∙ more b e)
          ∙ less b (e + one b) e refl;
      filled = takes.filled (adds.filled h.filled);
    }

  -- ---- a value of the group is counted
  above_none : (c q x : Bool) (t : ℕ) → 0 < one (cond c q x) + t → 0 < one x + (one (c && q) + t)
  above_none true q x t h = omega arith
  above_none false q x t h = omega arith

  pub counted_value : (m : FinMap nat_cmp V) (log : List (Write V)) (g : G) (k : ℕ) → is_of eq of g (get (overlay m (shown log)) k) ≡ true → 0 < one (is_of eq of g (get m k)) + times eq of g k log
  counted_value m [] g k e = let h : 0 < one (is_of eq of g (get m k)) = one-true _ e in omega arith
  counted_value m (w ∷ ws) g k e =
      let h : 0 < one (is_of eq of g (get (put m w.key w.value) k)) + times eq of g k ws = counted_value (put m w.key w.value) ws g k e in
      let at : one (is_of eq of g (get (put m w.key w.value) k)) ≡ one (cond (nat_eq w.key k) (is_of eq of g w.value) (is_of eq of g (get m k))) =
      ap (λ o. one (is_of eq of g o)) (get-put m w.key w.value k ∙ ap (λ b. cond b w.value (get m k)) (nat_eq_equiv.symm k w.key)) ∙ ap one (of_cond g (nat_eq w.key k) w.value (get m k)) in
      above_none (nat_eq w.key k) (is_of eq of g w.value) (is_of eq of g (get m k)) (times eq of g k ws) (omega arith)

  -- what is sound stays so where a value is added and taken again
  pub sound_restored : (groups between groups' : List (G × BTreeMap ℕ ℕ)) (cells cells' : List (ℕ × Cell V)) (log log' : List (Write V)) (first : ℕ) (group : Option G) (key : ℕ) → cells' ≡ cells → log' ≡ log → IsSound eq of groups cells log first → Adds eq groups between group key → Takes eq between groups' group key → IsSound eq of groups' cells' log' first
  sound_restored groups between groups' cells cells' log log' first group key same_cells same_log h adds takes =
      let P : List (ℕ × Cell V) → List (Write V) → Type 0 = λ es ws. IsSound eq of groups' es ws first in
      subst (λ es. P es log') (sym same_cells) (subst (P cells) (sym same_log) record {
        chains = h.chains;
        index = index_restored groups groups' cells cells between log group key h.index adds takes;
      })

  -- no values
  pub sound_empty : (groups : List (G × BTreeMap ℕ ℕ)) (cells : List (ℕ × Cell V)) (log : List (Write V)) → cells ≡ [] → log ≡ [] → ((g : G) (k : ℕ) → count_at eq groups g k ≡ None) → IsFilled eq groups → IsSound eq of groups cells log 0
  sound_empty groups cells log no_cells no_log none filled =
      let P : List (ℕ × Cell V) → List (Write V) → Type 0 = λ es ws. IsSound eq of groups es ws 0 in
      subst (λ es. P es log) (sym no_cells) (subst (P []) (sym no_log) record {
        chains = record { newest = λ k. refl; previous = λ before after w e. no_split before after w e; filled = λ k. refl; fits = omega arith };
        index = record { counted = λ g k. none g k; filled = filled };
      })
