-- A session that was heard is in the list and in the set.
use Rattle.std.proofs.Common.{◌≡◌, ℕ, ◌-◌, Bool, true, false, cond, not, ◌==◌, ◌||◌, List, [], ◌∷◌, ◌++◌, length, take, refl, ap, sym, ◌∙◌, arith, length-append}
use Rattle.std.proofs.lemmas.Bool.{eqb-true}
use Rattle.std.proofs.lemmas.Bool.Decides.{nat_tests}
use Rattle.std.proofs.lemmas.List.{take-append-le, take_all}
use Rattle.std.proofs.lemmas.List.Folds.{list_any-append}
use Rattle.std.specs.BTreeMap.{is_at}
use Rattle.std.specs.BTreeSet.{BTreeSet, contains}
use Rattle.std.specs.List.{list_any}
use Rattle.std.specs.Ordering.{nat_cmp}
use Rattle.std.specs.Prelude.{if◌then◌else◌, Result, Ok, Err, OnOk, is_ok}
use Rattle.kp_node.proofs.Maps.{no}
use Rattle.kp_node.specs.Spoken.{Knows, IsNoted}

at_is_eq : (k q : ℕ) → is_at (nat_cmp k) q ≡ (k == q)
at_is_eq k q = grind (arith, nat_tests)

last_or : (a b : Bool) → cond a true b ≡ (b || (a || false))
last_or true true = refl
last_or true false = refl
last_or false true = refl
last_or false false = refl

pub noted : (s n : BTreeSet ℕ) (ids : List ℕ) (k : ℕ) → Knows s ids → ((q : ℕ) → contains nat_cmp n q ≡ cond (is_at (nat_cmp k) q) true (contains nat_cmp s q)) → Knows n (ids ++ k ∷ [])
noted s n ids k knows put q = put q ∙ ap (λ b. cond b true (contains nat_cmp s q)) (at_is_eq k q) ∙ ap (cond (k == q) true) (knows q) ∙ last_or (k == q) (list_any (λ i. i == q) ids) ∙ sym (list_any-append (λ i. i == q) ids (k ∷ []))

-- what holds where it succeeded holds where it did
pub where_ok : {A E : Type 0} (P : Type 0) (r : Result A E) → is_ok r ≡ true → OnOk r P → P
where_ok P (Ok x) e h = h
where_ok P (Err y) e h = no false refl e

-- ---- taken back

-- one that is new stands last, and isn't among those before
pub record IsLast (m : List ℕ) (k : ℕ) (ids : List ℕ) : Type 0 where
  pub last : ids ≡ m ++ k ∷ []
  pub apart : list_any (λ i. i == k) m ≡ false

is_last : (b : Bool) (m : List ℕ) (k : ℕ) (ids : List ℕ) → list_any (λ i. i == k) m ≡ b → true ≡ not b → ids ≡ (if b then m else m ++ k ∷ []) → IsLast m k ids
is_last true m k ids e f is = no false refl (sym f)
is_last false m k ids e f is = record { last = is; apart = e }

pub noted_last : (m : List ℕ) (k : ℕ) (ids : List ℕ) → IsNoted m k true ids → IsLast m k ids
noted_last m k ids h = is_last (list_any (λ i. i == k) m) m k ids refl h.1 h.0

without_last : (k q : ℕ) (m : List ℕ) (b : Bool) → (k == q) ≡ b → list_any (λ i. i == k) m ≡ false → cond b false (list_any (λ i. i == q) m || (b || false)) ≡ list_any (λ i. i == q) m
without_last k q m true e apart = sym apart ∙ ap (λ j. list_any (λ i. i == j) m) (eqb-true k q e)
without_last k q m false e apart = or_none (list_any (λ i. i == q) m)
  where
    or_none : (c : Bool) → (c || (false || false)) ≡ c
    or_none true = refl
    or_none false = refl

pub unnoted : (s n : BTreeSet ℕ) (ids m : List ℕ) (k : ℕ) → Knows s ids → IsLast m k ids → ((q : ℕ) → contains nat_cmp n q ≡ cond (is_at (nat_cmp k) q) false (contains nat_cmp s q)) → Knows n m
unnoted s n ids m k knows h put q = put q ∙ ap (λ b. cond b false (contains nat_cmp s q)) (at_is_eq k q)
    ∙ ap (cond (k == q) false) (knows q ∙ ap (list_any (λ i. i == q)) h.last ∙ list_any-append (λ i. i == q) m (k ∷ []))
    ∙ without_last k q m (k == q) refl h.apart

pub popped : (ids left m : List ℕ) (k n : ℕ) → n ≡ length ids → left ≡ take (n - 1) ids → IsLast m k ids → left ≡ m
popped ids left m k n all rest h =
    let l = all ∙ ap length h.last ∙ length-append m (k ∷ []) in
    let z : n - 1 ≡ length m = omega (arith, l) in
    rest ∙ (λ i. take (z i) (h.last i)) ∙ take-append-le (length m) m (k ∷ []) (omega arith) ∙ take_all (length m) m (omega arith)

pub left_so : (m ids new : List ℕ) (k : ℕ) (fresh : Bool) → fresh ≡ false → IsNoted m k fresh ids → new ≡ ids → new ≡ m
left_so m ids new k fresh none h is = is ∙ h.0 ∙ ap (λ b. if b then m else m ++ k ∷ []) (stays (list_any (λ i. i == k) m) (sym h.1 ∙ none))
  where
    stays : (b : Bool) → not b ≡ false → b ≡ true
    stays true e = refl
    stays false e = no true e refl

pub noted_so : (ids new : List ℕ) (k : ℕ) (b : Bool) → list_any (λ i. i == k) ids ≡ b → new ≡ (if b then ids else ids ++ k ∷ []) → IsNoted ids k (not b) new
noted_so ids new k b e is = (is ∙ ap (λ c. if c then ids else ids ++ k ∷ []) (sym e), ap not (sym e))
