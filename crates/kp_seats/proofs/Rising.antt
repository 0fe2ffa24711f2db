-- Numbers in their order, and those above one of them.
use Rattle.std.proofs.Common.{◌≡◌, ℕ, ◌<◌, ◌≤◌, Bool, true, false, cond, nat_eq, nat_lt, ◌&&◌, ◌||◌, List, [], ◌∷◌, Option, Some, None, refl, ap, sym, subst, ◌∙◌, arith}
use Rattle.std.specs.Prelude.{map, T, slice_get}
use Rattle.std.specs.List.{list_any, filter, AllByRecursion}
use Rattle.std.specs.List.Sorted.{IsStrictlySortedBy}
use Rattle.std.specs.declared.cmp.Ordering.{Ordering}
use Rattle.std.specs.declared.cmp.Ordering.TheVariants.{Less, Equal, Greater}
use Rattle.std.specs.Ordering.{nat_cmp, is_lt, MatchOrdering}
use Rattle.std.specs.Cmp.{nat_eq_equiv, ranks}
use Rattle.std.specs.FinMap.Entries.{below_all, is_sorted}
use Rattle.std.proofs.lemmas.Bool.{eqb-true, ltb-true, ltb-false, lt-ltb, le-ltb}
use Rattle.std.proofs.lemmas.Map.Views.{any-filter_same}
use Rattle.kp_seats.proofs.Maps.{no}

abbrev pub has : List ℕ → ℕ → Bool
has ks q = list_any (nat_eq q) ks

-- each number is below those behind it
abbrev pub Rises : List ℕ → Type 0
Rises [] = Unit {0}
Rises (k ∷ ks) = ((q : ℕ) → has ks q ≡ true → k < q) × Rises ks

either : (b c : Bool) {P : Type 0} → (b || c) ≡ true → (b ≡ true → P) → (c ≡ true → P) → P
either true c h f g = f refl
either false c h f g = g h

less : (a b : ℕ) → nat_cmp a b ≡ Less → a < b
less a b h = subst (λ r. MatchOrdering r (a < b) (a ≡ b) (b < a)) h (ranks a b)

is_less : (r : Ordering) → T (is_lt r) → r ≡ Less
is_less Less h = refl
is_less Equal h = absurd h
is_less Greater h = absurd h

first : (a b : Bool) → T (a && b) → T a
first true b h = tt
first false b h = h

second : (a b : Bool) → T (a && b) → T b
second true b h = h
second false b h = absurd h

lower : (k : ℕ) (ks : List ℕ) → AllByRecursion (λ y. nat_cmp k y ≡ Less) ks → (q : ℕ) → has ks q ≡ true → k < q
lower k [] h q e = no false refl e
lower k (x ∷ xs) h q e = either (nat_eq q x) (has xs q) e (λ s. subst (λ n. k < n) (sym (eqb-true q x s)) (less k x h.0)) (λ s. lower k xs h.1 q s)

pub rises_sorted : (ks : List ℕ) → IsStrictlySortedBy nat_cmp ks → Rises ks
unfolding IsStrictlySortedBy
rises_sorted [] h = tt
rises_sorted (k ∷ ks) h = (lower k ks h.0, rises_sorted ks h.1)

module _ {X : Type 0} where
  lower_entries : (k : ℕ) (es : List (ℕ × X)) → T (below_all nat_cmp k es) → AllByRecursion (λ y. nat_cmp k y ≡ Less) (map (λ e. e.0) es)
  lower_entries k [] h = tt
  lower_entries k (e ∷ es) h = (is_less _ (first _ _ h), lower_entries k es (second _ _ h))

  pub rises_entries : (es : List (ℕ × X)) → T (is_sorted nat_cmp es) → Rises (map (λ e. e.0) es)
  rises_entries [] h = tt
  rises_entries (e ∷ es) h = (lower e.0 _ (lower_entries e.0 es (first _ _ h)), rises_entries es (second _ _ h))

-- ---- two lists of the same numbers that rise are the same
here : (k : ℕ) (ks : List ℕ) → has (k ∷ ks) k ≡ true
here k ks = ap (λ b. b || has ks k) (nat_eq_equiv.refl k)

-- the first number is at most each of them
at_most : (k q : ℕ) (ks : List ℕ) → ((q : ℕ) → has ks q ≡ true → k < q) → has (k ∷ ks) q ≡ true → k ≤ q
at_most k q ks h e = either (nat_eq q k) (has ks q) e (λ s. omega (arith, eqb-true q k s)) (λ s. omega (arith, h q s))

behind : (k q : ℕ) (b : Bool) (ks ls : List ℕ) → nat_eq q k ≡ b → ((q : ℕ) → has ks q ≡ true → k < q) → ((q : ℕ) → has ls q ≡ true → k < q) → (nat_eq q k || has ks q) ≡ (nat_eq q k || has ls q) → has ks q ≡ has ls q
behind k q false ks ls e f g h = sym (ap (λ c. c || has ks q) e) ∙ h ∙ ap (λ c. c || has ls q) e
behind k q true ks ls e f g h = none ks f ∙ sym (none ls g) where
  none : (ns : List ℕ) → ((q : ℕ) → has ns q ≡ true → k < q) → has ns q ≡ false
  none ns f = by (has ns q) refl where
    by : (c : Bool) → has ns q ≡ c → c ≡ false
    by true s = absurd (omega (arith, f q s, eqb-true q k e))
    by false s = refl

pub same_rising : (ks ls : List ℕ) → Rises ks → Rises ls → ((q : ℕ) → has ks q ≡ has ls q) → ks ≡ ls
same_rising [] [] f g h = refl
same_rising [] (l ∷ ls) f g h = no false refl (h l ∙ here l ls)
same_rising (k ∷ ks) [] f g h = no false refl (sym (h k) ∙ here k ks)
same_rising (k ∷ ks) (l ∷ ls) f g h =
    let one : k ≤ l = at_most k l ks f.0 (h l ∙ here l ls) in
    let two : l ≤ k = at_most l k ls g.0 (sym (h k) ∙ here k ks) in
    let e : k ≡ l = omega (arith, one, two) in
    (λ i. e i ∷ same_rising ks ls f.1 g.1 (λ q. behind k q (nat_eq q k) ks ls refl f.0 (λ n s. subst (λ z. z < n) (sym e) (g.0 n s)) (h q ∙ ap (λ z. nat_eq q z || has ls q) (sym e))) i)

-- ---- those above a number
pub has_above : (n q : ℕ) (ks : List ℕ) → has (filter (nat_lt n) ks) q ≡ (nat_lt n q && has ks q)
has_above n q ks = any-filter_same (nat_eq q) (nat_lt n) (nat_lt n q) (λ k s. ap (nat_lt n) (sym (eqb-true q k s))) ks

-- all of them
pub all_above : (n : ℕ) (ks : List ℕ) → ((q : ℕ) → has ks q ≡ true → n < q) → filter (nat_lt n) ks ≡ ks
all_above n [] h = refl
all_above n (k ∷ ks) h =
    ap (λ b. cond b (k ∷ filter (nat_lt n) ks) (filter (nat_lt n) ks)) (lt-ltb n k (h k (here k ks)))
    ∙ ap (λ l. k ∷ l) (all_above n ks (λ q s. h q (later (nat_eq q k) (has ks q) s)))
  where
    later : (b c : Bool) → c ≡ true → (b || c) ≡ true
    later true c e = refl
    later false c e = e

-- the first of them, and those above it
abbrev pub Begins : List ℕ → ℕ → Option ℕ → Type 0
Begins ks n None = filter (nat_lt n) ks ≡ []
Begins ks n (Some k) = filter (nat_lt n) ks ≡ k ∷ filter (nat_lt k) ks

and_first : (b c : Bool) → (b && c) ≡ true → b ≡ true
and_first true c h = refl
and_first false c h = h

over : (n m : ℕ) (ks ls : List ℕ) → filter (nat_lt n) ks ≡ m ∷ ls → n < m
over n m ks ls h = ltb-true n m (and_first _ _ (sym (has_above n m ks) ∙ ap (λ l. has l m) h ∙ here m ls))

module _ (n k : ℕ) (ks : List ℕ) where
  cut : (m : ℕ) (b : Bool) → nat_lt m k ≡ b → filter (nat_lt m) (k ∷ ks) ≡ cond b (k ∷ filter (nat_lt m) ks) (filter (nat_lt m) ks)
  cut m b e = ap (λ c. cond c (k ∷ filter (nat_lt m) ks) (filter (nat_lt m) ks)) e

  -- a number that isn't above n is left out above each that is
  skipped : (o : Option ℕ) → nat_lt n k ≡ false → Begins ks n o → Begins (k ∷ ks) n o
  skipped None e b = cut n false e ∙ b
  skipped (Some m) e b = cut n false e ∙ b ∙ ap (λ l. m ∷ l) (sym (cut m false (le-ltb m k (omega (arith, over n m ks _ b, ltb-false n k e)))))

  began : Rises (k ∷ ks) → Begins ks n (slice_get (filter (nat_lt n) ks) 0) → (c : Bool) → nat_lt n k ≡ c → Begins (k ∷ ks) n (slice_get (cond c (k ∷ filter (nat_lt n) ks) (filter (nat_lt n) ks)) 0)
  began h b true e = cut n true e ∙ ap (λ l. k ∷ l) (
      all_above n ks (λ q s. omega (arith, ltb-true n k e, h.0 q s)) ∙ sym (all_above k ks h.0)
      ∙ sym (cut k false (le-ltb k k (omega arith))))
  began h b false e = skipped (slice_get (filter (nat_lt n) ks) 0) e b

pub begins : (n : ℕ) (ks : List ℕ) → Rises ks → Begins ks n (slice_get (filter (nat_lt n) ks) 0)
begins n [] h = refl
begins n (k ∷ ks) h = began n k ks h (begins n ks h.1) (nat_lt n k) refl
