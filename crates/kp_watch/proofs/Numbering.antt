-- Watches in order of their numbers: what look-ups say of the list.
use Rattle.std.proofs.Common.{◌≡◌, ℕ, Bool, true, false, cond, nat_eq, not, ◌||◌, List, [], ◌∷◌, ◌++◌, Option, Some, None, is_some, refl, ap, sym, ◌∙◌}
use Rattle.std.specs.Prelude.{map, ⊤}
use Rattle.std.specs.List.{filter, list_any, flat_map, AllByRecursion}
use Rattle.std.specs.List.Sorted.{IsStrictlySortedBy}
use Rattle.std.specs.declared.cmp.Ordering.TheVariants.{Less}
use Rattle.std.specs.Ordering.{is_eq, nat_cmp}
use Rattle.std.specs.Cmp.{nat_cmp_total, nat_eq_equiv, unsigned_tied, eq_by_cmp_equiv}
use Rattle.std.specs.Map.{lookup}
use Rattle.std.proofs.lemmas.Map.Entries.{lookup-filter-values, option_filter}
use Rattle.std.proofs.lemmas.Map.Keys.{IsDistinct-from_sorted}
use Rattle.kp_watch.specs.declared.watch.Watch.{Watch}
use Rattle.kp_watch.specs.Numbered.{Numbered, watches_of, numbers, watch_at, AreOrdered, conn_in, conn_at}
use Rattle.kp_watch.specs.Indexed.{passes}
use Rattle.kp_watch.proofs.Listed.{same_list, same_numbers}

-- ---- each entry is found by its key
module _ {X : Type 0} (t : ℕ → ℕ → Bool) (itself : (k : ℕ) → t k k ≡ true) where
  -- no key is met again
  abbrev pub IsApart : List (ℕ × X) → Type 0
  IsApart [] = ⊤
  IsApart (e ∷ es) = AllByRecursion (λ y. t y e.0 ≡ false) (map (λ (x : ℕ × X). x.0) es) × IsApart es

  abbrev pub AreFound : List (ℕ × X) → List (ℕ × X) → Type 0
  AreFound all es = AllByRecursion (λ (e : ℕ × X). lookup (t e.0) all ≡ Some e.1) es

  behind : (e : ℕ × X) (all es : List (ℕ × X)) → AllByRecursion (λ y. t y e.0 ≡ false) (map (λ (x : ℕ × X). x.0) es) → AreFound all es → AreFound (e ∷ all) es
  behind e all [] a h = tt
  behind e all (x ∷ xs) a h = (ap (λ b. cond b (Some e.1) (lookup (t x.0) all)) a.0 ∙ h.0, behind e all xs a.1 h.1)

  pub all_found : (es : List (ℕ × X)) → IsApart es → AreFound es es
  all_found [] a = tt
  all_found (e ∷ es) a = (ap (λ b. cond b (Some e.1) (lookup (t e.0) es)) (itself e.0), behind e es es a.0 (all_found es a.1))

cmp_itself : (k : ℕ) → is_eq (nat_cmp k k) ≡ true
cmp_itself k = unsigned_tied k k ∙ nat_eq_equiv.refl k

above : (a b : ℕ) → nat_cmp a b ≡ Less → is_eq (nat_cmp b a) ≡ false
above a b h = unsigned_tied b a ∙ nat_eq_equiv.symm b a ∙ sym (unsigned_tied a b) ∙ ap is_eq h

all_above : (k : ℕ) (ks : List ℕ) → AllByRecursion (λ y. nat_cmp k y ≡ Less) ks → AllByRecursion (λ y. is_eq (nat_cmp y k) ≡ false) ks
all_above k [] h = tt
all_above k (x ∷ xs) h = (above k x h.0, all_above k xs h.1)

ordered_apart : {X : Type 0} (es : List (ℕ × X)) → IsStrictlySortedBy nat_cmp (map (λ (e : ℕ × X). e.0) es) → IsApart (λ a b. is_eq (nat_cmp a b)) cmp_itself es
unfolding IsStrictlySortedBy
ordered_apart [] h = tt
ordered_apart (e ∷ es) h = (all_above e.0 _ h.0, ordered_apart es h.1)

abbrev pub AreKnown : Numbered → Numbered → Type 0
AreKnown all es = AllByRecursion (λ (e : ℕ × Watch). watch_at all e.0 ≡ Some e.1) es

pub all_known : (es : Numbered) → AreOrdered es → AreKnown es es
all_known es h = all_found (λ a b. is_eq (nat_cmp a b)) cmp_itself es (ordered_apart es h)

-- ---- a filter keeps the order
kept_all : {X : Type 0} (P : ℕ → Type 0) (f : ℕ × X → Bool) (es : List (ℕ × X)) → AllByRecursion P (map (λ (e : ℕ × X). e.0) es) → AllByRecursion P (map (λ (e : ℕ × X). e.0) (filter f es))
kept_all P f [] h = tt
kept_all P f (e ∷ es) h = elim (f e) as (λ b. AllByRecursion P (map (λ e. e.0) (cond b (e ∷ filter f es) (filter f es)))) [ true ↦ (h.0, kept_all P f es h.1) | false ↦ kept_all P f es h.1 ]

pub kept_ordered : (f : ℕ × Watch → Bool) (es : Numbered) → AreOrdered es → AreOrdered (filter f es)
unfolding IsStrictlySortedBy
kept_ordered f [] h = tt
kept_ordered f (e ∷ es) h = elim (f e) as (λ b. AreOrdered (cond b (e ∷ filter f es) (filter f es))) [ true ↦ (kept_all (λ y. nat_cmp e.0 y ≡ Less) f es h.0, kept_ordered f es h.1) | false ↦ kept_ordered f es h.1 ]

-- the watches that are left are those of the entries that are left
left_at : (b : Bool) (e : ℕ × Watch) (xs : List Watch) (ys : Numbered) → xs ≡ watches_of ys → cond b (e.1 ∷ xs) xs ≡ watches_of (cond b (e ∷ ys) ys)
left_at true e xs ys h = ap (λ z. e.1 ∷ z) h
left_at false e xs ys h = h

pub left_of : (p : Watch → Bool) (es : Numbered) → filter p (watches_of es) ≡ watches_of (filter (λ (e : ℕ × Watch). p e.1) es)
left_of p [] = refl
left_of p (e ∷ es) = left_at (p e.1) e (filter p (watches_of es)) (filter (λ (e : ℕ × Watch). p e.1) es) (left_of p es)

found_left : (p : Watch → Bool) (n : ℕ) (es : Numbered) → AreOrdered es → watch_at (filter (λ (e : ℕ × Watch). p e.1) es) n ≡ option_filter p (watch_at es n)
found_left p n es h = lookup-filter-values (eq_by_cmp_equiv nat_cmp_total) p n es (IsDistinct-from_sorted nat_cmp _ h)

filtered_out : (p : Watch → Bool) (o : Option Watch) → option_filter (λ w. not (p w)) o ≡ cond (passes p o) None o
filtered_out p None = refl
filtered_out p (Some w) = go (p w) where
  go : (b : Bool) → cond (not b) (Some w) None ≡ cond b None (Some w)
  go true = refl
  go false = refl

-- those that pass are gone
pub gone : (p : Watch → Bool) (es es' : Numbered) → AreOrdered es → AreOrdered es' → ((n : ℕ) → watch_at es' n ≡ cond (passes p (watch_at es n)) None (watch_at es n)) → watches_of es' ≡ filter (λ w. not (p w)) (watches_of es)
gone p es es' h h' same =
    let q : Watch → Bool = λ w. not (p w) in
    ap watches_of (same_list es' (filter (λ (e : ℕ × Watch). q e.1) es) h' (kept_ordered _ es h) (λ n. same n ∙ sym (filtered_out p (watch_at es n)) ∙ sym (found_left q n es h)))
    ∙ sym (left_of q es)

-- ---- the numbers of those that pass
any_or : (b : Bool) (e : Watch) (r : Option Watch) (c : Bool) → c ≡ is_some r → (b || c) ≡ is_some (cond b (Some e) r)
any_or true e r c h = refl
any_or false e r c h = h

any_key : (n : ℕ) (es : Numbered) → list_any (nat_eq n) (map (λ (e : ℕ × Watch). e.0) es) ≡ is_some (watch_at es n)
any_key n [] = refl
any_key n (e ∷ es) = ap (λ b. b || list_any (nat_eq n) (map (λ (e : ℕ × Watch). e.0) es)) (sym (unsigned_tied n e.0)) ∙ any_or (is_eq (nat_cmp n e.0)) e.1 (watch_at es n) _ (any_key n es)

some_passes : (p : Watch → Bool) (o : Option Watch) → is_some (option_filter p o) ≡ passes p o
some_passes p None = refl
some_passes p (Some w) = go (p w) where
  go : (b : Bool) → is_some (cond b (Some w) None) ≡ b
  go true = refl
  go false = refl

pub numbers_are : (p : Watch → Bool) (es : Numbered) (ns : List ℕ) → AreOrdered es → IsStrictlySortedBy nat_cmp ns → ((n : ℕ) → list_any (nat_eq n) ns ≡ passes p (watch_at es n)) → ns ≡ numbers p es
numbers_are p es ns h rise same = same_numbers ns (numbers p es) rise (kept_ordered (λ (e : ℕ × Watch). p e.1) es h) (λ n.
    same n ∙ sym (some_passes p (watch_at es n)) ∙ sym (ap is_some (found_left p n es h)) ∙ sym (any_key n (filter (λ (e : ℕ × Watch). p e.1) es)))

-- their connections
conns_from : (p : Watch → Bool) (all es : Numbered) → AreKnown all es → flat_map (conn_at (watch_at all)) (numbers p es) ≡ map (λ (w : Watch). w.conn) (filter p (watches_of es))
unfolding conn_at
conns_from p all [] h = refl
conns_from p all (e ∷ es) h = go (conns_from p all es h.1) (p e.1) where
  go : flat_map (conn_at (watch_at all)) (numbers p es) ≡ map (λ (w : Watch). w.conn) (filter p (watches_of es)) → (b : Bool) → flat_map (conn_at (watch_at all)) (map (λ (e : ℕ × Watch). e.0) (cond b (e ∷ filter (λ (e : ℕ × Watch). p e.1) es) (filter (λ (e : ℕ × Watch). p e.1) es))) ≡ map (λ (w : Watch). w.conn) (cond b (e.1 ∷ filter p (watches_of es)) (filter p (watches_of es)))
  go rest true = ap (λ o. conn_in o ++ flat_map (conn_at (watch_at all)) (numbers p es)) h.0 ∙ ap (λ l. e.1.conn ∷ l) rest
  go rest false = rest

pub conns_are : (p : Watch → Bool) (es : Numbered) → AreOrdered es → flat_map (conn_at (watch_at es)) (numbers p es) ≡ map (λ (w : Watch). w.conn) (filter p (watches_of es))
conns_are p es h = conns_from p es es (all_known es h)

-- ---- whether one passes
pub any_found : (p : Watch → Bool) (n : ℕ) (es : Numbered) → passes p (watch_at es n) ≡ true → list_any p (watches_of es) ≡ true
any_found p n [] h = h
any_found p n (e ∷ es) h = go (any_found p n es) (is_eq (nat_cmp n e.0)) h where
  or_true : (b : Bool) → (b || true) ≡ true
  or_true true = refl
  or_true false = refl

  go : (passes p (watch_at es n) ≡ true → list_any p (watches_of es) ≡ true) → (b : Bool) → passes p (cond b (Some e.1) (watch_at es n)) ≡ true → (p e.1 || list_any p (watches_of es)) ≡ true
  go rest true is = ap (λ b. b || list_any p (watches_of es)) is
  go rest false is = ap (λ b. p e.1 || b) (rest is) ∙ or_true (p e.1)

none_from : (p : Watch → Bool) (all es : Numbered) → AreKnown all es → ((n : ℕ) → passes p (watch_at all n) ≡ false) → list_any p (watches_of es) ≡ false
none_from p all [] h none = refl
none_from p all (e ∷ es) h none = ap (λ b. b || list_any p (watches_of es)) (sym (ap (passes p) h.0) ∙ none e.0) ∙ none_from p all es h.1 none

pub none_found : (p : Watch → Bool) (es : Numbered) → AreOrdered es → ((n : ℕ) → passes p (watch_at es n) ≡ false) → list_any p (watches_of es) ≡ false
none_found p es h none = none_from p es es (all_known es h) none
