-- Where few connections changed, what the step makes of all is found at these.
use Rattle.std.proofs.Common.{◌≡◌, ℕ, ◌+◌, Bool, true, false, cond, not, ◌&&◌, ◌||◌, List, [], ◌∷◌, length, Option, Some, None, is_some, refl, ap, sym, subst, ◌∙◌, arith}
use Rattle.std.specs.Prelude.{nat_eq, map, T, if◌then◌else◌}
use Rattle.std.specs.List.{filter, list_any, AllByRecursion}
use Rattle.std.specs.List.Sorted.{IsStrictlySortedBy}
use Rattle.std.specs.declared.cmp.Ordering.TheVariants.{Less, Equal, Greater}
use Rattle.std.specs.declared.cmp.Ordering.{Ordering}
use Rattle.std.specs.Ordering.{nat_cmp, eq_by_cmp, is_eq, is_lt}
use Rattle.std.specs.Cmp.{unsigned_tied, nat_eq_equiv}
use Rattle.std.specs.FinMap as map
use Rattle.std.specs.FinMap.{is_sorted}
use Rattle.std.specs.FinMap.Entries.{below_all}
use Rattle.std.proofs.lemmas.List.Kept.{IsStrictlySortedBy-filter}
use Rattle.std.proofs.lemmas.Map.Views.{any-filter_same}
use Rattle.kp_watch.specs.declared.watch.Watch.{Watch}
use Rattle.kp_watch.specs.Watching.{dropped}
use Rattle.kp_watch.proofs.Listed.{any_same, same_numbers}
use Rattle.kp_step.specs.declared.seat.Seat.{Seat}
use Rattle.kp_step.specs.Node.{Seats}
use Rattle.kp_step.specs.Step.{is_ready, keeps_watches, swept, newly_ready, count_lost}
use Rattle.kp_conn.specs.Connection.{is_lost}
use Rattle.kp_node.specs.Changing.{was_given_up, idle_among, ready_among, lost_among, ChangedAt, AreKeptBut, ReadyAmong, LostAmong}
use Rattle.kp_node.proofs.Maps.{no, one_if, count_changed, get-put, same, same_number, kept_all}

-- ---- what is ready

-- two tests one after the other
filter_twice : {X : Type 0} (p q : X → Bool) (xs : List X) → filter p (filter q xs) ≡ filter (λ x. p x && q x) xs
filter_twice p q [] = refl
filter_twice p q (x ∷ xs) = at (q x) (p x) (filter_twice p q xs) refl where
  at : (b c : Bool) → filter p (filter q xs) ≡ filter (λ x. p x && q x) xs → p x ≡ c → filter p (cond b (x ∷ filter q xs) (filter q xs)) ≡ cond (c && b) (x ∷ filter (λ x. p x && q x) xs) (filter (λ x. p x && q x) xs)
  at true true h e = ap (λ z. cond z (x ∷ filter p (filter q xs)) (filter p (filter q xs))) e ∙ ap (λ ys. x ∷ ys) h
  at true false h e = ap (λ z. cond z (x ∷ filter p (filter q xs)) (filter p (filter q xs))) e ∙ h
  at false true h e = h
  at false false h e = h

but_not : (b : Bool) → (b && not b) ≡ false
but_not true = refl
but_not false = refl

first_of_both : (a b : Bool) → (a && b) ≡ true → a ≡ true
first_of_both true b h = refl
first_of_both false b h = h

ready_is_there : (o : Option Seat) → is_ready o ≡ true → is_some o ≡ true
ready_is_there None h = h
ready_is_there (Some s) h = refl

-- the keys of entries in their order
left : (a b : Bool) → T (a && b) → T a
left true b h = tt
left false b h = absurd h

right : (a b : Bool) → T (a && b) → T b
right true b h = h
right false b h = absurd h

less : (r : Ordering) → T (is_lt r) → r ≡ Less
less Less h = refl
less Equal h = absurd h
less Greater h = absurd h

keys_above : {X : Type 0} (k : ℕ) (es : List (ℕ × X)) → T (below_all nat_cmp k es) → AllByRecursion (λ y. nat_cmp k y ≡ Less) (map (λ (e : ℕ × X). e.0) es)
keys_above k [] h = tt
keys_above k (e ∷ es) h = (less _ (left _ _ h), keys_above k es (right _ _ h))

keys_sorted : {X : Type 0} (es : List (ℕ × X)) → T (is_sorted nat_cmp es) → IsStrictlySortedBy nat_cmp (map (λ (e : ℕ × X). e.0) es)
unfolding IsStrictlySortedBy
keys_sorted [] h = tt
keys_sorted (e ∷ es) h = (keys_above e.0 es (left _ _ h), keys_sorted es (right _ _ h))

any_tied : (q : ℕ) (ks : List ℕ) → list_any (nat_eq q) ks ≡ list_any (eq_by_cmp nat_cmp q) ks
any_tied q ks = any_same (nat_eq q) (eq_by_cmp nat_cmp q) (λ x. sym (unsigned_tied q x)) ks

module _ (ks : List ℕ) (old new : Seats) (h : ChangedAt ks old new) where
  abbrev is_new : ℕ → Bool
  is_new k = is_ready (map.get new k) && not (is_ready (map.get old k))

  listed : (q : ℕ) (b : Bool) → list_any (nat_eq q) ks ≡ b → is_new q ≡ true → b ≡ true
  listed q true e n = refl
  listed q false e n = no (is_new q) (ap (λ o. is_ready o && not (is_ready (map.get old q))) (h.same q e) ∙ but_not (is_ready (map.get old q))) n

  inside : (q : ℕ) → is_new q ≡ true → list_any (nat_eq q) (map.keys new) ≡ true
  inside q n = any_tied q (map.keys new) ∙ sym (map.contains_key-keys new q) ∙ ready_is_there (map.get new q) (first_of_both (is_ready (map.get new q)) (not (is_ready (map.get old q))) n)

  both : (q : ℕ) (b : Bool) → is_new q ≡ b → (b && list_any (nat_eq q) (map.keys new)) ≡ (b && list_any (nat_eq q) ks)
  both q true n = inside q n ∙ sym (listed q (list_any (nat_eq q) ks) refl n)
  both q false n = refl

  among : (q : ℕ) (xs : List ℕ) → list_any (nat_eq q) (filter is_new xs) ≡ (is_new q && list_any (nat_eq q) xs)
  among q xs = any-filter_same (nat_eq q) is_new (is_new q) (λ k e. ap is_new (sym (same_number q k e))) xs

  ready : IsStrictlySortedBy nat_cmp ks → newly_ready old new ≡ ready_among new (idle_among old ks)
  ready sorted =
      same_numbers (filter is_new (map.keys new)) (filter is_new ks)
      (IsStrictlySortedBy-filter nat_cmp is_new (map.keys new) (keys_sorted (map.entries new) (map.entries_sorted new)))
      (IsStrictlySortedBy-filter nat_cmp is_new ks sorted)
      (λ q. among q (map.keys new) ∙ both q (is_new q) refl ∙ sym (among q ks))
      ∙ sym (filter_twice (λ k. is_ready (map.get new k)) (λ k. not (is_ready (map.get old k))) ks)

pub ready_law : ReadyAmong
ready_law ks old new sorted h = ready ks old new h sorted

-- ---- how many were given up

abbrev AreApart : List ℕ → Type 0
AreApart [] = Unit {0}
AreApart (k ∷ ks) = (list_any (nat_eq k) ks ≡ false) × AreApart ks

below_not : (k x : ℕ) → nat_cmp k x ≡ Less → nat_eq k x ≡ false
below_not k x h = sym (unsigned_tied k x) ∙ ap is_eq h

none_below : (k : ℕ) (ks : List ℕ) → AllByRecursion (λ y. nat_cmp k y ≡ Less) ks → list_any (nat_eq k) ks ≡ false
none_below k [] h = refl
none_below k (x ∷ xs) h = λ i. below_not k x h.0 i || none_below k xs h.1 i

apart : (ks : List ℕ) → IsStrictlySortedBy nat_cmp ks → AreApart ks
unfolding IsStrictlySortedBy
apart [] h = tt
apart (k ∷ ks) h = (none_below k ks h.0, apart ks h.1)

abbrev lost : Seat → Bool
lost s = is_lost s.connection.phase

length_if : (b : Bool) (k : ℕ) (ks : List ℕ) → length (cond b (k ∷ ks) ks) ≡ one_if b + length ks
length_if true k ks = omega arith
length_if false k ks = omega arith

wide : (b c : Bool) → c ≡ true → (b || c) ≡ true
wide true c e = refl
wide false c e = e

lost_same : (ks : List ℕ) (m n : Seats) → ((q : ℕ) → list_any (nat_eq q) ks ≡ true → map.get m q ≡ map.get n q) → lost_among m ks ≡ lost_among n ks
lost_same [] m n h = refl
lost_same (k ∷ ks) m n h =
    let rest : lost_among m ks ≡ lost_among n ks = lost_same ks m n (λ q e. h q (wide (nat_eq q k) (list_any (nat_eq q) ks) e)) in
    λ i. cond (was_given_up (h k (ap (λ b. b || list_any (nat_eq k) ks) (nat_eq_equiv.refl k)) i)) (k ∷ rest i) (rest i)

-- the place of k as it was
abbrev back_at : Seats → ℕ → Option Seat → Seats
back_at new k None = new
back_at new k (Some u) = map.insert new k u

module _ (k : ℕ) (old new : Seats) where
  back-get : (o : Option Seat) → map.get old k ≡ o → is_some (map.get new k) ≡ is_some o → (q : ℕ) → map.get (back_at new k o) q ≡ cond (nat_eq k q) (map.get old q) (map.get new q)
  back-get None e there q = at (nat_eq k q) refl where
    none : (p : Option Seat) → is_some p ≡ false → p ≡ None
    none None h = refl
    none (Some s) h = no true h refl

    at : (b : Bool) → nat_eq k q ≡ b → map.get new q ≡ cond b (map.get old q) (map.get new q)
    at true t = ap (map.get new) (sym (same_number k q t)) ∙ none (map.get new k) there ∙ sym e ∙ ap (map.get old) (same_number k q t)
    at false t = refl
  back-get (Some u) e there q = get-put new k u q ∙ at (nat_eq k q) refl where
    at : (b : Bool) → nat_eq k q ≡ b → cond b (Some u) (map.get new q) ≡ cond b (map.get old q) (map.get new q)
    at true t = sym e ∙ ap (map.get old) (same_number k q t)
    at false t = refl

  counts : (o p : Option Seat) → map.get old k ≡ o → map.get new k ≡ p → is_some p ≡ is_some o → count_lost (back_at new k o) + one_if (was_given_up p) ≡ count_lost new + one_if (was_given_up o)
  counts None None e f there = refl
  counts None (Some v) e f there = no true there refl
  counts (Some u) None e f there = no false refl there
  counts (Some u) (Some v) e f there = count_changed lost new k v u f

module _ (k : ℕ) (ks : List ℕ) (old new : Seats) (a : AreApart (k ∷ ks)) (h : ChangedAt (k ∷ ks) old new) where
  mid : Seats
  mid = back_at new k (map.get old k)

  at-mid : (q : ℕ) → map.get mid q ≡ cond (nat_eq k q) (map.get old q) (map.get new q)
  unfolding mid
  at-mid = back-get k old new (map.get old k) refl (h.there k)

  same_mid : (q : ℕ) (b : Bool) → nat_eq k q ≡ b → list_any (nat_eq q) ks ≡ false → cond b (map.get old q) (map.get new q) ≡ map.get old q
  same_mid q true e n = refl
  same_mid q false e n = h.same q (ap (λ b. b || list_any (nat_eq q) ks) (nat_eq_equiv.symm q k ∙ e) ∙ n)

  there_mid : (q : ℕ) (b : Bool) → is_some (cond b (map.get old q) (map.get new q)) ≡ is_some (map.get old q)
  there_mid q true = refl
  there_mid q false = h.there q

  changed : ChangedAt ks old mid
  changed = record {
    same = λ q n. at-mid q ∙ same_mid q (nat_eq k q) refl n;
    there = λ q. ap is_some (at-mid q) ∙ there_mid q (nat_eq k q);
  }

  other : (q : ℕ) (b : Bool) → nat_eq k q ≡ b → list_any (nat_eq q) ks ≡ true → cond b (map.get old q) (map.get new q) ≡ map.get new q
  other q true e l = no (list_any (nat_eq q) ks) (ap (λ j. list_any (nat_eq j) ks) (sym (same_number k q e)) ∙ a.0) l
  other q false e l = refl

  behind : lost_among mid ks ≡ lost_among new ks
  behind = lost_same ks mid new (λ q l. at-mid q ∙ other q (nat_eq k q) refl l)

  lost_more : (count_lost mid + length (lost_among old ks) ≡ count_lost old + length (lost_among mid ks)) → count_lost new + length (lost_among old (k ∷ ks)) ≡ count_lost old + length (lost_among new (k ∷ ks))
  unfolding mid
  lost_more ih =
      let step : count_lost mid + one_if (was_given_up (map.get new k)) ≡ count_lost new + one_if (was_given_up (map.get old k)) = counts k old new (map.get old k) (map.get new k) refl refl (h.there k) in
      let was : length (lost_among old (k ∷ ks)) ≡ one_if (was_given_up (map.get old k)) + length (lost_among old ks) = length_if (was_given_up (map.get old k)) k (lost_among old ks) in
      let is : length (lost_among new (k ∷ ks)) ≡ one_if (was_given_up (map.get new k)) + length (lost_among new ks) = length_if (was_given_up (map.get new k)) k (lost_among new ks) in
      let tail : length (lost_among mid ks) ≡ length (lost_among new ks) = ap length behind in
      omega (arith, ih, step, was, is, tail)

lost_all : (ks : List ℕ) (old new : Seats) → AreApart ks → ChangedAt ks old new → count_lost new + length (lost_among old ks) ≡ count_lost old + length (lost_among new ks)
lost_all [] old new a h = ap (λ m. count_lost m + 0) (same new old (λ q. h.same q refl))
lost_all (k ∷ ks) old new a h = lost_more k ks old new a h (lost_all ks old (mid k ks old new a h) a.1 (changed k ks old new a h))

pub lost_law : LostAmong
lost_law ks old new sorted h = lost_all ks old new (apart ks sorted) h

-- ---- whose watches go

abbrev conn_of : Watch → ℕ
conn_of w = w.conn

either_or_none : (b : Bool) → (b || false) ≡ b
either_or_none true = refl
either_or_none false = refl

pub kept_but_none : (seats : Seats) (ws : List Watch) → AreKeptBut [] seats ws → swept seats ws ≡ ws
kept_but_none seats ws h = kept_all conn_of keeps_watches seats ws (each ws h) where
  each : (ws : List Watch) → AreKeptBut [] seats ws → AllByRecursion (λ (w : Watch). keeps_watches (map.get seats w.conn) ≡ true) ws
  each [] h = tt
  each (w ∷ ws) h = (sym (either_or_none (keeps_watches (map.get seats w.conn))) ∙ h.0, each ws h.1)

-- one turn of the walk
abbrev pub turn_watches : Bool → ℕ → List Watch → List Watch
turn_watches b k ws = if b then ws else dropped ws k

module _ (seats : Seats) (k : ℕ) where
  without_lost : (ws : List Watch) → keeps_watches (map.get seats k) ≡ false → swept seats (dropped ws k) ≡ swept seats ws
  without_lost [] e = refl
  without_lost (w ∷ ws) e = at (nat_eq w.conn k) refl (without_lost ws e) where
    at : (b : Bool) → nat_eq w.conn k ≡ b → swept seats (dropped ws k) ≡ swept seats ws → swept seats (cond (not b) (w ∷ dropped ws k) (dropped ws k)) ≡ swept seats (w ∷ ws)
    at true t h = h ∙ ap (λ b. cond b (w ∷ swept seats ws) (swept seats ws)) (sym (ap (λ j. keeps_watches (map.get seats j)) (same_number w.conn k t) ∙ e))
    at false t h = ap (λ vs. cond (keeps_watches (map.get seats w.conn)) (w ∷ vs) vs) h

  pub turn_sweeps : (b : Bool) (ws : List Watch) → keeps_watches (map.get seats k) ≡ b → swept seats (turn_watches b k ws) ≡ swept seats ws
  turn_sweeps true ws e = refl
  turn_sweeps false ws e = without_lost ws e

  module _ (ks : List ℕ) where
    keeps_one : (w : Watch) (b : Bool) → nat_eq w.conn k ≡ b → keeps_watches (map.get seats k) ≡ true → (keeps_watches (map.get seats w.conn) || (b || list_any (nat_eq w.conn) ks)) ≡ true → (keeps_watches (map.get seats w.conn) || list_any (nat_eq w.conn) ks) ≡ true
    keeps_one w false e there h = h
    keeps_one w true e there h = ap (λ b. b || list_any (nat_eq w.conn) ks) (ap (λ j. keeps_watches (map.get seats j)) (same_number w.conn k e) ∙ there)

    keeps_all : (ws : List Watch) → keeps_watches (map.get seats k) ≡ true → AreKeptBut (k ∷ ks) seats ws → AreKeptBut ks seats ws
    keeps_all [] there h = tt
    keeps_all (w ∷ ws) there h = (keeps_one w (nat_eq w.conn k) refl there h.0, keeps_all ws there h.1)

    keeps_other : (w : Watch) (b : Bool) (vs : List Watch) → (keeps_watches (map.get seats w.conn) || (b || list_any (nat_eq w.conn) ks)) ≡ true → AreKeptBut ks seats vs → AreKeptBut ks seats (cond (not b) (w ∷ vs) vs)
    keeps_other w true vs h rest = rest
    keeps_other w false vs h rest = (h, rest)

    keeps_others : (ws : List Watch) → AreKeptBut (k ∷ ks) seats ws → AreKeptBut ks seats (dropped ws k)
    keeps_others [] h = tt
    keeps_others (w ∷ ws) h = keeps_other w (nat_eq w.conn k) (dropped ws k) h.0 (keeps_others ws h.1)

    turn_keeps : (b : Bool) (ws : List Watch) → keeps_watches (map.get seats k) ≡ b → AreKeptBut (k ∷ ks) seats ws → AreKeptBut ks seats (turn_watches b k ws)
    turn_keeps true ws e h = keeps_all ws e h
    turn_keeps false ws e h = keeps_others ws h

pub walks_on : (seats : Seats) (k : ℕ) (ks all : List ℕ) (ws first after : List Watch) → all ≡ k ∷ ks → after ≡ turn_watches (keeps_watches (map.get seats k)) k ws
    → (swept seats ws ≡ swept seats first) × AreKeptBut all seats ws → (swept seats after ≡ swept seats first) × AreKeptBut ks seats after
walks_on seats k ks all ws first after at is h = subst (λ vs. (swept seats vs ≡ swept seats first) × AreKeptBut ks seats vs) (sym is)
    (turn_sweeps seats k (keeps_watches (map.get seats k)) ws refl ∙ h.0, turn_keeps seats k ks (keeps_watches (map.get seats k)) ws refl (subst (λ zs. AreKeptBut zs seats ws) at h.1))

pub walk_ends : (seats : Seats) (all : List ℕ) (ws first : List Watch) → all ≡ [] → (swept seats ws ≡ swept seats first) × AreKeptBut all seats ws → ws ≡ swept seats first
walk_ends seats all ws first at h = sym (kept_but_none seats ws (subst (λ zs. AreKeptBut zs seats ws) at h.1)) ∙ h.0
