-- The connections, their numbers in order, and the sessions that they serve.
use Rattle.std.proofs.Common.{◌≡◌, ℕ, ◌<◌, Bool, true, false, not, cond, nat_eq, nat_lt, ◌&&◌, ◌||◌, List, [], ◌∷◌, Option, Some, None, is_some, refl, ap, sym, subst, ◌∙◌, arith}
use Rattle.std.specs.Prelude.{slice_get, IfSome, IsSome}
use Rattle.std.specs.List.{list_any, filter}
use Rattle.std.specs.List.Sorted.{IsStrictlySortedBy}
use Rattle.std.specs.Map.{set_value}
use Rattle.std.specs.Ordering.{nat_cmp, eq_by_cmp}
use Rattle.std.specs.Cmp.{nat_eq_equiv, unsigned_tied}
use Rattle.std.specs.BTreeSet.{BTreeSet, contains}
use Rattle.std.proofs.lemmas.Bool.{eqb-true, lt-ltb, le-ltb, ltb-true}
use Rattle.std.specs.FinMap as map
use Rattle.std.specs.FinMap.{FinMap}
use Rattle.kp_seats.specs.Serving.{Served, is_that, serves, without, IsServer}
use Rattle.kp_seats.specs.Seating.{above, IsNext, Leads}
use Rattle.kp_seats.specs.Index.{at, base_of, AreSeated}
use Rattle.kp_seats.proofs.Maps.{no, same, get-put, get-taken, at_is}
use Rattle.kp_seats.proofs.Tied.{get-without}
use Rattle.kp_seats.proofs.Rising.{has, Rises, rises_sorted, rises_entries, same_rising, has_above, all_above, Begins, begins}

none_is : {X : Type 0} (o : Option X) → (is_some o ≡ true → ⊥) → o ≡ None
none_is None h = refl
none_is (Some x) h = absurd (h refl)

module _ {S : Type 0} (next : ℕ) (seats : List (ℕ × S)) (numbers : BTreeSet ℕ) (sessions : Served) (h : AreSeated next seats numbers sessions) where
  -- the next number is that of no connection
  pub fresh : at seats next ≡ None
  fresh = none_is (at seats next) (λ e. omega (arith, (h.within next e).1))

  pub idle : map.get sessions next ≡ None
  idle = none_is (map.get sessions next) (λ e. omega (arith, (h.within next (h.seated next e)).1))

  -- other sessions, of connections that are there
  pub seated_by : (sessions' : Served) → ((q : ℕ) → is_some (map.get sessions' q) ≡ true → is_some (at seats q) ≡ true) → AreSeated next seats numbers sessions'
  seated_by sessions' f = record { begun = h.begun; ordered = h.ordered; within = h.within; seated = f }

  fewer : (b : Bool) (q : ℕ) → is_some (cond b (map.get sessions q) None) ≡ true → is_some (at seats q) ≡ true
  fewer true q e = h.seated q e
  fewer false q e = no false refl e

  pub seated_without : (session : ℕ) → AreSeated next seats numbers (without sessions session)
  seated_without session = seated_by _ (λ q e. fewer (not (serves sessions session q)) q (ap is_some (sym (get-without sessions session q)) ∙ e))

  less : (b : Bool) (q : ℕ) → is_some (cond b None (map.get sessions q)) ≡ true → is_some (at seats q) ≡ true
  less true q e = no false refl e
  less false q e = h.seated q e

  pub seated_left : (k : ℕ) → AreSeated next seats numbers (map.remove sessions k)
  seated_left k = seated_by _ (λ q e. less (nat_eq k q) q (ap is_some (sym (get-taken sessions k q)) ∙ e))

  more : (k session : ℕ) → is_some (at seats k) ≡ true → (b : Bool) (q : ℕ) → nat_eq k q ≡ b → is_some (cond b (Some session) (map.get (without sessions session) q)) ≡ true → is_some (at seats q) ≡ true
  more k session there true q s e = subst (λ n. is_some (at seats n) ≡ true) (eqb-true k q s) there
  more k session there false q s e = (seated_without session).seated q e

  pub seated_joined : (k session : ℕ) → is_some (at seats k) ≡ true → AreSeated next seats numbers (map.insert (without sessions session) k session)
  seated_joined k session there = seated_by _ (λ q e. more k session there (nat_eq k q) q refl (ap is_some (sym (get-put (without sessions session) k session q)) ∙ e))

  -- the same connections, whatever they hold
  pub seated_same : (seats' : List (ℕ × S)) → ((q : ℕ) → is_some (at seats' q) ≡ is_some (at seats q)) → AreSeated next seats' numbers sessions
  seated_same seats' same = record {
    begun = h.begun;
    ordered = λ q. h.ordered q ∙ sym (same q);
    within = λ q e. h.within q (sym (same q) ∙ e);
    seated = λ q e. same q ∙ h.seated q e;
  }

  -- who serves is there
  pub server_seated : (session : ℕ) (r : Option ℕ) → IsServer sessions session r → (m : FinMap nat_cmp S) → base_of seats ≡ m → IfSome r (λ k. IsSome (map.get m k))
  server_seated session None s m is = tt
  server_seated session (Some k) s m is = ap is_some (sym (at_is seats seats m is k)) ∙ h.seated k (there (map.get sessions k) (s k ∙ nat_eq_equiv.refl k)) where
    there : (o : Option ℕ) → is_that o session ≡ true → is_some o ≡ true
    there None e = no false refl e
    there (Some n) e = refl

  -- ---- one connection less
  gone : (k q : ℕ) (b : Bool) → nat_eq k q ≡ b → (contains nat_cmp numbers q ≡ is_some (at seats q)) → cond b false (contains nat_cmp numbers q) ≡ is_some (cond b None (at seats q))
  gone k q true e f = refl
  gone k q false e f = f

  left_some : (b : Bool) (o : Option S) → is_some (cond b None o) ≡ true → is_some o ≡ true
  left_some true o e = no false refl e
  left_some false o e = e

  still : (b : Bool) (q : ℕ) → is_some (cond b None (map.get sessions q)) ≡ true → is_some (cond b None (at seats q)) ≡ true
  still true q e = e
  still false q e = h.seated q e

  pub seated_removed : (k : ℕ) (seats' : List (ℕ × S)) (numbers' : BTreeSet ℕ) → ((q : ℕ) → at seats' q ≡ cond (nat_eq k q) None (at seats q)) → ((q : ℕ) → contains nat_cmp numbers' q ≡ cond (nat_eq k q) false (contains nat_cmp numbers q))
      → AreSeated next seats' numbers' (map.remove sessions k)
  seated_removed k seats' numbers' change change' = record {
    begun = h.begun;
    ordered = λ q. change' q ∙ gone k q (nat_eq k q) refl (h.ordered q) ∙ ap is_some (sym (change q));
    within = λ q e. h.within q (left_some (nat_eq k q) (at seats q) (ap is_some (sym (change q)) ∙ e));
    seated = λ q e. ap is_some (change q) ∙ still (nat_eq k q) q (ap is_some (sym (get-taken sessions k q)) ∙ e);
  }

  -- ---- in order
  module _ (m : FinMap nat_cmp S) (is : base_of seats ≡ m) (sorted : IsStrictlySortedBy nat_cmp numbers.keys) where
    known : (q : ℕ) → has (map.keys m) q ≡ is_some (map.get m q)
    known q = any_tied q (map.keys m) ∙ sym (map.contains_key-keys m q) where
      any_tied : (q : ℕ) (ks : List ℕ) → has ks q ≡ list_any (eq_by_cmp nat_cmp q) ks
      any_tied q [] = refl
      any_tied q (k ∷ ks) = λ i. sym (unsigned_tied q k) i || any_tied q ks i

    rising : Rises (map.keys m)
    rising = rises_entries (map.entries m) (map.entries_sorted m)

    listed : (q : ℕ) → has numbers.keys q ≡ has (map.keys m) q
    listed q = any_tied q numbers.keys ∙ h.ordered q ∙ ap is_some (at_is seats seats m is q) ∙ sym (known q) where
      any_tied : (q : ℕ) (ks : List ℕ) → has ks q ≡ list_any (λ k. eq_by_cmp nat_cmp q k) ks
      any_tied q [] = refl
      any_tied q (k ∷ ks) = λ i. sym (unsigned_tied q k) i || any_tied q ks i

    keys_are : numbers.keys ≡ map.keys m
    keys_are = same_rising numbers.keys (map.keys m) (rises_sorted numbers.keys sorted) rising listed

    pub all_are : above m 0 ≡ map.keys m
    all_are = all_above 0 (map.keys m) (λ q e. (h.within q (ap is_some (at_is seats seats m is q) ∙ sym (known q) ∙ e)).0)

    -- no connection has the number 0, and each has one below the next
    pub none_at : map.get m 0 ≡ None
    none_at = none_is (map.get m 0) (λ e. omega (arith, (h.within 0 (ap is_some (at_is seats seats m is 0) ∙ e)).0))

    pub next_below : (k : ℕ) (r : Option ℕ) → IsNext m k r → IfSome r (λ n. n < next)
    next_below k None f = tt
    next_below k (Some n) f = (h.within n (ap is_some (at_is seats seats m is n) ∙ f.1)).1

    in_above : (k q : ℕ) → has (above m k) q ≡ (nat_lt k q && is_some (map.get m q))
    in_above k q = has_above k q (map.keys m) ∙ ap (λ b. nat_lt k q && b) (known q)

    both : (b c : Bool) → (b && c) ≡ true → (b ≡ true) × (c ≡ true)
    both true c f = (refl, f)
    both false c f = no false refl f

    -- a number above k that isn't found among those above k is that of no connection
    apart : (k q : ℕ) → k < q → has (above m k) q ≡ false → map.get m q ≡ None
    apart k q l f = none_is (map.get m q) (λ s. no false refl (sym f ∙ in_above k q ∙ ap (λ c. c && is_some (map.get m q)) (lt-ltb k q l) ∙ s))

    -- a number below n is not n, and not above n
    between : (n q : ℕ) → q < n → (nat_eq q n || has (above m n) q) ≡ false
    between n q l = by (nat_eq q n) refl where
      by : (b : Bool) → nat_eq q n ≡ b → (b || has (above m n) q) ≡ false
      by true e = absurd (omega (arith, l, eqb-true q n e))
      by false e = in_above n q ∙ ap (λ c. c && is_some (map.get m q)) (le-ltb n q (omega (arith, l)))

    module _ (k : ℕ) (r : Option ℕ) (e : r ≡ slice_get (filter (nat_lt k) numbers.keys) 0) where
      begun : Begins (map.keys m) k r
      begun = subst (Begins (map.keys m) k) (sym (e ∙ ap (λ ks. slice_get (filter (nat_lt k) ks) 0) keys_are)) (begins k (map.keys m) rising)

      pub leads : Leads m k r
      leads = by r begun where
        by : (r : Option ℕ) → Begins (map.keys m) k r → Leads m k r
        by None b = b
        by (Some n) b = b

      pub is_next : IsNext m k r
      is_next = by r leads where
        by : (r : Option ℕ) → Leads m k r → IsNext m k r
        by None b = λ q l. apart k q l (ap (λ ks. has ks q) b)
        by (Some n) b =
            let t = both _ _ (sym (in_above k n) ∙ ap (λ ks. has ks n) b ∙ ap (λ c. c || has (above m n) n) (nat_eq_equiv.refl n)) in
            (ltb-true k n t.0, t.1, λ q l g. apart k q l (ap (λ ks. has ks q) b ∙ between n q g))

-- ---- nobody is there
pub seated_none : {S : Type 0} (seats : List (ℕ × S)) (numbers : BTreeSet ℕ) (sessions : Served) → seats ≡ [] → numbers.keys ≡ [] → sessions ≡ map.empty → AreSeated 1 seats numbers sessions
seated_none seats numbers sessions none none' nobody = record {
  begun = omega arith;
  ordered = λ q. ap (λ ks. list_any (λ k. eq_by_cmp nat_cmp q k) ks) none' ∙ ap (λ es. is_some (at es q)) (sym none);
  within = λ q e. no false refl (ap (λ es. is_some (at es q)) (sym none) ∙ e);
  seated = λ q e. no false refl (sym (ap is_some (ap (λ m. map.get m q) nobody ∙ map.get-empty nat_cmp q)) ∙ e);
}

-- ---- what a connection holds is written over
module _ {S : Type 0} where
  written : (k q : ℕ) (w : S) (e : ℕ × S) (es : List (ℕ × S)) (b c : Bool) → is_some (at (set_value (nat_eq k) es w) q) ≡ is_some (at es q) → nat_eq q e.0 ≡ c → is_some (at (cond b ((e.0, w) ∷ es) (e ∷ set_value (nat_eq k) es w)) q) ≡ is_some (cond c (Some e.1) (at es q))
  written k q w e es true true h f = ap (λ d. is_some (cond d (Some w) (at es q))) f
  written k q w e es true false h f = ap (λ d. is_some (cond d (Some w) (at es q))) f
  written k q w e es false true h f = ap (λ d. is_some (cond d (Some e.1) (at (set_value (nat_eq k) es w) q))) f
  written k q w e es false false h f = ap (λ d. is_some (cond d (Some e.1) (at (set_value (nat_eq k) es w) q))) f ∙ h

  pub same_written : (k : ℕ) (w : S) (es : List (ℕ × S)) (q : ℕ) → is_some (at (set_value (nat_eq k) es w) q) ≡ is_some (at es q)
  same_written k w [] q = refl
  same_written k w (e ∷ es) q = written k q w e es (nat_eq k e.0) (nat_eq q e.0) (same_written k w es q) refl
