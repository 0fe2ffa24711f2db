-- The session of each connection and the connection of each session.
use Rattle.std.proofs.Common.{◌≡◌, ℕ, Bool, true, false, not, cond, nat_eq, List, Option, Some, None, refl, ap, sym, ◌∙◌}
use Rattle.std.specs.Cmp.{nat_eq_equiv}
use Rattle.std.proofs.lemmas.Bool.{eqb-true}
use Rattle.std.specs.FinMap as map
use Rattle.std.specs.FinMap.{nat_cmp-IsAntisymmetric}
use Rattle.kp_seats.specs.Serving.{Served, is_that, serves, without, IsServer}
use Rattle.kp_seats.specs.Index.{at, base_of, AreTied}
use Rattle.kp_seats.proofs.Maps.{no, same, get-base_of, get-put, get-taken, at_is}

pub get-without : (m : Served) (session q : ℕ) → map.get (without m session) q ≡ cond (not (serves m session q)) (map.get m q) None
unfolding without
get-without m session q = map.get-retain_keys m (λ k. not (serves m session k)) q (λ x e. ap (λ k. not (serves m session k)) (sym (nat_cmp-IsAntisymmetric q x e)))

-- whom it names serves, and no other
named : (m : Served) (session : ℕ) (r : Option ℕ) → ((q : ℕ) → serves m session q ≡ is_that r q) → IsServer m session r
named m session None h = h
named m session (Some k) h = h

-- without the one that serves, or without a change
gone : (m : Served) (session : ℕ) (q k : ℕ) (b : Bool) → serves m session q ≡ b → nat_eq k q ≡ b → cond b None (map.get m q) ≡ cond (not (serves m session q)) (map.get m q) None
gone m session q k true s e = ap (λ b. cond (not b) (map.get m q) None) (sym s)
gone m session q k false s e = ap (λ b. cond (not b) (map.get m q) None) (sym s)

module _ (sessions conns : List (ℕ × ℕ)) (m : Served) (is : base_of sessions ≡ m) (tied : AreTied sessions conns) where
  serves_is : (session q : ℕ) → serves m session q ≡ is_that (at conns session) q
  serves_is session q = ap (λ o. is_that o session) (sym (at_is sessions sessions m is q)) ∙ sym (tied q session)

  pub server_is : (session : ℕ) (r : Option ℕ) → r ≡ at conns session → IsServer m session r
  server_is session r e = named m session r (λ q. serves_is session q ∙ ap (λ o. is_that o q) (sym e))

  pub none_leaves : (session : ℕ) → at conns session ≡ None → base_of sessions ≡ without m session
  none_leaves session e = is ∙ same _ _ (λ q.
      sym (ap (λ b. cond (not b) (map.get m q) None) (serves_is session q ∙ ap (λ o. is_that o q) e)) ∙ sym (get-without m session q))

  pub one_leaves : (session k : ℕ) → Some k ≡ at conns session → (sessions' : List (ℕ × ℕ)) → ((q : ℕ) → at sessions' q ≡ cond (nat_eq k q) None (at sessions q)) → base_of sessions' ≡ without m session
  one_leaves session k e sessions' change = same _ _ (λ q.
      get-base_of sessions' q ∙ change q ∙ ap (cond (nat_eq k q) None) (at_is sessions sessions m is q)
      ∙ gone m session q k (nat_eq k q) (serves_is session q ∙ ap (λ o. is_that o q) (sym e)) refl
      ∙ sym (get-without m session q))

-- ---- a pair more
-- a number that nobody has
nobody_has : (o : Option ℕ) → ((k : ℕ) → is_that o k ≡ false) → o ≡ None
nobody_has None h = refl
nobody_has (Some n) h = no (nat_eq n n) (h n) (nat_eq_equiv.refl n)

out_of : (b : Bool) (o : Option ℕ) (s : ℕ) → is_that o s ≡ not b → is_that (cond b o None) s ≡ false
out_of true o s h = h
out_of false o s h = refl

module _ (m : Served) (session conn : ℕ) where
  -- nobody serves the session, and the connection serves none
  unserved : (q : ℕ) → serves (map.remove (without m session) conn) session q ≡ false
  unserved q = ap (λ o. is_that o session) (get-taken (without m session) conn q ∙ ap (cond (nat_eq conn q) None) (get-without m session q)) ∙ by (nat_eq conn q) (serves m session q) refl where
    by : (b c : Bool) → serves m session q ≡ c → is_that (cond b None (cond (not c) (map.get m q) None)) session ≡ false
    by true c e = refl
    by false true e = refl
    by false false e = e

  module _ (sessions conns sessions' conns' : List (ℕ × ℕ)) (is : base_of sessions ≡ map.remove (without m session) conn) (tied : AreTied sessions conns)
      (change : (q : ℕ) → at sessions' q ≡ cond (nat_eq conn q) (Some session) (at sessions q)) (change' : (q : ℕ) → at conns' q ≡ cond (nat_eq session q) (Some conn) (at conns q)) where
    free : at conns session ≡ None
    free = nobody_has _ (λ k. tied k session ∙ ap (λ o. is_that o session) (at_is sessions sessions _ is k) ∙ unserved k)

    idle : at sessions conn ≡ None
    idle = at_is sessions sessions _ is conn ∙ get-taken (without m session) conn conn ∙ ap (λ b. cond b None (map.get (without m session) conn)) (nat_eq_equiv.refl conn)

    pair : (k s : ℕ) (b c : Bool) → nat_eq session s ≡ b → nat_eq conn k ≡ c → is_that (cond b (Some conn) (at conns s)) k ≡ is_that (cond c (Some session) (at sessions k)) s
    pair k s true true e f = f ∙ sym e
    pair k s true false e f = f ∙ sym (ap (λ z. is_that (at sessions k) z) (sym (eqb-true session s e)) ∙ sym (tied k session) ∙ ap (λ o. is_that o k) free)
    pair k s false true e f = ap (is_that (at conns s)) (sym (eqb-true conn k f)) ∙ tied conn s ∙ ap (λ o. is_that o s) idle ∙ sym e
    pair k s false false e f = tied k s

    pub tied_more : AreTied sessions' conns'
    tied_more k s = ap (λ o. is_that o k) (change' s) ∙ pair k s _ _ refl refl ∙ ap (λ o. is_that o s) (sym (change k))

    again : (q : ℕ) (b : Bool) (o : Option ℕ) → cond b (Some session) (cond b None o) ≡ cond b (Some session) o
    again q true o = refl
    again q false o = refl

    pub base_more : base_of sessions' ≡ map.insert (without m session) conn session
    base_more = same _ _ (λ q. get-base_of sessions' q ∙ change q ∙ ap (cond (nat_eq conn q) (Some session)) (at_is sessions sessions _ is q ∙ get-taken (without m session) conn q)
        ∙ again q (nat_eq conn q) (map.get (without m session) q) ∙ sym (get-put (without m session) conn session q))
