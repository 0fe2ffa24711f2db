-- All connections of a node, by some choices and where nothing runs out.
use Rattle.std.proofs.Common.{◌≡◌, ℕ, Bool, true, false, cond, List, [], ◌∷◌, ◌++◌, Option, Some, None, refl, ap, sym, subst, ◌∙◌}
use Rattle.std.proofs.Math.Path.{fun_ext}
use Rattle.std.specs.Option.{option_map}
use Rattle.std.specs.Ordering.{nat_cmp, eq_by_cmp}
use Rattle.std.specs.FinMap as map
use Rattle.kp_model.specs.State.{State}
use Rattle.kp_conn.specs.Connection.{Connection}
use Rattle.kp_step.specs.declared.seat.Seat.{Seat}
use Rattle.kp_step.specs.Choices.{Choices}
use Rattle.kp_step.specs.Node.{Seats}
use Rattle.kp_step.specs.Settling.{Told, Settled, settled}
use Rattle.kp_step.specs.Tables.{Table, Row, mapped, row_at, row_told, with_row, seated, more_at, settled_in, settled_one, settled_all}
use Rattle.kp_step.proofs.Tables.{no, tied, same, get-mapped, get-insert}
use Rattle.kp_ample.specs.Ample.{ample}
use Rattle.kp_ample.proofs.Gone.{given_up, is_gone, not_gone, Fits, RowFits, settled_fits}
use Rattle.kp_ample.proofs.Counts.{test_at, NoneAre, own_key}

pub none_gone : (m : Seats) → NoneAre given_up m → NoneAre is_gone m
none_gone m h k = at (map.get m k) (h k) where
  at : (o : Option Seat) → test_at given_up o ≡ false → test_at is_gone o ≡ false
  at None e = refl
  at (Some s) e = not_gone s.connection e

-- what makes one true makes the other true
pub back : (a b : Bool) → (a ≡ true → b ≡ true) → b ≡ false → a ≡ false
back true b f h = no b h (f refl)
back false b f h = refl

pub record TableFits (t r a : Table) : Type 0 where
  pub keeps : NoneAre is_gone r.seats → NoneAre is_gone t.seats
  pub alike : NoneAre is_gone r.seats → r ≡ a
  pub safe : NoneAre given_up t.seats → NoneAre given_up a.seats

pub table_still : (t : Table) → TableFits t t t
table_still t = record { keeps = λ h. h; alike = λ h. refl; safe = λ h. h }

-- one behind the other
pub table_then : (F G : Table → Table) (t r a : Table) → TableFits t r a → ((u : Table) → TableFits u (F u) (G u)) → TableFits t (F r) (G a)
table_then F G t r a p q = record {
  keeps = λ h. p.keeps ((q r).keeps h);
  alike = λ h. (q r).alike h ∙ ap G (p.alike ((q r).keeps h));
  safe = λ h. (q a).safe (p.safe h);
}

-- ---- rows

module _ (f g : Row) (fits : RowFits f g) where
  row_keeps : (k : ℕ) (o : Option Seat) → test_at is_gone (option_map (row_at f k) o) ≡ false → test_at is_gone o ≡ false
  row_keeps k None h = refl
  row_keeps k (Some s) h = back (is_gone s.connection) (is_gone (f k s.connection).connection) (fits k s.connection).keeps h

  row_alike : (k : ℕ) (o : Option Seat) → test_at is_gone (option_map (row_at f k) o) ≡ false → option_map (row_at f k) o ≡ option_map (row_at g k) o
  row_alike k None h = refl
  row_alike k (Some s) h = ap (λ (r : Settled). Some (seated s r.connection)) ((fits k s.connection).same h)

  told_alike : (k : ℕ) (o : Option Seat) → test_at is_gone (option_map (row_at f k) o) ≡ false → row_told f k o ≡ row_told g k o
  told_alike k None h = refl
  told_alike k (Some s) h = ap (λ (r : Settled). r.told) ((fits k s.connection).same h)

  row_safe : (k : ℕ) (o : Option Seat) → test_at given_up o ≡ false → test_at given_up (option_map (row_at g k) o) ≡ false
  row_safe k None h = refl
  row_safe k (Some s) h = (fits k s.connection).safe h

  row_none : (m : Seats) → NoneAre is_gone (mapped (row_at f) m) → (k : ℕ) → test_at is_gone (option_map (row_at f k) (map.get m k)) ≡ false
  row_none m h k = subst (λ o. test_at is_gone o ≡ false) (get-mapped (row_at f) m k) (h k)

  seats_alike : (m : Seats) → NoneAre is_gone (mapped (row_at f) m) → mapped (row_at f) m ≡ mapped (row_at g) m
  seats_alike m h = same (mapped (row_at f) m) (mapped (row_at g) m) (λ k. get-mapped (row_at f) m k ∙ row_alike k (map.get m k) (row_none m h k) ∙ sym (get-mapped (row_at g) m k))

  tolds_alike : (t : Table) → NoneAre is_gone (mapped (row_at f) t.seats) → ◌≡◌ {A = ℕ → List Told} (λ k. t.told k ++ row_told f k (map.get t.seats k)) (λ k. t.told k ++ row_told g k (map.get t.seats k))
  tolds_alike t h = fun_ext (λ k. ap (λ (ts : List Told). t.told k ++ ts) (told_alike k (map.get t.seats k) (row_none t.seats h k)))

  pub row_fits : (t : Table) → TableFits t (with_row f t) (with_row g t)
  unfolding with_row
  row_fits t = record {
    keeps = λ h k. row_keeps k (map.get t.seats k) (row_none t.seats h k);
    alike = λ h i. record t { seats = seats_alike t.seats h i; told = tolds_alike t h i };
    safe = λ h k. subst (λ o. test_at given_up o ≡ false) (sym (get-mapped (row_at g) t.seats k)) (row_safe k (map.get t.seats k) (h k));
  }

-- ---- one connection

pub here : (p : Connection → Bool) (m : Seats) (k : ℕ) (x : Seat) → NoneAre p (map.insert m k x) → p x.connection ≡ false
here p m k x h = sym (ap (test_at p) (get-insert m k x k ∙ ap (λ b. cond b (Some x) (map.get m k)) (own_key k))) ∙ h k

before_at : (p : Connection → Bool) (m : Seats) (k j : ℕ) (x s : Seat) (b : Bool) → eq_by_cmp nat_cmp j k ≡ b → map.get m k ≡ Some s → p s.connection ≡ false → test_at p (cond b (Some x) (map.get m j)) ≡ false → test_at p (map.get m j) ≡ false
before_at p m k j x s true e there h was = subst (λ z. test_at p (map.get m z) ≡ false) (sym (tied j k e)) (ap (test_at p) there ∙ h)
before_at p m k j x s false e there h was = was

pub before : (p : Connection → Bool) (m : Seats) (k : ℕ) (x s : Seat) → map.get m k ≡ Some s → p s.connection ≡ false → NoneAre p (map.insert m k x) → NoneAre p m
before p m k x s there h all j = before_at p m k j x s (eq_by_cmp nat_cmp j k) refl there h (subst (λ o. test_at p o ≡ false) (get-insert m k x j) (all j))

behind_at : (p : Connection → Bool) (o : Option Seat) (x : Seat) (b : Bool) → p x.connection ≡ false → test_at p o ≡ false → test_at p (cond b (Some x) o) ≡ false
behind_at p o x true h was = h
behind_at p o x false h was = was

pub behind : (p : Connection → Bool) (m : Seats) (k : ℕ) (x : Seat) → p x.connection ≡ false → NoneAre p m → NoneAre p (map.insert m k x)
behind p m k x h all j = subst (λ o. test_at p o ≡ false) (sym (get-insert m k x j)) (behind_at p (map.get m j) x (eq_by_cmp nat_cmp j k) h (all j))

pub was_safe : (m : Seats) (k : ℕ) (s : Seat) → map.get m k ≡ Some s → NoneAre given_up m → given_up s.connection ≡ false
was_safe m k s there all = sym (ap (test_at given_up) there) ∙ all k

-- ---- settling

module _ (ch : Choices) (s : State) where
  in_fits : (t : Table) (k : ℕ) (o : Option Seat) → map.get t.seats k ≡ o → TableFits t (settled_in ch s t k o) (settled_in ample s t k o)
  in_fits t k None there = table_still t
  in_fits t k (Some x) there =
      let c : Connection = x.connection in
      let fit : Fits c (settled s k (ch.luck k).answers t.watches c c.queue) (settled s k None t.watches c c.queue) = settled_fits s k (ch.luck k).answers t.watches c in
      record {
        keeps = λ h. before is_gone t.seats k _ x there (back (is_gone c) _ fit.keeps (here is_gone t.seats k _ h)) h;
        alike = λ h. ap (λ (r : Settled). record { seats = map.insert t.seats k (seated x r.connection); watches = r.watches; told = more_at k r.told t.told; took = t.took }) (fit.same (here is_gone t.seats k _ h));
        safe = λ h. behind given_up t.seats k _ (fit.safe (was_safe t.seats k x there h)) h;
      }

  one_fits : (k : ℕ) (t : Table) → TableFits t (settled_one ch s t k) (settled_one ample s t k)
  unfolding settled_one
  one_fits k t = in_fits t k (map.get t.seats k) refl

  pub all_fits : (ks : List ℕ) (t : Table) → TableFits t (settled_all ch s t ks) (settled_all ample s t ks)
  unfolding settled_all
  all_fits [] t = table_still t
  all_fits (k ∷ ks) t = table_then (λ u. settled_all ch s u ks) (λ u. settled_all ample s u ks) t (settled_one ch s t k) (settled_one ample s t k) (one_fits k t) (all_fits ks)
