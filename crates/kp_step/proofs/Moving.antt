-- What a part of a step does to a connection: which of its requests it answers, and which join its queue.
use Rattle.std.proofs.Common.{◌≡◌, ℕ, Bool, true, false, cond, ◌&&◌, ◌||◌, List, [], ◌∷◌, ◌++◌, Option, Some, None, refl, ap, sym, subst, ◌∙◌, append-nil, append_assoc}
use Rattle.std.specs.Option.{option_map}
use Rattle.std.specs.List.{AllByRecursion}
use Rattle.std.specs.Ordering.{nat_cmp, eq_by_cmp}
use Rattle.std.specs.FinMap as map
use Rattle.kp_wire.specs.declared.request.Request.{Request}
use Rattle.kp_conn.specs.declared.phase.Phase.{Phase}
use Rattle.kp_conn.specs.declared.phase.Phase.TheVariants as phase
use Rattle.kp_conn.specs.declared.waiting.Waiting.{Waiting}
use Rattle.kp_conn.specs.Connection.{Connection, closed, is_over}
use Rattle.kp_step.specs.declared.seat.Seat.{Seat}
use Rattle.kp_step.specs.Node.{Seats}
use Rattle.kp_step.specs.Settling.{Told, Settled, is_end}
use Rattle.kp_step.specs.Runs.{IsPart, requests_of, answered_of}
use Rattle.kp_step.specs.Tables.{Table, Row, row_at, row_told, with_row, more_at, seated, with_served}
use Rattle.kp_step.specs.Handing.{Served}
use Rattle.kp_step.proofs.Tables.{no, tied, get-insert, get-mapped}
use Rattle.kp_step.proofs.Parts.{part_none, part_of, part_append, part_trans}

abbrev pub is_live : Phase → Bool
is_live phase.Fresh = false
is_live (phase.Connecting ro) = false
is_live (phase.Live s e n) = true
is_live (phase.Closing lost) = false

-- all that waits is the end of a session, which was applied
abbrev pub is_ending : List Waiting → Bool
is_ending [] = false
is_ending (w ∷ []) = is_end w
is_ending (w ∷ v ∷ q) = false

-- a connection that is over, or will be once it is settled
unfoldable pub is_bound : Connection → Bool
is_bound c = is_over c.phase || (is_live c.phase && is_ending c.queue)

pub first_false : (a b : Bool) → (a || b) ≡ false → a ≡ false
first_false true b h = h
first_false false b h = refl

pub first_true : (a b : Bool) → a ≡ true → (a || b) ≡ true
first_true a b h = ap (λ z. z || b) h

-- only of a live connection something waits
abbrev pub IsProper : Connection → Type 0
IsProper c = is_live c.phase ≡ false → c.queue ≡ []

pub record MovesTo (P : Told → Type 0) (a : Connection) (told : List Told) (took : List Request) (b : Connection) : Type 0 where
  pub proper : IsProper b
  -- those that waited or joined are answered in their order, or wait
  pub part : IsPart (answered_of told ++ requests_of b.queue) (requests_of a.queue ++ took)
  -- and all of them, unless the connection is over
  pub all : is_bound b ≡ false → requests_of a.queue ++ took ≡ answered_of told ++ requests_of b.queue
  pub bound : is_bound a ≡ true → is_bound b ≡ true
  -- P holds of each answer
  pub tells : AllByRecursion P told

abbrev pub Moves : (Told → Type 0) → Connection → List Told → List Request → Connection → Type 0
Moves P a told took b = IsProper a → MovesTo P a told took b

tells-append : (P : Told → Type 0) (ts us : List Told) → AllByRecursion P ts → AllByRecursion P us → AllByRecursion P (ts ++ us)
tells-append P [] us h k = k
tells-append P (t ∷ ts) us h k = (h.0, tells-append P ts us h.1 k)

answered-append : (ts us : List Told) → answered_of (ts ++ us) ≡ answered_of ts ++ answered_of us
answered-append [] us = refl
answered-append (t ∷ ts) us = ap (λ qs. t.request ∷ qs) (answered-append ts us)

-- nothing is done to the queue
pub kept : {P : Told → Type 0} (a b : Connection) → b.queue ≡ a.queue → is_over b.phase ≡ is_over a.phase → is_live b.phase ≡ is_live a.phase → Moves P a [] [] b
unfolding is_bound
kept a b q o l proper = record {
  proper = λ h. q ∙ proper (sym l ∙ h);
  part = part_of (requests_of b.queue) (requests_of a.queue ++ []) (ap requests_of q ∙ sym (append-nil (requests_of a.queue)));
  all = λ h. append-nil (requests_of a.queue) ∙ ap requests_of (sym q);
  bound = λ h. (λ i. o i || (l i && is_ending (q i))) ∙ h;
  tells = tt;
}

pub still : {P : Told → Type 0} (c : Connection) → Moves P c [] [] c
still c = kept c c refl refl refl

-- the connection is over, and nothing was answered
pub shut : {P : Told → Type 0} (lost : Bool) (c d : Connection) (took : List Request) → Moves P c [] took (closed lost d)
unfolding is_bound
shut lost c d took proper = record { proper = λ h. refl; part = part_none (requests_of c.queue ++ took); all = λ h. no true h refl; bound = λ h. refl; tells = tt }

joins : (q u1 u2 t1 r : List Request) → q ++ u1 ≡ t1 ++ r → q ++ (u1 ++ u2) ≡ t1 ++ (r ++ u2)
joins q u1 u2 t1 r e = sym (append_assoc q u1 u2) ∙ ap (λ z. z ++ u2) e ∙ append_assoc t1 r u2

module _ {P : Told → Type 0} (a b c : Connection) (t1 t2 : List Told) (u1 u2 : List Request) where
  both_parts : MovesTo P a t1 u1 b → MovesTo P b t2 u2 c → IsPart (answered_of (t1 ++ t2) ++ requests_of c.queue) (requests_of a.queue ++ (u1 ++ u2))
  both_parts x y = subst (λ z. IsPart z (requests_of a.queue ++ (u1 ++ u2))) (sym (append_assoc (answered_of t1) (answered_of t2) (requests_of c.queue)) ∙ ap (λ z. z ++ requests_of c.queue) (sym (answered-append t1 t2)))
      (part_trans (answered_of t1 ++ (answered_of t2 ++ requests_of c.queue)) ((answered_of t1 ++ requests_of b.queue) ++ u2) (requests_of a.queue ++ (u1 ++ u2))
      (subst (IsPart (answered_of t1 ++ (answered_of t2 ++ requests_of c.queue))) (sym (append_assoc (answered_of t1) (requests_of b.queue) u2))
      (part_append (answered_of t1) (answered_of t1) (answered_of t2 ++ requests_of c.queue) (requests_of b.queue ++ u2) (part_of (answered_of t1) (answered_of t1) refl) y.part))
      (subst (IsPart ((answered_of t1 ++ requests_of b.queue) ++ u2)) (append_assoc (requests_of a.queue) u1 u2)
      (part_append (answered_of t1 ++ requests_of b.queue) (requests_of a.queue ++ u1) u2 u2 x.part (part_of u2 u2 refl))))

  not_bound : (o : Bool) → is_bound b ≡ o → MovesTo P b t2 u2 c → is_bound c ≡ false → is_bound b ≡ false
  not_bound true e y h = no _ h (y.bound e)
  not_bound false e y h = e

  -- one part behind the other
  pub then_moves : Moves P a t1 u1 b → Moves P b t2 u2 c → Moves P a (t1 ++ t2) (u1 ++ u2) c
  then_moves f g proper = let x = f proper in let y = g x.proper in record {
    proper = y.proper;
    part = both_parts x y;
    all = λ h. joins (requests_of a.queue) u1 u2 (answered_of t1) (requests_of b.queue) (x.all (not_bound (is_bound b) refl y h)) ∙ ap (λ z. answered_of t1 ++ z) (y.all h) ∙ sym (append_assoc (answered_of t1) (answered_of t2) (requests_of c.queue)) ∙ ap (λ z. z ++ requests_of c.queue) (sym (answered-append t1 t2));
    bound = λ h. y.bound (x.bound h);
    tells = tells-append P t1 t2 x.tells y.tells;
  }

-- requests join, and then some are answered
pub then_told : {P : Told → Type 0} (a b c : Connection) (ts : List Told) (us : List Request) → Moves P a [] us b → Moves P b ts [] c → Moves P a ts us c
then_told {P = P} a b c ts us f g = subst (λ z. Moves P a ts z c) (append-nil us) (then_moves a b c [] ts us [] f g)

-- and then nothing is done to the queue
pub then_kept : {P : Told → Type 0} (a b c : Connection) (ts : List Told) (us : List Request) → Moves P a ts us b → Moves P b [] [] c → Moves P a ts us c
then_kept {P = P} a b c ts us f g = subst (λ z. Moves P a z us c) (append-nil ts) (subst (λ z. Moves P a (ts ++ []) z c) (append-nil us) (then_moves a b c ts [] us [] f g))

-- ---- at the places of a table

-- what is done at a place, where no connection comes and none goes
abbrev pub MovesAt : (Told → Type 0) → Option Seat → List Told → List Request → Option Seat → Type 0
MovesAt P None told took None = (told ≡ []) × (took ≡ [])
MovesAt P None told took (Some b) = ⊥
MovesAt P (Some a) told took None = ⊥
MovesAt P (Some a) told took (Some b) = Moves P a.connection told took b.connection

abbrev pub Goes : (ℕ → Told → Type 0) → Seats → Table → Type 0
Goes P m t = (k : ℕ) → MovesAt (P k) (map.get m k) (t.told k) (t.took k) (map.get t.seats k)

pub still_at : (P : Told → Type 0) (o : Option Seat) → MovesAt P o [] [] o
still_at P None = (refl, refl)
still_at P (Some s) = still s.connection

-- more at a place
pub then_at : (P : Told → Type 0) (x y z : Option Seat) (t1 t2 : List Told) (u1 u2 : List Request) → MovesAt P x t1 u1 y → MovesAt P y t2 u2 z → MovesAt P x (t1 ++ t2) (u1 ++ u2) z
then_at P None None None t1 t2 u1 u2 f g = ((λ i. f.0 i ++ g.0 i), (λ i. f.1 i ++ g.1 i))
then_at P None None (Some c) t1 t2 u1 u2 f g = g
then_at P None (Some b) z t1 t2 u1 u2 f g = absurd f
then_at P (Some a) None z t1 t2 u1 u2 f g = absurd f
then_at P (Some a) (Some b) None t1 t2 u1 u2 f g = g
then_at P (Some a) (Some b) (Some c) t1 t2 u1 u2 f g = then_moves a.connection b.connection c.connection t1 t2 u1 u2 f g

-- ---- each connection by itself

abbrev pub RowMoves : (ℕ → Told → Type 0) → Row → Type 0
RowMoves P f = (k : ℕ) (c : Connection) → Moves (P k) c (f k c).told [] (f k c).connection

row_moves : (P : ℕ → Told → Type 0) (f : Row) → RowMoves P f → (k : ℕ) (o : Option Seat) → MovesAt (P k) o (row_told f k o) [] (option_map (row_at f k) o)
row_moves P f h k None = (refl, refl)
row_moves P f h k (Some s) = h k s.connection

pub row_goes : (P : ℕ → Told → Type 0) (f : Row) → RowMoves P f → (m : Seats) (t : Table) → Goes P m t → Goes P m (with_row f t)
unfolding with_row
row_goes P f h m t g k = subst (MovesAt (P k) (map.get m k) (t.told k ++ row_told f k (map.get t.seats k)) (t.took k)) (sym (get-mapped (row_at f) t.seats k))
    (subst (λ u. MovesAt (P k) (map.get m k) (t.told k ++ row_told f k (map.get t.seats k)) u (option_map (row_at f k) (map.get t.seats k))) (append-nil (t.took k))
    (then_at (P k) (map.get m k) (map.get t.seats k) (option_map (row_at f k) (map.get t.seats k)) (t.told k) (row_told f k (map.get t.seats k)) (t.took k) [] (g k) (row_moves P f h k (map.get t.seats k))))

-- ---- one connection

place_moves : (P : ℕ → Told → Type 0) (j k : ℕ) (b : Bool) (o y : Option Seat) (t1 t2 : List Told) (u1 u2 : List Request) (s : Seat) (c : Connection) → (b ≡ true → j ≡ k) → MovesAt (P j) o t1 u1 y → (b ≡ true → y ≡ Some s) → Moves (P k) s.connection t2 u2 c
    → MovesAt (P j) o (cond b (t1 ++ t2) t1) (cond b (u1 ++ u2) u1) (cond b (Some (seated s c)) y)
place_moves P j k true o y t1 t2 u1 u2 s c e f there g = then_at (P j) o (Some s) (Some (seated s c)) t1 t2 u1 u2 (subst (MovesAt (P j) o t1 u1) (there refl) f) (subst (λ z. Moves (P z) s.connection t2 u2 c) (sym (e refl)) g)
place_moves P j k false o y t1 t2 u1 u2 s c e f there g = f

found : (m : Seats) (k j : ℕ) (s : Seat) → map.get m k ≡ Some s → eq_by_cmp nat_cmp j k ≡ true → map.get m j ≡ Some s
found m k j s there e = ap (map.get m) (tied j k e) ∙ there

pub served_goes : (P : ℕ → Told → Type 0) (m : Seats) (t : Table) (k : ℕ) (s : Seat) (w : Served) → Goes P m t → map.get t.seats k ≡ Some s → Moves (P k) s.connection w.told w.took w.connection → Goes P m (with_served k s w t)
served_goes P m t k s w g there h j = subst (MovesAt (P j) (map.get m j) (more_at k w.told t.told j) (more_at k w.took t.took j)) (sym (get-insert t.seats k (seated s w.connection) j))
    (place_moves P j k (eq_by_cmp nat_cmp j k) (map.get m j) (map.get t.seats j) (t.told j) w.told (t.took j) w.took s w.connection (tied j k) (g j) (found t.seats k j s there) h)

abbrev with_settled : ℕ → Seat → Settled → Table → Table
with_settled k s r t = record { seats = map.insert t.seats k (seated s r.connection); watches = r.watches; told = more_at k r.told t.told; took = t.took }

same_took : (b : Bool) (us : List Request) → cond b (us ++ []) us ≡ us
same_took true us = append-nil us
same_took false us = refl

pub settled_goes : (P : ℕ → Told → Type 0) (m : Seats) (t : Table) (k : ℕ) (s : Seat) (r : Settled) → map.get t.seats k ≡ Some s → Goes P m t → Moves (P k) s.connection r.told [] r.connection → Goes P m (with_settled k s r t)
settled_goes P m t k s r there g h j = subst (MovesAt (P j) (map.get m j) (more_at k r.told t.told j) (t.took j)) (sym (get-insert t.seats k (seated s r.connection) j))
    (subst (λ u. MovesAt (P j) (map.get m j) (more_at k r.told t.told j) u (cond (eq_by_cmp nat_cmp j k) (Some (seated s r.connection)) (map.get t.seats j))) (same_took (eq_by_cmp nat_cmp j k) (t.took j))
    (place_moves P j k (eq_by_cmp nat_cmp j k) (map.get m j) (map.get t.seats j) (t.told j) r.told (t.took j) [] s r.connection (tied j k) (g j) (found t.seats k j s there) h))
