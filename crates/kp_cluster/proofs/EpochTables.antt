-- What holds of the phase of each connection of a table, and of each answer.
use Rattle.std.proofs.Common.{◌≡◌, ℕ, Bool, true, false, cond, List, [], ◌∷◌, ◌++◌, Option, Some, None, refl, sym, subst}
use Rattle.std.specs.Prelude.{if◌then◌else◌}
use Rattle.std.specs.Option.{option_map}
use Rattle.std.specs.List.{AllByRecursion}
use Rattle.std.specs.Ordering.{nat_cmp, eq_by_cmp}
use Rattle.std.specs.Cmp.{nat_cmp_total}
use Rattle.std.specs.FinMap as map
use Rattle.kp_model.specs.State.{State}
use Rattle.kp_wire.specs.declared.request.Request.{Request}
use Rattle.kp_wire.specs.declared.reply.WireReply.{WireReply}
use Rattle.kp_wire.specs.declared.reply.WireReply.TheVariants as sent
use Rattle.kp_watch.specs.declared.watch.Watch.{Watch}
use Rattle.kp_conn.specs.declared.phase.Phase.{Phase}
use Rattle.kp_conn.specs.declared.phase.Phase.TheVariants as phase
use Rattle.kp_conn.specs.declared.waiting.Waiting.{Waiting}
use Rattle.kp_conn.specs.Connection.{Connection, closed, put}
use Rattle.kp_conn.specs.Packets.{reply_packet}
use Rattle.kp_step.specs.declared.seat.Seat.{Seat}
use Rattle.kp_step.specs.Choices.{Choices, is_out, less}
use Rattle.kp_step.specs.Node.{Seats}
use Rattle.kp_step.specs.Answers.{Answer, Cause, by_state, by_entry, by_lack, by_term, by_move, by_end, code_of, answer_of}
use Rattle.kp_step.specs.Settling.{Told, Settled, settled, settled_so, refused, refused_if, telling, told_by, put_answer, with_queue, is_end, session_in}
use Rattle.kp_step.specs.Handing.{Served}
use Rattle.kp_step.specs.Tables.{Table, Row, row_at, row_told, with_row, with_served, seated, settled_in, settled_one, settled_all}
use Rattle.kp_step.specs.Step.{with_row_if}
use Rattle.kp_step.proofs.Tables.{tied, get-insert, get-mapped}
use Rattle.kp_step.proofs.Causes.{is_plain, plain_is}
use Rattle.kp_step.proofs.Settles.{by_answer}
use Rattle.kp_step.proofs.Serves.{choose}
use Rattle.kp_cluster.proofs.EpochPhases.{Keeps}

-- ---- lists of answers

pub all_append : (P : Told → Type 0) (ts us : List Told) → AllByRecursion P ts → AllByRecursion P us → AllByRecursion P (ts ++ us)
all_append P [] us h k = k
all_append P (t ∷ ts) us h k = (h.0, all_append P ts us h.1 k)

-- ---- the map

abbrev pub AtSeat : (Phase → Type 0) → Option Seat → Type 0
AtSeat P None = Unit {0}
AtSeat P (Some s) = P s.connection.phase

abbrev pub AllAt : (ℕ → Phase → Type 0) → Seats → Type 0
AllAt P m = (k : ℕ) → AtSeat (P k) (map.get m k)

insert_at : (P : Phase → Type 0) (b : Bool) (s : Seat) (o : Option Seat) → (b ≡ true → P s.connection.phase) → AtSeat P o → AtSeat P (cond b (Some s) o)
insert_at P true s o h g = h refl
insert_at P false s o h g = g

pub insert_all : (P : ℕ → Phase → Type 0) (m : Seats) (k : ℕ) (s : Seat) → AllAt P m → P k s.connection.phase → AllAt P (map.insert m k s)
insert_all P m k s all h j = subst (AtSeat (P j)) (sym (get-insert m k s j)) (insert_at (P j) (eq_by_cmp nat_cmp j k) s (map.get m j) (λ e. subst (λ z. P z s.connection.phase) (sym (tied j k e)) h) (all j))

remove_at : (P : Phase → Type 0) (b : Bool) (o : Option Seat) → AtSeat P o → AtSeat P (cond b None o)
remove_at P true o h = tt
remove_at P false o h = h

pub remove_all : (P : ℕ → Phase → Type 0) (m : Seats) (k : ℕ) → AllAt P m → AllAt P (map.remove m k)
remove_all P m k all j = subst (AtSeat (P j)) (sym (map.get-remove nat_cmp_total m k j)) (remove_at (P j) (eq_by_cmp nat_cmp j k) (map.get m j) (all j))

-- ---- tables

pub record IsFine (P : ℕ → Phase → Type 0) (T : ℕ → Told → Type 0) (t : Table) : Type 0 where
  pub seats : AllAt P t.seats
  pub told : (k : ℕ) → AllByRecursion (T k) (t.told k)

-- a connection behind its answers
pub record IsFit (P : Phase → Type 0) (T : Told → Type 0) (r : Settled) : Type 0 where
  pub phase : P r.connection.phase
  pub told : AllByRecursion T r.told

row_seat : (P Q : Phase → Type 0) (T : Told → Type 0) (f : Row) (k : ℕ) → ((c : Connection) → P c.phase → IsFit Q T (f k c)) → (o : Option Seat) → AtSeat P o → AtSeat Q (option_map (row_at f k) o)
row_seat P Q T f k h None g = tt
row_seat P Q T f k h (Some s) g = (h s.connection g).phase

row_tells : (P Q : Phase → Type 0) (T : Told → Type 0) (f : Row) (k : ℕ) → ((c : Connection) → P c.phase → IsFit Q T (f k c)) → (o : Option Seat) → AtSeat P o → AllByRecursion T (row_told f k o)
row_tells P Q T f k h None g = tt
row_tells P Q T f k h (Some s) g = (h s.connection g).told

abbrev pub RowFits : (ℕ → Phase → Type 0) → (ℕ → Phase → Type 0) → (ℕ → Told → Type 0) → Row → Type 0
RowFits P Q T f = (k : ℕ) (c : Connection) → P k c.phase → IsFit (Q k) (T k) (f k c)

pub row_fine : (P Q : ℕ → Phase → Type 0) (T : ℕ → Told → Type 0) (f : Row) (t : Table) → RowFits P Q T f → IsFine P T t → IsFine Q T (with_row f t)
unfolding with_row
row_fine P Q T f t h g = record {
  seats = λ j. subst (AtSeat (Q j)) (sym (get-mapped (row_at f) t.seats j)) (row_seat (P j) (Q j) (T j) f j (h j) (map.get t.seats j) (g.seats j));
  told = λ j. all_append (T j) (t.told j) (row_told f j (map.get t.seats j)) (g.told j) (row_tells (P j) (Q j) (T j) f j (h j) (map.get t.seats j) (g.seats j));
}

pub row_if_fine : (P : ℕ → Phase → Type 0) (T : ℕ → Told → Type 0) (b : Bool) (f : Row) (t : Table) → RowFits P P T f → IsFine P T t → IsFine P T (with_row_if b f t)
row_if_fine P T true f t h g = row_fine P P T f t h g
row_if_fine P T false f t h g = g

more_fine : (T : Told → Type 0) (b : Bool) (ts us : List Told) → AllByRecursion T ts → (b ≡ true → AllByRecursion T us) → AllByRecursion T (cond b (ts ++ us) ts)
more_fine T true ts us h g = all_append T ts us h (g refl)
more_fine T false ts us h g = h

module _ (P : ℕ → Phase → Type 0) (T : ℕ → Told → Type 0) where
  pub served_fine : (t : Table) (k : ℕ) (s : Seat) (w : Served) → IsFine P T t → P k w.connection.phase → AllByRecursion (T k) w.told → IsFine P T (with_served k s w t)
  served_fine t k s w g p h = record {
    seats = insert_all P t.seats k (seated s w.connection) g.seats p;
    told = λ j. more_fine (T j) (eq_by_cmp nat_cmp j k) (t.told j) w.told (g.told j) (λ e. subst (λ z. AllByRecursion (T z) w.told) (sym (tied j k e)) h);
  }

-- ---- what is answered from the front

abbrev pub is_move : Cause → Bool
is_move by_state = false
is_move by_entry = false
is_move by_lack = false
is_move by_term = false
is_move by_move = true
is_move by_end = false

unmoved : (c : Cause) → is_plain c ≡ true → is_move c ≡ false
unmoved by_state e = refl
unmoved by_entry e = refl
unmoved by_lack e = refl
unmoved by_term e = refl
unmoved by_move e = absurd (cc)
unmoved by_end e = refl

no_move : (s : State) (session k : ℕ) (ws : List Watch) (w : Waiting) (a : Answer) → answer_of s session k ws w ≡ Some a → is_move a.cause ≡ false
no_move s session k ws w a e = unmoved a.cause (plain_is s session k ws w a e)

-- what holds of a phase holds on, and it says what is asked of answers with this index but of -118
pub record Suits (P : Phase → Type 0) (T : Told → Type 0) (zxid : ℕ) : Type 0 where
  pub keeps : (p q : Phase) → Keeps p q → P p → P q
  pub tells : (p : Phase) → P p → (q : Request) (r : WireReply) (c : Cause) → is_move c ≡ false → T (told_by p zxid q r c)

fit_end : (P : Phase → Type 0) (T : Told → Type 0) (b : Bool) (t : Told) (x y : Settled) → T t → IsFit P T x → IsFit P T y → IsFit P T (telling t (if b then x else y))
fit_end P T true t x y e p q = record { phase = p.phase; told = (e, p.told) }
fit_end P T false t x y e p q = record { phase = q.phase; told = (e, q.told) }

pub settled_fits : (s : State) (k : ℕ) (P : Phase → Type 0) (T : Told → Type 0) → Suits P T s.applied → (n : Option ℕ) (ws : List Watch) (c : Connection) (q : List Waiting) → P c.phase → IsFit P T (settled s k n ws c q)
unfolding settled
settled_fits s k P T h n ws c [] p = record { phase = p; told = tt }
settled_fits s k P T h n ws c (w ∷ q) p = by_answer (IsFit P T) (answer_of s (session_in c.phase) k ws w) (is_out n) (settled_so (with_queue (w ∷ q) c) ws) (settled_so (closed true c) ws) _
    (λ e. record { phase = p; told = tt }) (record { phase = h.keeps c.phase (phase.Closing true) tt p; told = tt })
    (λ a e. fit_end P T (is_end w) (told_by c.phase s.applied w.request a.reply a.cause) (settled_so (closed false (put_answer s.applied w.request a c)) a.watches) _
    (h.tells c.phase p w.request a.reply a.cause (no_move s (session_in c.phase) k ws w a e)) (record { phase = h.keeps c.phase (phase.Closing false) tt p; told = tt })
    (settled_fits s k P T h (less n) a.watches (put_answer s.applied w.request a c) q p))

settle_in_fine : (ch : Choices) (s : State) (P : ℕ → Phase → Type 0) (T : ℕ → Told → Type 0) → ((k : ℕ) → Suits (P k) (T k) s.applied) → (t : Table) (k : ℕ) (o : Option Seat) → map.get t.seats k ≡ o → IsFine P T t → IsFine P T (settled_in ch s t k o)
settle_in_fine ch s P T h t k None there g = g
settle_in_fine ch s P T h t k (Some x) there g = let r = settled s k (ch.luck k).answers t.watches x.connection x.connection.queue in
    let f : IsFit (P k) (T k) r = settled_fits s k (P k) (T k) (h k) (ch.luck k).answers t.watches x.connection x.connection.queue (subst (AtSeat (P k)) there (g.seats k)) in record {
      seats = insert_all P t.seats k (seated x r.connection) g.seats f.phase;
      told = λ j. more_fine (T j) (eq_by_cmp nat_cmp j k) (t.told j) r.told (g.told j) (λ e. subst (λ z. AllByRecursion (T z) r.told) (sym (tied j k e)) f.told);
    }

pub settle_all_fine : (ch : Choices) (s : State) (P : ℕ → Phase → Type 0) (T : ℕ → Told → Type 0) → ((k : ℕ) → Suits (P k) (T k) s.applied) → (t : Table) (ks : List ℕ) → IsFine P T t → IsFine P T (settled_all ch s t ks)
unfolding settled_all settled_one
settle_all_fine ch s P T h t [] g = g
settle_all_fine ch s P T h t (k ∷ ks) g = settle_all_fine ch s P T h (settled_one ch s t k) ks (settle_in_fine ch s P T h t k (map.get t.seats k) refl g)

-- ---- refusals

-- of a connection that ends nothing is asked
abbrev pub Shuts : (Phase → Type 0) → Type 0
Shuts Q = (lost : Bool) → Q (phase.Closing lost)

pub refused_fits : (Q : Phase → Type 0) (T : Told → Type 0) → Shuts Q → (n : Option ℕ) (zxid : ℕ) (cause : Cause) (c : Connection) (q : List Waiting) → ((r : Request) → T (told_by c.phase zxid r (sent.Err (code_of cause)) cause)) → IsFit Q T (refused n zxid cause c q)
unfolding refused
refused_fits Q T shut n zxid cause c [] f = record { phase = shut false; told = tt }
refused_fits Q T shut n zxid cause c (w ∷ q) f = choose (IsFit Q T) (is_out n) (settled_so (closed true c) []) (telling (told_by c.phase zxid w.request (sent.Err (code_of cause)) cause) (refused (less n) zxid cause (put (reply_packet w.request.xid zxid (sent.Err (code_of cause))) c) q))
    (record { phase = shut true; told = tt })
    (let m = refused_fits Q T shut (less n) zxid cause (put (reply_packet w.request.xid zxid (sent.Err (code_of cause))) c) q f in record { phase = m.phase; told = (f w.request, m.told) })

pub refuse_if_fits : (Q : Phase → Type 0) (T : Told → Type 0) → Shuts Q → (b : Bool) (n : Option ℕ) (zxid : ℕ) (cause : Cause) (c : Connection) → (b ≡ true → (r : Request) → T (told_by c.phase zxid r (sent.Err (code_of cause)) cause)) → (b ≡ false → Q c.phase) → IsFit Q T (refused_if b n zxid cause c)
refuse_if_fits Q T shut true n zxid cause c f g = refused_fits Q T shut n zxid cause c c.queue (f refl)
refuse_if_fits Q T shut false n zxid cause c f g = record { phase = g refl; told = tt }
