-- The connections behind an image that was taken are those of the definition, with the luck that each of them had.
use Rattle.std.proofs.Common.{◌≡◌, ◌⊎◌, inl, inr, ℕ, ◌-◌, Bool, true, false, List, Option, Some, None, refl, ap, sym, ◌∙◌}
use Rattle.std.specs.Prelude.{if◌then◌else◌}
use Rattle.std.specs.Option.{option_map}
use Rattle.std.specs.FinMap as map
use Rattle.kp_seats.specs.Seating.{Seating}
use Rattle.kp_seats.specs.Walked.{Becomes}
use Rattle.kp_watch.specs.declared.watch.Watch.{Watch}
use Rattle.kp_conn.specs.declared.phase.Phase.{Phase}
use Rattle.kp_conn.specs.declared.phase.Phase.TheVariants as phase
use Rattle.kp_conn.specs.Connection.{Connection}
use Rattle.kp_step.specs.declared.seat.Seat.{Seat}
use Rattle.kp_step.specs.Choices.{Choices}
use Rattle.kp_step.specs.Node.{Seats}
use Rattle.kp_step.specs.Tables.{Table, row_at, seated, mapped, tabled, with_row}
use Rattle.kp_step.specs.Step.{risen, risen_as as row_as, ended, with_row_if, swept, count_lost, newly_ready}
use Rattle.kp_step.proofs.Tables.{get-mapped, same}
use Rattle.kp_node.specs.Holding.{AreKept, served_by, served_at}
use Rattle.kp_node.specs.Walking.{Loosens}
use Rattle.kp_node.specs.Rising.{risen_as, risen_with}
use Rattle.kp_node.specs.Leaving.{IsSeatRisenIf, IsSeatLeft, Leaves}
use Rattle.kp_node.proofs.Risen.{rising_loosens, ending_loosens}
use Rattle.kp_node.proofs.Reacted.{tables}

abbrev Looser : Seat → Seat → Type 0
Looser s t = (served_by t.connection.phase ≡ served_by s.connection.phase) ⊎ (served_by t.connection.phase ≡ None)

risen_looser : (rose : Bool) (zxid k : ℕ) (s t : Seat) → IsSeatRisenIf rose zxid k s t → Looser s t
risen_looser true zxid k s t h = rising_loosens zxid k s t h
risen_looser false zxid k s t h = inl (ap (λ (z : Seat). served_by z.connection.phase) h)

both_looser : (s t u : Seat) → Looser s t → Looser t u → Looser s u
both_looser s t u (inl a) (inl b) = inl (b ∙ a)
both_looser s t u (inr a) (inl b) = inr (b ∙ a)
both_looser s t u (inl a) (inr b) = inr b
both_looser s t u (inr a) (inr b) = inr b

pub leaving_loosens : (rose : Bool) (zxid : ℕ) → Loosens (IsSeatLeft rose zxid)
leaving_loosens rose zxid k s s' h = both_looser s h.0 s' (risen_looser rose zxid k s h.0 h.1) (ending_loosens k h.0 s' h.2)

-- ---- the luck of each connection

row_is : (ch : Choices) (zxid j k : ℕ) (d c : Connection) (p : Phase) → (row_as ch zxid j d p k c).connection ≡ risen_as (ch.luck k).answers zxid p c
row_is ch zxid j k d c phase.Fresh = refl
row_is ch zxid j k d c (phase.Connecting ro) = refl
row_is ch zxid j k d c (phase.Live s e n) = refl
row_is ch zxid j k d c (phase.Closing lost) = refl

abbrev luck_in : (rose : Bool) (zxid k : ℕ) (s t : Seat) → IsSeatRisenIf rose zxid k s t → Option ℕ
luck_in true zxid k s t h = h.0
luck_in false zxid k s t h = None

abbrev luck_of : (rose : Bool) (zxid q : ℕ) (o b : Option Seat) → Becomes (IsSeatLeft rose zxid q) o b → Option ℕ
luck_of rose zxid q None b h = None
luck_of rose zxid q (Some x) b h = luck_in rose zxid q x h.2.0 h.2.1

module _ (rose : Bool) (zxid : ℕ) (m u : Seats) (each : (q : ℕ) → Becomes (IsSeatLeft rose zxid q) (map.get m q) (map.get u q)) where
  -- the choices by which the connections became what they are
  abbrev pub choices : Choices
  choices = record { room = None; luck = λ q. record { events = None; requests = None; answers = luck_of rose zxid q (map.get m q) (map.get u q) (each q) } }

module _ (zxid : ℕ) (ch : Choices) where
  risen_one : (q : ℕ) (o b : Option Seat) (h : Becomes (IsSeatLeft true zxid q) o b) → (ch.luck q).answers ≡ luck_of true zxid q o b h → option_map (row_at ended q) (option_map (row_at (risen ch zxid) q) o) ≡ b
  risen_one q None b h is = sym h
  risen_one q (Some s) b h is =
      let t : row_at (risen ch zxid) q s ≡ h.2.0 = ap (seated s) (row_is ch zxid q q s.connection s.connection s.connection.phase ∙ ap (λ n. risen_with n zxid s.connection) is) ∙ sym h.2.1.1 in
      ap (λ z. Some (row_at ended q z)) t ∙ ap Some (sym h.2.2) ∙ sym h.1

  left_one : (q : ℕ) (o b : Option Seat) → Becomes (IsSeatLeft false zxid q) o b → option_map (row_at ended q) o ≡ b
  left_one q None b h = sym h
  left_one q (Some s) b h = ap (λ z. Some (row_at ended q z)) (sym h.2.1) ∙ ap Some (sym h.2.2) ∙ sym h.1

risen_all : (zxid : ℕ) (m u : Seats) (each : (q : ℕ) → Becomes (IsSeatLeft true zxid q) (map.get m q) (map.get u q)) → mapped (row_at ended) (mapped (row_at (risen (choices true zxid m u each) zxid)) m) ≡ u
risen_all zxid m u each = same _ _ (λ q. get-mapped (row_at ended) (mapped (row_at (risen (choices true zxid m u each) zxid)) m) q ∙ ap (option_map (row_at ended q)) (get-mapped (row_at (risen (choices true zxid m u each) zxid)) m q) ∙ risen_one zxid (choices true zxid m u each) q (map.get m q) (map.get u q) (each q) refl)

left_all : (zxid : ℕ) (m u : Seats) (each : (q : ℕ) → Becomes (IsSeatLeft false zxid q) (map.get m q) (map.get u q)) → mapped (row_at ended) m ≡ u
left_all zxid m u each = same _ _ (λ q. get-mapped (row_at ended) m q ∙ left_one zxid (choices false zxid m u each) q (map.get m q) (map.get u q) (each q))

-- ---- the connections

abbrev pub left_table : Bool → Bool → Choices → ℕ → Seats → List Watch → Table
left_table e r ch zxid m ws = with_row_if e ended (with_row_if r (risen ch zxid) (tabled m ws))

-- by some choices they are those of the table
pub record Left (e r : Bool) (zxid : ℕ) (t : Seating Seat) (ws : List Watch) (u : Seating Seat) (vs : List Watch) (list : List ℕ) (count : ℕ) : Type 0 where
  pub ch : Choices
  pub seats : u.seats ≡ (left_table e r ch zxid t.seats ws).seats
  pub next : u.next ≡ t.next
  pub served : (q : ℕ) → map.get u.sessions q ≡ served_at (map.get u.seats q)
  pub plain : (left_table e r ch zxid t.seats ws).watches ≡ ws
  pub watches : vs ≡ swept u.seats ws
  pub ready : list ≡ newly_ready t.seats u.seats
  pub lost : count ≡ count_lost u.seats - count_lost t.seats

pub left : (e r : Bool) (zxid : ℕ) (t : Seating Seat) (ws : List Watch) (u : Seating Seat) (vs : List Watch) (ready : List ℕ) (lost : ℕ)
    → Leaves r e zxid t ws u vs ready lost → AreKept t.seats ws → ((q : ℕ) → map.get t.sessions q ≡ served_at (map.get t.seats q)) → Left e r zxid t ws u vs ready lost
unfolding with_row
left false r zxid t ws u vs ready lost h kept served = let z = tables r zxid t ws u vs ready lost h kept served in record { ch = z.ch; seats = z.seats; next = z.next; served = z.served; plain = z.plain; watches = z.watches; ready = z.ready; lost = z.lost }
left true true zxid t ws u vs ready lost h kept served = record {
  ch = choices true zxid t.seats u.seats h.each;
  seats = sym (risen_all zxid t.seats u.seats h.each);
  next = h.next;
  served = h.served;
  plain = refl;
  watches = h.watches;
  ready = h.ready;
  lost = h.lost;
}
left true false zxid t ws u vs ready lost h kept served = record {
  ch = choices false zxid t.seats u.seats h.each;
  seats = sym (left_all zxid t.seats u.seats h.each);
  next = h.next;
  served = h.served;
  plain = refl;
  watches = h.watches;
  ready = h.ready;
  lost = h.lost;
}
