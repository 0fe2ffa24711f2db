-- A connection that isn't live takes bytes in its place among the others.
use Rattle.std.proofs.Common.{◌≡◌, ℕ, false, cond, List, Option, Some, None, refl, ap, sym, subst, ◌∙◌}
use Rattle.std.specs.Cmp.{nat_eq_equiv}
use Rattle.std.specs.FinMap as map
use Rattle.kp_model.specs.Store.{Store}
use Rattle.kp_raft.specs.Members.{Member}
use Rattle.kp_seats.specs.Seating.{Seating, holding}
use Rattle.kp_conn.specs.declared.fed.FedEnd.TheVariants as ends
use Rattle.kp_conn.specs.declared.phase.Phase.{Phase}
use Rattle.kp_conn.specs.declared.phase.Phase.TheVariants as phase
use Rattle.kp_conn.specs.Connection.{Connection, is_over}
use Rattle.kp_conn.specs.Fed.{fed, fed_as}
use Rattle.kp_step.specs.declared.seat.Seat.{Seat}
use Rattle.kp_node.specs.declared.first_bytes.First.{First}
use Rattle.kp_node.specs.declared.first_bytes.First.TheVariants as first
use Rattle.kp_node.specs.declared.joining.Ground.{Ground}
use Rattle.kp_node.specs.Clients.{left_over}
use Rattle.kp_node.specs.FirstBytes.{IsFirst, is_word}
use Rattle.kp_node.specs.Early.{IsFirstAt, FirstAmong, FirstAt}
use Rattle.kp_node.specs.TakingBytes.{seated_at, end_in}
use Rattle.kp_node.proofs.Greets.{held_still}
use Rattle.kp_node.proofs.Maps.{no, get-put}

pub first_there : (o : Option Seat) (s : Seat) → Some s ≡ o → IsFirstAt o → IsFirst s.connection.phase
first_there o s there h = subst IsFirstAt (sym there) h

pub first_nowhere : (o : Option Seat) → None ≡ o → IsFirstAt o → ⊥
first_nowhere o there h = subst IsFirstAt (sym there) h

pub early_open : (p : Phase) → IsFirst p → is_over p ≡ false
early_open phase.Fresh h = refl
early_open (phase.Connecting ro) h = refl
early_open (phase.Live s e n) h = refl
early_open (phase.Closing lost) h = absurd h

-- a word comes on a new connection alone
fresh_by : (p : Phase) (c : Connection) (bytes w : List ℕ) → c.phase ≡ p → IsFirst p → (fed_as p c bytes).1.end ≡ ends.Word w → c.phase ≡ phase.Fresh
fresh_by phase.Fresh c bytes w e h end = e
fresh_by (phase.Connecting ro) c bytes w e h end = no false refl (ap is_word end)
fresh_by (phase.Live s i n) c bytes w e h end = absurd h
fresh_by (phase.Closing l) c bytes w e h end = absurd h

fresh_word : (c : Connection) (bytes w : List ℕ) → IsFirst c.phase → end_in c bytes ≡ ends.Word w → c.phase ≡ phase.Fresh
unfolding fed
fresh_word c bytes w h end = fresh_by c.phase c bytes w refl h end

module _ (g : Ground) (k : ℕ) (bytes : List ℕ) (m n : Member) (x y : Store) (t u v : Seating Seat) where
  module _ (f : First) (a : FirstAmong g k bytes m x t n y u f) (is : v ≡ left_over (map.get u.seats k) u k) where
    same_draw : a.is ≡ record a.was { connection = a.is.connection }
    same_draw = λ i. record { draw = a.seat.draw i; connection = a.is.connection }

    here : map.get (holding t k a.is).seats k ≡ Some a.is
    here = get-put t.seats k a.is k ∙ ap (λ b. cond b (Some a.is) (map.get t.seats k)) (nat_eq_equiv.refl k)

    behind : v ≡ seated_at t k (record a.was { connection = a.is.connection })
    behind = is
        ∙ ap (λ (z : Seating Seat). left_over (map.get z.seats k) z k) a.seating
        ∙ ap (λ q. left_over q (holding t k a.is) k) here
        ∙ ap (seated_at t k) same_draw

    -- where the seat is as it was, so are all
    still : a.is.connection ≡ a.was.connection → v ≡ t
    still same =
        let seat : a.is ≡ a.was = λ i. record { draw = a.seat.draw i; connection = same i } in
        let all : u ≡ t = a.seating ∙ held_still t k a.was a.is (sym a.there) seat in
        is ∙ (λ i. left_over (map.get (all i).seats k) (all i) k) ∙ ap (λ o. left_over o t k) a.there
        ∙ ap (λ b. cond b (record { next = t.next; seats = t.seats; sessions = map.remove t.sessions k; has_room = t.has_room }) t) (early_open a.was.connection.phase a.early)

  pub early_at : (f : First) → FirstAmong g k bytes m x t n y u f → v ≡ left_over (map.get u.seats k) u k → FirstAt g k bytes m x t n y v f
  early_at (first.Word w) a is = (
    record { was = a.was; there = a.there; fresh = fresh_word a.was.connection bytes w a.early a.seat.takes.0; end = a.seat.takes.0 },
    (a.seat.takes.1.0, (a.seat.takes.1.1.0, still (first.Word w) a is a.seat.takes.1.1.1)),
  )
  early_at (first.Taken o) a is = (
    a.seat.takes.1.0,
    λ text ws. record {
      was = a.was;
      there = a.there;
      stays_open = early_open a.was.connection.phase a.early;
      after = a.is.connection;
      takes = a.seat.takes.1.1 text ws;
      end = a.seat.takes.0;
      seating = behind (first.Taken o) a is;
    },
  )
