-- A connection takes bytes by its phase, and in its place among the others.
use Rattle.std.proofs.Common.{◌≡◌, ℕ, false, cond, List, [], Option, Some, None, refl, ap, sym, subst, ◌∙◌}
use Rattle.std.specs.Prelude.{Result, Ok, Err, IfOk, IsSome}
use Rattle.std.specs.Cmp.{nat_eq_equiv}
use Rattle.std.specs.FinMap as map
use Rattle.kp_model.specs.Store.{Store}
use Rattle.kp_raft.specs.Members.{Member}
use Rattle.kp_seats.specs.Seating.{Seating, holding}
use Rattle.kp_watch.specs.declared.watch.Watch.{Watch}
use Rattle.kp_conn.specs.declared.fed.Fed.{Fed}
use Rattle.kp_conn.specs.declared.phase.Phase.{Phase}
use Rattle.kp_conn.specs.declared.phase.Phase.TheVariants as phase
use Rattle.kp_conn.specs.Connection.{Connection, is_over, is_lost}
use Rattle.kp_conn.specs.Fed.{fed, fed_as, IsLive}
use Rattle.kp_step.specs.declared.seat.Seat.{Seat}
use Rattle.kp_step.specs.Choices.{Luck}
use Rattle.kp_step.specs.Handing as step
use Rattle.kp_step.specs.Handing.{Served, served, served_as, serves}
use Rattle.kp_node.specs.declared.joining.Ground.{Ground}
use Rattle.kp_node.specs.declared.serving.Handed.{Handed}
use Rattle.kp_node.specs.declared.taking.Taken.{Taken}
use Rattle.kp_node.specs.Clients.{SeatTakes, TakesAmong, TakesAt, left_over}
use Rattle.kp_node.specs.Deciding.{kept_watches}
use Rattle.kp_node.specs.Holding.{served_by, served_at}
use Rattle.kp_node.specs.Joining.{ground_in, desk_of}
use Rattle.kp_node.specs.Proposing.{AtDesk}
use Rattle.kp_node.specs.Serving.{HandsOver, Serves}
use Rattle.kp_node.specs.TakingBytes.{taken, Takes, seated_at, end_in}
use Rattle.kp_node.proofs.Maps.{no, get-put}

-- a live connection that was fed is one
fed_as_live : (p : Phase) (c : Connection) (bytes : List ℕ) → c.phase ≡ p → IsLive p → is_lost (fed_as p c bytes).0.phase ≡ false
fed_as_live phase.Fresh c bytes e l = absurd l
fed_as_live (phase.Connecting ro) c bytes e l = absurd l
fed_as_live (phase.Live s f n) c bytes e l = ap is_lost e
fed_as_live (phase.Closing lost) c bytes e l = absurd l

pub fed_live : (c : Connection) (bytes : List ℕ) (d : Connection × Fed) → fed c bytes ≡ d → IsLive c.phase → is_lost d.0.phase ≡ false
unfolding fed
fed_live c bytes d e l = ap (λ (z : Connection × Fed). is_lost z.0.phase) (sym e) ∙ fed_as_live c.phase c bytes refl l

module _ (g : Ground) (k : ℕ) (draw : List ℕ) (text : List ℕ → List ℕ) (bytes : List ℕ) (m n : Member) (x y : Store) (ws ws' : List Watch) (c c' : Connection) (o : Handed) where
  as_live : (luck : Luck) (p : Phase) (z : Connection × Fed) → IsLive p → served_as (ground_in g x.state) luck k draw text (desk_of x [] []) ws p z.0 z.1 ≡ served (ground_in g x.state) luck k ws z.0 (desk_of x [] []) z.1
  as_live luck phase.Fresh z l = absurd l
  as_live luck (phase.Connecting ro) z l = absurd l
  as_live luck (phase.Live s e i) z l = refl
  as_live luck (phase.Closing lost) z l = absurd l

  taken_live : (luck : Luck) (mid : Connection) (f : Fed) → fed c bytes ≡ (mid, f) → IsLive c.phase → taken g luck k draw text x ws c bytes ≡ served (ground_in g x.state) luck k ws mid (desk_of x [] []) f
  unfolding serves
  taken_live luck mid f e l = as_live luck c.phase (fed c bytes) l ∙ ap (λ (z : Connection × Fed). served (ground_in g x.state) luck k ws z.0 (desk_of x [] []) z.1) e

  pub takes_live : (mid : Connection) (f : Fed) → fed c bytes ≡ (mid, f) → IsLive c.phase → Serves g k f m x ws mid n y ws' c' o → Takes g k draw text bytes m x ws c n y ws' c' o
  takes_live mid f e l h =
      let luck = h.served.0 in
      let same : taken g luck k draw text x ws c bytes ≡ served (ground_in g x.state) luck k ws mid (desk_of x [] []) f = taken_live luck mid f e l in
      let desk : h.desk ≡ (taken g luck k draw text x ws c bytes).desk = h.served.1.1 ∙ ap (λ (w : Served). w.desk) (sym same) in record {
        luck = luck;
        connection = h.served.1.0 ∙ ap (λ (w : Served). w.connection) (sym same);
        watches = h.served.1.2 ∙ ap (λ (w : Served). kept_watches k c'.phase w.watches) (sym same);
        over = subst (λ (d : step.Desk). HandsOver g m d.bodies d.forwards o n) desk h.over;
        at = subst (λ (d : step.Desk). AtDesk x g.term g.now y d.bodies d) desk h.at;
      }

-- ---- in its place

-- a connection that serves a session is live, and isn't over
live_by : (p : Phase) → IsSome (served_by p) → IsLive p
live_by phase.Fresh h = no false refl h
live_by (phase.Connecting ro) h = no false refl h
live_by (phase.Live s e i) h = tt
live_by (phase.Closing lost) h = no false refl h

open_by : (p : Phase) → IsSome (served_by p) → is_over p ≡ false
open_by phase.Fresh h = refl
open_by (phase.Connecting ro) h = refl
open_by (phase.Live s e i) h = refl
open_by (phase.Closing lost) h = no false refl h

pub live_at : (o : Option Seat) (s : Seat) → Some s ≡ o → IsSome (served_at o) → IsLive s.connection.phase
live_at o s there h = live_by s.connection.phase (subst (λ q. IsSome (served_at q)) (sym there) h)

pub never_none : (o : Option Seat) → None ≡ o → IsSome (served_at o) → ⊥
never_none o there h = no false refl (subst (λ q. IsSome (served_at q)) (sym there) h)

module _ (g : Ground) (k : ℕ) (bytes : List ℕ) (m n : Member) (x y : Store) (ws ws' : List Watch) (t u v : Seating Seat) (o : Taken) (a : TakesAmong g k bytes m x ws t n y ws' u o) where
  same_draw : a.is ≡ record a.was { connection = a.is.connection }
  same_draw = λ i. record { draw = a.seat.draw i; connection = a.is.connection }

  here : map.get (holding t k a.is).seats k ≡ Some a.is
  here = get-put t.seats k a.is k ∙ ap (λ b. cond b (Some a.is) (map.get t.seats k)) (nat_eq_equiv.refl k)

  pub takes_at : IsSome (served_at (map.get t.seats k)) → v ≡ left_over (map.get u.seats k) u k → (text : List ℕ → List ℕ) → TakesAt g k text bytes m x ws t n y ws' v o
  takes_at live is text = record {
    was = a.was;
    there = a.there;
    stays_open = open_by a.was.connection.phase (subst (λ q. IsSome (served_at q)) a.there live);
    after = a.is.connection;
    takes = a.seat.takes a.was.draw text;
    end = a.seat.end;
    seating = is
        ∙ ap (λ (z : Seating Seat). left_over (map.get z.seats k) z k) a.seating
        ∙ ap (λ q. left_over q (holding t k a.is) k) here
        ∙ ap (seated_at t k) same_draw;
  }

-- both clauses of what a seat's connection took
pub seat_takes : {E : Type 0} (g : Ground) (k : ℕ) (bytes : List ℕ) (m n : Member) (x y : Store) (ws ws' : List Watch) (s : Seat) (c : Connection) (r : Result Taken E)
    → IfOk r (λ t. (draw : List ℕ) (text : List ℕ → List ℕ) → Takes g k draw text bytes m x ws s.connection n y ws' c t.handed) → IfOk r (λ t. t.end ≡ end_in s.connection bytes)
    → IfOk r (λ t. SeatTakes g k bytes m x ws s n y ws' (record s { connection = c }) t)
seat_takes g k bytes m n x y ws ws' s c (Ok t) takes end = record { draw = refl; end = end; takes = takes }
seat_takes g k bytes m n x y ws ws' s c (Err e) takes end = tt
