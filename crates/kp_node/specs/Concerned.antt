-- Which connections may change where an entry is applied: those that hear, the one of its session, and the newcomer.
use Rattle.std.specs.Prelude.{◌≡◌, ℕ, false, nat_eq, map, List, Option, Some, None}
use Rattle.std.specs.List.{list_any}
use Rattle.std.specs.Ordering.{nat_cmp}
use Rattle.std.specs.BTreeSet.{contains, BTreeSet}
use Rattle.kp_model.specs.declared.entry.Body.{Body}
use Rattle.kp_model.specs.declared.entry.Body.TheVariants as body
use Rattle.kp_model.specs.declared.reply.Event.{Event}
use Rattle.kp_model.specs.declared.reply.Reply.{Reply}
use Rattle.kp_seats.specs.Seating.{Seating}
use Rattle.kp_seats.specs.Serving.{IsServer, is_that}
use Rattle.kp_watch.specs.declared.watch.Fired.{Fired}
use Rattle.kp_watch.specs.Watching.{shown, somes}
use Rattle.kp_step.specs.declared.seat.Seat.{Seat}
use Rattle.kp_step.specs.Node.{Seats}
use Rattle.kp_node.specs.Changing.{ChangedAt}
use Rattle.kp_node.specs.Informing.{AreInformed}
use Rattle.kp_node.specs.Meaning.{IsIndexed}

-- the connections that hear
abbrev pub hearers : List Fired → List ℕ
hearers fs = map (λ (f : Fired). f.conn) fs

-- what isn't in the set is none of them
abbrev pub HasAll : List ℕ → BTreeSet ℕ → Type 0
HasAll ks set = (q : ℕ) → contains nat_cmp set q ≡ false → list_any (nat_eq q) ks ≡ false

abbrev pub HasOne : Option ℕ → BTreeSet ℕ → Type 0
HasOne o set = (q : ℕ) → contains nat_cmp set q ≡ false → is_that o q ≡ false

-- the list has them all
pub record HasConcerned (fs : List Fired) (o p : Option ℕ) (ks : List ℕ) : Type 0 where
  pub hearers : (q : ℕ) → list_any (nat_eq q) ks ≡ false → list_any (nat_eq q) (map (λ (f : Fired). f.conn) fs) ≡ false
  pub server : (q : ℕ) → list_any (nat_eq q) ks ≡ false → is_that o q ≡ false
  pub newcomer : (q : ℕ) → list_any (nat_eq q) ks ≡ false → is_that p q ≡ false

-- the session of an entry whose connection it may answer or end
abbrev pub subject : Body → Option ℕ
subject body.Noop = None
subject (body.OpenSession timeout passwd o) = None
subject (body.Attach session passwd o) = Some session
subject (body.Expire session) = Some session
subject (body.Write session epoch seq c) = Some session

-- its connection, by the index
abbrev pub IsSubject : Seating Seat → Option ℕ → Option ℕ → Type 0
IsSubject t None server = server ≡ None
IsSubject t (Some session) server = IsServer t.sessions session server

-- connections that were told of an entry changed at these alone
abbrev pub InformedChange : Type 0
InformedChange = (me boot zxid : ℕ) (b : Body) (r : Reply) (es : List Event) (fs : List Fired) (pairs : List (ℕ × Event)) (server newcomer : Option ℕ) (ks : List ℕ) (t : Seating Seat) (new : Seats)
    → IsIndexed t → shown es fs ≡ somes pairs → IsSubject t (subject b) server → HasConcerned fs server newcomer ks → AreInformed me boot zxid b r pairs t.seats new → ChangedAt ks t.seats new
