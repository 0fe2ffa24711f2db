-- One event is heard, and then those behind it, by all connections.
use Rattle.std.proofs.Common.{◌≡◌, ℕ, Bool, true, false, cond, List, [], ◌∷◌, drop, Option, Some, None, is_some, refl, ap, sym, subst, ◌∙◌}
use Rattle.std.specs.Prelude.{nat_eq, map, slice_get, if◌then◌else◌}
use Rattle.std.specs.Option.{option_map}
use Rattle.std.specs.List.{filter}
use Rattle.std.specs.Cmp.{nat_eq_equiv}
use Rattle.std.specs.FinMap as map
use Rattle.kp_model.specs.declared.reply.Event.{Event}
use Rattle.kp_seats.specs.Seating.{Seating}
use Rattle.kp_seats.specs.Walked.{IsStep, Becomes}
use Rattle.kp_watch.specs.declared.watch.Fired.{Fired}
use Rattle.kp_watch.specs.Watching.{shown, somes}
use Rattle.kp_conn.specs.Connection.{Connection, closed, put, is_over}
use Rattle.kp_conn.specs.Packets.{event_packet}
use Rattle.kp_step.specs.declared.seat.Seat.{Seat}
use Rattle.kp_step.specs.Node.{Seats}
use Rattle.kp_step.specs.Settling.{given_out}
use Rattle.kp_step.specs.Tables.{seated}
use Rattle.kp_step.specs.Committing.{packets_for}
use Rattle.kp_node.specs.Hearing.{heard_one, heard_with, watches_behind}
use Rattle.kp_node.specs.Firing.{Hears, SeatHears, told_with, AreTold, TellsOn}
use Rattle.kp_node.proofs.Heard.{hears_on}
use Rattle.kp_node.proofs.Maps.{no, same_number}

-- ---- one connection

module _ (e : Event) (c : Connection) where
  pub hears_nothing : is_over c.phase ≡ true → Hears e c c
  hears_nothing o = (true, sym (ap (λ b. if b then c else put (event_packet e) c) o))

  pub hears_it : (c' : Connection) → is_over c.phase ≡ false → c' ≡ put (event_packet e) c → Hears e c c'
  hears_it c' o f = (true, f ∙ sym (ap (λ b. if b then c else put (event_packet e) c) o))

  pub is_lost_by_it : (c' : Connection) → is_over c.phase ≡ false → c' ≡ closed true c → Hears e c c'
  is_lost_by_it c' o f = (false, f ∙ sym (ap (λ b. if b then c else closed true c) o))

-- no packets
heard_none : (c : Connection) → heard_with None [] c ≡ c
unfolding given_out
heard_none c = at (is_over c.phase) where
  at : (b : Bool) → (if b then c else c) ≡ c
  at true = refl
  at false = refl

told_none : (o : Option Seat) → option_map (told_with None []) o ≡ o
told_none None = refl
told_none (Some s) = ap (λ c. Some (seated s c)) (heard_none s.connection)

-- ---- all connections, one event

module _ (k : ℕ) (e : Event) (rest : List (ℕ × Event)) (here next : Seating Seat) (h : IsStep (SeatHears e) k here next) where
  abbrev Goes : ℕ → Option ℕ → List (List ℕ) → Type 0
  Goes q n ps = (m : Option ℕ) × (option_map (told_with n (packets_for q rest)) (map.get next.seats q) ≡ option_map (told_with m ps) (map.get here.seats q))

  at_here : (n : Option ℕ) (ps : List (List ℕ)) (o p : Option Seat) → Becomes (SeatHears e k) o p → (m : Option ℕ) × (option_map (told_with n ps) p ≡ option_map (told_with m (event_packet e ∷ ps)) o)
  at_here n ps None p b = (None, ap (option_map (told_with n ps)) b)
  at_here n ps (Some s) p b =
      let heard = hears_on k e ps [] (watches_behind b.2.0 k s.connection []) s.connection (heard_one b.2.0 e s.connection) (b.2.0, (refl, refl)) n in
      (heard.0, ap (option_map (told_with n ps)) (b.1 ∙ ap Some b.2.1) ∙ ap (λ c. Some (seated s c)) (sym heard.1))

  by_number : (q : ℕ) (n : Option ℕ) (b : Bool) → nat_eq k q ≡ b → Goes q n (map (λ (p : ℕ × Event). event_packet p.1) (cond b ((k, e) ∷ filter (λ (p : ℕ × Event). nat_eq p.0 q) rest) (filter (λ (p : ℕ × Event). nat_eq p.0 q) rest)))
  by_number q n true t = subst (λ j. Goes j n (event_packet e ∷ packets_for j rest)) (same_number k q t) (at_here n (packets_for k rest) (map.get here.seats k) (map.get next.seats k) h.here)
  by_number q n false t = (n, ap (option_map (told_with n (packets_for q rest))) (h.others q (λ i. no false refl (sym t ∙ ap (λ j. nat_eq k j) i ∙ nat_eq_equiv.refl k))))

  one_told : (q : ℕ) (n : Option ℕ) → Goes q n (packets_for q ((k, e) ∷ rest))
  one_told q n = by_number q n (nat_eq k q) refl

  pub tells_on : (pairs : List (ℕ × Event)) (old : Seats) → TellsOn pairs ((k, e) ∷ rest) old here.seats → TellsOn pairs rest old next.seats
  tells_on pairs old f q n = ((f q (one_told q n).0).0, (one_told q n).1 ∙ (f q (one_told q n).0).1)

-- ---- the walk

-- the first of a list
abbrev head_or : ℕ × Option Event → List (ℕ × Option Event) → ℕ × Option Event
head_or d [] = d
head_or d (x ∷ xs) = x

-- what is to be heard from here on
abbrev pub IsToTell : List Event → List Fired → List (ℕ × Event) → Seats → Seats → Type 0
IsToTell es fs pairs old here = (rest : List (ℕ × Event)) × ((shown es fs ≡ somes rest) × TellsOn pairs rest old here)

pub tells_first : (es : List Event) (fs : List Fired) (pairs : List (ℕ × Event)) (old : Seats) → shown es fs ≡ somes pairs → IsToTell es fs pairs old old
tells_first es fs pairs old h = (pairs, (h, λ k n. (n, refl)))

module _ (es : List Event) (f : Fired) (fs : List Fired) (pairs : List (ℕ × Event)) (old : Seats) (here next : Seating Seat)
    (h : (e : Event) → slice_get es f.at ≡ Some e → IsStep (SeatHears e) f.conn here next) where
  tells_pair : (p : ℕ × Event) (rest : List (ℕ × Event)) → ◌≡◌ {A = ℕ × Option Event} (f.conn, slice_get es f.at) (p.0, Some p.1) → TellsOn pairs (p ∷ rest) old here.seats → TellsOn pairs rest old next.seats
  tells_pair p rest e on = tells_on p.0 p.1 rest here next (subst (λ j. IsStep (SeatHears p.1) j here next) (ap (λ (x : ℕ × Option Event). x.0) e) (h p.1 (ap (λ (x : ℕ × Option Event). x.1) e))) pairs old on

  tells_rest : (rest : List (ℕ × Event)) → shown es (f ∷ fs) ≡ somes rest → TellsOn pairs rest old here.seats → IsToTell es fs pairs old next.seats
  tells_rest [] e on = no false refl (sym (ap (λ (xs : List (ℕ × Option Event)). is_some (slice_get xs 0)) e))
  tells_rest (p ∷ rest) e on = (rest, (ap (drop 1) e, tells_pair p rest (ap (λ (xs : List (ℕ × Option Event)). head_or (f.conn, slice_get es f.at) xs) e) on))

  pub tells_more : (all : List Fired) → all ≡ f ∷ fs → IsToTell es all pairs old here.seats → IsToTell es fs pairs old next.seats
  tells_more all at t = tells_rest t.0 (ap (shown es) (sym at) ∙ t.1.0) t.1.1

tells_none : (rest pairs : List (ℕ × Event)) (old here : Seats) → [] ≡ somes rest → TellsOn pairs rest old here → AreTold pairs old here
tells_none [] pairs old here e on k = ((on k None).0, sym (told_none (map.get here k)) ∙ (on k None).1)
tells_none (p ∷ rest) pairs old here e on k = no false refl (ap (λ (xs : List (ℕ × Option Event)). is_some (slice_get xs 0)) e)

pub all_told : (es : List Event) (all : List Fired) (pairs : List (ℕ × Event)) (old here : Seats) → all ≡ [] → IsToTell es all pairs old here → AreTold pairs old here
all_told es all pairs old here at t = tells_none t.0 pairs old here (ap (shown es) (sym at) ∙ t.1.0) t.1.1
