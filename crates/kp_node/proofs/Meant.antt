-- A change of the connection of a session, found by the index, is that of all connections.
use Rattle.std.proofs.Common.{◌≡◌, ℕ, Bool, true, false, not, ◌&&◌, Option, Some, None, refl, ap, sym, subst, ◌∙◌}
use Rattle.std.specs.Prelude.{nat_eq, if◌then◌else◌, ◌==◌}
use Rattle.std.specs.Option.{option_map}
use Rattle.std.specs.Cmp.{nat_eq_equiv}
use Rattle.std.specs.FinMap as map
use Rattle.kp_seats.specs.Seating.{Seating}
use Rattle.kp_seats.specs.Serving.{is_that, serves}
use Rattle.kp_seats.specs.Walked.{IsStep, Becomes}
use Rattle.kp_wire.specs.declared.reply.WireReply.{WireReply}
use Rattle.kp_wire.specs.declared.reply.WireReply.TheVariants as sent
use Rattle.kp_conn.specs.declared.phase.Phase.{Phase}
use Rattle.kp_conn.specs.declared.phase.Phase.TheVariants as phase
use Rattle.kp_step.specs.declared.seat.Seat.{Seat}
use Rattle.kp_step.specs.Answers.{Cause, code_of}
use Rattle.kp_step.specs.Settling.{refused, stays}
use Rattle.kp_step.specs.Tables.{seated}
use Rattle.kp_step.specs.Committing.{is_of, is_in}
use Rattle.kp_node.specs.Holding.{served_at, served_by}
use Rattle.kp_node.specs.Telling.{replied_by}
use Rattle.kp_node.specs.Meaning.{IsIndexed, refused_seat, SeatRefuses, AreEnded, replied_seat, SeatKeeps, AreReplied}
use Rattle.kp_node.proofs.Maps.{no, same_number}

-- ---- who serves the session

of_served : (session : ℕ) (p : Phase) → is_of session p ≡ true → served_by p ≡ Some session
of_served session phase.Fresh h = no false refl h
of_served session (phase.Connecting ro) h = no false refl h
of_served session (phase.Live s e n) h = ap Some (same_number s session h)
of_served session (phase.Closing lost) h = no false refl h

pub in_of : (session epoch : ℕ) (p : Phase) → is_of session p ≡ false → is_in session epoch p ≡ false
in_of session epoch phase.Fresh h = refl
in_of session epoch (phase.Connecting ro) h = refl
in_of session epoch (phase.Live s e n) h = ap (λ b. b && e == epoch) h
in_of session epoch (phase.Closing lost) h = refl

module _ (t : Seating Seat) (session : ℕ) (h : IsIndexed t) where
  is_served : (k : ℕ) (s : Seat) → map.get t.seats k ≡ Some s → is_of session s.connection.phase ≡ true → serves t.sessions session k ≡ true
  is_served k s there o = ap (λ x. is_that x session) (h k session (ap served_at there ∙ of_served session s.connection.phase o)) ∙ nat_eq_equiv.refl session

  -- where nobody serves it by the index, no connection does
  not_of : (k : ℕ) (s : Seat) (b : Bool) → serves t.sessions session k ≡ false → map.get t.seats k ≡ Some s → is_of session s.connection.phase ≡ b → b ≡ false
  not_of k s true none there o = no false refl (sym none ∙ is_served k s there o)
  not_of k s false none there o = refl

  pub not_its : (k : ℕ) (s : Seat) → serves t.sessions session k ≡ false → map.get t.seats k ≡ Some s → is_of session s.connection.phase ≡ false
  not_its k s none there = not_of k s (is_of session s.connection.phase) none there refl

-- ---- refusals

module _ (session : ℕ) (zxid : ℕ) (cause : Cause) where
  refused_not : (may : Bool) (s : Seat) → (is_of session s.connection.phase && may) ≡ false → s ≡ refused_seat session may None zxid cause s
  refused_not may s h = ap (λ b. seated s (if b then refused None zxid cause s.connection s.connection.queue else stays s.connection).connection) (sym h)

  and_none : (b : Bool) → b && false ≡ false
  and_none true = refl
  and_none false = refl

  -- nothing changes at a place
  abbrev Stays : Bool → Option Seat → Type 0
  Stays may o = (n : Option ℕ) × (o ≡ option_map (refused_seat session may n zxid cause) o)

  stays_other : (t : Seating Seat) → IsIndexed t → (k : ℕ) (may : Bool) (o : Option Seat) → map.get t.seats k ≡ o → serves t.sessions session k ≡ false → Stays may o
  stays_other t h k may None at none = (None, refl)
  stays_other t h k may (Some s) at none = (None, ap Some (refused_not may s (ap (λ b. b && may) (not_its t session h k s none at))))

  stays_spared : (o : Option Seat) → Stays false o
  stays_spared None = (None, refl)
  stays_spared (Some s) = (None, ap Some (refused_not false s (and_none (is_of session s.connection.phase))))

  becomes : (r : WireReply) (k : ℕ) (may : Bool) (o p : Option Seat) → may ≡ true → sent.Err (code_of cause) ≡ r → Becomes (SeatRefuses session true zxid r k) o p → (n : Option ℕ) × (p ≡ option_map (refused_seat session may n zxid cause) o)
  becomes r k may None p m e b = (None, b)
  becomes r k may (Some s) p m e b = ((b.2 cause e).0, b.1 ∙ ap Some ((b.2 cause e).1 ∙ ap (λ z. refused_seat session z (b.2 cause e).0 zxid cause s) (sym m)))

pub none_ended : (t : Seating Seat) (session : ℕ) (spared : Option ℕ) (zxid : ℕ) (r : WireReply) → IsIndexed t → ((q : ℕ) → serves t.sessions session q ≡ false) → AreEnded session spared zxid r t.seats t.seats
none_ended t session spared zxid r h none cause e k = stays_other session zxid cause t h k (not (is_that spared k)) (map.get t.seats k) refl (none k)

not_that : (b : Bool) (x y : Option ℕ) → b ≡ true → b ≡ false → x ≡ y
not_that b x y t f = no b f t

module _ (t : Seating Seat) (session : ℕ) (spared : Option ℕ) (zxid : ℕ) (r : WireReply) (h : IsIndexed t) (conn : ℕ) (server : (q : ℕ) → serves t.sessions session q ≡ nat_eq conn q) where
  -- the one that serves it is spared
  spared_at : (cause : Cause) (k : ℕ) (b : Bool) → nat_eq conn k ≡ b → is_that spared conn ≡ true → Stays session zxid cause (not (is_that spared k)) (map.get t.seats k)
  spared_at cause k true e is = subst (λ z. Stays session zxid cause z (map.get t.seats k)) (sym (ap (λ j. not (is_that spared j)) (sym (same_number conn k e)) ∙ ap not is)) (stays_spared session zxid cause (map.get t.seats k))
  spared_at cause k false e is = stays_other session zxid cause t h k (not (is_that spared k)) (map.get t.seats k) refl (server k ∙ e)

  pub spared_stays : is_that spared conn ≡ true → AreEnded session spared zxid r t.seats t.seats
  spared_stays is cause e k = spared_at cause k (nat_eq conn k) refl is

  module _ (u : Seating Seat) (step : IsStep (SeatRefuses session true zxid r) conn t u) where
    ended_at : (cause : Cause) → sent.Err (code_of cause) ≡ r → (k : ℕ) (b : Bool) → nat_eq conn k ≡ b → is_that spared conn ≡ false → (n : Option ℕ) × (map.get u.seats k ≡ option_map (refused_seat session (not (is_that spared k)) n zxid cause) (map.get t.seats k))
    ended_at cause e k true i is = subst (λ j. (n : Option ℕ) × (map.get u.seats j ≡ option_map (refused_seat session (not (is_that spared j)) n zxid cause) (map.get t.seats j))) (same_number conn k i)
        (becomes session zxid cause r conn (not (is_that spared conn)) (map.get t.seats conn) (map.get u.seats conn) (ap not is) e step.here)
    ended_at cause e k false i is =
        let same = step.others k (λ p. no false refl (sym i ∙ ap (λ j. nat_eq conn j) p ∙ nat_eq_equiv.refl conn)) in
        let stay = stays_other session zxid cause t h k (not (is_that spared k)) (map.get t.seats k) refl (server k ∙ i) in
        (stay.0, same ∙ stay.1)

    pub server_ended : is_that spared conn ≡ false → AreEnded session spared zxid r t.seats u.seats
    server_ended is cause e k = ended_at cause e k (nat_eq conn k) refl is

-- ---- answers that are kept

module _ (session epoch seq : ℕ) (r : Option WireReply) where
  replied_not : (s : Seat) → is_of session s.connection.phase ≡ false → s ≡ replied_seat session epoch seq r s
  replied_not s h = ap (λ b. seated s (if b then replied_by seq r s.connection else s.connection)) (sym (in_of session epoch s.connection.phase h))

  unreplied : (t : Seating Seat) → IsIndexed t → (k : ℕ) (o : Option Seat) → map.get t.seats k ≡ o → serves t.sessions session k ≡ false → o ≡ option_map (replied_seat session epoch seq r) o
  unreplied t h k None at none = refl
  unreplied t h k (Some s) at none = ap Some (replied_not s (not_its t session h k s none at))

  pub none_replied : (t : Seating Seat) → IsIndexed t → ((q : ℕ) → serves t.sessions session q ≡ false) → AreReplied session epoch seq r t.seats t.seats
  none_replied t h none k = unreplied t h k (map.get t.seats k) refl (none k)

  replied_here : (k : ℕ) (o p : Option Seat) → Becomes (SeatKeeps session epoch seq r k) o p → p ≡ option_map (replied_seat session epoch seq r) o
  replied_here k None p b = b
  replied_here k (Some s) p b = b.1 ∙ ap Some b.2

  module _ (t u : Seating Seat) (h : IsIndexed t) (conn : ℕ) (server : (q : ℕ) → serves t.sessions session q ≡ nat_eq conn q) (step : IsStep (SeatKeeps session epoch seq r) conn t u) where
    replied_at : (k : ℕ) (b : Bool) → nat_eq conn k ≡ b → map.get u.seats k ≡ option_map (replied_seat session epoch seq r) (map.get t.seats k)
    replied_at k true i = subst (λ j. map.get u.seats j ≡ option_map (replied_seat session epoch seq r) (map.get t.seats j)) (same_number conn k i) (replied_here conn (map.get t.seats conn) (map.get u.seats conn) step.here)
    replied_at k false i = step.others k (λ p. no false refl (sym i ∙ ap (λ j. nat_eq conn j) p ∙ nat_eq_equiv.refl conn)) ∙ unreplied t h k (map.get t.seats k) refl (server k ∙ i)

    pub server_replied : AreReplied session epoch seq r t.seats u.seats
    server_replied k = replied_at k (nat_eq conn k) refl
