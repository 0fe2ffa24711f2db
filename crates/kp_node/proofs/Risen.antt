-- The connections behind a risen term are those of the definition, with the luck that each of them had.
use Rattle.std.proofs.Common.{◌≡◌, ◌⊎◌, inl, inr, ℕ, Bool, true, false, nat_lt, length, Option, Some, None, refl, ap, sym, subst, ◌∙◌}
use Rattle.std.specs.Prelude.{if◌then◌else◌}
use Rattle.std.specs.Option.{option_map}
use Rattle.std.specs.FinMap as map
use Rattle.kp_seats.specs.Walked.{Becomes}
use Rattle.kp_conn.specs.declared.phase.Phase.{Phase}
use Rattle.kp_conn.specs.declared.phase.Phase.TheVariants as phase
use Rattle.std.proofs.Common.{List, [], ◌∷◌}
use Rattle.kp_wire.specs.declared.reply.WireReply.TheVariants as sent
use Rattle.kp_conn.specs.declared.waiting.Waiting.{Waiting}
use Rattle.kp_conn.specs.Packets.{reply_packet}
use Rattle.kp_conn.specs.Connection.{Connection, closed, put, is_over}
use Rattle.kp_step.specs.declared.seat.Seat.{Seat}
use Rattle.kp_step.specs.Choices.{Choices, is_out, less}
use Rattle.kp_step.specs.Node.{Seats}
use Rattle.kp_step.specs.Answers.{by_term, code_of}
use Rattle.kp_step.specs.Settling.{refused, refused_if, stays, settled_so, telling, told_by}
use Rattle.kp_step.specs.Tables.{row_at, seated, mapped}
use Rattle.kp_step.specs.Step.{risen, risen_as as row_as, ended}
use Rattle.kp_step.proofs.Tables.{get-mapped, same}
use Rattle.kp_node.specs.Holding.{served_by}
use Rattle.kp_node.specs.Refusing.{refused_with}
use Rattle.kp_node.specs.Walking.{Loosens}
use Rattle.kp_node.specs.Rising.{risen_as, risen_with, IsSeatRisen, IsSeatEnded}

pub refused_some : (zxid : ℕ) (c c' : Connection) (b : Bool) → b ≡ true → (n : Option ℕ) × (c' ≡ refused_with n zxid by_term c) → (n : Option ℕ) × (c' ≡ (refused_if b n zxid by_term c).connection)
refused_some zxid c c' b h r = (r.0, r.1 ∙ ap (λ d. (if d then refused r.0 zxid by_term c c.queue else stays c).connection) (sym h))

-- ---- a risen term loosens

refused_loosens : (n : Option ℕ) (zxid : ℕ) (c : Connection) (q : List Waiting) → served_by (refused n zxid by_term c q).connection.phase ≡ None
unfolding refused
refused_loosens n zxid c [] = refl
refused_loosens n zxid c (w ∷ q) = by (is_out n) (refused_loosens (less n) zxid (put (reply_packet w.request.xid zxid (sent.Err (code_of by_term))) c) q) where
  by : (b : Bool) → served_by (refused (less n) zxid by_term (put (reply_packet w.request.xid zxid (sent.Err (code_of by_term))) c) q).connection.phase ≡ None → served_by (if b then settled_so (closed true c) [] else telling (told_by c.phase zxid w.request (sent.Err (code_of by_term)) by_term) (refused (less n) zxid by_term (put (reply_packet w.request.xid zxid (sent.Err (code_of by_term))) c) q)).connection.phase ≡ None
  by true h = refl
  by false h = h

abbrev Loose : Connection → Connection → Type 0
Loose c d = (served_by d.phase ≡ served_by c.phase) ⊎ (served_by d.phase ≡ None)

if_loosens : (b : Bool) (n : Option ℕ) (zxid : ℕ) (c : Connection) → Loose c (refused_if b n zxid by_term c).connection
if_loosens true n zxid c = inr (refused_loosens n zxid c c.queue)
if_loosens false n zxid c = inl refl

risen_loosens : (n : Option ℕ) (zxid : ℕ) (p : Phase) (c : Connection) → Loose c (risen_as n zxid p c)
risen_loosens n zxid phase.Fresh c = inl refl
risen_loosens n zxid (phase.Connecting ro) c = inr refl
risen_loosens n zxid (phase.Live s e k) c = if_loosens (nat_lt 0 (length c.queue)) n zxid c
risen_loosens n zxid (phase.Closing lost) c = inl refl

loose : (s s' : Seat) (d : Connection) → s' ≡ seated s d → Loose s.connection d → Loose s.connection s'.connection
loose s s' d e h = subst (λ (z : Seat). Loose s.connection z.connection) (sym e) h

pub rising_loosens : (zxid : ℕ) → Loosens (IsSeatRisen zxid)
rising_loosens zxid k s s' r = loose s s' (risen_with r.0 zxid s.connection) r.1 (risen_loosens r.0 zxid s.connection.phase s.connection)

ended_loose : (b : Bool) (c : Connection) → Loose c (if b then stays c else stays (closed false c)).connection
ended_loose true c = inl refl
ended_loose false c = inr refl

pub ending_loosens : Loosens IsSeatEnded
ending_loosens k s s' e = loose s s' (ended k s.connection).connection e (ended_loose (is_over s.connection.phase) s.connection)

-- ---- the luck of each connection

row_is : (ch : Choices) (zxid j k : ℕ) (d c : Connection) (p : Phase) → (row_as ch zxid j d p k c).connection ≡ risen_as (ch.luck k).answers zxid p c
row_is ch zxid j k d c phase.Fresh = refl
row_is ch zxid j k d c (phase.Connecting ro) = refl
row_is ch zxid j k d c (phase.Live s e n) = refl
row_is ch zxid j k d c (phase.Closing lost) = refl

module _ (zxid : ℕ) where
  abbrev luck_of : (q : ℕ) (o b : Option Seat) → Becomes (IsSeatRisen zxid q) o b → Option ℕ
  luck_of q None b h = None
  luck_of q (Some x) b h = h.2.0

  by_luck : (q : ℕ) (o b : Option Seat) (h : Becomes (IsSeatRisen zxid q) o b) → option_map (λ (s : Seat). seated s (risen_with (luck_of q o b h) zxid s.connection)) o ≡ b
  by_luck q None b h = sym h
  by_luck q (Some x) b h = ap Some (sym h.2.1) ∙ sym h.1

  module _ (m u : Seats) (each : (q : ℕ) → Becomes (IsSeatRisen zxid q) (map.get m q) (map.get u q)) where
    -- the choices by which the connections became what they are
    abbrev pub choices : Choices
    choices = record { room = None; luck = λ q. record { events = None; requests = None; answers = luck_of q (map.get m q) (map.get u q) (each q) } }

    row_by : (q : ℕ) (o : Option Seat) → option_map (row_at (risen choices zxid) q) o ≡ option_map (λ (s : Seat). seated s (risen_with (luck_of q (map.get m q) (map.get u q) (each q)) zxid s.connection)) o
    row_by q None = refl
    row_by q (Some s) = ap (λ c. Some (seated s c)) (row_is choices zxid q q s.connection s.connection s.connection.phase)

    pub risen_seats : mapped (row_at (risen choices zxid)) m ≡ u
    risen_seats = same _ _ (λ q. get-mapped (row_at (risen choices zxid)) m q ∙ row_by q (map.get m q) ∙ by_luck q (map.get m q) (map.get u q) (each q))
