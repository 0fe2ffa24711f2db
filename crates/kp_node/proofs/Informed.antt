-- Connections that heard, and then learned what an entry means, are those of the definition.
use Rattle.std.proofs.Common.{◌≡◌, ℕ, zero, suc, Bool, true, false, not, ◌&&◌, List, [], ◌∷◌, Option, Some, None, is_some, refl, ap, sym, subst, ◌∙◌}
use Rattle.std.specs.Prelude.{if◌then◌else◌}
use Rattle.std.specs.Option.{option_map}
use Rattle.std.specs.FinMap as map
use Rattle.kp_model.specs.declared.command.Cmd.{Cmd}
use Rattle.kp_model.specs.declared.entry.Body.{Body}
use Rattle.kp_model.specs.declared.entry.Body.TheVariants as body
use Rattle.kp_model.specs.declared.reply.Event.{Event}
use Rattle.kp_model.specs.declared.reply.Reply.{Reply}
use Rattle.kp_model.specs.declared.reply.Reply.TheVariants as reply
use Rattle.kp_model.specs.declared.session.Origin.{Origin}
use Rattle.kp_model.specs.State.{same_origin}
use Rattle.kp_model.specs.Taken.{is_stale}
use Rattle.kp_seats.specs.Seating.{Seating}
use Rattle.kp_seats.specs.Walked.{SameBeside}
use Rattle.kp_wire.specs.declared.reply.WireReply.{WireReply}
use Rattle.kp_conn.specs.declared.phase.Phase.{Phase}
use Rattle.kp_conn.specs.declared.phase.Phase.TheVariants as phase
use Rattle.kp_conn.specs.declared.waiting.Waiting.{Waiting}
use Rattle.kp_conn.specs.Connection.{Connection, put, closed, is_over}
use Rattle.kp_conn.specs.Queue.{awaited}
use Rattle.kp_step.specs.declared.seat.Seat.{Seat}
use Rattle.kp_step.specs.Choices.{Choices, Luck, is_out, less}
use Rattle.kp_step.specs.Node.{Seats}
use Rattle.kp_step.specs.Answers.{Cause, by_move, by_end}
use Rattle.kp_step.specs.Settling.{Settled, stays, refused, refused_if, given_out}
use Rattle.kp_step.specs.Tables.{Row, row_at, mapped, seated}
use Rattle.kp_step.specs.Committing.{is_in, packets_for, hears, replied_in, replied_to, attached_to, applied_to, written_to, meaning}
use Rattle.kp_step.proofs.Tables.{get-mapped}
use Rattle.kp_node.specs.Hearing.{heard_with}
use Rattle.kp_node.specs.Holding.{served_by, served_at}
use Rattle.kp_node.specs.Telling.{answer_for}
use Rattle.kp_node.specs.Firing.{told_with, AreTold}
use Rattle.kp_node.specs.Meaning.{IsIndexed}
use Rattle.kp_node.specs.Informing.{IsAnswerIn, AreMeant, AreInformed, InformedIsDefined}
use Rattle.kp_node.proofs.Maps.{no, same}

-- ---- a connection that heard

pub not_over : (p : Phase) (s : ℕ) → served_by p ≡ Some s → is_over p ≡ false
not_over phase.Fresh s h = refl
not_over (phase.Connecting ro) s h = refl
not_over (phase.Live x e n) s h = refl
not_over (phase.Closing lost) s h = no false refl (ap is_some h)

-- where it isn't over, its phase and queue are what they were
abbrev Same : Connection → Connection → Type 0
Same c d = (d.phase ≡ c.phase) × (d.queue ≡ c.queue)

given_if : (b : Bool) (c x : Connection) → is_over (if b then closed true c else x).phase ≡ false → (is_over x.phase ≡ false → Same c x) → Same c (if b then closed true c else x)
given_if true c x h f = no true h refl
given_if false c x h f = f h

given_same : (n : Option ℕ) (ps : List (List ℕ)) (c : Connection) → is_over (given_out n ps c).phase ≡ false → Same c (given_out n ps c)
unfolding given_out
given_same n [] c h = (refl, refl)
given_same n (p ∷ ps) c h = given_if (is_out n) c (given_out (less n) ps (put p c)) h (given_same (less n) ps (put p c))

heard_same : (n : Option ℕ) (ps : List (List ℕ)) (c : Connection) → is_over (heard_with n ps c).phase ≡ false → Same c (heard_with n ps c)
heard_same n ps c h = at (is_over c.phase) h where
  at : (b : Bool) → is_over (if b then c else given_out n ps c).phase ≡ false → Same c (if b then c else given_out n ps c)
  at true g = (refl, refl)
  at false g = given_same n ps c g

-- ---- whom the index knows

Serves_as : Option Seat → Option Seat → Type 0
Serves_as o p = (s : ℕ) → served_at p ≡ Some s → served_at o ≡ Some s

pub indexed_behind : (t u : Seating Seat) → ((k s : ℕ) → served_at (map.get u.seats k) ≡ Some s → served_at (map.get t.seats k) ≡ Some s) → SameBeside t u → IsIndexed t → IsIndexed u
indexed_behind t u f beside h k s at = ap (λ m. map.get m k) beside.1 ∙ h k s (f k s at)

told_serves : (n : Option ℕ) (ps : List (List ℕ)) (o : Option Seat) (s : ℕ) → served_at (option_map (told_with n ps) o) ≡ Some s → served_at o ≡ Some s
told_serves n ps None s h = h
told_serves n ps (Some x) s h = ap served_by (sym (heard_same n ps x.connection (not_over (heard_with n ps x.connection).phase s h)).0) ∙ h

pub told_indexed : (t u : Seating Seat) (pairs : List (ℕ × Event)) → AreTold pairs t.seats u.seats → SameBeside t u → IsIndexed t → IsIndexed u
told_indexed t u pairs told beside h = indexed_behind t u (λ k s at. told_serves (told k).0 (packets_for k pairs) (map.get t.seats k) s (ap served_at (sym (told k).1) ∙ at)) beside h

-- ---- the answer of the write

in_served : (session epoch : ℕ) (p : Phase) → is_in session epoch p ≡ true → is_over p ≡ false
in_served session epoch phase.Fresh h = refl
in_served session epoch (phase.Connecting ro) h = refl
in_served session epoch (phase.Live s e n) h = refl
in_served session epoch (phase.Closing lost) h = no false refl h

module _ (session epoch seq : ℕ) (r : Reply) (answer : Option WireReply) where
  abbrev Answers : Option Seat → Type 0
  Answers o = (s : Seat) → o ≡ Some s → is_in session epoch s.connection.phase ≡ true → answer ≡ answer_for r (awaited seq s.connection.queue)

  answers_heard : (n : Option ℕ) (ps : List (List ℕ)) (x : Seat) → (is_in session epoch x.connection.phase ≡ true → answer ≡ answer_for r (awaited seq x.connection.queue))
      → is_in session epoch (heard_with n ps x.connection).phase ≡ true → answer ≡ answer_for r (awaited seq (heard_with n ps x.connection).queue)
  answers_heard n ps x f i =
      let kept = heard_same n ps x.connection (in_served session epoch (heard_with n ps x.connection).phase i) in
      f (ap (is_in session epoch) (sym kept.0) ∙ i) ∙ ap (λ q. answer_for r (awaited seq q)) (sym kept.1)

  answers_told : (n : Option ℕ) (ps : List (List ℕ)) (o p : Option Seat) → p ≡ option_map (told_with n ps) o → Answers o → Answers p
  answers_told n ps None p e f s at i = no false refl (ap is_some (sym e ∙ at))
  answers_told n ps (Some x) p e f s at i = subst (λ (z : Seat). is_in session epoch z.connection.phase ≡ true → answer ≡ answer_for r (awaited seq z.connection.queue)) (ap (value x) (sym e ∙ at)) (answers_heard n ps x (f x refl)) i
    where
      value : Seat → Option Seat → Seat
      value d None = d
      value d (Some s) = s

pub answer_told : (b : Body) (r : Reply) (answer : Option WireReply) (pairs : List (ℕ × Event)) (old new : Seats) → AreTold pairs old new → IsAnswerIn b r answer old → IsAnswerIn b r answer new
answer_told body.Noop r answer pairs old new told h = tt
answer_told (body.OpenSession timeout passwd o) r answer pairs old new told h = tt
answer_told (body.Attach session passwd o) r answer pairs old new told h = tt
answer_told (body.Expire session) r answer pairs old new told h = tt
answer_told (body.Write session epoch seq q) r answer pairs old new told h = λ k. answers_told session epoch seq r answer (told k).0 (packets_for k pairs) (map.get old k) (map.get new k) (told k).1 (h k)

-- ---- what it means leaves no one live that wasn't

refused_over : (n : Option ℕ) (zxid : ℕ) (cause : Cause) (c : Connection) (q : List Waiting) → is_over (refused n zxid cause c q).connection.phase ≡ true
unfolding refused
refused_over n zxid cause c [] = refl
refused_over n zxid cause c (w ∷ q) = at (is_out n) _ _ refl (refused_over (less n) zxid cause _ q) where
  at : (b : Bool) (x y : Settled) → is_over x.connection.phase ≡ true → is_over y.connection.phase ≡ true → is_over (if b then x else y).connection.phase ≡ true
  at true x y f g = f
  at false x y f g = g

refused_serves : (b : Bool) (n : Option ℕ) (zxid : ℕ) (cause : Cause) (c : Connection) (s : ℕ) → served_by (refused_if b n zxid cause c).connection.phase ≡ Some s → served_by c.phase ≡ Some s
refused_serves true n zxid cause c s h = no (is_over (refused n zxid cause c c.queue).connection.phase) (not_over (refused n zxid cause c c.queue).connection.phase s h) (refused_over n zxid cause c c.queue)
refused_serves false n zxid cause c s h = h

replied_phase : (seq : ℕ) (r : Reply) (c : Connection) (o : Option Waiting) → (replied_in seq r c o).phase ≡ c.phase
replied_phase seq r c None = refl
replied_phase seq r c (Some w) = refl

attach_serves : (ch : Choices) (zxid : ℕ) (mine o : Origin) (session : ℕ) (r : Reply) (k : ℕ) (c : Connection) (s : ℕ) → served_by (attached_to ch zxid mine o session r k c).connection.phase ≡ Some s → served_by c.phase ≡ Some s
attach_serves ch zxid mine o session reply.Stale k c s h = h
attach_serves ch zxid mine o session (reply.Err code) k c s h = h
attach_serves ch zxid mine o session reply.Done k c s h = h
attach_serves ch zxid mine o session (reply.Session id) k c s h = h
attach_serves ch zxid mine o session (reply.Epoch epoch) k c s h = refused_serves _ (ch.luck k).answers zxid by_move c s h
attach_serves ch zxid mine o session (reply.Path path) k c s h = h
attach_serves ch zxid mine o session (reply.PathStat path m) k c s h = h
attach_serves ch zxid mine o session (reply.Stat m) k c s h = h
attach_serves ch zxid mine o session (reply.Multi rs) k c s h = h
attach_serves ch zxid mine o session (reply.Failed codes) k c s h = h

written_serves : (b : Bool) (seq : ℕ) (r : Reply) (c : Connection) (s : ℕ) → served_by (if b then stays (replied_to seq r c) else stays c).connection.phase ≡ Some s → served_by c.phase ≡ Some s
written_serves true seq r c s h = ap served_by (sym (replied_phase seq r c (awaited seq c.queue))) ∙ h
written_serves false seq r c s h = h

applied_serves : (ch : Choices) (me boot zxid : ℕ) (b : Body) (r : Reply) (k : ℕ) (c : Connection) (s : ℕ) → served_by (applied_to ch me boot zxid b r k c).connection.phase ≡ Some s → served_by c.phase ≡ Some s
applied_serves ch me boot zxid body.Noop r k c s h = h
applied_serves ch me boot zxid (body.OpenSession timeout passwd o) r k c s h = h
applied_serves ch me boot zxid (body.Attach session passwd o) r k c s h = attach_serves ch zxid (record { node = me; boot = boot; conn = k }) o session r k c s h
applied_serves ch me boot zxid (body.Expire session) r k c s h = refused_serves _ (ch.luck k).answers zxid by_end c s h
applied_serves ch me boot zxid (body.Write session epoch seq q) r k c s h = written_serves (is_in session epoch c.phase) seq r c s h

meaning_serves : (ch : Choices) (me boot zxid : ℕ) (b : Body) (r : Reply) (k : ℕ) (c : Connection) (s : ℕ) → served_by (meaning ch me boot zxid b r k c).connection.phase ≡ Some s → served_by c.phase ≡ Some s
unfolding meaning
meaning_serves ch me boot zxid b r k c s h = at (is_stale r) h where
  at : (z : Bool) → served_by (if z then stays c else applied_to ch me boot zxid b r k c).connection.phase ≡ Some s → served_by c.phase ≡ Some s
  at true g = g
  at false g = applied_serves ch me boot zxid b r k c s g

-- choices in which each connection has this luck with answers
abbrev all_answer : Option ℕ → Choices
all_answer n = record { room = None; luck = λ k. record { events = None; requests = None; answers = n } }

meant_serves : (f : Row) (k : ℕ) → ((c : Connection) (s : ℕ) → served_by (f k c).connection.phase ≡ Some s → served_by c.phase ≡ Some s) → (o : Option Seat) (s : ℕ) → served_at (option_map (row_at f k) o) ≡ Some s → served_at o ≡ Some s
meant_serves f k g None s h = h
meant_serves f k g (Some x) s h = g x.connection s h

pub meant_indexed : (me boot zxid : ℕ) (b : Body) (r : Reply) (t u : Seating Seat) → AreMeant me boot zxid b r t.seats u.seats → SameBeside t u → IsIndexed t → IsIndexed u
meant_indexed me boot zxid b r t u meant beside h = indexed_behind t u
    (λ k s at. meant_serves (meaning (all_answer (meant k).0) me boot zxid b r) k (meaning_serves (all_answer (meant k).0) me boot zxid b r k) (map.get t.seats k) s (ap served_at (sym ((meant k).1 (all_answer (meant k).0) refl)) ∙ at)) beside h

-- ---- both

heard_row : (ch : Choices) (pairs : List (ℕ × Event)) (k : ℕ) (n : Option ℕ) → (ch.luck k).events ≡ n → (s : Seat) → told_with n (packets_for k pairs) s ≡ row_at (hears ch pairs) k s
heard_row ch pairs k n e s = ap (λ m. told_with m (packets_for k pairs) s) (sym e) ∙ at (is_over s.connection.phase) where
  at : (b : Bool) → seated s (if b then s.connection else given_out (ch.luck k).events (packets_for k pairs) s.connection) ≡ seated s (if b then stays s.connection else stays (given_out (ch.luck k).events (packets_for k pairs) s.connection)).connection
  at true = refl
  at false = refl

twice : (f g h : Seat → Seat) → ((s : Seat) → f s ≡ h s) → (o : Option Seat) → option_map g (option_map f o) ≡ option_map (λ s. g (h s)) o
twice f g h e None = refl
twice f g h e (Some s) = ap (λ z. Some (g z)) (e s)

pub both_inform : (me boot zxid : ℕ) (b : Body) (r : Reply) (pairs : List (ℕ × Event)) (old mid new : Seats) → AreTold pairs old mid → AreMeant me boot zxid b r mid new → AreInformed me boot zxid b r pairs old new
both_inform me boot zxid b r pairs old mid new told meant k = (
  (told k).0,
  (meant k).0,
  λ ch e a.
      (meant k).1 ch a ∙ ap (option_map (row_at (meaning ch me boot zxid b r) k)) (told k).1
      ∙ twice (told_with (told k).0 (packets_for k pairs)) (row_at (meaning ch me boot zxid b r) k) (row_at (hears ch pairs) k) (heard_row ch pairs k (told k).0 e) (map.get old k),
)

once : (f g : Seat → Seat) (o : Option Seat) → option_map g (option_map f o) ≡ option_map (λ s. g (f s)) o
once f g None = refl
once f g (Some s) = refl

pub defined : InformedIsDefined
defined me boot zxid b r pairs old new told ch lucky = same _ _ (λ k.
    get-mapped (row_at (meaning ch me boot zxid b r)) (mapped (row_at (hears ch pairs)) old) k
    ∙ ap (option_map (row_at (meaning ch me boot zxid b r) k)) (get-mapped (row_at (hears ch pairs)) old k)
    ∙ once (row_at (hears ch pairs) k) (row_at (meaning ch me boot zxid b r) k) (map.get old k)
    ∙ sym ((told k).2 ch (lucky k).0 (lucky k).1))
