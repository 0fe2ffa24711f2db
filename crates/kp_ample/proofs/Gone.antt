-- A connection that was given up stays so, and one that wasn't was met as where nothing runs out.
use Rattle.std.proofs.Common.{◌≡◌, ℕ, zero, suc, Bool, true, false, ◌&&◌, not, List, [], ◌∷◌, length, Option, Some, None, refl, ap, sym, subst, ◌∙◌}
use Rattle.std.specs.Prelude.{if◌then◌else◌, nat_lt}
use Rattle.kp_model.specs.declared.entry.Body.{Body}
use Rattle.kp_model.specs.declared.entry.Body.TheVariants as body
use Rattle.kp_model.specs.declared.reply.Event.{Event}
use Rattle.kp_model.specs.declared.reply.Reply.{Reply}
use Rattle.kp_model.specs.declared.reply.Reply.TheVariants as reply
use Rattle.kp_model.specs.declared.session.Origin.{Origin}
use Rattle.kp_model.specs.State.{State, same_origin}
use Rattle.kp_model.specs.Taken.{is_stale}
use Rattle.kp_watch.specs.declared.watch.Watch.{Watch}
use Rattle.kp_conn.specs.declared.phase.Phase.{Phase}
use Rattle.kp_conn.specs.declared.phase.Phase.TheVariants as phase
use Rattle.kp_conn.specs.declared.waiting.Waiting.{Waiting}
use Rattle.kp_conn.specs.Connection.{Connection, closed, put, is_over, is_lost}
use Rattle.kp_conn.specs.Packets.{reply_packet}
use Rattle.kp_wire.specs.declared.reply.WireReply.TheVariants as sent
use Rattle.kp_conn.specs.Queue.{awaited}
use Rattle.kp_step.specs.Choices.{Choices}
use Rattle.kp_step.specs.Answers.{Answer, Cause, code_of, by_end, by_move, by_term, answer_of}
use Rattle.kp_step.specs.Settling.{Told, Settled, settled, settled_by, stays, telling, told_by, put_answer, is_end, session_in, refused, refused_if, given_out}
use Rattle.kp_step.specs.Tables.{Row}
use Rattle.kp_step.specs.Committing.{packets_for, hears, is_of, is_in, replied_in, replied_to, attached_to, applied_to, meaning}
use Rattle.kp_step.specs.Step.{risen_as, risen, ended}
use Rattle.kp_step.proofs.Tables.{no}
use Rattle.kp_ample.specs.Ample.{ample}

-- it was given up for want of memory
abbrev pub given_up : Connection → Bool
given_up c = is_lost c.phase

-- and nothing waits
abbrev pub gone_as : Phase → List Waiting → Bool
gone_as phase.Fresh q = false
gone_as (phase.Connecting ro) q = false
gone_as (phase.Live s e n) q = false
gone_as (phase.Closing lost) [] = lost
gone_as (phase.Closing lost) (w ∷ q) = false

abbrev pub is_gone : Connection → Bool
is_gone c = gone_as c.phase c.queue

up_gone : (p : Phase) (q : List Waiting) → is_lost p ≡ false → gone_as p q ≡ false
up_gone phase.Fresh q h = refl
up_gone (phase.Connecting ro) q h = refl
up_gone (phase.Live s e n) q h = refl
up_gone (phase.Closing lost) [] h = h
up_gone (phase.Closing lost) (w ∷ q) h = refl

pub not_gone : (c : Connection) → given_up c ≡ false → is_gone c ≡ false
not_gone c h = up_gone c.phase c.queue h

over_as : (p : Phase) (q : List Waiting) → gone_as p q ≡ true → is_over p ≡ true
over_as phase.Fresh q h = h
over_as (phase.Connecting ro) q h = h
over_as (phase.Live s e n) q h = h
over_as (phase.Closing lost) q h = refl

pub gone_over : (c : Connection) → is_gone c ≡ true → is_over c.phase ≡ true
gone_over c h = over_as c.phase c.queue h

empty_as : (p : Phase) (q : List Waiting) → gone_as p q ≡ true → q ≡ []
empty_as phase.Fresh q h = no false refl h
empty_as (phase.Connecting ro) q h = no false refl h
empty_as (phase.Live s e n) q h = no false refl h
empty_as (phase.Closing lost) [] h = refl
empty_as (phase.Closing lost) (w ∷ q) h = no false refl h

pub gone_empty : (c : Connection) → is_gone c ≡ true → c.queue ≡ []
gone_empty c h = empty_as c.phase c.queue h

-- ---- how a connection fares by some choices, and where nothing runs out

pub record Fits (c : Connection) (r a : Settled) : Type 0 where
  pub keeps : is_gone c ≡ true → is_gone r.connection ≡ true
  pub same : is_gone r.connection ≡ false → r ≡ a
  pub safe : given_up c ≡ false → given_up a.connection ≡ false

pub still : (c : Connection) → Fits c (stays c) (stays c)
still c = record { keeps = λ h. h; same = λ h. refl; safe = λ h. h }

-- one that isn't over isn't gone
pub open_ : {A : Type 0} (c : Connection) → is_over c.phase ≡ false → is_gone c ≡ true → A
open_ c e h = no (is_over c.phase) e (gone_over c h)

shut : (c : Connection) → is_over c.phase ≡ false → Fits c (stays (closed false c)) (stays (closed false c))
shut c e = record { keeps = λ h. open_ c e h; same = λ h. refl; safe = λ h. refl }

pub if_fits : (c : Connection) (b : Bool) (x y u v : Settled) → (b ≡ true → Fits c x u) → (b ≡ false → Fits c y v) → Fits c (if b then x else y) (if b then u else v)
if_fits c true x y u v f g = f refl
if_fits c false x y u v f g = g refl

-- ---- answers

out_same : (o : Option Answer) (stay lost : Settled) (goes more : Answer → Settled) → is_gone lost.connection ≡ true → is_gone (settled_by o true stay lost goes).connection ≡ false → settled_by o true stay lost goes ≡ settled_by o false stay lost more
out_same None stay lost goes more e h = refl
out_same (Some a) stay lost goes more e h = no (is_gone lost.connection) h e

on_same : (o : Option Answer) (stay lost : Settled) (goes more : Answer → Settled) → ((a : Answer) → is_gone (goes a).connection ≡ false → goes a ≡ more a) → is_gone (settled_by o false stay lost goes).connection ≡ false → settled_by o false stay lost goes ≡ settled_by o false stay lost more
on_same None stay lost goes more f h = refl
on_same (Some a) stay lost goes more f h = f a h

goes_same : (b : Bool) (t : Told) (x y z : Settled) → (is_gone y.connection ≡ false → y ≡ z) → is_gone (telling t (if b then x else y)).connection ≡ false → telling t (if b then x else y) ≡ telling t (if b then x else z)
goes_same true t x y z f h = refl
goes_same false t x y z f h = ap (telling t) (f h)

by_safe : (o : Option Answer) (stay lost : Settled) (goes : Answer → Settled) → given_up stay.connection ≡ false → ((a : Answer) → given_up (goes a).connection ≡ false) → given_up (settled_by o false stay lost goes).connection ≡ false
by_safe None stay lost goes h f = h
by_safe (Some a) stay lost goes h f = f a

goes_safe : (b : Bool) (t : Told) (x y : Settled) → given_up x.connection ≡ false → given_up y.connection ≡ false → given_up (telling t (if b then x else y)).connection ≡ false
goes_safe true t x y p q = p
goes_safe false t x y p q = q

module _ (s : State) (k : ℕ) where
  pub settled_same : (n : Option ℕ) (ws : List Watch) (c : Connection) (q : List Waiting) → is_gone (settled s k n ws c q).connection ≡ false → settled s k n ws c q ≡ settled s k None ws c q
  unfolding settled
  settled_same None ws c q h = refl
  settled_same (Some n) ws c [] h = refl
  settled_same (Some zero) ws c (w ∷ q) h = out_same (answer_of s (session_in c.phase) k ws w) _ _ _ _ refl h
  settled_same (Some (suc n)) ws c (w ∷ q) h = on_same (answer_of s (session_in c.phase) k ws w) _ _ _ _
      (λ a. goes_same (is_end w) (told_by c.phase s.applied w.request a.reply a.cause) _ _ _ (settled_same (Some n) a.watches (put_answer s.applied w.request a c) q)) h

  settled_safe : (ws : List Watch) (c : Connection) (q : List Waiting) → given_up c ≡ false → given_up (settled s k None ws c q).connection ≡ false
  unfolding settled
  settled_safe ws c [] h = h
  settled_safe ws c (w ∷ q) h = by_safe (answer_of s (session_in c.phase) k ws w) _ _ _ h
      (λ a. goes_safe (is_end w) (told_by c.phase s.applied w.request a.reply a.cause) _ _ refl (settled_safe a.watches (put_answer s.applied w.request a c) q h))

  settled_keeps : (n : Option ℕ) (ws : List Watch) (c : Connection) (q : List Waiting) → c.queue ≡ q → q ≡ [] → is_gone c ≡ true → is_gone (settled s k n ws c q).connection ≡ true
  unfolding settled
  settled_keeps n ws c q e f h = subst (λ z. is_gone (settled s k n ws c z).connection ≡ true) (sym f) (subst (λ z. gone_as c.phase z ≡ true) (e ∙ f) h)

  pub settled_fits : (n : Option ℕ) (ws : List Watch) (c : Connection) → Fits c (settled s k n ws c c.queue) (settled s k None ws c c.queue)
  settled_fits n ws c = record {
    keeps = λ h. settled_keeps n ws c c.queue refl (gone_empty c h) h;
    same = settled_same n ws c c.queue;
    safe = settled_safe ws c c.queue;
  }

-- ---- refusals

refused_same : (n : Option ℕ) (zxid : ℕ) (cause : Cause) (c : Connection) (q : List Waiting) → is_gone (refused n zxid cause c q).connection ≡ false → refused n zxid cause c q ≡ refused None zxid cause c q
unfolding refused
refused_same None zxid cause c q h = refl
refused_same (Some n) zxid cause c [] h = refl
refused_same (Some zero) zxid cause c (w ∷ q) h = no true h refl
refused_same (Some (suc n)) zxid cause c (w ∷ q) h = ap (telling (told_by c.phase zxid w.request (sent.Err (code_of cause)) cause)) (refused_same (Some n) zxid cause (put (reply_packet w.request.xid zxid (sent.Err (code_of cause))) c) q h)

refused_safe : (zxid : ℕ) (cause : Cause) (c : Connection) (q : List Waiting) → given_up (refused None zxid cause c q).connection ≡ false
unfolding refused
refused_safe zxid cause c [] = refl
refused_safe zxid cause c (w ∷ q) = refused_safe zxid cause (put (reply_packet w.request.xid zxid (sent.Err (code_of cause))) c) q

refused_fits : (b : Bool) (n : Option ℕ) (zxid : ℕ) (cause : Cause) (c : Connection) → (b ≡ true → is_over c.phase ≡ false) → Fits c (refused_if b n zxid cause c) (refused_if b None zxid cause c)
refused_fits true n zxid cause c f = record { keeps = λ h. open_ c (f refl) h; same = refused_same n zxid cause c c.queue; safe = λ h. refused_safe zxid cause c c.queue }
refused_fits false n zxid cause c f = still c

-- ---- events

given_same : (n : Option ℕ) (ps : List (List ℕ)) (c : Connection) → is_gone (given_out n ps c) ≡ false → given_out n ps c ≡ given_out None ps c
unfolding given_out
given_same None ps c h = refl
given_same (Some n) [] c h = refl
given_same (Some zero) (p ∷ ps) c h = no true h refl
given_same (Some (suc n)) (p ∷ ps) c h = given_same (Some n) ps (put p c) h

given_safe : (ps : List (List ℕ)) (c : Connection) → given_up c ≡ false → given_up (given_out None ps c) ≡ false
unfolding given_out
given_safe [] c h = h
given_safe (p ∷ ps) c h = given_safe ps (put p c) h

abbrev pub RowFits : Row → Row → Type 0
RowFits f g = (k : ℕ) (c : Connection) → Fits c (f k c) (g k c)

pub hears_fits : (ch : Choices) (pairs : List (ℕ × Event)) → RowFits (hears ch pairs) (hears ample pairs)
hears_fits ch pairs k c = if_fits c (is_over c.phase) (stays c) _ (stays c) _ (λ e. still c)
    (λ e. record { keeps = λ h. open_ c e h; same = λ h. ap stays (given_same (ch.luck k).events (packets_for k pairs) c h); safe = given_safe (packets_for k pairs) c })

-- ---- the meaning of an entry

of_open : (session : ℕ) (p : Phase) → is_of session p ≡ true → is_over p ≡ false
of_open session phase.Fresh h = refl
of_open session (phase.Connecting ro) h = refl
of_open session (phase.Live s e n) h = refl
of_open session (phase.Closing lost) h = no false refl h

in_open : (session epoch : ℕ) (p : Phase) → is_in session epoch p ≡ true → is_over p ≡ false
in_open session epoch phase.Fresh h = refl
in_open session epoch (phase.Connecting ro) h = refl
in_open session epoch (phase.Live s e n) h = refl
in_open session epoch (phase.Closing lost) h = no false refl h

first_holds : (a b : Bool) → (a && b) ≡ true → a ≡ true
first_holds true b h = refl
first_holds false b h = h

reply_safe : (seq : ℕ) (r : Reply) (c : Connection) (o : Option Waiting) → given_up c ≡ false → given_up (replied_in seq r c o) ≡ false
reply_safe seq r c None h = h
reply_safe seq r c (Some w) h = h

attached_fits : (ch : Choices) (zxid : ℕ) (mine o : Origin) (session : ℕ) (r : Reply) (k : ℕ) (c : Connection) → Fits c (attached_to ch zxid mine o session r k c) (attached_to ample zxid mine o session r k c)
attached_fits ch zxid mine o session (reply.Epoch epoch) k c = refused_fits (is_of session c.phase && not (same_origin o mine)) (ch.luck k).answers zxid by_move c (λ h. of_open session c.phase (first_holds (is_of session c.phase) _ h))
attached_fits ch zxid mine o session reply.Stale k c = still c
attached_fits ch zxid mine o session (reply.Err code) k c = still c
attached_fits ch zxid mine o session reply.Done k c = still c
attached_fits ch zxid mine o session (reply.Session id) k c = still c
attached_fits ch zxid mine o session (reply.Path path) k c = still c
attached_fits ch zxid mine o session (reply.PathStat path m) k c = still c
attached_fits ch zxid mine o session (reply.Stat m) k c = still c
attached_fits ch zxid mine o session (reply.Multi rs) k c = still c
attached_fits ch zxid mine o session (reply.Failed codes) k c = still c

written_fits : (session epoch seq : ℕ) (r : Reply) (c : Connection) (b : Bool) → (b ≡ true → is_over c.phase ≡ false) → Fits c (if b then stays (replied_to seq r c) else stays c) (if b then stays (replied_to seq r c) else stays c)
written_fits session epoch seq r c true f = record { keeps = λ h. open_ c (f refl) h; same = λ h. refl; safe = reply_safe seq r c (awaited seq c.queue) }
written_fits session epoch seq r c false f = still c

applied_fits : (ch : Choices) (me boot zxid : ℕ) (b : Body) (r : Reply) (k : ℕ) (c : Connection) → Fits c (applied_to ch me boot zxid b r k c) (applied_to ample me boot zxid b r k c)
applied_fits ch me boot zxid body.Noop r k c = still c
applied_fits ch me boot zxid (body.OpenSession timeout passwd o) r k c = still c
applied_fits ch me boot zxid (body.Attach session passwd o) r k c = attached_fits ch zxid _ o session r k c
applied_fits ch me boot zxid (body.Expire session) r k c = refused_fits (is_of session c.phase) (ch.luck k).answers zxid by_end c (of_open session c.phase)
applied_fits ch me boot zxid (body.Write session epoch seq q) r k c = written_fits session epoch seq r c (is_in session epoch c.phase) (in_open session epoch c.phase)

pub meaning_fits : (ch : Choices) (me boot zxid : ℕ) (b : Body) (r : Reply) → RowFits (meaning ch me boot zxid b r) (meaning ample me boot zxid b r)
unfolding meaning
meaning_fits ch me boot zxid b r k c = if_fits c (is_stale r) (stays c) _ (stays c) _ (λ e. still c) (λ e. applied_fits ch me boot zxid b r k c)

-- ---- a risen term, an image

risen_by : (ch : Choices) (zxid k j : ℕ) (c d : Connection) (p : Phase) → c.phase ≡ p → Fits c (risen_as ch zxid j d p k c) (risen_as ample zxid j d p k c)
risen_by ch zxid k j c d phase.Fresh e = still c
risen_by ch zxid k j c d (phase.Connecting ro) e = shut c (ap is_over e)
risen_by ch zxid k j c d (phase.Live s f n) e = refused_fits (nat_lt 0 (length c.queue)) (ch.luck k).answers zxid by_term c (λ h. ap is_over e)
risen_by ch zxid k j c d (phase.Closing lost) e = still c

pub risen_fits : (ch : Choices) (zxid : ℕ) → RowFits (risen ch zxid) (risen ample zxid)
risen_fits ch zxid k c = risen_by ch zxid k k c c c.phase refl

pub ended_fits : RowFits ended ended
ended_fits k c = if_fits c (is_over c.phase) (stays c) (stays (closed false c)) (stays c) (stays (closed false c)) (λ e. still c) (shut c)
