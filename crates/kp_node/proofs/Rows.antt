-- What a connection becomes that hears of an entry and learns what it means: its phase, and what waits.
use Rattle.std.proofs.Common.{◌≡◌, ℕ, Bool, true, false, ◌&&◌, not, List, [], ◌∷◌, Option, Some, None, refl, ap, sym, ◌∙◌}
use Rattle.std.specs.Prelude.{if◌then◌else◌}
use Rattle.kp_model.specs.declared.command.Cmd.{Cmd}
use Rattle.kp_model.specs.declared.entry.Body.{Body}
use Rattle.kp_model.specs.declared.entry.Body.TheVariants as body
use Rattle.kp_model.specs.declared.reply.Event.{Event}
use Rattle.kp_model.specs.declared.reply.Reply.{Reply}
use Rattle.kp_model.specs.declared.reply.Reply.TheVariants as reply
use Rattle.kp_model.specs.declared.session.Origin.{Origin}
use Rattle.kp_model.specs.State.{same_origin}
use Rattle.kp_model.specs.Taken.{is_stale}
use Rattle.kp_conn.specs.declared.phase.Phase.{Phase}
use Rattle.kp_conn.specs.declared.phase.Phase.TheVariants as phase
use Rattle.kp_conn.specs.declared.waiting.Waiting.{Waiting}
use Rattle.kp_conn.specs.Connection.{Connection, put, closed, is_over}
use Rattle.kp_conn.specs.Queue.{awaited}
use Rattle.kp_step.specs.Choices.{Choices, is_out, less}
use Rattle.kp_step.specs.Answers.{Cause, by_move, by_end}
use Rattle.kp_step.specs.Settling.{Settled, stays, refused, refused_if, given_out, is_at_rest}
use Rattle.kp_step.specs.Committing.{is_of, is_in, packets_for, hears, replied_in, replied_to, attached_to, applied_to, written_to, meaning}
use Rattle.kp_step.proofs.Serves.{choose}
use Rattle.kp_step.proofs.Commits.{refuse_all}
use Rattle.kp_node.specs.Prospects.{is_connecting, is_write}
use Rattle.kp_node.proofs.Maps.{no}
use Rattle.kp_node.proofs.Meant.{in_of}

-- ---- one that doesn't wait for the reply to its connect request never will

abbrev Off : Connection → Type 0
Off c = is_connecting c.phase ≡ false

abbrev SettledOff : Settled → Type 0
SettledOff r = Off r.connection

over_off : (p : Phase) → is_over p ≡ true → is_connecting p ≡ false
over_off phase.Fresh h = refl
over_off (phase.Connecting ro) h = no false refl h
over_off (phase.Live s e n) h = refl
over_off (phase.Closing lost) h = refl

given_off : (n : Option ℕ) (ps : List (List ℕ)) (c : Connection) → Off c → Off (given_out n ps c)
unfolding given_out
given_off n [] c h = h
given_off n (p ∷ ps) c h = choose Off (is_out n) (closed true c) (given_out (less n) ps (put p c)) refl (given_off (less n) ps (put p c) h)

refused_off : (b : Bool) (n : Option ℕ) (zxid : ℕ) (cause : Cause) (c : Connection) → Off c → SettledOff (refused_if b n zxid cause c)
refused_off true n zxid cause c h = over_off (refused n zxid cause c c.queue).connection.phase (refuse_all (λ t. Unit {0}) n zxid cause (λ p q. tt) c c.queue).over
refused_off false n zxid cause c h = h

replied_phase : (seq : ℕ) (r : Reply) (c : Connection) (o : Option Waiting) → (replied_in seq r c o).phase ≡ c.phase
replied_phase seq r c None = refl
replied_phase seq r c (Some w) = refl

attach_off : (ch : Choices) (zxid : ℕ) (mine o : Origin) (session : ℕ) (r : Reply) (k : ℕ) (c : Connection) → Off c → SettledOff (attached_to ch zxid mine o session r k c)
attach_off ch zxid mine o session reply.Stale k c h = h
attach_off ch zxid mine o session (reply.Err code) k c h = h
attach_off ch zxid mine o session reply.Done k c h = h
attach_off ch zxid mine o session (reply.Session id) k c h = h
attach_off ch zxid mine o session (reply.Epoch epoch) k c h = refused_off (is_of session c.phase && not (same_origin o mine)) (ch.luck k).answers zxid by_move c h
attach_off ch zxid mine o session (reply.Path path) k c h = h
attach_off ch zxid mine o session (reply.PathStat path m) k c h = h
attach_off ch zxid mine o session (reply.Stat m) k c h = h
attach_off ch zxid mine o session (reply.Multi rs) k c h = h
attach_off ch zxid mine o session (reply.Failed codes) k c h = h

applied_off : (ch : Choices) (me boot zxid : ℕ) (b : Body) (r : Reply) (k : ℕ) (c : Connection) → Off c → SettledOff (applied_to ch me boot zxid b r k c)
applied_off ch me boot zxid body.Noop r k c h = h
applied_off ch me boot zxid (body.OpenSession timeout passwd o) r k c h = h
applied_off ch me boot zxid (body.Attach session passwd o) r k c h = attach_off ch zxid (record { node = me; boot = boot; conn = k }) o session r k c h
applied_off ch me boot zxid (body.Expire session) r k c h = refused_off (is_of session c.phase) (ch.luck k).answers zxid by_end c h
applied_off ch me boot zxid (body.Write session epoch seq q) r k c h = choose SettledOff (is_in session epoch c.phase) (stays (replied_to seq r c)) (stays c) (ap is_connecting (replied_phase seq r c (awaited seq c.queue)) ∙ h) h

-- ---- one that rests

abbrev Rests : Connection → Type 0
Rests c = is_at_rest c.queue ≡ true

abbrev SettledRests : Settled → Type 0
SettledRests r = Rests r.connection

given_rests : (n : Option ℕ) (ps : List (List ℕ)) (c : Connection) → Rests c → Rests (given_out n ps c)
unfolding given_out
given_rests n [] c h = h
given_rests n (p ∷ ps) c h = choose Rests (is_out n) (closed true c) (given_out (less n) ps (put p c)) refl (given_rests (less n) ps (put p c) h)

refused_rests : (b : Bool) (n : Option ℕ) (zxid : ℕ) (cause : Cause) (c : Connection) → Rests c → SettledRests (refused_if b n zxid cause c)
refused_rests true n zxid cause c h = ap is_at_rest (refuse_all (λ t. Unit {0}) n zxid cause (λ p q. tt) c c.queue).empty
refused_rests false n zxid cause c h = h

attach_rests : (ch : Choices) (zxid : ℕ) (mine o : Origin) (session : ℕ) (r : Reply) (k : ℕ) (c : Connection) → Rests c → SettledRests (attached_to ch zxid mine o session r k c)
attach_rests ch zxid mine o session reply.Stale k c h = h
attach_rests ch zxid mine o session (reply.Err code) k c h = h
attach_rests ch zxid mine o session reply.Done k c h = h
attach_rests ch zxid mine o session (reply.Session id) k c h = h
attach_rests ch zxid mine o session (reply.Epoch epoch) k c h = refused_rests (is_of session c.phase && not (same_origin o mine)) (ch.luck k).answers zxid by_move c h
attach_rests ch zxid mine o session (reply.Path path) k c h = h
attach_rests ch zxid mine o session (reply.PathStat path m) k c h = h
attach_rests ch zxid mine o session (reply.Stat m) k c h = h
attach_rests ch zxid mine o session (reply.Multi rs) k c h = h
attach_rests ch zxid mine o session (reply.Failed codes) k c h = h

applied_rests : (ch : Choices) (me boot zxid : ℕ) (b : Body) (r : Reply) (k : ℕ) (c : Connection) → is_write b ≡ false → Rests c → SettledRests (applied_to ch me boot zxid b r k c)
applied_rests ch me boot zxid body.Noop r k c no_write h = h
applied_rests ch me boot zxid (body.OpenSession timeout passwd o) r k c no_write h = h
applied_rests ch me boot zxid (body.Attach session passwd o) r k c no_write h = attach_rests ch zxid (record { node = me; boot = boot; conn = k }) o session r k c h
applied_rests ch me boot zxid (body.Expire session) r k c no_write h = refused_rests (is_of session c.phase) (ch.luck k).answers zxid by_end c h
applied_rests ch me boot zxid (body.Write session epoch seq q) r k c no_write h = no true no_write refl

-- a write's connection, which may not rest, is of the session
module _ (session epoch seq : ℕ) (r : Reply) (c : Connection) where
  written_rests : (z : Bool) → is_in session epoch c.phase ≡ z → (let x : Settled = if z then stays (replied_to seq r c) else stays c in is_of session x.connection.phase ≡ false → Rests c → Rests x.connection)
  written_rests true e o h = no (is_in session epoch c.phase) (in_of session epoch c.phase (ap (is_of session) (sym (replied_phase seq r c (awaited seq c.queue))) ∙ o)) e
  written_rests false e o h = h

-- ---- both

module _ (ch : Choices) (me boot zxid : ℕ) (b : Body) (r : Reply) (pairs : List (ℕ × Event)) (k : ℕ) where
  abbrev pub row : Connection → Connection
  row c = (meaning ch me boot zxid b r k (hears ch pairs k c).connection).connection

  heard_off : (c : Connection) → Off c → SettledOff (hears ch pairs k c)
  heard_off c h = choose SettledOff (is_over c.phase) (stays c) (stays (given_out (ch.luck k).events (packets_for k pairs) c)) h (given_off (ch.luck k).events (packets_for k pairs) c h)

  meant_off : (c : Connection) → Off c → SettledOff (meaning ch me boot zxid b r k c)
  unfolding meaning
  meant_off c h = choose SettledOff (is_stale r) (stays c) (applied_to ch me boot zxid b r k c) h (applied_off ch me boot zxid b r k c h)

  pub row_off : (c : Connection) → is_connecting c.phase ≡ false → is_connecting (row c).phase ≡ false
  row_off c h = meant_off (hears ch pairs k c).connection (heard_off c h)

  heard_rests : (c : Connection) → Rests c → SettledRests (hears ch pairs k c)
  heard_rests c h = choose SettledRests (is_over c.phase) (stays c) (stays (given_out (ch.luck k).events (packets_for k pairs) c)) h (given_rests (ch.luck k).events (packets_for k pairs) c h)

  meant_rests : is_write b ≡ false → (c : Connection) → Rests c → SettledRests (meaning ch me boot zxid b r k c)
  unfolding meaning
  meant_rests no_write c h = choose SettledRests (is_stale r) (stays c) (applied_to ch me boot zxid b r k c) h (applied_rests ch me boot zxid b r k c no_write h)

  pub row_rests : is_write b ≡ false → (c : Connection) → is_at_rest c.queue ≡ true → is_at_rest (row c).queue ≡ true
  row_rests no_write c h = meant_rests no_write (hears ch pairs k c).connection (heard_rests c h)

module _ (ch : Choices) (me boot zxid session epoch seq : ℕ) (q : Cmd) (r : Reply) (pairs : List (ℕ × Event)) (k : ℕ) where
  abbrev b : Body
  b = body.Write session epoch seq q

  abbrev WriteRests : Connection → Settled → Type 0
  WriteRests c x = is_of session x.connection.phase ≡ false → Rests c → SettledRests x

  meant_write_rests : (c : Connection) → WriteRests c (meaning ch me boot zxid b r k c)
  unfolding meaning
  meant_write_rests c = choose (WriteRests c) (is_stale r) (stays c) (written_to session epoch seq r c) (λ o h. h) (written_rests session epoch seq r c (is_in session epoch c.phase) refl)

  pub write_rests : (c : Connection) → is_of session (row ch me boot zxid b r pairs k c).phase ≡ false → is_at_rest c.queue ≡ true → is_at_rest (row ch me boot zxid b r pairs k c).queue ≡ true
  write_rests c o h = meant_write_rests (hears ch pairs k c).connection o (heard_rests ch me boot zxid b r pairs k c h)
