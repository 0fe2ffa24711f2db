-- The answer that was found at the connection of the session is the one of the write.
use Rattle.std.proofs.Common.{◌≡◌, ℕ, Bool, true, false, ◌&&◌, Option, Some, None, is_some, refl, ap, sym, subst, ◌∙◌}
use Rattle.std.specs.Prelude.{nat_eq, Result, Ok, Err, IfOk}
use Rattle.std.specs.FinMap as map
use Rattle.kp_model.specs.declared.command.Cmd.{Cmd}
use Rattle.kp_model.specs.declared.entry.Body.{Body}
use Rattle.kp_model.specs.declared.entry.Body.TheVariants as body
use Rattle.kp_model.specs.declared.reply.Reply.{Reply}
use Rattle.kp_seats.specs.Seating.{Seating}
use Rattle.kp_seats.specs.Serving.{IsServer, serves}
use Rattle.kp_wire.specs.declared.reply.WireReply.{WireReply}
use Rattle.kp_conn.specs.Queue.{awaited}
use Rattle.kp_step.specs.declared.seat.Seat.{Seat}
use Rattle.kp_step.specs.Committing.{is_of, is_in}
use Rattle.kp_node.specs.Concerned.{subject, IsSubject}
use Rattle.kp_node.specs.Informing.{IsAnswerIn}
use Rattle.kp_node.specs.Meaning.{IsIndexed}
use Rattle.kp_node.specs.Telling.{answer_for}
use Rattle.kp_node.specs.Written.{IsAnswerAt}
use Rattle.kp_node.proofs.Maps.{no, same_number}
use Rattle.kp_node.proofs.Meant.{not_its, in_of}

module _ (t : Seating Seat) (session epoch seq : ℕ) (r : Reply) (a : Option WireReply) (h : IsIndexed t) where
  -- a connection of the session is the one that serves it
  is_server : (k : ℕ) (s : Seat) (b : Bool) → serves t.sessions session k ≡ b → map.get t.seats k ≡ Some s → is_in session epoch s.connection.phase ≡ true → b ≡ true
  is_server k s true e there i = refl
  is_server k s false e there i = no (is_in session epoch s.connection.phase) (in_of session epoch s.connection.phase (not_its t session h k s e there)) i

  found : (server : Option ℕ) → IsServer t.sessions session server → IsAnswerAt t.seats server seq r a → (k : ℕ) (s : Seat) → map.get t.seats k ≡ Some s → is_in session epoch s.connection.phase ≡ true → a ≡ answer_for r (awaited seq s.connection.queue)
  found None is at k s there i = no false refl (sym (is k) ∙ is_server k s (serves t.sessions session k) refl there i)
  found (Some conn) is at k s there i = at s (ap (map.get t.seats) (same_number conn k (sym (is k) ∙ is_server k s (serves t.sessions session k) refl there i)) ∙ there)

pub answer_found : (t : Seating Seat) (b : Body) (session epoch seq : ℕ) (q : Cmd) (r : Reply) (a : Option WireReply) (server : Option ℕ) → IsIndexed t → b ≡ body.Write session epoch seq q → IsSubject t (subject b) server → IsAnswerAt t.seats server seq r a → IsAnswerIn b r a t.seats
answer_found t b session epoch seq q r a server h e is at = subst (λ z. IsAnswerIn z r a t.seats) (sym e) (found t session epoch seq r a h server (subst (λ z. IsSubject t (subject z) server) e is) at)

-- what holds of a result holds of it in other words
pub if_ok : {A E : Type 0} (P Q : A → Type 0) (x : Result A E) → ((v : A) → P v → Q v) → IfOk x P → IfOk x Q
if_ok P Q (Ok v) f h = f v h
if_ok P Q (Err e) f h = h
