-- What an entry makes of its session is known before it is applied.
use Rattle.std.proofs.Common.{◌≡◌, ◌+◌, ℕ, Bool, true, false, cond, not, ◌||◌, List, Option, Some, None, refl, ap, sym, subst, ◌∙◌}
use Rattle.std.specs.Prelude.{if◌then◌else◌, nat_le}
use Rattle.std.specs.Str.{bytes_eq}
use Rattle.std.specs.Ordering.{nat_cmp, eq_by_cmp}
use Rattle.std.specs.Cmp.{unsigned_tied, nat_eq_equiv}
use Rattle.std.specs.FinMap as map
use Rattle.std.specs.FinMap.{FinMap}
use Rattle.kp_model.specs.declared.entry.Body.{Body}
use Rattle.kp_model.specs.declared.entry.Body.TheVariants as body
use Rattle.kp_model.specs.declared.reply.Reply.{Reply}
use Rattle.kp_model.specs.declared.reply.Reply.TheVariants as reply
use Rattle.kp_model.specs.declared.session.Session.{Session}
use Rattle.kp_model.specs.declared.session.Origin.{Origin}
use Rattle.kp_model.specs.Errors.{session_expired}
use Rattle.kp_model.specs.LogEntry.{LogEntry}
use Rattle.kp_model.specs.State.{State, Sessions, is_held}
use Rattle.kp_model.specs.Step as model
use Rattle.kp_model.specs.Step.{Outcome, apply, take_body, opened, attached_to, joined, replies, new_session}
use Rattle.kp_expiry.specs.declared.heard.Heard.{Heard}
use Rattle.kp_step.specs.Committing.{session_of, session_at, hear_in, heard_behind}
use Rattle.kp_node.specs.declared.welcoming.Welcome.{Welcome}
use Rattle.kp_node.specs.Welcoming.{welcome_in, welcome_at, taken_over, welcome_by, asks_session, heard_of, WelcomeIsBehind, HeardIsBehind}
use Rattle.kp_node.proofs.Maps.{no, get-put}

-- both laws of an outcome
abbrev Known : Sessions → Body → Outcome → Type 0
Known m b o = (welcome_by m b o.reply ≡ welcome_at b o) × ((now : ℕ) (h : FinMap nat_cmp Heard) → heard_of now (welcome_by m b o.reply) h ≡ heard_behind now b o.reply o.state h)

either : (m : Sessions) (b : Body) (c : Bool) (x y : Outcome) → Known m b x → Known m b y → Known m b (if c then x else y)
either m b true x y h g = h
either m b false x y h g = g

get-own : (m : Sessions) (k : ℕ) (x : Session) → map.get (map.insert m k x) k ≡ Some x
get-own m k x = get-put m k x k ∙ ap (λ b. cond b (Some x) (map.get m k)) (nat_eq_equiv.refl k)

module _ (s : State) where
  open_known : (timeout : ℕ) (passwd : List ℕ) (o : Origin) → Known s.sessions (body.OpenSession timeout passwd o) (opened s timeout passwd o)
  unfolding opened
  open_known timeout passwd o = either s.sessions (body.OpenSession timeout passwd o) (is_held s.sessions o || nat_le 4611686018427387904 s.next) _ _ (refl, λ now h. refl)
      (ap (welcome_in (Some s.next)) (sym own), λ now h. ap (λ x. hear_in now s.next x h) (sym own)) where
        own : map.get (map.insert s.sessions s.next (new_session timeout passwd o)) s.next ≡ Some (new_session timeout passwd o)
        own = get-own s.sessions s.next (new_session timeout passwd o)

  module _ (session : ℕ) (passwd : List ℕ) (o : Origin) where
    abbrev b : Body
    b = body.Attach session passwd o

    err_known : Known s.sessions b (replies s (reply.Err session_expired))
    err_known = (refl, λ now h. refl)

    abbrev after : Session → Session
    after x = model.taken_over o x

    own : (x : Session) → map.get (map.insert s.sessions session (after x)) session ≡ Some (after x)
    own x = get-own s.sessions session (after x)

    joined_known : (x : Session) → map.get s.sessions session ≡ Some x → Known s.sessions b (joined x s session o)
    joined_known x there = either s.sessions b (is_held s.sessions o || nat_le 4611686018427387904 x.epoch) _ _ (refl, λ now h. refl) (
      ap (taken_over session (x.epoch + 1)) there ∙ ap (welcome_in (Some session)) (sym (own x)),
      λ now h. ap (λ y. heard_of now (taken_over session (x.epoch + 1) y) h) there ∙ ap (λ y. hear_in now session y h) (sym (own x)),
    )

    attach_known : (x : Option Session) → map.get s.sessions session ≡ x → Known s.sessions b (attached_to x s session passwd o)
    attach_known None there = err_known
    attach_known (Some x) there = either s.sessions b (not (bytes_eq x.passwd passwd)) _ _ err_known (joined_known x there)

known : (s : State) (i t : ℕ) (b : Body) → asks_session b ≡ true → Known s.sessions b (take_body s i t b)
unfolding take_body
known s i t body.Noop h = no false refl h
known s i t (body.OpenSession timeout passwd o) h = open_known s timeout passwd o
known s i t (body.Attach session passwd o) h = attach_known s session passwd o (map.get s.sessions session) refl
known s i t (body.Expire session) h = no false refl h
known s i t (body.Write session epoch seq c) h = no false refl h

pub welcome_law : WelcomeIsBehind
unfolding apply
welcome_law s e h = (known (record s { applied = s.applied + 1 }) (s.applied + 1) e.time e.body h).0

pub heard_law : HeardIsBehind
unfolding apply
heard_law s e now m h = (known (record s { applied = s.applied + 1 }) (s.applied + 1) e.time e.body h).1 now m
