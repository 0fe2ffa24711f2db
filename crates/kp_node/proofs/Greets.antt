-- A connection that was greeted by itself is the one that the definition greets.
use Rattle.std.proofs.Common.{◌≡◌, ℕ, Bool, List, [], Option, Some, None, refl, ap, sym, subst, ◌∙◌}
use Rattle.std.specs.Prelude.{Result, Ok, Err, IfOk, OnErr}
use Rattle.std.specs.FinMap as map
use Rattle.kp_model.specs.declared.session.Session.{Session}
use Rattle.kp_model.specs.State.{State}
use Rattle.kp_seats.specs.Seating.{Seating, holding}
use Rattle.kp_watch.specs.declared.watch.Watch.{Watch}
use Rattle.kp_conn.specs.declared.fed.Fed.{Fed}
use Rattle.kp_conn.specs.declared.phase.Phase.TheVariants as phase
use Rattle.kp_conn.specs.Connection.{Connection, opened}
use Rattle.kp_conn.specs.Fed.{fed}
use Rattle.kp_step.specs.declared.seat.Seat.{Seat}
use Rattle.kp_step.specs.Choices.{Luck}
use Rattle.kp_step.specs.Handing as step
use Rattle.kp_step.specs.Handing.{refusal, greeting, served, served_so, greeted_as}
use Rattle.kp_step.specs.Committing.{session_at, number_in}
use Rattle.kp_step.proofs.Tables.{insert-same}
use Rattle.kp_node.specs.Greeting.{Greets, served_if, GreetingIsDefined}
use Rattle.kp_node.specs.Welcoming.{welcome_in}

-- the same seat at its place
pub held_still : (t : Seating Seat) (k : ℕ) (x y : Seat) → Some x ≡ map.get t.seats k → y ≡ x → holding t k y ≡ t
held_still t k x y there e = ap (holding t k) e ∙ ap (λ m. record t { seats = m }) (insert-same t.seats k x (sym there))

module _ (g : step.Ground) (luck : Luck) (k : ℕ) (ws : List Watch) (d : step.Desk) (c c' : Connection) (ro : Bool) where
  refused : (f : Option Fed) → Greets (phase.Connecting ro) None f c c' → served_so (opened (refusal ro) 0 c) d ws ≡ served_if g luck k ws c' d f
  refused f h = ap (λ z. served_so z d ws) (sym h.0) ∙ ap (served_if g luck k ws c' d) (sym h.1)

  found : (id : ℕ) (x : Option Session) (f : Option Fed) → Greets (phase.Connecting ro) (welcome_in (Some id) x) f c c' → greeted_as g luck k ws d c ro id x ≡ served_if g luck k ws c' d f
  found id None f h = refused f h
  found id (Some x) f h = ap (λ (z : Connection × Fed). served g luck k ws z.0 d z.1) h.1.1 ∙ ap (served_if g luck k ws c' d) (sym h.1.0)

pub greeting_law : GreetingIsDefined
greeting_law g luck k ws d c c' ro s None f h = refused g luck k ws d c c' ro f h
greeting_law g luck k ws d c c' ro s (Some id) f h = found g luck k ws d c c' ro id (map.get s.sessions id) f h

-- what holds of a result holds of it in other words
pub if_ok : {A E : Type 0} (P Q : A → Type 0) (r : Result A E) → ((a : A) → P a → Q a) → IfOk r P → IfOk r Q
if_ok P Q (Ok a) f h = f a h
if_ok P Q (Err e) f h = h

pub on_err : {A E : Type 0} (P Q : Type 0) (r : Result A E) → (P → Q) → OnErr r P → OnErr r Q
on_err P Q (Ok a) f h = h
on_err P Q (Err e) f h = f h
