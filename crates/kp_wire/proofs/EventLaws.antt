-- The form of an event is lawful.
use Rattle.std.proofs.Common.{◌≡◌, ℕ, ℤ, pos, List, Some, None, refl}
use Rattle.kp_jute.specs.Form.{Lawful, ◌⊗◌, present}
use Rattle.kp_jute.specs.Jute.{ints, texts, fixed_ints}
use Rattle.kp_jute.proofs.Cases.{narrowed_lawful, present_lawful, fixed_ints_lawful}
use Rattle.kp_jute.proofs.Combined.{◌&◌, seen_lawful}
use Rattle.kp_jute.proofs.Numbers.{ints_lawful}
use Rattle.kp_jute.proofs.Lengths.{texts_lawful}
use Rattle.kp_model.specs.declared.reply.Event.{Event}
use Rattle.kp_model.specs.declared.reply.Event.TheVariants as event
use Rattle.kp_wire.specs.declared.event.EventKind.{EventKind}
use Rattle.kp_wire.specs.declared.event.EventKind.TheVariants as kinds
use Rattle.kp_wire.specs.Events.{kind_number, kind_of, event_kinds, events, event_at, kind_in, path_in}
use Rattle.kp_wire.proofs.PartLaws.{next_name}

kind_back : (z : ℤ) (k : EventKind) → kind_of z ≡ Some k → kind_number k ≡ z
kind_back z k e =
    next_name kind_number z (pos 1) kinds.Created k _ refl e (λ e.
    next_name kind_number z (pos 2) kinds.Deleted k _ refl e (λ e.
    next_name kind_number z (pos 3) kinds.DataChanged k _ refl e (λ e.
    next_name kind_number z (pos 4) kinds.ChildrenChanged k None refl e (λ e. absurd cc))))

kinds_lawful : Lawful event_kinds
kinds_lawful = narrowed_lawful kind_of kind_number ints kind_back ints_lawful

there : (t : EventKind × (Unit {0} × List ℕ)) → (kind_in (event_at t.0 t.1.1), (tt, path_in (event_at t.0 t.1.1))) ≡ t
there (kinds.Created, r) = refl
there (kinds.Deleted, r) = refl
there (kinds.DataChanged, r) = refl
there (kinds.ChildrenChanged, r) = refl

back : (e : Event) → event_at (kind_in e) (path_in e) ≡ e
back (event.Created path) = refl
back (event.Deleted path) = refl
back (event.DataChanged path) = refl
back (event.ChildrenChanged path) = refl

pub events_lawful : Lawful events
events_lawful = seen_lawful _ _ (event_kinds ⊗ (fixed_ints (pos 3) ⊗ present texts)) there back (kinds_lawful & (fixed_ints_lawful (pos 3) & present_lawful texts texts_lawful))
