-- What the calls of a ticker, of a link worker and of who accepts connections do (this project's own).
use Rattle.std.specs.Prelude.{◌≡◌, ℕ, Bool, false, List, [], ◌∷◌, Result, Ok, Err}
use Rattle.crossbeam_queue.specs.Fifo.{Held}
use Rattle.kp_turn.specs.TurnSeats.{view}
use Rattle.kp_links.specs.declared.view.LinkView.{LinkView}
use Rattle.kp_links.specs.LinkView.{Allowing, Takes}
use Rattle.kp_event.specs.declared.event.NodeEventKind.TheVariants as kind
use Rattle.kp_event.specs.declared.said.Said.TheVariants as said
use Rattle.kp_event.specs.declared.thought.Thought.{Thought}
use Rattle.kp_shared.specs.Letters.{Letter}
use Rattle.kp_shared.specs.declared.plan.Step.{Step}
use Rattle.kp_shared.specs.declared.plan.Step.TheVariants as step
use Rattle.kp_shared.specs.declared.refusal.Refusal.{Refusal}
use Rattle.kp_shared.specs.declared.refusal.Refusal.TheVariants as refusal
use Rattle.kp_shared.specs.Tasks.{Did, mails_of}
use Rattle.kp_shared.specs.Nodes.{TurnWhole}
use Rattle.kp_shared.specs.Turns.{TurnBroken}
use Rattle.kp_shared.specs.Posts.{Posts}
use Rattle.kp_shared.specs.Sharing.{NodeSeatIn}
use Rattle.kp_dispatch.specs.declared.ends.Turned.{Turned}
use Rattle.kp_dispatch.specs.declared.ends.Turned.TheVariants as turned
use Rattle.kp_dispatch.specs.Ends.{turned_for}
use Rattle.kp_dispatch.specs.Plans.{carry_plan, tick_plan}

module _ {S M : Type 0} (may : ℕ → Type 0) (s s' : NodeSeatIn S M) where
  -- a whole turn of these steps was made, and its mail sent
  abbrev pub Works : List (Step M) → Type 0
  Works plan = (ts : List (Thought (Letter M))) × (ds : List (Did M)) × TurnWhole may (view s.turn) (view s'.turn) plan ts ds × Posts (mails_of ts) s.links s'.links × (s'.stop ≡ s.stop)

  -- a turn of these steps was cut so, and nothing of it left
  abbrev pub Halts : List (Step M) → Refusal → Type 0
  Halts plan r = TurnBroken may s.turn s'.turn plan r × (s'.links ≡ s.links) × (s'.stop ≡ s.stop)

  abbrev pub WorkTells : List (Step M) → Result (Unit {0}) Refusal → Type 0
  WorkTells plan (Ok u) = Works plan
  WorkTells plan (Err r) = Halts plan r

  abbrev pub TickTells : Bool → Bool → Turned → Type 0
  TickTells timeout snapshot (turned.Done b) = (b ≡ false) × Works (tick_plan timeout snapshot)
  TickTells timeout snapshot turned.Empty = ⊥
  TickTells timeout snapshot (turned.Failed f) = Halts (tick_plan timeout snapshot) (refusal.Failed f)
  TickTells timeout snapshot turned.Worn = Halts (tick_plan timeout snapshot) refusal.Worn

  -- what the seat of the link knows before and after: a message was taken wherever the link was not empty
  abbrev pub CarryTells : (M → Bool) → LinkView M → LinkView M → Turned → Type 0
  CarryTells feeds v w (turned.Done b) = (m : M) × Takes v m w × (b ≡ feeds m) × Works (carry_plan m)
  CarryTells feeds v w turned.Empty = (w ≡ v) × Held 0 (Allowing v) × (s' ≡ s)
  CarryTells feeds v w (turned.Failed f) = (m : M) × Takes v m w × Halts (carry_plan m) (refusal.Failed f)
  CarryTells feeds v w turned.Worn = (m : M) × Takes v m w × Halts (carry_plan m) refusal.Worn

module _ {S M : Type 0} (may : ℕ → Type 0) (s s' : NodeSeatIn S M) where
  -- a connection was accepted and has this number, which its Accept was answered; or that turn was cut
  abbrev pub AcceptTells : List ℕ → Result ℕ Turned → Type 0
  AcceptTells draw (Ok n) = (t : Thought (Letter M)) × (ds : List (Did M)) × (t.said ≡ said.Conn n) × TurnWhole may (view s.turn) (view s'.turn) (step.Event (kind.Accept draw) ∷ []) (t ∷ []) ds
  AcceptTells draw (Err x) = (r : Refusal) × (x ≡ turned_for r) × TurnBroken may s.turn s'.turn (step.Event (kind.Accept draw) ∷ []) r
