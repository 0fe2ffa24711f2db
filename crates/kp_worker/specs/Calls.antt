-- What a node's worker does: whole turns, and at the end at most one that was cut (this project's own).
use Rattle.std.specs.Prelude.{◌≡◌, ◌⊎◌, ◌+◌, ◌≤◌, ℕ, true, List, [], ◌∷◌, ◌++◌, length, Option, Result, Ok, Err}
use Rattle.kp_turn.specs.TurnSeats.{view}
use Rattle.kp_turn.specs.TurnView.{IsFull}
use Rattle.kp_turn.specs.StopSeats.{stop_view}
use Rattle.kp_turn.specs.StopRule.{with_read}
use Rattle.kp_io.specs.Faults.{one_more}
use Rattle.kp_event.specs.declared.event.NodeEventKind.{NodeEventKind}
use Rattle.kp_event.specs.declared.fail.KeptFail.{KeptFail}
use Rattle.kp_shared.specs.declared.task.Task.{Task}
use Rattle.kp_shared.specs.declared.refusal.Refusal.{Refusal}
use Rattle.kp_shared.specs.Tasks.{Did, Each, InTime}
use Rattle.kp_shared.specs.Ends.{IsUntorn}
use Rattle.kp_shared.specs.Nodes.{Does, ViewIn}
use Rattle.kp_shared.specs.Posts.{Posts}
use Rattle.kp_shared.specs.Sharing.{NodeSeatIn}
use Rattle.kp_worker.specs.declared.ends.NodeEnd.{NodeEnd}
use Rattle.kp_worker.specs.declared.ends.NodeEnd.TheVariants as end
use Rattle.kp_worker.specs.declared.heard.Heard.{Heard}
use Rattle.kp_worker.specs.declared.heard.LineState.{LineState}
use Rattle.kp_worker.specs.declared.note.Note.{Note}
use Rattle.kp_worker.specs.Ends.{end_for, end_of_fail}
use Rattle.kp_worker.specs.Lists.{Begins, joined}
use Rattle.kp_worker.specs.Outside.{Outside, Receives, Tells}
use Rattle.kp_worker.specs.Notes.{ends, mails, notes, one_where, openings, opens, pieces, reached}
use Rattle.kp_worker.specs.Events.{Passes, asked, delivered, drains, draws, fed, kinds, mail_alone}
use Rattle.kp_worker.specs.Turns.{CutTells, Harmless, IsDone, IsTurn}

-- all tasks of these turns
abbrev pub flat : {M : Type 0} → List (List (Did M)) → List (Did M)
flat turns = joined (λ t. t) turns

-- in each turn each event of a connection comes while it may, and this is its state behind the last
abbrev pub Lives : {M : Type 0} → ℕ → LineState → List (List (Did M)) → LineState → Type 0
Lives c s [] e = e ≡ s
Lives c s (t ∷ ts) e = (m : LineState) × Passes c s (kinds t) m × Lives c (reached c m (notes t)) ts e

-- the outside before and after, and what was taken of the links
module _ {M : Type 0} (o o' : Outside) (box box' : ℕ → Option (List M)) where
  -- these events are what the outside asks for: its answers, its messages, and at most so many new connections
  pub record Gathers (new : ℕ) (ks : List (NodeEventKind M)) : Type 0 where
    pub takes : (taken : List (ℕ × Heard)) × Tells o o' taken [] × (fed ks ≡ asked taken)
    pub receives : (ms : List (ℕ × M)) × Receives box box' ms × (delivered ks ≡ mail_alone ms)
    pub lives : (c : ℕ) → Passes c (o.state c) ks (o'.state c)
    pub accepts : length (draws ks) ≤ new
    pub undrained : drains ks ≡ []
    pub waits : o'.waits ≡ o.waits
    pub faults : o'.faults ≡ o.faults

  -- the same, behind events that stood before
  abbrev pub Adds : ℕ → List (NodeEventKind M) → List (NodeEventKind M) → Type 0
  Adds new ks ks' = (more : List (NodeEventKind M)) × (ks' ≡ ks ++ more) × Gathers new more

-- these bytes were handed out, and at most one connection got its number and at most one ended
pub record ReleasesOne (o o' : Outside) (ps : List (ℕ × List ℕ)) (new over : Option ℕ) : Type 0 where
  pub tells : Tells o o' [] ps
  pub lives : (c : ℕ) → o'.state c ≡ ends c (opens c (o.state c) new) over
  pub waits : o'.waits + one_where new ≡ o.waits
  pub faults : o'.faults ≡ o.faults

-- what these thoughts drained was handed out, and the connections that they opened and ended are so
pub record Releases {M : Type 0} (o o' : Outside) (ns : List (Note M)) : Type 0 where
  pub tells : Tells o o' [] (pieces ns)
  pub lives : (c : ℕ) → o'.state c ≡ reached c (o.state c) ns
  pub waits : o'.waits + openings ns ≡ o.waits
  pub faults : o'.faults ≡ o.faults

-- why a call ends whose last turn was cut: its last task was refused; or the history is full, memory ran out, or the outside failed
abbrev pub EndsSo : {S M : Type 0} → NodeEnd → ViewIn S M → List (Did M) → ℕ → ℕ → Type 0
EndsSo {S} {M} e w last f f' = ((t : Task M) × (x : KeptFail) × (last ≡ (t, Err x) ∷ []) × IsUntorn x × (e ≡ end_of_fail x))
    ⊎ ((last ≡ []) × (((e ≡ end.Worn) × IsFull w) ⊎ ((e ≡ end.NoMemory) ⊎ ((e ≡ end.NetFault) × (f' ≡ one_more f)))))

-- a turn of these events, and maybe some that are harmless, was kept, and what may leave has left; or it was cut, and nothing left
abbrev pub LeaveTells : {S M : Type 0} → Outside → Outside → (ℕ → Type 0) → NodeSeatIn S M → NodeSeatIn S M → List (NodeEventKind M) → Result (Unit {0}) NodeEnd → Type 0
LeaveTells {S} {M} o o' may s s' ks (Ok u) = (t : List (Did M)) × (more : List (NodeEventKind M)) × IsTurn t × (kinds t ≡ ks ++ more) × Harmless o more
    × Does (view s.turn) (view s'.turn) t × Each (InTime may) t × Posts (mails (notes t)) s.links s'.links × Releases o o' (notes t) × (s'.stop ≡ s.stop)
LeaveTells o o' may s s' ks (Err e) = (r : Refusal) × (e ≡ end_for r) × CutTells may s.turn s'.turn o ks r × (o' ≡ o) × (s'.links ≡ s.links) × (s'.stop ≡ s.stop)

module _ {S M : Type 0} (o o' : Outside) (box box' : ℕ → Option (List M)) (may : ℕ → Type 0) (s s' : NodeSeatIn S M) where
  -- whole turns: each event was kept, and all that may leave has left
  pub record Works (turns : List (List (Did M))) : Type 0 where
    pub does : Does (view s.turn) (view s'.turn) (flat turns)
    pub times : Each (InTime may) (flat turns)
    pub whole : Each IsTurn turns
    -- each Client is a piece that its stream gave, and each Hangup an end or a fault that it answered; what was drained was handed out
    pub takes : (taken : List (ℕ × Heard)) × Tells o o' taken (pieces (notes (flat turns))) × (fed (kinds (flat turns)) ≡ asked taken)
    pub receives : (ms : List (ℕ × M)) × Receives box box' ms × (delivered (kinds (flat turns)) ≡ mail_alone ms)
    pub posts : Posts (mails (notes (flat turns))) s.links s'.links
    pub lives : (c : ℕ) → Lives c (o.state c) turns (o'.state c)
    pub stop : stop_view s'.stop ≡ stop_view s.stop
    pub faults : o'.faults ≡ o.faults

  -- a turn that was cut: nothing of it left
  pub record Cuts (e : NodeEnd) : Type 0 where
    pub cut : List (Did M)
    pub last : List (Did M)
    pub does : Does (view s.turn) (view s'.turn) (cut ++ last)
    pub times : Each (InTime may) (cut ++ last)
    pub done : Each IsDone cut
    -- the events of the turn, of which these tasks are a beginning
    pub planned : List (NodeEventKind M)
    pub begun : Begins (kinds (cut ++ last)) planned
    pub takes : (taken : List (ℕ × Heard)) × Tells o o' taken [] × (fed planned ≡ asked taken)
    pub receives : (ms : List (ℕ × M)) × Receives box box' ms × (delivered planned ≡ mail_alone ms)
    pub lives : (c : ℕ) → Passes c (o.state c) planned (o'.state c)
    pub why : EndsSo e (view s'.turn) last o.faults o'.faults
    pub unsent : s'.links ≡ s.links
    pub stop : s'.stop ≡ s.stop

  -- one turn
  abbrev pub TurnTells : Result (Unit {0}) NodeEnd → Type 0
  TurnTells (Ok u) = (t : List (Did M)) × Works (t ∷ [])
  TurnTells (Err e) = Cuts e

-- the whole call: whole turns, and then the stop word was found set, or a turn was cut
abbrev pub CallTells : {S M : Type 0} → Outside → Outside → (ℕ → Option (List M)) → (ℕ → Option (List M)) → (ℕ → Type 0) → NodeSeatIn S M → NodeSeatIn S M → NodeEnd → Type 0
CallTells {S} {M} o o' box box' may s s' e = (turns : List (List (Did M))) × (m : NodeSeatIn S M) × (o1 : Outside) × (box1 : ℕ → Option (List M)) × Works o o1 box box1 may s m turns
    × (((e ≡ end.Stopped) × (o' ≡ o1) × (box' ≡ box1) × (s'.turn ≡ m.turn) × (s'.links ≡ m.links) × (stop_view s'.stop ≡ with_read true (stop_view m.stop))) ⊎ Cuts o1 o' box1 box' may m s' e)
