-- The turns of a connection's worker: what its node was asked, and what left (this project's own).
use Rattle.std.specs.Prelude.{◌≡◌, ◌⊎◌, ℕ, List, [], ◌∷◌, ◌++◌, Option, Some, None, Result, Ok, Err}
use Rattle.kp_turn.specs.TurnSeats.{view}
use Rattle.kp_event.specs.declared.event.NodeEventKind.TheVariants as kind
use Rattle.kp_event.specs.declared.thought.Thought.{Thought}
use Rattle.kp_event.specs.Kinds.{row_of_said}
use Rattle.kp_shared.specs.Letters.{Letter}
use Rattle.kp_io.specs.Faults.{one_more}
use Rattle.kp_shared.specs.declared.plan.Step.TheVariants as step
use Rattle.kp_shared.specs.declared.refusal.Refusal.{Refusal}
use Rattle.kp_shared.specs.Tasks.{Did, Each, IsOver, bad_of, bytes_of, mails_of, out_of, thoughts_in}
use Rattle.kp_shared.specs.Plans.{Goes}
use Rattle.kp_shared.specs.Nodes.{Opens, TurnSeatIn, TurnWhole}
use Rattle.kp_shared.specs.Turns.{OneTells, TurnBroken}
use Rattle.kp_shared.specs.Posts.{Posts}
use Rattle.kp_shared.specs.Sharing.{NodeSeatIn}
use Rattle.kp_dispatch.specs.declared.ends.ConnEnd.{ConnEnd}
use Rattle.kp_dispatch.specs.declared.ends.ConnEnd.TheVariants as end
use Rattle.kp_dispatch.specs.declared.rounds.Round.{Round}
use Rattle.kp_dispatch.specs.Ends.{end_for}
use Rattle.kp_dispatch.specs.Output.{WroteAll, WrotePart}
use Rattle.kp_dispatch.specs.Plans.{front_plan, round_plan}

-- the first of two places
abbrev pub first_of : Option ℕ → Option ℕ → Option ℕ
first_of (Some at) two = Some at
first_of None two = two

module _ {M : Type 0} where
  -- the thoughts of a turn
  abbrev pub thoughts_of : Round M → List (Thought (Letter M))
  thoughts_of r = r.front.items ++ r.drained ∷ []

  -- it drained nothing
  abbrev pub IsQuiet : Thought (Letter M) → Type 0
  IsQuiet t = out_of t.said ≡ []

  -- only the last thought is of what the connection has to say
  abbrev pub IsRound : Round M → Type 0
  IsRound r = Each IsQuiet r.front.items × (row_of_said r.drained.said ≡ 3)

  -- the place of the first frame outside the grammar
  abbrev pub first_bad : List (Thought (Letter M)) → Option ℕ
  first_bad [] = None
  first_bad (t ∷ ts) = first_of (bad_of t.said) (first_bad ts)

  -- a thought said that the connection is over
  abbrev pub SaysOver : List (Thought (Letter M)) → Type 0
  SaysOver ts = (before : List (Thought (Letter M))) × (t : Thought (Letter M)) × (after : List (Thought (Letter M))) × (ts ≡ before ++ t ∷ after) × IsOver t.said

  -- a thought said that the frame at this place is outside the grammar
  abbrev pub SaysBad : ℕ → List (Thought (Letter M)) → Type 0
  SaysBad at ts = (before : List (Thought (Letter M))) × (t : Thought (Letter M)) × (after : List (Thought (Letter M))) × (ts ≡ before ++ t ∷ after) × (bad_of t.said ≡ Some at)

  -- no thought said so
  abbrev pub SaysNoneBad : List (Thought (Letter M)) → Type 0
  SaysNoneBad ts = Each (λ t. bad_of t.said ≡ None) ts

module _ {S M : Type 0} (may : ℕ → Type 0) (conn : ℕ) where
  -- what came was thought, and nothing of it is kept yet
  abbrev pub FrontTells : {V : Type 0} → (V → List (Thought (Letter M))) → Option (List ℕ) → Result V Refusal → TurnSeatIn S M → TurnSeatIn S M → Type 0
  FrontTells items p (Ok v) s s' = (ds : List (Did M)) × (items v ≡ thoughts_in ds) × Goes (front_plan conn p) ds × Opens may (view s) (view s') ds
  FrontTells items p (Err r) s s' = TurnBroken may s s' (round_plan conn p) r

  -- what the connection has to say was thought, and kept behind what came
  abbrev pub BehindTells : List (Thought (Letter M)) → Result (Round M) Refusal → TurnSeatIn S M → TurnSeatIn S M → Type 0
  BehindTells ts (Ok r) s s' = (r.front.items ≡ ts) × OneTells may s s' (kind.Drain conn) (Ok r.drained)
  BehindTells ts (Err e) s s' = TurnBroken may s s' (step.Event (kind.Drain conn) ∷ []) e

  -- a whole turn, or one that was cut
  abbrev pub RoundTells : Option (List ℕ) → Result (Round M) Refusal → TurnSeatIn S M → TurnSeatIn S M → Type 0
  RoundTells p (Ok r) s s' = IsRound r × (ds : List (Did M)) × TurnWhole may (view s) (view s') (round_plan conn p) (thoughts_of r) ds
  RoundTells p (Err e) s s' = TurnBroken may s s' (round_plan conn p) e

-- what a sink holds, and how often it failed, before and after
module _ {M : Type 0} (held held' : Option (List ℕ)) (faults faults' : ℕ) where
  -- what these thoughts drained was written; or the connection ends
  abbrev pub LeaveTells : List (Thought (Letter M)) → Result (Unit {0}) ConnEnd → Type 0
  LeaveTells ts (Ok u) = WroteAll held held' (bytes_of ts) × (faults' ≡ faults) × SaysNoneBad ts
  LeaveTells ts (Err end.Ended) = WroteAll held held' (bytes_of ts) × (faults' ≡ faults) × SaysNoneBad ts × SaysOver ts
  LeaveTells ts (Err (end.BadFrame at)) = WroteAll held held' (bytes_of ts) × (faults' ≡ faults) × SaysBad at ts
  LeaveTells ts (Err end.NoMemory) = WroteAll held held' (bytes_of ts) × (faults' ≡ faults)
  LeaveTells ts (Err end.WriteFault) = WrotePart held held' (bytes_of ts) × (faults' ≡ one_more faults)
  LeaveTells ts (Err end.ReadFault) = ⊥
  LeaveTells ts (Err end.Stopped) = ⊥
  LeaveTells ts (Err end.DiskFault) = ⊥
  LeaveTells ts (Err (end.Full s n)) = ⊥
  LeaveTells ts (Err end.Worn) = ⊥

-- a failed write comes first, and then a frame outside the grammar
abbrev pub judged : Option ℕ → Result (Unit {0}) ConnEnd → Result (Unit {0}) ConnEnd
judged None r = r
judged (Some at) (Ok u) = Err (end.BadFrame at)
judged (Some at) (Err end.WriteFault) = Err end.WriteFault
judged (Some at) (Err end.Ended) = Err (end.BadFrame at)
judged (Some at) (Err (end.BadFrame b)) = Err (end.BadFrame at)
judged (Some at) (Err end.ReadFault) = Err (end.BadFrame at)
judged (Some at) (Err end.Stopped) = Err (end.BadFrame at)
judged (Some at) (Err end.DiskFault) = Err (end.BadFrame at)
judged (Some at) (Err (end.Full k n)) = Err (end.BadFrame at)
judged (Some at) (Err end.Worn) = Err (end.BadFrame at)
judged (Some at) (Err end.NoMemory) = Err (end.BadFrame at)

-- a turn, where the output and the seat change so
module _ {S M : Type 0} (may : ℕ → Type 0) (conn : ℕ) (held held' : Option (List ℕ)) (faults faults' : ℕ) (s s' : NodeSeatIn S M) where
  -- the turn is whole, and what its thoughts let leave has left; then the connection goes on, or ends
  abbrev pub RoundDone : Option (List ℕ) → Result (Unit {0}) ConnEnd → Type 0
  RoundDone p r = (ts : List (Thought (Letter M))) × (ds : List (Did M)) × TurnWhole may (view s.turn) (view s'.turn) (round_plan conn p) ts ds
      × Posts (mails_of ts) s.links s'.links × LeaveTells held held' faults faults' ts r × (s'.stop ≡ s.stop)

  -- the turn was cut, and nothing of it left
  abbrev pub RoundCut : Option (List ℕ) → ConnEnd → Type 0
  RoundCut p e = (r : Refusal) × (e ≡ end_for r) × TurnBroken may s.turn s'.turn (round_plan conn p) r
      × (s'.links ≡ s.links) × (held' ≡ held) × (faults' ≡ faults) × (s'.stop ≡ s.stop)

  abbrev pub TurnTells : Option (List ℕ) → Result (Unit {0}) ConnEnd → Type 0
  TurnTells p (Ok u) = RoundDone p (Ok u)
  TurnTells p (Err e) = RoundDone p (Err e) ⊎ RoundCut p e
