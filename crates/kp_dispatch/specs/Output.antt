-- How much was written (this project's own).
use Rattle.std.specs.Prelude.{ℕ, ◌≡◌, List, [], ◌++◌, Option, Some, None, Result, Ok, Err, ⊤}
use Rattle.kp_event.specs.declared.said.OutPiece.{OutPiece}
use Rattle.kp_event.specs.declared.said.Said.TheVariants as said
use Rattle.kp_io.specs.Faults.{one_more}
use Rattle.kp_shared.specs.Tasks.{IsOver, out_of}
use Rattle.kp_dispatch.specs.declared.ends.ConnEnd.{ConnEnd}
use Rattle.kp_dispatch.specs.declared.ends.ConnEnd.TheVariants as end

-- what a sink holds now is what it held and all of this but the rest; a sink that doesn't tell says nothing
abbrev pub Wrote : Option (List ℕ) → Option (List ℕ) → List ℕ → List ℕ → Type 0
Wrote None now rest all = ⊤
Wrote (Some xs) None rest all = ⊥
Wrote (Some xs) (Some ys) rest all = ys ++ rest ≡ xs ++ all

-- all of this was written
abbrev pub WroteAll : Option (List ℕ) → Option (List ℕ) → List ℕ → Type 0
WroteAll old now all = Wrote old now [] all

-- a beginning of this was written
abbrev pub WrotePart : Option (List ℕ) → Option (List ℕ) → List ℕ → Type 0
WrotePart old now all = (rest : List ℕ) × Wrote old now rest all

-- what a sink holds, and how often it failed, before and after
module _ (held held' : Option (List ℕ)) (faults faults' : ℕ) where
  -- what was drained was written; or the connection ends
  abbrev pub OutTells : Option OutPiece → Result (Unit {0}) ConnEnd → Type 0
  OutTells out (Ok u) = WroteAll held held' (out_of (said.Out out)) × (faults' ≡ faults)
  OutTells out (Err end.Ended) = WroteAll held held' (out_of (said.Out out)) × (faults' ≡ faults) × IsOver (said.Out out)
  OutTells out (Err end.NoMemory) = WroteAll held held' (out_of (said.Out out)) × (faults' ≡ faults)
  OutTells out (Err end.WriteFault) = WrotePart held held' (out_of (said.Out out)) × (faults' ≡ one_more faults)
  OutTells out (Err (end.BadFrame at)) = ⊥
  OutTells out (Err end.ReadFault) = ⊥
  OutTells out (Err end.Stopped) = ⊥
  OutTells out (Err end.DiskFault) = ⊥
  OutTells out (Err (end.Full s n)) = ⊥
  OutTells out (Err end.Worn) = ⊥
