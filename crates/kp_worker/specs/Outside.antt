-- What the outside of a node tells: its connections, and the messages of other nodes (this project's own).
use Rattle.std.specs.Prelude.{◌≡◌, ◌<◌, ◌≤◌, ℕ, Bool, true, false, ◌==◌, List, [], ◌∷◌, length, Option, Some, None, ⊤}
use Rattle.kp_worker.specs.declared.heard.Heard.{Heard}
use Rattle.kp_worker.specs.declared.heard.Heard.TheVariants as heard
use Rattle.kp_worker.specs.declared.heard.LineState.{LineState}
use Rattle.kp_worker.specs.declared.heard.LineState.TheVariants as line
use Rattle.kp_worker.specs.declared.inbox.Arrived.{Arrived}
use Rattle.kp_worker.specs.Lists.{Grew, about, bytes_to}

-- all connections of a node, by the numbers that the node gave them
pub record Outside : Type 0 where
  -- what each one's stream answered so far, where it tells
  pub told : ℕ → Option (List Heard)
  -- all bytes that were handed to each so far, where it tells
  pub handed : ℕ → Option (List ℕ)
  -- whether each is open
  pub state : ℕ → LineState
  -- how many new ones have no number yet
  pub waits : ℕ
  -- how often waiting for them has failed
  pub faults : ℕ

-- a piece has at least one byte and at most 65,536
abbrev pub HeardWithin : Heard → Type 0
HeardWithin (heard.Bytes b) = (0 < length b) × (length b ≤ 65536)
HeardWithin heard.Later = ⊤
HeardWithin heard.End = ⊤
HeardWithin heard.Fault = ⊤

-- the streams gave these answers, and these bytes were handed out: of each connection its part
pub record Tells (old new : Outside) (as0 : List (ℕ × Heard)) (ps : List (ℕ × List ℕ)) : Type 0 where
  pub told : (c : ℕ) → Grew (old.told c) (new.told c) (about c as0)
  pub handed : (c : ℕ) → Grew (old.handed c) (new.handed c) (bytes_to c ps)

-- no connection came, went or got a number, and no fault was met
pub record Stays (old new : Outside) : Type 0 where
  pub state : (c : ℕ) → new.state c ≡ old.state c
  pub waits : new.waits ≡ old.waits
  pub faults : new.faults ≡ old.faults

-- the node has the connection
abbrev pub is_there : LineState → Bool
is_there line.Gone = false
is_there line.Open = true
is_there line.Over = true

-- the node has all of these connections
abbrev pub AllThere : (ℕ → LineState) → List ℕ → Type 0
AllThere state [] = ⊤
AllThere state (c ∷ cs) = (is_there (state c) ≡ true) × AllThere state cs

abbrev pub put_where : Bool → LineState → LineState → LineState
put_where true x s = x
put_where false x s = s

abbrev pub over_of : LineState → LineState
over_of line.Gone = line.Gone
over_of line.Open = line.Over
over_of line.Over = line.Over

-- the state of connection c after connection n got its number, ended, or was closed
abbrev pub opened : ℕ → LineState → ℕ → LineState
opened c s n = put_where (n == c) line.Open s

abbrev pub ended : ℕ → LineState → ℕ → LineState
ended c s n = put_where (n == c) (over_of s) s

abbrev pub shut : ℕ → LineState → ℕ → LineState
shut c s n = put_where (n == c) line.Gone s

-- what was taken of the links grew by these messages, each with the node that it came from
abbrev pub Receives : {M : Type 0} → (ℕ → Option (List M)) → (ℕ → Option (List M)) → List (ℕ × M) → Type 0
Receives old new ms = (c : ℕ) → Grew (old c) (new c) (about c ms)

abbrev pub arrived : {M : Type 0} → Option (Arrived M) → List (ℕ × M)
arrived None = []
arrived (Some a) = (a.from, a.mail) ∷ []
