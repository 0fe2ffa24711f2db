-- What an image holds, its spelling, and what the calls answer.
use Rattle.std.specs.Prelude.{◌≡◌, ℕ, true, List, Some, Result, Ok, Err, refl, IsTrue}
use Rattle.std.specs.Coded.{Coded, code_by, coded×, coded_ℕ}
use Rattle.std.specs.FinMap as map
use Rattle.kp_model.specs.Good.{IsSound}
use Rattle.kp_model.specs.Grammar.{is_number}
use Rattle.kp_model.specs.State.{State, empty}
use Rattle.kp_model.specs.Codes.{state_code}
use Rattle.kp_jute.specs.declared.fault.JuteFail.{JuteFail}
use Rattle.kp_jute.specs.declared.fault.JuteFail.TheVariants as jute
use Rattle.kp_jute.specs.Form.{Form, front, seen, place_of}
use Rattle.kp_entry.specs.Fields.{lists}
use Rattle.kp_entry.specs.Spellings.{read_or, Spells}
use Rattle.kp_snapshot.specs.declared.fail.ImageFail.{ImageFail}
use Rattle.kp_snapshot.specs.declared.fail.ImageFail.TheVariants as fail
use Rattle.kp_snapshot.specs.Images.{Parts, parts, mark, session_tested, node_tested}

-- a state, and the term of the entry of its applied index, 0 where that is 0
pub record Snapshot : Type 0 where
  pub state : State
  pub term : ℕ

abbrev pub snapshot_code : Coded Snapshot
snapshot_code = code_by (State × ℕ) (coded× state_code coded_ℕ) (λ s. (s.state, s.term)) (λ p. record { state = p.0; term = p.1 }) (λ _. refl)

-- the fields of a snapshot, and the snapshot of these fields; sessions and nodes are ascending in both
abbrev pub parts_of : Snapshot → Parts
parts_of s = (mark, (s.state.applied, (s.term, (s.state.next, (map.entries s.state.sessions, map.entries s.state.nodes)))))

abbrev pub snapshot_of : Parts → Snapshot
snapshot_of t = record { state = record { nodes = map.from_sorted t.1.1.1.1.1; sessions = map.from_sorted t.1.1.1.1.0; next = t.1.1.1.0; applied = t.1.0 }; term = t.1.1.0 }

-- an image: what its bytes spell
abbrev pub images : Form Snapshot
images = seen snapshot_of parts_of parts

-- the snapshot of a state as of an index
abbrev pub snapshot_at : State → ℕ → ℕ → Snapshot
snapshot_at s index term = record { state = record s { applied = index }; term = term }

-- each session and each node by itself fits its fields: texts are in UTF-8, and lengths and counts are below 2 ^ 32
pub record FitsFields (s : Snapshot) : Type 0 where
  pub sessions : (lists (session_tested (λ _. true) (λ _. true))).Fits (map.entries s.state.sessions)
  pub nodes : (lists (node_tested s.state.applied (λ _. true) (λ _ _. true))).Fits (map.entries s.state.nodes)

-- what has an image: a sound state and a term, of which all fits its fields
pub record HasImage (s : Snapshot) : Type 0 where
  pub sound : IsSound s.state
  pub term : IsTrue (is_number s.term)
  pub fields : FitsFields s

-- the snapshot that the bytes spell; what spells none stands for the empty state
unfoldable pub snapshot_in : List ℕ → Snapshot
snapshot_in bytes = read_or (record { state = empty; term = 0 }) (images.read (front 0 bytes))

-- the bytes spell a snapshot of this index and this term
pub record IsImage (bytes : List ℕ) (index term : ℕ) : Type 0 where
  pub spelled : Spells images bytes
  pub index_is : (snapshot_in bytes).state.applied ≡ index
  pub term_is : (snapshot_in bytes).term ≡ term

-- ---- what the calls answer

-- each refusal of a field damages the image at that field
abbrev pub fail_of : JuteFail → ImageFail
fail_of jute.NoMemory = fail.NoMemory
fail_of (jute.Short at) = fail.Damaged at
fail_of (jute.BadLength at) = fail.Damaged at
fail_of (jute.BadByte at) = fail.Damaged at

-- the field that begins at this place is refused
abbrev pub IsRefusedAt : {A : Type 0} → ℕ → Result A JuteFail → Type 0
IsRefusedAt at (Ok x) = ⊥
IsRefusedAt at (Err e) = place_of e ≡ Some at

-- the answer is what reading gives: the snapshot, or where the image is damaged; memory may run out
abbrev pub Reads : Result Snapshot ImageFail → Result Snapshot JuteFail → Type 0
Reads (Ok s) read = read ≡ Ok s
Reads (Err fail.NoMemory) read = Unit {0}
Reads (Err (fail.Damaged at)) read = IsRefusedAt at read

-- the answer is this snapshot, unless memory ran out
abbrev pub IsImageOf : Snapshot → Result Snapshot ImageFail → Type 0
IsImageOf s (Ok t) = t ≡ s
IsImageOf s (Err fail.NoMemory) = Unit {0}
IsImageOf s (Err (fail.Damaged at)) = ⊥
