-- The connections of a node in a table (this project's own).
use Rattle.std.specs.Prelude.{◌≡◌, ◌==◌, ◌&&◌, ◌||◌, not, ℕ, Bool, true, false, nat_eq, List, [], ◌∷◌, ◌++◌, Option, Some, None, ⊤}
use Rattle.std.specs.HashMap.{HashMap, get}
use Rattle.kp_worker.specs.declared.heard.Heard.{Heard}
use Rattle.kp_worker.specs.declared.heard.LineState.{LineState}
use Rattle.kp_worker.specs.declared.heard.LineState.TheVariants as line
use Rattle.kp_worker.specs.Outside.{Outside}
use Rattle.kp_lines.specs.declared.slots.Slot.{Slot}
use Rattle.kp_lines.specs.Ports.{Flows, IsBlank, Leaves}

abbrev pub over_where : Bool → LineState
over_where true = line.Over
over_where false = line.Open

abbrev pub slot_state : {P : Type 0} → Option (Slot P) → LineState
slot_state None = line.Gone
slot_state (Some s) = over_where s.over

-- the state of a connection
abbrev pub state_at : {P S : Type 0} → HashMap ℕ (Slot P) S → ℕ → LineState
state_at m c = slot_state (get nat_eq m c)

-- what a connection of the table told or took, or nothing where there is none
abbrev pub slot_list : {P B : Type 0} → (P → List B) → Option (Slot P) → List B
slot_list list None = []
slot_list list (Some s) = list s.port

abbrev pub where_tells : {B : Type 0} → Bool → List B → Option (List B)
where_tells true xs = Some xs
where_tells false xs = None

module _ {P S : Type 0} where
  -- all connections but this one are as they were
  abbrev pub OthersStay : HashMap ℕ (Slot P) S → HashMap ℕ (Slot P) S → ℕ → Type 0
  OthersStay m m' conn = (c : ℕ) → (conn == c) ≡ false → get nat_eq m' c ≡ get nat_eq m c

module _ {P : Type 0} where
  -- the connection, from which nothing more is taken
  abbrev pub slot_ended : Option (Slot P) → Option (Slot P)
  slot_ended None = None
  slot_ended (Some s) = Some record { port = s.port; over = true }

  abbrev pub slot_port : Option (Slot P) → Option P
  slot_port None = None
  slot_port (Some s) = Some s.port

  -- a piece may be taken of the connection, and bytes be handed to it
  abbrev pub slot_ready : (P → Bool) → Option (Slot P) → Bool
  slot_ready free None = false
  slot_ready free (Some s) = s.over || free s.port

  -- something was kept for the connection, and nothing is any more
  abbrev pub slot_freed : (P → Bool) → Option (Slot P) → Option (Slot P) → Bool
  slot_freed free None s = false
  slot_freed free (Some s) None = false
  slot_freed free (Some s) (Some t) = not (free s.port) && free t.port

  -- the connection gave these answers, and was handed these bytes; it is over where it was
  abbrev pub SlotFlows : Bool → (P → List Heard) → (P → List ℕ) → Option (Slot P) → Option (Slot P) → List Heard → List ℕ → Type 0
  SlotFlows tells told handed None None as0 bytes = ⊤
  SlotFlows tells told handed None (Some t) as0 bytes = ⊥
  SlotFlows tells told handed (Some s) None as0 bytes = ⊥
  SlotFlows tells told handed (Some s) (Some t) as0 bytes = (t.over ≡ s.over) × Flows tells (told s.port) (told t.port) (handed s.port) (handed t.port) as0 bytes

-- a connection that had this number was let go, where there was one
abbrev pub SlotLeaves : {P Q : Type 0} → Bool → (P → List Heard) → (P → List ℕ) → (Q → ℕ → List Heard) → (Q → ℕ → List ℕ) → ℕ → Option (Slot P) → Q → Q → Type 0
SlotLeaves tells told handed past_told past_handed conn None q r = r ≡ q
SlotLeaves tells told handed past_told past_handed conn (Some s) q r = Leaves tells (past_told q) (past_told r) (past_handed q) (past_handed r) conn (told s.port) (handed s.port)

-- the oldest of these connections, which is blank, has this slot, and the others wait still
abbrev pub Admits : {P : Type 0} → Bool → (P → List Heard) → (P → List ℕ) → List P → List P → Option (Slot P) → Type 0
Admits {P} tells told handed fresh left slot = (p : P) × (fresh ≡ p ∷ left) × IsBlank tells (told p) (handed p) × (slot ≡ Some record { port = p; over = false })

-- the outside that a table is: what connections told and took that are there, behind what those did that were let go
abbrev pub outside_of : {P S Q : Type 0} → Bool → (P → List Heard) → (P → List ℕ) → (Q → ℕ → List Heard) → (Q → ℕ → List ℕ) → HashMap ℕ (Slot P) S → Q → ℕ → ℕ → Outside
outside_of tells told handed past_told past_handed slots past waits faults = record {
  told = λ c. where_tells tells (past_told past c ++ slot_list told (get nat_eq slots c));
  handed = λ c. where_tells tells (past_handed past c ++ slot_list handed (get nat_eq slots c));
  state = λ c. state_at slots c;
  waits = waits;
  faults = faults;
}
