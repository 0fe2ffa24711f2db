-- Runs of networks of three members, and what comes out of them.
use Rattle.std.specs.Prelude.{◌≡◌, ℕ, List, [], ◌∷◌, ◌++◌}
use Rattle.kp_model.specs.LogEntry.{LogEntry}
use Rattle.kp_model.specs.declared.entry.Body.TheVariants as body
use Rattle.kp_entry.specs.Held.{Held}
use Rattle.kp_raft.specs.declared.event.RaftEvent.TheVariants as event
use Rattle.kp_world.specs.Net.{Net, At, Comes, Event, Does, Tears, Starts, Commits, run, blank}

-- an entry of this term and time that changes nothing
abbrev pub written : ℕ → ℕ → LogEntry
written term time = record { term = term; time = time; body = body.Noop }

-- the no-op of a new leader
abbrev pub opening : ℕ → LogEntry
opening term = written term 0

-- what the members have behind these events
abbrev pub network : List (Event ℕ) → Net ℕ
network events = run 3 events blank

-- what a member has stored
abbrev pub kept_by : List (Event ℕ) → ℕ → Held
kept_by events k = ((network events).nodes k).stored.held

-- what a member has applied
abbrev pub applied_by : List (Event ℕ) → ℕ → List LogEntry
applied_by events k = ((network events).nodes k).done

-- member 1 stands, member 2 votes for it, and it leads; it writes one entry more and sends both
abbrev pub election : List (Event ℕ)
election = Does (At 1 event.Timeout) ∷ Does (Comes 0 0) ∷ Does (Comes 0 0) ∷ Does (At 1 (event.Propose 5 (body.Noop ∷ []))) ∷ Does (At 1 (event.Beat 0 [])) ∷ []

-- member 2 has memory for none of the two, then for both, and answers each time; member 1 applies both
abbrev pub commit : List (Event ℕ)
commit = election ++ Does (Comes 0 0) ∷ Does (Comes 1 2) ∷ Does (Comes 0 0) ∷ Commits 1 ∷ Commits 1 ∷ []

-- what member 1 sent reaches nobody: member 2 is elected by member 3 and sends its no-op
abbrev pub overtaking : List (Event ℕ)
overtaking = election ++ Does (At 2 event.Timeout) ∷ Does (Comes 1 0) ∷ Does (Comes 0 0) ∷ Does (At 2 (event.Beat 0 [])) ∷ []

-- the step in which member 1 takes it
abbrev pub deposing : Event ℕ
deposing = Does (Comes 0 1)

-- member 1 takes it, member 2 applies it, and member 1 hears of it
abbrev pub deposition : List (Event ℕ)
deposition = overtaking ++ deposing ∷ Does (Comes 0 0) ∷ Commits 2 ∷ Does (At 2 (event.Beat 1 [])) ∷ Does (Comes 0 0) ∷ Commits 1 ∷ []

-- member 1 stops in that step, behind its first j records
abbrev pub torn : ℕ → List (Event ℕ)
torn j = overtaking ++ Tears (Comes 0 1) j ∷ []

-- member 1 makes a snapshot and sends its image to member 3, which lags; member 3 takes it, stops in a step of which no record stays, and starts again
abbrev pub install : List (Event ℕ)
install = commit ++ Does (At 1 (event.Compact 2)) ∷ Does (At 1 (event.Beat 2 (77 ∷ []))) ∷ Does (Comes 1 0) ∷ Tears (At 3 event.Timeout) 0 ∷ Starts 3 ∷ []

-- a member is elected and keeps its term, its vote and its log
abbrev pub LeaderIsElected : Type 0
LeaderIsElected = kept_by election 1 ≡ record { term = 1; vote = 1; log = record { base = 0; base_term = 0; entries = opening 1 ∷ written 1 5 ∷ [] } }

-- its entries are applied while member 3 lags
abbrev pub EntriesAreApplied : Type 0
EntriesAreApplied = applied_by commit 1 ≡ opening 1 ∷ written 1 5 ∷ []

-- a leader is deposed: its entries are dropped, and both members apply the other leader's
pub record EntriesAreDropped : Type 0 where
  pub kept : kept_by deposition 1 ≡ record { term = 2; vote = 0; log = record { base = 0; base_term = 0; entries = opening 2 ∷ [] } }
  pub one : applied_by deposition 1 ≡ opening 2 ∷ []
  pub two : applied_by deposition 2 ≡ opening 2 ∷ []

-- the step that drops them has three records, and a stop may leave any first ones of them
pub record StepIsTorn : Type 0 where
  pub none : kept_by (torn 0) 1 ≡ record { term = 1; vote = 1; log = record { base = 0; base_term = 0; entries = opening 1 ∷ written 1 5 ∷ [] } }
  pub term : kept_by (torn 1) 1 ≡ record { term = 2; vote = 0; log = record { base = 0; base_term = 0; entries = opening 1 ∷ written 1 5 ∷ [] } }
  pub cut : kept_by (torn 2) 1 ≡ record { term = 2; vote = 0; log = record { base = 0; base_term = 0; entries = [] } }
  pub all : kept_by (torn 3) 1 ≡ record { term = 2; vote = 0; log = record { base = 0; base_term = 0; entries = opening 2 ∷ [] } }

-- an image takes the place of the entries that it stands for, and outlives the stop
pub record ImageIsTaken : Type 0 where
  pub done : applied_by install 3 ≡ opening 1 ∷ written 1 5 ∷ []
  pub kept : (kept_by install 3).log ≡ record { base = 2; base_term = 1; entries = [] }
