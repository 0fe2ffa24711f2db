-- A store: what is committed, and the entries that are not applied yet. It has no other part.
use Rattle.std.specs.Prelude.{ℕ, ◌+◌, ◌-◌, nat_le, if◌then◌else◌, List, [], ◌∷◌, ◌++◌, length, take, Option, Some, None, slice_get}
use Rattle.std.specs.Option.{option_map}
use Rattle.kp_model.specs.LogEntry.{LogEntry}
use Rattle.kp_model.specs.declared.reply.Reply.{Reply}
use Rattle.kp_model.specs.declared.reply.Committed.{Committed}
use Rattle.kp_model.specs.State as state
use Rattle.kp_model.specs.State.{State}
use Rattle.kp_model.specs.Step.{Outcome, apply}

pub record Store : Type 0 where
  pub state : State
  pub unapplied : List LogEntry

-- the empty tree and no entry
abbrev pub empty : Store
empty = record { state = state.empty; unapplied = [] }

-- replay: the state behind the entries, taken in order
unfoldable pub after : State → List LogEntry → State
after s [] = s
after s (e ∷ es) = after (apply s e).state es

-- the uncommitted state: the replay of the unapplied entries on the committed one
abbrev pub latest : Store → State
latest x = after x.state x.unapplied

-- the index of the last entry
abbrev pub last : Store → ℕ
last x = x.state.applied + length x.unapplied

-- the store with one entry more
abbrev pub with_entry : Store → LogEntry → Store
with_entry x e = record x { unapplied = x.unapplied ++ e ∷ [] }

-- what the entry at this place of the unapplied ones does, on the state behind those before it
unfoldable pub outcome_in : State → List LogEntry → ℕ → Option Outcome
outcome_in s us j = option_map (λ e. apply (after s (take j us)) e) (slice_get us j)

-- the kept reply of the unapplied entry of this index
abbrev pub kept : Store → ℕ → Option Reply
kept x index =
    if nat_le index x.state.applied then None
    else option_map (λ (o : Outcome). o.reply) (outcome_in x.state x.unapplied (index - x.state.applied - 1))

-- truncation keeps the unapplied entries up to an index, and the committed state
abbrev pub truncated : Store → ℕ → Store
truncated x k = record x { unapplied = take (k - x.state.applied) x.unapplied }

-- what a commit answers: the index, the reply and the events of the first unapplied entry, on the committed state
abbrev pub committed_as : ℕ → Outcome → Committed
committed_as i o = record { index = i; reply = o.reply; events = o.events }

unfoldable pub commit_answer : State → List LogEntry → Option Committed
commit_answer s [] = None
commit_answer s (e ∷ es) = Some (committed_as (s.applied + 1) (apply s e))

-- what a commit leaves: that entry is applied to the committed state, and the others stay
unfoldable pub commit_leaves : State → List LogEntry → Store
commit_leaves s [] = record { state = s; unapplied = [] }
commit_leaves s (e ∷ es) = record { state = (apply s e).state; unapplied = es }
