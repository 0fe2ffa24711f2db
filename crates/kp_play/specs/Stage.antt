-- A cluster on a stage: its members with their homes, the messages that were sent, and the time.
use Rattle.std.specs.Prelude.{ℕ, zero, suc, ◌+◌, ◌-◌, nat_lt, if◌then◌else◌, Bool, false, List, [], ◌∷◌, ◌++◌, length, slice_get, slice_set, Option, None, Some}
use Rattle.kp_model.specs.State.{State, empty}
use Rattle.kp_entry.specs.declared.record.Record.{Record}
use Rattle.kp_entry.specs.Records.{spelled}
use Rattle.kp_raft.specs.declared.mail.Mail.{Mail}
use Rattle.kp_snapshot.specs.Snapshots.{Snapshot}
use Rattle.kp_homes.specs.Opening.{Found, first_records, blank_found, booted}
use Rattle.kp_step.specs.Node.{Node}
use Rattle.kp_step.specs.Runs.{begun}

-- what is kept of a member: what opening finds on its home, whether the second slot is the live one, and where the next batch of that slot's journal begins
pub record Home : Type 0 where
  pub found : Found
  pub second : Bool
  pub gate : ℕ

-- a step that its member has taken in memory: the first line that is printed of it, its messages with their receivers, and what it wants kept
pub record Thought : Type 0 where
  pub text : List ℕ
  pub mail : List (ℕ × Mail Snapshot)
  pub records : List Record
  pub image : Option Snapshot

pub record Member : Type 0 where
  pub home : Home
  -- None where it is down
  pub node : Option Node
  -- the steps that it holds back, where it holds: its node is behind them, its home before them
  pub held : Option (List Thought)

pub record Stage : Type 0 where
  -- members 1, 2 and so on
  pub members : List Member
  -- messages 1, 2 and so on that were sent, with their receivers
  pub letters : List (ℕ × Mail Snapshot)
  -- in milliseconds
  pub time : ℕ
  -- how many lines were done
  pub lines : ℕ

-- the tree of an image
abbrev pub tree_of : Option Snapshot → State
tree_of None = empty
tree_of (Some i) = i.state

-- member k of n that starts with what was found
abbrev pub opened : ℕ → ℕ → ℕ → Found → Node
opened k n now f = begun k n f.start.boot now f.start.held (tree_of f.image)

-- the batch of a new slot ends here: behind a head of 22 bytes, a gate and a length
abbrev pub gate_behind : List Record → ℕ
gate_behind rs = 27 + length (spelled rs)

-- a blank home with its first start
abbrev pub blank_home : Home
blank_home = record { found = booted blank_found; second = false; gate = gate_behind first_records }

-- member k of n, started at time 0 on a blank home
abbrev pub blank_member : ℕ → ℕ → Member
blank_member n k = record { home = blank_home; node = Some (opened k n 0 (booted blank_found)); held = None }

-- members 1 to k of n
abbrev pub blank_members : ℕ → ℕ → List Member
blank_members n zero = []
blank_members n (suc k) = blank_members n k ++ blank_member n (suc k) ∷ []

-- n members are started on blank homes
abbrev pub blank : ℕ → Stage
blank n = record { members = blank_members n n; letters = []; time = 0; lines = 0 }

-- ---- members and messages by their numbers, which begin at 1

abbrev pub at_number : {A : Type 0} → List A → ℕ → Option A
at_number xs k = if nat_lt 0 k then slice_get xs (k - 1) else None

abbrev pub member_at : Stage → ℕ → Option Member
member_at st k = at_number st.members k

abbrev pub letter_at : Stage → ℕ → Option (ℕ × Mail Snapshot)
letter_at st m = at_number st.letters m

abbrev pub with_member : Stage → ℕ → Member → Stage
with_member st k m = record st { members = slice_set st.members (k - 1) m }

-- more messages were sent
abbrev pub with_letters : Stage → List (ℕ × Mail Snapshot) → Stage
with_letters st more = record st { letters = st.letters ++ more }
