-- An image that a leader sends: whether it is taken, and what Raft, the storage and the deadlines make of it.
use Rattle.std.specs.Prelude.{◌≡◌, ◌&&◌, not, nat_lt, nat_le, ℕ, Bool, true, false, is_some, Option, Some, None, if◌then◌else◌}
use Rattle.std.specs.Ordering.{nat_cmp}
use Rattle.std.specs.FinMap.{FinMap}
use Rattle.kp_model.specs.State.{State}
use Rattle.kp_model.specs.Store.{Store}
use Rattle.kp_entry.specs.Log.{Log, kept_behind, last_index}
use Rattle.kp_expiry.specs.declared.heard.Heard.{Heard}
use Rattle.kp_raft.specs.declared.event.RaftEvent.TheVariants as event
use Rattle.kp_raft.specs.declared.event.RaftOut.{RaftOut}
use Rattle.kp_raft.specs.declared.mail.Mail.{Mail}
use Rattle.kp_raft.specs.declared.mail.Mail.TheVariants as mail
use Rattle.kp_raft.specs.Steps.{react, image_of, passes}
use Rattle.kp_raft.specs.Members.{Member, running_of, Steps as RaftSteps}
use Rattle.kp_snapshot.specs.Snapshots.{Snapshot}
use Rattle.kp_step.specs.Step.{all_heard}
use Rattle.kp_node.specs.Appending.{Agrees}
use Rattle.kp_node.specs.declared.installs.Made.{Made}
use Rattle.kp_node.specs.declared.installs.Sending.{Sending}
use Rattle.kp_raft.specs.Parts.{Outcome}

-- what a leader sends: its term, its number, the index and the term of the image, and the image
abbrev pub sent : ℕ → ℕ → ℕ → ℕ → Snapshot → Mail Snapshot
sent term from index index_term image = mail.Install term from index index_term image

-- whether a member takes it: the message passes, its term is not below the own, and its index is above the commit index
abbrev pub is_taken : Member → Mail Snapshot → ℕ → ℕ → Bool
is_taken x m term index = passes x.members x.node (last_index x.held.log) m && (not (nat_lt term x.held.term) && not (nat_le index x.vars.commit))

-- the storage of an image, with the entries of a log that stay behind it
abbrev pub stored : Log → Snapshot → Store
stored log i = record { state = i.state; unapplied = kept_behind log i.state.applied i.term }

-- what stands in place of the own where an image is taken: its state, and all of its sessions as heard at this time
pub record IsMade (log : Log) (now : ℕ) (i : Snapshot) (t : Store) (h : FinMap nat_cmp Heard) : Type 0 where
  pub store : t ≡ stored log i
  pub heard : h ≡ all_heard now i.state.sessions

-- the state behind a message that brought this image, or none that was taken
abbrev pub state_behind : Store → Option Snapshot → State
state_behind s None = s.state
state_behind s (Some i) = i.state

-- the message of what is sent
abbrev pub mail_of : Sending → Mail Snapshot
mail_of s = sent s.term s.from s.index s.index_term s.image

-- what a member does with a message, and which image it takes
abbrev pub reaction_to : Member → Mail Snapshot → Outcome Snapshot
reaction_to x m = react x.members x.node x.held (running_of x) (event.Deliver m)

abbrev pub image_by : Member → Mail Snapshot → Option Snapshot
image_by x m = image_of x.members x.node x.held (running_of x) (event.Deliver m)

-- what was made, where the image is taken
abbrev pub IsMadeIf : ℕ → Member → Sending → Option Made → Type 0
IsMadeIf now x s None = is_taken x (mail_of s) s.term s.index ≡ false
IsMadeIf now x s (Some made) = (is_taken x (mail_of s) s.term s.index ≡ true) × IsMade x.held.log now s.image made.storage made.expiry

-- it takes the place of the own
abbrev pub store_in : Option Made → Store → Store
store_in None s = s
store_in (Some made) s = made.storage

abbrev pub heard_in : Option Made → FinMap nat_cmp Heard → FinMap nat_cmp Heard
heard_in None h = h
heard_in (Some made) h = made.expiry

-- Raft took the message, and the storage and the deadlines are the image's where it was taken
pub record Installs (now : ℕ) (m : Mail Snapshot) (x : Member) (s : Store) (h : FinMap nat_cmp Heard) (out : RaftOut Snapshot) (y : Member) (t : Store) (g : FinMap nat_cmp Heard) : Type 0 where
  pub steps : RaftSteps x (reaction_to x m) out y
  pub image : out.image ≡ image_by x m
  pub agrees : Agrees y t
  pub state : t.state ≡ state_behind s out.image
  pub heard : g ≡ (if is_some out.image then all_heard now t.state.sessions else h)
