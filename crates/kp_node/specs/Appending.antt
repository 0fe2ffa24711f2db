-- An append: the log and the storage take equally many of its entries.
use Rattle.std.specs.Prelude.{◌≡◌, ℕ, ◌≤◌, length, drop, Option, Some, None}
use Rattle.std.specs.Prelude as list
use Rattle.kp_storage.specs.Kept.{with_all}
use Rattle.kp_model.specs.Store.{Store, truncated}
use Rattle.kp_entry.specs.Log.{behind}
use Rattle.kp_raft.specs.declared.append.AppendMail.{AppendMail}
use Rattle.kp_raft.specs.declared.append.Weighed.{Weighed}
use Rattle.kp_raft.specs.declared.event.RaftOut.{RaftOut}
use Rattle.kp_raft.specs.Steps.{take, weighed}
use Rattle.kp_raft.specs.Parts.{Outcome}
use Rattle.kp_raft.specs.Members.{Member, running_of, Steps as RaftSteps}
use Rattle.kp_snapshot.specs.Snapshots.{Snapshot}
use Rattle.kp_step.specs.Asking.{entries_taken}

-- the unapplied entries are those of the log behind the applied index, which is not below the base nor above the commit index
pub record Agrees (x : Member) (s : Store) : Type 0 where
  pub unapplied : s.unapplied ≡ behind x.held.log s.state.applied
  pub from : x.held.log.base ≤ s.state.applied
  pub to : s.state.applied ≤ x.vars.commit

-- the store without what stands behind an index, where one is given
abbrev pub cut_back : Store → Option ℕ → Store
cut_back s None = s
cut_back s (Some k) = truncated s k

-- the storage without what conflicts, and with the first j entries of an append behind those that it had
abbrev pub IsGiven : Store → Weighed → ℕ → AppendMail → Store → Type 0
IsGiven s w j m t = t ≡ with_all (cut_back s w.keep) (drop w.matched (list.take j m.entries))

-- what a member would do with an append
abbrev pub weighs : Member → AppendMail → Weighed
weighs x m = weighed x.members x.node x.held (running_of x) m

-- what it does with the first j entries of it
abbrev pub takes : Member → AppendMail → ℕ → Outcome Snapshot
takes x m j = take x.members x.node x.held (running_of x) m j

-- so many of the entries were taken, by the log and by the storage; j itself says how many found memory
pub record Appends (m : AppendMail) (x : Member) (s : Store) (out : RaftOut Snapshot) (j : ℕ) (y : Member) (t : Store) : Type 0 where
  pub room : j ≡ entries_taken (Some j) (length m.entries) (weighs x m)
  pub steps : RaftSteps x (takes x m j) out y
  pub image : out.image ≡ None
  pub state : t.state ≡ s.state
  pub agrees : Agrees y t
