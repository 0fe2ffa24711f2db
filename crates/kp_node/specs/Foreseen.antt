-- What is known of an event of Raft before it is taken: that nothing but a no-op is appended, and what may come of it.
use Rattle.std.specs.Prelude.{◌≡◌, ◌^◌, ◌≤◌, ◌<◌, ◌&&◌, not, ℕ, nat_lt, Bool, true, false, List, [], ◌∷◌, ◌++◌, map, Option, Some, None, IfSome, if◌then◌else◌}
use Rattle.kp_model.specs.LogEntry.{LogEntry}
use Rattle.kp_model.specs.Store.{Store}
use Rattle.kp_entry.specs.Held.{replay}
use Rattle.kp_entry.specs.Log.{Log, last_index, with_entries}
use Rattle.kp_raft.specs.declared.event.RaftEvent.{RaftEvent}
use Rattle.kp_raft.specs.Numbers.{is_peer}
use Rattle.kp_raft.specs.Parts as raft
use Rattle.kp_raft.specs.Parts.{is_leader}
use Rattle.kp_raft.specs.declared.mail.Mail.{Mail}
use Rattle.kp_raft.specs.declared.mail.Mail.TheVariants as mail
use Rattle.kp_raft.specs.Rules.{noop, counts}
use Rattle.kp_raft.specs.Steps.{react, image_of}
use Rattle.kp_raft.specs.Members.{Member, running_of, MayTake}
use Rattle.kp_snapshot.specs.Snapshots.{Snapshot}
use Rattle.kp_step.specs.Step.{filled, answers_append, ends_in_base}

-- what Raft makes of an event
abbrev pub reaction : Member → RaftEvent Snapshot → raft.Outcome Snapshot
reaction m e = react m.members m.node m.held (running_of m) e

-- whether the member becomes leader by it
abbrev pub becomes_leader : Member → RaftEvent Snapshot → Bool
becomes_leader m e = not (is_leader m.vars.role) && is_leader (reaction m e).running.role

-- whether its term rises by it
abbrev pub rises : Member → RaftEvent Snapshot → Bool
rises m e = nat_lt m.held.term (replay m.held (reaction m e).records).term

-- the no-op of a leader of this term
abbrev pub noops : Option ℕ → List LogEntry
noops None = []
noops (Some t) = noop t ∷ []

-- with the no-op of a leader, where the member is one
abbrev pub with_noops : Bool → Option ℕ → Store → Store
with_noops b lead s = record s { unapplied = s.unapplied ++ (if b then noops lead else []) }

abbrev pub log_with : Bool → Option ℕ → Log → Log
log_with b lead l = if b then with_entries l (noops lead) else l

-- the term may rise only where it is said so, and the member may become leader only of the term that is said, for which the log has room
pub record IsForeseen (m : Member) (e : RaftEvent Snapshot) (may_rise : Bool) (lead : Option ℕ) : Type 0 where
  pub may : MayTake m e
  pub image : image_of m.members m.node m.held (running_of m) e ≡ None
  pub rise : rises m e ≡ true → may_rise ≡ true
  pub fits : IfSome lead (λ t. (t ≤ 2 ^ 62) × (last_index m.held.log < 2 ^ 62))
  pub follows : lead ≡ None → becomes_leader m e ≡ false
  pub log : (replay m.held (reaction m e).records).log ≡ log_with (becomes_leader m e) lead m.held.log
  pub commit : m.vars.commit ≤ (reaction m e).running.commit
  pub based : ends_in_base (reaction m e).records ≡ false
  pub plain : (ids : List ℕ) → map (filled ids) (reaction m e).mail ≡ (reaction m e).mail
  pub silent : answers_append (reaction m e) ≡ false

-- ---- messages

-- a message by which at most a no-op is appended, and no image is taken
abbrev pub IsUsual : Mail Snapshot → Type 0
IsUsual (mail.VoteReq term from last last_term) = Unit {0}
IsUsual (mail.VoteRep term from granted) = Unit {0}
IsUsual (mail.Append m) = ⊥
IsUsual (mail.AppendRep term from ok last heard) = Unit {0}
IsUsual (mail.Install term from index index_term image) = ⊥
IsUsual (mail.InstallRep term from index) = Unit {0}
IsUsual (mail.Forward term from body) = Unit {0}

-- of these, one that names no sessions
abbrev pub NamesNone : Mail Snapshot → Type 0
NamesNone (mail.VoteReq term from last last_term) = Unit {0}
NamesNone (mail.VoteRep term from granted) = Unit {0}
NamesNone (mail.Append m) = ⊥
NamesNone (mail.AppendRep term from ok last heard) = ⊥
NamesNone (mail.Install term from index index_term image) = ⊥
NamesNone (mail.InstallRep term from index) = Unit {0}
NamesNone (mail.Forward term from body) = Unit {0}

-- the term that a message names
abbrev pub term_in : Mail Snapshot → ℕ
term_in (mail.VoteReq term from last last_term) = term
term_in (mail.VoteRep term from granted) = term
term_in (mail.Append m) = m.term
term_in (mail.AppendRep term from ok last heard) = term
term_in (mail.Install term from index index_term image) = term
term_in (mail.InstallRep term from index) = term
term_in (mail.Forward term from body) = term

-- whether it is a vote that a candidate counts
abbrev pub may_elect : Member → Mail Snapshot → Bool
may_elect m (mail.VoteRep term from granted) = counts term m.held (running_of m) granted
may_elect m other = false

-- a member without peers
abbrev pub is_alone : Member → Bool
is_alone m = not (is_peer m.members m.node 1) && not (is_peer m.members m.node 2)
