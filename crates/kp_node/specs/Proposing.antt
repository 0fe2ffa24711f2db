-- What is handed in to a leader, and what Raft makes of it.
use Rattle.std.specs.Prelude.{◌≡◌, ◌-◌, ◌≤◌, ◌++◌, ◌&&◌, ℕ, nat_lt, Bool, List, [], ◌∷◌, map, length, IsTrue, None, if◌then◌else◌}
use Rattle.std.specs.List.{list_all}
use Rattle.kp_model.specs.declared.entry.Body.{Body}
use Rattle.kp_model.specs.LogEntry.{LogEntry}
use Rattle.kp_model.specs.Grammar.{is_body}
use Rattle.kp_model.specs.Limits.{last_number}
use Rattle.kp_model.specs.Store.{Store, latest as latest_of, last as last_of}
use Rattle.kp_model.specs.Taken.{would_take}
use Rattle.kp_entry.specs.Held.{replay}
use Rattle.kp_raft.specs.declared.event.RaftOut.{RaftOut}
use Rattle.kp_raft.specs.declared.event.RaftEvent.TheVariants as asked
use Rattle.kp_raft.specs.Members.{Member, running_of}
use Rattle.kp_raft.specs.Parts.{Outcome, nothing, is_leader}
use Rattle.kp_raft.specs.Steps.{added, react}
use Rattle.kp_raft.specs.declared.mail.Mail.TheVariants as mail
use Rattle.kp_event.specs.declared.event.NodeEventKind.TheVariants as kind
use Rattle.kp_event.specs.declared.said.Said.TheVariants as says
use Rattle.kp_snapshot.specs.Snapshots.{Snapshot}
use Rattle.kp_step.specs.Choices.{Choices}
use Rattle.kp_step.specs.Node.{Node}
use Rattle.kp_step.specs.Handing.{Desk, proposed_all}
use Rattle.kp_step.specs.Asking.{reacted, propose_if, taken_by, expiries}
use Rattle.kp_step.specs.Step.{Stepped, together, turn, raft_turn}
use Rattle.kp_node.specs.Steps.{images}

-- the entries of these bodies
abbrev pub entries_of : ℕ → ℕ → List Body → List LogEntry
entries_of term now bs = map (λ b. record { term = term; time = now; body = b }) bs

-- whether a leader takes the body behind this storage: the log has room, and it isn't too late
abbrev pub wanted : Store → Body → Bool
wanted x b = nat_lt 0 (last_number - last_of x) && would_take (latest_of x) b

-- the storage x that stood at the first one before, behind the bodies that were handed in so far, and the desk of it
pub record AtDesk (first : Store) (term now : ℕ) (x : Store) (bs : List Body) (d : Desk) : Type 0 where
  pub store : x ≡ record first { unapplied = first.unapplied ++ entries_of term now bs }
  pub latest : latest_of x ≡ d.latest
  pub room : last_number - last_of x ≡ d.room
  pub bodies : bs ≡ d.bodies
  -- the log has room for them, and their numbers are within their limits
  pub within : last_of x ≤ last_number
  pub numbers : IsTrue (list_all is_body bs)

-- the desk of a storage to which nothing was handed in
abbrev pub desk_of : Store → Desk
desk_of x = record { latest = latest_of x; room = last_number - last_of x; bodies = []; forwards = [] }

-- it stood at the first one before, and some bodies were handed in
abbrev pub HandedIn : Store → ℕ → ℕ → Store → Type 0
HandedIn first term now x = (bs : List Body) × (d : Desk) × AtDesk first term now x bs d

-- with these bodies to come, the desk will be that one
abbrev pub ComesTo : Store → ℕ → ℕ → Store → List Body → List Body → Desk → Type 0
ComesTo first term now x bs rest e = (d : Desk) × (AtDesk first term now x bs d × (proposed_all term now d rest ≡ e))

-- those of the bodies that a member takes, where this is its storage: a leader those that are wanted, another none
abbrev pub taken_of : Member → Store → ℕ → List Body → List Body
taken_of m x now bs = if is_leader m.vars.role then (proposed_all m.held.term now (desk_of x) bs).bodies else []

-- what Raft makes of bodies that are proposed to a member, where there are any
abbrev pub proposed_to : Member → ℕ → List Body → Outcome Snapshot
proposed_to m now [] = nothing (running_of m)
proposed_to m now (b ∷ bs) = react m.members m.node m.held (running_of m) (asked.Propose now (b ∷ bs))

-- Raft did this, and took no image
pub record Does (o : Outcome Snapshot) (old : Member) (out : RaftOut Snapshot) (new : Member) : Type 0 where
  pub records : out.records ≡ o.records
  pub mail : out.mail ≡ o.mail
  pub image : out.image ≡ None
  pub added : out.added ≡ added o.records
  pub node : new.node ≡ old.node
  pub members : new.members ≡ old.members
  pub held : new.held ≡ replay old.held o.records
  pub running : running_of new ≡ o.running

-- those of the bodies that a member takes are proposed, and the storage has their entries
pub record Proposes (m : Member) (x : Store) (now : ℕ) (bs : List Body) (out : RaftOut Snapshot) (m' : Member) (x' : Store) : Type 0 where
  pub does : Does (proposed_to m now (taken_of m x now bs)) m out m'
  pub desk : (d : Desk) × AtDesk x m.held.term now x' (taken_of m x now bs) d

-- what Raft makes of those of the bodies that a node takes
abbrev pub proposed_by : Node → ℕ → List Body → Outcome Snapshot
proposed_by x now bs = reacted x (propose_if now (taken_by x now bs))

-- the end of each session that was not heard in time is proposed
abbrev pub expire_step : Choices → Node → ℕ → Stepped Snapshot
expire_step ch x now = together images ch x kind.ExpireDue (proposed_by x now (expiries x now)) None (turn x (says.Expired (length (taken_by x now (expiries x now)))))

-- the body that another member sent to the leader is proposed
abbrev pub forward_step : Choices → Node → ℕ → ℕ → ℕ → Body → Stepped Snapshot
forward_step ch x now term from b = together images ch x (kind.Deliver (mail.Forward term from b)) (proposed_by x now (b ∷ [])) None (raft_turn images ch x now (kind.Deliver (mail.Forward term from b)) (proposed_by x now (b ∷ [])) None)
