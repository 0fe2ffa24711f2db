-- A follower's answer to an append: which sessions are heard by it, and what a node's parts become.
use Rattle.std.specs.Prelude.{◌≡◌, ◌==◌, ◌&&◌, ℕ, Bool, List, [], Option, if◌then◌else◌}
use Rattle.std.specs.Ordering.{nat_cmp}
use Rattle.std.specs.FinMap.{FinMap}
use Rattle.kp_entry.specs.Log.{last_index}
use Rattle.kp_raft.specs.declared.event.RaftEvent.TheVariants as asked
use Rattle.kp_raft.specs.declared.mail.Mail.{Mail}
use Rattle.kp_raft.specs.declared.mail.Mail.TheVariants as mail
use Rattle.kp_raft.specs.Members.{Member}
use Rattle.kp_raft.specs.Parts.{is_leader}
use Rattle.kp_raft.specs.Steps.{passes}
use Rattle.kp_expiry.specs.declared.heard.Heard.{Heard}
use Rattle.kp_snapshot.specs.Snapshots.{Snapshot}
use Rattle.kp_step.specs.Committing.{hear_all}
use Rattle.kp_node.specs.declared.named.Answer.{Answer}
use Rattle.kp_node.specs.declared.raft_events.Reaction.{Reaction}
use Rattle.kp_node.specs.Parts.{Parts}
use Rattle.kp_node.specs.Foreseen.{IsForeseen}
use Rattle.kp_node.specs.Reactions.{IsReaction}

-- the message of an answer, with the sessions that it names and without
abbrev pub mail_of : Answer → Mail Snapshot
mail_of a = mail.AppendRep a.term a.from a.ok a.last a.heard

abbrev pub bare : Answer → Mail Snapshot
bare a = mail.AppendRep a.term a.from a.ok a.last []

-- whether a member hears the sessions: the message passes, and the member leads in its term
abbrev pub may_hear : Member → Answer → Bool
may_hear m a = passes m.members m.node (last_index m.held.log) (mail_of a) && (is_leader m.vars.role && a.term == m.held.term)

-- the sessions that are heard
abbrev pub named_by : Member → Answer → List ℕ
named_by m a = if may_hear m a then a.heard else []

-- the parts with other sessions heard
abbrev pub with_heard : Parts → FinMap nat_cmp Heard → Parts
with_heard p heard = record p { heard = heard }

-- Raft took the answer, as it was foreseen, what follows of it was done, and these sessions were heard
pub record IsAnswered (now : ℕ) (a : Answer) (ids : List ℕ) (x : Parts) (r : Reaction) (y : Parts) : Type 0 where
  pub may_rise : Bool
  pub lead : Option ℕ
  pub foreseen : IsForeseen x.member (asked.Deliver (bare a)) may_rise lead
  pub reaction : IsReaction (asked.Deliver (bare a)) lead x r y
  pub heard : y.heard ≡ hear_all now x.store.state x.heard ids
