-- What contracts see of a member, and what a step makes of it.
use Rattle.std.specs.Prelude.{◌≡◌, ℕ, ◌<◌, ◌≤◌, ◌-◌, ◌^◌, ◌==◌, ◌||◌, Bool, true, false, List, [], ◌∷◌, length, IsTrue, Option, Some, None, refl}
use Rattle.std.specs.List.{list_all}
use Rattle.std.specs.Coded.{Coded, code_by, coded×, coded_ℕ, coded_bool}
use Rattle.kp_model.specs.declared.entry.Body.{Body}
use Rattle.kp_model.specs.Grammar.{is_body}
use Rattle.kp_raft.specs.declared.event.RaftOut.{RaftOut}
use Rattle.kp_raft.specs.declared.event.RaftEvent.{RaftEvent}
use Rattle.kp_raft.specs.declared.event.RaftEvent.TheVariants as event
use Rattle.kp_raft.specs.declared.mail.Mail.{Mail}
use Rattle.kp_raft.specs.declared.mail.Mail.TheVariants as mail
use Rattle.kp_raft.specs.declared.vars.Vars.{Vars}
use Rattle.kp_raft.specs.contracts.vars.Vars as vars
use Rattle.kp_raft.specs.Variables.{vars_of, IsLow}
use Rattle.kp_entry.specs.Log.{Log, last_index}
use Rattle.kp_entry.specs.Held.{Held, held_code, replay}
use Rattle.kp_raft.specs.Parts.{Running, Outcome, is_leader, is_candidate, started}
use Rattle.kp_raft.specs.Appends.{lagging}
use Rattle.kp_raft.specs.Steps.{added, cut_to}

-- votes, matches and nexts stand at the place of the member's number
pub record Member : Type 0 where
  pub node : ℕ
  pub members : ℕ
  pub held : Held
  pub vars : Vars
  pub ready : Bool  -- there is room for a step that appends nothing

abbrev pub running_of : Member → Running
running_of m = vars_of m.vars

abbrev pub member_code : Coded Member
member_code = code_by (ℕ × (ℕ × (Held × (Vars × Bool)))) (coded× coded_ℕ (coded× coded_ℕ (coded× held_code (coded× vars.the_row.coded coded_bool)))) (λ m. (m.node, (m.members, (m.held, (m.vars, m.ready))))) (λ p. record { node = p.0; members = p.1.0; held = p.1.1.0; vars = p.1.1.1.0; ready = p.1.1.1.1 }) (λ _. refl)

-- the member that a Raft stands for
abbrev pub shown : ℕ → ℕ → ℕ → ℕ → Log → Vars → Bool → Member
shown node members term vote log vars ready = record { node = node; members = members; held = record { term = term; vote = vote; log = log }; vars = vars; ready = ready }

-- what holds of a member: its numbers are those of a run
pub record HoldsTogether (node members term vote : ℕ) (log : Log) (v : Vars) : Type 0 where
  pub node_some : 1 ≤ node
  pub node_within : node ≤ members
  pub members_few : members ≤ 7
  pub term_fits : term ≤ 2 ^ 62
  pub vote_fits : vote ≤ 7
  pub base_in : log.base ≤ v.commit
  pub commit_in : v.commit ≤ last_index log
  pub low : IsLow v.matches
  pub stands : is_candidate v.role ≡ true → last_index log < 2 ^ 62 - 1  -- so that it has room for a no-op

-- how many members a cluster may have
abbrev pub is_cluster : ℕ → Bool
is_cluster n = (n == 1 || n == 3) || (n == 5 || n == 7)

-- a member that was just started with what it kept
pub record Begins (m : Member) (node members : ℕ) (held : Held) : Type 0 where
  pub node_is : m.node ≡ node
  pub members_are : m.members ≡ members
  pub held_is : m.held ≡ held
  pub running : running_of m ≡ started held.log.base
  pub unready : m.ready ≡ false

-- the step is this one
pub record Steps {I : Type 0} (old : Member) (o : Outcome I) (out : RaftOut I) (new : Member) : Type 0 where
  pub records : out.records ≡ o.records
  pub mail : out.mail ≡ o.mail
  pub added : out.added ≡ added o.records
  pub truncated : out.truncated ≡ cut_to o.records
  pub node : new.node ≡ old.node
  pub members : new.members ≡ old.members
  pub held : new.held ≡ replay old.held o.records
  pub running : running_of new ≡ o.running
  pub ready : new.ready ≡ false

-- ---- what a step takes

abbrev pub IsNoAppend : {I : Type 0} → Mail I → Type 0
IsNoAppend (mail.VoteReq term from last last_term) = Unit {0}
IsNoAppend (mail.VoteRep term from granted) = Unit {0}
IsNoAppend (mail.Append m) = ⊥
IsNoAppend (mail.AppendRep term from ok last heard) = Unit {0}
IsNoAppend (mail.Install term from index index_term image) = Unit {0}
IsNoAppend (mail.InstallRep term from index) = Unit {0}
IsNoAppend (mail.Forward term from body) = Unit {0}

-- the images are for the peers that lag, and stand for entries that are committed
pub record MayBeat {I : Type 0} (m : Member) (index : ℕ) (images : List I) : Type 0 where
  pub from : m.held.log.base ≤ index
  pub to : index ≤ m.vars.commit
  pub count : length images ≡ lagging m.members m.node m.held (running_of m)

-- bodies are a leader's to append, and their numbers are within their limits
pub record MayPropose (m : Member) (time : ℕ) (bodies : List Body) : Type 0 where
  pub leads : is_leader m.vars.role ≡ true
  pub time_fits : time ≤ 2 ^ 62
  pub in_grammar : IsTrue (list_all is_body bodies)

-- the image stands for entries that are committed
pub record MayCompact (m : Member) (index : ℕ) : Type 0 where
  pub from : m.held.log.base ≤ index
  pub to : index ≤ m.vars.commit

abbrev pub MayTake : {I : Type 0} → Member → RaftEvent I → Type 0
MayTake m event.Timeout = Unit {0}
MayTake m (event.Beat index images) = MayBeat m index images
MayTake m (event.Deliver mail) = IsNoAppend mail
MayTake m (event.Propose time bodies) = MayPropose m time bodies
MayTake m (event.Compact index) = MayCompact m index

abbrev pub IsDelivery : {I : Type 0} → RaftEvent I → Type 0
IsDelivery event.Timeout = ⊥
IsDelivery (event.Beat index images) = ⊥
IsDelivery (event.Deliver mail) = Unit {0}
IsDelivery (event.Propose time bodies) = ⊥
IsDelivery (event.Compact index) = ⊥
