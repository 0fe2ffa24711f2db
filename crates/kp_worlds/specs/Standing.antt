-- A stage stands for a world: the members keep the same, their nodes are the same, and all messages of the one were sent in the other.
use Rattle.std.specs.Prelude.{◌≡◌, ◌≤◌, ◌<◌, ◌+◌, ◌^◌, ℕ, List, [], ◌∷◌, length, slice_get, Option, None, Some, Ok}
use Rattle.std.specs.List.{AllByRecursion}
use Rattle.kp_raft.specs.declared.mail.Mail.{Mail}
use Rattle.kp_event.specs.declared.event.NodeEvent.{NodeEvent}
use Rattle.kp_event.specs.declared.event.NodeEventKind.{NodeEventKind}
use Rattle.kp_event.specs.declared.event.NodeEventKind.TheVariants as kind
use Rattle.kp_snapshot.specs.Snapshots.{Snapshot}
use Rattle.kp_homes.specs.Opening.{Found}
use Rattle.kp_script.specs.declared.line.ScriptLine.{ScriptLine}
use Rattle.kp_step.specs.Node.{Node, Images}
use Rattle.kp_step.specs.Asking.{Words}
use Rattle.kp_step.specs.Step.{step}
use Rattle.kp_world.specs.Net.{Sent}
use Rattle.kp_cluster.specs.World as world
use Rattle.kp_cluster.specs.World.{World, Event, run, blank}
use Rattle.kp_ample.specs.Ample.{ample}
use Rattle.kp_play.specs.Stage as stage
use Rattle.kp_play.specs.Stage.{Thought, Member, Stage, tree_of, member_at}
use Rattle.kp_play.specs.Playing.{Done, thought_of, plays}

-- an image shows the state that it holds
pub record ShowsItsState (im : Images Snapshot) : Type 0 where
  pub shows : (i : Snapshot) → im.shows i ≡ i.state

-- a message to this receiver is among those that were sent
pub record WasSent (sent : List (Sent Snapshot)) (l : ℕ × Mail Snapshot) : Type 0 where
  pub place : ℕ
  pub letter : Sent Snapshot
  pub there : slice_get sent place ≡ Some letter
  pub to : letter.to ≡ l.0
  pub message : letter.message ≡ l.1

-- this may come to member k: an event of its own, or a message to it that was sent
abbrev pub MayCome : List (Sent Snapshot) → ℕ → NodeEventKind (Mail Snapshot) → Type 0
MayCome sent k (kind.Deliver m) = WasSent sent (k, m)
MayCome sent k v = Unit {0}

-- a home keeps what is stored of a member of a world
pub record IsStored (f : Found) (v : world.Member) : Type 0 where
  pub held : v.stored.held ≡ f.start.held
  pub image : v.image ≡ tree_of f.image
  pub boot : v.boot ≡ f.start.boot

module _ (words : Words) (im : Images Snapshot) where
  -- these events lead from one node to another, with these thoughts
  abbrev pub LeadTo : Node → List (NodeEvent (Mail Snapshot)) → List Thought → Node → Type 0
  LeadTo x [] [] y = x ≡ y
  LeadTo x [] (t ∷ ts) y = ⊥
  LeadTo x (v ∷ vs) [] y = ⊥
  LeadTo x (v ∷ vs) (t ∷ ts) y = (t ≡ thought_of (step words im ample x v)) × LeadTo (step words im ample x v).node vs ts y

  -- events that may come to member k lead from its node in a world to the node that holds these thoughts back
  pub record IsAhead (sent : List (Sent Snapshot)) (k : ℕ) (ts : List Thought) (x y : Node) : Type 0 where
    pub events : List (NodeEvent (Mail Snapshot))
    pub may : AllByRecursion (λ (v : NodeEvent (Mail Snapshot)). MayCome sent k v.kind) events
    pub lead : LeadTo x events ts y

  -- the node of a member on a stage, beside that in a world: the same, or ahead of it where it holds
  abbrev pub NodeIs : List (Sent Snapshot) → ℕ → Option (List Thought) → Option Node → Option Node → Type 0
  NodeIs sent k None o p = p ≡ o
  NodeIs sent k (Some ts) (Some y) (Some x) = IsAhead sent k ts x y
  NodeIs sent k (Some ts) None p = ⊥
  NodeIs sent k (Some ts) (Some y) None = ⊥

  pub record MemberIs (sent : List (Sent Snapshot)) (k : ℕ) (m : Member) (v : world.Member) : Type 0 where
    pub home : IsStored m.home.found v
    pub node : NodeIs sent k m.held m.node v.node

  -- a stage of n members stands for a world
  pub record StandsFor (n : ℕ) (st : Stage) (w : World Snapshot) : Type 0 where
    pub size : length st.members ≡ n
    pub members : (k : ℕ) (m : Member) → member_at st k ≡ Some m → MemberIs w.sent k m (w.members k)
    pub letters : AllByRecursion (WasSent w.sent) st.letters
    -- no member was started more often than lines were done, beside its first start
    pub boots : (k : ℕ) (m : Member) → member_at st k ≡ Some m → m.home.found.start.boot ≤ st.lines + 1

  -- events that lead from a world to one for which a stage stands
  pub record Happened (n : ℕ) (w : World Snapshot) (st : Stage) : Type 0 where
    pub events : List (Event Snapshot)
    pub stands : StandsFor n st (run words im n events w)

-- of fewer lines than 2 ^ 62: what they leave of a stage that stands for a world stands for what some events make of that world
abbrev pub LinesAreEvents : Type 0
LinesAreEvents = (words : Words) (im : Images Snapshot) → ShowsItsState im → (n : ℕ) (st : Stage) (w : World Snapshot) → StandsFor words im n st w
    → (ls : List ScriptLine) (d : Done) → st.lines + length ls < 2 ^ 62 → plays words im st ls ≡ Ok d → Happened words im n w d.next

-- the blank stage stands for the blank world, so what a script leaves stands for a world that some events lead to
abbrev pub ScriptsAreWorlds : Type 0
ScriptsAreWorlds = (words : Words) (im : Images Snapshot) → ShowsItsState im → (n : ℕ) (ls : List ScriptLine) (d : Done) → length ls < 2 ^ 62
    → plays words im (stage.blank n) ls ≡ Ok d → Happened words im n (blank n) d.next
