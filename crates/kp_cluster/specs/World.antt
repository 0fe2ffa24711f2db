-- The nodes' world: every member with its node, and every message that was ever sent.
use Rattle.std.specs.Prelude.{ℕ, ◌+◌, Bool, true, false, cond, List, [], ◌∷◌, ◌++◌, take, Option, None, Some, slice_get}
use Rattle.kp_model.specs.LogEntry.{LogEntry}
use Rattle.kp_model.specs.State.{State, empty}
use Rattle.kp_entry.specs.declared.record.Record.{Record}
use Rattle.kp_entry.specs.declared.record.Record.TheVariants as record_
use Rattle.kp_entry.specs.Log.{based_at}
use Rattle.kp_entry.specs.Held.{Held}
use Rattle.kp_raft.specs.declared.mail.Mail.{Mail}
use Rattle.kp_raft.specs.Numbers.{set_at}
use Rattle.kp_event.specs.declared.event.NodeEvent.{NodeEvent}
use Rattle.kp_event.specs.declared.event.NodeEventKind.{NodeEventKind}
use Rattle.kp_event.specs.declared.event.NodeEventKind.TheVariants as kind
use Rattle.kp_step.specs.Choices.{Choices}
use Rattle.kp_step.specs.Node.{Node, Images}
use Rattle.kp_step.specs.Asking.{Words}
use Rattle.kp_step.specs.Step.{Stepped, state_of, step}
use Rattle.kp_step.specs.Runs.{begun, done_by}
use Rattle.kp_world.specs.Net.{Stored, Sent, behind_records, sent_with, is_member}

pub record Member : Type 0 where
  -- what its records replay to, with the entries that the image of its base stands for
  pub stored : Stored
  -- the state of that image
  pub image : State
  -- how often it was started
  pub boot : ℕ
  -- None where it is down
  pub node : Option Node
  -- the entries that it has applied
  pub done : List LogEntry

-- the members by their numbers, and every message that was ever sent, the last one first
pub record World (I : Type 0) : Type 0 where
  pub members : ℕ → Member
  pub sent : List (Sent I)

-- the state of the image of the last base among these records, or what it was
abbrev pub image_behind : State → State → List Record → State
image_behind new old [] = old
image_behind new old (record_.Vote t v ∷ rs) = image_behind new old rs
image_behind new old (record_.Boot b ∷ rs) = image_behind new old rs
image_behind new old (record_.Append e ∷ rs) = image_behind new old rs
image_behind new old (record_.Truncate i ∷ rs) = image_behind new old rs
image_behind new old (record_.Base i t ∷ rs) = image_behind new new rs

module _ {I : Type 0} where
  -- what is applied behind a step: where an image was taken, the entries that it stands for; else one entry more where one was applied
  abbrev pub done_after : List LogEntry → Option I → Option LogEntry → List LogEntry → List LogEntry
  done_after list None e done = done_by e done
  done_after list (Some image) e done = list

  -- what is stored behind these records of a step, whose images stand for this list
  abbrev pub stored_behind : Images I → Member → List LogEntry → Stepped I → List Record → Option Node → List LogEntry → Member
  stored_behind im m list o rs node done = record {
    stored = behind_records list m.stored rs;
    image = image_behind (state_of im m.image o.image) m.image rs;
    boot = m.boot;
    node = node;
    done = done;
  }

  -- a step of member k, and its fate: it is done, or stopped behind its first j records, and its messages are lost
  abbrev pub did : Images I → World I → ℕ → List LogEntry → Stepped I → Option ℕ → World I
  did im w k list o None = record {
    members = set_at w.members k (stored_behind im (w.members k) list o o.records (Some o.node) (done_after list o.installed o.applied (w.members k).done));
    sent = sent_with list o.mail ++ w.sent;
  }
  did im w k list o (Some j) = record {
    members = set_at w.members k (stored_behind im (w.members k) list o (take j o.records) None (w.members k).done);
    sent = w.sent;
  }

  -- no message is made up
  abbrev pub is_own : NodeEventKind (Mail I) → Bool
  is_own (kind.Deliver m) = false
  is_own v = true

  -- an event of a member's own, where it runs: its image is of all that it has applied
  abbrev pub acted : Words → Images I → World I → ℕ → Choices → NodeEvent (Mail I) → Option ℕ → Option Node → World I
  acted words im w k ch v stop None = w
  acted words im w k ch v stop (Some x) = did im w k (take x.state.applied (w.members k).done) (step words im ch x v) stop

  -- a message comes to its receiver, where it runs
  abbrev pub heard_by : Words → Images I → World I → Sent I → Choices → ℕ → Option ℕ → Option Node → World I
  heard_by words im w m ch now stop None = w
  heard_by words im w m ch now stop (Some x) = did im w m.to m.list (step words im ch x (record { now = now; kind = kind.Deliver m.message })) stop

-- what happens to a node: an event of member k's own, or the i-th message that was sent comes to its receiver at this time
pub data Act (I : Type 0) : Type 0 where
  At : (k : ℕ) → (own : NodeEvent (Mail I)) → Act I
  Comes : (i now : ℕ) → Act I

pub data Event (I : Type 0) : Type 0 where
  Does : (ch : Choices) → (act : Act I) → Event I
  Tears : (ch : Choices) → (act : Act I) → (j : ℕ) → Event I  -- a stop in a step, of which the first j records stay
  Starts : (k now : ℕ) → Event I  -- a start from the replay of the records

-- member k of n is started: it has applied what its image stands for; one that runs is stopped before
abbrev pub started : ℕ → ℕ → Member → ℕ → Member
started n k m now = record {
  stored = m.stored;
  image = m.image;
  boot = m.boot + 1;
  node = Some (begun k n (m.boot + 1) now m.stored.held m.image);
  done = m.stored.front;
}

abbrev pub blank_held : Held
blank_held = record { term = 0; vote = 0; log = based_at 0 0 }

-- all members are started blank
abbrev pub blank : {I : Type 0} → ℕ → World I
blank n = record {
  members = λ k. record { stored = record { held = blank_held; front = [] }; image = empty; boot = 1; node = Some (begun k n 1 0 blank_held empty); done = [] };
  sent = [];
}

module _ {I : Type 0} (words : Words) (im : Images I) (n : ℕ) where
  abbrev pub heard : World I → Choices → ℕ → Option ℕ → Option (Sent I) → World I
  heard w ch now stop None = w
  heard w ch now stop (Some m) = cond (is_member n m.to) (heard_by words im w m ch now stop (w.members m.to).node) w

  abbrev pub acts : World I → Choices → Act I → Option ℕ → World I
  acts w ch (At k v) stop = cond (is_member n k) (cond (is_own v.kind) (acted words im w k ch v stop (w.members k).node) w) w
  acts w ch (Comes i now) stop = heard w ch now stop (slice_get w.sent i)

  abbrev pub happens : World I → Event I → World I
  happens w (Does ch a) = acts w ch a None
  happens w (Tears ch a j) = acts w ch a (Some j)
  happens w (Starts k now) = record { members = set_at w.members k (started n k (w.members k) now); sent = w.sent }

  abbrev pub run : List (Event I) → World I → World I
  run [] w = w
  run (e ∷ es) w = run es (happens w e)

  -- the world behind these events
  abbrev pub world_after : List (Event I) → World I
  world_after es = run es (blank n)
