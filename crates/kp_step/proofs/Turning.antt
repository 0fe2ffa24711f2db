-- What a turn does to the committed state, and to the number of the next connection.
use Rattle.std.proofs.Common.{◌≡◌, ℕ, ◌≤◌, ◌<◌, Bool, true, false, List, [], ◌∷◌, ◌++◌, Option, Some, None, is_some, refl, ap, sym, subst, ◌∙◌, arith}
use Rattle.std.proofs.lemmas.Bool.Decides.{nat_tests}
use Rattle.std.specs.Prelude.{if◌then◌else◌, nat_lt, slice_get}
use Rattle.std.specs.FinMap as map
use Rattle.kp_model.specs.LogEntry.{LogEntry}
use Rattle.kp_model.specs.State.{State}
use Rattle.kp_model.specs.Step.{apply}
use Rattle.kp_model.specs.Store.{after}
use Rattle.kp_model.proofs.Applied.{applied-apply}
use Rattle.kp_raft.specs.declared.mail.Mail.{Mail}
use Rattle.kp_raft.specs.Parts as raft
use Rattle.kp_event.specs.declared.event.NodeEventKind.{NodeEventKind}
use Rattle.kp_event.specs.declared.event.NodeEventKind.TheVariants as kind
use Rattle.kp_conn.specs.Connection.{is_over}
use Rattle.kp_step.specs.declared.seat.Seat.{Seat}
use Rattle.kp_step.specs.Choices.{Choices}
use Rattle.kp_step.specs.Node.{Node, Images, unapplied}
use Rattle.kp_step.specs.Applying.{upcoming}
use Rattle.kp_step.specs.Asking.{Words}
use Rattle.kp_conn.specs.declared.phase.Phase.{Phase}
use Rattle.kp_conn.specs.declared.phase.Phase.TheVariants as phase
use Rattle.kp_step.specs.Step.{Turn, hears_client, client_turn, drain_turn, commit_turn, state_of, turned, applies}
use Rattle.kp_step.specs.Runs.{done_by, base_behind, done_behind}
use Rattle.kp_step.proofs.Tables.{no}
use Rattle.kp_step.proofs.Serves.{choose}
use Rattle.kp_step.proofs.Steps.{IsOld, state_at}
use Rattle.kp_step.proofs.Advances.{TakenBy, index_of}

-- ---- the applied index

-- the index goes on from the old one, over that on which the step answers, to the new one, which is committed
pub record GoesUp (x : Node) (m n commit : ℕ) : Type 0 where
  pub from : x.state.applied ≤ m
  pub to : m ≤ n
  pub fits : n ≤ commit

abbrev pub UpBy : Node → Option LogEntry → ℕ → Turn → Type 0
UpBy x e commit t = GoesUp x (state_at x e).applied t.node.state.applied commit

pub stays_up : (x : Node) (commit : ℕ) → x.state.applied ≤ x.running.commit → x.running.commit ≤ commit → GoesUp x x.state.applied x.state.applied commit
stays_up x commit f c = record { from = omega arith; to = omega arith; fits = omega (arith, f, c) }

pub next_index : (s : State) (e : LogEntry) (commit : ℕ) (b : Bool) → nat_lt s.applied commit ≡ b → b ≡ true → (s.applied ≤ (apply s e).state.applied) × ((apply s e).state.applied ≤ commit)
next_index s e commit true t h = let less : s.applied < commit = grind (arith, nat_tests) in let one = applied-apply s e in (omega (arith, one), omega (arith, one, less))
next_index s e commit false t h = no false refl h

pub commit_up : (ch : Choices) (x : Node) (now commit : ℕ) (o : Option LogEntry) → (is_some o ≡ true → nat_lt x.state.applied x.running.commit ≡ true) → x.state.applied ≤ x.running.commit → x.running.commit ≤ commit
    → GoesUp x (state_at x o).applied (commit_turn ch x now o).node.state.applied commit
commit_up ch x now commit None h f c = stays_up x commit f c
commit_up ch x now commit (Some e) h f c = let n = next_index x.state e x.running.commit (nat_lt x.state.applied x.running.commit) refl (h refl) in record { from = n.0; to = omega arith; fits = omega (arith, n.1, c) }

pub some_upcoming : (b : Bool) (o : Option LogEntry) → is_some (if b then o else None) ≡ true → b ≡ true
some_upcoming true o h = refl
some_upcoming false o h = h

-- ---- what the events leave alone

pub heard_state : (now : ℕ) (p : Phase) (x : Node) → (hears_client now p x).state ≡ x.state
heard_state now phase.Fresh x = refl
heard_state now (phase.Connecting ro) x = refl
heard_state now (phase.Live s e n) x = refl
heard_state now (phase.Closing lost) x = refl

pub heard_next : (now : ℕ) (p : Phase) (x : Node) → (hears_client now p x).next ≡ x.next
heard_next now phase.Fresh x = refl
heard_next now (phase.Connecting ro) x = refl
heard_next now (phase.Live s e n) x = refl
heard_next now (phase.Closing lost) x = refl

-- the committed state and the number of the next connection
pub record Leaves (x : Node) (t : Turn) : Type 0 where
  pub state : t.node.state ≡ x.state
  pub next : t.node.next ≡ x.next

pub client_leaves : (words : Words) (ch : Choices) (x : Node) (now k : ℕ) (bytes : List ℕ) (o : Option Seat) → Leaves x (client_turn words ch x now k bytes o)
client_leaves words ch x now k bytes None = record { state = refl; next = refl }
client_leaves words ch x now k bytes (Some s) = choose (Leaves x) (is_over s.connection.phase) _ _ (record { state = refl; next = refl }) (record { state = heard_state now s.connection.phase x; next = heard_next now s.connection.phase x })

pub drain_leaves : (x : Node) (k : ℕ) (o : Option Seat) → Leaves x (drain_turn x k o)
drain_leaves x k None = record { state = refl; next = refl }
drain_leaves x k (Some s) = record { state = refl; next = refl }

pub commit_next : (ch : Choices) (x : Node) (now : ℕ) (o : Option LogEntry) → (commit_turn ch x now o).node.next ≡ x.next
commit_next ch x now None = refl
commit_next ch x now (Some e) = refl

-- ---- replays

pub after_push : (s : State) (es : List LogEntry) (e : LogEntry) → after s (es ++ e ∷ []) ≡ (apply (after s es) e).state
unfolding after
after_push s [] e = refl
after_push s (d ∷ es) e = after_push (apply s d).state es e

pub after_all : (s : State) (es fs : List LogEntry) → after s (es ++ fs) ≡ after (after s es) fs
unfolding after
after_all s [] fs = refl
after_all s (d ∷ es) fs = after_all (apply s d).state es fs

pub after_none : (s : State) → s ≡ after s []
unfolding after
after_none s = refl

pub commit_replay : (ch : Choices) (x : Node) (now : ℕ) (base : State) (done : List LogEntry) (o : Option LogEntry) → x.state ≡ after base done → (commit_turn ch x now o).node.state ≡ after base (done_by o done)
commit_replay ch x now base done None e = e
commit_replay ch x now base done (Some f) e = ap (λ s. (apply s f).state) e ∙ sym (after_push base done f)

-- ---- by the kind of the event

module _ {M : Type 0} (P : NodeEventKind M → Type 0) where
  pub by_kind : ((draw : List ℕ) → P (kind.Accept draw)) → ((v : NodeEventKind M) → IsOld v → P v) → (v : NodeEventKind M) → P v
  by_kind f g (kind.Accept draw) = f draw
  by_kind f g (kind.Client k bytes) = g (kind.Client k bytes) tt
  by_kind f g (kind.Hangup k) = g (kind.Hangup k) tt
  by_kind f g (kind.Drain k) = g (kind.Drain k) tt
  by_kind f g (kind.Deliver m) = g (kind.Deliver m) tt
  by_kind f g kind.Timeout = g kind.Timeout tt
  by_kind f g kind.Beat = g kind.Beat tt
  by_kind f g kind.CommitOne = g kind.CommitOne tt
  by_kind f g kind.ExpireDue = g kind.ExpireDue tt
  by_kind f g kind.Snapshot = g kind.Snapshot tt

module _ {I : Type 0} (words : Words) (im : Images I) (ch : Choices) (x : Node) (now : ℕ) (o : raft.Outcome I) (image : Option I) where
  abbrev pub TurnOf : NodeEventKind (Mail I) → Turn
  TurnOf v = turned words im ch x now o image v

  pub turned_next : (v : NodeEventKind (Mail I)) → IsOld v → (TurnOf v).node.next ≡ x.next
  unfolding turned
  turned_next (kind.Accept draw) old = absurd old
  turned_next (kind.Client k bytes) old = (client_leaves words ch x now k bytes (map.get x.seats k)).next
  turned_next (kind.Hangup k) old = refl
  turned_next (kind.Drain k) old = (drain_leaves x k (map.get x.seats k)).next
  turned_next (kind.Deliver m) old = refl
  turned_next kind.Timeout old = refl
  turned_next kind.Beat old = refl
  turned_next kind.CommitOne old = commit_next ch x now (upcoming x)
  turned_next kind.ExpireDue old = refl
  turned_next kind.Snapshot old = refl

  abbrev pub Up : NodeEventKind (Mail I) → Type 0
  Up v = UpBy x (applies x v) o.running.commit (TurnOf v)

  module _ (f : x.state.applied ≤ x.running.commit) (c : x.running.commit ≤ o.running.commit) (h : TakenBy I x.members x.me x.held x.running (index_of im) o image) where
    pub leaves_up : (t : Turn) → Leaves x t → GoesUp x x.state.applied t.node.state.applied o.running.commit
    leaves_up t l = subst (λ (s : State). GoesUp x x.state.applied s.applied o.running.commit) (sym l.state) (stays_up x o.running.commit f c)

    pub image_by : (i : Option I) → TakenBy I x.members x.me x.held x.running (index_of im) o i → GoesUp x x.state.applied (state_of im x.state i).applied o.running.commit
    image_by None k = stays_up x o.running.commit f c
    image_by (Some i) k = record { from = omega arith; to = omega (arith, f, k.0); fits = k.1 }

    pub turned_up : (v : NodeEventKind (Mail I)) → Up v
    unfolding turned
    turned_up (kind.Accept draw) = stays_up x o.running.commit f c
    turned_up (kind.Client k bytes) = leaves_up _ (client_leaves words ch x now k bytes (map.get x.seats k))
    turned_up (kind.Hangup k) = stays_up x o.running.commit f c
    turned_up (kind.Drain k) = leaves_up _ (drain_leaves x k (map.get x.seats k))
    turned_up (kind.Deliver m) = image_by image h
    turned_up kind.Timeout = image_by image h
    turned_up kind.Beat = stays_up x o.running.commit f c
    turned_up kind.CommitOne = commit_up ch x now o.running.commit (upcoming x) (some_upcoming (nat_lt x.state.applied x.running.commit) (slice_get (unapplied x) 0)) f c
    turned_up kind.ExpireDue = stays_up x o.running.commit f c
    turned_up kind.Snapshot = stays_up x o.running.commit f c

-- only mail brings an image
abbrev pub NoneOf : {I : Type 0} → NodeEventKind (Mail I) → Option I → Type 0
NoneOf (kind.Deliver m) image = Unit {0}
NoneOf v image = image ≡ None

-- the state behind a turn is the replay
abbrev pub IsReplayed : {I : Type 0} → Words → Images I → Choices → Node → ℕ → raft.Outcome I → State → List LogEntry → NodeEventKind (Mail I) → Option I → Type 0
IsReplayed words im ch x now o base done v image = (turned words im ch x now o image v).node.state ≡ after (base_behind im image base) (done_behind image (applies x v) done)

module _ {I : Type 0} (words : Words) (im : Images I) (ch : Choices) (x : Node) (now : ℕ) (o : raft.Outcome I) (base : State) (done : List LogEntry) (e : x.state ≡ after base done) where
  pub mail_replayed : (m : Mail I) (image : Option I) → IsReplayed words im ch x now o base done (kind.Deliver m) image
  unfolding turned
  mail_replayed m None = e
  mail_replayed m (Some i) = after_none (im.shows i)

  pub none_replayed : (v : NodeEventKind (Mail I)) → IsReplayed words im ch x now o base done v None
  unfolding turned
  none_replayed (kind.Accept draw) = e
  none_replayed (kind.Client k bytes) = (client_leaves words ch x now k bytes (map.get x.seats k)).state ∙ e
  none_replayed (kind.Hangup k) = e
  none_replayed (kind.Drain k) = (drain_leaves x k (map.get x.seats k)).state ∙ e
  none_replayed (kind.Deliver m) = e
  none_replayed kind.Timeout = e
  none_replayed kind.Beat = e
  none_replayed kind.CommitOne = commit_replay ch x now base done (upcoming x) e
  none_replayed kind.ExpireDue = e
  none_replayed kind.Snapshot = e

  pub without_image : (v : NodeEventKind (Mail I)) (image : Option I) → image ≡ None → IsReplayed words im ch x now o base done v image
  without_image v image none = subst (IsReplayed words im ch x now o base done v) (sym none) (none_replayed v)

  pub replayed : (v : NodeEventKind (Mail I)) (image : Option I) → (NoneOf v image) → IsReplayed words im ch x now o base done v image
  replayed (kind.Accept draw) image n = without_image (kind.Accept draw) image n
  replayed (kind.Client k bytes) image n = without_image (kind.Client k bytes) image n
  replayed (kind.Hangup k) image n = without_image (kind.Hangup k) image n
  replayed (kind.Drain k) image n = without_image (kind.Drain k) image n
  replayed (kind.Deliver m) image n = mail_replayed m image
  replayed kind.Timeout image n = without_image kind.Timeout image n
  replayed kind.Beat image n = without_image kind.Beat image n
  replayed kind.CommitOne image n = without_image kind.CommitOne image n
  replayed kind.ExpireDue image n = without_image kind.ExpireDue image n
  replayed kind.Snapshot image n = without_image kind.Snapshot image n
