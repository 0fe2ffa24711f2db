-- What each step of a node is made of, and what it leaves alone.
use Rattle.std.proofs.Common.{◌≡◌, ℕ, true, List, [], ◌∷◌, Option, Some, None, refl}
use Rattle.std.specs.Prelude.{replicate}
use Rattle.std.specs.FinMap as map
use Rattle.kp_model.specs.declared.entry.Body.{Body}
use Rattle.kp_model.specs.LogEntry.{LogEntry}
use Rattle.kp_model.specs.State.{empty}
use Rattle.kp_model.specs.Store.{after}
use Rattle.kp_entry.specs.Held.{replay}
use Rattle.kp_raft.specs.declared.event.RaftEvent.TheVariants as raft
use Rattle.kp_raft.specs.declared.mail.Mail.{Mail}
use Rattle.kp_raft.specs.Parts.{Outcome}
use Rattle.kp_event.specs.declared.event.NodeEvent.{NodeEvent}
use Rattle.kp_event.specs.declared.event.NodeEventKind.{NodeEventKind}
use Rattle.kp_event.specs.declared.event.NodeEventKind.TheVariants as kind
use Rattle.kp_conn.specs.declared.phase.Phase.{Phase}
use Rattle.kp_conn.specs.declared.phase.Phase.TheVariants as phase
use Rattle.kp_conn.specs.Connection.{is_over}
use Rattle.kp_step.specs.declared.seat.Seat.{Seat}
use Rattle.kp_step.specs.Choices.{Choices}
use Rattle.kp_step.specs.Node.{Node, Images}
use Rattle.kp_step.specs.Applying.{upcoming}
use Rattle.kp_step.specs.Committing.{committed}
use Rattle.kp_step.specs.Asking.{Words, Input, idle, asks, appends, reacted, installed, propose_if, taken_by, client_input, client_served, fed_end, is_csnp, commit_input, expiries, own_image, asked}
use Rattle.kp_step.specs.Step.{Turn, Stepped, hears_client, client_turn, drain_turn, commit_turn, turned, mail_of, base_image, applies, together, step}
use Rattle.kp_step.specs.Runs.{base_behind, done_behind}
use Rattle.kp_step.proofs.Serves.{choose}
use Rattle.kp_step.proofs.Turning.{replayed}
use Rattle.kp_step.proofs.Advances.{asked_none}
use Rattle.kp_step.proofs.Runs.{none_of}
use Rattle.kp_world.proofs.Link.{cond_cases}
use Rattle.kp_cluster.specs.World.{is_own}

-- ---- what a node is called

pub record Stays (x y : Node) : Type 0 where
  pub me : y.me ≡ x.me
  pub members : y.members ≡ x.members

heard_stays : (now : ℕ) (p : Phase) (x : Node) → Stays x (hears_client now p x)
heard_stays now phase.Fresh x = record { me = refl; members = refl }
heard_stays now (phase.Connecting ro) x = record { me = refl; members = refl }
heard_stays now (phase.Live s e n) x = record { me = refl; members = refl }
heard_stays now (phase.Closing lost) x = record { me = refl; members = refl }

client_stays : (words : Words) (ch : Choices) (x : Node) (now k : ℕ) (bytes : List ℕ) (o : Option Seat) → Stays x (client_turn words ch x now k bytes o).node
client_stays words ch x now k bytes None = record { me = refl; members = refl }
client_stays words ch x now k bytes (Some s) = choose (λ (t : Turn). Stays x t.node) (is_over s.connection.phase) _ _ (record { me = refl; members = refl })
    (record { me = (heard_stays now s.connection.phase x).me; members = (heard_stays now s.connection.phase x).members })

drain_stays : (x : Node) (k : ℕ) (o : Option Seat) → Stays x (drain_turn x k o).node
drain_stays x k None = record { me = refl; members = refl }
drain_stays x k (Some s) = record { me = refl; members = refl }

commit_stays : (ch : Choices) (x : Node) (now : ℕ) (o : Option LogEntry) → Stays x (commit_turn ch x now o).node
commit_stays ch x now None = record { me = refl; members = refl }
commit_stays ch x now (Some e) = record { me = refl; members = refl }

module _ {I : Type 0} (words : Words) (im : Images I) (ch : Choices) (x : Node) (now : ℕ) (o : Outcome I) (image : Option I) where
  turned_stays : (v : NodeEventKind (Mail I)) → Stays x (turned words im ch x now o image v).node
  unfolding turned
  turned_stays (kind.Accept draw) = record { me = refl; members = refl }
  turned_stays (kind.Client k bytes) = client_stays words ch x now k bytes (map.get x.seats k)
  turned_stays (kind.Hangup k) = record { me = refl; members = refl }
  turned_stays (kind.Drain k) = drain_stays x k (map.get x.seats k)
  turned_stays (kind.Deliver m) = record { me = refl; members = refl }
  turned_stays kind.Timeout = record { me = refl; members = refl }
  turned_stays kind.Beat = record { me = refl; members = refl }
  turned_stays kind.CommitOne = commit_stays ch x now (upcoming x)
  turned_stays kind.ExpireDue = record { me = refl; members = refl }
  turned_stays kind.Snapshot = record { me = refl; members = refl }

-- ---- the parts of a step

-- a step, from what Raft makes of its event, the image that it takes and the entry that is applied
pub record Made {I : Type 0} (im : Images I) (x : Node) (e : Option LogEntry) (out : Outcome I) (taken : Option I) (o : Stepped I) : Type 0 where
  pub records : o.records ≡ out.records
  pub running : o.node.running ≡ out.running
  pub held : o.node.held ≡ replay x.held out.records
  pub image : o.image ≡ base_image im x out.records taken
  pub installed : o.installed ≡ taken
  pub applied : o.applied ≡ e
  pub forwards : List Body
  pub mail : o.mail ≡ mail_of x out.mail forwards
  pub stays : Stays x o.node
  pub state : (done : List LogEntry) → x.state ≡ after empty done → o.node.state ≡ after (base_behind im taken empty) (done_behind taken e done)

module _ {I : Type 0} (words : Words) (im : Images I) (ch : Choices) (x : Node) where
  pub step_made : (v : NodeEvent (Mail I)) → Made im x (applies x v.kind) (reacted x (asked words im ch x v.now v.kind)) (installed x (asked words im ch x v.now v.kind)) (step words im ch x v)
  unfolding step together
  step_made v =
      let out = reacted x (asked words im ch x v.now v.kind) in
      let taken = installed x (asked words im ch x v.now v.kind) in
      let t = turned words im ch x v.now out taken v.kind in
      let s = turned_stays words im ch x v.now out taken v.kind in
      record {
        records = refl;
        running = refl;
        held = refl;
        image = refl;
        installed = refl;
        applied = refl;
        forwards = t.forwards;
        mail = refl;
        stays = record { me = s.me; members = s.members };
        state = λ done e. replayed words im ch x v.now out empty done e v.kind taken (none_of words im ch x v.now v.kind (asked_none im x words ch v.now v.kind));
      }

-- ---- what Raft is asked

module _ {I : Type 0} (im : Images I) (x : Node) where
  -- an event of a member's own: a beat and a snapshot are of what is applied, with images of the own state
  abbrev pub IsOwn : Input I → Type 0
  IsOwn idle = Unit {0}
  IsOwn (asks raft.Timeout) = Unit {0}
  IsOwn (asks (raft.Beat i images)) = (i ≡ x.state.applied) × (m : ℕ) × (images ≡ replicate m (own_image im x))
  IsOwn (asks (raft.Deliver m)) = ⊥
  IsOwn (asks (raft.Propose now bs)) = Unit {0}
  IsOwn (asks (raft.Compact i)) = i ≡ x.state.applied
  IsOwn (appends m j) = ⊥

-- nothing, or bodies
abbrev pub IsBodies : {I : Type 0} → Input I → Type 0
IsBodies idle = Unit {0}
IsBodies (asks raft.Timeout) = ⊥
IsBodies (asks (raft.Beat i images)) = ⊥
IsBodies (asks (raft.Deliver m)) = ⊥
IsBodies (asks (raft.Propose now bs)) = Unit {0}
IsBodies (asks (raft.Compact i)) = ⊥
IsBodies (appends m j) = ⊥

pub bodies_if : (I : Type 0) (now : ℕ) (bs : List Body) → IsBodies {I = I} (propose_if now bs)
bodies_if I now [] = tt
bodies_if I now (b ∷ bs) = tt

module _ {I : Type 0} (im : Images I) (x : Node) where
  pub bodies_own : (input : Input I) → IsBodies input → IsOwn im x input
  bodies_own idle b = tt
  bodies_own (asks raft.Timeout) b = absurd b
  bodies_own (asks (raft.Beat i images)) b = absurd b
  bodies_own (asks (raft.Deliver m)) b = absurd b
  bodies_own (asks (raft.Propose now bs)) b = tt
  bodies_own (asks (raft.Compact i)) b = absurd b
  bodies_own (appends m j) b = absurd b

  proposed_own : (now : ℕ) (bs : List Body) → IsOwn im x (propose_if now bs)
  proposed_own now bs = bodies_own (propose_if now bs) (bodies_if I now bs)

  client_own : (words : Words) (ch : Choices) (now k : ℕ) (bytes : List ℕ) (o : Option Seat) → IsOwn im x (client_input words ch x now k bytes o)
  client_own words ch now k bytes None = tt
  client_own words ch now k bytes (Some s) = cond_cases (IsOwn im x) (is_over s.connection.phase) idle _ (λ _. tt)
      (λ _. cond_cases (IsOwn im x) (is_csnp (fed_end s bytes)) (asks (raft.Compact x.state.applied)) _ (λ _. refl) (λ _. proposed_own now (client_served words ch x now k bytes s).desk.bodies))

  pub commit_bodies : (ch : Choices) (now : ℕ) (o : Option LogEntry) → IsBodies {I = I} (commit_input ch x now o)
  commit_bodies ch now None = tt
  commit_bodies ch now (Some e) = bodies_if I now (committed ch x now e).desk.bodies

  abbrev pub OwnUnlessMail : Words → Choices → ℕ → NodeEventKind (Mail I) → Type 0
  OwnUnlessMail words ch now v = is_own v ≡ true → IsOwn im x (asked words im ch x now v)

  pub own_asked : (words : Words) (ch : Choices) (now : ℕ) (v : NodeEventKind (Mail I)) → OwnUnlessMail words ch now v
  unfolding asked
  own_asked words ch now (kind.Accept draw) own = tt
  own_asked words ch now (kind.Client k bytes) own = client_own words ch now k bytes (map.get x.seats k)
  own_asked words ch now (kind.Hangup k) own = tt
  own_asked words ch now (kind.Drain k) own = tt
  own_asked words ch now (kind.Deliver m) own = absurd cc
  own_asked words ch now kind.Timeout own = tt
  own_asked words ch now kind.Beat own = (refl, _, refl)
  own_asked words ch now kind.CommitOne own = bodies_own (commit_input ch x now (upcoming x)) (commit_bodies ch now (upcoming x))
  own_asked words ch now kind.ExpireDue own = proposed_own now (taken_by x now (expiries x now))
  own_asked words ch now kind.Snapshot own = refl
