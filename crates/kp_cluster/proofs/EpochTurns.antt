-- All kinds of events, runs, and one list of entries.
use mathlib.Core.List.{IsPrefix}
use Rattle.std.proofs.Common.{append-nil, ◌⊎◌, ◌≡◌, ℕ, ◌-◌, true, inl, inr, List, [], ◌∷◌, ◌++◌, length, Option, Some, None, refl, ap, sym, subst, ◌∙◌, arith}
use Rattle.std.proofs.lemmas.List.{take_all, take_at, length_push}
use Rattle.std.specs.List.{AllByRecursion}
use Rattle.std.specs.Ordering.{nat_cmp}
use Rattle.std.specs.FinMap as map
use Rattle.kp_model.specs.LogEntry.{LogEntry}
use Rattle.kp_model.specs.declared.session.Origin.{Origin}
use Rattle.kp_model.specs.State.{State, empty}
use Rattle.kp_model.specs.Store.{after}
use Rattle.kp_model.proofs.Applied.{applied-apply, applied-after}
use Rattle.kp_raft.specs.declared.mail.Mail.{Mail}
use Rattle.kp_raft.specs.Parts as raft
use Rattle.kp_event.specs.declared.event.NodeEvent.{NodeEvent}
use Rattle.kp_event.specs.declared.event.NodeEventKind.{NodeEventKind}
use Rattle.kp_event.specs.declared.event.NodeEventKind.TheVariants as kind
use Rattle.kp_conn.specs.declared.phase.Phase.{Phase}
use Rattle.kp_conn.specs.declared.phase.Phase.TheVariants as phase
use Rattle.kp_conn.specs.Connection.{blank, drained, is_over}
use Rattle.kp_step.specs.declared.seat.Seat.{Seat}
use Rattle.kp_step.specs.Choices.{Choices}
use Rattle.kp_step.specs.Node.{Node, Seats, Images}
use Rattle.kp_step.specs.Answers.{Cause, by_state, by_entry, by_lack, by_term, by_move, by_end}
use Rattle.kp_step.specs.Settling.{Told}
use Rattle.kp_step.specs.Tables.{seated}
use Rattle.kp_step.specs.Applying.{upcoming}
use Rattle.kp_step.specs.Asking.{Words, reacted, installed, asked, client_served, fed_end}
use Rattle.kp_step.specs.Step.{Turn, hears_client, client_turn, fed_turn, drain_turn, commit_turn, raft_turn, turned, applies, together, step}
use Rattle.kp_step.specs.Runs.{Run, begun, at_start, done_by, base_behind, done_behind, with_step, run}
use Rattle.kp_step.proofs.Serves.{choose}
use Rattle.kp_step.proofs.Turning.{heard_state, after_none, after_all, NoneOf, replayed}
use Rattle.kp_step.proofs.Advances.{asked_none, NoneUnlessMail}
use Rattle.kp_cluster.specs.Epochs.{IsNumbered, last_epoch, IsShown, IsAttach}
use Rattle.kp_cluster.specs.Serving.{conn_at, PhaseServes, SeatServes, state_behind, entries_for, IsOfEpoch, IsServing, IsNumberedImage, ServingBegins, ServingGoesOn, AnswersAreOfTheirEpoch, IsShownOn, AnswersAreShown, KeepsTo, AnswersKeepToAttaches, ServingFromBefore, AreNumbered, ServingInRuns, StandsFor, entries_behind, StartsOnOneList, StepsOnOneList}
use Rattle.kp_cluster.proofs.EpochLists.{numbered_on, numbered_along, none_numbered}
use Rattle.kp_cluster.proofs.EpochMarks.{last_anyhow, last_split, none_crosses, beginnings_show, attach_longer}
use Rattle.kp_cluster.proofs.EpochTables.{AtSeat, AllAt, insert_all, remove_all}
use Rattle.kp_cluster.proofs.EpochServing.{over_serves}
use Rattle.kp_cluster.proofs.EpochSteps.{Before, committed_fine, client_fine, raft_fine, image_fine}

-- ---- what the events leave alone

heard_me : (now : ℕ) (p : Phase) (x : Node) → (hears_client now p x).me ≡ x.me
heard_me now phase.Fresh x = refl
heard_me now (phase.Connecting ro) x = refl
heard_me now (phase.Live s e n) x = refl
heard_me now (phase.Closing lost) x = refl

heard_boot : (now : ℕ) (p : Phase) (x : Node) → (hears_client now p x).boot ≡ x.boot
heard_boot now phase.Fresh x = refl
heard_boot now (phase.Connecting ro) x = refl
heard_boot now (phase.Live s e n) x = refl
heard_boot now (phase.Closing lost) x = refl

-- a turn without an image
record IsTurned (base : State) (done : List LogEntry) (x : Node) (e : Option LogEntry) (t : Turn) : Type 0 where
  state : t.node.state ≡ state_behind e x.state
  me : t.node.me ≡ x.me
  boot : t.node.boot ≡ x.boot
  seats : (k : ℕ) → AtSeat (λ p. PhaseServes base (done_by e done) (state_behind e x.state) (conn_at x.me x.boot k) p) (map.get t.node.seats k)
  told : (k : ℕ) → AllByRecursion (λ u. IsOfEpoch base done x.state e u) (t.told k)

module _ (base : State) (done : List LogEntry) (x : Node) (h : IsServing base done x) where
  abbrev All : AllAt (Before base done x h.replay h.numbered) x.seats
  All = h.serves

  still : (t : Turn) → t.node.state ≡ x.state → t.node.me ≡ x.me → t.node.boot ≡ x.boot → t.node.seats ≡ x.seats → ((k : ℕ) → t.told k ≡ []) → IsTurned base done x None t
  still t s m b e f = record {
    state = s;
    me = m;
    boot = b;
    seats = λ k. subst (λ z. AtSeat (λ p. PhaseServes base done x.state (conn_at x.me x.boot k) p) (map.get z k)) (sym e) (h.serves k);
    told = λ k. subst (AllByRecursion (λ u. IsOfEpoch base done x.state None u)) (sym (f k)) tt;
  }

  client_turned : (words : Words) (ch : Choices) (now k : ℕ) (bytes : List ℕ) (o : Option Seat) → map.get x.seats k ≡ o → IsTurned base done x None (client_turn words ch x now k bytes o)
  client_turned words ch now k bytes None there = still _ refl refl refl refl (λ j. refl)
  client_turned words ch now k bytes (Some s) there = let f = client_fine base done x h.replay h.numbered words ch now k bytes s there h.serves in
      choose (IsTurned base done x None) (is_over s.connection.phase) _ (fed_turn x now k s (fed_end s bytes) (client_served words ch x now k bytes s)) (still _ refl refl refl refl (λ j. refl))
      (record { state = heard_state now s.connection.phase x; me = heard_me now s.connection.phase x; boot = heard_boot now s.connection.phase x; seats = f.seats; told = f.told })

  drain_turned : (k : ℕ) (o : Option Seat) → map.get x.seats k ≡ o → IsTurned base done x None (drain_turn x k o)
  drain_turned k None there = still _ refl refl refl refl (λ j. refl)
  drain_turned k (Some s) there = record {
    state = refl;
    me = refl;
    boot = refl;
    seats = choose (AllAt (Before base done x h.replay h.numbered)) (is_over s.connection.phase) (map.remove x.seats k) (map.insert x.seats k (seated s (drained s.connection)))
        (remove_all (Before base done x h.replay h.numbered) x.seats k h.serves)
        (insert_all (Before base done x h.replay h.numbered) x.seats k (seated s (drained s.connection)) h.serves (subst (AtSeat (Before base done x h.replay h.numbered k)) there (h.serves k)));
    told = λ j. tt;
  }

  commit_turned : (ch : Choices) (now : ℕ) (o : Option LogEntry) → IsTurned base done x o (commit_turn ch x now o)
  commit_turned ch now None = still _ refl refl refl refl (λ j. refl)
  commit_turned ch now (Some e) = let f = committed_fine base done x h.replay h.numbered ch now e h.serves in record { state = refl; me = refl; boot = refl; seats = f.seats; told = f.told }

  module _ {I : Type 0} (words : Words) (im : Images I) (ch : Choices) (now : ℕ) (o : raft.Outcome I) where
    raft_turned : (v : NodeEventKind (Mail I)) → IsTurned base done x None (raft_turn im ch x now v o None)
    raft_turned v = let f = raft_fine base done x h.replay h.numbered ch o h.serves in record { state = refl; me = refl; boot = refl; seats = f.seats; told = f.told }

    none_turned : (v : NodeEventKind (Mail I)) → IsTurned base done x (applies x v) (turned words im ch x now o None v)
    unfolding turned
    none_turned (kind.Accept draw) = record {
      state = refl;
      me = refl;
      boot = refl;
      seats = insert_all (Before base done x h.replay h.numbered) x.seats x.next (record { draw = draw; connection = blank }) h.serves tt;
      told = λ j. tt;
    }
    none_turned (kind.Client k bytes) = client_turned words ch now k bytes (map.get x.seats k) refl
    none_turned (kind.Hangup k) = record { state = refl; me = refl; boot = refl; seats = remove_all (Before base done x h.replay h.numbered) x.seats k h.serves; told = λ j. tt }
    none_turned (kind.Drain k) = drain_turned k (map.get x.seats k) refl
    none_turned (kind.Deliver m) = raft_turned (kind.Deliver m)
    none_turned kind.Timeout = raft_turned kind.Timeout
    none_turned kind.Beat = still _ refl refl refl refl (λ j. refl)
    none_turned kind.CommitOne = commit_turned ch now (upcoming x)
    none_turned kind.ExpireDue = still _ refl refl refl refl (λ j. refl)
    none_turned kind.Snapshot = still _ refl refl refl refl (λ j. refl)

    -- behind a turn
    abbrev AnyServes : Option I → NodeEventKind (Mail I) → Type 0
    AnyServes image v = (k : ℕ) → SeatServes (base_behind im image base) (done_behind image (applies x v) done) (turned words im ch x now o image v).node.state (conn_at (turned words im ch x now o image v).node.me (turned words im ch x now o image v).node.boot k) (map.get (turned words im ch x now o image v).node.seats k)

    abbrev AnyNumbered : Option I → NodeEventKind (Mail I) → Type 0
    AnyNumbered image v = IsNumbered (turned words im ch x now o image v).node.state

    abbrev AnyTells : Option I → NodeEventKind (Mail I) → Type 0
    AnyTells image v = (k : ℕ) → AllByRecursion (λ u. IsOfEpoch base done x.state (applies x v) u) ((turned words im ch x now o image v).told k)

    record IsDone (image : Option I) (v : NodeEventKind (Mail I)) : Type 0 where
      serves : AnyServes image v
      numbered : IsNumberedImage im image → AnyNumbered image v
      tells : AnyTells image v

    numbered_behind : (e : Option LogEntry) → IsNumbered (state_behind e x.state)
    numbered_behind None = h.numbered
    numbered_behind (Some e) = numbered_on x.state e h.numbered

    none_done : (v : NodeEventKind (Mail I)) → IsDone None v
    none_done v = let t = turned words im ch x now o None v in let f = none_turned v in record {
      serves = λ k. subst (λ s. SeatServes base (done_by (applies x v) done) s (conn_at t.node.me t.node.boot k) (map.get t.node.seats k)) (sym f.state)
          (subst (λ m. SeatServes base (done_by (applies x v) done) (state_behind (applies x v) x.state) (conn_at m t.node.boot k) (map.get t.node.seats k)) (sym f.me)
          (subst (λ b. SeatServes base (done_by (applies x v) done) (state_behind (applies x v) x.state) (conn_at x.me b k) (map.get t.node.seats k)) (sym f.boot) (f.seats k)));
      numbered = λ n. subst IsNumbered (sym f.state) (numbered_behind (applies x v));
      tells = f.told;
    }

    over_seat : (b : State) (d : List LogEntry) (s : State) (m : _) (u : Option Seat) → AtSeat (λ p. is_over p ≡ true) u → SeatServes b d s m u
    over_seat b d s m None g = tt
    over_seat b d s m (Some y) g = over_serves b d s m y.connection.phase g

    mail_done : (m : Mail I) (image : Option I) → IsDone image (kind.Deliver m)
    unfolding turned
    mail_done m None = none_done (kind.Deliver m)
    mail_done m (Some i) = let f = image_fine base done x h.replay h.numbered ch o i h.serves in record {
      serves = λ k. over_seat (im.shows i) [] (im.shows i) (conn_at x.me x.boot k) _ (f.seats k);
      numbered = λ n. n;
      tells = f.told;
    }

    without : (v : NodeEventKind (Mail I)) (image : Option I) → image ≡ None → IsDone image v
    without v image e = subst (λ z. IsDone z v) (sym e) (none_done v)

    all_done : (v : NodeEventKind (Mail I)) (image : Option I) → NoneOf v image → IsDone image v
    all_done (kind.Accept draw) image e = without (kind.Accept draw) image e
    all_done (kind.Client k bytes) image e = without (kind.Client k bytes) image e
    all_done (kind.Hangup k) image e = without (kind.Hangup k) image e
    all_done (kind.Drain k) image e = without (kind.Drain k) image e
    all_done (kind.Deliver m) image e = mail_done m image
    all_done kind.Timeout image e = without kind.Timeout image e
    all_done kind.Beat image e = without kind.Beat image e
    all_done kind.CommitOne image e = without kind.CommitOne image e
    all_done kind.ExpireDue image e = without kind.ExpireDue image e
    all_done kind.Snapshot image e = without kind.Snapshot image e

-- ---- a step

pub none_of : {I : Type 0} (words : Words) (im : Images I) (ch : Choices) (x : Node) (now : ℕ) (v : NodeEventKind (Mail I)) → NoneUnlessMail im x words ch now v → NoneOf v (installed x (asked words im ch x now v))
none_of words im ch x now (kind.Accept draw) n = n
none_of words im ch x now (kind.Client k bytes) n = n
none_of words im ch x now (kind.Hangup k) n = n
none_of words im ch x now (kind.Drain k) n = n
none_of words im ch x now (kind.Deliver m) n = tt
none_of words im ch x now kind.Timeout n = n
none_of words im ch x now kind.Beat n = n
none_of words im ch x now kind.CommitOne n = n
none_of words im ch x now kind.ExpireDue n = n
none_of words im ch x now kind.Snapshot n = n

abbrev no_seats : Seats
no_seats = map.empty

pub serving_begins : ServingBegins
serving_begins me members boot now held s numbered = record {
  numbered = numbered;
  replay = after_none s;
  serves = λ k. subst (SeatServes s [] s (conn_at me boot k)) (sym (map.get-empty nat_cmp k)) tt;
}

all_map : (P Q : Told → Type 0) → ((t : Told) → P t → Q t) → (ts : List Told) → AllByRecursion P ts → AllByRecursion Q ts
all_map P Q f [] h = tt
all_map P Q f (t ∷ ts) h = (f t h.0, all_map P Q f ts h.1)

module _ (I : Type 0) where
  pub serving_goes_on : ServingGoesOn I
  unfolding step together
  serving_goes_on words im ch x v base done h n = let input = asked words im ch x v.now v.kind in let o = reacted x input in let image = installed x input in
      let none = none_of words im ch x v.now v.kind (asked_none im x words ch v.now v.kind) in
      let d = all_done base done x h words im ch v.now o v.kind image none in record {
        numbered = d.numbered n;
        replay = replayed words im ch x v.now o base done h.replay v.kind image none;
        serves = d.serves;
      }

  pub answers_of_epoch : AnswersAreOfTheirEpoch I
  unfolding step together
  answers_of_epoch words im ch x v base done h = let input = asked words im ch x v.now v.kind in let o = reacted x input in let image = installed x input in
      (all_done base done x h words im ch v.now o v.kind image (none_of words im ch x v.now v.kind (asked_none im x words ch v.now v.kind))).tells

  -- ---- runs

  run_serves : (words : Words) (im : Images I) (r : Run) (es : List (Choices × NodeEvent (Mail I))) → IsServing r.base r.done r.node → AreNumbered words im r es → IsServing (run words im r es).base (run words im r es).done (run words im r es).node
  unfolding run AreNumbered
  run_serves words im r [] h n = h
  run_serves words im r (e ∷ es) h n = run_serves words im (with_step im r (step words im e.0 r.node e.1)) es (serving_goes_on words im e.0 r.node e.1 r.base r.done h n.0) n.1

  pub serving_in_runs : ServingInRuns I
  serving_in_runs words im me members boot now held s numbered es n = run_serves words im (at_start (begun me members boot now held s)) es (serving_begins me members boot now held s numbered) n

-- ---- on one list

index_of : (s : State) (done : List LogEntry) → s ≡ after empty done → s.applied ≡ length done
unfolding empty
index_of s done e = let n = applied-after empty done in ap (λ (t : State). t.applied) e ∙ omega (arith, n)

index_behind : (s : State) (e : Option LogEntry) (done : List LogEntry) → s ≡ after empty done → (state_behind e s).applied ≡ length (done_by e done)
index_behind s None done h = index_of s done h
index_behind s (Some e) done h = let one = applied-apply s e in let was = index_of s done h in let more = length_push done e in omega (arith, one, was, more)

module _ (done : List LogEntry) (id epoch z : ℕ) where
  whole : (es : List LogEntry) → z ≡ length es → last_epoch empty es id ≡ Some epoch → IsShown es z id epoch
  whole es e h = inl (ap (λ xs. last_epoch empty xs id) (take_all z es (omega (arith, e))) ∙ h)

  before : (e : Option LogEntry) → z ≡ length (done_by e done) → last_epoch empty done id ≡ Some epoch → IsShown (done_by e done) z id epoch
  before None e h = whole done e h
  before (Some d) e h = let more = length_push done d in inr (ap (λ xs. last_epoch empty xs id) (take_at done (d ∷ []) (z - 1) (omega (arith, e, more))) ∙ h)

  by_cause : (c : Cause) (e : Option LogEntry) → z ≡ length (done_by e done) → last_epoch empty (entries_for c e done) id ≡ Some epoch → IsShown (done_by e done) z id epoch
  by_cause by_state e l h = whole (done_by e done) l h
  by_cause by_entry e l h = whole (done_by e done) l h
  by_cause by_lack e l h = whole (done_by e done) l h
  by_cause by_term e l h = whole (done_by e done) l h
  by_cause by_move e l h = before e l h
  by_cause by_end e l h = whole (done_by e done) l h

one_shown : (done : List LogEntry) (s : State) (e : Option LogEntry) → s ≡ after empty done → (t : Told) → IsOfEpoch empty done s e t → IsShownOn (done_by e done) t
one_shown done s e h t w n = let v = w n in let l = v.index ∙ index_behind s e done h in (l, by_cause done t.session t.epoch t.zxid t.cause e l v.last)

pub answers_shown : (I : Type 0) → AnswersAreShown I
answers_shown I words im ch x v done h k = let e = (step words im ch x v).applied in
    all_map (λ t. IsOfEpoch empty done x.state e t) (λ t. IsShownOn (done_by e done) t) (one_shown done x.state e h.replay) ((step words im ch x v).told k) (answers_of_epoch I words im ch x v empty done h k)

-- on the whole of which the entries are the beginning
one_keeps : (es more : List LogEntry) (t : Told) → IsShownOn es t → KeepsTo (es ++ more) t
one_keeps es more t h n i new a = let s = h n in let l = s.0 in none_crosses (es ++ more) t.zxid i t.session t.epoch new (beginnings_show es more t.zxid t.session t.epoch (omega (arith, l)) s.1) a

-- of a list that the entries begin, or that begins them
either_keeps : (done es : List LogEntry) → IsPrefix done es ⊎ IsPrefix es done → (t : Told) → IsShownOn done t → KeepsTo es t
either_keeps done es (inl p) t h = subst (λ z. KeepsTo z t) p.1 (one_keeps done p.0 t h)
either_keeps done es (inr p) t h = λ n i new a. let s = h n in none_crosses done t.zxid i t.session t.epoch new s.1 (subst (λ z. IsAttach z i t.session new) p.1 (attach_longer es p.0 i t.session new a))

pub answers_keep : (I : Type 0) → AnswersKeepToAttaches I
answers_keep I words im ch x v done es h p k = let now = done_by (step words im ch x v).applied done in
    all_map (λ t. IsShownOn now t) (λ t. KeepsTo es t) (either_keeps now es p) ((step words im ch x v).told k) (answers_shown I words im ch x v done h k)

-- ---- a longer history

before_serves : (start base : State) (front done : List LogEntry) (s : State) (mine : Origin) (p : Phase) → base ≡ after start front → PhaseServes base done s mine p → PhaseServes start (front ++ done) s mine p
before_serves start base front done s mine phase.Fresh e h = tt
before_serves start base front done s mine (phase.Connecting ro) e h = tt
before_serves start base front done s mine (phase.Live id epoch n) e h = record {
  given = h.given;
  some = h.some;
  last = last_split None start front done id ∙ last_anyhow (last_epoch start front id) (after start front) done id epoch (ap (λ b. last_epoch b done id) (sym e) ∙ h.last);
  current = h.current;
}
before_serves start base front done s mine (phase.Closing lost) e h = tt

before_seat : (start base : State) (front done : List LogEntry) (s : State) (mine : Origin) (o : Option Seat) → base ≡ after start front → SeatServes base done s mine o → SeatServes start (front ++ done) s mine o
before_seat start base front done s mine None e h = tt
before_seat start base front done s mine (Some y) e h = before_serves start base front done s mine y.connection.phase e h

pub serving_from_before : ServingFromBefore
serving_from_before start base front done x e h = record {
  numbered = h.numbered;
  replay = h.replay ∙ ap (λ b. after b done) e ∙ sym (after_all start front done);
  serves = λ k. before_seat start base front done x.state (conn_at x.me x.boot k) (map.get x.seats k) e (h.serves k);
}

-- ---- from the empty state on

pub starts_on : StartsOnOneList
starts_on me members boot now held s front e = let y = begun me members boot now held s in
    subst (λ es. IsServing empty es y) (append-nil front) (serving_from_before empty s front [] y e (serving_begins me members boot now held s (subst IsNumbered (sym e) (numbered_along empty front none_numbered).0)))

module _ {I : Type 0} (im : Images I) (list : List LogEntry) where
  image_numbered : (image : Option I) → StandsFor im list image → IsNumberedImage im image
  image_numbered None h = tt
  image_numbered (Some i) h = subst IsNumbered (sym h) (numbered_along empty list none_numbered).0

  on_one_list : (image : Option I) (e : Option LogEntry) (done : List LogEntry) (y : Node) → StandsFor im list image → IsServing (base_behind im image empty) (done_behind image e done) y → IsServing empty (entries_behind list image e done) y
  on_one_list None e done y h s = s
  on_one_list (Some i) e done y h s = subst (λ es. IsServing empty es y) (append-nil list) (serving_from_before empty (im.shows i) list [] y h s)

pub steps_on : (I : Type 0) → StepsOnOneList I
steps_on I words im ch x v done list h s = let o = step words im ch x v in
    on_one_list im list o.installed o.applied done o.node s (serving_goes_on I words im ch x v empty done h (image_numbered im list o.installed s))
