-- In every world each answer keeps to the attaches that any member has applied.
use mathlib.Core.List.{IsPrefix}
use Rattle.std.proofs.Common.{◌≡◌, ◌+◌, ℕ, Bool, true, false, cond, ◌⊎◌, inl, inr, List, [], ◌∷◌, ◌++◌, Option, Some, None, refl, ap, sym, subst, ◌∙◌}
use Rattle.std.proofs.lemmas.Bool.{eq-eqb}
use Rattle.std.specs.Prelude.{nat_eq, slice_get}
use Rattle.std.specs.List.{AllByRecursion}
use Rattle.kp_model.specs.LogEntry.{LogEntry}
use Rattle.kp_model.specs.State.{State, empty}
use Rattle.kp_model.specs.Store.{after}
use Rattle.kp_model.proofs.Maps.{same_value, no_value}
use Rattle.kp_raft.specs.declared.mail.Mail.{Mail}
use Rattle.kp_raft.specs.Numbers.{set_at}
use Rattle.kp_event.specs.declared.event.NodeEvent.{NodeEvent}
use Rattle.kp_event.specs.declared.event.NodeEventKind.{NodeEventKind}
use Rattle.kp_event.specs.declared.event.NodeEventKind.TheVariants as kind
use Rattle.kp_step.specs.Choices.{Choices}
use Rattle.kp_step.specs.Node.{Node, Images}
use Rattle.kp_step.specs.Asking.{Words, reacted, installed, asked}
use Rattle.kp_step.specs.Step.{Stepped, applies, together, step}
use Rattle.kp_step.specs.Runs.{begun, done_by, base_behind, done_behind}
use Rattle.kp_step.proofs.Turning.{after_none, NoneOf, replayed}
use Rattle.kp_step.proofs.Advances.{asked_none}
use Rattle.kp_world.specs.Net.{Sent, is_member}
use Rattle.kp_cluster.specs.World.{Member, World, Act, At, Comes, Event, Does, Tears, Starts, is_own, done_after, stored_behind, did, acted, heard_by, heard, acts, started, blank, blank_held, happens, run, world_after}
use Rattle.kp_cluster.specs.Laws.{HaveOneList, OneList, Folds, StatesFold}
use Rattle.kp_cluster.specs.Serving.{IsServing, StandsFor, KeepsTo}
use Rattle.kp_cluster.specs.Crossing.{stepping, hearing, makes, KeepTo, AnswersKeepLater, AnswersKeepEarlier}
use Rattle.kp_cluster.proofs.EpochTurns.{none_of, starts_on, steps_on, answers_keep}

-- ---- a step

module _ {I : Type 0} (words : Words) (im : Images I) (ch : Choices) (x : Node) (v : NodeEvent (Mail I)) where
  state_from : (base : State) (done : List LogEntry) → x.state ≡ after base done → (step words im ch x v).node.state ≡ after (base_behind im (step words im ch x v).installed base) (done_behind (step words im ch x v).installed (step words im ch x v).applied done)
  unfolding step together
  state_from base done e = let input = asked words im ch x v.now v.kind in
      replayed words im ch x v.now (reacted x input) base done e v.kind (installed x input) (none_of words im ch x v.now v.kind (asked_none im x words ch v.now v.kind))

  -- an event that brings an image applies no entry
  one_of : (w : NodeEventKind (Mail I)) (image : Option I) → NoneOf w image → (image ≡ None) ⊎ (applies x w ≡ None)
  one_of (kind.Accept draw) image h = inl h
  one_of (kind.Client k bytes) image h = inl h
  one_of (kind.Hangup k) image h = inl h
  one_of (kind.Drain k) image h = inl h
  one_of (kind.Deliver m) image h = inr refl
  one_of kind.Timeout image h = inl h
  one_of kind.Beat image h = inl h
  one_of kind.CommitOne image h = inl h
  one_of kind.ExpireDue image h = inl h
  one_of kind.Snapshot image h = inl h

  image_or_entry : ((step words im ch x v).installed ≡ None) ⊎ ((step words im ch x v).applied ≡ None)
  unfolding step together
  image_or_entry = one_of v.kind (installed x (asked words im ch x v.now v.kind)) (none_of words im ch x v.now v.kind (asked_none im x words ch v.now v.kind))

stands : {I : Type 0} (im : Images I) (list done : List LogEntry) (image : Option I) (e : Option LogEntry) (s : State) → s ≡ after (base_behind im image empty) (done_behind image e done) → s ≡ after empty (done_after list image e done) → StandsFor im list image
stands im list done None e s h k = tt
stands im list done (Some i) e s h k = after_none (im.shows i) ∙ sym h ∙ k

-- ---- members

abbrev Serves : Member → Type 0
Serves m = (x : Node) → m.node ≡ Some x → IsServing empty m.done x

abbrev Fold : Member → Type 0
Fold m = (x : Node) → m.node ≡ Some x → Folds m x

abbrev Follows : Member → Type 0
Follows m = Fold m → Serves m

set_follows : (b : Bool) (m o : Member) → Follows m → Serves o → Follows (cond b m o)
set_follows true m o f s = f
set_follows false m o f s = λ _. s

module _ {I : Type 0} (words : Words) (im : Images I) where
  step_follows : (ch : Choices) (x : Node) (v : NodeEvent (Mail I)) (m : Member) (list : List LogEntry) → Serves m → m.node ≡ Some x
      → Follows (stored_behind im m list (step words im ch x v) (step words im ch x v).records (Some (step words im ch x v).node) (done_after list (step words im ch x v).installed (step words im ch x v).applied m.done))
  step_follows ch x v m list serves there folds y e = let o = step words im ch x v in let now = serves x there in
      subst (λ z. IsServing empty (done_after list o.installed o.applied m.done) z) (same_value o.node y e)
      (steps_on I words im ch x v m.done list now (stands im list m.done o.installed o.applied o.node.state (state_from words im ch x v empty m.done now.replay) (folds o.node refl).committed))

  start_follows : (n k now : ℕ) (m : Member) → Follows (started n k m now)
  start_follows n k now m folds y e = let b = begun k n (m.boot + 1) now m.stored.held m.image in
      subst (λ z. IsServing empty m.stored.front z) (same_value b y e) (starts_on k n (m.boot + 1) now m.stored.held m.image m.stored.front (folds b refl).committed)

  abbrev AllServes : World I → Type 0
  AllServes w = (j : ℕ) → Serves (w.members j)

  abbrev AllFollow : World I → Type 0
  AllFollow w = (j : ℕ) → Follows (w.members j)

  same_follow : (w : World I) → AllServes w → AllFollow w
  same_follow w s j = λ _. s j

  did_follow : (w : World I) → AllServes w → (k : ℕ) (list : List LogEntry) (ch : Choices) (x : Node) (v : NodeEvent (Mail I)) → (w.members k).node ≡ Some x → (stop : Option ℕ) → AllFollow (did im w k list (step words im ch x v) stop)
  did_follow w s k list ch x v there None j = set_follows (nat_eq j k) _ (w.members j) (step_follows ch x v (w.members k) list (s k) there) (s j)
  did_follow w s k list ch x v there (Some i) j = set_follows (nat_eq j k) _ (w.members j) (λ folds y e. absurd (no_value y (sym e))) (s j)

  acted_follow : (w : World I) → AllServes w → (k : ℕ) (ch : Choices) (v : NodeEvent (Mail I)) (stop : Option ℕ) (u : Option Node) → (w.members k).node ≡ u → AllFollow (acted words im w k ch v stop u)
  acted_follow w s k ch v stop None there = same_follow w s
  acted_follow w s k ch v stop (Some x) there = did_follow w s k _ ch x v there stop

  heard_follow : (w : World I) → AllServes w → (m : Sent I) (ch : Choices) (now : ℕ) (stop : Option ℕ) (u : Option Node) → (w.members m.to).node ≡ u → AllFollow (heard_by words im w m ch now stop u)
  heard_follow w s m ch now stop None there = same_follow w s
  heard_follow w s m ch now stop (Some x) there = did_follow w s m.to m.list ch x (record { now = now; kind = kind.Deliver m.message }) there stop

  if_follow : (b : Bool) (u w : World I) → AllFollow u → AllFollow w → AllFollow (cond b u w)
  if_follow true u w f g = f
  if_follow false u w f g = g

  module _ (n : ℕ) where
    comes_follow : (w : World I) → AllServes w → (ch : Choices) (now : ℕ) (stop : Option ℕ) (o : Option (Sent I)) → AllFollow (heard words im n w ch now stop o)
    comes_follow w s ch now stop None = same_follow w s
    comes_follow w s ch now stop (Some m) = if_follow (is_member n m.to) _ w (heard_follow w s m ch now stop (w.members m.to).node refl) (same_follow w s)

    acts_follow : (w : World I) → AllServes w → (ch : Choices) (a : Act I) (stop : Option ℕ) → AllFollow (acts words im n w ch a stop)
    acts_follow w s ch (At k v) stop = if_follow (is_member n k) _ w (if_follow (is_own v.kind) _ w (acted_follow w s k ch v stop (w.members k).node refl) (same_follow w s)) (same_follow w s)
    acts_follow w s ch (Comes i now) stop = comes_follow w s ch now stop (slice_get w.sent i)

    happens_follow : (w : World I) → AllServes w → (e : Event I) → AllFollow (happens words im n w e)
    happens_follow w s (Does ch a) = acts_follow w s ch a None
    happens_follow w s (Tears ch a j) = acts_follow w s ch a (Some j)
    happens_follow w s (Starts k now) = λ j. set_follows (nat_eq j k) _ (w.members j) (start_follows n k now (w.members k)) (s j)

    run_append : (es fs : List (Event I)) (w : World I) → run words im n (es ++ fs) w ≡ run words im n fs (run words im n es w)
    run_append [] fs w = refl
    run_append (e ∷ es) fs w = run_append es fs (happens words im n w e)

    module _ (folded : (es : List (Event I)) → (k : ℕ) (x : Node) → ((world_after words im n es).members k).node ≡ Some x → Folds ((world_after words im n es).members k) x) where
      blank_serves : AllServes (blank n)
      blank_serves k y e = let b = begun k n 1 0 blank_held empty in subst (λ z. IsServing empty [] z) (same_value b y e) (starts_on k n 1 0 blank_held empty [] (after_none empty))

      serves_on : (before es : List (Event I)) → AllServes (world_after words im n before) → AllServes (run words im n es (world_after words im n before))
      serves_on before [] s = s
      serves_on before (e ∷ es) s = let w = world_after words im n before in let same = run_append before (e ∷ []) (blank n) in
          subst (λ u. AllServes (run words im n es u)) same (serves_on (before ++ e ∷ []) es
          (λ j. subst (λ u. Follows (u.members j)) (sym same) (happens_follow w s e j) (λ x there. folded (before ++ e ∷ []) j x there)))

      all_serve : (es : List (Event I)) → AllServes (world_after words im n es)
      all_serve es = serves_on [] es blank_serves

-- ---- a step of a world

set_same : (f : ℕ → Member) (k : ℕ) (m : Member) → set_at f k m k ≡ m
set_same f k m = ap (λ b. cond b m (f k)) (eq-eqb k k refl)

module _ {I : Type 0} (words : Words) (im : Images I) (n : ℕ) where
  record IsMade (w u : World I) (p : ℕ × Stepped I) : Type 0 where
    ch : Choices
    x : Node
    v : NodeEvent (Mail I)
    list : List LogEntry
    there : (w.members p.0).node ≡ Some x
    gives : p.1 ≡ step words im ch x v
    done : (u.members p.0).done ≡ done_after list p.1.installed p.1.applied (w.members p.0).done

  stepping_made : (w u : World I) (k : ℕ) (ch : Choices) (v : NodeEvent (Mail I)) (list : List LogEntry) (x : Node) (p : ℕ × Stepped I) → (w.members k).node ≡ Some x → u ≡ did im w k list (step words im ch x v) None → Some (k, step words im ch x v) ≡ Some p → IsMade w u p
  stepping_made w u k ch v list x p there same e = subst (IsMade w u) (same_value (k, step words im ch x v) p e) (record {
    ch = ch;
    x = x;
    v = v;
    list = list;
    there = there;
    gives = refl;
    done = ap (λ (z : World I). (z.members k).done) same ∙ ap (λ (m : Member). m.done) (set_same w.members k _);
  })

  acted_made : (w : World I) (k : ℕ) (ch : Choices) (v : NodeEvent (Mail I)) (u : Option Node) (p : ℕ × Stepped I) → (w.members k).node ≡ u → stepping words im n k ch v u ≡ Some p → IsMade w (acted words im w k ch v None u) p
  acted_made w k ch v None p there e = absurd (no_value p (sym e))
  acted_made w k ch v (Some x) p there e = stepping_made w _ k ch v _ x p there refl e

  heard_made : (w : World I) (m : Sent I) (ch : Choices) (now : ℕ) (u : Option Node) (p : ℕ × Stepped I) → (w.members m.to).node ≡ u → stepping words im n m.to ch (record { now = now; kind = kind.Deliver m.message }) u ≡ Some p → IsMade w (heard_by words im w m ch now None u) p
  heard_made w m ch now None p there e = absurd (no_value p (sym e))
  heard_made w m ch now (Some x) p there e = stepping_made w _ m.to ch (record { now = now; kind = kind.Deliver m.message }) m.list x p there refl e

  if_made : (b : Bool) (w u : World I) (o : Option (ℕ × Stepped I)) (p : ℕ × Stepped I) → (o ≡ Some p → IsMade w u p) → cond b o None ≡ Some p → IsMade w (cond b u w) p
  if_made true w u o p f e = f e
  if_made false w u o p f e = absurd (no_value p (sym e))

  comes_made : (w : World I) (ch : Choices) (now : ℕ) (o : Option (Sent I)) (p : ℕ × Stepped I) → hearing words im n w ch now o ≡ Some p → IsMade w (heard words im n w ch now None o) p
  comes_made w ch now None p e = absurd (no_value p (sym e))
  comes_made w ch now (Some m) p e = if_made (is_member n m.to) w _ _ p (heard_made w m ch now (w.members m.to).node p refl) e

  made : (w : World I) (e : Event I) (p : ℕ × Stepped I) → makes words im n w e ≡ Some p → IsMade w (happens words im n w e) p
  made w (Does ch (At k v)) p e = if_made (is_member n k) w _ _ p (λ f. if_made (is_own v.kind) w _ _ p (acted_made w k ch v (w.members k).node p refl) f) e
  made w (Does ch (Comes i now)) p e = comes_made w ch now (slice_get w.sent i) p e
  made w (Tears ch a j) p e = absurd (no_value p (sym e))
  made w (Starts k now) p e = absurd (no_value p (sym e))

  -- the entries on which it answers are those that the member has applied behind the step, or before it
  told_list : (list done : List LogEntry) (image : Option I) (e : Option LogEntry) → (image ≡ None) ⊎ (e ≡ None) → (done_by e done ≡ done_after list image e done) ⊎ (done_by e done ≡ done)
  told_list list done image e (inl h) = inl (ap (λ z. done_after list z e done) (sym h))
  told_list list done image e (inr h) = inr (ap (λ z. done_by z done) h)

  abbrev Alike : List LogEntry → List LogEntry → Type 0
  Alike xs ys = IsPrefix xs ys ⊎ IsPrefix ys xs

  alike_told : (w u : World I) (k : ℕ) (done now es : List LogEntry) → (done ≡ (u.members k).done) ⊎ (done ≡ (w.members k).done) → Alike (u.members k).done es → Alike (w.members k).done es → Alike done es
  alike_told w u k done now es (inl e) f g = subst (λ z. Alike z es) (sym e) f
  alike_told w u k done now es (inr e) f g = subst (λ z. Alike z es) (sym e) g

  either_list : (a b c : List LogEntry) → (a ≡ b) ⊎ (a ≡ c) → (d : List LogEntry) → d ≡ b → (a ≡ d) ⊎ (a ≡ c)
  either_list a b c (inl h) d e = inl (h ∙ sym e)
  either_list a b c (inr h) d e = inr h

  -- a step whose entries are like those of a member keeps to what that has applied
  keeps_to : (w : World I) → AllServes words im w → (e : Event I) (k : ℕ) (o : Stepped I) → makes words im n w e ≡ Some (k, o) → (z : World I) → HaveOneList w z → HaveOneList (happens words im n w e) z → KeepTo o z
  keeps_to w s e k o made_by z f g j c = let m = made w e (k, o) made_by in let a = step words im m.ch m.x m.v in let done = (w.members k).done in
      let which = either_list (done_by a.applied done) (done_after m.list a.installed a.applied done) done (told_list m.list done a.installed a.applied (image_or_entry words im m.ch m.x m.v)) ((happens words im n w e).members k).done
      (m.done ∙ ap (λ (q : Stepped I). done_after m.list q.installed q.applied done) m.gives) in
      subst (λ (q : Stepped I). AllByRecursion (λ t. KeepsTo (z.members j).done t) (q.told c)) (sym m.gives)
      (answers_keep I words im m.ch m.x m.v done (z.members j).done (s k m.x m.there) (alike_told w (happens words im n w e) k (done_by a.applied done) [] (z.members j).done which (g k j) (f k j)) c)

flip : {I : Type 0} (v w : World I) → HaveOneList v w → HaveOneList w v
flip v w h j k = by (h k j) where
  by : IsPrefix (v.members k).done (w.members j).done ⊎ IsPrefix (w.members j).done (v.members k).done → IsPrefix (w.members j).done (v.members k).done ⊎ IsPrefix (v.members k).done (w.members j).done
  by (inl p) = inr p
  by (inr p) = inl p

module _ (I : Type 0) (one : OneList I) (fold : StatesFold I) where
  pub answers_keep_later : AnswersKeepLater I
  answers_keep_later words im faithful n events later e k o m = let w = world_after words im n events in let z = run words im n later (happens words im n w e) in
      keeps_to words im n w (all_serve words im n (fold words im faithful n) events) e k o m z (one words im faithful n events (e ∷ later))
      (subst (λ u. HaveOneList u (run words im n later u)) (run_append words im n events (e ∷ []) (blank n)) (one words im faithful n (events ++ e ∷ []) later))

  pub answers_keep_earlier : AnswersKeepEarlier I
  answers_keep_earlier words im faithful n events more e k o m = let v = world_after words im n events in let w = run words im n more v in
      keeps_to words im n w (subst (AllServes words im) (run_append words im n events more (blank n)) (all_serve words im n (fold words im faithful n) (events ++ more))) e k o m v
      (flip v w (one words im faithful n events more))
      (flip v (happens words im n w e) (subst (HaveOneList v) (run_append words im n more (e ∷ []) v) (one words im faithful n events (more ++ e ∷ []))))
