-- A step that gives up none is the one in which nothing runs out.
use Rattle.std.proofs.Common.{◌≡◌, ℕ, suc, ◌+◌, ◌≤◌, Bool, true, false, cond, ◌&&◌, List, [], ◌∷◌, length, drop, Option, Some, None, refl, ap, sym, subst, ◌∙◌, arith}
use Rattle.std.proofs.lemmas.Bool.{ltb-false, le-ltb}
use Rattle.std.proofs.lemmas.List.{length-drop}
use Rattle.std.specs.Prelude.{if◌then◌else◌, nat_lt, nat_eq, max, min, not, ◌-◌}
use Rattle.std.specs.Ordering.{nat_cmp}
use Rattle.std.specs.FinMap as map
use Rattle.kp_model.specs.LogEntry.{LogEntry}
use Rattle.kp_entry.specs.Log.{Log}
use Rattle.kp_entry.specs.Held.{Held}
use Rattle.kp_raft.specs.declared.append.AppendMail.{AppendMail}
use Rattle.kp_raft.specs.declared.append.Weighed.{Weighed}
use Rattle.kp_raft.specs.declared.mail.Mail.{Mail}
use Rattle.kp_raft.specs.declared.mail.Mail.TheVariants as mail
use Rattle.kp_raft.specs.Appends.{agreeing, below_base, matched, clashes, fits}
use Rattle.kp_raft.specs.Parts as raft
use Rattle.kp_raft.specs.Parts.{Running}
use Rattle.kp_raft.specs.Steps.{passes_append, weighed}
use Rattle.kp_event.specs.declared.event.NodeEvent.{NodeEvent}
use Rattle.kp_event.specs.declared.event.NodeEventKind.{NodeEventKind}
use Rattle.kp_event.specs.declared.event.NodeEventKind.TheVariants as kind
use Rattle.kp_step.specs.Choices.{Choices}
use Rattle.kp_step.specs.Node.{Node, Images}
use Rattle.kp_step.specs.Applying.{upcoming}
use Rattle.kp_step.specs.Asking.{Words, Input, appends, reacted, installed, asked, is_taken, entries_taken, append_taken, cut_at, cut_of}
use Rattle.kp_step.specs.Step.{Stepped, Turn, step, step_with, together, turned, count_lost}
use Rattle.kp_step.specs.Runs.{run, with_step, at_start, begun}
use Rattle.kp_step.proofs.Tables.{not_some}
use Rattle.kp_ample.specs.Ample.{ample, NoneIsLost, KeepsAll, GivesUpNone, amply, StepsAreAmple, AmpleGivesUpNone, RunsAreAmple, StepsAreAlike, StartedRunsAreAmple, RunKeepsAll, AmpleRunsGiveUpNone}
use Rattle.kp_ample.proofs.Gone.{given_up, is_gone}
use Rattle.kp_ample.proofs.Counts.{test_at, NoneAre, none_up, none_lost}
use Rattle.kp_ample.proofs.Tables.{none_gone}
use Rattle.kp_ample.proofs.Turns.{client_inputs, commit_inputs, turned_fits}

-- ---- an append that is taken whole

agree_by : (b : Bool) (r n : ℕ) → r ≤ n → cond b (suc r) 0 ≤ suc n
agree_by true r n h = omega (arith, h)
agree_by false r n h = omega arith

agreeing_within : (xs ys : List LogEntry) → agreeing xs ys ≤ length ys
agreeing_within [] ys = omega arith
agreeing_within (x ∷ xs) [] = omega arith
agreeing_within (x ∷ xs) (y ∷ ys) = agree_by (nat_eq x.term y.term) (agreeing xs ys) (length ys) (agreeing_within xs ys)

matched_within : (log : Log) (prev : ℕ) (es : List LogEntry) → matched log prev es ≤ length es
matched_within log prev es =
    let k : ℕ = below_base log prev es in
    let agreed : _ ≤ length (drop k es) = agreeing_within (Rattle.kp_entry.specs.Log.behind log (prev + k)) (drop k es) in
    omega (arith, agreed, length-drop k es)

pick : {A : Type 0} (P : A → Type 0) (b : Bool) (x y : A) → P x → P y → P (cond b x y)
pick P true x y p q = p
pick P false x y p q = q

weighed_within : (n me : ℕ) (h : Held) (v : Running) (m : AppendMail) → (weighed n me h v m).matched ≤ length m.entries
weighed_within n me h v m = pick (λ (w : Weighed). w.matched ≤ length m.entries) (passes_append n me m) _ _
    (pick (λ (w : Weighed). w.matched ≤ length m.entries) (not (nat_lt m.term h.term) && fits h.log m.prev m.prev_term) _ _
    (pick (λ (w : Weighed). w.matched ≤ length m.entries) (clashes h.log m.prev m.entries v.commit) _ _ (omega arith) (matched_within h.log m.prev m.entries))
    (omega arith)) (omega arith)

taken_by : (b : Bool) (a r n : ℕ) → a ≤ n → n ≤ (if b then max a (min r n) else n) → (if b then max a (min r n) else n) ≡ n
taken_by true a r n h k = omega (arith, h, k)
taken_by false a r n h k = refl

all_taken : (room : Option ℕ) (n : ℕ) (w : Weighed) → w.matched ≤ n → n ≤ entries_taken room n w → entries_taken room n w ≡ n
all_taken None n w h k = refl
all_taken (Some r) n w h k = taken_by (is_taken w.kind) w.matched r n h k

uncut_by : (b : Bool) (j : ℕ) → (if b then Some j else None) ≡ None → b ≡ false
uncut_by true j h = absurd (not_some h)
uncut_by false j h = refl

whole : (room : Option ℕ) (x : Node) (m : AppendMail) → cut_at (append_taken room x m) (length m.entries) ≡ None → append_taken room x m ≡ length m.entries
whole room x m h = all_taken room (length m.entries) (weighed x.members x.me x.held x.running m) (weighed_within x.members x.me x.held x.running m)
    (ltb-false (append_taken room x m) (length m.entries) (uncut_by (nat_lt (append_taken room x m) (length m.entries)) (append_taken room x m) h))

never_cut : (n : ℕ) → cut_at n n ≡ None
never_cut n = ap (λ b. if b then Some n else None) (le-ltb n n (omega arith))

-- ---- how many are given up

none_left : (old new : ℕ) → old ≡ 0 → new - old ≡ 0 → new ≡ 0
none_left old new e h = omega (arith, e, h)

none_more : (old new : ℕ) → new ≡ 0 → new - old ≡ 0
none_more old new e = omega (arith, e)

module _ {I : Type 0} where
  mail_uncut : (x : Node) (m : Mail I) → cut_of None x (kind.Deliver m) ≡ None
  mail_uncut x (mail.VoteReq term from end end_term) = refl
  mail_uncut x (mail.VoteRep term from granted) = refl
  mail_uncut x (mail.Append m) = never_cut (length m.entries)
  mail_uncut x (mail.AppendRep term from ok end heard) = refl
  mail_uncut x (mail.Install term from index index_term image) = refl
  mail_uncut x (mail.InstallRep term from index) = refl
  mail_uncut x (mail.Forward term from b) = refl

  uncut : (x : Node) (v : NodeEventKind (Mail I)) → cut_of None x v ≡ None
  uncut x (kind.Accept draw) = refl
  uncut x (kind.Client k bytes) = refl
  uncut x (kind.Hangup k) = refl
  uncut x (kind.Drain k) = refl
  uncut x (kind.Deliver m) = mail_uncut x m
  uncut x kind.Timeout = refl
  uncut x kind.Beat = refl
  uncut x kind.CommitOne = refl
  uncut x kind.ExpireDue = refl
  uncut x kind.Snapshot = refl

  -- ---- what Raft is asked

  module _ (words : Words) (im : Images I) (ch : Choices) (x : Node) (now : ℕ) where
    mail_alike : (m : Mail I) → cut_of ch.room x (kind.Deliver m) ≡ None → asked words im ch x now (kind.Deliver m) ≡ asked words im ample x now (kind.Deliver m)
    unfolding asked
    mail_alike (mail.VoteReq term from end end_term) h = refl
    mail_alike (mail.VoteRep term from granted) h = refl
    mail_alike (mail.Append m) h = ap (appends m) (whole ch.room x m h)
    mail_alike (mail.AppendRep term from ok end heard) h = refl
    mail_alike (mail.Install term from index index_term image) h = refl
    mail_alike (mail.InstallRep term from index) h = refl
    mail_alike (mail.Forward term from b) h = refl

    asked_alike : (o : raft.Outcome I) (image : Option I) (v : NodeEventKind (Mail I)) → cut_of ch.room x v ≡ None → NoneAre is_gone (turned words im ch x now o image v).node.seats → asked words im ch x now v ≡ asked words im ample x now v
    unfolding asked turned
    asked_alike o image (kind.Accept draw) h g = refl
    asked_alike o image (kind.Client k bytes) h g = client_inputs words ch x now k bytes (map.get x.seats k) g
    asked_alike o image (kind.Hangup k) h g = refl
    asked_alike o image (kind.Drain k) h g = refl
    asked_alike o image (kind.Deliver m) h g = mail_alike m h
    asked_alike o image kind.Timeout h g = refl
    asked_alike o image kind.Beat h g = refl
    asked_alike o image kind.CommitOne h g = commit_inputs ch x now (upcoming x) g
    asked_alike o image kind.ExpireDue h g = refl
    asked_alike o image kind.Snapshot h g = refl

  -- ---- the step

  cut_same : (im : Images I) (ch : Choices) (x : Node) (v : NodeEventKind (Mail I)) (o : raft.Outcome I) (image : Option I) (t : Turn) → cut_of ch.room x v ≡ None → together im ch x v o image t ≡ together im ample x v o image t
  unfolding together
  cut_same im ch x v o image t h i = record (together im ample x v o image t) { cut = (h ∙ sym (uncut x v)) i }

  turns_alike : (words : Words) (im : Images I) (ch : Choices) (x : Node) (v : NodeEvent (Mail I)) (o : raft.Outcome I) (image : Option I) → cut_of ch.room x v.kind ≡ None → NoneAre is_gone (turned words im ch x v.now o image v.kind).node.seats
      → together im ch x v.kind o image (turned words im ch x v.now o image v.kind) ≡ together im ample x v.kind o image (turned words im ample x v.now o image v.kind)
  turns_alike words im ch x v o image h g = ap (together im ch x v.kind o image) ((turned_fits words im ch x v.now o image v.kind).alike g) ∙ cut_same im ch x v.kind o image (turned words im ample x v.now o image v.kind) h

  with_alike : (words : Words) (im : Images I) (ch : Choices) (x : Node) (v : NodeEvent (Mail I)) (input : Input I) → asked words im ch x v.now v.kind ≡ input → NoneIsLost x.seats → GivesUpNone (step_with words im ch x v input)
      → step_with words im ch x v input ≡ step_with words im ample x v (asked words im ample x v.now v.kind)
  unfolding together
  with_alike words im ch x v input e none up =
      let t : Turn = turned words im ch x v.now (reacted x input) (installed x input) v.kind in
      let gone : NoneAre is_gone t.node.seats = none_gone t.node.seats (none_up t.node.seats (none_left (count_lost x.seats) (count_lost t.node.seats) none up.none)) in
      turns_alike words im ch x v (reacted x input) (installed x input) up.whole gone
      ∙ ap (step_with words im ample x v) (sym e ∙ asked_alike words im ch x v.now (reacted x input) (installed x input) v.kind up.whole gone)

pub steps_are_ample : (I : Type 0) → StepsAreAmple I
unfolding step
steps_are_ample I words im ch x v none up = with_alike words im ch x v (asked words im ch x v.now v.kind) refl none up

pub ample_gives_up_none : (I : Type 0) → AmpleGivesUpNone I
unfolding step together
ample_gives_up_none I words im x v none =
    let input : Input I = asked words im ample x v.now v.kind in
    let t : Turn = turned words im ample x v.now (reacted x input) (installed x input) v.kind in
    let safe : NoneIsLost t.node.seats = none_lost t.node.seats ((turned_fits words im ample x v.now (reacted x input) (installed x input) v.kind).safe (none_up x.seats none)) in
    record { gives_up = record { whole = uncut x v.kind; none = none_more (count_lost x.seats) (count_lost t.node.seats) safe }; behind = safe }

pub runs_are_ample : (I : Type 0) → RunsAreAmple I
unfolding run
runs_are_ample I words im r [] none up = refl
runs_are_ample I words im r (e ∷ es) none up =
    let same : step words im e.0 r.node e.1 ≡ step words im ample r.node e.1 = steps_are_ample I words im e.0 r.node e.1 none up.0 in
    let left : NoneIsLost (step words im e.0 r.node e.1).node.seats = subst (λ (o : Stepped I). NoneIsLost o.node.seats) (sym same) (ample_gives_up_none I words im r.node e.1 none).behind in
    runs_are_ample I words im (with_step im r (step words im e.0 r.node e.1)) es left up.1
    ∙ ap (λ (o : Stepped I). run words im (with_step im r o) (amply es)) same

pub steps_are_alike : (I : Type 0) → StepsAreAlike I
steps_are_alike I words im ch other x v none up too = steps_are_ample I words im ch x v none up ∙ sym (steps_are_ample I words im other x v none too)

none_at_first : NoneIsLost (map.empty {R = nat_cmp})
none_at_first = none_lost map.empty (λ k. ap (test_at given_up) (map.get-empty nat_cmp k))

pub started_runs_are_ample : (I : Type 0) → StartedRunsAreAmple I
started_runs_are_ample I words im me members boot now held s es up = runs_are_ample I words im (at_start (begun me members boot now held s)) es none_at_first up

pub ample_runs_give_up_none : (I : Type 0) → AmpleRunsGiveUpNone I
unfolding run
ample_runs_give_up_none I words im r [] none = record { gives_up = tt; behind = none }
ample_runs_give_up_none I words im r (e ∷ es) none =
    let one : KeepsAll (step words im ample r.node e.1) = ample_gives_up_none I words im r.node e.1 none in
    let more : RunKeepsAll words im (with_step im r (step words im ample r.node e.1)) es = ample_runs_give_up_none I words im (with_step im r (step words im ample r.node e.1)) es one.behind in
    record { gives_up = (one.gives_up, more.gives_up); behind = more.behind }
