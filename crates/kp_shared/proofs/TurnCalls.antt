-- What the calls that make a turn tell, from what their callees tell.
use Rattle.std.proofs.Common.{◌≡◌, ◌⊎◌, inl, inr, ℕ, List, [], ◌∷◌, ◌++◌, sym, refl, ap, ◌∙◌, subst, append_assoc}
use Rattle.std.specs.Prelude.{true, false, MatchResult, Result, Ok, Err}
use Rattle.kp_turn.specs.TurnSeats.{view}
use Rattle.kp_event.specs.declared.event.NodeEventKind.{NodeEventKind}
use Rattle.kp_event.specs.declared.event.NodeEventKind.TheVariants as kind
use Rattle.kp_event.specs.declared.thought.Thought.{Thought}
use Rattle.kp_shared.specs.Letters.{Letter}
use Rattle.kp_shared.specs.declared.plan.Step.{Step}
use Rattle.kp_shared.specs.declared.plan.Step.TheVariants as step
use Rattle.kp_shared.specs.declared.refusal.Refusal.{Refusal}
use Rattle.kp_shared.specs.declared.turns.Glance.{Glance}
use Rattle.kp_shared.specs.declared.task.Task.TheVariants as task
use Rattle.kp_shared.specs.declared.task.Answer.TheVariants as answer
use Rattle.kp_shared.specs.Tasks.{Did, Each, InTime, IsThink, Went, finds_none, thoughts_in, waiting}
use Rattle.kp_shared.specs.Plans.{Goes, IsMore, IsOne, Part, Stops, Takes}
use Rattle.kp_shared.specs.Nodes.{Breaks, FlushTells, Opens, ThinkTells, TurnSeatIn}
use Rattle.kp_shared.specs.Turns.{KeepTells, MoreTells, OneTells, PlanTells, StepTells, TurnBroken, TurnDone}
use Rattle.kp_shared.proofs.Lists.{append_nil, does_both, each_both, flushed_both, thoughts_both, waiting_both}
use Rattle.kp_shared.proofs.Turning.{breaks_behind, breaks_one, goes_more, opens_both, opens_none, opens_one, stops_at}

module _ {M : Type 0} where
  grown : (b b' b'' : List (Thought (Letter M))) (ds es : List (Did M)) → b' ≡ b ++ thoughts_in ds → b'' ≡ b' ++ thoughts_in es → b'' ≡ b ++ thoughts_in (ds ++ es)
  grown b b' b'' ds es e f = f ∙ ap (λ (l : List (Thought (Letter M))). l ++ thoughts_in es) e ∙ append_assoc b (thoughts_in ds) (thoughts_in es)
      ∙ ap (λ (l : List (Thought (Letter M))). b ++ l) (sym (thoughts_both ds es))

module _ {S M : Type 0} (may : ℕ → Type 0) where
  -- commits so far, none of which is known to be the last
  abbrev pub CommitsSoFar : List (Thought (Letter M)) → List (Thought (Letter M)) → TurnSeatIn S M → TurnSeatIn S M → Type 0
  CommitsSoFar b b' s s' = (ds : List (Did M)) × (b' ≡ b ++ thoughts_in ds) × Each IsMore ds × Opens may (view s) (view s') ds

  -- steps so far
  abbrev pub StepsSoFar : List (Thought (Letter M)) → List (Thought (Letter M)) → TurnSeatIn S M → TurnSeatIn S M → List (Step M) → Type 0
  StepsSoFar b b' s s' done = (ds : List (Did M)) × (b' ≡ b ++ thoughts_in ds) × Goes done ds × Opens may (view s) (view s') ds

  -- a step that was cut
  abbrev pub StepHalts : TurnSeatIn S M → TurnSeatIn S M → Step M → Refusal → Type 0
  StepHalts s s' p r = (ds : List (Did M)) × Part p ds × Breaks may (view s) (view s') r ds

  -- a step that was done
  abbrev pub StepWent : List (Thought (Letter M)) → List (Thought (Letter M)) → TurnSeatIn S M → TurnSeatIn S M → Step M → Type 0
  StepWent b b' s s' p = (ds : List (Did M)) × (b' ≡ b ++ thoughts_in ds) × Takes p ds × Opens may (view s) (view s') ds

  think_breaks : (k : NodeEventKind M) (r : Refusal) (s s' : TurnSeatIn S M) (P : List (Did M) → Type 0) → P [] → ((d : Did M) → IsThink k d → finds_none d ≡ false → P (d ∷ []))
      → ThinkTells may k (Err r) s s' → (ds : List (Did M)) × P ds × Breaks may (view s) (view s') r ds
  think_breaks k r s s' P none one x = breaks_one may (view s) (view s') (λ now. task.Think record { now = now; kind = k }) may r P (λ now f ok. ok) none
      (λ now f. one (task.Think record { now = now; kind = k }, Err f) refl refl) x

  pub commits_none : (b : List (Thought (Letter M))) (s : TurnSeatIn S M) → CommitsSoFar b b s s
  commits_none b s = ([], sym (append_nil b), tt, opens_none may (view s))

  pub commits_go : (b b' b'' : List (Thought (Letter M))) (s s' s'' : TurnSeatIn S M) (g : Glance) → CommitsSoFar b b' s s' → MoreTells may b' b'' s' s'' kind.CommitOne (Ok g) → g.none_left ≡ false
      → CommitsSoFar b b'' s s''
  commits_go b b' b'' s s' s'' g c m e =
      let k : NodeEventKind M = kind.CommitOne in
      let d : Did M = (task.Think record { now = m.3.0; kind = k }, Ok (answer.Thought m.0)) in (
        c.0 ++ d ∷ [],
        grown b b' b'' c.0 (d ∷ []) c.1 m.1,
        each_both IsMore c.0 (d ∷ []) c.2 ((refl, sym m.2 ∙ e), tt),
        opens_both may (view s) (view s') (view s'') c.0 (d ∷ []) c.3 (opens_one may (view s') (view s'') k m.0 m.3.0 m.3.1 m.3.2 m.3.3),
      )

  pub commits_end : (b b' b'' : List (Thought (Letter M))) (s s' s'' : TurnSeatIn S M) (g : Glance) → CommitsSoFar b b' s s' → MoreTells may b' b'' s' s'' kind.CommitOne (Ok g) → g.none_left ≡ true
      → StepWent b b'' s s'' step.Commits
  commits_end b b' b'' s s' s'' g c m e =
      let k : NodeEventKind M = kind.CommitOne in
      let d : Did M = (task.Think record { now = m.3.0; kind = k }, Ok (answer.Thought m.0)) in (
        c.0 ++ d ∷ [],
        grown b b' b'' c.0 (d ∷ []) c.1 m.1,
        (c.0, d, refl, c.2, refl, sym m.2 ∙ e),
        opens_both may (view s) (view s') (view s'') c.0 (d ∷ []) c.3 (opens_one may (view s') (view s'') k m.0 m.3.0 m.3.1 m.3.2 m.3.3),
      )

  pub commits_halt : (b b' b'' : List (Thought (Letter M))) (s s' s'' : TurnSeatIn S M) (r : Refusal) → CommitsSoFar b b' s s' → ThinkTells may kind.CommitOne (Err r) s' s''
      → StepHalts s s'' step.Commits r
  commits_halt b b' b'' s s' s'' r c m =
      let x = think_breaks kind.CommitOne r s' s'' (λ es. Each IsMore es) tt (λ d is none. ((is, none), tt)) m in
      (c.0 ++ x.0, each_both IsMore c.0 x.0 c.2 x.1, breaks_behind may (view s) (view s') (view s'') c.0 x.0 r c.3 x.2)

  -- one event was refused
  pub event_refused : (s s' : TurnSeatIn S M) (k : NodeEventKind M) (r : Refusal) → ThinkTells may k (Err r) s s' → StepHalts s s' (step.Event k) r
  event_refused s s' k r m = think_breaks k r s s' (λ es. (es ≡ []) ⊎ IsOne k es) (inl refl) (λ d is none. inr (d, refl, is)) m

  -- a step that may be left out
  pub maybe_commits : {A : Type 0} (b b' : List (Thought (Letter M))) (s s' : TurnSeatIn S M) (r : Result A Refusal) → StepTells may b b' s s' step.Commits r → StepTells may b b' s s' step.MaybeCommits r
  maybe_commits b b' s s' (Ok a) m = (m.0, m.1, inr m.2, m.3)
  maybe_commits b b' s s' (Err r) m = m

  pub maybe_beat : {A : Type 0} (b b' : List (Thought (Letter M))) (s s' : TurnSeatIn S M) (r : Result A Refusal) → StepTells may b b' s s' (step.Event kind.Beat) r → StepTells may b b' s s' step.MaybeBeat r
  maybe_beat b b' s s' (Ok a) m = (m.0, m.1, inr m.2, m.3)
  maybe_beat b b' s s' (Err r) m = m

  pub left_out : (b : List (Thought (Letter M))) (s : TurnSeatIn S M) (P : List (Did M) → Type 0) → P [] → (ds : List (Did M)) × (b ≡ b ++ thoughts_in ds) × P ds × Opens may (view s) (view s) ds
  left_out b s P none = ([], sym (append_nil b), none, opens_none may (view s))

  -- one step more of a plan
  pub steps_go : (b b' b'' : List (Thought (Letter M))) (s s' s'' : TurnSeatIn S M) (done : List (Step M)) (p : Step M) → StepsSoFar b b' s s' done → StepWent b' b'' s' s'' p
      → StepsSoFar b b'' s s'' (done ++ p ∷ [])
  steps_go b b' b'' s s' s'' done p c m = (c.0 ++ m.0, grown b b' b'' c.0 m.0 c.1 m.1, goes_more done p c.0 m.0 c.2 m.2, opens_both may (view s) (view s') (view s'') c.0 m.0 c.3 m.3)

  pub steps_halt : (b b' b'' : List (Thought (Letter M))) (s s' s'' : TurnSeatIn S M) (done rest plan : List (Step M)) (p : Step M) (r : Refusal) → done ++ p ∷ rest ≡ plan → StepsSoFar b b' s s' done
      → StepHalts s' s'' p r → PlanTells may b b'' s s'' plan (Err r)
  steps_halt b b' b'' s s' s'' done rest plan p r e c m = (
    c.0 ++ m.0,
    subst (λ (l : List (Step M)). Stops l (c.0 ++ m.0)) e (stops_at done p rest c.0 m.0 c.2 m.1),
    breaks_behind may (view s) (view s') (view s'') c.0 m.0 r c.3 m.2,
  )

  -- thinks that went, and a flush that was Ok
  pub whole_turn : (s s' s'' : TurnSeatIn S M) (ps : List (Step M)) (ds : List (Did M)) (n : ℕ) → Goes ps ds → Opens may (view s) (view s') ds → FlushTells (Ok n) s' s'' → TurnDone may s s'' ps (thoughts_in ds)
  whole_turn s s' s'' ps ds n g o f = let last : List (Did M) = (task.Flush, Ok (answer.Kept n)) ∷ [] in (
    ds ++ last,
    (
      (ds, n, refl, g),
      record {
        does = does_both (view s) (view s') (view s'') ds last o.does f;
        times = each_both (InTime may) ds last o.times (tt, tt);
        went = each_both Went ds last o.went (tt, tt);
        leaves = flushed_both [] ds last ∙ ap (λ (l : List (Thought (Letter M))). l ++ (waiting [] ds ++ [])) (o.still []) ∙ append_nil (waiting [] ds) ∙ o.held [];
        settled = waiting_both [] ds last;
      },
    ),
  )

  -- thinks that went, and a flush that was refused
  pub unkept_turn : (s s' s'' : TurnSeatIn S M) (ps : List (Step M)) (ds : List (Did M)) (r : Refusal) → Goes ps ds → Opens may (view s) (view s') ds → FlushTells (Err r) s' s'' → TurnBroken may s s'' ps r
  unkept_turn s s' s'' ps ds r g o f =
      let x = breaks_one may (view s') (view s'') (λ _. task.Flush) (λ _. Unit {0}) r (λ es. (es ≡ []) ⊎ ((d : Did M) × (es ≡ d ∷ []) × (d.0 ≡ task.Flush))) (λ now f0 ok. tt) (inl refl)
      (λ now f0. inr ((task.Flush, Err f0), refl, refl)) f in
      (ds ++ x.0, (inr (ds, x.0, refl, g, x.1), breaks_behind may (view s) (view s') (view s'') ds x.0 r o x.2))

  -- a turn, as its flush was answered
  pub turn_ends : {A : Type 0} (items : A → List (Thought (Letter M))) (b : List (Thought (Letter M))) (s s' s'' : TurnSeatIn S M) (ps : List (Step M)) (vec : A) (r : Result A Refusal) → b ≡ [] → PlanTells may b (items vec) s s' ps (Ok tt)
      → KeepTells vec r s' s'' → MatchResult r (λ kept. TurnDone may s s'' ps (items kept)) (λ e. TurnBroken may s s'' ps e)
  turn_ends items b s s' s'' ps vec (Ok kept) e o f = subst (λ (l : List (Thought (Letter M))). TurnDone may s s'' ps l) (sym (o.1 ∙ ap (λ (l : List (Thought (Letter M))). l ++ thoughts_in o.0) e) ∙ ap items (sym f.0)) (whole_turn s s' s'' ps o.0 f.1 o.2 o.3 f.2)
  turn_ends items b s s' s'' ps vec (Err r) e o f = unkept_turn s s' s'' ps o.0 r o.2 o.3 f

  -- one event, as its flush was answered
  pub one_kept : (s s' s'' : TurnSeatIn S M) (k : NodeEventKind M) (t : Thought (Letter M)) (r : Result (Thought (Letter M)) Refusal) → ThinkTells may k (Ok t) s s' → KeepTells t r s' s'' → OneTells may s s'' k r
  one_kept s s' s'' k t (Ok u) h f = subst (λ (x : Thought (Letter M)). OneTells may s s'' k (Ok x)) (sym f.0) (
    h.0,
    f.1,
    h.1,
    h.2,
    does_both (view s) (view s') (view s'') ((task.Think record { now = h.0; kind = k }, Ok (answer.Thought t)) ∷ []) ((task.Flush, Ok (answer.Kept f.1)) ∷ []) h.3 f.2,
  )
  one_kept s s' s'' k t (Err r) h f =
      let d : Did M = (task.Think record { now = h.0; kind = k }, Ok (answer.Thought t)) in
      unkept_turn s s' s'' (step.Event k ∷ []) (d ∷ []) r (d ∷ [], [], refl, (d, refl, refl), refl) (opens_one may (view s) (view s') k t h.0 h.1 h.2 h.3) f

  pub one_refused : (s s' : TurnSeatIn S M) (k : NodeEventKind M) (r : Refusal) → ThinkTells may k (Err r) s s' → OneTells may s s' k (Err r)
  one_refused s s' k r m = let x = event_refused s s' k r m in (x.0, (inl ([], step.Event k, [], [], x.0, refl, refl, refl, x.1), x.2))
