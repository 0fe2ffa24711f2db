-- One turn of a connection's worker, from its parts.
use Rattle.std.proofs.Common.{◌≡◌, inl, inr, ℕ, List, [], ◌∷◌, ◌++◌, sym, refl, ap, ◌∙◌, subst, ⊎_elim, append_assoc}
use Rattle.std.specs.Prelude.{Bool, true, false, Option, Some, None, Result, Ok, Err}
use Rattle.kp_turn.specs.TurnSeats.{view}
use Rattle.kp_event.specs.declared.event.NodeEventKind.{NodeEventKind}
use Rattle.kp_event.specs.declared.event.NodeEventKind.TheVariants as kind
use Rattle.kp_event.specs.declared.fail.KeptFail.TheVariants as fail
use Rattle.kp_event.specs.declared.thought.Thought.{Thought}
use Rattle.kp_shared.specs.Letters.{Letter}
use Rattle.kp_shared.specs.declared.plan.Step.{Step}
use Rattle.kp_shared.specs.declared.plan.Step.TheVariants as step
use Rattle.kp_shared.specs.declared.refusal.Refusal.{Refusal}
use Rattle.kp_shared.specs.declared.refusal.Refusal.TheVariants as refusal
use Rattle.kp_shared.specs.declared.task.Task.TheVariants as task
use Rattle.kp_shared.specs.declared.task.Answer.TheVariants as answer
use Rattle.kp_shared.specs.Tasks.{Did, Each, InTime, Went, flushed, thoughts_in, waiting}
use Rattle.kp_shared.specs.Plans.{Goes}
use Rattle.kp_shared.specs.Nodes.{Breaks, Causes, Opens, TurnSeatIn, TurnWhole, ViewIn}
use Rattle.kp_shared.specs.Turns.{OneTells, PlanTells, TurnBroken, TurnDone}
use Rattle.kp_shared.proofs.Lists.{append_nil, does_both, does_none, each_both, flushed_both, waiting_both}
use Rattle.kp_shared.proofs.Turning.{breaks_behind, cut_behind, cut_none, goes_more, opens_none}
use Rattle.kp_dispatch.specs.declared.rounds.Round.{Round}
use Rattle.kp_dispatch.specs.Ends.{IsUntornRefusal}
use Rattle.kp_dispatch.specs.Plans.{front_plan, round_plan, tick_plan}
use Rattle.kp_dispatch.specs.Rounds.{BehindTells, FrontTells, IsQuiet, RoundTells}
use Rattle.kp_dispatch.proofs.Quiet.{front_quiet}

module _ {S M : Type 0} (may : ℕ → Type 0) where
  -- memory ran out before the first task
  nothing : (v : ViewIn S M) → Breaks may v v (refusal.Failed fail.NoMemory) []
  nothing v = record { does = does_none v; times = tt; stays = λ p. refl; cause = inr (inr (refl, tt)) }

  pub plan_none : (s : TurnSeatIn S M) (k : NodeEventKind M) (ps : List (Step M)) → TurnBroken may s s (step.Event k ∷ ps) (refusal.Failed fail.NoMemory)
  plan_none s k ps = ([], (cut_none (step.Event k) ps (inl refl), nothing (view s)))

  pub front_none : (conn : ℕ) (p : Option (List ℕ)) (s : TurnSeatIn S M) → TurnBroken may s s (round_plan conn p) (refusal.Failed fail.NoMemory)
  front_none conn None s = plan_none s (kind.Drain conn) []
  front_none conn (Some bytes) s = plan_none s (kind.Client conn bytes) (step.MaybeCommits ∷ step.MaybeBeat ∷ step.Event (kind.Drain conn) ∷ [])

  pub tick_none : (timeout snapshot : Bool) (s : TurnSeatIn S M) → TurnBroken may s s (tick_plan timeout snapshot) (refusal.Failed fail.NoMemory)
  tick_none true snapshot s = plan_none s kind.Timeout _
  tick_none false snapshot s = plan_none s kind.Beat _

  -- what came was cut
  pub front_stops : (conn : ℕ) (p : Option (List ℕ)) (b b' : List (Thought (Letter M))) (s s' : TurnSeatIn S M) (ps : List (Step M)) (r : Refusal) → ps ≡ front_plan conn p → PlanTells may b b' s s' ps (Err r)
      → TurnBroken may s s' (round_plan conn p) r
  front_stops conn p b b' s s' ps r e m =
      let x = m.1 in let last : List (Step M) = step.Event (kind.Drain conn) ∷ [] in (
        m.0,
        (
          inl (x.0, x.1, x.2 ++ last, x.3, x.4, ap (λ (l : List (Step M)). l ++ last) (sym e ∙ x.5) ∙ append_assoc x.0 (x.1 ∷ x.2) last, x.6, x.7, x.8),
          m.2,
        ),
      )

  -- thinks that wait, and then one event that was kept with them
  pub whole_behind : (s m s' : TurnSeatIn S M) (ps : List (Step M)) (k : NodeEventKind M) (t : Thought (Letter M)) (ds : List (Did M)) → Goes ps ds → Opens may (view s) (view m) ds → OneTells may m s' k (Ok t)
      → TurnDone may s s' (ps ++ step.Event k ∷ []) (thoughts_in ds ++ t ∷ [])
  whole_behind s m s' ps k t ds g o one =
      let d : Did M = (task.Think record { now = one.0; kind = k }, Ok (answer.Thought t)) in
      let fl : Did M = (task.Flush, Ok (answer.Kept one.1)) in
      let last : List (Did M) = d ∷ fl ∷ [] in (
        ds ++ last,
        (
          (ds ++ d ∷ [], one.1, sym (append_assoc ds (d ∷ []) (fl ∷ [])), goes_more ps (step.Event k) ds (d ∷ []) g (d, refl, refl)),
          record {
            does = does_both (view s) (view m) (view s') ds last o.does one.4;
            times = each_both (InTime may) ds last o.times (one.2, (tt, tt));
            went = each_both Went ds last o.went (tt, (tt, tt));
            leaves = flushed_both [] ds last ∙ ap (λ (l : List (Thought (Letter M))). l ++ flushed (waiting [] ds) last) (o.still []) ∙ append_nil (waiting [] ds ++ t ∷ [])
                ∙ ap (λ (l : List (Thought (Letter M))). l ++ t ∷ []) (o.held []);
            settled = waiting_both [] ds last;
          },
        ),
      )

  -- one event alone
  pub whole_one : (s s' : TurnSeatIn S M) (k : NodeEventKind M) (t : Thought (Letter M)) → OneTells may s s' k (Ok t) → TurnDone may s s' (step.Event k ∷ []) (t ∷ [])
  whole_one s s' k t one = whole_behind s s s' [] k t [] refl (opens_none may (view s)) one

  pub round_behind : {V : Type 0} (items : V → List (Thought (Letter M))) (conn : ℕ) (p : Option (List ℕ)) (v : V) (r : Result (Round M) Refusal) (s m s' : TurnSeatIn S M)
      → FrontTells may conn items p (Ok v) s m → BehindTells may conn (items v) r m s' → RoundTells may conn p r s s'
  round_behind items conn p v (Ok r) s m s' f b =
      let same : thoughts_in f.0 ≡ r.front.items = sym (b.0 ∙ f.1) in
      let w = whole_behind s m s' (front_plan conn p) (kind.Drain conn) r.drained f.0 f.2 f.3 b.1 in (
        (subst (λ (l : List (Thought (Letter M))). Each IsQuiet l) same (front_quiet conn p f.0 f.2 f.3.fits), b.1.3),
        w.0,
        subst (λ (l : List (Thought (Letter M))). TurnWhole may (view s) (view s') (round_plan conn p) (l ++ r.drained ∷ []) w.0) same w.1,
      )
  round_behind items conn p v (Err e) s m s' f b = (
    f.0 ++ b.0,
    (
      cut_behind (front_plan conn p) (step.Event (kind.Drain conn) ∷ []) f.0 b.0 f.2 b.1.0,
      breaks_behind may (view s) (view m) (view s') f.0 b.0 e f.3 b.1.1,
    ),
  )

  -- no task is refused for a torn event
  pub untorn : (r : Refusal) (w : ViewIn S M) (ds : List (Did M)) → Causes r w ds → IsUntornRefusal r
  untorn r w ds c = ⊎_elim
      (λ x. subst IsUntornRefusal (sym x.5) x.6)
      (λ y. ⊎_elim (λ x. subst IsUntornRefusal (sym x.0) tt) (λ x. subst IsUntornRefusal (sym x.0) tt) y)
      c
