-- Tasks behind tasks, within a turn.
use Rattle.std.proofs.Common.{◌≡◌, inl, inr, ℕ, List, [], ◌∷◌, ◌++◌, sym, refl, ap, ◌∙◌, subst, ⊎_elim, append_assoc}
use Rattle.std.specs.Prelude.{Ok, Err}
use Rattle.kp_event.specs.declared.event.NodeEventKind.{NodeEventKind}
use Rattle.kp_event.specs.declared.thought.Thought.{Thought}
use Rattle.kp_event.specs.declared.fail.KeptFail.{KeptFail}
use Rattle.kp_event.specs.Kinds.{row_of_kind, row_of_said}
use Rattle.kp_shared.specs.Letters.{Letter}
use Rattle.kp_shared.specs.declared.plan.Step.{Step}
use Rattle.kp_shared.specs.declared.refusal.Refusal.{Refusal}
use Rattle.kp_shared.specs.declared.task.Task.{Task}
use Rattle.kp_shared.specs.declared.task.Task.TheVariants as task
use Rattle.kp_shared.specs.declared.task.Answer.TheVariants as answer
use Rattle.kp_shared.specs.Tasks.{Did, Each, Fitting, InTime, Went, flushed, thoughts_in, waiting}
use Rattle.kp_shared.specs.Plans.{Goes, IsCut, Part, Stops, Takes}
use Rattle.kp_shared.specs.Nodes.{Breaks, Causes, Does, Opens, Refuses, ViewIn}
use Rattle.kp_shared.proofs.Lists.{append_nil, does_both, does_none, each_both, flushed_both, thoughts_both, waiting_both}

module _ {S M : Type 0} (may : ℕ → Type 0) where
  pub opens_none : (v : ViewIn S M) → Opens may v v []
  opens_none v = record { does = does_none v; times = tt; went = tt; fits = tt; held = λ p. sym (append_nil p); still = λ p. refl }

  pub opens_both : (u v w : ViewIn S M) (ds es : List (Did M)) → Opens may u v ds → Opens may v w es → Opens may u w (ds ++ es)
  opens_both u v w ds es a b = record {
    does = does_both u v w ds es a.does b.does;
    times = each_both (InTime may) ds es a.times b.times;
    went = each_both Went ds es a.went b.went;
    fits = each_both Fitting ds es a.fits b.fits;
    held = λ p. waiting_both p ds es ∙ ap (λ (l : List (Thought (Letter M))). waiting l es) (a.held p) ∙ b.held (p ++ thoughts_in ds)
        ∙ append_assoc p (thoughts_in ds) (thoughts_in es) ∙ ap (λ (l : List (Thought (Letter M))). p ++ l) (sym (thoughts_both ds es));
    still = λ p. flushed_both p ds es ∙ ap (λ (l : List (Thought (Letter M))). l ++ flushed (waiting p ds) es) (a.still p) ∙ b.still (waiting p ds);
  }

  -- one event was thought
  pub opens_one : (v w : ViewIn S M) (k : NodeEventKind M) (t : Thought (Letter M)) (now : ℕ) → may now → row_of_said t.said ≡ row_of_kind k
      → Does v w ((task.Think record { now = now; kind = k }, Ok (answer.Thought t)) ∷ []) → Opens may v w ((task.Think record { now = now; kind = k }, Ok (answer.Thought t)) ∷ [])
  opens_one v w k t now ok fits d = record { does = d; times = (ok, tt); went = (tt, tt); fits = (fits, tt); held = λ p. refl; still = λ p. refl }

  causes_behind : (r : Refusal) (w : ViewIn S M) (ds es : List (Did M)) → Each Went ds → Causes r w es → Causes r w (ds ++ es)
  causes_behind r w ds es went c = ⊎_elim
      (λ x. inl (ds ++ x.0, x.1, x.2, ap (λ (l : List (Did M)). ds ++ l) x.3 ∙ sym (append_assoc ds x.0 ((x.1, Err x.2) ∷ [])), each_both Went ds x.0 went x.4, x.5, x.6))
      (λ y. inr (⊎_elim (λ x. inl (x.0, x.1, each_both Went ds es went x.2)) (λ x. inr (x.0, each_both Went ds es went x.1)) y))
      c

  -- tasks that went, and then some that were cut short
  pub breaks_behind : (u v w : ViewIn S M) (ds es : List (Did M)) (r : Refusal) → Opens may u v ds → Breaks may v w r es → Breaks may u w r (ds ++ es)
  breaks_behind u v w ds es r a b = record {
    does = does_both u v w ds es a.does b.does;
    times = each_both (InTime may) ds es a.times b.times;
    stays = λ p. flushed_both p ds es ∙ ap (λ (l : List (Thought (Letter M))). l ++ flushed (waiting p ds) es) (a.still p) ∙ b.stays (waiting p ds);
    cause = causes_behind r w ds es a.went b.cause;
  }

  -- one task was refused, or not taken
  pub breaks_one : (v w : ViewIn S M) (t : ℕ → Task M) (ok : ℕ → Type 0) (r : Refusal) (P : List (Did M) → Type 0) → ((now : ℕ) (f : KeptFail) → ok now → InTime may (t now, Err f))
      → P [] → ((now : ℕ) (f : KeptFail) → P ((t now, Err f) ∷ [])) → Refuses ok t r v w → (ds : List (Did M)) × P ds × Breaks may v w r ds
  breaks_one v w t ok r P in_time none one x = ⊎_elim
      (λ y. ((t y.0, Err y.1) ∷ [], one y.0 y.1, record { does = y.5; times = (in_time y.0 y.1 y.2, tt); stays = λ p. refl; cause = inl ([], t y.0, y.1, refl, tt, y.3, y.4) }))
      (λ z. ⊎_elim
      (λ y. ([], none, record { does = y.2; times = tt; stays = λ p. refl; cause = inr (inl (y.0, y.1, tt)) }))
      (λ y. ([], none, record { does = y.1; times = tt; stays = λ p. refl; cause = inr (inr (y.0, tt)) }))
      z)
      x

module _ {M : Type 0} where
  -- one step more
  pub goes_more : (ps : List (Step M)) (p : Step M) (ds es : List (Did M)) → Goes ps ds → Takes p es → Goes (ps ++ p ∷ []) (ds ++ es)
  goes_more [] p ds es g t = (es, [], ap (λ (l : List (Did M)). l ++ es) g ∙ sym (append_nil es), t, refl)
  goes_more (q ∷ qs) p ds es g t = (g.0, g.1 ++ es, ap (λ (l : List (Did M)). l ++ es) g.2 ∙ append_assoc g.0 g.1 es, g.3, goes_more qs p g.1 es g.4 t)

  pub stops_at : (done : List (Step M)) (p : Step M) (rest : List (Step M)) (xs es : List (Did M)) → Goes done xs → Part p es → Stops (done ++ p ∷ rest) (xs ++ es)
  stops_at done p rest xs es g t = (done, p, rest, xs, es, refl, refl, g, t)

  pub goes_both : (ps qs : List (Step M)) (ds es : List (Did M)) → Goes ps ds → Goes qs es → Goes (ps ++ qs) (ds ++ es)
  goes_both [] qs ds es g h = subst (λ (l : List (Did M)). Goes qs (l ++ es)) (sym g) h
  goes_both (p ∷ ps) qs ds es g h = (g.0, g.1 ++ es, ap (λ (l : List (Did M)). l ++ es) g.2 ∙ append_assoc g.0 g.1 es, g.3, goes_both ps qs g.1 es g.4 h)

  -- steps that were done, and then a turn that was cut
  pub cut_behind : (ps qs : List (Step M)) (ds es : List (Did M)) → Goes ps ds → IsCut qs es → IsCut (ps ++ qs) (ds ++ es)
  cut_behind ps qs ds es g c = ⊎_elim
      (λ x. inl (
        ps ++ x.0,
        x.1,
        x.2,
        ds ++ x.3,
        x.4,
        ap (λ (l : List (Step M)). ps ++ l) x.5 ∙ sym (append_assoc ps x.0 (x.1 ∷ x.2)),
        ap (λ (l : List (Did M)). ds ++ l) x.6 ∙ sym (append_assoc ds x.3 x.4),
        goes_both ps x.0 ds x.3 g x.7,
        x.8,
      ))
      (λ x. inr (ds ++ x.0, x.1, ap (λ (l : List (Did M)). ds ++ l) x.2 ∙ sym (append_assoc ds x.0 x.1), goes_both ps qs ds x.0 g x.3, x.4))
      c

  -- a turn of which nothing was done
  pub cut_none : (p : Step M) (ps : List (Step M)) → Part p [] → IsCut (p ∷ ps) []
  cut_none p ps none = inl ([], p, ps, [], [], refl, refl, refl, none)
