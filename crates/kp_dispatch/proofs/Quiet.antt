-- What is thought before a drain drains nothing.
use Rattle.std.proofs.Common.{◌≡◌, ℕ, List, [], ◌∷◌, ◌++◌, sym, refl, ap, ◌∙◌, subst, ⊎_elim, arith}
use Rattle.std.specs.Prelude.{Option, Some, None, Ok, Err, ⊤}
use Rattle.kp_event.specs.declared.event.NodeEventKind.{NodeEventKind}
use Rattle.kp_event.specs.declared.event.NodeEventKind.TheVariants as kind
use Rattle.kp_event.specs.declared.thought.Thought.{Thought}
use Rattle.kp_event.specs.declared.said.Said.{Said}
use Rattle.kp_event.specs.declared.said.Said.TheVariants as said
use Rattle.kp_event.specs.Kinds.{row_of_kind, row_of_said}
use Rattle.kp_shared.specs.Letters.{Letter}
use Rattle.kp_shared.specs.declared.plan.Step.{Step}
use Rattle.kp_shared.specs.declared.plan.Step.TheVariants as step
use Rattle.kp_shared.specs.declared.task.Task.TheVariants as task
use Rattle.kp_shared.specs.declared.task.Answer.TheVariants as answer
use Rattle.kp_shared.specs.Tasks.{Did, Each, Fitting, IsThink, bytes_of, kind_of, out_of, thoughts_in}
use Rattle.kp_shared.specs.Plans.{Goes, IsCommitRun, IsMore, IsOne, Takes}
use Rattle.kp_shared.proofs.Lists.{each_both, thoughts_both}
use Rattle.kp_dispatch.specs.Plans.{front_plan}
use Rattle.kp_dispatch.specs.Rounds.{IsQuiet}

each_split : {B : Type 0} (P : B → Type 0) (xs ys : List B) → Each P (xs ++ ys) → Each P xs × Each P ys
each_split P [] ys e = (tt, e)
each_split P (x ∷ xs) ys e = let r = each_split P xs ys e.1 in ((e.0, r.0), r.1)

quiet_said : (s : Said) → (row_of_said s ≡ 3 → ⊥) → out_of s ≡ []
quiet_said (said.Out (Some p)) isnt = absurd (isnt refl)
quiet_said (said.Out None) isnt = refl
quiet_said (said.Conn n) isnt = refl
quiet_said (said.Fed f) isnt = refl
quiet_said (said.Hung b) isnt = refl
quiet_said said.Raft isnt = refl
quiet_said (said.Beat n) isnt = refl
quiet_said (said.Done n) isnt = refl
quiet_said (said.Expired n) isnt = refl
quiet_said (said.Snapped n) isnt = refl

module _ {M : Type 0} where
  abbrev row_in : Option (NodeEventKind M) → ℕ
  row_in (Some k) = row_of_kind k
  row_in None = 3

  -- a task whose event isn't a drain
  quiet_did : (d : Did M) → (row_in (kind_of d.0) ≡ 3 → ⊥) → Fitting d → Each IsQuiet (thoughts_in (d ∷ []))
  quiet_did (task.Think e, Ok (answer.Thought t)) isnt fits = (quiet_said t.said (λ is. isnt (sym fits ∙ is)), tt)
  quiet_did (task.Think e, Ok (answer.Kept n)) isnt fits = tt
  quiet_did (task.Think e, Err f) isnt fits = tt
  quiet_did (task.Flush, Ok (answer.Thought t)) isnt fits = absurd (isnt refl)
  quiet_did (task.Flush, Ok (answer.Kept n)) isnt fits = tt
  quiet_did (task.Flush, Err f) isnt fits = tt

  quiet_think : (k : NodeEventKind M) (d : Did M) → IsThink k d → (row_of_kind k ≡ 3 → ⊥) → Fitting d → Each IsQuiet (thoughts_in (d ∷ []))
  quiet_think k d is isnt fits = quiet_did d (λ e. isnt (sym (ap row_in is) ∙ e)) fits

  quiet_one : (k : NodeEventKind M) (ds : List (Did M)) → IsOne k ds → (row_of_kind k ≡ 3 → ⊥) → Each Fitting ds → Each IsQuiet (thoughts_in ds)
  quiet_one k ds one isnt fits = subst (λ (l : List (Did M)). Each IsQuiet (thoughts_in l)) (sym one.1) (quiet_think k one.0 one.2 isnt (subst (λ (l : List (Did M)). Each Fitting l) one.1 fits).0)

  quiet_more : (ds : List (Did M)) → Each IsMore ds → Each Fitting ds → Each IsQuiet (thoughts_in ds)
  quiet_more [] m fits = tt
  quiet_more (d ∷ ds) m fits = subst (λ (l : List (Thought (Letter M))). Each IsQuiet l) (sym (thoughts_both (d ∷ []) ds))
      (each_both IsQuiet (thoughts_in (d ∷ [])) (thoughts_in ds) (quiet_think kind.CommitOne d m.0.0 (λ e. absurd (omega arith)) fits.0) (quiet_more ds m.1 fits.1))

  quiet_run : (ds : List (Did M)) → IsCommitRun ds → Each Fitting ds → Each IsQuiet (thoughts_in ds)
  quiet_run ds r fits =
      let parts = each_split Fitting r.0 (r.1 ∷ []) (subst (λ (l : List (Did M)). Each Fitting l) r.2 fits) in
      subst (λ (l : List (Thought (Letter M))). Each IsQuiet l) (sym (ap thoughts_in r.2 ∙ thoughts_both r.0 (r.1 ∷ [])))
      (each_both IsQuiet (thoughts_in r.0) (thoughts_in (r.1 ∷ [])) (quiet_more r.0 r.3 parts.0) (quiet_think kind.CommitOne r.1 r.4 (λ e. absurd (omega arith)) parts.1.0))

  quiet_nothing : (ds : List (Did M)) → ds ≡ [] → Each IsQuiet (thoughts_in ds)
  quiet_nothing ds e = subst (λ (l : List (Did M)). Each IsQuiet (thoughts_in l)) (sym e) tt

  -- a step that isn't a drain
  abbrev QuietStep : Step M → Type 0
  QuietStep (step.Event k) = row_of_kind k ≡ 3 → ⊥
  QuietStep step.Commits = ⊤
  QuietStep step.MaybeCommits = ⊤
  QuietStep step.MaybeBeat = ⊤

  takes_quiet : (p : Step M) (ds : List (Did M)) → QuietStep p → Takes p ds → Each Fitting ds → Each IsQuiet (thoughts_in ds)
  takes_quiet (step.Event k) ds q t fits = quiet_one k ds t q fits
  takes_quiet step.Commits ds q t fits = quiet_run ds t fits
  takes_quiet step.MaybeCommits ds q t fits = ⊎_elim (λ e. quiet_nothing ds e) (λ r. quiet_run ds r fits) t
  takes_quiet step.MaybeBeat ds q t fits = ⊎_elim (λ e. quiet_nothing ds e) (λ r. quiet_one kind.Beat ds r (λ e. absurd (omega arith)) fits) t

  goes_quiet : (ps : List (Step M)) (ds : List (Did M)) → Each QuietStep ps → Goes ps ds → Each Fitting ds → Each IsQuiet (thoughts_in ds)
  goes_quiet [] ds q g fits = quiet_nothing ds g
  goes_quiet (p ∷ ps) ds q g fits =
      let parts = each_split Fitting g.0 g.1 (subst (λ (l : List (Did M)). Each Fitting l) g.2 fits) in
      subst (λ (l : List (Thought (Letter M))). Each IsQuiet l) (sym (ap thoughts_in g.2 ∙ thoughts_both g.0 g.1))
      (each_both IsQuiet (thoughts_in g.0) (thoughts_in g.1) (takes_quiet p g.0 q.0 g.3 parts.0) (goes_quiet ps g.1 q.1 g.4 parts.1))

  pub front_quiet : (conn : ℕ) (p : Option (List ℕ)) (ds : List (Did M)) → Goes (front_plan conn p) ds → Each Fitting ds → Each IsQuiet (thoughts_in ds)
  front_quiet conn None ds g fits = goes_quiet [] ds tt g fits
  front_quiet conn (Some bytes) ds g fits = goes_quiet (front_plan conn (Some bytes)) ds ((λ e. absurd (omega arith)), (tt, (tt, tt))) g fits

  pub quiet_bytes : (ts : List (Thought (Letter M))) → Each IsQuiet ts → bytes_of ts ≡ []
  quiet_bytes [] q = refl
  quiet_bytes (t ∷ ts) q = ap (λ (l : List ℕ). l ++ bytes_of ts) q.0 ∙ quiet_bytes ts q.1
