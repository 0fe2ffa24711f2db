-- How a turn that was cut ends a call of a ticker.
use Rattle.std.proofs.Common.{◌≡◌, ℕ, List, subst}
use Rattle.std.specs.Prelude.{Bool}
use Rattle.kp_links.specs.declared.view.LinkView.{LinkView}
use Rattle.kp_links.specs.LinkView.{Takes}
use Rattle.kp_shared.specs.declared.plan.Step.{Step}
use Rattle.kp_shared.specs.declared.refusal.Refusal.{Refusal}
use Rattle.kp_shared.specs.declared.refusal.Refusal.TheVariants as refusal
use Rattle.kp_shared.specs.Sharing.{NodeSeatIn}
use Rattle.kp_dispatch.specs.Ends.{turned_for}
use Rattle.kp_dispatch.specs.Plans.{carry_plan, tick_plan}
use Rattle.kp_dispatch.specs.Ticks.{CarryTells, Halts, TickTells}

module _ {S M : Type 0} (may : ℕ → Type 0) (s s' : NodeSeatIn S M) where
  tick_cut : (timeout snapshot : Bool) (r : Refusal) → Halts may s s' (tick_plan timeout snapshot) r → TickTells may s s' timeout snapshot (turned_for r)
  tick_cut timeout snapshot (refusal.Failed f) h = h
  tick_cut timeout snapshot refusal.Worn h = h

  pub tick_halts : (timeout snapshot : Bool) (ps : List (Step M)) (r : Refusal) → ps ≡ tick_plan timeout snapshot → Halts may s s' ps r → TickTells may s s' timeout snapshot (turned_for r)
  tick_halts timeout snapshot ps r e h = tick_cut timeout snapshot r (subst (λ (l : List (Step M)). Halts may s s' l r) e h)

  carry_cut : (feeds : M → Bool) (v w : LinkView M) (m : M) (r : Refusal) → Takes v m w → Halts may s s' (carry_plan m) r → CarryTells may s s' feeds v w (turned_for r)
  carry_cut feeds v w m (refusal.Failed f) t h = (m, t, h)
  carry_cut feeds v w m refusal.Worn t h = (m, t, h)

  pub carry_halts : (feeds : M → Bool) (v w : LinkView M) (m : M) (ps : List (Step M)) (r : Refusal) → Takes v m w → ps ≡ carry_plan m → Halts may s s' ps r → CarryTells may s s' feeds v w (turned_for r)
  carry_halts feeds v w m ps r t e h = carry_cut feeds v w m r t (subst (λ (l : List (Step M)). Halts may s s' l r) e h)
