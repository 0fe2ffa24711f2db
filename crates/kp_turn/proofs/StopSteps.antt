-- Each kind of step on a stop word keeps the rule of its table, and tells what it says.
use Rattle.std.proofs.Common.{◌≡◌, ℕ, ◌+◌, ◌<◌, ◌≤◌, List, [], ◌∷◌, get_or, set, sym, refl, ap, ◌∙◌, subst, ⊎_elim, arith, length-set, get_or-set_same}
use mathlib.Core.Option.{some, some-injective}
use mathlib.Core.Logic.{dite}
use native.Mathlib.Decide.{ℕ_discrete}
use lib.ListN.{get_elem?}
use Rattle.atomic_table.specs.Table.{State, keeps, Allows, Splits}
use Rattle.atomic_table.proofs.Lists.{set_else, at_longer}
use Rattle.kp_turn.specs.declared.stop.StopView.{StopView}
use Rattle.kp_turn.specs.StopRule.{IsStopWord, StopSitting, no_stop, read, was_set, with_set, with_stop_split}
use Rattle.kp_turn.proofs.Views.{at_set_here, each_set, at_append}

abbrev S : Type 0
S = State (Unit {0}) StopView

-- some view has set the word
abbrev IsSetBy : List StopView → Type 0
IsSetBy views = (j : ℕ) × (v : StopView) × (get_elem? views j ≡ some v) × (0 < v.sets)

IsSetBy-set : (views : List StopView) (id : ℕ) (v w : StopView) → get_elem? views id ≡ some v → (0 < v.sets → 0 < w.sets) → IsSetBy views → IsSetBy (set views id w)
IsSetBy-set views id v w me more t = dite (ℕ_discrete t.0 id)
    (λ e. (id, w, at_set_here views id w v me, more (subst (λ (u : StopView). 0 < u.sets) (some-injective t.1 v (sym t.2 ∙ ap (get_elem? views) e ∙ me)) t.3)))
    (λ ne. (t.0, t.1, set_else views id t.0 w ne ∙ t.2, t.3))

-- a step of the seat id, which leaves a set word set
stop_step : (s : S) (t : IsStopWord s) (id : ℕ) (v w : StopView) (n : ℕ) → get_elem? s.views id ≡ some v → n ≤ 1 → (get_or s.words 0 0 ≡ 1 → n ≡ 1) → (0 < w.sets → n ≡ 1) → (0 < w.reads → n ≡ 1)
    → (n ≡ 1 → IsSetBy (set s.views id w)) → IsStopWord record { words = set s.words 0 n; homes = s.homes; views = set s.views id w }
stop_step s t id v w n me small stays sets reads setter = let is : get_or (set s.words 0 n) 0 0 ≡ n = get_or-set_same s.words 0 n 0 (let l = t.wide in omega arith) in record {
  wide = length-set s.words 0 n ∙ t.wide;
  binary = omega arith;
  set_is = each_set s.views id w (λ j u. 0 < u.sets → get_or (set s.words 0 n) 0 0 ≡ 1) (λ h. is ∙ sets h) (λ j u ne at h. is ∙ stays (t.set_is j u at h));
  read_is = each_set s.views id w (λ j u. 0 < u.reads → get_or (set s.words 0 n) 0 0 ≡ 1) (λ h. is ∙ reads h) (λ j u ne at h. is ∙ stays (t.read_is j u at h));
  setter = λ one. setter (sym is ∙ one);
}

-- Loading the word.
pub stop_loads : (slots id : ℕ) (m : StopSitting) → Allows IsStopWord slots id m 0 (λ n. n) (read m)
stop_loads slots id m s t long me small =
    let x : ℕ = get_or s.words 0 0 in let w : StopView = record m.0 { reads = m.0.reads + x } in
    let known : 0 < m.0.sets + m.0.reads → x ≡ 1 = λ some. dite (ℕ_discrete m.0.sets 0) (λ none. t.read_is id m.0 me (omega arith)) (λ has. t.set_is id m.0 me (omega arith)) in (
      w,
      keeps,
      tt,
      stop_step s t id m.0 w x me t.binary (λ e. e) (t.set_is id m.0 me)
          (λ h. dite (ℕ_discrete x 1) (λ e. e) (λ ne. t.read_is id m.0 me (let b = t.binary in omega arith)))
          (λ one. IsSetBy-set s.views id m.0 w me (λ h. h) (t.setter one)),
      (t.binary, known, refl),
    )

-- Setting the word.
pub stop_sets : (slots id : ℕ) (m : StopSitting) → Allows IsStopWord slots id m 0 (λ _. 1) (λ _. was_set m 1)
stop_sets slots id m s t long me small = let w : StopView = with_set m.0 in (
  w,
  keeps,
  tt,
  stop_step s t id m.0 w 1 me (omega arith) (λ e. refl) (λ h. refl) (λ h. refl) (λ one. (id, w, at_set_here s.views id w m.0 me, omega arith)),
  refl,
)

-- Splitting a seat off.
pub stop_splits : (id : ℕ) (v : StopView) → Splits IsStopWord id v (with_stop_split v) no_stop
stop_splits id v s t me = let left : StopView = with_stop_split v in let views : List StopView = set s.views id left in record {
  wide = t.wide;
  binary = t.binary;
  set_is = λ j u at. ⊎_elim (λ old. each_set s.views id left (λ k y. 0 < y.sets → get_or s.words 0 0 ≡ 1) (t.set_is id v me) (λ k y ne there. t.set_is k y there) j u old)
      (λ new. subst (λ (y : StopView). 0 < y.sets → get_or s.words 0 0 ≡ 1) new.1 (λ h. absurd (omega arith))) (at_append views no_stop u j at);
  read_is = λ j u at. ⊎_elim (λ old. each_set s.views id left (λ k y. 0 < y.reads → get_or s.words 0 0 ≡ 1) (t.read_is id v me) (λ k y ne there. t.read_is k y there) j u old)
      (λ new. subst (λ (y : StopView). 0 < y.reads → get_or s.words 0 0 ≡ 1) new.1 (λ h. absurd (omega arith))) (at_append views no_stop u j at);
  setter = λ one. let h = IsSetBy-set s.views id v left me (λ h. h) (t.setter one) in (h.0, h.1, at_longer views (no_stop ∷ []) h.0 h.1 h.2, h.3);
}
