-- A seat's own events, where it has seen more of the history.
use Rattle.std.proofs.Common.{◌≡◌, ℕ, zero, suc, ◌+◌, ◌<◌, List, [], ◌∷◌, ◌++◌, length, map, refl, ap, ◌∙◌, subst, ⊎_elim, arith, length-append, append_assoc}
use Rattle.std.proofs.lemmas.List.{map-append}
use mathlib.Core.Option.{some}
use lib.ListN.{get_elem?}
use Rattle.atomic_table.proofs.Lists.{at_last}
use Rattle.kp_turn.specs.declared.view.TurnView.{TurnView}
use Rattle.kp_turn.specs.History.{IsPrefix}
use Rattle.kp_turn.specs.TurnView.{Adds, SawOwn, SeesMore, WaitsOnly, own, pair_of}
use Rattle.kp_turn.proofs.Histories.{IsPrefix-length}
use Rattle.kp_turn.proofs.Views.{at_append}

module _ {B : Type 0} where
  -- a place of a list is the same in a longer list
  at_longer : (xs more : List B) (k : ℕ) → k < length xs → get_elem? (xs ++ more) k ≡ get_elem? xs k
  at_longer [] more k below = absurd (omega arith)
  at_longer (x ∷ xs) more zero below = refl
  at_longer (x ∷ xs) more (suc k) below = at_longer xs more k (omega arith)

  -- so are several places
  each_longer : (xs ys : List B) (ks : List ℕ) → IsPrefix xs ys → ((n k : ℕ) → get_elem? ks n ≡ some k → k < length xs) → map (get_elem? ys) ks ≡ map (get_elem? xs) ks
  each_longer xs ys [] p below = refl
  each_longer xs ys (k ∷ ks) p below =
      let here : get_elem? ys k ≡ get_elem? xs k = ap (λ (l : List B). get_elem? l k) p.1 ∙ at_longer xs p.0 k (below 0 k refl) in
      let others = each_longer xs ys ks p (λ n j at. below (suc n) j at) in
      λ i. here i ∷ others i

module _ {T E A : Type 0} where
  -- a view that saw more and has the same places has the same events
  longer_own : (v w : TurnView T E A) → w.mine ≡ v.mine → IsPrefix v.seen w.seen → SawOwn v → (own w ≡ own v) × SawOwn w
  longer_own v w mine seen saw = (
    ap (map pair_of) (ap (map (get_elem? w.seen)) mine ∙ each_longer v.seen w.seen v.mine seen saw),
    λ n k at. let below = saw n k (subst (λ (l : List ℕ). get_elem? l n ≡ some k) mine at) in let longer = IsPrefix-length v.seen w.seen seen in omega arith,
  )

  pub sees_own : (v w : TurnView T E A) → SeesMore v w → SawOwn v → (own w ≡ own v) × SawOwn w
  sees_own v w h = longer_own v w (ap (λ (u : TurnView T E A). u.mine) h.same) h.seen

  pub waits_own : (v w : TurnView T E A) → WaitsOnly v w → SawOwn v → (own w ≡ own v) × SawOwn w
  waits_own v w h = longer_own v w (ap (λ (u : TurnView T E A). u.mine) h.same) h.seen

  pub adds_own : (steps : T → E → A → T → Type 0) (v w : TurnView T E A) (e : E) (a : A) → Adds steps v w e a → SawOwn v → (own w ≡ own v ++ some (e, a) ∷ []) × SawOwn w
  adds_own steps v w e a h saw =
      let whole : w.seen ≡ h.before ++ (e, a, h.after) ∷ [] = ap (λ (u : TurnView T E A). u.seen) h.same in
      let mine : w.mine ≡ v.mine ++ length h.before ∷ [] = ap (λ (u : TurnView T E A). u.mine) h.same in
      let longer : IsPrefix v.seen w.seen = (h.seen.0 ++ (e, a, h.after) ∷ [], whole ∙ ap (λ (l : List (E × A × T)). l ++ (e, a, h.after) ∷ []) h.seen.1 ∙ append_assoc v.seen h.seen.0 ((e, a, h.after) ∷ [])) in
      let there : get_elem? w.seen (length h.before) ≡ some (e, a, h.after) = ap (λ (l : List (E × A × T)). get_elem? l (length h.before)) whole ∙ at_last h.before (e, a, h.after) (length h.before) refl in
      let len : length w.seen ≡ length h.before + 1 = ap length whole ∙ length-append h.before ((e, a, h.after) ∷ []) in
      let enough = IsPrefix-length v.seen h.before h.seen in (
        ap (map pair_of) (ap (map (get_elem? w.seen)) mine ∙ map-append (get_elem? w.seen) v.mine (length h.before ∷ []) ∙ (λ i. each_longer v.seen w.seen v.mine longer saw i ++ there i ∷ []))
            ∙ map-append pair_of (map (get_elem? v.seen) v.mine) (some (e, a, h.after) ∷ []),
        λ n k at. ⊎_elim (λ old. let below = saw n k old in omega arith) (λ new. let is = new.1 in omega arith) (at_append v.mine (length h.before) k n (subst (λ (l : List ℕ). get_elem? l n ≡ some k) mine at)),
      )
