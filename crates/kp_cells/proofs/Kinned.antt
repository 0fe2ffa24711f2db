-- The children of each path, after a path more or less.
use Rattle.std.proofs.Common.{◌≡◌, ℕ, Bool, true, false, cond, nat_eq, ◌&&◌, ◌||◌, List, [], Some, None, refl, ap, sym, ◌∙◌, subst}
use Rattle.std.specs.Prelude.{String, not}
use Rattle.std.specs.Option.{option_map_or}
use Rattle.std.specs.Ordering.{nat_cmp}
use Rattle.std.specs.BTreeSet.{BTreeSet}
use Rattle.std.specs.FinMap.{FinMap, get, get-empty, empty}
use Rattle.std.proofs.lemmas.Bool.{eqb-true}
use Rattle.kp_model.specs.State.{is_child}
use Rattle.kp_cells.specs.Kin.{is_kid, AreFilled, IsKin}

and_true : (b : Bool) → (b && true) ≡ b
and_true true = refl
and_true false = refl

and_false : (b : Bool) → (b && false) ≡ false
and_false true = refl
and_false false = refl

or_false : (b : Bool) → (b || false) ≡ b
or_false true = refl
or_false false = refl

not_itself : (b : Bool) → (b && not (b && true)) ≡ false
not_itself true = refl
not_itself false = refl

-- no texts and no children
pub empty_kin : {Z : Type 0} (kin : List (String Z × BTreeSet ℕ)) (texts : FinMap nat_cmp (List ℕ)) → kin ≡ [] → texts ≡ empty → IsKin kin texts
empty_kin {Z} kin texts e t = subst (λ k. IsKin {Z = Z} k texts) (sym e) (subst (λ x. IsKin {Z = Z} [] x) (sym t) (record {
  kids = λ p n. sym (ap (λ r. option_map_or (is_child p) r false) (get-empty nat_cmp n));
  filled = λ p. refl;
}))

-- a child that comes and goes again
pub kin_again : {Z : Type 0} (old with_it new : List (String Z × BTreeSet ℕ)) (texts : FinMap nat_cmp (List ℕ)) (path : List ℕ) (number : ℕ) → IsKin old texts
    → (AreFilled old → AreFilled with_it) → (AreFilled with_it → AreFilled new)
    → ((p : List ℕ) (n : ℕ) → is_kid with_it p n ≡ (is_kid old p n || (is_child p path && nat_eq number n)))
    → ((p : List ℕ) (n : ℕ) → is_kid new p n ≡ (is_kid with_it p n && not (is_child p path && nat_eq number n)))
    → get texts number ≡ None → IsKin new texts
kin_again old with_it new texts path number h f g k l fresh = record {
  kids = λ p n.
      l p n
      ∙ ap (λ b. b && not (is_child p path && nat_eq number n)) (k p n ∙ ap (λ b. b || (is_child p path && nat_eq number n)) (h.kids p n))
      ∙ back p n (nat_eq number n) (eqb-true number n);
  filled = g (f h.filled);
}
  where
    all_out : (c : Bool) → ((false || (c && true)) && not (c && true)) ≡ false
    all_out true = refl
    all_out false = refl

    none_out : (c x : Bool) → ((x || (c && false)) && not (c && false)) ≡ x
    none_out true true = refl
    none_out true false = refl
    none_out false true = refl
    none_out false false = refl

    back : (p : List ℕ) (n : ℕ) (b : Bool) → (b ≡ true → number ≡ n) → ((option_map_or (is_child p) (get texts n) false || (is_child p path && b)) && not (is_child p path && b)) ≡ option_map_or (is_child p) (get texts n) false
    back p n true same =
        let none : get texts n ≡ None = ap (get texts) (sym (same refl)) ∙ fresh in
        ap (λ r. (option_map_or (is_child p) r false || (is_child p path && true)) && not (is_child p path && true)) none
        ∙ all_out (is_child p path)
        ∙ sym (ap (λ r. option_map_or (is_child p) r false) none)
    back p n false same = none_out (is_child p path) (option_map_or (is_child p) (get texts n) false)

module _ {Z : Type 0} (old new : List (String Z × BTreeSet ℕ)) (texts texts' : FinMap nat_cmp (List ℕ)) (path : List ℕ) (number : ℕ) (h : IsKin old texts) (filled : AreFilled old → AreFilled new) where
  -- a path more
  module _ (t : (n : ℕ) → get texts' n ≡ cond (nat_eq number n) (Some path) (get texts n)) (k : (p : List ℕ) (n : ℕ) → is_kid new p n ≡ (is_kid old p n || (is_child p path && nat_eq number n))) (fresh : get texts number ≡ None) where
    more : (p : List ℕ) (n : ℕ) (b : Bool) → (b ≡ true → number ≡ n) → (option_map_or (is_child p) (get texts n) false || (is_child p path && b)) ≡ option_map_or (is_child p) (cond b (Some path) (get texts n)) false
    more p n true same =
        ap (λ r. option_map_or (is_child p) r false || (is_child p path && true)) (ap (get texts) (sym (same refl)) ∙ fresh)
        ∙ and_true (is_child p path)
    more p n false same = ap (λ b. option_map_or (is_child p) (get texts n) false || b) (and_false (is_child p path)) ∙ or_false (option_map_or (is_child p) (get texts n) false)

    pub kin_joined : IsKin new texts'
    kin_joined = record {
      kids = λ p n.
          k p n
          ∙ ap (λ b. b || (is_child p path && nat_eq number n)) (h.kids p n)
          ∙ more p n (nat_eq number n) (eqb-true number n)
          ∙ sym (ap (λ r. option_map_or (is_child p) r false) (t n));
      filled = filled h.filled;
    }

  -- a path less
  module _ (t : (n : ℕ) → get texts' n ≡ cond (nat_eq number n) None (get texts n)) (k : (p : List ℕ) (n : ℕ) → is_kid new p n ≡ (is_kid old p n && not (is_child p path && nat_eq number n))) (is : get texts number ≡ Some path) where
    less : (p : List ℕ) (n : ℕ) (b : Bool) → (b ≡ true → number ≡ n) → (option_map_or (is_child p) (get texts n) false && not (is_child p path && b)) ≡ option_map_or (is_child p) (cond b None (get texts n)) false
    less p n true same =
        ap (λ r. option_map_or (is_child p) r false && not (is_child p path && true)) (ap (get texts) (sym (same refl)) ∙ is)
        ∙ not_itself (is_child p path)
    less p n false same = ap (λ b. option_map_or (is_child p) (get texts n) false && not b) (and_false (is_child p path)) ∙ and_true (option_map_or (is_child p) (get texts n) false)

    pub kin_left : IsKin new texts'
    kin_left = record {
      kids = λ p n.
          k p n
          ∙ ap (λ b. b && not (is_child p path && nat_eq number n)) (h.kids p n)
          ∙ less p n (nat_eq number n) (eqb-true number n)
          ∙ sym (ap (λ r. option_map_or (is_child p) r false) (t n));
      filled = filled h.filled;
    }
