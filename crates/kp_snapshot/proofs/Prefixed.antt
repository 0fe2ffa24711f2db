-- The parent of a path is before it.
use Rattle.std.proofs.Common.{◌≡◌, ℕ, zero, suc, ◌+◌, ◌<◌, Bool, true, false, cond, List, [], ◌∷◌, length, take, Option, Some, None, refl, sym, ap, subst, ◌∙◌, arith}
use Rattle.std.specs.Prelude.{◌==◌}
use Rattle.std.specs.Cmp.{nat_cmp_total}
use Rattle.std.specs.Ordering.{ordering_then}
use Rattle.std.specs.Str.{bytes_eq}
use Rattle.std.specs.declared.cmp.Ordering.{Ordering}
use Rattle.std.specs.declared.cmp.Ordering.TheVariants.{Less}
use Rattle.std.proofs.lemmas.Cmp.{tied_itself}
use Rattle.kp_model.specs.Path.{root, parent, is_well_formed, last_slash, before_slash}
use Rattle.kp_model.specs.State.{path_cmp}
use Rattle.kp_snapshot.proofs.Parents.{with_root}

-- a beginning is before the whole
take_less : (l : ℕ) (p : List ℕ) → l < length p → path_cmp (take l p) p ≡ Less
take_less l [] lt = absurd (omega (arith, lt))
take_less zero (x ∷ p) lt = refl
take_less (suc l) (x ∷ p) lt = ap (λ (o : Ordering). ordering_then o (path_cmp (take l p) p)) (tied_itself nat_cmp_total x) ∙ take_less l p (omega (arith, lt))

longer : (p : List ℕ) → is_well_formed p ≡ true → bytes_eq p root ≡ false → 1 < length p
unfolding is_well_formed
longer [] e apart = absurd cc
longer (b ∷ []) e apart =
    let same : b ∷ [] ≡ root = (with_root (b ∷ []) e).is in
    absurd (let bad : true ≡ false = ap (λ (q : List ℕ). bytes_eq q root) (sym same) ∙ apart in cc)
longer (b ∷ c ∷ bs) e apart = omega arith

pub root_less : (p : List ℕ) → is_well_formed p ≡ true → bytes_eq p root ≡ false → path_cmp root p ≡ Less
root_less p e apart = subst (λ (q : List ℕ). path_cmp q p ≡ Less) (with_root p e).is (take_less 1 p (longer p e apart))

slash_within : (p : List ℕ) (i : ℕ) → last_slash p ≡ Some i → i < length p
unfolding last_slash
slash_within [] i e = absurd cc
slash_within (b ∷ bs) i e = by (last_slash bs) e (slash_within bs)
  where
    here : (t : Bool) → cond t (Some 0) None ≡ Some i → i < suc (length bs)
    here true h = let z : 0 ≡ i = cc in omega (arith, z)
    here false h = absurd cc

    by : (o : Option ℕ) → elim o [ Some j ↦ Some (j + 1) | None ↦ cond (b == 47) (Some 0) None ] ≡ Some i → ((j : ℕ) → o ≡ Some j → j < length bs) → i < suc (length bs)
    by (Some j) h more = let n : j + 1 ≡ i = cc in omega (arith, n, more j refl)
    by None h more = here (b == 47) h

pub parent_less : (p : List ℕ) → is_well_formed p ≡ true → bytes_eq p root ≡ false → path_cmp (parent p) p ≡ Less
unfolding parent
parent_less p e apart = by (last_slash p) refl
  where
    at : (i : ℕ) (t : Bool) → last_slash p ≡ Some i → path_cmp (cond t root (take i p)) p ≡ Less
    at i true is = root_less p e apart
    at i false is = take_less i p (slash_within p i is)

    by : (o : Option ℕ) → last_slash p ≡ o → path_cmp (before_slash p o) p ≡ Less
    by None is = root_less p e apart
    by (Some i) is = at i (i == 0) is
