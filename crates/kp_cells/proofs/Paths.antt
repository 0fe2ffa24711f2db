-- A path, its parent, and the order of paths.
use Rattle.std.proofs.Common.{◌≡◌, ℕ, suc, ◌<◌, ◌+◌, Bool, true, false, not, cond, ◌&&◌, List, [], ◌∷◌, Option, Some, None, length, take, refl, ap, sym, ◌∙◌, arith, length-take}
use Rattle.std.specs.Prelude.{◌==◌}
use Rattle.std.specs.Str.{bytes_eq}
use Rattle.std.specs.Ordering.{eq_by_cmp, is_eq}
use Rattle.std.specs.Cmp.{IsTotalOrder}
use Rattle.std.proofs.lemmas.Cmp.{tied_itself, nat_list_cmp_total}
use Rattle.std.proofs.lemmas.Slice.Eq.{bytes_eq-Decides}
use Rattle.std.specs.FinMap as map
use Rattle.std.specs.FinMap.{slice_cmp-IsAntisymmetric, nat_cmp-IsAntisymmetric}
use Rattle.kp_model.specs.Path.{root, parent, before_slash, last_slash}
use Rattle.kp_model.specs.State.{path_cmp, is_child}
use Rattle.kp_cells.proofs.Maps.{no, tied}

pub path_total : IsTotalOrder path_cmp
path_total = nat_list_cmp_total

pub path_same : map.IsAntisymmetric path_cmp
path_same = slice_cmp-IsAntisymmetric nat_cmp-IsAntisymmetric

equals : (p q : List ℕ) → bytes_eq p q ≡ true → p ≡ q
equals p q h = (bytes_eq-Decides p q).0 h

itself : (p : List ℕ) → bytes_eq p p ≡ true
itself p = (bytes_eq-Decides p p).1 refl

right : (a b : Bool) → (a && b) ≡ true → b ≡ true
right true b h = h
right false b h = no false refl h

left : (a b : Bool) → (a && b) ≡ true → a ≡ true
left true b h = refl
left false b h = no false refl h

flip : (b : Bool) → not b ≡ true → b ≡ false
flip true h = no false refl h
flip false h = refl

pub child_parent : (p q : List ℕ) → is_child p q ≡ true → parent q ≡ p
unfolding is_child
child_parent p q h = equals _ _ (right _ _ h)

pub child_not_root : (p q : List ℕ) → is_child p q ≡ true → bytes_eq q root ≡ false
unfolding is_child
child_not_root p q h = flip _ (left _ _ h)

-- a path is a child of its parent
pub own_child : (q : List ℕ) → bytes_eq q root ≡ false → is_child (parent q) q ≡ true
unfolding is_child
own_child q h = ap (λ b. not b && bytes_eq (parent q) (parent q)) h ∙ itself (parent q)

-- and of no other path
pub no_other_child : (p q : List ℕ) → eq_by_cmp path_cmp p (parent q) ≡ false → is_child p q ≡ false
no_other_child p q h = decide (is_child p q) refl where
  decide : (b : Bool) → is_child p q ≡ b → b ≡ false
  decide false e = refl
  decide true e = no (eq_by_cmp path_cmp p (parent q)) h (ap (eq_by_cmp path_cmp p) (child_parent p q e) ∙ ap is_eq (tied_itself path_total p))

-- the last slash is within
abbrev pub IsWithin : Option ℕ → ℕ → Type 0
IsWithin None n = Unit {0}
IsWithin (Some i) n = i < n

one_on : (o : Option ℕ) (b : Bool) (n : ℕ) → IsWithin o n → IsWithin (elim o [ Some i ↦ Some (i + 1) | None ↦ cond b (Some 0) None ]) (suc n)
one_on (Some i) b n h = omega (arith, h)
one_on None true n h = omega arith
one_on None false n h = tt

pub slash_in : (p : List ℕ) → IsWithin (last_slash p) (length p)
unfolding last_slash
slash_in [] = tt
slash_in (b ∷ bs) = one_on (last_slash bs) (b == 47) (length bs) (slash_in bs)

not_whole : (q : List ℕ) (o : Option ℕ) → IsWithin o (length q) → bytes_eq q root ≡ false → before_slash q o ≡ q → ⊥
not_whole q None w h e = no (bytes_eq q root) h (ap (λ z. bytes_eq z root) (sym e))
not_whole q (Some i) w h e = cases (i == 0) e where
  cases : (b : Bool) → cond b root (take i q) ≡ q → ⊥
  cases true e = no (bytes_eq q root) h (ap (λ z. bytes_eq z root) (sym e))
  cases false e = let same : length (take i q) ≡ length q = ap length e in omega (arith, same, w, length-take i q)

-- no path but the root is its own parent
pub not_own_parent : (q : List ℕ) → bytes_eq q root ≡ false → is_child q q ≡ false
unfolding parent
not_own_parent q h = decide (is_child q q) refl where
  decide : (b : Bool) → is_child q q ≡ b → b ≡ false
  decide false e = refl
  decide true e = absurd (not_whole q (last_slash q) (slash_in q) h (child_parent q q e))

pub own_parent_apart : (q : List ℕ) → bytes_eq q root ≡ false → eq_by_cmp path_cmp q (parent q) ≡ false
own_parent_apart q h = decide (eq_by_cmp path_cmp q (parent q)) refl where
  decide : (b : Bool) → eq_by_cmp path_cmp q (parent q) ≡ b → b ≡ false
  decide false e = refl
  decide true e = no (is_child q q) (not_own_parent q h) (ap (λ z. is_child z q) (tied path_same q (parent q) e) ∙ own_child q h)

-- the root is its own parent
pub root_above : (q : List ℕ) → bytes_eq q root ≡ true → root ≡ parent q
unfolding parent last_slash
root_above q h = ap parent (sym (equals q root h))
