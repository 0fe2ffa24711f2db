-- The last slash of a list, from its end.
use Rattle.std.proofs.Common.{◌≡◌, ◌≢◌, ℕ, ◌+◌, ◌<◌, Bool, true, false, List, [], ◌∷◌, ◌++◌, length, take, get_or, Option, Some, None, refl, ap, ◌∙◌, arith, cond, add-one}
use Rattle.std.specs.Prelude.{◌==◌, if◌then◌else◌, IfSome}
use Rattle.kp_path.specs.Slash.{IsSlashAt}
use Rattle.std.proofs.lemmas.Bool.Decides.{Decides-eqb}
use Rattle.std.proofs.lemmas.List.{take_more, length-take-le}
use Rattle.kp_model.specs.Path.{last_slash}

-- one place further, or none
abbrev pub further : ℕ → Option ℕ → Option ℕ
further x None = if x == 47 then Some 0 else None
further x (Some i) = Some (i + 1)

moved : (x n : ℕ) (c : Bool) (r : Option ℕ) → further x (cond c (Some n) r) ≡ cond c (Some (n + 1)) (further x r)
moved x n true r = refl
moved x n false r = refl

-- what a slash at the end makes of the place of the last one before it
after_one : (xs : List ℕ) (b : ℕ) → last_slash (xs ++ b ∷ []) ≡ cond (b == 47) (Some (length xs)) (last_slash xs)
unfolding last_slash
after_one [] b = refl
after_one (x ∷ xs) b = ap (further x) (after_one xs b) ∙ moved x (length xs) (b == 47) (last_slash xs) ∙ ap (λ n. cond (b == 47) (Some n) (further x (last_slash xs))) (add-one (length xs))

seen : (xs : List ℕ) (m : ℕ) → m < length xs → last_slash (take (m + 1) xs) ≡ cond (get_or xs m 0 == 47) (Some (length (take m xs))) (last_slash (take m xs))
seen xs m lt = ap last_slash (take_more xs m 0 lt) ∙ after_one (take m xs) (get_or xs m 0)

-- a slash at the end
pub at_slash : (xs : List ℕ) (m : ℕ) → m < length xs → get_or xs m 0 ≡ 47 → last_slash (take (m + 1) xs) ≡ Some m
at_slash xs m lt is =
    seen xs m lt
    ∙ ap (λ b. cond (b == 47) (Some (length (take m xs))) (last_slash (take m xs))) is
    ∙ ap Some (length-take-le m xs (omega arith))

-- another byte at the end
pub past_other : (xs : List ℕ) (m : ℕ) → m < length xs → get_or xs m 0 ≢ 47 → last_slash (take (m + 1) xs) ≡ last_slash (take m xs)
past_other xs m lt other = seen xs m lt ∙ passed (get_or xs m 0 == 47) refl where
  passed : (b : Bool) → (get_or xs m 0 == 47) ≡ b → cond b (Some (length (take m xs))) (last_slash (take m xs)) ≡ last_slash (take m xs)
  passed false e = refl
  passed true e = absurd (other ((Decides-eqb (get_or xs m 0) 47).0 e))

first_slash : (x : ℕ) (xs : List ℕ) (b : Bool) → (x == 47) ≡ b → IfSome (cond b (Some 0) None) (IsSlashAt (x ∷ xs))
first_slash x xs false e = tt
first_slash x xs true e = (omega arith, (Decides-eqb x 47).0 e)

one_further : (x : ℕ) (xs : List ℕ) (r : Option ℕ) → IfSome r (IsSlashAt xs) → IfSome (further x r) (IsSlashAt (x ∷ xs))
one_further x xs None h = first_slash x xs (x == 47) refl
one_further x xs (Some i) h = (omega (arith, h.0), ap (λ n. get_or (x ∷ xs) n 0) (add-one i) ∙ h.1)

-- the place is one of a slash
pub is_at_slash : (xs : List ℕ) → IfSome (last_slash xs) (IsSlashAt xs)
unfolding last_slash
is_at_slash [] = tt
is_at_slash (x ∷ xs) = one_further x xs (last_slash xs) (is_at_slash xs)
