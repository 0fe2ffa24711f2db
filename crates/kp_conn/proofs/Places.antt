-- The first place at which a test passes, as a loop over the places finds it.
use Rattle.std.proofs.Common.{◌≡◌, ℕ, ◌+◌, ◌<◌, ◌≤◌, List, length, drop, get_or, Bool, true, false, not, ap, arith}
use Rattle.std.specs.List.{position_or_len, prefix_len}
use Rattle.std.proofs.lemmas.List.{drop_all}
use Rattle.std.proofs.lemmas.List.Sums.{prefix_len-drop_no, prefix_len-drop_yes}
use Rattle.kp_conn.specs.Queue.{NoneBefore}

module _ {A : Type 0} (p : A → Bool) (xs : List A) (at : ℕ) (none : NoneBefore p xs at) where
  -- this one passes
  pub passes : (d : A) → at < length xs → p (get_or xs at d) ≡ true → position_or_len p xs ≡ at
  passes d within test =
      let here : prefix_len (λ x. not (p x)) (drop at xs) ≡ 0 = prefix_len-drop_no (λ x. not (p x)) xs at d within (ap not test) in
      omega (arith, none, here)

  -- this one does not
  pub fails : (d : A) → at < length xs → p (get_or xs at d) ≡ false → NoneBefore p xs (at + 1)
  fails d within test =
      let here : prefix_len (λ x. not (p x)) (drop at xs) ≡ 1 + prefix_len (λ x. not (p x)) (drop (at + 1) xs) = prefix_len-drop_yes (λ x. not (p x)) xs at d within (ap not test) in
      omega (arith, none, here)

  -- none is left
  pub ends : length xs ≤ at → position_or_len p xs ≡ at
  ends over =
      let left : prefix_len (λ x. not (p x)) (drop at xs) ≡ 0 = ap (prefix_len (λ x. not (p x))) (drop_all at xs over) in
      omega (arith, none, left)
