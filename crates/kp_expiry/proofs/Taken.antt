-- The pairs of the nodes once one is taken out and the last one is put in its place.
use Rattle.std.proofs.Common.{◌≡◌, ℕ, ◌-◌, ◌<◌, ◌≤◌, inl, inr, cond, nat_eq, nat_lt, List, [], ◌∷◌, ◌++◌, length, slice_get, Some, None, ap, sym, ◌∙◌, arith, length-append}
use Rattle.std.proofs.Math.ListN.{set}
use Rattle.std.proofs.lemmas.List.{length-set}
use Rattle.std.proofs.lemmas.Option.{slice_get_past}
use Rattle.std.proofs.lemmas.Bool.{lt-ltb, le-ltb, ne_eqb}
use Rattle.std.proofs.lemmas.Bool.Decides.{eqb_tells}
use Rattle.kp_expiry.specs.Index.{session_in, taken_out, mover}
use Rattle.kp_expiry.proofs.Places.{at_set_here, at_set_other, at_push_here, at_push_other}
use Rattle.kp_expiry.proofs.Mended.{le_or}

module _ (ts us : List (ℕ × ℕ)) (last : ℕ × ℕ) (is : ts ≡ us ++ last ∷ []) where
  long : length ts - 1 ≡ length us
  long = omega (arith, ap length is, length-append us (last ∷ []))

  at_last : slice_get ts (length ts - 1) ≡ Some last
  at_last = ap (slice_get ts) long ∙ ap (λ l. slice_get l (length us)) is ∙ at_push_here us last

  before : (i : ℕ) → i < length us → slice_get ts i ≡ slice_get us i
  before i l = ap (λ x. slice_get x i) is ∙ at_push_other us i last (λ e. omega arith)

  out : (node i : ℕ) → taken_out ts node i ≡ cond (nat_lt i (length us)) (cond (nat_eq i node) (Some last) (slice_get ts i)) None
  out node i =
      ap (λ n. cond (nat_lt i n) (cond (nat_eq i node) (slice_get ts (length ts - 1)) (slice_get ts i)) None) long
      ∙ ap (λ o. cond (nat_lt i (length us)) (cond (nat_eq i node) o (slice_get ts i)) None) at_last

  out_below : (node i : ℕ) → i < length us → taken_out ts node i ≡ cond (nat_eq i node) (Some last) (slice_get ts i)
  out_below node i l = out node i ∙ ap (λ b. cond b (cond (nat_eq i node) (Some last) (slice_get ts i)) None) (lt-ltb i (length us) l)

  out_past : (node i : ℕ) → length us ≤ i → taken_out ts node i ≡ None
  out_past node i l = out node i ∙ ap (λ b. cond b (cond (nat_eq i node) (Some last) (slice_get ts i)) None) (le-ltb i (length us) l)

  pub taken_put : (node : ℕ) (vs : List (ℕ × ℕ)) → node < length us → vs ≡ set us node last → (i : ℕ) → slice_get vs i ≡ taken_out ts node i
  taken_put node vs inside e i = elim (le_or i (length us)) [
    | inl l ↦ elim (eqb_tells i node) [
      | inl p ↦
          ap (slice_get vs) p.1 ∙ ap (λ x. slice_get x node) e ∙ at_set_here us node last inside
          ∙ sym (out_below node i l ∙ ap (λ b. cond b (Some last) (slice_get ts i)) p.0)
      | inr p ↦
          ap (λ x. slice_get x i) e ∙ at_set_other us node i last p.1 ∙ sym (before i l)
          ∙ sym (out_below node i l ∙ ap (λ b. cond b (Some last) (slice_get ts i)) p.0)
    ]
    | inr l ↦ slice_get_past vs i (omega (arith, ap length e, length-set us node last)) ∙ sym (out_past node i l)
  ]

  pub taken_cut : (node : ℕ) → length us ≤ node → (i : ℕ) → slice_get us i ≡ taken_out ts node i
  taken_cut node past i = elim (le_or i (length us)) [
    | inl l ↦ sym (before i l) ∙ sym (out_below node i l ∙ ap (λ b. cond b (Some last) (slice_get ts i)) (ne_eqb i node (λ e. omega arith)))
    | inr l ↦ slice_get_past us i l ∙ sym (out_past node i l)
  ]

  pub mover_put : (node : ℕ) → node < length us → Some last.1 ≡ mover ts node
  mover_put node l = sym (
      ap (λ n. cond (nat_lt node n) (session_in (slice_get ts (length ts - 1))) None) long
      ∙ ap (λ b. cond b (session_in (slice_get ts (length ts - 1))) None) (lt-ltb node (length us) l)
      ∙ ap session_in at_last)
