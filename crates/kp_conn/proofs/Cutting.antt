-- One turn of the cutting of frames.
use Rattle.std.proofs.Common.{◌≡◌, ℕ, zero, suc, ◌+◌, ◌-◌, ◌<◌, ◌≤◌, List, [], length, take, drop, Some, None, true, false, ap, sym, subst, ◌∙◌, arith, length-drop}
use Rattle.std.proofs.lemmas.List.{append-nil}
use Rattle.std.proofs.lemmas.Grind.{common_steps}
use Rattle.kp_wire.specs.declared.request.Request.{Request}
use Rattle.kp_conn.specs.declared.frames.Turn.{Turn}
use Rattle.kp_conn.specs.declared.frames.Turn.TheVariants as turns
use Rattle.kp_conn.specs.Frames.{cut, cut_up_to, before, shown, Turns}

-- the bytes from a place on, as a slice
pub tail_whole : (bytes : List ℕ) (used : ℕ) → take (length bytes - used) (drop used bytes) ≡ drop used bytes
tail_whole bytes used = grind (arith, common_steps)

drop-again : (bytes : List ℕ) (used n : ℕ) → drop n (drop used bytes) ≡ drop (used + n) bytes
drop-again bytes used n = grind (arith, common_steps)

-- what a turn on the slice found, at the variant that it was
pub turned : (bytes : List ℕ) (used : ℕ) (old new : List Request) (t u : Turn) → t ≡ u → Turns (take (length bytes - used) (drop used bytes)) old new t → Turns (drop used bytes) old new u
turned bytes used old new t u e h = subst (λ bs. Turns bs old new u) (tail_whole bytes used) (subst (λ v. Turns (take (length bytes - used) (drop used bytes)) old new v) e h)

module _ (bytes : List ℕ) (rs : List Request) (used turn : ℕ) (inv : (place : ℕ) → cut_up_to (length bytes) place bytes ≡ before rs (cut_up_to (length bytes - turn) (place + used) (drop used bytes))) where
  -- no turn is left
  pub over : length bytes ≤ turn → (place : ℕ) → cut place bytes ≡ shown place bytes rs used false
  unfolding cut_up_to
  over h place = let none : length bytes - turn ≡ zero = omega arith in
      inv place ∙ ap (λ n. before rs (cut_up_to n (place + used) (drop used bytes))) none
      ∙ λ i. record { requests = append-nil rs i; place = place + used; rest = drop used bytes; bad = None }

  module _ (less : turn < length bytes) where
    one_more : length bytes - turn ≡ suc (length bytes - (turn + 1))
    one_more = omega arith

    at_front : (place : ℕ) → cut_up_to (length bytes) place bytes ≡ before rs (cut_up_to (suc (length bytes - (turn + 1))) (place + used) (drop used bytes))
    at_front place = inv place ∙ ap (λ n. before rs (cut_up_to n (place + used) (drop used bytes))) one_more

    pub stays : (new : List Request) → Turns (drop used bytes) rs new turns.Stays → (place : ℕ) → cut place bytes ≡ shown place bytes new used false
    stays new t place = at_front place ∙ ap (before rs) (t.1 (length bytes - (turn + 1)) (place + used))
        ∙ λ i. record { requests = (append-nil rs ∙ sym t.0) i; place = place + used; rest = drop used bytes; bad = None }

    pub breaks : (new : List Request) → Turns (drop used bytes) rs new turns.Breaks → (place : ℕ) → cut place bytes ≡ shown place bytes new used true
    breaks new t place = at_front place ∙ ap (before rs) (t.1 (length bytes - (turn + 1)) (place + used))
        ∙ λ i. record { requests = (append-nil rs ∙ sym t.0) i; place = place + used; rest = []; bad = Some (place + used) }

    pub took : used ≤ length bytes → (new : List Request) (n : ℕ) → Turns (drop used bytes) rs new (turns.Took n)
        → (used + n ≤ length bytes) × ((place : ℕ) → cut_up_to (length bytes) place bytes ≡ before new (cut_up_to (length bytes - (turn + 1)) (place + (used + n)) (drop (used + n) bytes)))
    took within new n t = (fits, λ place. at_front place ∙ t.1 (length bytes - (turn + 1)) (place + used) ∙ λ i. before new (cut_up_to (length bytes - (turn + 1)) (further place i) (drop-again bytes used n i))) where
      fits : used + n ≤ length bytes
      fits = let l : length (drop used bytes) ≡ length bytes - used = length-drop used bytes in omega (arith, t.0, l)

      further : (place : ℕ) → (place + used) + n ≡ place + (used + n)
      further place = omega arith
