-- Writing in pieces.
use Rattle.std.proofs.Common.{◌≡◌, ◌-◌, ◌+◌, ℕ, List, ◌++◌, ap, sym, ◌∙◌, append_assoc, length, take, drop, arith, drop-drop}
use Rattle.std.proofs.lemmas.List.{take-append-drop}
use Rattle.std.proofs.lemmas.Grind.{common_steps}
use Rattle.std.specs.Prelude.{Option, Some, None}
use Rattle.std.specs.Io.KnownBytes.{Appends}
use Rattle.kp_dispatch.specs.Output.{Wrote}

pub tail_whole : (bs : List ℕ) (k : ℕ) → take (length bs - k) (drop k bs) ≡ drop k bs
tail_whole bs k = grind (arith, common_steps)

pub wrote_more : (old now next : Option (List ℕ)) (bytes : List ℕ) (at n : ℕ) → Wrote old now (drop at bytes) bytes → Appends now next (take n (drop at bytes)) → Wrote old next (drop (at + n) bytes) bytes
wrote_more None now next bytes at n w a = tt
wrote_more (Some xs) None next bytes at n w a = absurd w
wrote_more (Some xs) (Some ys) None bytes at n w a = absurd a
wrote_more (Some xs) (Some ys) (Some zs) bytes at n w a =
    ap (λ l. l ++ drop (at + n) bytes) a ∙ append_assoc ys (take n (drop at bytes)) (drop (at + n) bytes)
    ∙ ap (λ l. ys ++ (take n (drop at bytes) ++ l)) (sym (drop-drop n at bytes)) ∙ ap (λ l. ys ++ l) (take-append-drop n (drop at bytes)) ∙ w
