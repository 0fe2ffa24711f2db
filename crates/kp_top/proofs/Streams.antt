-- What is read and written piece by piece.
use Rattle.std.proofs.Common.{◌<◌, ◌≤◌, ◌+◌, ℕ, List, ◌++◌, length, take, drop, Option, Some, None, sym, ap, ◌∙◌, append_assoc, arith, length-append, drop-drop}
use Rattle.std.proofs.lemmas.List.{take-append-drop}
use Rattle.std.specs.Io.KnownBytes.{Appends, Consumes}
use Rattle.kp_top.specs.Output.{Wrote, TookMore, TookWithin}

pub wrote_more : (old now next : Option (List ℕ)) (bytes : List ℕ) (at n : ℕ) → Wrote old now (drop at bytes) bytes → Appends now next (take n (drop at bytes)) → Wrote old next (drop (at + n) bytes) bytes
wrote_more None now next bytes at n w a = tt
wrote_more (Some xs) None next bytes at n w a = absurd w
wrote_more (Some xs) (Some ys) None bytes at n w a = absurd a
wrote_more (Some xs) (Some ys) (Some zs) bytes at n w a =
    ap (λ l. l ++ drop (at + n) bytes) a ∙ append_assoc ys (take n (drop at bytes)) (drop (at + n) bytes)
    ∙ ap (λ l. ys ++ (take n (drop at bytes) ++ l)) (sym (drop-drop n at bytes)) ∙ ap (λ l. ys ++ l) (take-append-drop n (drop at bytes)) ∙ w

pub consumed_more : (old now next : Option (List ℕ)) (xs ys : List ℕ) → Consumes old now xs → Consumes now next ys → Consumes old next (xs ++ ys)
consumed_more None now next xs ys a b = tt
consumed_more (Some t) None next xs ys a b = absurd a
consumed_more (Some t) (Some u) None xs ys a b = absurd b
consumed_more (Some t) (Some u) (Some v) xs ys a b = a ∙ ap (λ l. xs ++ l) b ∙ sym (append_assoc xs ys v)

pub took_more : (old now : Option (List ℕ)) (xs : List ℕ) → Consumes old now xs → 67108864 < length xs → TookMore old now
took_more None now xs taken more = tt
took_more (Some t) None xs taken more = absurd taken
took_more (Some t) (Some u) xs taken more = omega (arith, ap length taken, length-append xs u, more)

pub took_within : (old now : Option (List ℕ)) (xs : List ℕ) → Consumes old now xs → length xs ≤ 67108864 → TookWithin old now
took_within None now xs taken less = tt
took_within (Some t) None xs taken less = absurd taken
took_within (Some t) (Some u) xs taken less = omega (arith, ap length taken, length-append xs u, less)
