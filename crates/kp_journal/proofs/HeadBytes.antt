-- A head that is written.
use Rattle.std.proofs.Common.{◌≡◌, ℕ, ◌+◌, ◌<◌, List, [], ◌∷◌, ◌++◌, length, take, drop, Option, Some, None, refl, ◌∙◌, ap, arith, take_at}
use Rattle.std.specs.Prelude.{IfSome}
use Rattle.std.specs.Option.{option_map}
use Rattle.kp_io.specs.Crash.{HasFront}
use Rattle.kp_io.specs.Disks.{written_at, cut_to}
use Rattle.kp_journal.specs.declared.head.Head.{Head}
use Rattle.kp_journal.specs.Heads.{head_bytes, headed}

pub head_long : (h : Head) → length (head_bytes h) ≡ 22
head_long h = refl

headed_is : (bytes xs : List ℕ) → length bytes ≡ 22 → 0 < length xs → cut_to 23 (written_at 1 bytes xs) ≡ take 1 xs ++ bytes
headed_is bytes [] size lt = absurd (omega (arith, lt))
headed_is bytes (x ∷ xs) size lt = take_at (x ∷ bytes) (drop (1 + length bytes) (x ∷ xs)) 23 (omega (arith, size))

pub held_headed : (h : Head) (bytes : List ℕ) (o end : Option (List ℕ)) → IfSome o (λ xs. 0 < length xs) → bytes ≡ head_bytes h
    → end ≡ option_map (cut_to 23) (option_map (written_at 1 bytes) o) → end ≡ option_map (headed h) o
held_headed h bytes None end there is was = was
held_headed h bytes (Some xs) end there is was = was ∙ ap Some (headed_is bytes xs (ap length is) there ∙ ap (λ (l : List ℕ). take 1 xs ++ l) is)

pub headed_front : (h : Head) (xs : List ℕ) → 0 < length xs → HasFront 1 xs (headed h xs)
headed_front h [] lt = absurd (omega (arith, lt))
headed_front h (x ∷ xs) lt = refl
