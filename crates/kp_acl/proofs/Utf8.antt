-- The test of UTF-8.
use Rattle.std.proofs.Common.{◌≡◌, ℕ, Bool, true, false, List, refl}
use Rattle.std.specs.Str.{IsUtf8, is_utf8}
use Rattle.std.proofs.lemmas.Str.{IsUtf8-from_is_utf8, is_utf8-from_IsUtf8}

-- text passes it
pub passes : (bytes : List ℕ) → IsUtf8 bytes → is_utf8 bytes ≡ true
passes bytes text = is_utf8-from_IsUtf8 bytes text

-- other bytes don't
pub fails : (bytes : List ℕ) → ¬ (IsUtf8 bytes) → is_utf8 bytes ≡ false
fails bytes other = answer (is_utf8 bytes) (λ e. other (IsUtf8-from_is_utf8 bytes e)) where
  answer : (b : Bool) → ¬ (b ≡ true) → b ≡ false
  answer false isnt = refl
  answer true isnt = absurd (isnt refl)
