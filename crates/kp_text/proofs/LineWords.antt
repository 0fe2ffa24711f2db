-- Whether a text is a line at all.
use Rattle.std.proofs.Common.{◌≡◌, Bool, true, false, cond, List, ℕ, None, refl, ap}
use Rattle.std.specs.Str.{is_utf8, IsUtf8}
use Rattle.std.proofs.lemmas.Str.{IsUtf8-from_is_utf8, is_utf8-from_IsUtf8}
use Rattle.kp_text.specs.Words.{words_of}
use Rattle.kp_text.specs.Lines.{line_of, of_words}

pub must_fail : (b : Bool) → (b ≡ true → ⊥) → b ≡ false
must_fail true h = absurd (h refl)
must_fail false h = refl

pub no_line : (text : List ℕ) → (IsUtf8 text → ⊥) → line_of text ≡ None
unfolding line_of
no_line text h = ap (λ b. cond b (of_words (words_of text)) None) (must_fail (is_utf8 text) (λ e. h (IsUtf8-from_is_utf8 text e)))

pub text_line : (text : List ℕ) → IsUtf8 text → line_of text ≡ of_words (words_of text)
unfolding line_of
text_line text h = ap (λ b. cond b (of_words (words_of text)) None) (is_utf8-from_IsUtf8 text h)
