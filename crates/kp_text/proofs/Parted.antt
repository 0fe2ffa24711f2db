-- A text and its words: no word has a space, and words joined by spaces are parted there again.
use Rattle.std.proofs.Common.{◌≡◌, ◌<◌, ◌+◌, ℕ, Bool, true, false, cond, not, ◌&&◌, List, [], ◌∷◌, ◌++◌, length, Some, arith, refl, ap, subst, sym, ◌∙◌, length-append}
use Rattle.std.specs.List.{list_all, onto_first, join_with_byte, All}
use Rattle.std.specs.Str.{is_utf8, IsUtf8}
use Rattle.std.proofs.Math.Seq.{get_or-append_seam, take-append_seam, drop-append-add}
use Rattle.std.proofs.lemmas.List.Elements.{All-cons, All-nil}
use Rattle.std.proofs.lemmas.List.Splits.{slice_split_none, slice_split_at, join_with_byte-slice_split}
use Rattle.std.proofs.lemmas.Str.{IsUtf8-from_is_utf8, is_utf8-from_IsUtf8, IsUtf8-append, IsUtf8-take, IsUtf8-drop, IsCharBoundary-before_ascii, IsCharBoundary-after_ascii, IsUtf8-nil, IsUtf8-from_ascii}
use Rattle.std.proofs.lemmas.Str.Ascii.{IsAscii-nil, IsAscii-cons}
use Rattle.kp_text.specs.Words.{is_space, words_of}
use Rattle.kp_text.specs.Spelling.{is_plain, is_part}
use Rattle.kp_text.specs.Lines.{line_of, of_words}
use Rattle.kp_text.specs.declared.line.StoreLine.{StoreLine}
use Rattle.kp_text.proofs.Numerals.{left, right}
use Rattle.kp_text.proofs.Spelled.{both}
use Rattle.kp_text.proofs.LineWords.{text_line}

plain_onto : (x : ℕ) (parts : List (List ℕ)) (b : Bool) → is_space x ≡ b → list_all is_plain parts ≡ true → list_all is_plain (cond b ([] ∷ parts) (onto_first x parts)) ≡ true
plain_onto x parts true e h = h
plain_onto x [] false e h = ap (λ v. (not v && true) && true) e
plain_onto x (part ∷ parts) false e h = ap (λ v. (not v && is_plain part) && list_all is_plain parts) e ∙ h

-- no word of a text has a space
pub words_are_plain : (text : List ℕ) → list_all is_plain (words_of text) ≡ true
unfolding words_of
words_are_plain [] = refl
words_are_plain (x ∷ xs) = plain_onto x (words_of xs) (is_space x) refl (words_are_plain xs)

both_parts : (ws : List (List ℕ)) → list_all is_plain ws ≡ true → list_all is_utf8 ws ≡ true → list_all is_part ws ≡ true
both_parts [] p u = refl
both_parts (w ∷ ws) p u =
    both (is_part w) (list_all is_part ws) (both (is_plain w) (is_utf8 w) (left (is_plain w) (list_all is_plain ws) p) (left (is_utf8 w) (list_all is_utf8 ws) u))
    (both_parts ws (right (is_plain w) (list_all is_plain ws) p) (right (is_utf8 w) (list_all is_utf8 ws) u))

-- a text is its words, joined by spaces
pub words_are_all : (text : List ℕ) → join_with_byte 32 (words_of text) ≡ text
unfolding words_of
words_are_all text = join_with_byte-slice_split 32 text

-- what stands on either side of an ASCII character in a text is a text
pub parted_utf8 : (c : ℕ) → c < 128 → (w rest : List ℕ) → IsUtf8 (w ++ c ∷ rest) → IsUtf8 w × IsUtf8 rest
parted_utf8 c small w rest h =
    let len = length-append w (c ∷ rest) in
    let seam = get_or-append_seam w c rest 0 in
    let before = IsCharBoundary-before_ascii (w ++ c ∷ rest) (length w) (omega (arith, len)) (omega (arith, seam, small)) in
    let after = IsCharBoundary-after_ascii (w ++ c ∷ rest) (length w) h (omega (arith, len)) (omega (arith, seam, small)) in (
      subst IsUtf8 (take-append_seam w (c ∷ rest)) (IsUtf8-take (w ++ c ∷ rest) (length w) h before),
      subst IsUtf8 (drop-append-add w (c ∷ rest) 1) (IsUtf8-drop (w ++ c ∷ rest) (length w + 1) h after),
    )

joined_at_utf8 : (c : ℕ) → c < 128 → (w rest : List ℕ) → IsUtf8 w → IsUtf8 rest → IsUtf8 (w ++ c ∷ rest)
joined_at_utf8 c small w rest h more =
    let one : IsUtf8 (c ∷ []) = IsUtf8-from_ascii (c ∷ []) (IsAscii-cons c [] small IsAscii-nil) in
    IsUtf8-append w (c ∷ rest) h (IsUtf8-append (c ∷ []) rest one more)

plain_at : (c : ℕ) (w rest : List ℕ) → is_plain (w ++ c ∷ rest) ≡ true → (is_plain w ≡ true) × (is_plain rest ≡ true)
plain_at c [] rest h = (refl, right (not (is_space c)) (is_plain rest) h)
plain_at c (b ∷ w) rest h =
    let more = plain_at c w rest (right (not (is_space b)) (is_plain (w ++ c ∷ rest)) h) in
    (both (not (is_space b)) (is_plain w) (left (not (is_space b)) (is_plain (w ++ c ∷ rest)) h) more.0, more.1)

joined_plain : (c : ℕ) (w rest : List ℕ) → not (is_space c) ≡ true → is_plain w ≡ true → is_plain rest ≡ true → is_plain (w ++ c ∷ rest) ≡ true
joined_plain c [] rest n h more = both (not (is_space c)) (is_plain rest) n more
joined_plain c (b ∷ w) rest n h more =
    both (not (is_space b)) (is_plain (w ++ c ∷ rest)) (left (not (is_space b)) (is_plain w) h) (joined_plain c w rest n (right (not (is_space b)) (is_plain w) h) more)

-- the same of texts without a space
pub part_at : (c : ℕ) → c < 128 → (w rest : List ℕ) → is_part (w ++ c ∷ rest) ≡ true → (is_part w ≡ true) × (is_part rest ≡ true)
part_at c small w rest h =
    let plain = plain_at c w rest (left (is_plain (w ++ c ∷ rest)) (is_utf8 (w ++ c ∷ rest)) h) in
    let utf8 = parted_utf8 c small w rest (IsUtf8-from_is_utf8 (w ++ c ∷ rest) (right (is_plain (w ++ c ∷ rest)) (is_utf8 (w ++ c ∷ rest)) h)) in
    (both (is_plain w) (is_utf8 w) plain.0 (is_utf8-from_IsUtf8 w utf8.0), both (is_plain rest) (is_utf8 rest) plain.1 (is_utf8-from_IsUtf8 rest utf8.1))

pub joined_part : (c : ℕ) → c < 128 → not (is_space c) ≡ true → (w rest : List ℕ) → is_part w ≡ true → is_part rest ≡ true → is_part (w ++ c ∷ rest) ≡ true
joined_part c small n w rest h more =
    let utf8 = joined_at_utf8 c small w rest (IsUtf8-from_is_utf8 w (right (is_plain w) (is_utf8 w) h)) (IsUtf8-from_is_utf8 rest (right (is_plain rest) (is_utf8 rest) more)) in
    both (is_plain (w ++ c ∷ rest)) (is_utf8 (w ++ c ∷ rest)) (joined_plain c w rest n (left (is_plain w) (is_utf8 w) h) (left (is_plain rest) (is_utf8 rest) more)) (is_utf8-from_IsUtf8 (w ++ c ∷ rest) utf8)

-- the words of a text are texts
pub words_are_utf8 : (ws : List (List ℕ)) → IsUtf8 (join_with_byte 32 ws) → list_all is_utf8 ws ≡ true
words_are_utf8 [] h = refl
words_are_utf8 (w ∷ []) h = both (is_utf8 w) true (is_utf8-from_IsUtf8 w h) refl
words_are_utf8 (w ∷ v ∷ ws) h =
    let p = parted_utf8 32 (omega arith) w (join_with_byte 32 (v ∷ ws)) h in
    both (is_utf8 w) (list_all is_utf8 (v ∷ ws)) (is_utf8-from_IsUtf8 w p.0) (words_are_utf8 (v ∷ ws) p.1)

-- texts joined by spaces are a text
pub joined_utf8 : (ws : List (List ℕ)) → list_all is_utf8 ws ≡ true → IsUtf8 (join_with_byte 32 ws)
joined_utf8 [] h = IsUtf8-nil
joined_utf8 (w ∷ []) h = IsUtf8-from_is_utf8 w (left (is_utf8 w) true h)
joined_utf8 (w ∷ v ∷ ws) h =
    joined_at_utf8 32 (omega arith) w (join_with_byte 32 (v ∷ ws)) (IsUtf8-from_is_utf8 w (left (is_utf8 w) (list_all is_utf8 (v ∷ ws)) h)) (joined_utf8 (v ∷ ws) (right (is_utf8 w) (list_all is_utf8 (v ∷ ws)) h))

pub no_space : (b : Bool) → not b ≡ true → b ≡ false
no_space true h = absurd (cc)
no_space false h = refl

no_spaces : (w : List ℕ) → is_plain w ≡ true → All (λ b. is_space b ≡ false) w
no_spaces [] h = All-nil (λ b. is_space b ≡ false)
no_spaces (b ∷ w) h = All-cons (λ b. is_space b ≡ false) b w (no_space (is_space b) (left (not (is_space b)) (is_plain w) h)) (no_spaces w (right (not (is_space b)) (is_plain w) h))

-- words joined by spaces are parted there again
pub words_joined : (w : List ℕ) (ws : List (List ℕ)) → list_all is_plain (w ∷ ws) ≡ true → words_of (join_with_byte 32 (w ∷ ws)) ≡ w ∷ ws
unfolding words_of
words_joined w [] h = slice_split_none is_space w (no_spaces w (left (is_plain w) true h))
words_joined w (v ∷ ws) h =
    slice_split_at is_space w 32 (join_with_byte 32 (v ∷ ws)) (no_spaces w (left (is_plain w) (list_all is_plain (v ∷ ws)) h)) refl
    ∙ ap (λ l. w ∷ l) (words_joined v ws (right (is_plain w) (list_all is_plain (v ∷ ws)) h))

pub parts_plain : (ws : List (List ℕ)) → list_all is_part ws ≡ true → list_all is_plain ws ≡ true
parts_plain [] h = refl
parts_plain (w ∷ ws) h = both (is_plain w) (list_all is_plain ws) (left (is_plain w) (is_utf8 w) (left (is_part w) (list_all is_part ws) h)) (parts_plain ws (right (is_part w) (list_all is_part ws) h))

pub parts_utf8 : (ws : List (List ℕ)) → list_all is_part ws ≡ true → list_all is_utf8 ws ≡ true
parts_utf8 [] h = refl
parts_utf8 (w ∷ ws) h = both (is_utf8 w) (list_all is_utf8 ws) (right (is_plain w) (is_utf8 w) (left (is_part w) (list_all is_part ws) h)) (parts_utf8 ws (right (is_part w) (list_all is_part ws) h))

-- the words of a text are texts without a space
pub words_are_parts : (text : List ℕ) → is_utf8 text ≡ true → list_all is_part (words_of text) ≡ true
words_are_parts text h =
    both_parts (words_of text) (words_are_plain text) (words_are_utf8 (words_of text) (subst IsUtf8 (sym (words_are_all text)) (IsUtf8-from_is_utf8 text h)))

-- words joined by spaces are read as those words
joined_line : (w : List ℕ) (ws : List (List ℕ)) → list_all is_part (w ∷ ws) ≡ true → line_of (join_with_byte 32 (w ∷ ws)) ≡ of_words (w ∷ ws)
joined_line w ws parts =
    text_line (join_with_byte 32 (w ∷ ws)) (joined_utf8 (w ∷ ws) (parts_utf8 (w ∷ ws) parts)) ∙ ap of_words (words_joined w ws (parts_plain (w ∷ ws) parts))

pub line_of_words : (ws : List (List ℕ)) (l : StoreLine) → list_all is_part ws ≡ true → of_words ws ≡ Some l → line_of (join_with_byte 32 ws) ≡ Some l
unfolding of_words
line_of_words [] l parts e = absurd (cc)
line_of_words (w ∷ ws) l parts e = joined_line w ws parts ∙ e
