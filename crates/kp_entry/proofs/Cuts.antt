-- Strings that stand one behind the other, and the bytes and the ends that hold them.
use Rattle.std.proofs.Common.{◌≡◌, ℕ, zero, suc, ◌+◌, ◌-◌, ◌<◌, ◌≤◌, List, [], ◌∷◌, ◌++◌, length, take, drop, get_or, length-append, append_assoc, append-nil, refl, sym, ap, subst, ◌∙◌, arith, Option, Some}
use Rattle.std.specs.Prelude.{slice_get}
use Rattle.std.specs.List.{concat}
use Rattle.std.proofs.lemmas.List.{take_at, length-take}
use Rattle.std.proofs.lemmas.List.Folds.{concat-append}
use Rattle.kp_entry.specs.Pieces.{pieces, ends_of, AreOf, begin_of}

-- ---- the strings are the pieces

drop_at : (xs ys : List ℕ) (n : ℕ) → n ≡ length xs → drop n (xs ++ ys) ≡ ys
drop_at [] ys n e = ap (λ (k : ℕ). drop k ys) e
drop_at (x ∷ xs) ys n e = ap (λ (k : ℕ). drop k (x ∷ xs ++ ys)) e ∙ drop_at xs ys (length xs) refl

again : (at : ℕ) (ss : List (List ℕ)) → pieces at (concat ss) (ends_of at ss) ≡ ss
again at [] = refl
again at (s ∷ ss) =
    let len : at + length s - at ≡ length s = omega arith in
    ap (λ (t : List ℕ). t ∷ pieces (at + length s) (drop (at + length s - at) (s ++ concat ss)) (ends_of (at + length s) ss)) (take_at s (concat ss) (at + length s - at) (sym len))
    ∙ ap (λ (b : List ℕ). s ∷ pieces (at + length s) b (ends_of (at + length s) ss)) (drop_at s (concat ss) (at + length s - at) len)
    ∙ ap (λ (ts : List (List ℕ)). s ∷ ts) (again (at + length s) ss)

pub is_of : (bytes ends : List ℕ) (ss : List (List ℕ)) → AreOf bytes ends ss → pieces 0 bytes ends ≡ ss
is_of bytes ends ss h = ap (λ (b : List ℕ). pieces 0 b ends) h.joined ∙ ap (λ (e : List ℕ). pieces 0 (concat ss) e) h.ended ∙ again 0 ss

pub holds : (bytes ends : List ℕ) (ss : List (List ℕ)) → AreOf bytes ends ss → AreOf bytes ends (pieces 0 bytes ends)
holds bytes ends ss h = subst (λ (ts : List (List ℕ)). AreOf bytes ends ts) (sym (is_of bytes ends ss h)) h

pub none_are : AreOf [] [] []
none_are = record { joined = refl; ended = refl }

pub pieces_len : (at : ℕ) (bytes ends : List ℕ) → length (pieces at bytes ends) ≡ length ends
pieces_len at bytes [] = refl
pieces_len at bytes (e ∷ es) = ap (λ (n : ℕ). suc n) (pieces_len e (drop (e - at) bytes) es)

-- ---- one more

ends_push : (at : ℕ) (ss : List (List ℕ)) (s : List ℕ) → ends_of at (ss ++ s ∷ []) ≡ ends_of at ss ++ (at + length (concat ss) + length s) ∷ []
ends_push at [] s = ap (λ (n : ℕ). n ∷ []) (omega arith)
ends_push at (t ∷ ss) s =
    let len : at + length t + length (concat ss) + length s ≡ at + length (t ++ concat ss) + length s = omega (arith, length-append t (concat ss)) in
    ap (λ (es : List ℕ). (at + length t) ∷ es) (ends_push (at + length t) ss s ∙ ap (λ (n : ℕ). ends_of (at + length t) ss ++ n ∷ []) len)

pub pushed : (bytes ends new next : List ℕ) (ss : List (List ℕ)) (s : List ℕ) (end : ℕ) → AreOf bytes ends ss → new ≡ bytes ++ s → next ≡ ends ++ end ∷ [] → end ≡ length new → AreOf new next (ss ++ s ∷ [])
pushed bytes ends new next ss s end h is goes at =
    let joined : new ≡ concat (ss ++ s ∷ []) = is ∙ ap (λ (b : List ℕ). b ++ s) h.joined ∙ ap (λ (b : List ℕ). concat ss ++ b) (sym (append-nil s)) ∙ sym (concat-append ss (s ∷ [])) in
    let len : end ≡ 0 + length (concat ss) + length s = omega (arith, at, ap (λ (b : List ℕ). length b) is, length-append bytes s, ap (λ (b : List ℕ). length b) h.joined) in
    record {
      joined = joined;
      ended = goes ∙ ap (λ (es : List ℕ). es ++ end ∷ []) h.ended ∙ ap (λ (n : ℕ). ends_of 0 ss ++ n ∷ []) len ∙ sym (ends_push 0 ss s);
    }

-- ---- the first of them

ends_len : (at : ℕ) (ss : List (List ℕ)) → length (ends_of at ss) ≡ length ss
ends_len at [] = refl
ends_len at (s ∷ ss) = ap (λ (n : ℕ). suc n) (ends_len (at + length s) ss)

ends_take : (n at : ℕ) (ss : List (List ℕ)) → take n (ends_of at ss) ≡ ends_of at (take n ss)
ends_take zero at ss = refl
ends_take (suc n) at [] = refl
ends_take (suc n) at (s ∷ ss) = ap (λ (es : List ℕ). (at + length s) ∷ es) (ends_take n (at + length s) ss)

end_at : (n at d : ℕ) (ss : List (List ℕ)) → n < length ss → get_or (ends_of at ss) n d ≡ at + length (concat (take (suc n) ss))
end_at n at d [] lt = absurd (omega (arith, lt))
end_at zero at d (s ∷ ss) lt = omega (arith, length-append s [])
end_at (suc n) at d (s ∷ ss) lt = end_at n (at + length s) d ss (omega (arith, lt)) ∙ omega (arith, length-append s (concat (take (suc n) ss)))

-- where the n-th begins
begins : (n : ℕ) (ss : List (List ℕ)) → n ≤ length ss → begin_of (ends_of 0 ss) n ≡ length (concat (take n ss))
begins zero ss le = refl
begins (suc n) ss le = end_at n 0 0 ss (omega (arith, le)) ∙ omega arith

parts : (n : ℕ) (ss : List (List ℕ)) → concat ss ≡ concat (take n ss) ++ concat (drop n ss)
parts zero ss = refl
parts (suc n) [] = refl
parts (suc n) (s ∷ ss) = ap (λ (b : List ℕ). s ++ b) (parts n ss) ∙ sym (append_assoc s (concat (take n ss)) (concat (drop n ss)))

pub cut : (bytes ends new next : List ℕ) (ss : List (List ℕ)) (n end : ℕ) → AreOf bytes ends ss → n ≤ length ss → end ≡ begin_of ends n → new ≡ take end bytes → next ≡ take n ends → AreOf new next (take n ss)
cut bytes ends new next ss n end h le is one two =
    let at : end ≡ length (concat (take n ss)) = is ∙ ap (λ (es : List ℕ). begin_of es n) h.ended ∙ begins n ss le in
    record {
      joined = one ∙ ap (λ (b : List ℕ). take end b) (h.joined ∙ parts n ss) ∙ take_at (concat (take n ss)) (concat (drop n ss)) end (sym at);
      ended = two ∙ ap (λ (es : List ℕ). take n es) h.ended ∙ ends_take n 0 ss;
    }

-- ---- one of them

drop_past : (xs ys : List ℕ) (n : ℕ) → drop (length xs + n) (xs ++ ys) ≡ drop n ys
drop_past [] ys n = ap (λ (k : ℕ). drop k ys) (omega arith)
drop_past (x ∷ xs) ys n = let count : length (x ∷ xs) + n ≡ suc (length xs + n) = omega arith in ap (λ (k : ℕ). drop k (x ∷ xs ++ ys)) count ∙ drop_past xs ys n

piece : (n : ℕ) (ss : List (List ℕ)) → n < length ss → slice_get ss n ≡ Some (take (length (concat (take (suc n) ss)) - length (concat (take n ss))) (drop (length (concat (take n ss))) (concat ss)))
piece n [] lt = absurd (omega (arith, lt))
piece zero (s ∷ ss) lt =
    let len : length (s ++ []) - 0 ≡ length s = omega (arith, length-append s []) in
    ap Some (sym (take_at s (concat ss) (length (s ++ []) - 0) (sym len)))
piece (suc n) (s ∷ ss) lt =
    let from : length (s ++ concat (take n ss)) ≡ length s + length (concat (take n ss)) = length-append s (concat (take n ss)) in
    let to : length (s ++ concat (take (suc n) ss)) ≡ length s + length (concat (take (suc n) ss)) = length-append s (concat (take (suc n) ss)) in
    let len : length (concat (take (suc n) ss)) - length (concat (take n ss)) ≡ length (s ++ concat (take (suc n) ss)) - length (s ++ concat (take n ss)) = omega (arith, from, to) in
    let rest : drop (length (s ++ concat (take n ss))) (s ++ concat ss) ≡ drop (length (concat (take n ss))) (concat ss) = ap (λ (k : ℕ). drop k (s ++ concat ss)) from ∙ drop_past s (concat ss) (length (concat (take n ss))) in
    piece n ss (omega (arith, lt)) ∙ ap (λ (k : ℕ). Some (take k (drop (length (concat (take n ss))) (concat ss)))) len ∙ ap (λ (b : List ℕ). Some (take (length (s ++ concat (take (suc n) ss)) - length (s ++ concat (take n ss))) b)) (sym rest)

grows : (n : ℕ) (ss : List (List ℕ)) → length (concat (take n ss)) ≤ length (concat (take (suc n) ss))
grows zero [] = omega arith
grows (suc n) [] = omega arith
grows zero (s ∷ ss) = omega arith
grows (suc n) (s ∷ ss) = omega (arith, grows n ss, length-append s (concat (take n ss)), length-append s (concat (take (suc n) ss)))

-- from where one begins to where it ends
pub found : (bytes ends : List ℕ) (ss : List (List ℕ)) (n start end : ℕ) → AreOf bytes ends ss → n < length ss → start ≡ begin_of ends n → end ≡ get_or ends n end → (slice_get ss n ≡ Some (take (end - start) (drop start bytes))) × (start ≤ end) × (end ≤ length bytes)
found bytes ends ss n start end h lt from to =
    let a : start ≡ length (concat (take n ss)) = from ∙ ap (λ (es : List ℕ). begin_of es n) h.ended ∙ begins n ss (omega (arith, lt)) in
    let b : end ≡ length (concat (take (suc n) ss)) = to ∙ ap (λ (es : List ℕ). get_or es n end) h.ended ∙ end_at n 0 end ss lt ∙ omega arith in
    let next : length (concat (take n ss)) ≤ length (concat (take (suc n) ss)) = grows n ss in
    let all : length (concat (take (suc n) ss)) ≤ length (concat ss) = omega (arith, ap (λ (x : List ℕ). length x) (parts (suc n) ss), length-append (concat (take (suc n) ss)) (concat (drop (suc n) ss))) in
    (piece n ss lt ∙ rw (sym a, sym b) (ap (λ (x : List ℕ). Some (take (end - start) (drop start x))) (sym h.joined)), omega (arith, a, b, next), omega (arith, b, all, ap (λ (x : List ℕ). length x) h.joined))
