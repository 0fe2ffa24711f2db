-- Messages, printed one behind the other.
use Rattle.std.proofs.Common.{◌≡◌, ℕ, suc, ◌+◌, ◌<◌, ◌≤◌, List, [], ◌∷◌, ◌++◌, length, drop, get_or, refl, sym, ap, ◌∙◌, append_assoc, append-nil, add-one, drop_of_length-le}
use Rattle.std.proofs.Math.Seq.{drop-cons}
use Rattle.kp_raft.specs.declared.mail.Mail.{Mail}
use Rattle.kp_play.specs.Texts.{letters_text}
use Rattle.kp_play.specs.Playing.{bytes_of}
use Rattle.kp_told.specs.Letters.{letter_line}

module _ {I : Type 0} (from : ℕ) where
  -- what these print, the first with this number
  abbrev pub posted : ℕ → List (ℕ × Mail I) → List ℕ
  posted number ms = bytes_of (letters_text from number ms)

  posted_cons : (number : ℕ) (m : ℕ × Mail I) (ms : List (ℕ × Mail I)) → posted number (m ∷ ms) ≡ letter_line from number m ++ posted (number + 1) ms
  unfolding letters_text
  posted_cons number m ms = refl

  -- and nothing where there is none
  posted_end : (number : ℕ) (ms : List (ℕ × Mail I)) → ms ≡ [] → posted number ms ≡ []
  unfolding letters_text
  posted_end number ms e = ap (posted number) e

  -- what was printed and what is still to come, behind one message more
  pub posted_more : (old new all : List ℕ) (ms : List (ℕ × Mail I)) (next i : ℕ) (m : ℕ × Mail I) → i < length ms → m ≡ get_or ms i m → new ≡ old ++ letter_line from next m
      → old ++ posted next (drop i ms) ≡ all → new ++ posted (next + 1) (drop (i + 1) ms) ≡ all
  posted_more old new all ms next i m lt at e so_far =
      let rest = posted (next + 1) (drop (i + 1) ms) in
      ap (λ l. l ++ rest) e ∙ append_assoc old (letter_line from next m) rest
      ∙ ap (λ l. old ++ (letter_line from next m ++ posted (next + 1) (drop l ms))) (add-one i)
      ∙ ap (λ l. old ++ l) (sym (posted_cons next m (drop (suc i) ms)))
      ∙ ap (λ x. old ++ posted next (x ∷ drop (suc i) ms)) at
      ∙ ap (λ l. old ++ posted next l) (sym (drop-cons ms i m lt)) ∙ so_far

  -- nothing is to come behind the last one
  pub posted_all : (out all : List ℕ) (ms : List (ℕ × Mail I)) (next i : ℕ) → length ms ≤ i → out ++ posted next (drop i ms) ≡ all → out ≡ all
  posted_all out all ms next i h so_far = sym (append-nil out) ∙ ap (λ r. out ++ r) (sym (posted_end next (drop i ms) (drop_of_length-le ms h))) ∙ so_far
