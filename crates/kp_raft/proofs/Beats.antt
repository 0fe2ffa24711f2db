-- What a leader sends, one peer behind the other.
use Rattle.std.proofs.Common.{◌≡◌, ℕ, zero, suc, ◌+◌, ◌-◌, ◌<◌, ◌≤◌, Bool, true, false, List, [], ◌∷◌, ◌++◌, length, drop, slice_get, refl, sym, ◌∙◌, ap, arith, Option, Some, None}
use Rattle.std.specs.Prelude.{cond, not, ◌&&◌, nat_eq, nat_le}
use Rattle.std.proofs.lemmas.Bool.Decides.{nat_tests}
use Rattle.kp_entry.specs.Held.{Held}
use Rattle.kp_raft.specs.declared.mail.Mail.{Mail}
use Rattle.kp_raft.specs.declared.mail.Mail.TheVariants as mail
use Rattle.kp_model.specs.Majority.{count}
use Rattle.kp_raft.specs.Numbers.{for_peers}
use Rattle.kp_raft.specs.Parts.{Running, to}
use Rattle.kp_raft.specs.Appends.{lags, append_for, install_with, beat_for}
use Rattle.kp_raftlog.proofs.Totals.{drop_next}

ahead_by : (peer me next base : ℕ) (a b : Bool) → nat_eq peer me ≡ a → nat_le next base ≡ b → (peer ≡ me → ⊥) → (not a && b) ≡ false → base < next
ahead_by peer me next base true b same low other is = let e : peer ≡ me = grind (arith, nat_tests) in absurd (other e)
ahead_by peer me next base false true same low other is = absurd (cc is)
ahead_by peer me next base false false same low other is = grind (arith, nat_tests)

-- a peer that doesn't lag is sent entries behind the base
pub runs_ahead : (peer me next base : ℕ) → (peer ≡ me → ⊥) → (not (nat_eq peer me) && nat_le next base) ≡ false → base < next
runs_ahead peer me next base other is = ahead_by peer me next base (nat_eq peer me) (nat_le next base) refl refl other is

first_of_rest : {A : Type 0} (n : ℕ) (xs : List A) → slice_get (drop n xs) 0 ≡ slice_get xs n
first_of_rest zero xs = refl
first_of_rest (suc n) [] = refl
first_of_rest (suc n) (x ∷ xs) = first_of_rest n xs

-- the mail of one peer more
pub one_peer : {I : Type 0} (me k : ℕ) (h : Held) (v : Running) (index : ℕ) (images rest : List I) (mails new : List (ℕ × Mail I))
    → rest ≡ drop (count k (lags me h v)) images
    → mails ≡ for_peers k me (beat_for me h v index images)
    → new ≡ mails ++ cond (nat_eq (k + 1) me) [] (cond (lags me h v (k + 1)) (install_with me h (k + 1) index (slice_get rest 0)) (to (k + 1) (mail.Append (append_for me h v (k + 1)))))
    → new ≡ for_peers (k + 1) me (beat_for me h v index images)
one_peer {I} me k h v index images rest mails new rest_is so_far added =
    let one : k + 1 ≡ suc k = omega arith in
    let less : suc k - 1 ≡ k = omega arith in
    let image : slice_get rest 0 ≡ slice_get images (count (suc k - 1) (lags me h v)) = ap (λ (xs : List I). slice_get xs 0) rest_is ∙ first_of_rest (count k (lags me h v)) images ∙ ap (λ (n : ℕ). slice_get images (count n (lags me h v))) (sym less) in
    added
    ∙ ap (λ (ms : List (ℕ × Mail I)). ms ++ cond (nat_eq (k + 1) me) [] (cond (lags me h v (k + 1)) (install_with me h (k + 1) index (slice_get rest 0)) (to (k + 1) (mail.Append (append_for me h v (k + 1)))))) so_far
    ∙ ap (λ (n : ℕ). for_peers k me (beat_for me h v index images) ++ cond (nat_eq n me) [] (cond (lags me h v n) (install_with me h n index (slice_get rest 0)) (to n (mail.Append (append_for me h v n))))) one
    ∙ ap (λ (o : Option I). for_peers k me (beat_for me h v index images) ++ cond (nat_eq (suc k) me) [] (cond (lags me h v (suc k)) (install_with me h (suc k) index o) (to (suc k) (mail.Append (append_for me h v (suc k)))))) image
    ∙ ap (λ (n : ℕ). for_peers n me (beat_for me h v index images)) (sym one)

cut_by : {I : Type 0} (b : Bool) (n : ℕ) (images : List I) → cond b (drop 1 (drop n images)) (drop n images) ≡ drop (cond b 1 0 + n) images
cut_by true n images = let count_ : n + 1 ≡ suc n = omega arith in let swapped : 1 + n ≡ n + 1 = omega arith in drop_next n images ∙ ap (λ (m : ℕ). drop m images) (sym swapped)
cut_by false n images = let none : 0 + n ≡ n = omega arith in ap (λ (m : ℕ). drop m images) (sym none)

-- the images that are left
pub one_image : {I : Type 0} (me k : ℕ) (h : Held) (v : Running) (images rest new : List I)
    → rest ≡ drop (count k (lags me h v)) images
    → new ≡ cond (lags me h v (k + 1)) (drop 1 rest) rest
    → new ≡ drop (count (k + 1) (lags me h v)) images
one_image {I} me k h v images rest new rest_is new_is =
    let one : k + 1 ≡ suc k = omega arith in
    new_is
    ∙ ap (λ (xs : List I). cond (lags me h v (k + 1)) (drop 1 xs) xs) rest_is
    ∙ cut_by (lags me h v (k + 1)) (count k (lags me h v)) images
    ∙ ap (λ (n : ℕ). drop (cond (lags me h v n) 1 0 + count k (lags me h v)) images) one
    ∙ ap (λ (n : ℕ). drop (count n (lags me h v)) images) (sym one)
