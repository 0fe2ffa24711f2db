-- Packets: the bytes of one by themselves, its length written over the gap, and the law of their form.
use Rattle.std.proofs.Common.{◌≡◌, ℕ, ◌+◌, ◌^◌, ◌<◌, ◌≤◌, List, [], ◌∷◌, ◌++◌, length, take, drop, set, Option, Some, None, Ok, refl, sym, ap, subst, ◌∙◌, append_assoc, arith, length-append}
use Rattle.std.specs.Prelude.{IfSome}
use Rattle.std.proofs.lemmas.List.{drop-take, length-drop, nil_from_length}
use Rattle.kp_jute.specs.Form.{IsBytes, Takes, front, LawfulAtEnd, Lawful, Place, ◌>>=◌, Form, ended}
use Rattle.kp_jute.specs.Jute.{count, count_at, present_length, raw_at, packet_at, packets, buffer}
use Rattle.kp_jute.proofs.Combined.{bind_ok, ok_is, Takes-then}
use Rattle.kp_jute.proofs.Numbers.{raw_takes, raw_again}
use Rattle.kp_jute.proofs.Lengths.{counts_lawful}
use Rattle.kp_jute.proofs.AtEnd.{ended_ok, ended_again}

pub part_of : {A : Type 0} (n m : ℕ) (xs : List A) → drop n (take (n + m) xs) ≡ take m (drop n xs)
part_of n m xs = drop-take n m xs

pub none_left : {A : Type 0} (xs : List A) → drop (length xs) xs ≡ []
none_left xs = nil_from_length (drop (length xs) xs) (omega (arith, length-drop (length xs) xs))

pub filled : (bytes : List ℕ) (a b c d : ℕ) → 4 ≤ length bytes → set (set (set (set bytes 0 a) 1 b) 2 c) 3 d ≡ a ∷ b ∷ c ∷ d ∷ drop 4 bytes
filled [] a b c d le = absurd (omega (arith, le))
filled (x ∷ []) a b c d le = absurd (omega (arith, le))
filled (x ∷ y ∷ []) a b c d le = absurd (omega (arith, le))
filled (x ∷ y ∷ z ∷ []) a b c d le = absurd (omega (arith, le))
filled (x ∷ y ∷ z ∷ w ∷ rest) a b c d le = refl

present_ok : (at : ℕ) (o : Option ℕ) (n : ℕ) → present_length at o ≡ Ok n → o ≡ Some n
present_ok at None n e = absurd cc
present_ok at (Some m) n e = ap (λ (k : ℕ). Some k) (ok_is m n e)

-- the packet's bytes, from behind its length on, and what was taken for them
packet_takes : (p inner q : Place) → IsBytes p.rest → packet_at p ≡ Ok (inner, q) → Takes p (buffer (Some inner.rest)) q × IsBytes inner.rest × (length inner.rest < 2 ^ 31)
unfolding packet_at
packet_takes p inner q fits e =
    let a = bind_ok (count_at p) (λ c. present_length p.at c.0 >>= λ n. raw_at p.at n c.1 >>= λ b. Ok (front c.1.at b.0, b.1)) (inner, q) e in
    let l = bind_ok (present_length p.at a.0.0) (λ n. raw_at p.at n a.0.1 >>= λ b. Ok (front a.0.1.at b.0, b.1)) (inner, q) a.2 in
    let b = bind_ok (raw_at p.at l.0 a.0.1) (λ b. Ok (front a.0.1.at b.0, b.1)) (inner, q) l.2 in
    let n = l.0 in
    let s = counts_lawful.takes p a.0.0 a.0.1 fits a.1 in
    let known = present_ok p.at a.0.0 n l.1 in
    let head : Takes p (count (Some n)) a.0.1 = subst (λ (o : Option ℕ). Takes p (count o) a.0.1) known s.0 in
    let small : n < 2 ^ 31 = subst (λ (o : Option ℕ). IfSome o (λ k. k < 2 ^ 31)) known s.1 in
    let t = raw_takes p.at n a.0.1 b.0.0 b.0.1 s.0.rest_fits b.1 in
    let both : Takes p (count (Some n) ++ b.0.0) b.0.1 = Takes-then p (count (Some n)) a.0.1 b.0.0 b.0.1 head t.0 in
    let same : Takes p (buffer (Some b.0.0)) b.0.1 = subst (λ (k : ℕ). Takes p (count (Some k) ++ b.0.0) b.0.1) (sym t.1) both in
    subst (λ (x : Place × Place). Takes p (buffer (Some x.0.rest)) x.1 × IsBytes x.0.rest × (length x.0.rest < 2 ^ 31)) (ok_is (front a.0.1.at b.0.0, b.0.1) (inner, q) b.2) (same, t.2, omega (arith, small, t.1))

packet_again : (at : ℕ) (body rest : List ℕ) → length body < 2 ^ 31 → packet_at (front at (buffer (Some body) ++ rest)) ≡ Ok (front (at + length (count (Some (length body)))) body, front (at + length (buffer (Some body))) rest)
unfolding packet_at
packet_again at body rest small =
    let head = count (Some (length body)) in
    let len : at + length head + length body ≡ at + length (head ++ body) = omega (arith, length-append head body) in
    ap (λ (r : List ℕ). packet_at (front at r)) (append_assoc head body rest) ∙ rw (counts_lawful.again (Some (length body)) at (body ++ rest) small, raw_again at (at + length head) (length body) body rest refl) (ap (λ (n : ℕ). Ok (front (at + length head) body, front n rest)) len)

pub packets_lawful : {A : Type 0} (f : Form A) → LawfulAtEnd f → Lawful (packets f)
packets_lawful {A} f lf = record {
  takes = λ p v q fits e.
      let a = bind_ok (packet_at p) (λ x. ended (f.read x.0) >>= λ v. Ok (v, x.1)) (v, q) e in
      let b = bind_ok (ended (f.read a.0.0)) (λ v. Ok (v, a.0.1)) (v, q) a.2 in
      let s = packet_takes p a.0.0 a.0.1 fits a.1 in
      let t = ended_ok f lf a.0.0 b.0 s.1 b.1 in
      let spelled : Takes p (buffer (Some (f.spell b.0))) a.0.1 = subst (λ (x : List ℕ). Takes p (buffer (Some x)) a.0.1) t.0 s.0 in
      subst (λ (x : A × Place). Takes p (buffer (Some (f.spell x.0))) x.1 × ((length (f.spell x.0) < 2 ^ 31) × f.Fits x.0)) (ok_is (b.0, a.0.1) (v, q) b.2) (spelled, (subst (λ (x : List ℕ). length x < 2 ^ 31) t.0 s.2, t.1));
  again = λ v at rest fits.
      rw (packet_again at (f.spell v) rest fits.0, ended_again f lf v (at + length (count (Some (length (f.spell v))))) fits.1) refl;
}
