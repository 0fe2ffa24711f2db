-- Bytes that were taken are as many as were asked for.
use Rattle.std.proofs.Common.{◌≡◌, ◌≤◌, ℕ, List, length, take, ltb, Ok, subst, arith}
use Rattle.std.proofs.lemmas.Bool.{ltb-false}
use Rattle.std.proofs.lemmas.List.{length-take}
use Rattle.kp_jute.specs.declared.fault.JuteFail.TheVariants.{Short}
use Rattle.kp_jute.specs.Form.{Place, past}
use Rattle.kp_jute.specs.Jute.{raw_at}
use Rattle.kp_jute.proofs.Combined.{guard_ok}

pub raw_len : (from n : ℕ) (p : Place) (b : List ℕ) (q : Place) → raw_at from n p ≡ Ok (b, q) → length b ≡ n
unfolding raw_at
raw_len from n p b q e =
    let g = guard_ok (ltb (length p.rest) n) (Short from) (take n p.rest, past n p) (b, q) e in
    let long : n ≤ length p.rest = ltb-false _ _ g.0 in
    let len : length (take n p.rest) ≡ n = omega (arith, length-take n p.rest) in
    subst (λ (x : List ℕ × Place). length x.0 ≡ n) g.1 len
