use Rattle.std.proofs.Common.{arith, sym, ap, ◌∙◌, ℕ, nat_lt, get_or}
use Rattle.kp_snapshot.proofs.Prefixes.{right_is_first, left_is_first, byte_decides}
use Rattle.kp_snapshot.proofs.trail.rises.Goals as goal

pub returns-then-at-b : goal.returns-then-at-b
returns-then-at-b c = sym (right_is_first c.args.a.now c.args.b.now (omega (arith, c.if-at-b.true, c.requires)))

pub returns-then-at-a : goal.returns-then-at-a
returns-then-at-a c = sym (left_is_first c.args.a.now c.args.b.now (omega (arith, c.if-at-a.true, c.requires)) (omega (arith, c.if-at-b.false, c.requires)))

pub returns : goal.returns
returns c = ap (λ (n : ℕ). nat_lt (get_or c.args.a.now n 0) (get_or c.args.b.now n 0)) c.requires ∙ sym (byte_decides c.args.a.now c.args.b.now (omega (arith, c.if-at-a.false, c.requires)) (omega (arith, c.if-at-b.false, c.requires)))
