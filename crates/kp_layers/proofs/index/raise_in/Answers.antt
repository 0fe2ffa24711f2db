use Rattle.std.proofs.Common.{rules, ◌+◌, nat_eq, cond, Some, ap, ◌∙◌}
use Rattle.kp_layers.specs.Grouped.{number, read}
use Rattle.kp_layers.proofs.Counted.{added}
use Rattle.kp_layers.proofs.index.raise_in.Goals as goal

pub returns-in_ok-raise-in-Some-clause-ok : goal.returns-in_ok-raise-in-Some-clause-ok
returns-in_ok-raise-in-Some-clause-ok g c =
    added g.G.PartialEq.eq g.met.G.Eq.laws _ _ c.args.group c.raise.new.counts ((c.get_mut.follows.holds c.raise.new.counts).3 (search rules)).0 c.args.key
    (λ k. c.in_ok-raise-in-Some.ensures.ok k ∙ ap (λ o. cond (nat_eq c.args.key k) (Some (number (read o k) + 1)) (read o k)) c.in-Some.ensures.value)
