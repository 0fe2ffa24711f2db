use Rattle.std.proofs.Common.{◌+◌, nat_eq, cond, Some, ap, sym, ◌∙◌}
use Rattle.kp_layers.specs.Grouped.{number, read}
use Rattle.kp_layers.proofs.Counted.{added}
use Rattle.kp_layers.proofs.index.put_first.Goals as goal

pub returns-clause-ok : goal.returns-clause-ok
returns-clause-ok g c = added g.G.PartialEq.eq g.met.G.Eq.laws _ _ c.args.group _ c.in_ok-insert.ensures.updates.0 c.args.key
    (λ k. c.in_ok-counts.ensures k ∙ ap (λ o. cond (nat_eq c.args.key k) (Some (number (read o k) + 1)) (read o k)) (sym c.requires))
