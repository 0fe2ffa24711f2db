use Rattle.std.proofs.Common.{ap, sym, ◌∙◌}
use Rattle.std.specs.Prelude.{min}
use Rattle.kp_plain.proofs.Above.{isnt, none_behind}
use Rattle.kp_plain.proofs.shown.kids_of_new.Goals as goal

pub returns-then-is_behind : goal.returns-then-is_behind
returns-then-is_behind c = sym (ap (λ n. min n 2147483647) (none_behind c.args.nodes.now c.args.path.now (isnt _ (sym c.ne.ensures ∙ c.if-ne.true)) (c.is_behind.ensures c.if-is_behind.true)))
