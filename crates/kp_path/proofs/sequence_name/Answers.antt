use Rattle.std.proofs.Common.{◌++◌, length, ap, ◌∙◌, arith}
use Rattle.std.specs.Fmt.{styled_decimal}
use Rattle.kp_model.specs.Sequenced.{sequenced}
use Rattle.kp_path.proofs.Digits.{padded_to_ten, length-sequenced}
use Rattle.kp_path.proofs.sequence_name.Goals as goal

pub returns-clause-name : goal.returns-clause-name
unfolding sequenced
returns-clause-name c =
    c.from_string.ensures
    ∙ c.in_ok-format.ensures.ok
    ∙ ap (λ spec. c.args.path.now ++ styled_decimal spec c.args.created) c.laid_out.ensures
    ∙ ap (λ digits. c.args.path.now ++ digits) (padded_to_ten c.args.created)

pub returns-clause-ten : goal.returns-clause-ten
returns-clause-ten c = ap length (returns-clause-name c) ∙ length-sequenced c.args.path.now c.args.created (omega arith)
