use Rattle.std.proofs.Common.{◌∙◌, ◌++◌, sym, ap}
use Rattle.std.specs.Option.{option_map}
use Rattle.std.specs.List.{slice_split}
use Rattle.kp_text.specs.Commands.{is_separator, operations_of}
use Rattle.kp_text.specs.WordParts.{parts_left}
use Rattle.kp_text.proofs.AclSteps.{texts}
use Rattle.kp_text.proofs.MultiSteps.{operations_more, operations_stop, operations_end}
use Rattle.kp_text.proofs.command.operations_of.Goals as goal

pub returns-in-None : goal.returns-in-None
returns-in-None c =
    operations_stop c.loop-rest.operations (operations_of (slice_split is_separator (texts c.args.words.now))) (texts c.first_part.result.0.now) (parts_left c.first_part.result.1) (parts_left c.loop-rest.rest)
    (ap parts_left c.in-Some.is ∙ c.first_part.ensures.parts) (sym c.in-None.is ∙ c.in_ok-operation_in.ensures) c.loop-rest.invariant

pub loop-rest-preserved : goal.loop-rest-preserved
loop-rest-preserved c =
    operations_more c.loop-rest.operations c.push.new.self c.in-Some-2.operation (operations_of (slice_split is_separator (texts c.args.words.now))) (texts c.first_part.result.0.now) (parts_left c.first_part.result.1) (parts_left c.loop-rest.rest)
    (ap parts_left c.in-Some.is ∙ c.first_part.ensures.parts) (sym c.in-Some-2.is ∙ c.in_ok-operation_in.ensures) c.in_ok-push-in-Some-2.ensures.ok c.loop-rest.invariant

pub returns : goal.returns
returns c =
    operations_end c.loop-rest.operations (operations_of (slice_split is_separator (texts c.args.words.now)))
    (sym (ap (λ r. option_map (λ more. c.loop-rest.operations ++ more) (operations_of (parts_left r))) c.in_default.is) ∙ c.loop-rest.invariant)
