use Rattle.std.proofs.Common.{ap, sym, ◌∙◌, Some}
use Rattle.std.specs.Prelude.{string_bytes}
use Rattle.std.specs.Option.{option_map}
use Rattle.std.specs.FinMap.{get}
use Rattle.kp_cells.proofs.Named.{get-texts_in}
use Rattle.kp_cells.proofs.names.Names.text.Goals as goal

pub returns-in-Some-clause-value : goal.returns-in-Some-clause-value
returns-in-Some-clause-value c =
    ap Some c.as_str.ensures.value
    ∙ ap (option_map string_bytes) c.in-Some.ensures.value
    ∙ sym (get-texts_in c.self.inside.texts.entries c.args.number)
    ∙ ap (λ n. get n.texts c.args.number) c.self.view_is

pub returns-in-None-clause-value : goal.returns-in-None-clause-value
returns-in-None-clause-value c =
    ap (option_map string_bytes) c.in-None.ensures.value
    ∙ sym (get-texts_in c.self.inside.texts.entries c.args.number)
    ∙ ap (λ n. get n.texts c.args.number) c.self.view_is
