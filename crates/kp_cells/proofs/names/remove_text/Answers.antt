use Rattle.std.proofs.Common.{ap, sym, ◌∙◌}
use Rattle.std.specs.Prelude.{string_bytes}
use Rattle.std.specs.Option.{option_map}
use Rattle.kp_cells.proofs.Named.{get-texts_in, texts_removed}
use Rattle.kp_cells.proofs.names.remove_text.Goals as goal

pub returns-clause-path : goal.returns-clause-path
returns-clause-path c = ap (option_map string_bytes) c.remove.ensures.value ∙ sym (get-texts_in c.args.texts.now.entries c.args.number)

pub returns-clause-change : goal.returns-clause-change
returns-clause-change c = texts_removed _ _ c.args.number c.remove.ensures.updates.0
