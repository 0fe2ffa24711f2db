use Rattle.std.proofs.Common.{ap, sym, ◌∙◌, cond, Some}
use Rattle.std.specs.Prelude.{string_bytes}
use Rattle.std.specs.Str.{bytes_eq}
use Rattle.std.proofs.lemmas.Map.Text.{hash_map_updates_text}
use Rattle.kp_cells.proofs.Named.{get-numbers_in}
use Rattle.kp_cells.proofs.names.add_number.Goals as goal

pub returns-clause-ok : goal.returns-clause-ok
returns-clause-ok c = λ p.
    get-numbers_in c.insert.new.self.entries p
    ∙ hash_map_updates_text (string_bytes c.args.path) c.args.numbers.now c.insert.new.self (Some c.args.number) c.in_ok-insert.ensures.updates p
    ∙ ap (cond (bytes_eq (string_bytes c.args.path) p) (Some c.args.number)) (sym (get-numbers_in c.args.numbers.now.entries p))
