use Rattle.std.proofs.Common.{ap, sym, ◌∙◌, cond, None}
use Rattle.std.specs.Str.{bytes_eq}
use Rattle.std.proofs.lemmas.Map.Text.{hash_map_updates_text}
use Rattle.kp_cells.proofs.Named.{get-numbers_in}
use Rattle.kp_cells.proofs.names.remove_number.Goals as goal

pub returns : goal.returns
returns c = λ p.
    get-numbers_in c.remove.new.self.entries p
    ∙ hash_map_updates_text c.args.path.now c.args.numbers.now c.remove.new.self None c.remove.ensures.updates p
    ∙ ap (cond (bytes_eq c.args.path.now p) None) (sym (get-numbers_in c.args.numbers.now.entries p))
