use Rattle.std.proofs.Common.{ap, sym, ◌∙◌}
use Rattle.std.specs.Option.{option_copied}
use Rattle.kp_cells.proofs.Poured.{kids_shown}
use Rattle.kp_cells.proofs.cells.Cells.kids_of.Goals as goal

pub returns-in-Some : goal.returns-in-Some
returns-in-Some c = kids_shown c.args.self.now c.args.path.now c.in-Some.meta.now c.requires (sym c.committed_meta.ensures ∙ ap option_copied c.in-Some.is)
