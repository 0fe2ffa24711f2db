use Rattle.std.proofs.Common.{ap, sym, ◌∙◌}
use Rattle.std.specs.Option.{option_copied}
use Rattle.kp_plain.proofs.Shows.{found_fits}
use Rattle.kp_plain.proofs.shown.show.Goals as goal

pub shown-meta-requires : goal.shown-meta-requires
shown-meta-requires c = found_fits c.args.nodes.now c.args.path c.in-Some.node.now c.requires.nodes (sym (ap option_copied c.in-Some.is) ∙ c.find_in.ensures)
