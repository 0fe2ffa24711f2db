use Rattle.std.proofs.Common.{ap, sym, ◌∙◌}
use Rattle.std.specs.Option.{option_copied}
use Rattle.std.specs.Str.{bytes_eq}
use Rattle.kp_model.specs.Path.{root, parent}
use Rattle.kp_cells.proofs.Maps.{no}
use Rattle.kp_act.proofs.Seen.{is_root}
use Rattle.kp_draft.proofs.draft.remove.Goals as goal

pub returns-in-None-clause-effects : goal.returns-in-None-clause-effects
returns-in-None-clause-effects g c = no (bytes_eq c.args.path.now root) c.requires.child.1 (is_root _ (parent c.args.path.now) (sym (ap option_copied c.in-None.is) ∙ c.parent.ensures))

pub returns-in-Some-clause-draft : goal.returns-in-Some-clause-draft
returns-in-Some-clause-draft g c = c.remove_under.ensures.draft
