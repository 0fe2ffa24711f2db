use Rattle.std.proofs.Common.{ap, ◌∙◌}
use Rattle.kp_model.specs.Path.{before_slash, last_slash}
use Rattle.kp_path.proofs.Numbered.{same_parent}
use Rattle.kp_path.proofs.sequence_parent.Goals as goal

pub returns : goal.returns
returns c = λ n small. c.before-2.ensures ∙ ap (before_slash c.args.path.now) (c.last_slash.ensures.place ∙ ap last_slash c.as_bytes.ensures.value) ∙ same_parent c.args.path.now n small
