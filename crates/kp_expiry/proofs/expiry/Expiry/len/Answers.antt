use Rattle.std.proofs.Common.{ap, sym, ◌∙◌}
use Rattle.std.specs.FinMap as map
use Rattle.kp_expiry.proofs.Indexed.{len-base_of}
use Rattle.kp_expiry.proofs.expiry.Expiry.len.Goals as goal

pub returns : goal.returns
returns c = c.len.ensures.len ∙ sym (len-base_of c.self.inside.known.entries c.len.ensures.unique) ∙ ap map.len c.self.view_is
