use Rattle.std.proofs.Common.{ap, sym, ◌∙◌}
use Rattle.std.specs.Option.{option_map}
use Rattle.std.specs.FinMap.{get}
use Rattle.kp_expiry.specs.Index.{heard_again, heard_in}
use Rattle.kp_expiry.proofs.Indexed.{get-base_of}
use Rattle.kp_expiry.proofs.Again.{heard_known}
use Rattle.kp_expiry.proofs.expiry.Expiry.touch_all.Goals as goal

pub returns : goal.returns
returns c = λ s.
    get-base_of c.hear_all.new.known.entries s
    ∙ ap heard_in (c.hear_all.ensures.known s)
    ∙ heard_known c.args.now _
    ∙ ap (option_map (heard_again c.args.now)) (sym (get-base_of c.self.inside.known.entries s) ∙ ap (λ m. get m s) c.self.view_is)
