use Rattle.std.proofs.Common.{ap, sym, ◌∙◌}
use Rattle.std.specs.FinMap.{get}
use Rattle.kp_expiry.specs.Index.{heard_in}
use Rattle.kp_expiry.proofs.Indexed.{get-base_of}
use Rattle.kp_expiry.proofs.expiry.Expiry.heard.Goals as goal

pub returns-in-Some : goal.returns-in-Some
returns-in-Some c =
    ap heard_in c.in-Some.ensures.value
    ∙ sym (get-base_of c.self.inside.known.entries c.args.session)
    ∙ ap (λ m. get m c.args.session) c.self.view_is

pub returns-in-None : goal.returns-in-None
returns-in-None c =
    ap heard_in c.in-None.ensures.value
    ∙ sym (get-base_of c.self.inside.known.entries c.args.session)
    ∙ ap (λ m. get m c.args.session) c.self.view_is
