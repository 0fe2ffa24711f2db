use Rattle.std.proofs.Common.{sym, ap, ◌∙◌}
use Rattle.std.specs.Option.{option_copied}
use Rattle.std.specs.FinMap as map
use Rattle.kp_model.specs.State.{State, meta_at}
use Rattle.kp_act.proofs.Seen.{meta_none}
use Rattle.kp_plain.proofs.Shows.{seen_none, seen_some}
use Rattle.kp_plain.proofs.tree.Tree.seen.Goals as goal

pub returns-in-None : goal.returns-in-None
returns-in-None c = seen_none c.args.self.now.nodes c.args.path.now (meta_none c.args.self.now.nodes c.args.path.now
    (sym (ap option_copied c.in-None.is) ∙ c.meta.ensures ∙ ap (λ (s : State). meta_at s.nodes c.args.path.now) c.self.view_is))

pub returns-in-None-get : goal.returns-in-None-get
returns-in-None-get c = seen_none c.args.self.now.nodes c.args.path.now
    (sym (sym (ap option_copied c.in-None-get.is) ∙ c.get.ensures ∙ ap (λ (s : State). map.get s.nodes c.args.path.now) c.self.view_is))

pub returns-in_ok-copy-in-Some-get : goal.returns-in_ok-copy-in-Some-get
returns-in_ok-copy-in-Some-get c = seen_some c.args.self.now.nodes c.args.path.now c.in_ok-copy-in-Some-get.field-0 c.in-Some-get.node.now c.in-Some.meta.now
    (sym (ap option_copied c.in-Some-get.is) ∙ c.get.ensures ∙ ap (λ (s : State). map.get s.nodes c.args.path.now) c.self.view_is)
    (sym (ap option_copied c.in-Some.is) ∙ c.meta.ensures ∙ ap (λ (s : State). meta_at s.nodes c.args.path.now) c.self.view_is)
    c.in_ok-copy-in-Some-get.ensures
