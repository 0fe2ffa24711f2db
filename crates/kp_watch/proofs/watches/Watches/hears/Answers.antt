use Rattle.std.proofs.Common.{◌∙◌, sym}
use Rattle.kp_watch.proofs.Fires.{hears_none, hears_again, hears_first, not_true, not_false}
use Rattle.kp_watch.proofs.watches.Watches.hears.Goals as goal

pub returns-then-is_none : goal.returns-then-is_none
returns-then-is_none c left h =
    let none = sym c.deref.ensures.value ∙ c.is_none.ensures c.if-is_none.true in
    let r = hears_none c.args.self.now c.args.gone.now c.args.gone.now c.args.path.now c.args.kind (sym c.in_ok-conns.ensures ∙ none) left h in
    (none ∙ r.0, r.1)

pub returns-then-branch : goal.returns-then-branch
returns-then-branch c left h =
    let r = hears_first c.args.self.now c.args.gone.now c.mark.new.gone c.args.path.now c.args.kind c.in_ok-mark.ensures.change (not_true _ (sym c.in_ok-mark.ensures.new ∙ c.if-branch.true)) left h in
    (c.in_ok-conns.ensures ∙ r.0, r.1)

pub returns : goal.returns
returns c left h =
    let r = hears_again c.args.self.now c.args.gone.now c.mark.new.gone c.args.path.now c.args.kind c.in_ok-mark.ensures.change (not_false _ (sym c.in_ok-mark.ensures.new ∙ c.if-branch.false)) left h in
    (c.new.ensures.items ∙ r.0, r.1)
