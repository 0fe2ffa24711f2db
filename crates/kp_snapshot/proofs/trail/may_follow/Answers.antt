use Rattle.std.proofs.Common.{◌∙◌, sym}
use Rattle.kp_snapshot.proofs.Judged.{judged, followed, first_ups, first_judged, not_judged, root_formed}
use Rattle.kp_snapshot.proofs.trail.may_follow.Goals as goal

pub returns-then-is_empty-clause-answer : goal.returns-then-is_empty-clause-answer
returns-then-is_empty-clause-answer c = λ before st. c.eq.ensures ∙ first_judged before c.args.last.now c.args.path.now c.args.ups.now.items c.if-is_empty.ensures st

pub returns-then-is_empty-clause-ups : goal.returns-then-is_empty-clause-ups
returns-then-is_empty-clause-ups c = λ before st yes. first_ups before c.args.last.now c.args.path.now c.args.ups.now.items c.if-is_empty.ensures st

pub returns-in-Err-clause-answer : goal.returns-in-Err-clause-answer
returns-in-Err-clause-answer c = λ before st. not_judged before c.args.last.now c.args.path.now c.args.ups.now.items c.if-is_empty.ensures c.in-Err.ensures st

pub returns-in-Ok-clause-answer : goal.returns-in-Ok-clause-answer
returns-in-Ok-clause-answer c = λ before st. judged before c.args.last.now c.args.path.now c.args.ups.now.items c.may_come.result c.if-is_empty.ensures c.in-Ok.ensures (c.may_come.ensures.answer before) st

pub returns-in-Ok-clause-ups : goal.returns-in-Ok-clause-ups
returns-in-Ok-clause-ups c = λ before st yes. followed before c.args.last.now c.args.path.now c.args.ups.now.items c.may_come.new.ups.items c.if-is_empty.ensures (λ end lengths. c.may_come.ensures.ups before end lengths yes) st

pub returns-then-is_empty-clause-formed : goal.returns-then-is_empty-clause-formed
returns-then-is_empty-clause-formed c = λ yes. root_formed c.args.path.now (sym c.eq.ensures ∙ yes)
