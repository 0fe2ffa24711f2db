use Rattle.std.proofs.Common.{refl}
use Rattle.kp_snapshot.specs.Rules.{is_open}
use Rattle.kp_snapshot.proofs.Judged.{come, came}
use Rattle.kp_snapshot.proofs.trail.may_come.Goals as goal

pub returns-clause-answer : goal.returns-clause-answer
returns-clause-answer c = λ before end lengths. come before c.args.last.now c.args.path.now c.as_bytes.result.now c.as_bytes-2.result.now c.args.ups.now.items c.follow.new.ups.items c.deref.result.now c.has.result c.parent_len.result c.as_bytes.ensures.value c.as_bytes-2.ensures.value c.deref.ensures.value c.if-not-follow.ensures.order (λ u no. c.if-not-follow.ensures.ups (is_open before) u no refl) (λ u. c.has.ensures (is_open before) c.args.path.now u c.parent_len.ensures.within) c.parent_len.ensures.begins end lengths

pub returns-clause-ups : goal.returns-clause-ups
returns-clause-ups c = λ before end lengths yes. came before c.args.last.now c.args.path.now c.as_bytes.result.now c.as_bytes-2.result.now c.args.ups.now.items c.follow.new.ups.items c.as_bytes.ensures.value c.as_bytes-2.ensures.value (λ u no. c.if-not-follow.ensures.ups (is_open before) u no refl) end lengths
