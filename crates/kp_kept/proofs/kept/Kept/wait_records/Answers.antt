use Rattle.std.proofs.Common.{sym, ◌∙◌}
use Rattle.kp_kept.specs.Ahead.{all_records}
use Rattle.kp_kept.proofs.Joining.{pushed_waits, pushed_open, pushed_wants, dropped_waits}
use Rattle.kp_kept.proofs.kept.Kept.wait_records.Goals as goal

pub invariant_of-self-clause-plain : goal.invariant_of-self-clause-plain
invariant_of-self-clause-plain g c = pushed_open c.args.self.now.waiting.items c.push_reserved.new.self.items c.args.records c.args.self.now.plain c.requires.plain c.push_reserved.ensures.items

pub returns-then-is_some-clause-waits : goal.returns-then-is_some-clause-waits
returns-then-is_some-clause-waits g c = dropped_waits c.args.self.now.image (all_records c.args.self.now.waiting.items) c.args.records (sym c.is_some.ensures ∙ c.if-is_some.true)

pub returns-else-is_some-clause-waits : goal.returns-else-is_some-clause-waits
returns-else-is_some-clause-waits g c = pushed_waits c.args.self.now.image c.args.self.now.waiting.items c.push_reserved.new.self.items c.args.records (sym c.is_some.ensures ∙ c.if-is_some.false) c.push_reserved.ensures.items

pub invariant_of-self-clause-wanted : goal.invariant_of-self-clause-wanted
invariant_of-self-clause-wanted g c = pushed_wants c.args.self.now.waiting.items c.push_reserved.new.self.items c.args.records c.args.self.now.wanted c.requires.some c.push_reserved.ensures.items
