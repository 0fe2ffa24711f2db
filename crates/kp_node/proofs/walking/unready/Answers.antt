use Rattle.std.proofs.Common.{not}
use Rattle.std.specs.FinMap as map
use Rattle.kp_step.specs.Step.{is_ready}
use Rattle.kp_node.proofs.Walked.{notes_on}
use Rattle.kp_node.proofs.walking.unready.Goals as goal

pub loop-next-preserved : goal.loop-next-preserved
loop-next-preserved c = notes_on c.args.seats.now.seats (λ k. not (is_ready (map.get c.args.seats.now.seats k))) c.loop-next.conn c.loop-next.list.items c.loop-next.invariant c.in-Some.next c.note.new.list.items c.in-Some.ensures.list c.in_ok-note.ensures
