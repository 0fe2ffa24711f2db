use Rattle.std.proofs.Common.{sym, ◌∙◌}
use Rattle.kp_homes.proofs.Replaying.{none_left, one_left}
use Rattle.kp_homes.proofs.replay.Replay.take_found.Goals as goal

pub returns-in-None : goal.returns-in-None
returns-in-None c rs ps k is place = none_left c.args.slot k c.args.self.now rs ps (sym c.in-None.is ∙ is)

pub returns-in-Some : goal.returns-in-Some
returns-in-Some c rs ps k is place = one_left c.take_checked.result c.args.slot k c.args.place c.args.self.now c.take_checked.new.self rs ps c.in-Some.next (sym c.in-Some.is ∙ is) place c.take_checked.ensures
