use Rattle.std.proofs.Common.{◌∙◌, arith}
use Rattle.std.proofs.lemmas.Result.{on_ok_weaker}
use Rattle.kp_io.specs.Crash.{HasRoom}
use Rattle.kp_homes.proofs.Looking.{rose_from}
use Rattle.kp_homes.proofs.Beginning.{untouched_left, untouched_rest, held_holds, all_ok}
use Rattle.kp_homes.proofs.Sound.{untouched_sound}
use Rattle.kp_homes.proofs.open.begin.Goals as goal

pub returns-clause-read : goal.returns-clause-read
returns-clause-read g c b holds = c.look.ensures.read b (held_holds g.H.Disk.held _ _ b c.in_ok-settle_all.ensures.holds holds)

pub returns-clause-live : goal.returns-clause-live
returns-clause-live g c b holds = c.look.ensures.live b (held_holds g.H.Disk.held _ _ b c.in_ok-settle_all.ensures.holds holds)

pub returns-clause-left : goal.returns-clause-left
returns-clause-left g c b told room n d lt left =
    let room1 : HasRoom c.settle_all.new.disks.moments = omega (arith, room, c.look.ensures.moment) in
    c.settle_all.ensures.left b told room1 n d lt (untouched_left g.H.Disk.held g.H.Disk.past _ _ n d c.look.ensures.same left)

pub returns-clause-rest : goal.returns-clause-rest
returns-clause-rest g c b told room =
    let room1 : HasRoom c.settle_all.new.disks.moments = omega (arith, room, c.look.ensures.moment) in
    all_ok c.look.result (untouched_rest g.H.Disk.held g.H.Disk.past _ _ b c.look.ensures.same c.look.ensures.moment (c.in_ok-settle_all.ensures.rest b told room1))

pub returns-clause-quiet : goal.returns-clause-quiet
returns-clause-quiet g c = on_ok_weaker c.look.result (λ e. e ∙ c.in_ok-settle_all.ensures.quiet) c.look.ensures.quiet

pub returns-clause-fault : goal.returns-clause-fault
returns-clause-fault g c e = rose_from _ _ _ c.in_ok-settle_all.ensures.quiet (c.look.ensures.fault e)

pub returns-clause-sound : goal.returns-clause-sound
returns-clause-sound g c b told left = untouched_sound g.H.Disk.held g.H.Disk.past _ _ c.look.ensures.same c.look.ensures.moment (c.settle_all.ensures.sound b told left)
