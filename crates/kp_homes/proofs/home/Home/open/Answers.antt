use Rattle.std.proofs.Common.{inl, Some, None, arith}
use Rattle.kp_io.specs.Crash.{HasRoom}
use Rattle.kp_homes.specs.declared.fail.HomeFail.TheVariants as home_fail
use Rattle.kp_homes.specs.Opening.{first_head}
use Rattle.kp_homes.proofs.Beginning.{stands_live, live_left, live_opens, live_opened, blank_left, blank_opens, blank_opened, in_order, told_holds, nodes_as, as_found, as_live, as_node}
use Rattle.kp_homes.proofs.Holding.{opening_held}
use Rattle.kp_homes.proofs.home.Home.open.Goals as goal

pub returns-in-Ok-Some-clause-found : goal.returns-in-Ok-Some-clause-found
returns-in-Ok-Some-clause-found g c b holds = live_opens c.start_live.result c.args.node b c.in-Ok-Some.live (as_found c.args.node b _ (Some c.in-Ok-Some.live) c.in-Ok-Some.field-0-is (c.in-Ok-Some.ensures.read b holds)) c.start_live.ensures.kept c.start_live.ensures.only

pub returns-in-Ok-Some-clause-crash : goal.returns-in-Ok-Some-clause-crash
returns-in-Ok-Some-clause-crash g c b told room n d lt left =
    let room1 : HasRoom c.begin.new.disks.moments = omega (arith, room, c.start_live.ensures.moment) in
    let live = c.in-Ok-Some.live in
    let holds = told_holds g.H.Disk.held g.H.Disk.past c.args.disks b told in
    let is = as_live c.args.node b _ (Some c.in-Ok-Some.live) c.in-Ok-Some.field-0-is (c.in-Ok-Some.ensures.live b holds) in
    let st = stands_live g.H.Disk.held g.H.Disk.past _ c.args.node b live (c.in-Ok-Some.ensures.rest b told room1) is (as_node c.args.node _ c.in-Ok-Some.live c.in-Ok-Some.field-0-is c.in-Ok-Some.ensures.node) in
    in_order g.H.Disk.past c.args.disks c.begin.new.disks _ _ n d _ lt left (c.start_live.ensures.earlier b is.1.0 st room) (λ l. c.begin.ensures.left b told room1 n d lt l)
    (λ more. live_left c.args.node live.journal.head.node b d live is (as_found c.args.node b _ (Some c.in-Ok-Some.live) c.in-Ok-Some.field-0-is (c.in-Ok-Some.ensures.read b holds)) (as_node c.args.node _ c.in-Ok-Some.live c.in-Ok-Some.field-0-is c.in-Ok-Some.ensures.node) (c.start_live.ensures.crash b is.1.0 st room n d more left))

pub returns-in-Ok-Some-clause-keeps : goal.returns-in-Ok-Some-clause-keeps
returns-in-Ok-Some-clause-keeps g c b told room =
    let room1 : HasRoom c.begin.new.disks.moments = omega (arith, room, c.start_live.ensures.moment) in
    let live = c.in-Ok-Some.live in
    let holds = told_holds g.H.Disk.held g.H.Disk.past c.args.disks b told in
    let is = as_live c.args.node b _ (Some c.in-Ok-Some.live) c.in-Ok-Some.field-0-is (c.in-Ok-Some.ensures.live b holds) in
    let st = stands_live g.H.Disk.held g.H.Disk.past _ c.args.node b live (c.in-Ok-Some.ensures.rest b told room1) is (as_node c.args.node _ c.in-Ok-Some.live c.in-Ok-Some.field-0-is c.in-Ok-Some.ensures.node) in
    live_opened g.H.Disk.held g.H.Disk.past c.start_live.result c.args.node b live is (as_found c.args.node b _ (Some c.in-Ok-Some.live) c.in-Ok-Some.field-0-is (c.in-Ok-Some.ensures.read b holds)) (c.start_live.ensures.rest b is.1.0 st room)

pub returns-in-Ok-Some-clause-node : goal.returns-in-Ok-Some-clause-node
returns-in-Ok-Some-clause-node g c = nodes_as c.start_live.result c.in-Ok-Some.live.journal.head.node c.args.node c.start_live.ensures.node (as_node c.args.node _ c.in-Ok-Some.live c.in-Ok-Some.field-0-is c.in-Ok-Some.ensures.node)

pub returns-in-Ok-None-clause-found : goal.returns-in-Ok-None-clause-found
returns-in-Ok-None-clause-found g c b holds = blank_opens c.start_blank.result c.args.node b (as_found c.args.node b _ None c.in-Ok-None.field-0-is (c.in-Ok-None.ensures.read b holds)) c.start_blank.ensures.kept c.start_blank.ensures.only

pub returns-in-Ok-None-clause-crash : goal.returns-in-Ok-None-clause-crash
returns-in-Ok-None-clause-crash g c b told room n d lt left =
    let room1 : HasRoom c.begin.new.disks.moments = omega (arith, room, c.start_blank.ensures.moment) in
    let holds = told_holds g.H.Disk.held g.H.Disk.past c.args.disks b told in
    let none = as_live c.args.node b _ None c.in-Ok-None.field-0-is (c.in-Ok-None.ensures.live b holds) in
    let rest = c.in-Ok-None.ensures.rest b told room1 in
    in_order g.H.Disk.past c.args.disks c.begin.new.disks _ _ n d _ lt left (c.start_blank.ensures.earlier b rest none room) (λ l. c.begin.ensures.left b told room1 n d lt l)
    (λ more. blank_left c.args.node b d (first_head c.args.node) none (c.start_blank.ensures.crash b rest none room n d more left))

pub returns-in-Ok-None-clause-keeps : goal.returns-in-Ok-None-clause-keeps
returns-in-Ok-None-clause-keeps g c b told room =
    let room1 : HasRoom c.begin.new.disks.moments = omega (arith, room, c.start_blank.ensures.moment) in
    let holds = told_holds g.H.Disk.held g.H.Disk.past c.args.disks b told in
    let none = as_live c.args.node b _ None c.in-Ok-None.field-0-is (c.in-Ok-None.ensures.live b holds) in
    let rest = c.in-Ok-None.ensures.rest b told room1 in
    blank_opened g.H.Disk.held g.H.Disk.past c.start_blank.result c.args.node b (first_head c.args.node) none (c.start_blank.ensures.rest b rest none room)

pub returns-in-Ok-None-clause-full : goal.returns-in-Ok-None-clause-full
returns-in-Ok-None-clause-full g c slot len e = absurd (c.start_blank.ensures.only (home_fail.Full slot len) e)

pub returns-in-Err-clause-crash : goal.returns-in-Err-clause-crash
returns-in-Err-clause-crash g c b told room n d lt left = inl (c.begin.ensures.left b told room n d lt left)

pub returns-in-Ok-Some-clause-left : goal.returns-in-Ok-Some-clause-left
returns-in-Ok-Some-clause-left g c b told now room d holds =
    let room1 : HasRoom c.begin.new.disks.moments = omega (arith, room, c.start_live.ensures.moment) in
    let live = c.in-Ok-Some.live in
    let is = as_live c.args.node b _ (Some c.in-Ok-Some.live) c.in-Ok-Some.field-0-is (c.in-Ok-Some.ensures.live b (told_holds g.H.Disk.held g.H.Disk.past c.args.disks b told)) in
    let st = stands_live g.H.Disk.held g.H.Disk.past _ c.args.node b live (c.in-Ok-Some.ensures.rest b told room1) is (as_node c.args.node _ c.in-Ok-Some.live c.in-Ok-Some.field-0-is c.in-Ok-Some.ensures.node) in
    opening_held g.H.Disk.held g.H.Disk.past c.args.disks.moments _ d _ (omega (arith, c.begin.ensures.moment, c.start_live.ensures.moment)) (c.start_live.ensures.sound b is.1.0 st room) holds
    (λ n lt left. returns-in-Ok-Some-clause-crash g c b told room n d lt left)

pub returns-in-Ok-None-clause-left : goal.returns-in-Ok-None-clause-left
returns-in-Ok-None-clause-left g c b told now room d holds =
    let room1 : HasRoom c.begin.new.disks.moments = omega (arith, room, c.start_blank.ensures.moment) in
    let none = as_live c.args.node b _ None c.in-Ok-None.field-0-is (c.in-Ok-None.ensures.live b (told_holds g.H.Disk.held g.H.Disk.past c.args.disks b told)) in
    opening_held g.H.Disk.held g.H.Disk.past c.args.disks.moments _ d _ (omega (arith, c.begin.ensures.moment, c.start_blank.ensures.moment)) (c.start_blank.ensures.sound b (c.in-Ok-None.ensures.rest b told room1) none room) holds
    (λ n lt left. returns-in-Ok-None-clause-crash g c b told room n d lt left)

pub returns-in-Err-clause-left : goal.returns-in-Err-clause-left
returns-in-Err-clause-left g c b told now room d holds =
    opening_held g.H.Disk.held g.H.Disk.past c.args.disks.moments _ d _ c.begin.ensures.moment (c.begin.ensures.sound b told now) holds (λ n lt left. returns-in-Err-clause-crash g c b told room n d lt left)
