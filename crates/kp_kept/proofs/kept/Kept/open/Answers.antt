use Rattle.std.proofs.Common.{sym, subst, ◌∙◌}
use Rattle.kp_io.specs.Crash.{HasRoom}
use Rattle.kp_io.specs.declared.home.Four.{Four}
use Rattle.kp_homes.specs.Homes as homes
use Rattle.kp_homes.specs.Opening.{Found, booted, found}
use Rattle.kp_homes.specs.Stands.{HomeLeft}
use Rattle.kp_kept.proofs.Based.{found_behind, same_found}
use Rattle.kp_kept.proofs.Opened.{opens_node, opens_up}
use Rattle.kp_kept.proofs.kept.Kept.open.Goals as goal

pub returns-in-Ok-clause-found : goal.returns-in-Ok-clause-found
returns-in-Ok-clause-found g c = λ b holds.
    let k = c.in-Ok.ensures.found b holds in
    opens_node c.args.node c.args.members c.args.now c.in-Ok.kept k.0 k.2 (found_behind c.args.node b k.0 k.1) c.start.result (found c.args.node b) k.1 c.start.ensures.node c.start.ensures.only

pub returns-in-Ok-clause-crash : goal.returns-in-Ok-clause-crash
returns-in-Ok-clause-crash g c = λ b told room n d lt left.
    c.in-Ok.ensures.crash b told (subst (λ (x : Four g.row.H.Denot). HasRoom x.moments) c.start.ensures.disks room) n d lt (subst (λ (x : Four g.row.H.Denot). HomeLeft g.H.Disk.past x n d) c.start.ensures.disks left)

pub returns-in-Ok-clause-keeps : goal.returns-in-Ok-clause-keeps
returns-in-Ok-clause-keeps g c = λ b told room.
    let p = c.in-Ok.ensures.keeps b told (subst (λ (x : Four g.row.H.Denot). HasRoom x.moments) c.start.ensures.disks room) in
    let k = c.in-Ok.ensures.found b (record { on_j0 = told.on_j0.holds; on_j1 = told.on_j1.holds; on_i0 = told.on_i0.holds; on_i1 = told.on_i1.holds }) in
    let same = same_found p.0 k.0 (sym p.1 ∙ k.1) in
    opens_up c.args.node c.args.members c.args.now c.in-Ok.kept k.0 k.2 (found_behind c.args.node b k.0 k.1) g.H.Disk.held g.H.Disk.past c.in-Ok.home c.start.result (found c.args.node b) k.1
    c.start.ensures.home c.start.ensures.waits c.start.ensures.node
    (subst (λ (f : Found). homes.Keeps g.H.Disk.held g.H.Disk.past c.in-Ok.home.disks c.in-Ok.home.second c.in-Ok.home.journal (booted f)) same p.2)
