use Rattle.std.proofs.Common.{◌≡◌, ◌∙◌, Some, Bool, ap, sym}
use Rattle.kp_io.specs.Homes.{home_faults}
use Rattle.kp_homes.specs.Stands.{IsReady}
use Rattle.kp_homes.specs.Opening.{IsWithin}
use Rattle.kp_homes.specs.Reading.{some_live}
use Rattle.kp_homes.proofs.Looking.{some_finds, some_is_live, some_holds, some_err, finds_as, live_as, holds_as, quiet_as}
use Rattle.kp_homes.proofs.reading.read_live.Goals as goal

pub returns-then-second-clause-read : goal.returns-then-second-clause-read
returns-then-second-clause-read g c b holds live = finds_as _ _ _ c.some_live.ensures (some_finds _ _ (c.read_second.ensures.read b holds (live ∙ ap (λ (k : Bool). Some k) c.if-second.true)))

pub returns-then-second-clause-live : goal.returns-then-second-clause-live
returns-then-second-clause-live g c b holds live = live_as _ _ c.args.node b c.some_live.ensures (some_is_live c.args.node b _ (c.read_second.ensures.live b holds (live ∙ ap (λ (k : Bool). Some k) c.if-second.true)))

pub returns-then-second-clause-ready : goal.returns-then-second-clause-ready
returns-then-second-clause-ready g c = holds_as c.some_live.result (some_live c.read_second.result) (λ v. IsReady v.second (g.H.Disk.held c.read_second.new.disks.j0) (g.H.Disk.held c.read_second.new.disks.j1) v.journal) c.some_live.ensures (some_holds (λ v. IsReady v.second (g.H.Disk.held c.read_second.new.disks.j0) (g.H.Disk.held c.read_second.new.disks.j1) v.journal) c.read_second.result c.read_second.ensures.ready)

pub returns-then-second-clause-node : goal.returns-then-second-clause-node
returns-then-second-clause-node g c = holds_as c.some_live.result (some_live c.read_second.result) (λ v. v.journal.head.node ≡ c.args.node) c.some_live.ensures (some_holds (λ v. v.journal.head.node ≡ c.args.node) c.read_second.result c.read_second.ensures.node)

pub returns-then-second-clause-fault : goal.returns-then-second-clause-fault
returns-then-second-clause-fault g c e = c.read_second.ensures.fault (some_err _ _ (sym c.some_live.ensures ∙ e))

pub returns-then-second-clause-no_full : goal.returns-then-second-clause-no_full
returns-then-second-clause-no_full g c s n e = c.read_second.ensures.no_full s n (some_err _ _ (sym c.some_live.ensures ∙ e))

pub returns-else-second-clause-read : goal.returns-else-second-clause-read
returns-else-second-clause-read g c b holds live = finds_as _ _ _ c.some_live-else-second.ensures (some_finds _ _ (c.read_first.ensures.read b holds (live ∙ ap (λ (k : Bool). Some k) c.if-second.false)))

pub returns-else-second-clause-live : goal.returns-else-second-clause-live
returns-else-second-clause-live g c b holds live = live_as _ _ c.args.node b c.some_live-else-second.ensures (some_is_live c.args.node b _ (c.read_first.ensures.live b holds (live ∙ ap (λ (k : Bool). Some k) c.if-second.false)))

pub returns-else-second-clause-ready : goal.returns-else-second-clause-ready
returns-else-second-clause-ready g c = holds_as c.some_live-else-second.result (some_live c.read_first.result) (λ v. IsReady v.second (g.H.Disk.held c.read_first.new.disks.j0) (g.H.Disk.held c.read_first.new.disks.j1) v.journal) c.some_live-else-second.ensures (some_holds (λ v. IsReady v.second (g.H.Disk.held c.read_first.new.disks.j0) (g.H.Disk.held c.read_first.new.disks.j1) v.journal) c.read_first.result c.read_first.ensures.ready)

pub returns-else-second-clause-node : goal.returns-else-second-clause-node
returns-else-second-clause-node g c = holds_as c.some_live-else-second.result (some_live c.read_first.result) (λ v. v.journal.head.node ≡ c.args.node) c.some_live-else-second.ensures (some_holds (λ v. v.journal.head.node ≡ c.args.node) c.read_first.result c.read_first.ensures.node)

pub returns-else-second-clause-fault : goal.returns-else-second-clause-fault
returns-else-second-clause-fault g c e = c.read_first.ensures.fault (some_err _ _ (sym c.some_live-else-second.ensures ∙ e))

pub returns-else-second-clause-no_full : goal.returns-else-second-clause-no_full
returns-else-second-clause-no_full g c s n e = c.read_first.ensures.no_full s n (some_err _ _ (sym c.some_live-else-second.ensures ∙ e))

pub returns-then-second-clause-quiet : goal.returns-then-second-clause-quiet
returns-then-second-clause-quiet g c = quiet_as c.some_live.result c.read_second.result (home_faults g.H.Disk.faults c.read_second.new.disks ≡ home_faults g.H.Disk.faults c.args.disks.now) c.some_live.ensures c.read_second.ensures.quiet

pub returns-else-second-clause-quiet : goal.returns-else-second-clause-quiet
returns-else-second-clause-quiet g c = quiet_as c.some_live-else-second.result c.read_first.result (home_faults g.H.Disk.faults c.read_first.new.disks ≡ home_faults g.H.Disk.faults c.args.disks.now) c.some_live-else-second.ensures c.read_first.ensures.quiet

pub returns-then-second-clause-room : goal.returns-then-second-clause-room
returns-then-second-clause-room g c = holds_as c.some_live.result (some_live c.read_second.result) (λ v. IsWithin v.image v.replay.held.log.entries) c.some_live.ensures (some_holds (λ v. IsWithin v.image v.replay.held.log.entries) c.read_second.result c.read_second.ensures.room)

pub returns-else-second-clause-room : goal.returns-else-second-clause-room
returns-else-second-clause-room g c = holds_as c.some_live-else-second.result (some_live c.read_first.result) (λ v. IsWithin v.image v.replay.held.log.entries) c.some_live-else-second.ensures (some_holds (λ v. IsWithin v.image v.replay.held.log.entries) c.read_first.result c.read_first.ensures.room)
