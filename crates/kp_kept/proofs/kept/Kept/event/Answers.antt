use Rattle.std.proofs.Common.{Err, ap, length, ◌<◌, ◌^◌, refl, subst, sym, ◌∙◌}
use Rattle.kp_io.specs.Homes.{home_faults}
use Rattle.kp_homes.specs.declared.home.Home.{Home}
use Rattle.kp_homes.specs.Homes.{FindsEither}
use Rattle.kp_homes.proofs.Refusals.{err_same}
use Rattle.kp_event.specs.declared.fail.KeptFail.TheVariants as kept_fail
use Rattle.kp_node.specs.Parts.{Parts}
use Rattle.kp_kept.specs.Ahead.{all_records}
use Rattle.kp_kept.specs.Flushing.{faults_of}
use Rattle.kp_kept.specs.Keeping.{found_behind, waiting_of}
use Rattle.kp_kept.specs.Thinking.{Moves}
use Rattle.kp_kept.proofs.Ends.{ends_badly, kept_with, left_badly, none_want, not_dead, records_none, refused_so, wants_image}
use Rattle.kp_kept.proofs.Found.{finds_it}
use Rattle.kp_kept.proofs.kept.Kept.event.Goals as goal

pub returns-in-Ok-flush-clause-moves : goal.returns-in-Ok-flush-clause-moves
returns-in-Ok-flush-clause-moves g c =
    let t = c.in-Ok.ensures.moves in
    let node = c.in-Ok-flush.ensures.flushes.1 in (
      t.0,
      subst (λ (p : Parts). Moves c.args.self.now.node c.args.event t.0 c.in-Ok.thought p) (sym node) t.1,
      kept_with g.H.Disk.held g.H.Disk.past (faults_of g.H.Disk.faults) c.args.self.now c.think.new.self c.flush.new.self c.args.event t.0 node t.2 c.in-Ok.ensures.home
          c.in-Ok.ensures.keeps c.in-Ok-flush.ensures.keeps c.in-Ok-flush.ensures.kept c.in-Ok-flush.ensures.crash,
    )

pub returns-in-Err-flush-clause-ends : goal.returns-in-Err-flush-clause-ends
returns-in-Err-flush-clause-ends g c =
    let t = c.in-Ok.ensures.moves in
    ends_badly g.H.Disk.held g.H.Disk.past (faults_of g.H.Disk.faults) c.args.self.now c.think.new.self c.flush.new.self c.args.event t.0 c.in-Ok.thought t.1 t.2 c.in-Ok.ensures.alive c.in-Ok.ensures.home c.in-Ok.ensures.kept
    c.in-Err-flush.fail c.in-Err-flush.ensures.flushes c.in-Err-flush.ensures.all_wait (ap (λ (h : Home g.row.H.Denot). home_faults g.H.Disk.faults h.disks) c.in-Ok.ensures.home) (c.in-Ok.ensures.death ∙ c.in-Ok.ensures.alive)
    (λ is none. wants_image (waiting_of c.args.self.now) (waiting_of c.think.new.self) t.0.image t.0.records c.args.self.now.waiting.len c.think.new.self.waiting.len t.2 none
    (λ n. c.args.self.now.waiting.ok.0 ∙ ap length (none_want c.args.self.now.waiting.items c.args.self.now.wanted (records_none c.args.self.now.image (all_records c.args.self.now.waiting.items) n)))
    c.in-Ok.ensures.few (c.in-Err-flush.ensures.memory (ap Err is)))

pub returns-in-Err-flush-clause-crash : goal.returns-in-Err-flush-clause-crash
returns-in-Err-flush-clause-crash g c = λ f k room below.
    left_badly g.H.Disk.held g.H.Disk.past (faults_of g.H.Disk.faults) c.args.self.now c.think.new.self c.flush.new.self c.args.event c.in-Err-flush.fail c.in-Err-flush.ensures.flushes c.in-Err-flush.ensures.all_wait c.in-Ok.ensures.home f
    (c.in-Err-flush.ensures.crash f (c.in-Ok.ensures.keeps f k) room (subst (λ (h : Home g.row.H.Denot). h.journal.head.generation < 2 ^ 62) (sym c.in-Ok.ensures.home) below))

pub returns-in-Err-clause-ends : goal.returns-in-Err-clause-ends
returns-in-Err-clause-ends g c =
    refused_so (faults_of g.H.Disk.faults) c.args.self.now c.think.new.self c.args.event c.in-Err.fail (record { node = c.in-Err.ensures.err.0; home = c.in-Err.ensures.home; death = c.in-Err.ensures.death; kept = c.in-Err.ensures.kept }) c.in-Err.ensures.err.1
    (λ w is. (c.in-Err.ensures.dead w).0 (ap Err is))
    (not_dead c.args.self.now.death c.in-Err.fail (λ w is. err_same c.in-Err.fail (kept_fail.Dead w) ((c.in-Err.ensures.dead w).1 is)))
    (c.in-Err.ensures.only c.in-Err.fail refl)

pub returns-in-Err-clause-crash : goal.returns-in-Err-clause-crash
returns-in-Err-clause-crash g c = λ f k room below.
    subst (λ (h : Home g.row.H.Denot). FindsEither c.args.self.now.home.journal.head.node g.H.Disk.past c.args.self.now.home.disks.moments h.disks f (found_behind c.think.new.self f)) (sym c.in-Err.ensures.home)
    (finds_it g.H.Disk.held g.H.Disk.past c.args.self.now.home.disks c.args.self.now.home.second c.args.self.now.home.journal f k.keeps (found_behind c.think.new.self f))
