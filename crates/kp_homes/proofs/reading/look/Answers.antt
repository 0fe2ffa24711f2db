use Rattle.std.proofs.Common.{ℕ, ◌+◌, sym, ◌∙◌, ap}
use Rattle.std.proofs.lemmas.Result.{on_ok_weaker}
use Rattle.kp_homes.proofs.Looking.{choice_of, blank_finds, rose_from}
use Rattle.kp_homes.proofs.reading.look.Goals as goal

pub returns-in-None-clause-read : goal.returns-in-None-clause-read
returns-in-None-clause-read g c b holds = blank_finds c.args.node b (sym (choice_of (g.H.Disk.held c.args.disks.now.j0) (g.H.Disk.held c.args.disks.now.j1) b.j0 b.j1 c.in_ok-live.live holds.on_j0 holds.on_j1 c.in_ok-live.ensures.live) ∙ c.in-None.is)

pub returns-in-None-clause-live : goal.returns-in-None-clause-live
returns-in-None-clause-live g c b holds = sym (choice_of (g.H.Disk.held c.args.disks.now.j0) (g.H.Disk.held c.args.disks.now.j1) b.j0 b.j1 c.in_ok-live.live holds.on_j0 holds.on_j1 c.in_ok-live.ensures.live) ∙ c.in-None.is

pub returns-in-Some-clause-read : goal.returns-in-Some-clause-read
returns-in-Some-clause-read g c b holds =
    c.read_live.ensures.read b (record { on_j0 = c.in_ok-live.ensures.keeps_first ∙ holds.on_j0; on_j1 = c.in_ok-live.ensures.keeps_second ∙ holds.on_j1; on_i0 = holds.on_i0; on_i1 = holds.on_i1 })
    (sym (choice_of (g.H.Disk.held c.args.disks.now.j0) (g.H.Disk.held c.args.disks.now.j1) b.j0 b.j1 c.in_ok-live.live holds.on_j0 holds.on_j1 c.in_ok-live.ensures.live) ∙ c.in-Some.is)

pub returns-in-Some-clause-live : goal.returns-in-Some-clause-live
returns-in-Some-clause-live g c b holds =
    c.read_live.ensures.live b (record { on_j0 = c.in_ok-live.ensures.keeps_first ∙ holds.on_j0; on_j1 = c.in_ok-live.ensures.keeps_second ∙ holds.on_j1; on_i0 = holds.on_i0; on_i1 = holds.on_i1 })
    (sym (choice_of (g.H.Disk.held c.args.disks.now.j0) (g.H.Disk.held c.args.disks.now.j1) b.j0 b.j1 c.in_ok-live.live holds.on_j0 holds.on_j1 c.in_ok-live.ensures.live) ∙ c.in-Some.is)

pub returns-in-Some-clause-same : goal.returns-in-Some-clause-same
returns-in-Some-clause-same g c = record {
  held_j0 = c.read_live.ensures.same.held_j0 ∙ c.in_ok-live.ensures.keeps_first;
  held_j1 = c.read_live.ensures.same.held_j1 ∙ c.in_ok-live.ensures.keeps_second;
  held_i0 = c.read_live.ensures.same.held_i0;
  held_i1 = c.read_live.ensures.same.held_i1;
  past_j0 = c.read_live.ensures.same.past_j0 ∙ c.in_ok-live.ensures.past_first;
  past_j1 = c.read_live.ensures.same.past_j1 ∙ c.in_ok-live.ensures.past_second;
  past_i0 = c.read_live.ensures.same.past_i0;
  past_i1 = c.read_live.ensures.same.past_i1;
}

pub returns-in-None-clause-quiet : goal.returns-in-None-clause-quiet
returns-in-None-clause-quiet g c = ap (λ (x : ℕ). x + g.H.Disk.faults c.args.disks.now.i0 + g.H.Disk.faults c.args.disks.now.i1) c.in_ok-live.ensures.quiet

pub returns-in-Some-clause-quiet : goal.returns-in-Some-clause-quiet
returns-in-Some-clause-quiet g c = on_ok_weaker c.read_live.result (λ e. e ∙ ap (λ (x : ℕ). x + g.H.Disk.faults c.args.disks.now.i0 + g.H.Disk.faults c.args.disks.now.i1) c.in_ok-live.ensures.quiet) c.read_live.ensures.quiet

pub returns-in-Some-clause-fault : goal.returns-in-Some-clause-fault
returns-in-Some-clause-fault g c e = rose_from _ _ _ (ap (λ (x : ℕ). x + g.H.Disk.faults c.args.disks.now.i0 + g.H.Disk.faults c.args.disks.now.i1) c.in_ok-live.ensures.quiet) (c.read_live.ensures.fault e)
