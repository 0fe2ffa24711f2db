use Rattle.std.proofs.Common.{ℕ, ◌≤◌, ◌^◌, inl, refl, subst}
use Rattle.kp_io.specs.Homes.{home_faults}
use Rattle.kp_homes.specs.declared.home.Home.{Home}
use Rattle.kp_kept.proofs.Found.{finds_it}
use Rattle.kp_kept.proofs.Tears.{none_wanted, part_open}
use Rattle.kp_kept.proofs.TornKept.{is_torn, torn_ends, torn_left, torn_lives}
use Rattle.kp_kept.proofs.kept.Kept.tear.Goals as goal

pub keep_first-requires-clause-plain : goal.keep_first-requires-clause-plain
keep_first-requires-clause-plain g c = part_open c.in-Ok.ensures.ok.0 c.args.self.now.node c.event.new.self c.args.event c.in-Ok.outcome c.in-Ok.ensures.ok.1 c.args.k

pub keep_first-requires-clause-none : goal.keep_first-requires-clause-none
keep_first-requires-clause-none g c = none_wanted c.in-Ok.ensures.ok.0 c.args.self.now.node c.event.new.self c.args.event c.in-Ok.outcome c.in-Ok.ensures.ok.1

pub returns-in-Ok-clause-torn : goal.returns-in-Ok-clause-torn
returns-in-Ok-clause-torn g c =
    is_torn g.H.Disk.held g.H.Disk.past (λ (h : Home g.row.H.Denot). home_faults g.H.Disk.faults h.disks) c.args.self.now c.keep_first.new.self c.args.event c.args.k c.in-Ok.outcome c.in-Ok.ensures.ok.0 c.event.new.self c.in-Ok.ensures.ok.1
    (subst (λ (n : ℕ). n ≤ 2 ^ 62) c.last-last.ensures.index c.last-last.ensures.range) c.requires.idle c.requires.alive c.keep_first.ensures.same.node
    c.keep_first.ensures.crash c.keep_first.result c.keep_first.ensures.ends c.keep_first.ensures.keeps

pub returns-in-Ok-clause-ends : goal.returns-in-Ok-clause-ends
returns-in-Ok-clause-ends g c =
    torn_ends g.H.Disk.held g.H.Disk.past (λ (h : Home g.row.H.Denot). home_faults g.H.Disk.faults h.disks) c.args.self.now c.keep_first.new.self c.args.event c.args.k c.in-Ok.outcome c.in-Ok.ensures.ok.0 c.event.new.self c.in-Ok.ensures.ok.1
    (subst (λ (n : ℕ). n ≤ 2 ^ 62) c.last-last.ensures.index c.last-last.ensures.range) c.requires.idle c.requires.alive c.keep_first.ensures.same.node
    c.keep_first.result c.keep_first.ensures.ends

pub returns-in-Ok-clause-crash : goal.returns-in-Ok-clause-crash
returns-in-Ok-clause-crash g c =
    torn_left g.H.Disk.held g.H.Disk.past (λ (h : Home g.row.H.Denot). home_faults g.H.Disk.faults h.disks) c.args.self.now c.keep_first.new.self c.args.event c.args.k c.in-Ok.outcome c.in-Ok.ensures.ok.0 c.event.new.self c.in-Ok.ensures.ok.1
    (subst (λ (n : ℕ). n ≤ 2 ^ 62) c.last-last.ensures.index c.last-last.ensures.range) c.requires.idle c.requires.alive c.keep_first.ensures.same.node
    c.keep_first.ensures.crash c.keep_first.result

pub returns-in-Ok-clause-lives : goal.returns-in-Ok-clause-lives
returns-in-Ok-clause-lives g c =
    torn_lives g.H.Disk.held g.H.Disk.past (λ (h : Home g.row.H.Denot). home_faults g.H.Disk.faults h.disks) c.args.self.now c.keep_first.new.self c.args.event c.args.k c.in-Ok.outcome c.in-Ok.ensures.ok.0 c.event.new.self c.in-Ok.ensures.ok.1
    (subst (λ (n : ℕ). n ≤ 2 ^ 62) c.last-last.ensures.index c.last-last.ensures.range) c.requires.idle c.requires.alive c.keep_first.ensures.same.node
    c.keep_first.result c.keep_first.ensures.ends

pub returns-in-Err-clause-crash : goal.returns-in-Err-clause-crash
returns-in-Err-clause-crash g c = λ f k room below. (f, inl refl, finds_it g.H.Disk.held g.H.Disk.past c.args.self.now.home.disks c.args.self.now.home.second c.args.self.now.home.journal f k.keeps f)
