use Rattle.std.proofs.Common.{ℕ, ◌≤◌, ◌^◌, Option, length, ap, subst, sym, ◌∙◌, inl, OnOk}
use Rattle.std.specs.Prelude.{IsSome}
use Rattle.kp_io.specs.Homes.{home_faults}
use Rattle.kp_entry.specs.Records.{has_base}
use Rattle.kp_snapshot.specs.Snapshots.{Snapshot}
use Rattle.kp_homes.specs.declared.home.Home.{Home}
use Rattle.kp_homes.specs.Replays.{image_bytes}
use Rattle.kp_node.specs.Parts.{node_of}
use Rattle.kp_kept.specs.Ahead.{own, image_then}
use Rattle.kp_kept.specs.Finding.{LeavesNode, HasNode}
use Rattle.kp_kept.proofs.Found.{finds_it, costs_so, image_small}
use Rattle.kp_kept.proofs.Put.{image_left, image_had}
use Rattle.kp_kept.proofs.Shapes.{entries_open}
use Rattle.kp_kept.proofs.slots.put_image.Goals as goal

pub returns-in_err-rest-clause-crash : goal.returns-in_err-rest-clause-crash
returns-in_err-rest-clause-crash g c = λ rs f had room below base.
    finds_it g.H.Disk.held g.H.Disk.past c.args.home.now.disks c.args.home.now.second c.args.home.now.journal f had (own (image_then f.image c.args.image.now) (node_of c.args.node.now))

pub compact-kept-requires : goal.compact-kept-requires
compact-kept-requires g c = ap has_base c.in_ok-rest.ensures ∙ entries_open (node_of c.args.node.now).held.log.entries

pub returns-clause-crash : goal.returns-clause-crash
returns-clause-crash g c = λ rs.
    subst (λ (i : Option Snapshot). LeavesNode g.H.Disk.held g.H.Disk.past c.args.home.now c.compact-kept.new.self i rs (node_of c.args.node.now)) c.take.ensures.value
    (image_left (node_of c.args.node.now) c.in_ok-rest.rest c.in_ok-rest.ensures (subst (λ (n : ℕ). n ≤ 2 ^ 62) c.last-last.ensures.index c.last-last.ensures.range) g.H.Disk.held g.H.Disk.past c.args.home.now c.compact-kept.new.self
    c.take.result (subst (λ (i : Option Snapshot). IsSome i) (sym c.take.ensures.value) c.requires) c.compact-kept.ensures.crash rs)

pub returns-clause-keeps : goal.returns-clause-keeps
returns-clause-keeps g c = λ rs.
    subst (λ (i : Option Snapshot). OnOk c.compact-kept.result (HasNode g.H.Disk.held g.H.Disk.past c.args.home.now c.compact-kept.new.self i rs (node_of c.args.node.now))) c.take.ensures.value
    (image_had (node_of c.args.node.now) c.in_ok-rest.rest c.in_ok-rest.ensures (subst (λ (n : ℕ). n ≤ 2 ^ 62) c.last-last.ensures.index c.last-last.ensures.range) g.H.Disk.held g.H.Disk.past c.args.home.now c.compact-kept.new.self
    c.take.result c.compact-kept.result (subst (λ (i : Option Snapshot). IsSome i) (sym c.take.ensures.value) c.requires) c.compact-kept.ensures.keeps rs)

pub returns-clause-full : goal.returns-clause-full
returns-clause-full g c = λ slot len e.
    let f = (c.compact-kept.ensures.full slot len).0 e in
    (f.0, f.1 ∙ ap (λ (i : Option Snapshot). length (image_bytes i)) c.take.ensures.value, f.2)

pub returns-clause-over : goal.returns-clause-over
returns-clause-over g c = λ slot len b. inl ((c.compact-kept.ensures.full slot len).1 (b.0, b.1 ∙ sym (ap (λ (i : Option Snapshot). length (image_bytes i)) c.take.ensures.value), b.2))

pub returns-clause-costs : goal.returns-clause-costs
returns-clause-costs g c = costs_so (λ (h : Home g.row.H.Denot). home_faults g.H.Disk.faults h.disks) c.args.home.now c.compact-kept.new.self c.compact-kept.result c.compact-kept.ensures.quiet c.compact-kept.ensures.fault c.compact-kept.ensures.full_same
    (λ slot len e. let f = (c.compact-kept.ensures.full slot len).0 e in (image_small c.args.home.now.second slot f.2, f.0)) c.compact-kept.ensures.only
