use Rattle.std.proofs.Common.{[], refl}
use Rattle.std.proofs.lemmas.Result.{on_ok_weaker}
use Rattle.kp_homes.specs.Slots.{closed_head, filled, IsOldOrNew}
use Rattle.kp_homes.specs.Stands.{Bytes4}
use Rattle.kp_homes.proofs.Standing.{rest_left, rest_later, two_left, two_told_after}
use Rattle.kp_homes.proofs.Earlier.{two_before}
use Rattle.kp_homes.proofs.Making.{blank_loses, first_slot, blank_made, blank_either, first_ready}
use Rattle.kp_homes.proofs.Sound.{rest_sound, two_sound}
use Rattle.kp_homes.proofs.blank.write_first.Goals as goal

pub returns-clause-crash : goal.returns-clause-crash
returns-clause-crash g c b rest none room n d lt left =
    let head = c.args.head in
    let f = filled head c.bytes-body.result.now (closed_head b.j0) in
    let new = first_slot head c.args.records.now c.bytes-body.result.now b.j0 c.requires.fits c.requires.no_image c.bytes-body.ensures.spelled c.bytes-body.ensures.run c.requires.no_base c.bytes-body.ensures.small in
    let run = c.new_slot.ensures.crash 0 b.j0 b.i0 rest.at_j0.holds rest.at_i0.holds rest.at_j0.rests rest.at_i0.rests room (blank_loses b.j0 b.j1 none) in
    blank_either head.node b d head c.args.records.now f none new
    (two_left _ _ n (IsOldOrNew 0 f []) d.j0 d.i0 b.j0 b.i0 _ _ _ _ _ _ rest.at_j0 rest.at_i0 run lt left.on_j0 left.on_i0)
    (rest_left _ n b.j1 d.j1 _ _ rest.at_j1 lt left.on_j1)

pub returns-clause-earlier : goal.returns-clause-earlier
returns-clause-earlier g c b rest none room n d le left =
    let run = c.new_slot.ensures.crash 0 b.j0 b.i0 rest.at_j0.holds rest.at_i0.holds rest.at_j0.rests rest.at_i0.rests room (blank_loses b.j0 b.j1 none) in
    let both = two_before _ _ n _ d.j0 d.i0 b.j0 b.i0 _ _ _ _ _ _ rest.at_j0 rest.at_i0 run le left.on_j0 left.on_i0 in
    record { on_j0 = both.0; on_i0 = both.1; on_j1 = left.on_j1; on_i1 = left.on_i1 }

pub returns-clause-rest : goal.returns-clause-rest
returns-clause-rest g c b rest none room =
    let head = c.args.head in
    let rs = c.args.records.now in
    let later = c.new_slot.ensures.moment in
    let f = filled head c.bytes-body.result.now (closed_head b.j0) in
    let new = first_slot head rs c.bytes-body.result.now b.j0 c.requires.fits c.requires.no_image c.bytes-body.ensures.spelled c.bytes-body.ensures.run c.requires.no_base c.bytes-body.ensures.small in
    let run = c.new_slot.ensures.crash 0 b.j0 b.i0 rest.at_j0.holds rest.at_i0.holds rest.at_j0.rests rest.at_i0.rests room (blank_loses b.j0 b.j1 none) in
    let told = two_told_after _ _ (IsOldOrNew 0 f []) b.j0 b.i0 _ _ _ _ _ _ rest.at_j0 rest.at_i0 run in
    let d : Bytes4 = record b { j0 = f; i0 = [] } in
    let now = blank_made head.node b d head rs f none new refl refl refl in
    on_ok_weaker c.new_slot.result
    (λ done. (
      d,
      record {
        rest = record {
          at_j0 = record { holds = done.0.holds; told = told.0.0; tells = told.0.1; rests = done.0.rests };
          at_i0 = record { holds = done.1.holds; told = told.1.0; tells = told.1.1; rests = done.1.rests };
          at_j1 = rest_later _ _ b.j1 _ _ later rest.at_j1;
          at_i1 = rest_later _ _ b.i1 _ _ later rest.at_i1;
        };
        live = now.0;
        value = now.1;
        head = refl;
        gate = refl;
      },
    ))
    (c.new_slot.ensures.done b.j0 b.i0 rest.at_j0.holds rest.at_i0.holds rest.at_j0.rests rest.at_i0.rests room)

pub returns-clause-ready : goal.returns-clause-ready
returns-clause-ready g c =
    on_ok_weaker c.new_slot.result
    (λ was. first_ready c.args.head c.args.records.now c.bytes-body.result.now _ _ c.requires.fits c.requires.no_image c.bytes-body.ensures.spelled c.bytes-body.ensures.run c.requires.no_base c.bytes-body.ensures.small was)
    c.new_slot.ensures.held

pub returns-clause-sound : goal.returns-clause-sound
returns-clause-sound g c b rest none room =
    let later = c.new_slot.ensures.moment in
    let run = c.new_slot.ensures.crash 0 b.j0 b.i0 rest.at_j0.holds rest.at_i0.holds rest.at_j0.rests rest.at_i0.rests room (blank_loses b.j0 b.j1 none) in
    let both = two_sound _ _ _ b.j0 b.i0 _ _ _ _ _ _ _ _ rest.at_j0 rest.at_i0 run c.new_slot.ensures.left_journal c.new_slot.ensures.left_image in
    record { on_j0 = both.0; on_i0 = both.1; on_j1 = rest_sound _ _ b.j1 _ _ later rest.at_j1; on_i1 = rest_sound _ _ b.i1 _ _ later rest.at_i1 }
