use Rattle.std.proofs.Common.{◌≤◌, arith}
use Rattle.std.proofs.lemmas.Result.{on_ok_weaker}
use Rattle.kp_io.specs.Crash.{HasRoom}
use Rattle.kp_homes.proofs.Settling.{told_left}
use Rattle.kp_homes.proofs.Standing.{rest_later}
use Rattle.kp_homes.proofs.Sound.{told_sound, sound_later}
use Rattle.kp_homes.proofs.syncing.settle_all.Goals as goal

pub returns-in_err-settle-clause-left : goal.returns-in_err-settle-clause-left
returns-in_err-settle-clause-left g c b told room n d lt left = record {
  on_j0 = c.settle.ensures.left _ n b.j0 d.j0 told.on_j0 (omega arith) room lt left.on_j0;
  on_j1 = told_left _ n b.j1 d.j1 _ _ told.on_j1 lt left.on_j1;
  on_i0 = told_left _ n b.i0 d.i0 _ _ told.on_i0 lt left.on_i0;
  on_i1 = told_left _ n b.i1 d.i1 _ _ told.on_i1 lt left.on_i1;
}

pub returns-in_err-settle-2-clause-left : goal.returns-in_err-settle-2-clause-left
returns-in_err-settle-2-clause-left g c b told room n d lt left =
    let room1 : HasRoom c.settle.new.moments = omega (arith, room, c.settle-2.ensures.moment) in record {
      on_j0 = c.settle.ensures.left _ n b.j0 d.j0 told.on_j0 (omega arith) room1 lt left.on_j0;
      on_j1 = c.settle-2.ensures.left _ n b.j1 d.j1 told.on_j1 c.settle.ensures.moment room lt left.on_j1;
      on_i0 = told_left _ n b.i0 d.i0 _ _ told.on_i0 lt left.on_i0;
      on_i1 = told_left _ n b.i1 d.i1 _ _ told.on_i1 lt left.on_i1;
    }

pub returns-in_err-settle-3-clause-left : goal.returns-in_err-settle-3-clause-left
returns-in_err-settle-3-clause-left g c b told room n d lt left =
    let room2 : HasRoom c.settle-2.new.moments = omega (arith, room, c.settle-3.ensures.moment) in
    let room1 : HasRoom c.settle.new.moments = omega (arith, room2, c.settle-2.ensures.moment) in
    let le2 : c.args.disks.now.moments ≤ c.settle-2.new.moments = omega (arith, c.settle.ensures.moment, c.settle-2.ensures.moment) in record {
      on_j0 = c.settle.ensures.left _ n b.j0 d.j0 told.on_j0 (omega arith) room1 lt left.on_j0;
      on_j1 = c.settle-2.ensures.left _ n b.j1 d.j1 told.on_j1 c.settle.ensures.moment room2 lt left.on_j1;
      on_i0 = c.settle-3.ensures.left _ n b.i0 d.i0 told.on_i0 le2 room lt left.on_i0;
      on_i1 = told_left _ n b.i1 d.i1 _ _ told.on_i1 lt left.on_i1;
    }

pub returns-clause-left : goal.returns-clause-left
returns-clause-left g c b told room n d lt left =
    let room3 : HasRoom c.settle-3.new.moments = omega (arith, room, c.settle-4.ensures.moment) in
    let room2 : HasRoom c.settle-2.new.moments = omega (arith, room3, c.settle-3.ensures.moment) in
    let room1 : HasRoom c.settle.new.moments = omega (arith, room2, c.settle-2.ensures.moment) in
    let le2 : c.args.disks.now.moments ≤ c.settle-2.new.moments = omega (arith, c.settle.ensures.moment, c.settle-2.ensures.moment) in
    let le3 : c.args.disks.now.moments ≤ c.settle-3.new.moments = omega (arith, le2, c.settle-3.ensures.moment) in record {
      on_j0 = c.settle.ensures.left _ n b.j0 d.j0 told.on_j0 (omega arith) room1 lt left.on_j0;
      on_j1 = c.settle-2.ensures.left _ n b.j1 d.j1 told.on_j1 c.settle.ensures.moment room2 lt left.on_j1;
      on_i0 = c.settle-3.ensures.left _ n b.i0 d.i0 told.on_i0 le2 room3 lt left.on_i0;
      on_i1 = c.settle-4.ensures.left _ n b.i1 d.i1 told.on_i1 le3 room lt left.on_i1;
    }

pub returns-clause-rest : goal.returns-clause-rest
returns-clause-rest g c b told room =
    let room3 : HasRoom c.settle-3.new.moments = omega (arith, room, c.settle-4.ensures.moment) in
    let room2 : HasRoom c.settle-2.new.moments = omega (arith, room3, c.settle-3.ensures.moment) in
    let room1 : HasRoom c.settle.new.moments = omega (arith, room2, c.settle-2.ensures.moment) in
    let le2 : c.args.disks.now.moments ≤ c.settle-2.new.moments = omega (arith, c.settle.ensures.moment, c.settle-2.ensures.moment) in
    let le3 : c.args.disks.now.moments ≤ c.settle-3.new.moments = omega (arith, le2, c.settle-3.ensures.moment) in
    let end3 : c.settle-3.new.moments ≤ c.settle-4.new.moments = c.settle-4.ensures.moment in
    let end2 : c.settle-2.new.moments ≤ c.settle-4.new.moments = omega (arith, end3, c.settle-3.ensures.moment) in
    let end1 : c.settle.new.moments ≤ c.settle-4.new.moments = omega (arith, end2, c.settle-2.ensures.moment) in
    on_ok_weaker c.settle-4.result
    (λ last. record {
      at_j0 = rest_later _ _ b.j0 _ _ end1 (c.in_ok-settle.ensures.rest _ b.j0 told.on_j0 (omega arith) room1);
      at_j1 = rest_later _ _ b.j1 _ _ end2 (c.in_ok-settle-2.ensures.rest _ b.j1 told.on_j1 c.settle.ensures.moment room2);
      at_i0 = rest_later _ _ b.i0 _ _ end3 (c.in_ok-settle-3.ensures.rest _ b.i0 told.on_i0 le2 room3);
      at_i1 = last;
    })
    (c.settle-4.ensures.rest _ b.i1 told.on_i1 le3 room)

pub returns-in_err-settle-clause-sound : goal.returns-in_err-settle-clause-sound
returns-in_err-settle-clause-sound g c b told left = record {
  on_j0 = c.settle.ensures.sound _ b.j0 told.on_j0 (omega arith);
  on_j1 = told_sound _ _ b.j1 _ _ c.settle.ensures.moment told.on_j1 left.on_j1;
  on_i0 = told_sound _ _ b.i0 _ _ c.settle.ensures.moment told.on_i0 left.on_i0;
  on_i1 = told_sound _ _ b.i1 _ _ c.settle.ensures.moment told.on_i1 left.on_i1;
}

pub returns-in_err-settle-2-clause-sound : goal.returns-in_err-settle-2-clause-sound
returns-in_err-settle-2-clause-sound g c b told left =
    let le2 : c.args.disks.now.moments ≤ c.settle-2.new.moments = omega (arith, c.settle.ensures.moment, c.settle-2.ensures.moment) in record {
      on_j0 = sound_later _ _ _ _ c.settle-2.ensures.moment (c.settle.ensures.sound _ b.j0 told.on_j0 (omega arith));
      on_j1 = c.settle-2.ensures.sound _ b.j1 told.on_j1 c.settle.ensures.moment;
      on_i0 = told_sound _ _ b.i0 _ _ le2 told.on_i0 left.on_i0;
      on_i1 = told_sound _ _ b.i1 _ _ le2 told.on_i1 left.on_i1;
    }

pub returns-in_err-settle-3-clause-sound : goal.returns-in_err-settle-3-clause-sound
returns-in_err-settle-3-clause-sound g c b told left =
    let le2 : c.args.disks.now.moments ≤ c.settle-2.new.moments = omega (arith, c.settle.ensures.moment, c.settle-2.ensures.moment) in
    let le3 : c.args.disks.now.moments ≤ c.settle-3.new.moments = omega (arith, le2, c.settle-3.ensures.moment) in
    let end1 : c.settle.new.moments ≤ c.settle-3.new.moments = omega (arith, c.settle-2.ensures.moment, c.settle-3.ensures.moment) in record {
      on_j0 = sound_later _ _ _ _ end1 (c.settle.ensures.sound _ b.j0 told.on_j0 (omega arith));
      on_j1 = sound_later _ _ _ _ c.settle-3.ensures.moment (c.settle-2.ensures.sound _ b.j1 told.on_j1 c.settle.ensures.moment);
      on_i0 = c.settle-3.ensures.sound _ b.i0 told.on_i0 le2;
      on_i1 = told_sound _ _ b.i1 _ _ le3 told.on_i1 left.on_i1;
    }

pub returns-clause-sound : goal.returns-clause-sound
returns-clause-sound g c b told left =
    let le2 : c.args.disks.now.moments ≤ c.settle-2.new.moments = omega (arith, c.settle.ensures.moment, c.settle-2.ensures.moment) in
    let le3 : c.args.disks.now.moments ≤ c.settle-3.new.moments = omega (arith, le2, c.settle-3.ensures.moment) in
    let end2 : c.settle-2.new.moments ≤ c.settle-4.new.moments = omega (arith, c.settle-3.ensures.moment, c.settle-4.ensures.moment) in
    let end1 : c.settle.new.moments ≤ c.settle-4.new.moments = omega (arith, c.settle-2.ensures.moment, end2) in record {
      on_j0 = sound_later _ _ _ _ end1 (c.settle.ensures.sound _ b.j0 told.on_j0 (omega arith));
      on_j1 = sound_later _ _ _ _ end2 (c.settle-2.ensures.sound _ b.j1 told.on_j1 c.settle.ensures.moment);
      on_i0 = sound_later _ _ _ _ c.settle-4.ensures.moment (c.settle-3.ensures.sound _ b.i0 told.on_i0 le2);
      on_i1 = c.settle-4.ensures.sound _ b.i1 told.on_i1 le3;
    }
