use Rattle.kp_homes.proofs.Settling.{settle_left, settle_rest}
use Rattle.kp_homes.proofs.Sound.{settle_sound}
use Rattle.kp_homes.proofs.syncing.settle.Goals as goal

pub returns-clause-left : goal.returns-clause-left
returns-clause-left g c m n xs d told le room lt left =
    settle_left c.sync.result m _ _ n xs d _ _ _ _ c.sync.ensures.keeps (c.sync.ensures.past xs told.holds) c.sync.ensures.past_err c.sync.ensures.was_left c.sync.ensures.moment told le room lt left

pub returns-clause-rest : goal.returns-clause-rest
returns-clause-rest g c m xs told le room = settle_rest c.sync.result m _ _ xs _ _ _ _ c.sync.ensures.keeps (c.sync.ensures.past xs told.holds) c.sync.ensures.moment told le room

pub returns-clause-sound : goal.returns-clause-sound
returns-clause-sound g c m xs told le = settle_sound c.sync.result m _ _ xs _ _ _ _ c.sync.ensures.keeps c.sync.ensures.past c.sync.ensures.past_err c.sync.ensures.was_left c.sync.ensures.moment told le
