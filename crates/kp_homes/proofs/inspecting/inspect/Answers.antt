use Rattle.kp_homes.proofs.Telling.{told_blank, told_live, told_within}
use Rattle.kp_homes.proofs.inspecting.inspect.Goals as goal

pub returns-in-Ok-None-clause-found : goal.returns-in-Ok-None-clause-found
returns-in-Ok-None-clause-found g c b holds = told_blank c.args.node b c.in-Ok-None.field-0 (c.in-Ok-None.ensures.live b holds) c.in-Ok-None.field-0-is

pub returns-in-Ok-Some-clause-found : goal.returns-in-Ok-Some-clause-found
returns-in-Ok-Some-clause-found g c b holds =
    told_live c.args.node b c.in-Ok-Some.field-0 c.in-Ok-Some.live c.live_slot.result (c.in-Ok-Some.ensures.read b holds) (c.in-Ok-Some.ensures.live b holds) c.in-Ok-Some.field-0-is
    c.live_slot.ensures.second c.live_slot.ensures.generation c.live_slot.ensures.kept

pub returns-in-Ok-Some-clause-room : goal.returns-in-Ok-Some-clause-room
returns-in-Ok-Some-clause-room g c = told_within c.in-Ok-Some.field-0 c.in-Ok-Some.live c.live_slot.result c.in-Ok-Some.ensures.room c.in-Ok-Some.field-0-is c.live_slot.ensures.kept
