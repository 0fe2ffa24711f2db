use Rattle.std.proofs.Common.{◌∷◌, ap, sym, ◌∙◌}
use Rattle.atomic_table.specs.Table.{rest}
use Rattle.kp_turn.proofs.TurnCalls.{stepped}
use Rattle.kp_turn.proofs.turn.Turn+T.step.Goals as goal

pub slot_mut-slot-requires : goal.slot_mut-slot-requires
slot_mut-slot-requires g c = let t = c.requires.has.0.1 in (c.requires.seat, (t.0, t.1 ∙ ap (λ l. (0, t.0) ∷ rest l) (sym t.1)))

pub returns-clause-stepped : goal.returns-clause-stepped
returns-clause-stepped g c = stepped g.T.Storied.events g.T.Storied.steps c.args.seat.now.me _ _ _ _ _ _ c.requires.has.0 c.slot_mut-slot.ensures.value c.step-said.ensures.step c.step-said.ensures.count c.of-told.ensures c.of.ensures
