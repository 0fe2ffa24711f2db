use Rattle.std.proofs.Common.{rules, ◌≡◌, length, ap, arith}
use Rattle.kp_turn.proofs.TurnSteps.{loads, raises}
use Rattle.kp_turn.proofs.TurnCalls.{stays, may_end}
use Rattle.kp_turn.proofs.turn.Turn+T.take_event.Goals as goal

pub load-count-requires : goal.load-count-requires
load-count-requires g c = (search rules, search rules, loads g.T.Storied.events g.T.Storied.steps _ _ _ _)

pub give_up-requires-clause-has : goal.give_up-requires-clause-has
give_up-requires-clause-has g c = (stays g.T.Storied.events g.T.Storied.steps c.args.seat.now.me c.load-count.new.seat.me _ c.load-count.ensures.2 c.requires.has).0

pub step-said-requires-clause-has : goal.step-said-requires-clause-has
step-said-requires-clause-has g c = let count : length c.load-count.new.seat.me.0.seen ≡ c.load-count.result = c.load-count.ensures.2.2 in let room = c.if-count-ge-MOST_EVENTS.false in
    ((stays g.T.Storied.events g.T.Storied.steps c.args.seat.now.me c.load-count.new.seat.me _ c.load-count.ensures.2 c.requires.has).0, omega arith)

pub fetch_add-requires : goal.fetch_add-requires
fetch_add-requires g c = let h = c.step-said.ensures.stepped in let t = h.1 in let count : length c.load-count.new.seat.me.0.seen ≡ c.load-count.result = c.load-count.ensures.2.2 in let small = c.if-count-ge-MOST_EVENTS.false in
    let same : length c.step-said.new.seat.me.0.seen ≡ length c.load-count.new.seat.me.0.seen = ap (λ v. length v.seen) c.step-said.ensures.view in
    (search rules, search rules, raises g.T.Storied.events g.T.Storied.steps _ _ _ c.step-said.new.seat.me t.0 c.args.event c.step-said.result h.0 t.1 t.2 (omega arith) t.3.0)

pub give_up-requires-2-clause-has : goal.give_up-requires-2-clause-has
give_up-requires-2-clause-has g c = may_end g.T.Storied.events g.T.Storied.steps c.step-said.new.seat.me c.fetch_add.new.seat.me c.fetch_add.result _ _ c.step-said.ensures.stepped c.fetch_add.ensures.2
