use Rattle.std.proofs.Common.{[], ◌∷◌, ◌++◌, refl}
use Rattle.kp_worker.proofs.Lists.{tells_none}
use Rattle.kp_worker.proofs.WholeTurns.{call_cut, call_stopped, cuts_fault, works_both, works_none, works_still}
use Rattle.kp_worker.proofs.working.serve_node.Goals as goal

pub loop-init : goal.loop-init
loop-init g c = record { seat = c.requires; works = ([], works_none (g.C.Clock.may c.args.clock.now) (g.L.Lines.sees c.args.lines.now) (g.I.Inbox.taken c.args.inbox.now) c.args.seat.now) }

pub returns-then-load-clause-tells : goal.returns-then-load-clause-tells
returns-then-load-clause-tells g c = let h = c.loop.invariant.works in call_stopped (g.C.Clock.may c.args.clock.now) (g.L.Lines.sees c.args.lines.now) (g.L.Lines.sees c.loop.lines) (g.I.Inbox.taken c.args.inbox.now) (g.I.Inbox.taken c.loop.inbox)
    c.args.seat.now c.loop.seat (record { turn = c.loop.seat.turn; stop = c.load.new.seat; links = c.loop.seat.links; told = c.loop.seat.told }) h.0 h.1 refl refl c.if-load.ensures.view

pub returns-in-Err-clause-tells : goal.returns-in-Err-clause-tells
returns-in-Err-clause-tells g c = let may = g.C.Clock.may c.args.clock.now in let o = g.L.Lines.sees c.args.lines.now in let o1 = g.L.Lines.sees c.loop.lines in let b = g.I.Inbox.taken c.args.inbox.now in let b1 = g.I.Inbox.taken c.loop.inbox in
    let h = c.loop.invariant.works in let e = c.in-Err.ensures in
    call_cut may o o1 (g.L.Lines.sees c.wait.new.self) b b1 b1 c.args.seat.now (record { turn = c.loop.seat.turn; stop = c.load.new.seat; links = c.loop.seat.links; told = c.loop.seat.told }) (record { turn = c.loop.seat.turn; stop = c.load.new.seat; links = c.loop.seat.links; told = c.loop.seat.told }) h.0 _
    (works_still may o o1 o1 b b1 c.args.seat.now c.loop.seat (record { turn = c.loop.seat.turn; stop = c.load.new.seat; links = c.loop.seat.links; told = c.loop.seat.told }) h.0 h.1 (tells_none o1) (λ n. refl) refl refl refl c.if-load.ensures.view)
    (cuts_fault may o1 (g.L.Lines.sees c.wait.new.self) b1 (record { turn = c.loop.seat.turn; stop = c.load.new.seat; links = c.loop.seat.links; told = c.loop.seat.told }) e.tells e.state e.cause)

pub returns-in-Err-turn_over-clause-tells : goal.returns-in-Err-turn_over-clause-tells
returns-in-Err-turn_over-clause-tells g c = let may = g.C.Clock.may c.args.clock.now in let o = g.L.Lines.sees c.args.lines.now in let o1 = g.L.Lines.sees c.loop.lines in let b = g.I.Inbox.taken c.args.inbox.now in let b1 = g.I.Inbox.taken c.loop.inbox in
    let h = c.loop.invariant.works in let e = c.in-Ok.ensures in
    call_cut may o (g.L.Lines.sees c.wait.new.self) (g.L.Lines.sees c.turn_over.new.lines) b b1 (g.I.Inbox.taken c.turn_over.new.inbox) c.args.seat.now (record { turn = c.loop.seat.turn; stop = c.load.new.seat; links = c.loop.seat.links; told = c.loop.seat.told }) c.turn_over.new.seat h.0 c.in-Err-turn_over.end
    (works_still may o o1 (g.L.Lines.sees c.wait.new.self) b b1 c.args.seat.now c.loop.seat (record { turn = c.loop.seat.turn; stop = c.load.new.seat; links = c.loop.seat.links; told = c.loop.seat.told }) h.0 h.1 e.tells e.state e.cause refl refl c.if-load.ensures.view)
    c.in-Err-turn_over.ensures.tells

pub loop-preserved : goal.loop-preserved
loop-preserved g c = let may = g.C.Clock.may c.args.clock.now in let o = g.L.Lines.sees c.args.lines.now in let o1 = g.L.Lines.sees c.loop.lines in let b = g.I.Inbox.taken c.args.inbox.now in let b1 = g.I.Inbox.taken c.loop.inbox in
    let h = c.loop.invariant.works in let e = c.in-Ok.ensures in let t = c.in-Ok-turn_over.ensures.tells in record {
      seat = c.turn_over.ensures.seat;
      works = (
        h.0 ++ t.0 ∷ [],
        works_both may o (g.L.Lines.sees c.wait.new.self) (g.L.Lines.sees c.turn_over.new.lines) b b1 (g.I.Inbox.taken c.turn_over.new.inbox) c.args.seat.now (record { turn = c.loop.seat.turn; stop = c.load.new.seat; links = c.loop.seat.links; told = c.loop.seat.told }) c.turn_over.new.seat h.0 (t.0 ∷ [])
            (works_still may o o1 (g.L.Lines.sees c.wait.new.self) b b1 c.args.seat.now c.loop.seat (record { turn = c.loop.seat.turn; stop = c.load.new.seat; links = c.loop.seat.links; told = c.loop.seat.told }) h.0 h.1 e.tells e.state e.cause refl refl c.if-load.ensures.view)
            t.1,
      );
    }
