use Rattle.std.proofs.Common.{◌≡◌, [], ◌∷◌, ◌++◌, sym, ◌∙◌, ap, append_assoc, rules}
use Rattle.std.specs.Vec.Iter.{into_iter_items}
use Rattle.kp_worker.proofs.Thoughts.{all_go, all_halt, all_none}
use Rattle.kp_worker.proofs.thinking.think_all.Goals as goal

pub loop-kind-init : goal.loop-kind-init
loop-kind-init g c = record { next = tt; finite = tt; left = search rules; seat = c.requires; all = ([], search rules, all_none (g.C.Clock.may c.args.clock.now) c.args.seat.now c.args.notes.now.items) }

pub loop-kind-preserved : goal.loop-kind-preserved
loop-kind-preserved g c = let p = c.loop-kind.invariant.all in
    let next : into_iter_items c.loop-kind.kind-iterator ≡ c.in-Some.kind ∷ into_iter_items c.next.new.self = search rules in record {
      next = tt;
      finite = tt;
      left = search rules;
      seat = c.think_more.ensures.seat;
      all = (
        p.0 ++ c.in-Some.kind ∷ [],
        append_assoc p.0 (c.in-Some.kind ∷ []) (into_iter_items c.next.new.self) ∙ ap (λ l. p.0 ++ l) (sym next) ∙ p.1,
        all_go (g.C.Clock.may c.args.clock.now) c.args.seat.now c.loop-kind.seat c.think_more.new.seat c.args.notes.now.items c.loop-kind.notes.items c.think_more.new.notes.items p.0 c.in-Some.kind c.in-Ok.field-0 p.2 c.in-Ok.ensures.tells,
      );
    }

pub returns-in-Err-clause-tells : goal.returns-in-Err-clause-tells
returns-in-Err-clause-tells g c = let p = c.loop-kind.invariant.all in
    let next : into_iter_items c.loop-kind.kind-iterator ≡ c.in-Some.kind ∷ into_iter_items c.next.new.self = search rules in
    all_halt (g.C.Clock.may c.args.clock.now) c.args.seat.now c.loop-kind.seat c.think_more.new.seat c.args.notes.now.items c.loop-kind.notes.items c.think_more.new.notes.items c.think_more.new.notes.items p.0 (into_iter_items c.next.new.self) c.args.kinds.items c.in-Some.kind c.in-Err.refusal
    (ap (λ l. p.0 ++ l) (sym next) ∙ p.1) p.2 c.in-Err.ensures.tells
