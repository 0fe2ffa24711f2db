use Rattle.std.proofs.Common.{ap, sym, ◌∙◌, ◌||◌, nat_eq, [], IsSome, subst}
use Rattle.std.specs.Prelude.{unwrap_or}
use Rattle.kp_cells.specs.Naming.{writes_by_path}
use Rattle.kp_cells.specs.Overlays.{Overlays}
use Rattle.kp_cells.specs.Staging.{with_part}
use Rattle.kp_cells.specs.Traced.{is_in}
use Rattle.kp_cells.proofs.Named.{is_error, not_err}
use Rattle.kp_cells.proofs.Together.{is_open}
use Rattle.kp_cells.proofs.Staged.{after_part, after_none}
use Rattle.kp_cells.proofs.cells.Cells.stage_part.Goals as goal

pub invariant_of-self-then-is_err : goal.invariant_of-self-then-is_err
invariant_of-self-then-is_err c = (after_none c.self.inside.names c.give.new.self c.release_one.new.names c.self.inside.trail c.make_room.new.self c.args.path.now c.in_ok-number.number c.self.inside.sessions c.self.inside.next c.self.inside.applied c.self.inside.nodes c.self.invariant
    c.in_ok-number.ensures.naming c.in_ok-number.ensures.grows c.in_ok-number.ensures.only c.make_room.ensures.layers c.make_room.ensures.staged c.release_one.ensures.naming
    c.stage.new.self (is_error _ (sym c.is_err.ensures.value ∙ c.if-is_err.true) c.stage.ensures.err) c.release_one.ensures.numbers).0

pub returns-then-is_err-clause-err : goal.returns-then-is_err-clause-err
returns-then-is_err-clause-err c = (after_none c.self.inside.names c.give.new.self c.release_one.new.names c.self.inside.trail c.make_room.new.self c.args.path.now c.in_ok-number.number c.self.inside.sessions c.self.inside.next c.self.inside.applied c.self.inside.nodes c.self.invariant
    c.in_ok-number.ensures.naming c.in_ok-number.ensures.grows c.in_ok-number.ensures.only c.make_room.ensures.layers c.make_room.ensures.staged c.release_one.ensures.naming
    c.stage.new.self (is_error _ (sym c.is_err.ensures.value ∙ c.if-is_err.true) c.stage.ensures.err) c.release_one.ensures.numbers).1
    ∙ c.self.view_is

pub invariant_of-self-2 : goal.invariant_of-self-2
invariant_of-self-2 c =
    let there : IsSome c.self.inside.nodes.metas.staged = is_open (writes_by_path c.self.inside.names) c.self.inside.nodes.metas.staged (subst (λ (o : Overlays). IsSome o.metas.staged) (sym c.self.view_is) c.requires.open) in
    (after_part c.self.inside.names c.give.new.self c.self.invariant.held.naming c.in_ok-number.ensures.naming c.in_ok-number.ensures.grows c.self.inside.trail c.push.new.self c.args.path.now c.in_ok-number.number c.in_ok-number.ensures.number c.in_ok-number.ensures.only
    (c.push.ensures.layers ∙ c.make_room.ensures.layers) (λ n. c.push.ensures.numbers n ∙ ap (λ s. is_in n (unwrap_or s []) || nat_eq n c.in_ok-number.number) c.make_room.ensures.staged)
    c.self.inside.sessions c.self.inside.next c.self.inside.applied c.self.inside.nodes c.self.invariant c.push.ensures.staged
    c.stage.new.self c.args.part (not_err _ (sym c.is_err.ensures.value ∙ c.if-is_err.false) c.stage.ensures.ok) there).0

pub returns-clause-ok : goal.returns-clause-ok
returns-clause-ok c =
    let there : IsSome c.self.inside.nodes.metas.staged = is_open (writes_by_path c.self.inside.names) c.self.inside.nodes.metas.staged (subst (λ (o : Overlays). IsSome o.metas.staged) (sym c.self.view_is) c.requires.open) in
    (after_part c.self.inside.names c.give.new.self c.self.invariant.held.naming c.in_ok-number.ensures.naming c.in_ok-number.ensures.grows c.self.inside.trail c.push.new.self c.args.path.now c.in_ok-number.number c.in_ok-number.ensures.number c.in_ok-number.ensures.only
    (c.push.ensures.layers ∙ c.make_room.ensures.layers) (λ n. c.push.ensures.numbers n ∙ ap (λ s. is_in n (unwrap_or s []) || nat_eq n c.in_ok-number.number) c.make_room.ensures.staged)
    c.self.inside.sessions c.self.inside.next c.self.inside.applied c.self.inside.nodes c.self.invariant c.push.ensures.staged
    c.stage.new.self c.args.part (not_err _ (sym c.is_err.ensures.value ∙ c.if-is_err.false) c.stage.ensures.ok) there).1
    ∙ ap (λ (o : Overlays). with_part o c.args.path.now c.args.part) c.self.view_is
