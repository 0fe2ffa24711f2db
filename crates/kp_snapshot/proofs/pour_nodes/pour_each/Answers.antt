use Rattle.std.proofs.Common.{ℕ, ◌≡◌, ◌-◌, ap, refl, [], ◌++◌, ◌∷◌, arith, length-append}
use Rattle.kp_snapshot.specs.Rows.{rows_at}
use Rattle.kp_snapshot.proofs.Filling.{nodes_more}
use Rattle.kp_snapshot.proofs.RowLoops.{rows_end, rows_go_on}
use Rattle.kp_snapshot.proofs.Placing.{node_at}
use Rattle.kp_snapshot.proofs.pour_nodes.pour_each.Goals as goal

pub loop-init : goal.loop-init
loop-init g c = (c.requires.may, ([], c.new-trail.ensures, refl, omega arith, refl, ap (λ (n : ℕ). rows_at (node_at c.args.index c.args.ids.now) n [] c.args.reader.now) (let e : c.args.count - 0 ≡ c.args.count = omega arith in e)))

pub loop-preserved : goal.loop-preserved
loop-preserved g c =
    let held = c.loop.invariant.1 in
    let s = c.in_ok-pour_node.ensures.set held.0 held.1 in (
      c.in_ok-pour_node.ensures.may,
      (
        held.0 ++ s.0 ∷ [],
        s.2.1,
        omega (arith, length-append held.0 (s.0 ∷ []), held.2),
        omega (arith, c.loop-test.true),
        nodes_more (g.F.Fill.state c.args.into.now) (g.F.Fill.state c.loop.into) (g.F.Fill.state c.pour_node.new.into) held.0 s.0 held.4 s.2.0,
        rows_go_on (node_at c.args.index c.args.ids.now) held.0 c.args.count c.loop.counter c.loop.reader s.0 c.pour_node.new.reader (rows_at (node_at c.args.index c.args.ids.now) c.args.count [] c.args.reader.now) c.loop-test.true s.1 held.5,
      ),
    )

pub returns-clause-set : goal.returns-clause-set
returns-clause-set g c =
    let held = c.loop.invariant.1 in
    (held.0, rows_end (node_at c.args.index c.args.ids.now) held.0 c.args.count c.loop.counter c.loop.reader (rows_at (node_at c.args.index c.args.ids.now) c.args.count [] c.args.reader.now) c.loop-test.false held.5, (omega (arith, held.2, held.3, c.loop-test.false), held.4))
