use Rattle.std.proofs.Common.{ℕ, ◌≡◌, ◌-◌, ap, refl, [], ◌++◌, ◌∷◌, arith, length-append}
use Rattle.std.proofs.lemmas.Result.{err_from_is_err_and}
use Rattle.kp_snapshot.specs.Rows.{rows_at}
use Rattle.kp_snapshot.specs.Nodes.{placed_of}
use Rattle.kp_snapshot.proofs.RowLoops.{rows_end, rows_fail, rows_go_on}
use Rattle.kp_snapshot.proofs.Placing.{node_at}
use Rattle.kp_snapshot.proofs.check.check_each.Goals as goal

pub loop-init : goal.loop-init
loop-init c = ([], c.new-trail.ensures, refl, omega arith, ap (λ (n : ℕ). rows_at (node_at c.args.index c.args.ids.now) n [] c.args.reader.now) (let e : c.args.count - 0 ≡ c.args.count = omega arith in e))

pub returns-in_err-found : goal.returns-in_err-found
returns-in_err-found c =
    let p = err_from_is_err_and c.from_residual.result c.from_residual.ensures.1 in
    rw (p.1, p.2) (rows_fail (node_at c.args.index c.args.ids.now) c.in_err-found.field-0.0 c.loop.invariant.0 c.args.count c.loop.counter c.loop.reader (rows_at (node_at c.args.index c.args.ids.now) c.args.count [] c.args.reader.now) c.loop-test.true (c.in_err-found.ensures.read c.loop.invariant.0 c.loop.invariant.1) c.loop.invariant.4)

pub loop-preserved : goal.loop-preserved
loop-preserved c =
    let before = c.loop.invariant.0 in
    let x = placed_of c.in_ok-found.found in (
      before ++ x ∷ [],
      c.in_ok-found.ensures.next before c.loop.invariant.1,
      omega (arith, length-append before (x ∷ []), c.loop.invariant.2),
      omega (arith, c.loop-test.true),
      rows_go_on (node_at c.args.index c.args.ids.now) before c.args.count c.loop.counter c.loop.reader x c.read_node.new.reader (rows_at (node_at c.args.index c.args.ids.now) c.args.count [] c.args.reader.now) c.loop-test.true (c.in_ok-found.ensures.read before c.loop.invariant.1) c.loop.invariant.4,
    )

pub returns : goal.returns
returns c = (c.loop.invariant.0, rows_end (node_at c.args.index c.args.ids.now) c.loop.invariant.0 c.args.count c.loop.counter c.loop.reader (rows_at (node_at c.args.index c.args.ids.now) c.args.count [] c.args.reader.now) c.loop-test.false c.loop.invariant.4, omega (arith, c.loop.invariant.2, c.loop.invariant.3, c.loop-test.false))
