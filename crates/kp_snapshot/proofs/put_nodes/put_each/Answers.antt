use Rattle.std.proofs.Common.{ℕ, List, take, slice_get, refl, sym, ap, subst, ◌∙◌}
use Rattle.std.specs.FinMap as map
use Rattle.std.specs.Cmp.Lexicographic.{nat_list_cmp_total}
use Rattle.std.proofs.lemmas.Option.{slice_get_read}
use Rattle.kp_snapshot.specs.Rules.{Placed}
use Rattle.kp_snapshot.specs.Knowing.{Stand}
use Rattle.kp_snapshot.proofs.Keyed.{at_key}
use Rattle.kp_snapshot.proofs.PartWrites.{node_written}
use Rattle.kp_snapshot.proofs.put_nodes.put_each.Goals as goal

pub loop-path-preserved : goal.loop-path-preserved
loop-path-preserved g c =
    let m = (g.V.View.state c.args.view.now).nodes in
    let i = c.loop-path.path-index in
    let path = c.path-item.result in
    let e = at_key nat_list_cmp_total m i path (ap (λ (ks : List (List ℕ)). slice_get ks i) (sym c.requires.paths) ∙ slice_get_read c.args.paths.now _ i path refl c.loop-path-test.true c.path-item.is) in
    let w = c.in_ok-put_next.ensures (take i (map.entries m)) e.0 c.loop-path.invariant.0 e.1 in (
      subst (λ (xs : List Placed). Stand xs c.put_next.new.trail.last.now c.put_next.new.trail.ups.items) (sym e.2) w.1,
      node_written c.args.index i c.args.ids.now (map.entries m) (path, e.0) c.args.out.now.items c.loop-path.out.items c.put_next.new.out.items e.2 c.loop-path.invariant.1 w.0,
    )
