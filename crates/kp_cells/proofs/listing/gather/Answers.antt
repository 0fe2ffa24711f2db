use Rattle.std.proofs.Common.{◌≡◌, take, sym, subst, rules}
use Rattle.std.specs.Prelude.{slice_index}
use Rattle.std.specs.BTreeSet.{contains}
use Rattle.kp_model.specs.State.{path_cmp}
use Rattle.kp_cells.specs.Listed.{side_of}
use Rattle.kp_cells.proofs.Walked.{Walked, one_walked, all_walked, one_taken, all_taken}
use Rattle.kp_cells.proofs.listing.gather.Goals as goal

pub loop-number-preserved : goal.loop-number-preserved
loop-number-preserved g c =
    let f = g.P.Pick.test c.args.pick.now in
    let m = side_of c.args.latest c.args.metas.now in
    let ns = c.args.numbers.now in
    let i = c.loop-number.number-index in
    subst (λ x. Walked f c.args.names.now m x (contains path_cmp c.visit.new.found)) (sym (one_taken ns i (search rules)))
    (one_walked f c.args.names.now m c.requires.naming (take i ns) (slice_index ns i) (contains path_cmp c.loop-number.found) (contains path_cmp c.visit.new.found) c.loop-number.invariant c.in_ok-visit.ensures)

pub returns : goal.returns
returns g c =
    let f = g.P.Pick.test c.args.pick.now in
    let m = side_of c.args.latest c.args.metas.now in
    let ns = c.args.numbers.now in
    let all : take c.loop-number.number-index ns ≡ ns = all_taken ns c.loop-number.number-index (search rules) in
    all_walked f c.args.names.now m ns (contains path_cmp c.loop-number.found) c.requires.all
    (subst (λ x. Walked f c.args.names.now m x (contains path_cmp c.loop-number.found)) all c.loop-number.invariant)
