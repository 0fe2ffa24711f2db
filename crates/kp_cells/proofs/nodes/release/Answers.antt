use Rattle.std.proofs.Common.{ℕ, Bool, [], ◌∷◌, take, ap, sym, ◌∙◌, rules}
use Rattle.std.specs.FinMap.{get}
use Rattle.std.specs.Prelude.{slice_index}
use Rattle.kp_cells.specs.Traced.{left, uses}
use Rattle.kp_cells.proofs.Released.{left_more}
use Rattle.kp_cells.proofs.Walked.{one_taken}
use Rattle.kp_cells.proofs.nodes.release.Goals as goal

pub loop-number-preserved : goal.loop-number-preserved
loop-number-preserved c =
    let used : ℕ → Bool = uses c.args.nodes.now.metas c.args.nodes.now.contents c.args.nodes.now.acls c.args.nodes.now.children c.args.nodes.now.owners in
    let ns = c.args.numbers.now in
    let i = c.loop-number.number-index in (
      (λ p.
          c.release_one.ensures.numbers p
          ∙ ap (left used (slice_index ns i ∷ [])) (c.loop-number.invariant.0 p)
          ∙ left_more used (take i ns) (slice_index ns i) (get c.args.names.now.numbers p)
          ∙ ap (λ ms. left used ms (get c.args.names.now.numbers p)) (sym (one_taken ns i (search rules)))),
      c.release_one.ensures.naming,
    )
