use Rattle.std.proofs.Common.{◌≡◌, List, ℕ, ◌∙◌}
use Rattle.kp_cells.specs.Overlays.{taken_in, all_begun}
use Rattle.kp_cells.specs.Pouring.{with_parts}
use Rattle.kp_cells.proofs.Settled.{settled_fits}
use Rattle.kp_cells.proofs.Poured.{on_poured}
use Rattle.kp_cells.proofs.cells.Cells.pour_node.Goals as goal

pub shown_of-requires : goal.shown_of-requires
shown_of-requires c = settled_fits c.args.self.now c.requires

pub returns-clause-ok : goal.returns-clause-ok
returns-clause-ok c =
    let bytes : c.from_vec-bytes.result ≡ c.args.content.now = c.from_vec-bytes.ensures ∙ c.in_ok-from_slice.ensures.items in
    on_poured c.put_node.result
    (λ e. e ∙ (λ i. taken_in (with_parts (all_begun c.args.self.now) c.args.path.now (c.grown_parent-up.ensures i) (c.in_ok-shown.ensures i) (bytes i) (c.in_ok-list.ensures i))))
    c.put_node.ensures.ok
