-- Where adjacent strings begin and end, and what stands between.
use Rattle.std.proofs.Common.{◌≤◌, ◌+◌, ◌-◌, ℕ, ap, sym, ◌∙◌, arith, Some, length, drop, take}
use Rattle.kp_region.specs.Marked.{Marked, run_at}
use Rattle.kp_region.specs.Stretch.{end_of}
use Rattle.kp_region.proofs.Runs.{begins_within, begins_rise, part_joined}
use Rattle.kp_region.proofs.Steps.{lent}
use Rattle.kp_region.proofs.region.Region.run.Goals as goal

pub overflow_sub-end : goal.overflow_sub-end
overflow_sub-end c =
    let w = c.self.inside.window in
    let fits : (c.args.mark - c.self.inside.first) + c.args.count ≤ length c.self.inside.spans.items = omega (arith, c.len.ensures, c.len-else-from-len.ensures, c.if-from-len.false, c.if-count-len.false) in
    let rise = begins_rise w.start c.self.inside.spans.items (end_of w) (c.args.mark - c.self.inside.first) c.args.count fits c.self.invariant.run in
    omega (arith, rise, c.begin_of-start.ensures, c.begin_of-end.ensures)

pub slice-requires-clause-from : goal.slice-requires-clause-from
slice-requires-clause-from c =
    let w = c.self.inside.window in
    let fits : c.args.mark - c.self.inside.first ≤ length c.self.inside.spans.items = omega (arith, c.len.ensures, c.if-from-len.false) in
    let within = begins_within w.start c.self.inside.spans.items (end_of w) (c.args.mark - c.self.inside.first) fits c.self.invariant.run in
    omega (arith, within.0, c.begin_of-start.ensures)

pub slice-requires-clause-to : goal.slice-requires-clause-to
slice-requires-clause-to c =
    let w = c.self.inside.window in
    let fits : (c.args.mark - c.self.inside.first) + c.args.count ≤ length c.self.inside.spans.items = omega (arith, c.len.ensures, c.len-else-from-len.ensures, c.if-from-len.false, c.if-count-len.false) in
    let within = begins_within w.start c.self.inside.spans.items (end_of w) ((c.args.mark - c.self.inside.first) + c.args.count) fits c.self.invariant.run in
    let rise = overflow_sub-end c in
    omega (arith, within.1, rise, c.begin_of-end.ensures)

pub returns : goal.returns
returns c =
    let w = c.self.inside.window in
    let ss = c.self.inside.spans.items in
    let from : ℕ = c.args.mark - c.self.inside.first in
    let fits : from + c.args.count ≤ length ss = omega (arith, c.len.ensures, c.len-else-from-len.ensures, c.if-from-len.false, c.if-count-len.false) in
    ap Some (c.slice.ensures ∙ (λ i. take (c.begin_of-end.ensures i - c.begin_of-start.ensures i) (drop (c.begin_of-start.ensures i - w.start) w.bytes)) ∙ sym (part_joined w.start ss (end_of w) from c.args.count w.bytes fits c.self.invariant.run))
    ∙ lent w ss c.self.inside.first c.self.inside.spare_records c.self.inside.spare_bytes c.args.mark c.args.count c.if-mark-self.false fits
    ∙ ap (λ (m : Marked). run_at m c.args.mark c.args.count) c.self.view_is
