use Rattle.std.proofs.Common.{◌≡◌, ◌<◌, ◌≤◌, ◌-◌, nat_eq, ap, sym, ◌∙◌, subst, arith, length, slice_index_or}
use Rattle.std.specs.FinMap.{get}
use Rattle.std.specs.Map.{lookup}
use Rattle.kp_layers.specs.Chains.{committed_in, newest_in}
use Rattle.kp_layers.specs.Overlay.{newest_of}
use Rattle.kp_layers.proofs.Chained.{in_log, latest_written, latest_committed}
use Rattle.kp_layers.proofs.history.History.latest.Goals as goal

pub index-write-requires : goal.index-write-requires
index-write-requires g c =
    let e : c.in-Some.cell.now.newest ≡ newest_in (lookup (nat_eq c.args.key) c.self.inside.cells.entries) = ap newest_in c.in-Some.ensures.value in
    let h : newest_in (lookup (nat_eq c.args.key) c.self.inside.cells.entries) - c.self.inside.first ≤ length c.self.inside.log.items = in_log _ _ _ c.args.key c.self.invariant.0.chains in
    omega arith

pub returns-then-self-cell : goal.returns-then-self-cell
returns-then-self-cell g c =
    let e : c.in-Some.cell.now.newest ≡ newest_in (lookup (nat_eq c.args.key) c.self.inside.cells.entries) = ap newest_in c.in-Some.ensures.value in
    c.as_ref.ensures.value
    ∙ ap (λ w. w.value) c.index-write.ensures
    ∙ ap (λ n. (slice_index_or c.self.inside.log.items (n - c.self.inside.first - 1) c.index-write.result.now).value) e
    ∙ sym (latest_written c.self.inside.cells.entries c.self.inside.log.items c.self.inside.first c.args.key c.index-write.result.now c.self.invariant.0.chains (subst (λ n. c.self.inside.first < n) e c.if-self-cell.true))
    ∙ ap (λ p. get (newest_of p) c.args.key) c.self.view_is

pub returns-else-self-cell : goal.returns-else-self-cell
returns-else-self-cell g c =
    let e : c.in-Some.cell.now.newest ≡ newest_in (lookup (nat_eq c.args.key) c.self.inside.cells.entries) = ap newest_in c.in-Some.ensures.value in
    c.as_ref-else-self-cell.ensures.value
    ∙ ap committed_in c.in-Some.ensures.value
    ∙ sym (latest_committed c.self.inside.cells.entries c.self.inside.log.items c.self.inside.first c.args.key c.self.invariant.0.chains (subst (λ n. n ≤ c.self.inside.first) e c.if-self-cell.false))
    ∙ ap (λ p. get (newest_of p) c.args.key) c.self.view_is

pub returns-in-None : goal.returns-in-None
returns-in-None g c =
    let e : 0 ≡ newest_in (lookup (nat_eq c.args.key) c.self.inside.cells.entries) = ap newest_in c.in-None.ensures.value in
    ap committed_in c.in-None.ensures.value
    ∙ sym (latest_committed c.self.inside.cells.entries c.self.inside.log.items c.self.inside.first c.args.key c.self.invariant.0.chains (omega arith))
    ∙ ap (λ p. get (newest_of p) c.args.key) c.self.view_is
