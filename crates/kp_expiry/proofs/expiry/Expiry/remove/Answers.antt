use Rattle.std.proofs.Common.{cond, nat_eq, ap, sym, ◌∙◌, arith}
use Rattle.std.specs.Map.{lookup}
use Rattle.std.specs.FinMap as map
use Rattle.std.proofs.lemmas.List.{length-map}
use Rattle.kp_expiry.specs.Index.{moved_to, taken_out, mover}
use Rattle.kp_expiry.specs.Nodes.{tag, tags}
use Rattle.kp_expiry.proofs.Indexed.{entry_of, gone_inside, index_last_gone, index_moved, map_forgotten, map_moved}
use Rattle.kp_expiry.proofs.expiry.Expiry.remove.Goals as goal

pub take_out-requires-clause-inside : goal.take_out-requires-clause-inside
take_out-requires-clause-inside c =
    let ts = tags c.self.inside.slots.items in
    let gone = entry_of c.self.inside.known.entries ts c.self.invariant.0 c.args.session c.in-Some.node c.in-Some.ensures.node in
    omega (arith, gone.2, gone_inside c.self.inside.known.entries ts c.self.invariant.0 c.forget.new.known.entries c.args.session gone.0 gone.1 c.forget.ensures.change, length-map c.self.inside.slots.items tag)

pub invariant_of-self : goal.invariant_of-self
invariant_of-self c =
    let known = c.self.inside.known.entries in
    let ts = tags c.self.inside.slots.items in
    let gone = entry_of known ts c.self.invariant.0 c.args.session c.in-Some.node c.in-Some.ensures.node in (
      index_moved known ts c.self.invariant.0 c.forget.new.known.entries c.args.session gone.0 gone.1 c.forget.ensures.change (tags c.take_out.new.slots.items)
          (λ i. c.take_out.ensures.tags i ∙ ap (λ n. taken_out ts n i) (sym gone.2))
          c.in-Some-take_out.moved
          (ap (mover ts) gone.2 ∙ sym c.in-Some-take_out.ensures.mover)
          c.set_node.new.known.entries
          (λ k. c.set_node.ensures k ∙ ap (λ n. cond (nat_eq c.in-Some-take_out.moved k) (moved_to n (lookup (nat_eq k) c.forget.new.known.entries)) (lookup (nat_eq k) c.forget.new.known.entries)) (sym gone.2)),
      c.take_out.ensures.right,
    )

pub invariant_of-self-in_default-take_out : goal.invariant_of-self-in_default-take_out
invariant_of-self-in_default-take_out c =
    let known = c.self.inside.known.entries in
    let ts = tags c.self.inside.slots.items in
    let gone = entry_of known ts c.self.invariant.0 c.args.session c.in-Some.node c.in-Some.ensures.node in (
      index_last_gone known ts c.self.invariant.0 c.forget.new.known.entries c.args.session gone.0 gone.1 c.forget.ensures.change (tags c.take_out.new.slots.items)
          (λ i. c.take_out.ensures.tags i ∙ ap (λ n. taken_out ts n i) (sym gone.2))
          (ap (mover ts) gone.2 ∙ sym c.take_out.ensures.mover ∙ c.in_default-take_out.is),
      c.take_out.ensures.right,
    )

pub returns-in-Some-take_out : goal.returns-in-Some-take_out
returns-in-Some-take_out c =
    let known = c.self.inside.known.entries in
    let ts = tags c.self.inside.slots.items in
    let gone = entry_of known ts c.self.invariant.0 c.args.session c.in-Some.node c.in-Some.ensures.node in
    map_moved known ts c.self.invariant.0 c.forget.new.known.entries c.args.session gone.0 gone.1 c.forget.ensures.change (tags c.take_out.new.slots.items)
    (λ i. c.take_out.ensures.tags i ∙ ap (λ n. taken_out ts n i) (sym gone.2))
    c.in-Some-take_out.moved
    (ap (mover ts) gone.2 ∙ sym c.in-Some-take_out.ensures.mover)
    c.set_node.new.known.entries
    (λ k. c.set_node.ensures k ∙ ap (λ n. cond (nat_eq c.in-Some-take_out.moved k) (moved_to n (lookup (nat_eq k) c.forget.new.known.entries)) (lookup (nat_eq k) c.forget.new.known.entries)) (sym gone.2))
    ∙ ap (λ m. map.remove m c.args.session) c.self.view_is

pub returns-in_default-take_out : goal.returns-in_default-take_out
returns-in_default-take_out c =
    map_forgotten c.self.inside.known.entries c.forget.new.known.entries c.args.session c.forget.ensures.change ∙ ap (λ m. map.remove m c.args.session) c.self.view_is

pub returns-in_default : goal.returns-in_default
returns-in_default c = map_forgotten c.self.inside.known.entries c.forget.new.known.entries c.args.session c.forget.ensures.change ∙ ap (λ m. map.remove m c.args.session) c.self.view_is
