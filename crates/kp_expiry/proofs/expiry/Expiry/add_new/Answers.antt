use Rattle.std.proofs.Common.{◌≡◌, ◌++◌, ◌∷◌, [], cond, nat_eq, length, Some, ap, ◌∙◌, arith}
use Rattle.std.specs.Map.{lookup}
use Rattle.std.specs.FinMap as map
use Rattle.std.proofs.lemmas.List.{length-map}
use Rattle.kp_expiry.specs.Nodes.{tag, tags}
use Rattle.kp_expiry.proofs.Indexed.{on_err, unknown, base_kept, index_added, map_added}
use Rattle.kp_expiry.proofs.expiry.Expiry.add_new.Goals as goal

pub returns-in_err-enter-clause-err : goal.returns-in_err-enter-clause-err
returns-in_err-enter-clause-err c = on_err c.from_residual-in_err-enter.result (base_kept c.self.inside.known.entries c.enter.new.known.entries c.in_err-enter.ensures.err ∙ c.self.view_is)

pub invariant_of-self-2 : goal.invariant_of-self-2
invariant_of-self-2 c =
    let many : c.len-node.result ≡ length (tags c.self.inside.slots.items) = omega (arith, c.len-node.ensures, length-map c.self.inside.slots.items tag) in (
      index_added c.self.inside.known.entries (tags c.self.inside.slots.items) c.self.invariant.0 c.enter.new.known.entries c.args.session c.args.heard
          (unknown c.self.inside.known.entries c.args.session (ap (λ m. map.get m c.args.session) c.self.view_is ∙ c.requires))
          (λ k. c.in_ok-enter.ensures.ok k ∙ ap (λ n. cond (nat_eq c.args.session k) (Some (record { heard = c.args.heard; node = n })) (lookup (nat_eq k) c.self.inside.known.entries)) many)
          (tags c.add.new.slots.items)
          (c.add.ensures.tags
          ∙ ap (λ l. tags l ++ (c.deadline.result, c.args.session) ∷ []) c.reserve.ensures.items
          ∙ ap (λ d. tags c.self.inside.slots.items ++ (d, c.args.session) ∷ []) c.deadline.ensures),
      c.add.ensures.right,
    )

pub returns-clause-ok : goal.returns-clause-ok
returns-clause-ok c =
    let many : c.len-node.result ≡ length (tags c.self.inside.slots.items) = omega (arith, c.len-node.ensures, length-map c.self.inside.slots.items tag) in
    map_added c.self.inside.known.entries (tags c.self.inside.slots.items) c.self.invariant.0 c.enter.new.known.entries c.args.session c.args.heard
    (unknown c.self.inside.known.entries c.args.session (ap (λ m. map.get m c.args.session) c.self.view_is ∙ c.requires))
    (λ k. c.in_ok-enter.ensures.ok k ∙ ap (λ n. cond (nat_eq c.args.session k) (Some (record { heard = c.args.heard; node = n })) (lookup (nat_eq k) c.self.inside.known.entries)) many)
    ∙ ap (λ m. map.insert m c.args.session c.args.heard) c.self.view_is
