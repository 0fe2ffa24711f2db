use Rattle.std.proofs.Common.{◌∙◌, ap, sym, get_or, slice_set}
use Rattle.std.proofs.lemmas.Option.{none-some}
use Rattle.std.proofs.lemmas.List.{map-set}
use Rattle.kp_expiry.specs.declared.tree.Slot.{Slot}
use Rattle.kp_expiry.specs.Nodes.{tag, tags}
use Rattle.kp_expiry.proofs.Again.{is_heard, known_then, index_then, tag_at}
use Rattle.kp_expiry.proofs.expiry.hear_node.Goals as goal

abbrev blank : Slot
blank = record { session = 0; deadline = 0; least = 0 }

pub returns-in-Some-clause-known : goal.returns-in-Some-clause-known
returns-in-Some-clause-known c =
    known_then c.args.known.now.entries (tags c.args.slots.now) c.requires.index c.args.now c.args.node _ _ (tag_at c.args.slots.now c.args.node blank c.requires.inside) c.hear_again.new.known.entries c.hear_again.ensures.change

pub returns-in-Some-clause-index : goal.returns-in-Some-clause-index
returns-in-Some-clause-index c =
    index_then c.args.known.now.entries (tags c.args.slots.now) c.requires.index c.args.now c.args.node _ _ (tag_at c.args.slots.now c.args.node blank c.requires.inside) c.hear_again.new.known.entries c.hear_again.ensures.change
    c.in-Some.heard (sym c.in-Some.is ∙ c.hear_again.ensures.heard) _
    (map-set tag c.args.slots.now c.args.node _ ∙ ap (λ d. slice_set (tags c.args.slots.now) c.args.node (d, (get_or c.args.slots.now c.args.node blank).session)) c.deadline-slot.ensures)

pub returns-in_default-clause-known : goal.returns-in_default-clause-known
returns-in_default-clause-known c =
    known_then c.args.known.now.entries (tags c.args.slots.now) c.requires.index c.args.now c.args.node _ _ (tag_at c.args.slots.now c.args.node blank c.requires.inside) c.hear_again.new.known.entries c.hear_again.ensures.change

pub returns-in_default-clause-index : goal.returns-in_default-clause-index
returns-in_default-clause-index c =
    let stands = tag_at c.args.slots.now c.args.node blank c.requires.inside in
    absurd (none-some _ (sym c.in_default.is ∙ c.hear_again.ensures.heard ∙ sym (is_heard c.args.known.now.entries (tags c.args.slots.now) c.requires.index c.args.now c.args.node _ _ stands)))
