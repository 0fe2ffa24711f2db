use Rattle.std.proofs.Common.{◌∙◌, ap, sym, slice_get, arith}
use Rattle.kp_expiry.proofs.Walked.{walk_inside, walk_goes_on, walk_ends, walk_was_whole}
use Rattle.kp_expiry.proofs.listing.find_due.Goals as goal
use Rattle.kp_expiry.proofs.listing.find_due.Goals.{else-loop-at-test, then-loop-at-test+in_default}

pub push_found-requires : goal.push_found-requires
push_found-requires c =
    walk_inside c.args.slots.now c.args.now c.loop-at.at c.loop-at.nodes.items c.loop-at.found.items c.loop-at.invariant c.in-Some.node
    (sym (c.in-Some.ensures ∙ ap (λ l. slice_get l c.loop-at.at) c.deref.ensures.value))

pub push_children-requires : goal.push_children-requires
push_children-requires c =
    walk_inside c.args.slots.now c.args.now c.loop-at.at c.loop-at.nodes.items c.loop-at.found.items c.loop-at.invariant c.in-Some.node
    (sym (c.in-Some.ensures ∙ ap (λ l. slice_get l c.loop-at.at) c.deref.ensures.value))

pub loop-at-preserved : goal.loop-at-preserved
loop-at-preserved c =
    walk_goes_on c.args.slots.now c.args.now c.loop-at.at c.loop-at.nodes.items c.loop-at.found.items c.loop-at.invariant c.requires c.in-Some.node _ _
    (sym (c.in-Some.ensures ∙ ap (λ l. slice_get l c.loop-at.at) c.deref.ensures.value))
    c.in_ok-push_found.ensures
    c.in_ok-push_children.ensures

pub returns : goal.returns
returns c = elim c.loop-at-test.branch [
  | else-loop-at-test w ↦ walk_was_whole c.args.slots.now c.args.now c.loop-at.at c.loop-at.nodes.items c.loop-at.found.items c.loop-at.invariant c.requires (omega (arith, w.loop-at-test.false, c.loop-at.auto.at-end))
  | then-loop-at-test+in_default w ↦
      walk_ends c.args.slots.now c.args.now c.loop-at.at c.loop-at.nodes.items c.loop-at.found.items c.loop-at.invariant c.requires
      (sym (ap (λ l. slice_get l c.loop-at.at) w.deref.ensures.value) ∙ sym w.node_at.ensures ∙ w.in_default.is)
]
