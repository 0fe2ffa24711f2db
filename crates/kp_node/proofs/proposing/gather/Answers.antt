use Rattle.std.proofs.Common.{◌∙◌, sym, subst}
use Rattle.kp_step.specs.Handing.{proposed_all}
use Rattle.kp_node.specs.Proposing.{AtDesk, desk_of}
use Rattle.kp_node.proofs.Handed.{takes_none, takes_all, desk_at_none, desk_at_all, desk_at_some}
use Rattle.kp_node.proofs.proposing.gather.Goals as goal

pub returns-then-not-leads-clause-desk : goal.returns-then-not-leads-clause-desk
returns-then-not-leads-clause-desk c = desk_at_none _ _ _ _ c.requires (c.from_vec.ensures ∙ c.new-taken.ensures.items)

pub returns-then-not-leads-clause-taken : goal.returns-then-not-leads-clause-taken
returns-then-not-leads-clause-taken c = c.from_vec.ensures ∙ c.new-taken.ensures.items ∙ sym (takes_none c.args.raft.now c.args.storage.now c.args.now c.args.bodies.items (sym c.leads.ensures ∙ c.if-not-leads.true))

pub returns-in-Ok-clause-taken : goal.returns-in-Ok-clause-taken
returns-in-Ok-clause-taken c = let h = desk_at_all _ _ _ _ _ c.args.bodies.items _ _ c.requires c.new-taken.ensures.items c.term.ensures.term c.in-Ok.ensures.ok in
    c.from_vec-in-Ok.ensures ∙ h.bodies ∙ sym (takes_all c.args.raft.now c.args.storage.now c.args.now c.args.bodies.items (sym c.leads.ensures ∙ c.if-not-leads.false))

pub returns-in-Ok-clause-desk : goal.returns-in-Ok-clause-desk
returns-in-Ok-clause-desk c = (
  proposed_all c.args.raft.now.held.term c.args.now (desk_of c.args.storage.now) c.args.bodies.items,
  subst (λ l. AtDesk c.args.storage.now c.args.raft.now.held.term c.args.now c.hand_in_all.new.storage l (proposed_all c.args.raft.now.held.term c.args.now (desk_of c.args.storage.now) c.args.bodies.items)) (sym c.from_vec-in-Ok.ensures)
      (desk_at_all _ _ _ _ _ c.args.bodies.items _ _ c.requires c.new-taken.ensures.items c.term.ensures.term c.in-Ok.ensures.ok),
)

pub returns-in-Err-clause-err : goal.returns-in-Err-clause-err
returns-in-Err-clause-err c = desk_at_some _ _ _ _ _ c.args.bodies.items c.args.bodies.items _ c.requires c.new-taken.ensures.items c.term.ensures.term c.in-Err.ensures.err
