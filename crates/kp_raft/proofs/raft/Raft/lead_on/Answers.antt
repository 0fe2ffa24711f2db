use Rattle.kp_raft.specs.Variables.{vars_of}
use Rattle.kp_raft.proofs.StepFacts.{if_ok, steps_as, leads_same}
use Rattle.kp_raft.proofs.raft.Raft.lead_on.Goals as goal

pub returns-clause-ok : goal.returns-clause-ok
returns-clause-ok g c = if_ok c.lead.result (λ out. steps_as {I = g.row.I.Denot} c.args.self.now c.lead.new.self _ _ out (leads_same g.row.I.Denot c.args.self.now.members c.args.self.now.node c.args.self.now.held (vars_of c.args.vars) c.term-term.result c.vote-vote.result c.term-term.ensures.term c.vote-vote.ensures.vote)) c.lead.ensures.ok
