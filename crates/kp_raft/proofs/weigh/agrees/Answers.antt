use Rattle.std.proofs.Common.{arith, ap, sym, ◌∙◌, ℕ, length, get_or}
use Rattle.kp_model.specs.LogEntry.{LogEntry}
use Rattle.kp_raft.specs.Appends.{has_term}
use Rattle.kp_raft.proofs.Agreeing.{term_there, none_there}
use Rattle.kp_raft.proofs.weigh.agrees.Goals as goal

pub returns-in-Some : goal.returns-in-Some
returns-in-Some c = λ e. c.has_term.ensures ∙ ap (λ (t : ℕ). has_term c.args.log.now c.args.index t) (term_there c.args.entries.now c.args.place c.in-Some.term e c.in-Some.ensures.term)

pub returns-in-None : goal.returns-in-None
returns-in-None c = absurd (omega (arith, none_there c.args.entries.now c.args.place c.in-None.ensures.term, c.requires))
