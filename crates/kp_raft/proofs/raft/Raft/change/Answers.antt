use Rattle.std.proofs.Common.{arith, ap, sym, ◌-◌}
use Rattle.kp_entry.specs.Heads.{part_of}
use Rattle.kp_raft.specs.declared.vars.Vars.{Vars}
use Rattle.kp_raft.specs.Members.{Member}
use Rattle.kp_raft.proofs.StepFacts.{change_steps, part_len, replaced}
use Rattle.kp_raft.proofs.raft.Raft.change.Goals as goal

pub returns-clause-ok : goal.returns-clause-ok
returns-clause-ok g c = change_steps {I = g.row.I.Denot} c.args.self.now c.self.inside.node c.self.inside.members c.self.inside.term c.self.inside.vote c.self.inside.log c.replace.new.self c.self.inside.vars c.args.vars _ c.args.term c.args.vote c.kept_to-from.result _ c.args.keep c.ballot-ballot.result (part_of c.args.part.0 c.args.part.1 c.args.entries.now) _ _ c.self.view_is c.kept_to-from.ensures.index c.in_ok-replace.ensures.ok c.ballot-ballot.ensures.record c.in_ok-records.ensures (part_len c.args.part.0 c.args.part.1 c.args.entries.now c.requires.until)

pub invariant_of-self-2 : goal.invariant_of-self-2
invariant_of-self-2 g c =
    let r = replaced c.args.self.now.held.log c.self.inside.log c.replace.new.self c.kept_to-from.result (c.args.part.1 - c.args.part.0) c.args.keep (part_of c.args.part.0 c.args.part.1 c.args.entries.now) (ap (λ (m : Member). m.held.log) c.self.view_is) c.kept_to-from.ensures.index c.kept_to-from.ensures.from c.kept_to-from.ensures.to (part_len c.args.part.0 c.args.part.1 c.args.entries.now c.requires.until) c.in_ok-replace.ensures.ok in
    record {
      node_some = c.self.invariant.node_some;
      node_within = c.self.invariant.node_within;
      members_few = c.self.invariant.members_few;
      term_fits = c.requires.term;
      vote_fits = c.requires.vote;
      base_in = omega (arith, r.base, c.requires.from);
      commit_in = omega (arith, r.last, c.requires.to);
      low = c.requires.low;
      stands = λ q. omega (arith, r.last, c.requires.stands q);
    }
