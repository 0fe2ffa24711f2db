use Rattle.std.proofs.Common.{ap, sym, ◌∙◌, List, refl, arith}
use Rattle.std.specs.List.{list_all}
use Rattle.kp_model.specs.declared.entry.Body.{Body}
use Rattle.kp_model.specs.declared.read.Role.{Role}
use Rattle.kp_model.specs.Grammar.{is_body}
use Rattle.kp_raft.specs.Parts.{is_leader}
use Rattle.kp_log_tests.proofs.raft.write.Goals as goal

pub step-requires : goal.step-requires
step-requires c = record {
  leads = ap is_leader (sym c.role.ensures ∙ c.in-Leader.is);
  time_fits = omega arith;
  in_grammar = ap (λ (bs : List Body). list_all is_body bs) c.in_ok-bodies.ensures;
}
