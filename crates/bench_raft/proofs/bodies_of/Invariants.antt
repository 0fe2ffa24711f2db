use Rattle.std.proofs.Common.{◌≡◌, true}
use Rattle.std.specs.List.{list_all}
use Rattle.kp_model.specs.Grammar.{is_body}
use Rattle.bench_raft.proofs.bodies_of.Given as goal

abbrev pub invariant-loop : goal.invariant-loop
invariant-loop l = list_all is_body l.bodies ≡ true
