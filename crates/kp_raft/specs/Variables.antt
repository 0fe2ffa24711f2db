-- The variables of the code, as the rules see them.
use Rattle.std.specs.Prelude.{ℕ, ◌≤◌, ◌^◌, false, List, get_or}
use Rattle.kp_raft.specs.declared.vars.Vars.{Vars}
use Rattle.kp_raft.specs.Parts.{Running}

abbrev pub vars_of : Vars → Running
vars_of v = record { role = v.role; leader = v.leader; commit = v.commit; votes = λ k. get_or v.votes k false; matches = λ k. get_or v.matches k 0; nexts = λ k. get_or v.nexts k 0 }

-- no match number is above the greatest index
pub record IsLow (matches : List ℕ) : Type 0 where
  pub low : (k : ℕ) → get_or matches k 0 ≤ 2 ^ 62
