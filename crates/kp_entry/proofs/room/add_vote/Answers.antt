use Rattle.std.proofs.Common.{ap, ◌∙◌, ◌≡◌, ◌≤◌, ◌++◌, ◌∷◌, [], sym, subst, length, length-append, map, arith, List, ℕ, Option}
use Rattle.std.specs.List.{concat}
use Rattle.kp_entry.specs.Records.{records}
use Rattle.kp_entry.specs.Heads.{voted}
use Rattle.kp_entry.proofs.Runs.{one_len}
use Rattle.kp_entry.proofs.room.add_vote.Goals as goal

pub returns-in-Some-clause-added : goal.returns-in-Some-clause-added
returns-in-Some-clause-added c = c.push_vote.ensures.added ∙ ap (λ (v : Option (ℕ × ℕ)). c.args.pieces.now.strings ++ map records.spell (voted v)) (sym c.in-Some.is)

pub returns-in-Some-clause-len : goal.returns-in-Some-clause-len
returns-in-Some-clause-len c = subst (λ (v : Option (ℕ × ℕ)). length (concat (map records.spell (voted v))) ≤ 10) (sym c.in-Some.is) (one_len _ 10 c.push_vote.ensures.len)
