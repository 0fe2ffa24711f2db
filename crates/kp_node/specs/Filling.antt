-- The answer to an append names the sessions that were heard.
use Rattle.std.specs.Prelude.{ℕ, Bool, List}
use Rattle.std.specs.List.{list_any}
use Rattle.kp_raft.specs.declared.mail.Mail.{Mail}
use Rattle.kp_snapshot.specs.Snapshots.{Snapshot}
use Rattle.kp_step.specs.Step.{is_append_rep}

-- whether one of the messages answers an append
abbrev pub answers : List (ℕ × Mail Snapshot) → Bool
answers ms = list_any (λ (m : ℕ × Mail Snapshot). is_append_rep m.1) ms
