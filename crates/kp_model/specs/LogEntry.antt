-- An element of the log, as plain data.
use Rattle.std.specs.Prelude.{ℕ}
use Rattle.kp_model.specs.declared.entry.Body.{Body}

pub record LogEntry : Type 0 where
  pub term : ℕ
  pub time : ℕ
  pub body : Body
