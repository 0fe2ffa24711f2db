-- What the store keeps.
use Rattle.std.specs.Prelude.{◌+◌, ◌≤◌, ◌^◌, List, length, All}
use Rattle.kp_model.specs.LogEntry.{LogEntry}
use Rattle.kp_model.specs.State.{State}
use Rattle.kp_model.specs.Grammar.{IsEntry}

-- indexes within their limit, and entries that can be written down
pub record Keeps (s : State) (es : List LogEntry) : Type 0 where
  pub room : s.applied + length es ≤ 2 ^ 62
  pub taken : All IsEntry es
