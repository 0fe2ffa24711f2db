-- the frames that were cut, and what is cut behind them
use Rattle.std.specs.Prelude.{◌≡◌, ◌≤◌, ◌+◌, ◌-◌, ℕ, length, drop}
use Rattle.kp_conn.specs.Frames.{cut_up_to, before}
use Rattle.kp_conn.proofs.frames.cut_all.Given as goal

abbrev pub invariant-loop-turn : goal.invariant-loop-turn
invariant-loop-turn l = (l.used ≤ length l.bytes) × ((place : ℕ) → cut_up_to (length l.bytes) place l.bytes ≡ before l.found.items (cut_up_to (length l.bytes - l.turn) (place + l.used) (drop l.used l.bytes)))
