-- When a session has expired.
use Rattle.std.specs.Prelude.{ℕ, ◌+◌, ◌*◌, ◌/◌}
use Rattle.kp_expiry.specs.declared.heard.Heard.{Heard}

-- the time of the last word and the timeout, rounded up to a multiple of 500 ms
abbrev pub deadline : Heard → ℕ
deadline h = (h.heard + h.timeout + 499) / 500 * 500
