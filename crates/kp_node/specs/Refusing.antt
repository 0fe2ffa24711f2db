-- What refusing all that waits at a connection makes of it, by some luck.
use Rattle.std.specs.Prelude.{◌≡◌, ℕ, Option}
use Rattle.kp_wire.specs.declared.reply.WireReply.{WireReply}
use Rattle.kp_wire.specs.declared.reply.WireReply.TheVariants as sent
use Rattle.kp_conn.specs.Connection.{Connection}
use Rattle.kp_step.specs.Answers.{Cause, code_of}
use Rattle.kp_step.specs.Settling.{refused}

-- the connection behind the refusal of all that waits
abbrev pub refused_with : Option ℕ → ℕ → Cause → Connection → Connection
refused_with n zxid cause c = (refused n zxid cause c c.queue).connection

-- for whatever cause this is the reply of, all that waits is refused by some luck
abbrev pub IsRefused : ℕ → WireReply → Connection → Connection → Type 0
IsRefused zxid r c c' = (cause : Cause) → sent.Err (code_of cause) ≡ r → (n : Option ℕ) × (c' ≡ refused_with n zxid cause c)

-- whatever luck comes from here on, some luck from the beginning leads to the same
abbrev pub RefusesOn : ℕ → WireReply → Connection → Connection → Type 0
RefusesOn zxid r c c' = (cause : Cause) → sent.Err (code_of cause) ≡ r → (n : Option ℕ) → (m : Option ℕ) × (refused_with m zxid cause c ≡ refused_with n zxid cause c')
