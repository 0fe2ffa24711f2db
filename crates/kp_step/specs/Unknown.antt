-- Which requests are answered -6.
use Rattle.std.specs.Prelude.{◌≡◌, ℕ, Bool, true, false, List, is_some}
use Rattle.std.specs.Ordering.{int_eq}
use Rattle.kp_model.specs.State.{State}
use Rattle.kp_ask.specs.Asks.{command}
use Rattle.kp_wire.specs.declared.request.WireAsk.{WireAsk}
use Rattle.kp_wire.specs.declared.request.WireAsk.TheVariants as ask
use Rattle.kp_wire.specs.declared.reply.WireReply.{WireReply}
use Rattle.kp_wire.specs.declared.reply.WireReply.TheVariants as sent
use Rattle.kp_watch.specs.declared.watch.Watch.{Watch}
use Rattle.kp_step.specs.Answers.{state_answer, unimplemented}

-- a type of request that the protocol here doesn't have
abbrev pub is_unknown : WireAsk → Bool
is_unknown (ask.Other number rest) = true
is_unknown a = false

abbrev pub is_unimplemented : WireReply → Bool
is_unimplemented (sent.Err code) = int_eq code unimplemented
is_unimplemented r = false

-- a request that is no write is answered -6 exactly where its type is unknown
abbrev pub UnknownIsUnimplemented : Type 0
UnknownIsUnimplemented = (s : State) (session k : ℕ) (ws : List Watch) (a : WireAsk) → is_some (command a) ≡ false → is_unimplemented (state_answer s session k ws a).reply ≡ is_unknown a
