use Rattle.std.proofs.Common.{◌≡◌, ℕ, take}
use Rattle.std.specs.Prelude.{map}
use Rattle.kp_model.specs.declared.session.Session.{Session}
use Rattle.kp_plain.proofs.sessions.numbers_of.Given as goal

abbrev pub invariant-loop-number : goal.invariant-loop-number
invariant-loop-number l = l.numbers.items ≡ map (λ (e : ℕ × Session). e.0) (take l.number-index l.from)
