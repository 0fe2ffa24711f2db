-- What is left open in a step: for want of memory an append may be cut, and a connection may be given up.
use Rattle.std.specs.Prelude.{ℕ, zero, suc, Bool, true, false, Option, Some, None}

-- how many acts of one connection in the step find memory, of each kind; None is all of them
pub record Luck : Type 0 where
  pub events : Option ℕ
  pub requests : Option ℕ
  pub answers : Option ℕ

-- how many entries of an append find memory, and the luck of each connection
pub record Choices : Type 0 where
  pub room : Option ℕ
  pub luck : ℕ → Luck

-- whether the next act finds none
abbrev pub is_out : Option ℕ → Bool
is_out None = false
is_out (Some zero) = true
is_out (Some (suc n)) = false

-- what is left behind an act that found some
abbrev pub less : Option ℕ → Option ℕ
less None = None
less (Some zero) = Some zero
less (Some (suc n)) = Some n
