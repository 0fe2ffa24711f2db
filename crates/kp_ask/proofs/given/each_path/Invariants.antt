use Rattle.std.proofs.Common.{◌≡◌, take, map}
use Rattle.kp_ask.specs.Given.{given}
use Rattle.kp_ask.proofs.given.each_path.Given as goal

abbrev pub invariant-loop-text : goal.invariant-loop-text
invariant-loop-text l = l.paths ≡ map given (take l.text-index l.texts)
