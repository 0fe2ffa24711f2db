-- Why an event was not taken.
use Rattle.std.specs.Prelude.{◌≡◌}
use Rattle.kp_turn.specs.declared.view.TurnView.{TurnView}
use Rattle.kp_turn.specs.declared.turn.Refused.{Refused}
use Rattle.kp_turn.specs.declared.turn.Refused.TheVariants.{Busy, Worn}
use Rattle.kp_turn.specs.TurnView.{SeesMore, IsFull, with_met}

-- The event comes back and nothing is added. Busy: the seat met another's turn once, and nothing else changed. Worn: it met none,
-- and saw a history that can't grow any more.
abbrev pub Refuses : {T E A : Type 0} → TurnView T E A → TurnView T E A → E → Refused E → Type 0
Refuses v w event (Busy e) = (e ≡ event) × (w ≡ with_met v)
Refuses v w event (Worn e) = (e ≡ event) × SeesMore v w × IsFull w
