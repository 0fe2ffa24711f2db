use Rattle.std.proofs.Common.{◌≡◌, ◌++◌, length}
use Rattle.std.specs.List.{All}
use Rattle.std.specs.Vec.Iter.{into_iter_items, into_iter_len}
use Rattle.kp_act.specs.Effects.{IsFit}
use Rattle.kp_prep.specs.Ledgers.{IsLedger, nodes_behind}
use Rattle.kp_prep.specs.Changing.{effects_changes}
use Rattle.kp_prep.proofs.deciding.push_effects.Given as goal

abbrev pub invariant-loop-effect : goal.invariant-loop-effect
invariant-loop-effect g l = record {
  pushed : l.ledger.changes ++ effects_changes (nodes_behind (g.V.View.state l.view) l.ledger.changes) (into_iter_items l.effect-iterator) ≡ l.fn.ledger.changes ++ effects_changes (nodes_behind (g.V.View.state l.view) l.fn.ledger.changes) l.fn.effects;
  ledger : IsLedger (g.V.View.state l.view) l.ledger.changes l.ledger.places.entries;
  left : into_iter_len l.effect-iterator ≡ length (into_iter_items l.effect-iterator);
  fit : All IsFit (into_iter_items l.effect-iterator);
}
