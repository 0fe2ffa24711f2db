use Rattle.std.proofs.Common.{sym, ap, arith}
use Rattle.std.specs.Option.{option_map}
use Rattle.kp_model.specs.Step.{Outcome}
use Rattle.kp_plain.proofs.Replay.{outcome_none, reply_at, applied_before}
use Rattle.kp_plain.proofs.Keeping.{before_sound}
use Rattle.kp_plain.proofs.store.kept_at.Goals as goal

pub returns-then-place-entries : goal.returns-then-place-entries
returns-then-place-entries c = sym (ap (option_map (λ (o : Outcome). o.reply)) (outcome_none c.args.state.now c.args.entries.now c.args.place (omega arith)))

pub take-requires-clause-room : goal.take-requires-clause-room
take-requires-clause-room c = omega (arith, applied_before c.args.state.now c.in_ok-tree.tree c.args.entries.now c.args.place c.in_ok-tree.ensures (omega arith))

pub returns : goal.returns
returns c = reply_at c.args.state.now c.in_ok-tree.tree _ c.args.entries.now c.args.place c.index-entries-place.result _ c.in_ok-tree.ensures c.in_ok-tree-2.ensures (omega arith) c.index-entries-place.is

pub take-requires-clause-sound : goal.take-requires-clause-sound
take-requires-clause-sound c = before_sound c.args.state.now c.in_ok-tree.tree c.args.entries.now c.args.place c.requires.taken c.requires.sound c.requires.room c.in_ok-tree.ensures
