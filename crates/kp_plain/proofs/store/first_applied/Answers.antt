use Rattle.kp_plain.proofs.Replay.{first_state, first_index, first_answer, first_leaves}
use Rattle.kp_plain.proofs.Keeping.{first_sound}
use Rattle.kp_plain.proofs.store.first_applied.Goals as goal

pub returns-clause-answer : goal.returns-clause-answer
returns-clause-answer c = first_answer c.args.state.now c.in_ok-tree.tree _ c.args.entries.now c.index-entries-0.result _ c.in_ok-tree.ensures c.in_ok-tree-2.ensures c.applied-index.result c.requires.some c.index-entries-0.is c.applied-index.ensures

pub returns-clause-state : goal.returns-clause-state
returns-clause-state c = first_leaves c.args.state.now c.in_ok-tree.tree _ c.args.entries.now c.index-entries-0.result _ c.in_ok-tree.ensures c.in_ok-tree-2.ensures c.requires.some c.index-entries-0.is

pub returns-clause-applied : goal.returns-clause-applied
returns-clause-applied c = first_index c.args.state.now c.in_ok-tree.tree _ c.args.entries.now c.index-entries-0.result _ c.in_ok-tree.ensures c.in_ok-tree-2.ensures

pub returns-clause-sound : goal.returns-clause-sound
returns-clause-sound c = first_sound c.args.state.now _ c.args.entries.now c.index-entries-0.result c.requires.taken c.requires.sound c.requires.room c.requires.some c.index-entries-0.is
    (first_state c.args.state.now c.in_ok-tree.tree _ c.args.entries.now c.index-entries-0.result _ c.in_ok-tree.ensures c.in_ok-tree-2.ensures)
