use Rattle.std.proofs.Common.{◌∙◌, sym, ap, subst, ◌≤◌, false, refl}
use Rattle.kp_model.specs.Store.{truncated, last as last_of}
use Rattle.kp_model.specs.Limits.{last_number}
use Rattle.kp_step.proofs.Tables.{no}
use Rattle.kp_node.specs.Serving.{IsFinished}
use Rattle.kp_node.proofs.HandedOver.{within_numbers, emptied, served, gives_up, stands_from, stands_to}
use Rattle.kp_node.proofs.serving.serve.Goals as goal

pub hand_over-requires : goal.hand_over-requires
hand_over-requires c = within_numbers c.args.ground c.args.number c.args.fed c.args.raft.now c.args.raft.now c.args.storage.now c.join_all.new.storage c.args.watches.now c.args.conn.now c.join_all.new.conn _ _ _ _ c.new-bodies.ensures.items c.new-forwards.ensures.items c.join_all.ensures (subst (λ n. n ≤ last_number) c.last-last.ensures.index c.last-last.ensures.limit)

pub truncate-requires-clause-from : goal.truncate-requires-clause-from
truncate-requires-clause-from c = subst (λ n. c.join_all.new.storage.state.applied ≤ n) (sym c.last-last.ensures.index) (stands_from c.args.ground c.args.number c.args.fed c.args.raft.now c.args.raft.now c.args.storage.now c.join_all.new.storage c.args.watches.now c.args.conn.now c.join_all.new.conn _ _ _ _ c.new-bodies.ensures.items c.new-forwards.ensures.items c.join_all.ensures (subst (λ n. n ≤ last_number) c.last-last.ensures.index c.last-last.ensures.limit))

pub truncate-requires-clause-to : goal.truncate-requires-clause-to
truncate-requires-clause-to c = subst (λ n. n ≤ last_of c.join_all.new.storage) (sym c.last-last.ensures.index) (stands_to c.args.ground c.args.number c.args.fed c.args.raft.now c.args.raft.now c.args.storage.now c.join_all.new.storage c.args.watches.now c.args.conn.now c.join_all.new.conn _ _ _ _ c.new-bodies.ensures.items c.new-forwards.ensures.items c.join_all.ensures (subst (λ n. n ≤ last_number) c.last-last.ensures.index c.last-last.ensures.limit))

pub finish-requires-clause-emptied : goal.finish-requires-clause-emptied
finish-requires-clause-emptied c = emptied c.args.ground c.args.number c.args.fed c.args.raft.now c.args.raft.now c.args.storage.now c.join_all.new.storage c.args.watches.now c.args.conn.now c.join_all.new.conn _ _ _ _ c.new-bodies.ensures.items c.new-forwards.ensures.items c.join_all.ensures (subst (λ n. n ≤ last_number) c.last-last.ensures.index c.last-last.ensures.limit) c.requires.live

pub returns-in-Err : goal.returns-in-Err
returns-in-Err c = gives_up c.args.ground c.args.number c.args.fed c.args.raft.now c.hand_over.new.raft c.args.storage.now c.join_all.new.storage c.args.watches.now c.args.conn.now c.join_all.new.conn _ _ _ _ c.new-bodies.ensures.items c.new-forwards.ensures.items c.join_all.ensures (subst (λ n. n ≤ last_number) c.last-last.ensures.index c.last-last.ensures.limit)
    c.none_handed.result c.give_up.new.conn c.give_up.new.watches c.truncate.new.self c.in-Err.ensures.err c.none_handed.ensures c.give_up.ensures.conn c.give_up.ensures.watches (c.truncate.ensures ∙ ap (truncated c.join_all.new.storage) c.last-last.ensures.index) (λ a b. no false refl (c.in-Err.ensures.none a b))

pub returns-in-Ok : goal.returns-in-Ok
returns-in-Ok c = served c.args.ground c.args.number c.args.fed c.args.raft.now c.hand_over.new.raft c.args.storage.now c.join_all.new.storage c.args.watches.now c.args.conn.now c.join_all.new.conn _ _ _ _ c.new-bodies.ensures.items c.new-forwards.ensures.items c.join_all.ensures (subst (λ n. n ≤ last_number) c.last-last.ensures.index c.last-last.ensures.limit)
    c.drop_lost.new.watches c.finish.new.watches c.finish.new.conn c.in-Ok.handed c.requires.live c.drop_lost.ensures (subst (λ s. IsFinished s c.args.number c.args.fed.end c.drop_lost.new.watches c.join_all.new.conn c.finish.new.watches c.finish.new.conn) c.committed.ensures c.finish.ensures) c.in-Ok.ensures.ok
