use Rattle.std.proofs.Common.{◌≤◌, subst}
use Rattle.kp_model.specs.Limits.{last_number}
use Rattle.kp_node.proofs.Firsts.{within, sends_one, back_from, back_to, is_back}
use Rattle.kp_node.proofs.first_bytes.send.Goals as goal

pub hand_over-requires : goal.hand_over-requires
hand_over-requires c =
    within c.args.ground c.args.raft.now c.args.storage.now (subst (λ n. n ≤ last_number) c.last-last.ensures.index c.last-last.ensures.limit) c.args.body c.hand.new.storage _ _ _ _ c.new-bodies.ensures.items c.new-forwards.ensures.items c.in-Ok.ensures.ok

pub take_in_back-requires-clause-from : goal.take_in_back-requires-clause-from
take_in_back-requires-clause-from c =
    back_from c.args.ground c.args.raft.now c.args.storage.now (subst (λ n. n ≤ last_number) c.last-last.ensures.index c.last-last.ensures.limit) c.args.body c.hand.new.storage _ _ _ _ c.new-bodies.ensures.items c.new-forwards.ensures.items c.in-Ok.ensures.ok
    c.last-last.result c.last-last.ensures.index

pub take_in_back-requires-clause-to : goal.take_in_back-requires-clause-to
take_in_back-requires-clause-to c =
    back_to c.args.ground c.args.raft.now c.args.storage.now (subst (λ n. n ≤ last_number) c.last-last.ensures.index c.last-last.ensures.limit) c.args.body c.hand.new.storage _ _ _ _ c.new-bodies.ensures.items c.new-forwards.ensures.items c.in-Ok.ensures.ok
    c.last-last.result c.last-last.ensures.index

pub returns-in-Ok-hand_over-clause-ok : goal.returns-in-Ok-hand_over-clause-ok
returns-in-Ok-hand_over-clause-ok c =
    sends_one c.args.ground c.args.raft.now c.args.storage.now (subst (λ n. n ≤ last_number) c.last-last.ensures.index c.last-last.ensures.limit) c.args.body c.hand.new.storage _ _ _ _ c.new-bodies.ensures.items c.new-forwards.ensures.items c.in-Ok.ensures.ok
    c.hand_over.new.raft c.in-Ok-hand_over.handed c.in-Ok-hand_over.ensures.ok

pub returns-in-Err-hand_over-clause-storage : goal.returns-in-Err-hand_over-clause-storage
returns-in-Err-hand_over-clause-storage c =
    is_back c.args.ground c.args.raft.now c.args.storage.now (subst (λ n. n ≤ last_number) c.last-last.ensures.index c.last-last.ensures.limit) c.args.body c.hand.new.storage _ _ _ _ c.new-bodies.ensures.items c.new-forwards.ensures.items c.in-Ok.ensures.ok
    c.last-last.result c.last-last.ensures.index c.take_in_back.new.storage c.take_in_back.ensures.back
