use Rattle.std.proofs.Common.{◌∙◌, sym, subst, rules}
use Rattle.std.specs.Vec.Iter.{into_iter_items}
use Rattle.kp_node.specs.Joining.{JoinSoFar}
use Rattle.kp_node.proofs.Joined.{begins, goes_on, ends_lost, all_joined, more_left, none_left}
use Rattle.kp_node.proofs.joining.join_all.Goals as goal

pub loop-request-init : goal.loop-request-init
loop-request-init c = record {
  so_far = subst (JoinSoFar c.args.ground c.args.requests c.args.storage.now c.args.bodies.now.items c.args.forwards.now.items c.args.conn.now c.args.storage.now c.args.bodies.now.items c.args.forwards.now.items c.args.conn.now) (sym (c.into_iter-request-iterator.ensures.into_iter_gives.0 ∙ c.into_vec-request-items.ensures)) (begins c.args.ground c.args.requests c.args.storage.now c.args.bodies.now.items c.args.forwards.now.items c.args.conn.now);
  left = search rules;
}

pub loop-request-preserved : goal.loop-request-preserved
loop-request-preserved c = record {
  so_far = goes_on c.args.ground c.args.requests c.args.storage.now c.args.bodies.now.items c.args.forwards.now.items c.args.conn.now c.loop-request.storage c.loop-request.bodies.items c.loop-request.forwards.items c.loop-request.conn (into_iter_items c.loop-request.request-iterator) c.loop-request.invariant.so_far
      c.in-Some.request (into_iter_items c.next.new.self) c.in-Some.ensures.steps.0 c.join_one.new.storage c.join_one.new.bodies.items c.join_one.new.forwards.items c.join_one.new.conn c.in-Ok.ensures.ok;
  left = more_left c.loop-request.invariant.left c.in-Some.ensures.steps.0 c.in-Some.ensures.steps.1;
}

pub returns-in-Err : goal.returns-in-Err
returns-in-Err c = ends_lost c.args.ground c.args.requests c.args.storage.now c.args.bodies.now.items c.args.forwards.now.items c.args.conn.now c.loop-request.storage c.loop-request.bodies.items c.loop-request.forwards.items c.loop-request.conn (into_iter_items c.loop-request.request-iterator) c.loop-request.invariant.so_far
    c.in-Some.request (into_iter_items c.next.new.self) c.in-Some.ensures.steps.0 c.join_one.new.storage c.join_one.new.bodies.items c.join_one.new.forwards.items c.join_one.new.conn c.close.new.self c.in-Err.ensures.err c.in-Err.ensures.given_up c.close.ensures

pub returns : goal.returns
returns c = all_joined c.args.ground c.args.requests c.args.storage.now c.args.bodies.now.items c.args.forwards.now.items c.args.conn.now c.loop-request.storage c.loop-request.bodies.items c.loop-request.forwards.items c.loop-request.conn (into_iter_items c.loop-request.request-iterator) c.loop-request.invariant.so_far (none_left (into_iter_items c.loop-request.request-iterator) (sym c.loop-request.invariant.left ∙ c.in-None.ensures.steps.0))
