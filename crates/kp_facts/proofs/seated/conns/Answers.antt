use Rattle.std.proofs.Common.{ap, ◌∙◌}
use Rattle.kp_facts.proofs.Connected.{facts_over, lists_on, lists_all, over_all}
use Rattle.kp_facts.proofs.seated.conns.Goals as goal

pub loop-next-preserved : goal.loop-next-preserved
loop-next-preserved c = lists_on c.args.seats.now.seats c.loop-next.conn c.loop-next.list.items c.loop-next.invariant c.in-Some.next c.push_conn.new.list.items c.in-Some.ensures.list c.in_ok-push_conn.ensures

pub returns : goal.returns
returns c =
    let m = c.args.seats.now.seats in
    c.from_vec.ensures ∙ lists_all m c.loop-next.conn c.loop-next.list.items c.loop-next.invariant c.in_default.ensures.list ∙ ap (facts_over m) c.in_default.ensures.all ∙ over_all m
