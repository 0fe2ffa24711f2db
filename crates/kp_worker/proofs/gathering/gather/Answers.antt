use Rattle.std.proofs.Common.{[], length, subst, rules, ◌+◌}
use Rattle.kp_worker.specs.Calls.{Adds}
use Rattle.kp_worker.proofs.Gathered.{adds_both, gathers_of, adds_less}
use Rattle.kp_worker.proofs.gathering.gather.Goals as goal

pub returns : goal.returns
returns g c = let o0 = g.L.Lines.sees c.args.lines.now in let o1 = g.L.Lines.sees c.take_all.new.lines in let b0 = g.I.Inbox.taken c.args.inbox.now in let b1 = g.I.Inbox.taken c.deliver_all.new.inbox in
    let k0 = c.new-kinds.result.items in let k1 = c.take_all.new.kinds.items in let k2 = c.accept_all.new.kinds.items in let k3 = c.deliver_all.new.kinds.items in let k4 = c.add_due.new.kinds.items in let n = length c.as_slice-2.result.now in
    let all = adds_both o0 o1 o1 b0 b1 b1 (0 + n + 0) 0 k0 k3 k4 (adds_both o0 o1 o1 b0 b0 b1 (0 + n) 0 k0 k2 k3 (adds_both o0 o1 o1 b0 b0 b0 0 n k0 k1 k2 (c.take_all.ensures.adds b0) (c.accept_all.ensures.adds o1 b0)) (c.deliver_all.ensures.adds o1)) (c.add_due.ensures.adds o1 b1) in
    record { gathers = gathers_of o0 o1 b0 b1 _ k4 (adds_less o0 o1 b0 b1 (0 + n + 0 + 0) _ [] k4 (search rules) (subst (λ l. Adds o0 o1 b0 b1 (0 + n + 0 + 0) l k4) c.new-kinds.ensures.items all)) }
