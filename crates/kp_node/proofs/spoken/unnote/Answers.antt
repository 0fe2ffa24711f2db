use Rattle.std.proofs.Common.{◌≡◌, length, arith, subst, sym}
use Rattle.std.specs.Prelude.{vec_len}
use Rattle.kp_node.proofs.Noted.{noted_last, unnoted, popped}
use Rattle.kp_node.specs.Spoken.{Knows}
use Rattle.kp_node.proofs.spoken.unnote.Goals as goal

pub returns-clause-items : goal.returns-clause-items
returns-clause-items c = λ m h.
    let all : vec_len c.args.list.now ≡ length c.args.list.now.items = omega (arith, c.args.list.now.ok.0) in
    popped c.args.list.now.items c.pop.new.self.items m c.args.session _ all c.pop.ensures.rest (noted_last m c.args.session c.args.list.now.items h)

pub returns-clause-knows : goal.returns-clause-knows
returns-clause-knows c =
    let all : vec_len c.args.list.now ≡ length c.args.list.now.items = omega (arith, c.args.list.now.ok.0) in
    let m = c.requires.last.0 in
    let h = noted_last m c.args.session c.args.list.now.items c.requires.last.1 in
    subst (Knows c.remove.new.self) (sym (popped c.args.list.now.items c.pop.new.self.items m c.args.session _ all c.pop.ensures.rest h)) (unnoted c.args.known.now c.remove.new.self c.args.list.now.items m c.args.session c.requires.knows h c.remove.ensures.updates.0)
