use Rattle.std.proofs.Common.{refl, []}
use Rattle.kp_watch.proofs.Cleared.{spot_watches, spot_cleared}
use Rattle.kp_watch.proofs.Spotted.{none_apart}
use Rattle.kp_watch.proofs.index.clear_spot.Goals as goal

pub returns-in-Some-clause-indexed : goal.returns-in-Some-clause-indexed
returns-in-Some-clause-indexed c =
    spot_cleared c.args.book.now.entries c.drop_spot.new.book.entries c.args.sides.now c.take_side.new.sides c.args.own.now.entries c.drop_spot.new.own.entries c.requires c.drop_spot.ensures.ordered
    c.args.path.now c.args.kind c.in-Some.spot.entries c.drop_spot.ensures.apart c.in-Some.ensures.pairs c.drop_spot.ensures.book c.in-Some.ensures.change c.drop_spot.ensures.own

pub returns-in-Some-clause-watches : goal.returns-in-Some-clause-watches
returns-in-Some-clause-watches c =
    spot_watches c.args.book.now.entries c.drop_spot.new.book.entries c.args.sides.now c.take_side.new.sides c.args.own.now.entries c.drop_spot.new.own.entries c.requires c.drop_spot.ensures.ordered
    c.args.path.now c.args.kind c.in-Some.spot.entries c.drop_spot.ensures.apart c.in-Some.ensures.pairs c.drop_spot.ensures.book

pub returns-in_default-clause-watches : goal.returns-in_default-clause-watches
returns-in_default-clause-watches c =
    spot_watches c.args.book.now.entries c.args.book.now.entries c.args.sides.now c.take_side.new.sides c.args.own.now.entries c.args.own.now.entries c.requires c.requires.ordered
    c.args.path.now c.args.kind [] (none_apart [] refl) c.in_default.ensures.pairs (λ n. refl)
