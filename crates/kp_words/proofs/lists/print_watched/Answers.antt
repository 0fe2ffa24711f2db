use Rattle.std.proofs.Common.{◌++◌}
use Rattle.std.specs.List.{flat_map}
use Rattle.kp_words.specs.Texts.{watched_path}
use Rattle.kp_words.proofs.Printed.{printed_more, printed_all}
use Rattle.kp_words.proofs.lists.print_watched.Goals as goal

pub loop-path-preserved : goal.loop-path-preserved
loop-path-preserved c =
    printed_more watched_path c.loop-path.out.items c.print_watched_path.new.out.items (c.args.out.now.items ++ flat_map watched_path c.args.watched.now) c.args.watched.now c.loop-path.path-index c.path-item.result
    c.loop-path-test.true c.path-item.is c.in_ok-print_watched_path.ensures c.loop-path.invariant

pub returns : goal.returns
returns c =
    printed_all watched_path c.loop-path.out.items (c.args.out.now.items ++ flat_map watched_path c.args.watched.now) c.args.watched.now c.loop-path.path-index c.loop-path-test.false c.loop-path.invariant
