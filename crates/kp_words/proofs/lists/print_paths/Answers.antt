use Rattle.std.proofs.Common.{◌++◌}
use Rattle.std.specs.List.{flat_map}
use Rattle.kp_words.specs.Texts.{path_line}
use Rattle.kp_words.proofs.Printed.{printed_more, printed_all}
use Rattle.kp_words.proofs.lists.print_paths.Goals as goal

pub loop-path-preserved : goal.loop-path-preserved
loop-path-preserved c =
    printed_more path_line c.loop-path.out.items c.print_path.new.out.items (c.args.out.now.items ++ flat_map path_line c.args.paths.now) c.args.paths.now c.loop-path.path-index c.path-item.result
    c.loop-path-test.true c.path-item.is c.in_ok-print_path.ensures c.loop-path.invariant

pub returns : goal.returns
returns c =
    printed_all path_line c.loop-path.out.items (c.args.out.now.items ++ flat_map path_line c.args.paths.now) c.args.paths.now c.loop-path.path-index c.loop-path-test.false c.loop-path.invariant
