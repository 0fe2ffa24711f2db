use Rattle.std.proofs.Common.{◌++◌}
use Rattle.std.specs.List.{flat_map}
use Rattle.kp_words.specs.Texts.{session_paths}
use Rattle.kp_words.proofs.Printed.{printed_more, printed_all}
use Rattle.kp_words.proofs.lists.print_owners.Goals as goal

pub loop-owner-preserved : goal.loop-owner-preserved
loop-owner-preserved c =
    printed_more session_paths c.loop-owner.out.items c.print_session_paths.new.out.items (c.args.out.now.items ++ flat_map session_paths c.args.owners.now) c.args.owners.now c.loop-owner.owner-index c.owner-item.result
    c.loop-owner-test.true c.owner-item.is c.in_ok-print_session_paths.ensures c.loop-owner.invariant

pub returns : goal.returns
returns c =
    printed_all session_paths c.loop-owner.out.items (c.args.out.now.items ++ flat_map session_paths c.args.owners.now) c.args.owners.now c.loop-owner.owner-index c.loop-owner-test.false c.loop-owner.invariant
