use Rattle.std.proofs.Common.{◌++◌, List, ℕ, refl}
use Rattle.kp_text.specs.Texts.{names_text}
use Rattle.kp_text.proofs.Prints.{printed_more, printed_all}
use Rattle.kp_text.proofs.print.write_names.Goals as goal
use lib.Chars.{codes}

pub loop-name-preserved : goal.loop-name-preserved
loop-name-preserved c =
    printed_more (λ (x : List ℕ). codes " " ++ x) (names_text) (refl, λ _ _. refl) c.loop-name.out.items c.print_name.new.out.items (c.args.out.now.items ++ names_text c.args.names.now) c.args.names.now c.loop-name.name-index c.name-item.result
    c.loop-name-test.true c.name-item.is c.in_ok-print_name.ensures c.loop-name.invariant

pub returns : goal.returns
returns c =
    printed_all (λ (x : List ℕ). codes " " ++ x) (names_text) (refl, λ _ _. refl) c.loop-name.out.items (c.args.out.now.items ++ names_text c.args.names.now) c.args.names.now c.loop-name.name-index c.loop-name-test.false c.loop-name.invariant
