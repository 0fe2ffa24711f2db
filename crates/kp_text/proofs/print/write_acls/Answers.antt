use Rattle.std.proofs.Common.{◌++◌, refl}
use Rattle.kp_model.specs.declared.node.Acl.{Acl}
use Rattle.kp_text.specs.Spelling.{spelled_acl}
use Rattle.kp_text.specs.Texts.{acls_text}
use Rattle.kp_text.proofs.Prints.{printed_more, printed_all}
use Rattle.kp_text.proofs.print.write_acls.Goals as goal
use lib.Chars.{codes}

pub loop-acl-preserved : goal.loop-acl-preserved
loop-acl-preserved c =
    printed_more (λ (x : Acl). codes " " ++ spelled_acl x) (acls_text) (refl, λ _ _. refl) c.loop-acl.out.items c.print_acl.new.out.items (c.args.out.now.items ++ acls_text c.args.acls.now) c.args.acls.now c.loop-acl.acl-index c.acl-item.result
    c.loop-acl-test.true c.acl-item.is c.in_ok-print_acl.ensures c.loop-acl.invariant

pub returns : goal.returns
returns c =
    printed_all (λ (x : Acl). codes " " ++ spelled_acl x) (acls_text) (refl, λ _ _. refl) c.loop-acl.out.items (c.args.out.now.items ++ acls_text c.args.acls.now) c.args.acls.now c.loop-acl.acl-index c.loop-acl-test.false c.loop-acl.invariant
