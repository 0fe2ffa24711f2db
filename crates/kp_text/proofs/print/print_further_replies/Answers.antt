use Rattle.std.proofs.Common.{◌++◌, refl}
use Rattle.kp_model.specs.declared.reply.OpReply.{OpReply}
use Rattle.kp_text.specs.Texts.{replies_text, op_reply_text}
use Rattle.kp_text.proofs.Prints.{printed_more, printed_all}
use Rattle.kp_text.proofs.print.print_further_replies.Goals as goal
use lib.Chars.{codes}

pub loop-reply-preserved : goal.loop-reply-preserved
loop-reply-preserved c =
    printed_more (λ (x : OpReply). codes " | " ++ op_reply_text x) (replies_text) (refl, λ _ _. refl) c.loop-reply.out.items c.print_further_reply.new.out.items (c.args.out.now.items ++ replies_text c.args.replies.now) c.args.replies.now c.loop-reply.reply-index c.reply-item.result
    c.loop-reply-test.true c.reply-item.is c.in_ok-print_further_reply.ensures c.loop-reply.invariant

pub returns : goal.returns
returns c =
    printed_all (λ (x : OpReply). codes " | " ++ op_reply_text x) (replies_text) (refl, λ _ _. refl) c.loop-reply.out.items (c.args.out.now.items ++ replies_text c.args.replies.now) c.args.replies.now c.loop-reply.reply-index c.loop-reply-test.false c.loop-reply.invariant
