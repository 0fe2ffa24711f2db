use Rattle.std.proofs.Common.{◌≡◌, ◌++◌, drop}
use Rattle.kp_text.specs.Texts.{replies_text}
use Rattle.kp_text.proofs.print.print_further_replies.Given as goal

abbrev pub invariant-loop-reply : goal.invariant-loop-reply
invariant-loop-reply l = l.out.items ++ replies_text (drop l.reply-index l.replies) ≡ l.fn.out.items ++ replies_text l.replies
