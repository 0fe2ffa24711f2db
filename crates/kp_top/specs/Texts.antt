-- What lines print.
use Rattle.std.specs.Prelude.{ℕ, List, ◌++◌, Option, Some, None}
use Rattle.std.specs.Fmt.{decimal}
use Rattle.kp_model.specs.declared.reply.Committed.{Committed}
use Rattle.kp_model.specs.declared.reply.Reply.{Reply}
use Rattle.kp_text.specs.Texts.{reply_text}
use lib.Chars.{codes}

-- an entry's index and its kept reply
unfoldable pub pre_text : ℕ → Option Reply → List ℕ
pre_text i None = codes "pre " ++ (decimal i ++ codes " stale")
pre_text i (Some r) = codes "pre " ++ (decimal i ++ (codes " " ++ reply_text r))

-- a commit's index and reply, or none
unfoldable pub done_text : Option Committed → List ℕ
done_text None = codes "done none"
done_text (Some c) = codes "done " ++ (decimal c.index ++ (codes " " ++ reply_text c.reply))

unfoldable pub time_text : ℕ → List ℕ
time_text t = codes "time " ++ decimal t

unfoldable pub cut_text : ℕ → List ℕ
cut_text k = codes "cut " ++ decimal k
