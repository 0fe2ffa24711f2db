-- The texts of messages between nodes.
use Rattle.std.specs.Prelude.{ℕ, List, ◌++◌, if◌then◌else◌}
use Rattle.std.specs.Fmt.{decimal}
use Rattle.kp_script.specs.declared.message.MessageLine.{MessageLine}
use Rattle.kp_script.specs.declared.message.MessageLine.TheVariants as message
use lib.Chars.{codes}

-- an index and the term of the entry there
abbrev pub place_text : ℕ → ℕ → List ℕ
place_text index term = decimal index ++ (codes "." ++ decimal term)

-- what a message says, behind its kind and its term
unfoldable pub said_text : MessageLine → List ℕ
said_text (message.VoteReq term last last_term) = codes "votereq t=" ++ (decimal term ++ (codes " last=" ++ place_text last last_term))
said_text (message.VoteRep term given) = codes "voterep t=" ++ (decimal term ++ (if given then codes " yes" else codes " no"))
said_text (message.Append term prev prev_term count commit) =
    codes "append t=" ++ (decimal term ++ (codes " prev=" ++ (place_text prev prev_term ++ (codes " n=" ++ (decimal count ++ (codes " commit=" ++ decimal commit))))))
said_text (message.AppendRep term fits last) = codes "appendrep t=" ++ (decimal term ++ ((if fits then codes " ok last=" else codes " no last=") ++ decimal last))
said_text (message.Install term index index_term) = codes "install t=" ++ (decimal term ++ (codes " at=" ++ place_text index index_term))
said_text (message.InstallRep term index) = codes "installrep t=" ++ (decimal term ++ (codes " at=" ++ decimal index))
said_text (message.ForwardOpen term) = codes "forward t=" ++ (decimal term ++ codes " open")
said_text (message.ForwardAttach term session) = codes "forward t=" ++ (decimal term ++ (codes " attach s=" ++ decimal session))
said_text (message.ForwardWrite term session epoch seq) =
    codes "forward t=" ++ (decimal term ++ (codes " write s=" ++ (decimal session ++ (codes " e=" ++ (decimal epoch ++ (codes " q=" ++ decimal seq))))))

-- a message with its number, its sender and its receiver
abbrev pub message_text : ℕ → ℕ → ℕ → MessageLine → List ℕ
message_text number from to m = codes "msg " ++ (decimal number ++ (codes " " ++ (decimal from ++ (codes ">" ++ (decimal to ++ (codes " " ++ said_text m))))))
