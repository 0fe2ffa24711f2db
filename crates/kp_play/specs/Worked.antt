-- Scripts of three members that the check plays.
use Rattle.std.specs.Prelude.{◌≡◌, ℕ, true, List, [], ◌∷◌, ◌++◌, Ok, Err, replicate}
use Rattle.std.specs.Fmt.{decimal}
use Rattle.kp_snapshot.specs.Snapshots.{Snapshot}
use Rattle.kp_script.specs.declared.event.EventLine.{EventLine}
use Rattle.kp_script.specs.declared.event.EventLine.TheVariants.{Accept, Timeout, Deliver, Beat, Commit}
use Rattle.kp_script.specs.declared.line.ScriptLine.{ScriptLine}
use Rattle.kp_script.specs.declared.line.ScriptLine.TheVariants as script
use Rattle.kp_script.specs.declared.message.MessageLine.TheVariants as message
use Rattle.kp_script.specs.Messages.{message_text}
use Rattle.kp_step.specs.Node.{Images}
use Rattle.kp_step.specs.Asking.{Words}
use Rattle.kp_play.specs.Stage.{blank}
use Rattle.kp_play.specs.Texts.{numbered}
use Rattle.kp_play.specs.Playing.{Turn, plays}
use lib.Chars.{codes}

-- an image shows its state, and the term of the entry of its index
abbrev pub keeping : Images Snapshot
keeping = record { shows = λ i. i.state; term = λ i. i.term; made = λ s t. record { state = s; term = t } }

abbrev pub wordless : Words
wordless = λ x w. []

abbrev pub event : EventLine → ScriptLine
event e = script.Event e

abbrev pub texts_in : Turn → List (List ℕ)
texts_in (Ok d) = d.texts
texts_in (Err full) = codes "full" ∷ []

-- what a script prints, on the blank stage of three
abbrev pub printed : List ScriptLine → List (List ℕ)
printed ls = texts_in (plays wordless keeping (blank 3) ls)

-- the line of a node's state
abbrev pub state_row : List ℕ → ℕ → ℕ → ℕ → List ℕ
state_row role t end commit = codes "state " ++ (role ++ (codes " t=" ++ (decimal t ++ (codes " last=" ++ (decimal end ++ (codes " commit=" ++ decimal commit))))))

abbrev pub up_row : ℕ → ℕ → ℕ → ℕ → List ℕ
up_row k boot t end = codes "up " ++ (decimal k ++ (codes " boot=" ++ (decimal boot ++ (codes " term=" ++ (decimal t ++ (codes " last=" ++ decimal end))))))

-- member 1 is elected by member 2, which takes its no-op, and both apply it
abbrev pub election : List ScriptLine
election = event (Timeout 1) ∷ event (Deliver 1) ∷ event (Deliver 3) ∷ []

abbrev pub election_rows : List (List ℕ)
election_rows =
    state_row (codes "candidate") 1 0 0 ∷ message_text 1 1 2 (message.VoteReq 1 0 0) ∷ message_text 2 1 3 (message.VoteReq 1 0 0)
    ∷ state_row (codes "follower") 1 0 0 ∷ message_text 3 2 1 (message.VoteRep 1 true)
    ∷ state_row (codes "leader") 1 1 0 ∷ []

abbrev pub commit : List ScriptLine
commit = event (Beat 1) ∷ event (Deliver 4) ∷ event (Deliver 6) ∷ event (Commit 1) ∷ event (Commit 1) ∷ event (Deliver 7) ∷ []

abbrev pub commit_rows : List (List ℕ)
commit_rows =
    numbered (codes "beat") 2 ∷ message_text 4 1 2 (message.Append 1 0 0 1 0) ∷ message_text 5 1 3 (message.Append 1 0 0 1 0)
    ∷ state_row (codes "follower") 1 1 0 ∷ message_text 6 2 1 (message.AppendRep 1 true 1)
    ∷ state_row (codes "leader") 1 1 1 ∷ numbered (codes "done") 1 ∷ codes "done none" ∷ codes "none" ∷ []

-- behind that, member 3 stops, and starts as it was
abbrev pub restart : List ScriptLine
restart = script.Crash 3 ∷ event (Beat 3) ∷ event (Deliver 5) ∷ script.Start 3 ∷ script.Start 3 ∷ event (Deliver 5) ∷ []

abbrev pub restart_rows : List (List ℕ)
restart_rows =
    numbered (codes "down") 3 ∷ codes "off" ∷ codes "off" ∷ up_row 3 2 0 0 ∷ codes "on"
    ∷ state_row (codes "follower") 1 1 0 ∷ message_text 7 3 1 (message.AppendRep 1 true 1) ∷ []

-- member 1 holds two steps back and lets them out together; member 2 stops in a step of which none of its records stays, and then in one of which one stays; member 3 stops with what it held
abbrev pub holding : List ScriptLine
holding =
    script.Hold 1 ∷ event (Accept 1 (replicate 16 0)) ∷ event (Timeout 1) ∷ event (Deliver 1) ∷ script.Torn 0 (Beat 1) ∷ script.Flush 1 ∷ script.Flush 1
    ∷ script.Torn 0 (Timeout 2) ∷ script.Start 2 ∷ script.Torn 1 (Timeout 2) ∷ script.Start 2 ∷ script.Torn 3 (Commit 2) ∷ script.Hold 3 ∷ event (Timeout 3) ∷ script.Crash 3 ∷ script.Start 3 ∷ []

abbrev pub holding_rows : List (List ℕ)
holding_rows =
    numbered (codes "hold") 1 ∷ numbered (codes "held") 1 ∷ numbered (codes "held") 2 ∷ codes "none" ∷ codes "held"
    ∷ numbered (codes "flush") 2 ∷ numbered (codes "conn") 1 ∷ state_row (codes "candidate") 1 0 0 ∷ message_text 1 1 2 (message.VoteReq 1 0 0) ∷ message_text 2 1 3 (message.VoteReq 1 0 0)
    ∷ codes "flush 0" ∷ numbered (codes "torn") 0 ∷ up_row 2 2 0 0 ∷ numbered (codes "torn") 1 ∷ up_row 2 3 1 0 ∷ codes "done none"
    ∷ numbered (codes "hold") 3 ∷ numbered (codes "held") 1 ∷ numbered (codes "down") 3 ∷ up_row 3 2 0 0 ∷ []

pub record ScriptsAreAsWorked : Type 0 where
  pub elected : printed election ≡ election_rows
  pub committed : printed (election ++ commit) ≡ election_rows ++ commit_rows
  pub restarted : printed (election ++ (commit ++ restart)) ≡ election_rows ++ (commit_rows ++ restart_rows)
  pub held : printed holding ≡ holding_rows
