-- What the lines of a script print of nodes and messages.
use Rattle.std.specs.Prelude.{ℕ, ◌+◌, if◌then◌else◌, true, false, List, [], ◌∷◌, ◌++◌, length, None, Some}
use Rattle.std.specs.Fmt.{decimal}
use Rattle.std.specs.FinMap as map
use Rattle.kp_model.specs.declared.entry.Body.{Body}
use Rattle.kp_model.specs.declared.entry.Body.TheVariants as body
use Rattle.kp_model.specs.declared.read.Role.{Role}
use Rattle.kp_model.specs.declared.read.Role.TheVariants.{Follower, Candidate, Leader}
use Rattle.kp_model.specs.State.{seen, acl_at}
use Rattle.kp_raft.specs.declared.mail.Mail.{Mail}
use Rattle.kp_raft.specs.declared.mail.Mail.TheVariants as mail
use Rattle.kp_event.specs.declared.said.FedWord.{FedWord}
use Rattle.kp_event.specs.declared.said.FedWord.TheVariants as fed
use Rattle.kp_event.specs.declared.said.OutPiece.{OutPiece}
use Rattle.kp_event.specs.declared.said.Said.{Said}
use Rattle.kp_event.specs.declared.said.Said.TheVariants as says
use Rattle.kp_text.specs.Texts.{data_text}
use Rattle.kp_look.specs.Texts.{seen_text, kids_text, acl_text, who_text, kids_at}
use Rattle.kp_script.specs.declared.line.LookLine.{LookLine}
use Rattle.kp_script.specs.declared.line.LookLine.TheVariants as look
use Rattle.kp_script.specs.declared.message.MessageLine.{MessageLine}
use Rattle.kp_script.specs.declared.message.MessageLine.TheVariants as message
use Rattle.kp_script.specs.Messages.{message_text}
use Rattle.kp_step.specs.Node.{Node, last, latest}
use lib.Chars.{codes}

-- a word with a number behind it
abbrev pub numbered : List ℕ → ℕ → List ℕ
numbered word n = word ++ (codes " " ++ decimal n)

-- ---- a node

abbrev pub role_text : Role → List ℕ
role_text Follower = codes "follower"
role_text Candidate = codes "candidate"
role_text Leader = codes "leader"

-- its role, its term, its last index and its commit index
unfoldable pub state_text : Node → List ℕ
state_text x = codes "state " ++ (role_text x.running.role ++ (codes " t=" ++ (decimal x.held.term ++ (codes " last=" ++ (decimal (last x) ++ (codes " commit=" ++ decimal x.running.commit))))))

-- member k started: how often by now, its term and its last index
unfoldable pub up_text : ℕ → Node → List ℕ
up_text k x = codes "up " ++ (decimal k ++ (codes " boot=" ++ (decimal x.boot ++ (codes " term=" ++ (decimal x.held.term ++ (codes " last=" ++ decimal (last x)))))))

-- ---- what a node says of an event

abbrev pub fed_text : FedWord → List ℕ
fed_text fed.Taken = codes "in ok"
fed_text (fed.Bad at) = numbered (codes "in bad") at
fed_text fed.Unknown = codes "in none"

-- what was ready for a connection, and whether it is over
abbrev pub out_text : OutPiece → List ℕ
out_text p = codes "out " ++ (data_text p.bytes ++ (if p.over then codes " end" else []))

-- the first line of an event, behind which the node is this
unfoldable pub said_text : Node → Said → List ℕ
said_text x (says.Conn k) = numbered (codes "conn") k
said_text x (says.Fed word) = fed_text word
said_text x (says.Hung true) = codes "hangup ok"
said_text x (says.Hung false) = codes "hangup none"
said_text x (says.Out None) = codes "out none"
said_text x (says.Out (Some p)) = out_text p
said_text x says.Raft = state_text x
said_text x (says.Beat k) = numbered (codes "beat") k
said_text x (says.Done None) = codes "done none"
said_text x (says.Done (Some i)) = numbered (codes "done") i
said_text x (says.Expired k) = numbered (codes "expire") k
said_text x (says.Snapped i) = numbered (codes "snap") i

-- ---- messages

-- a body on its way to the leader; members send no other bodies on than these three
abbrev pub forward_line : ℕ → Body → MessageLine
forward_line term (body.Attach session passwd origin) = message.ForwardAttach term session
forward_line term (body.Write session epoch seq c) = message.ForwardWrite term session epoch seq
forward_line term b = message.ForwardOpen term

-- what is printed of a message
abbrev pub line_of : {I : Type 0} → Mail I → MessageLine
line_of (mail.VoteReq term from end end_term) = message.VoteReq term end end_term
line_of (mail.VoteRep term from given) = message.VoteRep term given
line_of (mail.Append m) = message.Append m.term m.prev m.prev_term (length m.entries) m.commit
line_of (mail.AppendRep term from ok end heard) = message.AppendRep term ok end
line_of (mail.Install term from index index_term image) = message.Install term index index_term
line_of (mail.InstallRep term from index) = message.InstallRep term index
line_of (mail.Forward term from b) = forward_line term b

-- messages of member k, the first of which has this number
unfoldable pub letters_text : {I : Type 0} → ℕ → ℕ → List (ℕ × Mail I) → List (List ℕ)
letters_text k number [] = []
letters_text k number (m ∷ ms) = message_text number k m.0 (line_of m.1) ∷ letters_text k (number + 1) ms

-- ---- looks

-- what is seen of a node's tree: `see` and `ls` look at its committed state, all others at the uncommitted one
unfoldable pub look_text : Node → LookLine → List ℕ
look_text x (look.Peek path) = seen_text (codes "peek") (seen (latest x).nodes path)
look_text x (look.See path) = seen_text (codes "see") (seen x.state.nodes path)
look_text x (look.Kids path) = kids_text (codes "kids") (kids_at (latest x).nodes path)
look_text x (look.Ls path) = kids_text (codes "ls") (kids_at x.state.nodes path)
look_text x (look.Acl path) = acl_text (acl_at (latest x).nodes path)
look_text x (look.Who session) = who_text (map.get (latest x).sessions session)
