-- A script is played: what each line prints, and what it leaves on the stage (this project's own).
use Rattle.std.specs.Prelude.{ℕ, ◌+◌, min, Bool, true, false, not, if◌then◌else◌, List, [], ◌∷◌, ◌++◌, length, Option, None, Some, Result, Ok, Err}
use Rattle.std.specs.List.{flat_map}
use Rattle.std.specs.Option.{option_map}
use Rattle.kp_entry.specs.declared.record.Record.TheVariants as record_
use Rattle.kp_raft.specs.declared.mail.Mail.{Mail}
use Rattle.kp_event.specs.declared.event.NodeEventKind.{NodeEventKind}
use Rattle.kp_event.specs.declared.event.NodeEventKind.TheVariants as kind
use Rattle.kp_event.specs.declared.said.FedWord.TheVariants as fed
use Rattle.kp_event.specs.declared.said.Said.{Said}
use Rattle.kp_event.specs.declared.said.Said.TheVariants as says
use Rattle.kp_snapshot.specs.Snapshots.{Snapshot}
use Rattle.kp_homes.specs.Opening.{next_boot, booted}
use Rattle.kp_script.specs.declared.event.EventLine.{EventLine}
use Rattle.kp_script.specs.declared.event.EventLine.TheVariants.{Accept, In, Hangup, Drain, Timeout, Deliver, Beat, Commit, Expire, Snap}
use Rattle.kp_script.specs.declared.line.LookLine.{LookLine}
use Rattle.kp_script.specs.declared.line.ScriptLine.{ScriptLine}
use Rattle.kp_script.specs.declared.line.ScriptLine.TheVariants as script
use Rattle.kp_script.specs.Lines.{line_of}
use Rattle.kp_step.specs.Node.{Node, Images}
use Rattle.kp_step.specs.Asking.{Words}
use Rattle.kp_step.specs.Step.{Stepped, step}
use Rattle.kp_ample.specs.Ample.{ample}
use Rattle.kp_play.specs.Stage.{Home, Thought, Member, Stage, opened, member_at, letter_at, with_member, with_letters}
use Rattle.kp_play.specs.Texts.{numbered, said_text, up_text, letters_text, look_text}
use Rattle.kp_play.specs.Keeping.{Full, put, kept, torn}
use lib.Chars.{codes}

-- what a line prints, and what it leaves
pub record Done : Type 0 where
  pub texts : List (List ℕ)
  pub next : Stage

-- a line is done, or a home has no room for what it wants kept
abbrev pub Turn : Type 0
Turn = Result Done Full

-- one line is printed
abbrev pub prints : Stage → List ℕ → Turn
prints st text = Ok (record { texts = text ∷ []; next = st })

-- ---- members

-- member k holds nothing back and keeps this home, with this node, if any
abbrev pub stands : Stage → ℕ → Home → Option Node → Stage
stands st k h node = with_member st k (record { home = h; node = node; held = None })

-- the first lines of steps, each with its messages behind it, the first of which has this number
abbrev pub issued : ℕ → ℕ → List Thought → List (List ℕ)
issued k number [] = []
issued k number (t ∷ ts) = (t.text ∷ letters_text k number t.mail) ++ issued k (number + length t.mail) ts

abbrev pub all_mail : List Thought → List (ℕ × Mail Snapshot)
all_mail [] = []
all_mail (t ∷ ts) = t.mail ++ all_mail ts

-- steps of member k leave once all that they want is kept: they are printed, and their messages are sent
abbrev pub issue : Stage → ℕ → Node → List Thought → List (List ℕ) → Result Home Full → Turn
issue st k x ts before (Err full) = Err full
issue st k x ts before (Ok h) = Ok (record { texts = before ++ issued k (length st.letters + 1) ts; next = with_letters (stands st k h (Some x)) (all_mail ts) })

-- ---- events

-- what comes to a member: an event of its own, or a message
abbrev pub own : ℕ → NodeEventKind (Mail Snapshot) → Option (ℕ × NodeEventKind (Mail Snapshot))
own k v = Some (k, v)

abbrev pub comes : ℕ × Mail Snapshot → ℕ × NodeEventKind (Mail Snapshot)
comes m = (m.0, kind.Deliver m.1)

-- the member to which an event comes, and what it is; None for a message that was never sent
unfoldable pub event_of : Stage → EventLine → Option (ℕ × NodeEventKind (Mail Snapshot))
event_of st (Accept k draw) = own k (kind.Accept draw)
event_of st (In k conn bytes) = own k (kind.Client conn bytes)
event_of st (Hangup k conn) = own k (kind.Hangup conn)
event_of st (Drain k conn) = own k (kind.Drain conn)
event_of st (Timeout k) = own k kind.Timeout
event_of st (Deliver m) = option_map comes (letter_at st m)
event_of st (Beat k) = own k kind.Beat
event_of st (Commit k) = own k kind.CommitOne
event_of st (Expire k) = own k kind.ExpireDue
event_of st (Snap k) = own k kind.Snapshot

-- whether there is no such connection, or nothing to apply: then no step is torn
abbrev pub is_idle : Said → Bool
is_idle (says.Fed fed.Unknown) = true
is_idle (says.Fed fed.Taken) = false
is_idle (says.Fed (fed.Bad at)) = false
is_idle (says.Hung found) = not found
is_idle (says.Out None) = true
is_idle (says.Out (Some p)) = false
is_idle (says.Done None) = true
is_idle (says.Done (Some i)) = false
is_idle says.Raft = false
is_idle (says.Conn k) = false
is_idle (says.Beat k) = false
is_idle (says.Expired k) = false
is_idle (says.Snapped i) = false

abbrev pub thought_of : Stepped Snapshot → Thought
thought_of o = record { text = said_text o.node o.said; mail = o.mail; records = o.records; image = o.image }

module _ (words : Words) (im : Images Snapshot) where
  -- the step of a node with memory for everything
  abbrev pub step_of : Stage → Node → NodeEventKind (Mail Snapshot) → Stepped Snapshot
  step_of st x v = step words im ample x (record { now = st.time; kind = v })

  -- a step of a member that holds is held back, and printed by its number
  abbrev pub hold_back : Stage → ℕ → Member → List Thought → Stepped Snapshot → Turn
  hold_back st k m ts o = prints (with_member st k (record m { node = Some o.node; held = Some (ts ++ thought_of o ∷ []) })) (numbered (codes "held") (length ts + 1))

  -- any other is kept and leaves
  abbrev pub let_out : Stage → ℕ → Member → Stepped Snapshot → Turn
  let_out st k m o = issue st k o.node (thought_of o ∷ []) [] (kept m.home (thought_of o ∷ []) o.node)

  abbrev pub stepped : Stage → ℕ → Member → Option (List Thought) → Stepped Snapshot → Turn
  stepped st k m None o = let_out st k m o
  stepped st k m (Some ts) o = hold_back st k m ts o

  abbrev pub event_by : Stage → ℕ → NodeEventKind (Mail Snapshot) → Member → Option Node → Turn
  event_by st k v m None = prints st (codes "off")
  event_by st k v m (Some x) = stepped st k m m.held (step_of st x v)

  abbrev pub event_at : Stage → ℕ → NodeEventKind (Mail Snapshot) → Option Member → Turn
  event_at st k v None = prints st (codes "off")
  event_at st k v (Some m) = event_by st k v m m.node

  abbrev pub event_turn : Stage → Option (ℕ × NodeEventKind (Mail Snapshot)) → Turn
  event_turn st None = prints st (codes "none")
  event_turn st (Some e) = event_at st e.0 e.1 (member_at st e.0)

  -- ---- an event of whose records the first j stay

  -- the node stops, and the messages are lost
  abbrev pub stops_in : Stage → ℕ → ℕ → Result Home Full → Turn
  stops_in st k stayed (Err full) = Err full
  stops_in st k stayed (Ok h) = prints (stands st k h None) (numbered (codes "torn") stayed)

  abbrev pub torn_step : Stage → ℕ → ℕ → Member → Stepped Snapshot → Turn
  torn_step st j k m o =
      if is_idle o.said then prints st (said_text o.node o.said)
      else stops_in st k (min j (length o.records)) (torn m.home j (thought_of o) o.node)

  abbrev pub torn_held : Stage → ℕ → ℕ → Member → Option (List Thought) → Stepped Snapshot → Turn
  torn_held st j k m None o = torn_step st j k m o
  torn_held st j k m (Some ts) o = prints st (codes "held")

  abbrev pub torn_by : Stage → ℕ → ℕ → NodeEventKind (Mail Snapshot) → Member → Option Node → Turn
  torn_by st j k v m None = prints st (codes "off")
  torn_by st j k v m (Some x) = torn_held st j k m m.held (step_of st x v)

  abbrev pub torn_at : Stage → ℕ → ℕ → NodeEventKind (Mail Snapshot) → Option Member → Turn
  torn_at st j k v None = prints st (codes "off")
  torn_at st j k v (Some m) = torn_by st j k v m m.node

  abbrev pub torn_turn : Stage → ℕ → Option (ℕ × NodeEventKind (Mail Snapshot)) → Turn
  torn_turn st j None = prints st (codes "none")
  torn_turn st j (Some e) = torn_at st j e.0 e.1 (member_at st e.0)

-- ---- members stop and start

-- the number of members
abbrev pub size : Stage → ℕ
size st = length st.members

abbrev pub crash_by : Stage → ℕ → Member → Option Node → Turn
crash_by st k m None = prints st (codes "off")
crash_by st k m (Some x) = prints (stands st k m.home None) (numbered (codes "down") k)

-- member k starts with what was found, with one start more, which its home keeps
abbrev pub starts_with : Stage → ℕ → Node → Home → Turn
starts_with st k x h = prints (stands st k h (Some x)) (up_text k x)

abbrev pub start_on : Stage → ℕ → Result Home Full → Turn
start_on st k (Err full) = Err full
start_on st k (Ok h) = starts_with st k (opened k (size st) st.time h.found) h

abbrev pub start_by : Stage → ℕ → Member → Option Node → Turn
start_by st k m (Some x) = prints st (codes "on")
start_by st k m None = start_on st k (put m.home (record_.Boot (next_boot m.home.found.start.boot) ∷ []) (booted m.home.found))

-- ---- members hold

abbrev pub hold_with : Stage → ℕ → Member → Option (List Thought) → Turn
hold_with st k m None = prints (with_member st k (record m { held = Some [] })) (numbered (codes "hold") k)
hold_with st k m (Some ts) = prints st (numbered (codes "hold") k)

abbrev pub hold_by : Stage → ℕ → Member → Option Node → Turn
hold_by st k m None = prints st (codes "off")
hold_by st k m (Some x) = hold_with st k m m.held

-- what is held back is kept in one batch and leaves, and holding ends
abbrev pub flush_with : Stage → ℕ → Member → Node → Option (List Thought) → Turn
flush_with st k m x None = prints st (codes "flush 0")
flush_with st k m x (Some ts) = issue st k x ts (numbered (codes "flush") (length ts) ∷ []) (kept m.home ts x)

abbrev pub flush_by : Stage → ℕ → Member → Option Node → Turn
flush_by st k m None = prints st (codes "off")
flush_by st k m (Some x) = flush_with st k m x m.held

abbrev pub look_by : Stage → LookLine → Option Node → Turn
look_by st l None = prints st (codes "off")
look_by st l (Some x) = prints st (look_text x l)

-- ---- lines

-- a line for member k
abbrev pub at_member : Stage → Option Member → (Member → Option Node → Turn) → Turn
at_member st None f = prints st (codes "off")
at_member st (Some m) f = f m m.node

-- one line more was done
abbrev pub counted : Stage → Stage
counted st = record st { lines = st.lines + 1 }

module _ (words : Words) (im : Images Snapshot) where
  -- a line, on a stage on which it is counted
  unfoldable pub line_turn : Stage → ScriptLine → Turn
  line_turn st (script.Time t) = prints (record st { time = t }) (numbered (codes "time") t)
  line_turn st (script.Event e) = event_turn words im st (event_of st e)
  line_turn st (script.Torn j e) = torn_turn words im st j (event_of st e)
  line_turn st (script.Crash k) = at_member st (member_at st k) (crash_by st k)
  line_turn st (script.Start k) = at_member st (member_at st k) (start_by st k)
  line_turn st (script.Hold k) = at_member st (member_at st k) (hold_by st k)
  line_turn st (script.Flush k) = at_member st (member_at st k) (flush_by st k)
  line_turn st (script.Look k l) = at_member st (member_at st k) (λ m. look_by st l)

  -- what a line does
  abbrev pub turn : Stage → ScriptLine → Turn
  turn st l = line_turn (counted st) l

-- ---- whole scripts

-- what is done behind these texts
abbrev pub then_done : List (List ℕ) → Turn → Turn
then_done texts (Err full) = Err full
then_done texts (Ok d) = Ok (record { texts = texts ++ d.texts; next = d.next })

module _ (words : Words) (im : Images Snapshot) where
  abbrev pub plays_on : List ScriptLine → Stage → Turn
  plays_on [] st = Ok (record { texts = []; next = st })
  plays_on (l ∷ ls) st = elim (turn words im st l) [ Err full ↦ Err full | Ok d ↦ then_done d.texts (plays_on ls d.next) ]

  -- what these lines print, one behind the other, and what they leave
  unfoldable pub plays : Stage → List ScriptLine → Turn
  plays st ls = plays_on ls st

-- lines, each with its line feed
abbrev pub bytes_of : List (List ℕ) → List ℕ
bytes_of texts = flat_map (λ t. t ++ 10 ∷ []) texts

-- how a script ends: all its lines were done, its line of this number is outside the grammar, or a home had no room
pub data End : Type 0 where
  all_done : End
  bad_line : (n : ℕ) → End
  full : (slot len : ℕ) → End

pub record Played : Type 0 where
  pub text : List ℕ
  pub end : End
  -- behind the lines that were done
  pub stage : Stage

-- with this text before it
abbrev pub behind : List ℕ → Played → Played
behind text p = record p { text = text ++ p.text }

abbrev pub ends : Stage → End → Played
ends st end = record { text = []; end = end; stage = st }

module _ (words : Words) (im : Images Snapshot) where
  -- the texts of lines from the n-th on, played up to the first that can't be done
  unfoldable pub played : Stage → ℕ → List (List ℕ) → Played
  played st n [] = ends st all_done
  played st n (t ∷ ts) = elim (line_of (size st) t) [
    | None ↦ ends st (bad_line n)
    | Some l ↦ elim (turn words im st l) [
      | Ok d ↦ behind (bytes_of d.texts) (played d.next (n + 1) ts)
      | Err f ↦ ends st (full f.slot f.len)
    ]
  ]
