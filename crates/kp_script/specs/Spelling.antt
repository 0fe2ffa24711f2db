-- The lines of the script language, as they are spelled.
use Rattle.std.specs.Prelude.{ℕ, Bool, ◌&&◌, nat_le, List, [], ◌∷◌}
use Rattle.std.specs.List.{join_with_byte}
use Rattle.std.specs.Fmt.{decimal}
use Rattle.hex.specs.Hex.{encode_lower}
use Rattle.kp_model.specs.Grammar.{is_number}
use Rattle.kp_text.specs.Spelling.{is_word, are_bytes, is_passwd, spelled_data}
use Rattle.kp_script.specs.declared.event.EventLine.{EventLine}
use Rattle.kp_script.specs.declared.event.EventLine.TheVariants.{Accept, In, Hangup, Drain, Timeout, Deliver, Beat, Commit, Expire, Snap}
use Rattle.kp_script.specs.declared.line.LookLine.{LookLine}
use Rattle.kp_script.specs.declared.line.LookLine.TheVariants as look
use Rattle.kp_script.specs.declared.line.ScriptLine.{ScriptLine}
use Rattle.kp_script.specs.declared.line.ScriptLine.TheVariants as script
use lib.Chars.{codes}

-- one of so many nodes, which are counted from 1
abbrev pub is_node : ℕ → ℕ → Bool
is_node nodes n = nat_le 1 n && nat_le n nodes

-- nodes that there are, numbers within their limit, draws of 16 bytes
abbrev pub is_event : ℕ → EventLine → Bool
is_event nodes (Accept n draw) = is_node nodes n && is_passwd draw
is_event nodes (In n conn bytes) = is_node nodes n && (is_number conn && are_bytes bytes)
is_event nodes (Hangup n conn) = is_node nodes n && is_number conn
is_event nodes (Drain n conn) = is_node nodes n && is_number conn
is_event nodes (Timeout n) = is_node nodes n
is_event nodes (Deliver m) = is_number m
is_event nodes (Beat n) = is_node nodes n
is_event nodes (Commit n) = is_node nodes n
is_event nodes (Expire n) = is_node nodes n
is_event nodes (Snap n) = is_node nodes n

abbrev pub is_look : LookLine → Bool
is_look (look.Peek path) = is_word path
is_look (look.See path) = is_word path
is_look (look.Kids path) = is_word path
is_look (look.Ls path) = is_word path
is_look (look.Acl path) = is_word path
is_look (look.Who session) = is_number session

abbrev pub is_line : ℕ → ScriptLine → Bool
is_line nodes (script.Time t) = is_number t
is_line nodes (script.Event e) = is_event nodes e
is_line nodes (script.Torn kept e) = is_number kept && is_event nodes e
is_line nodes (script.Crash n) = is_node nodes n
is_line nodes (script.Start n) = is_node nodes n
is_line nodes (script.Hold n) = is_node nodes n
is_line nodes (script.Flush n) = is_node nodes n
is_line nodes (script.Look n l) = is_node nodes n && is_look l

-- the words of an event
abbrev pub event_words : EventLine → List (List ℕ)
event_words (Accept n draw) = codes "accept" ∷ decimal n ∷ encode_lower draw ∷ []
event_words (In n conn bytes) = codes "in" ∷ decimal n ∷ decimal conn ∷ spelled_data bytes ∷ []
event_words (Hangup n conn) = codes "hangup" ∷ decimal n ∷ decimal conn ∷ []
event_words (Drain n conn) = codes "drain" ∷ decimal n ∷ decimal conn ∷ []
event_words (Timeout n) = codes "timeout" ∷ decimal n ∷ []
event_words (Deliver m) = codes "deliver" ∷ decimal m ∷ []
event_words (Beat n) = codes "beat" ∷ decimal n ∷ []
event_words (Commit n) = codes "commit" ∷ decimal n ∷ []
event_words (Expire n) = codes "expire" ∷ decimal n ∷ []
event_words (Snap n) = codes "snap" ∷ decimal n ∷ []

-- the words of a look at a node
abbrev pub look_words : ℕ → LookLine → List (List ℕ)
look_words n (look.Peek path) = codes "peek" ∷ decimal n ∷ path ∷ []
look_words n (look.See path) = codes "see" ∷ decimal n ∷ path ∷ []
look_words n (look.Kids path) = codes "kids" ∷ decimal n ∷ path ∷ []
look_words n (look.Ls path) = codes "ls" ∷ decimal n ∷ path ∷ []
look_words n (look.Acl path) = codes "acl" ∷ decimal n ∷ path ∷ []
look_words n (look.Who session) = codes "who" ∷ decimal n ∷ decimal session ∷ []

-- the words of a line
abbrev pub line_words : ScriptLine → List (List ℕ)
line_words (script.Time t) = codes "time" ∷ decimal t ∷ []
line_words (script.Event e) = event_words e
line_words (script.Torn kept e) = codes "torn" ∷ decimal kept ∷ event_words e
line_words (script.Crash n) = codes "crash" ∷ decimal n ∷ []
line_words (script.Start n) = codes "start" ∷ decimal n ∷ []
line_words (script.Hold n) = codes "hold" ∷ decimal n ∷ []
line_words (script.Flush n) = codes "flush" ∷ decimal n ∷ []
line_words (script.Look n l) = look_words n l

-- the text of a line, without its line feed: its words, parted by single spaces
unfoldable pub spelled : ScriptLine → List ℕ
spelled l = join_with_byte 32 (line_words l)
