-- The lines of the script language, as a function that reads them.
use Rattle.std.specs.Prelude.{ℕ, Bool, ◌||◌, List, [], ◌∷◌, Option, Some, None, if◌then◌else◌}
use Rattle.std.specs.Str.{bytes_eq, is_utf8}
use Rattle.kp_model.specs.Limits.{last_number}
use Rattle.kp_text.specs.Words.{◌>>=◌, words_of, number_of, path_of}
use Rattle.kp_text.specs.Lines.{one_number, is_look}
use Rattle.kp_script.specs.Events.{node_of, one_node, event_of}
use Rattle.kp_script.specs.declared.line.LookLine.{LookLine}
use Rattle.kp_script.specs.declared.line.LookLine.TheVariants as look
use Rattle.kp_script.specs.declared.line.ScriptLine.{ScriptLine}
use Rattle.kp_script.specs.declared.line.ScriptLine.TheVariants as script
use lib.Chars.{codes}

-- `time T`
unfoldable pub time_line : List (List ℕ) → Option ScriptLine
time_line ws = one_number ws >>= λ t. Some (script.Time t)

-- `torn k LINE`, of an event
unfoldable pub torn_line : ℕ → List (List ℕ) → Option ScriptLine
torn_line nodes (k ∷ name ∷ ws) = do
  kept ← number_of last_number k
  event ← event_of nodes name ws
  Some (script.Torn kept event)
torn_line nodes _ = None

-- `who n S`
unfoldable pub who_line : ℕ → List (List ℕ) → Option ScriptLine
who_line nodes (a ∷ b ∷ []) = do
  node ← node_of nodes a
  session ← number_of last_number b
  Some (script.Look node (look.Who session))
who_line nodes _ = None

-- `crash n`, `start n`, `hold n`, `flush n`
abbrev pub is_member : List ℕ → Bool
is_member name = (bytes_eq name (codes "crash") || bytes_eq name (codes "start")) || (bytes_eq name (codes "hold") || bytes_eq name (codes "flush"))

unfoldable pub member_at : List ℕ → ℕ → Option ScriptLine
member_at name n =
    if bytes_eq name (codes "crash") then Some (script.Crash n)
    else (if bytes_eq name (codes "start") then Some (script.Start n)
    else (if bytes_eq name (codes "hold") then Some (script.Hold n)
    else (if bytes_eq name (codes "flush") then Some (script.Flush n) else None)))

unfoldable pub member_line : ℕ → List ℕ → List (List ℕ) → Option ScriptLine
member_line nodes name ws = one_node nodes ws >>= λ n. member_at name n

-- `peek n PATH`, `see n PATH`, `kids n PATH`, `ls n PATH`, `acl n PATH`
unfoldable pub look_at : List ℕ → List ℕ → Option LookLine
look_at name path =
    if bytes_eq name (codes "peek") then Some (look.Peek path)
    else (if bytes_eq name (codes "see") then Some (look.See path)
    else (if bytes_eq name (codes "kids") then Some (look.Kids path)
    else (if bytes_eq name (codes "ls") then Some (look.Ls path)
    else (if bytes_eq name (codes "acl") then Some (look.Acl path) else None))))

unfoldable pub look_line : ℕ → List ℕ → List (List ℕ) → Option ScriptLine
look_line nodes name (a ∷ b ∷ []) = do
  node ← node_of nodes a
  path ← path_of b
  it ← look_at name path
  Some (script.Look node it)
look_line nodes name _ = None

unfoldable pub event_line : ℕ → List ℕ → List (List ℕ) → Option ScriptLine
event_line nodes name ws = event_of nodes name ws >>= λ e. Some (script.Event e)

-- the line that a name and the words behind it are
unfoldable pub of_words : ℕ → List (List ℕ) → Option ScriptLine
of_words nodes [] = None
of_words nodes (name ∷ ws) =
    if bytes_eq name (codes "time") then time_line ws
    else (if bytes_eq name (codes "torn") then torn_line nodes ws
    else (if bytes_eq name (codes "who") then who_line nodes ws
    else (if is_member name then member_line nodes name ws
    else (if is_look name then look_line nodes name ws else event_line nodes name ws))))

-- the line that a text is among so many nodes, where it is one; a text that isn't UTF-8 is none
unfoldable pub line_of : ℕ → List ℕ → Option ScriptLine
line_of nodes text = if is_utf8 text then of_words nodes (words_of text) else None
