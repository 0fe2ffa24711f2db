-- The lines of the store language, as a function that reads them.
use Rattle.std.specs.Prelude.{ℕ, Bool, ◌||◌, nat_le, List, [], ◌∷◌, Option, Some, None, if◌then◌else◌}
use Rattle.std.specs.Str.{bytes_eq, is_utf8}
use Rattle.kp_model.specs.Limits.{last_number}
use Rattle.kp_text.specs.Words.{◌>>=◌, words_of, number_of, passwd_of, path_of}
use Rattle.kp_text.specs.Commands.{command_of}
use Rattle.kp_text.specs.declared.line.StoreLine.{StoreLine}
use Rattle.kp_text.specs.declared.line.StoreLine.TheVariants.{Time, Open, Attach, Expire, Noop, Write, Raw, Commit, Truncate, Peek, See, Kids, Ls, Acl, Who}
use lib.Chars.{codes}

-- one number, and no other word
abbrev pub one_number : List (List ℕ) → Option ℕ
one_number (a ∷ []) = number_of last_number a
one_number _ = None

-- one path, and no other word
abbrev pub one_path : List (List ℕ) → Option (List ℕ)
one_path (a ∷ []) = path_of a
one_path _ = None

-- `time T`, `truncate K`, `expire S`, `who S`
abbrev pub is_numbered : List ℕ → Bool
is_numbered name = (bytes_eq name (codes "time") || bytes_eq name (codes "truncate")) || (bytes_eq name (codes "expire") || bytes_eq name (codes "who"))

unfoldable pub numbered : List ℕ → ℕ → Option StoreLine
numbered name n =
    if bytes_eq name (codes "time") then Some (Time n)
    else (if bytes_eq name (codes "truncate") then Some (Truncate n)
    else (if bytes_eq name (codes "expire") then Some (Expire n)
    else (if bytes_eq name (codes "who") then Some (Who n) else None)))

unfoldable pub numbered_line : List ℕ → List (List ℕ) → Option StoreLine
numbered_line name ws = one_number ws >>= λ n. numbered name n

-- `peek PATH`, `see PATH`, `kids PATH`, `ls PATH`, `acl PATH`
abbrev pub is_look : List ℕ → Bool
is_look name = (bytes_eq name (codes "peek") || bytes_eq name (codes "see")) || (bytes_eq name (codes "kids") || (bytes_eq name (codes "ls") || bytes_eq name (codes "acl")))

unfoldable pub look_at : List ℕ → List ℕ → Option StoreLine
look_at name path =
    if bytes_eq name (codes "peek") then Some (Peek path)
    else (if bytes_eq name (codes "see") then Some (See path)
    else (if bytes_eq name (codes "kids") then Some (Kids path)
    else (if bytes_eq name (codes "ls") then Some (Ls path)
    else (if bytes_eq name (codes "acl") then Some (Acl path) else None))))

unfoldable pub look_line : List ℕ → List (List ℕ) → Option StoreLine
look_line name ws = one_path ws >>= λ path. look_at name path

-- `commit`, `noop`
unfoldable pub bare : List ℕ → Option StoreLine
bare name = if bytes_eq name (codes "commit") then Some Commit else (if bytes_eq name (codes "noop") then Some Noop else None)

abbrev pub at_least : ℕ → ℕ → Option ℕ
at_least least n = if nat_le least n then Some n else None

-- `open TIMEOUT PASS`
unfoldable pub open_line : List (List ℕ) → Option StoreLine
open_line (a ∷ b ∷ []) = do
  n ← number_of 100000 a
  timeout ← at_least 10000 n
  passwd ← passwd_of b
  Some (Open timeout passwd)
open_line _ = None

-- `attach S PASS`
unfoldable pub attach_line : List (List ℕ) → Option StoreLine
attach_line (a ∷ b ∷ []) = do
  session ← number_of last_number a
  passwd ← passwd_of b
  Some (Attach session passwd)
attach_line _ = None

-- `raw S EPOCH SEQ CMD`
unfoldable pub raw_line : List (List ℕ) → Option StoreLine
raw_line (a ∷ b ∷ c ∷ name ∷ ws) = do
  session ← number_of last_number a
  epoch ← number_of last_number b
  seq ← number_of last_number c
  command ← command_of name ws
  Some (Raw session epoch seq command)
raw_line _ = None

-- a command, whose first word behind its name is the session
unfoldable pub write_line : List ℕ → List (List ℕ) → Option StoreLine
write_line name (a ∷ ws) = do
  session ← number_of last_number a
  command ← command_of name ws
  Some (Write session command)
write_line name [] = None

-- a line of an entry that has words
unfoldable pub entry_line : List ℕ → List (List ℕ) → Option StoreLine
entry_line name ws =
    if bytes_eq name (codes "open") then open_line ws
    else (if bytes_eq name (codes "attach") then attach_line ws
    else (if bytes_eq name (codes "raw") then raw_line ws else write_line name ws))

abbrev pub of_name : List ℕ → List (List ℕ) → Option StoreLine
of_name name [] = bare name
of_name name (w ∷ ws) = entry_line name (w ∷ ws)

-- the line that a name and the words behind it are
unfoldable pub of_words : List (List ℕ) → Option StoreLine
of_words [] = None
of_words (name ∷ ws) =
    if is_numbered name then numbered_line name ws else (if is_look name then look_line name ws else of_name name ws)

-- the line that a text is, where it is one; a text that isn't UTF-8 is none
unfoldable pub line_of : List ℕ → Option StoreLine
line_of text = if is_utf8 text then of_words (words_of text) else None
