-- The lines of a load (this project's own).
use Rattle.std.specs.Prelude.{ℕ, ◌+◌, ◌-◌, ◌*◌, ◌/◌, ◌%◌, ◌^◌, ◌==◌, ◌&&◌, max, nat_lt, Bool, true, false, IsTrue, ⊤, List, [], ◌∷◌, ◌++◌, replicate, Option, Some, None, if◌then◌else◌, refl}
use Rattle.std.specs.Coded.{Coded, code_by, coded×, coded_ℕ, coded_bool}
use Rattle.std.specs.Fmt.{decimal}
use Rattle.std.specs.Int.{to_be_bytes, w64}
use Rattle.kp_model.specs.Grammar.{is_number, is_timeout}
use Rattle.kp_text.specs.Spelling.{is_passwd}
use Rattle.kp_text.specs.declared.command.Operation.{Operation}
use Rattle.kp_text.specs.declared.command.Operation.TheVariants as operation
use Rattle.kp_text.specs.declared.command.Command.TheVariants as command
use Rattle.kp_text.specs.declared.line.StoreLine.{StoreLine}
use Rattle.kp_text.specs.declared.line.StoreLine.TheVariants as line
use lib.Chars.{codes}

-- ---- what is drawn from a number

-- the number behind x, in 64 bits
abbrev pub next_number : ℕ → ℕ
next_number x = (x * 6364136223846793005 + 1442695040888963407) % 2 ^ 64

-- which kind of line, of 16
abbrev pub kind_in : ℕ → ℕ
kind_in x = x / 2 ^ 33 % 16

-- which node, of 64
abbrev pub place_in : ℕ → ℕ
place_in x = x / 2 ^ 33 / 16 % 64

abbrev pub path_in : ℕ → List ℕ
path_in x = codes "/n" ++ decimal (place_in x)

-- ---- lines

-- a command of session 1
abbrev pub written : Operation → StoreLine
written o = line.Write 1 (command.Operation o)

unfoldable pub create_in : ℕ → StoreLine
create_in x = written (operation.Create (path_in x) 0 (to_be_bytes w64 x) None)

unfoldable pub child_line_in : ℕ → StoreLine
child_line_in x = written (operation.Create (path_in x ++ codes "/s") 2 (to_be_bytes w64 x) None)

-- version 4294967295 is -1, any version
unfoldable pub set_in : ℕ → StoreLine
set_in x = written (operation.Set (path_in x) (to_be_bytes w64 x) 4294967295)

unfoldable pub delete_in : ℕ → StoreLine
delete_in x = written (operation.Delete (path_in x) 4294967295)

-- a truncation keeps all but up to three entries, and those that are applied
abbrev pub last_kept : ℕ → ℕ → ℕ → ℕ
last_kept x applied last = max applied (last - place_in x % 4)

-- the line that is drawn for a store with this applied and this last index
unfoldable pub line_in : ℕ → ℕ → ℕ → StoreLine
line_in x applied last =
    if nat_lt (kind_in x) 6 then create_in x
    else (if nat_lt (kind_in x) 9 then set_in x
    else (if nat_lt (kind_in x) 11 then delete_in x
    else (if nat_lt (kind_in x) 12 then child_line_in x
    else (if nat_lt (kind_in x) 15 then line.Commit
    else line.Truncate (last_kept x applied last)))))

-- the lines of a load: one that opens a session, writes of a session, commits and truncations, with numbers in their ranges
abbrev pub is_load_line : StoreLine → Bool
is_load_line (line.Open timeout passwd) = is_timeout timeout && is_passwd passwd
is_load_line (line.Write session c) = is_number session
is_load_line line.Commit = true
is_load_line (line.Truncate k) = true
is_load_line other = false

abbrev pub IsLoadLine : Option StoreLine → Type 0
IsLoadLine None = ⊤
IsLoadLine (Some l) = IsTrue (is_load_line l)

-- ---- all of them

-- whether the first line is still to come, how many are still to be drawn, and the number that was drawn last
pub record Load : Type 0 where
  pub opens : Bool
  pub left : ℕ
  pub number : ℕ

abbrev pub load_code : Coded Load
load_code = code_by (Bool × (ℕ × ℕ)) (coded× coded_bool (coded× coded_ℕ coded_ℕ)) (λ l. (l.opens, (l.left, l.number))) (λ p. record { opens = p.0; left = p.1.0; number = p.1.1 }) (λ _. refl)

abbrev pub begun : ℕ → ℕ → Load
begun start count = record { opens = true; left = count; number = start }

-- a line, and what is left behind it
pub record Next : Type 0 where
  pub line : Option StoreLine
  pub rest : Load

abbrev pub opening : StoreLine
opening = line.Open 30000 (replicate 16 0)

-- the session is opened; lines are drawn; and then what is unapplied is committed
unfoldable pub after : Load → ℕ → ℕ → Next
after l applied last =
    if l.opens then record { line = Some opening; rest = record l { opens = false } }
    else (if l.left == 0 then record { line = if nat_lt applied last then Some line.Commit else None; rest = l }
    else record { line = Some (line_in (next_number l.number) applied last); rest = record l { left = l.left - 1; number = next_number l.number } })
