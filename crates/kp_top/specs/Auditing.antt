-- The audit of a node's home: its words, the home, what is written, and the statuses (this project's own).
use Rattle.std.specs.Prelude.{◌≡◌, ℕ, ◌==◌, List, [], ◌∷◌, Option, Some, None, Result, Ok, Err, if◌then◌else◌, ⊤}
use Rattle.std.specs.Str.{bytes_eq}
use Rattle.kp_io.specs.declared.home.Four.{Four}
use Rattle.kp_io.specs.declared.home.Seven.{Seven}
use Rattle.kp_homes.specs.declared.fail.HomeFail.{HomeFail}
use Rattle.kp_homes.specs.declared.fail.HomeFail.TheVariants as home_fail
use Rattle.kp_audit.specs.declared.fail.AuditFail.{AuditFail}
use Rattle.kp_audit.specs.declared.fail.AuditFail.TheVariants as audit_fail
use Rattle.kp_text.specs.Words.{number_of}
use Rattle.kp_top.specs.declared.status.Status.{Status}
use Rattle.kp_top.specs.declared.status.Status.TheVariants as status
use lib.Chars.{codes}

-- the same number, unless it is 0
abbrev pub from_one : Option ℕ → Option ℕ
from_one None = None
from_one (Some n) = if n == 0 then None else Some n

-- the node that a word names: a number from 1 to 7
abbrev pub node_of : List ℕ → Option ℕ
node_of word = from_one (number_of 7 word)

-- the node of the words `audit N`
abbrev pub audit_command : List (List ℕ) → Option ℕ
audit_command (w ∷ node ∷ []) = if bytes_eq w (codes "audit") then node_of node else None
audit_command _ = None

-- the home of a node from 1 to 7
abbrev pub home_of : {H : Type 0} → ℕ → Seven H → Four H
home_of node s =
    if node == 1 then s.one else (if node == 2 then s.two else (if node == 3 then s.three else (if node == 4 then s.four else (if node == 5 then s.five else (if node == 6 then s.six else s.seven)))))

-- the homes with another one for a node
abbrev pub with_home : {H : Type 0} → ℕ → Four H → Seven H → Seven H
with_home node h s =
    if node == 1 then record s { one = h } else (if node == 2 then record s { two = h } else (if node == 3 then record s { three = h } else (if node == 4 then record s { four = h } else (if node == 5 then record s { five = h } else (if node == 6 then record s { six = h } else record s { seven = h })))))

-- what is written of an audit: its text, and nothing of a home that is damaged
abbrev pub text_or_nothing : Result (List ℕ) HomeFail → List ℕ
text_or_nothing (Ok text) = text
text_or_nothing (Err e) = []

-- a refusal is that of the home, unless a disk failed or memory ran out
abbrev pub Refuses : AuditFail → Result (List ℕ) HomeFail → Type 0
Refuses audit_fail.DiskFault is = ⊤
Refuses (audit_fail.Damaged slot at) is = is ≡ Err (home_fail.Damaged slot at)
Refuses audit_fail.NoMemory is = ⊤

-- the status of a refusal
abbrev pub status_of : AuditFail → Status
status_of audit_fail.DiskFault = status.DiskFault
status_of (audit_fail.Damaged slot at) = status.Damaged slot at
status_of audit_fail.NoMemory = status.NoMemory

-- the statuses that an audit may come to
abbrev pub IsOfAudit : Status → Type 0
IsOfAudit status.Done = ⊤
IsOfAudit status.WriteFault = ⊤
IsOfAudit status.NoMemory = ⊤
IsOfAudit status.DiskFault = ⊤
IsOfAudit (status.Damaged slot at) = ⊤
IsOfAudit _ = ⊥

-- the statuses that come only once the home was read
abbrev pub IsBehindHome : Status → Type 0
IsBehindHome status.Done = ⊤
IsBehindHome status.WriteFault = ⊤
IsBehindHome _ = ⊥

-- the home is damaged there, or memory ran out
abbrev pub IsDamagedOrNoMemory : ℕ → ℕ → Status → Type 0
IsDamagedOrNoMemory slot at (status.Damaged s a) = (s ≡ slot) × (a ≡ at)
IsDamagedOrNoMemory slot at status.NoMemory = ⊤
IsDamagedOrNoMemory slot at _ = ⊥
