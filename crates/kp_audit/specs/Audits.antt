-- What an audit prints, and what it answers (this project's own).
use Rattle.std.specs.Prelude.{◌≡◌, ℕ, Bool, List, ◌++◌, Option, Some, None, Result, Ok, Err}
use Rattle.kp_journal.specs.Heads.{generation}
use Rattle.kp_homes.specs.declared.fail.HomeFail.{HomeFail}
use Rattle.kp_homes.specs.declared.fail.HomeFail.TheVariants as home_fail
use Rattle.kp_homes.specs.Stands.{Bytes4, choice, slot_number}
use Rattle.kp_homes.specs.Opening.{Found, found}
use Rattle.kp_homes.specs.Inspects.{journal_in}
use Rattle.kp_audit.specs.declared.fail.AuditFail.{AuditFail}
use Rattle.kp_audit.specs.declared.fail.AuditFail.TheVariants as audit_fail
use Rattle.kp_audit.specs.Texts.{found_text, blank_text}

-- the text of what is found, or the refusal
abbrev pub texted : ℕ → ℕ → Result Found HomeFail → Result (List ℕ) HomeFail
texted slot generation (Ok f) = Ok (found_text slot generation f)
texted slot generation (Err e) = Err e

abbrev pub audited_by : Option Bool → ℕ → Bytes4 → Result (List ℕ) HomeFail
audited_by None node b = Ok blank_text
audited_by (Some second) node b = texted (slot_number second) (generation (journal_in second b)) (found node b)

-- the text of this node's home: of its live slot, by what opening finds there, or of a blank home
unfoldable pub audited : ℕ → Bytes4 → Result (List ℕ) HomeFail
audited node b = audited_by (choice b.j0 b.j1) node b

-- the text is appended, or its refusal is answered, unless a disk failed or memory ran out
abbrev pub Audits : Result (Unit {0}) AuditFail → List ℕ → List ℕ → Result (List ℕ) HomeFail → Type 0
Audits (Ok u) old new is = (text : List ℕ) × (is ≡ Ok text) × (new ≡ old ++ text)
Audits (Err audit_fail.DiskFault) old new is = Unit {0}
Audits (Err (audit_fail.Damaged slot at)) old new is = is ≡ Err (home_fail.Damaged slot at)
Audits (Err audit_fail.NoMemory) old new is = Unit {0}

-- all was printed, or memory ran out
abbrev pub IsDoneOrNoMemory : Result (Unit {0}) AuditFail → Type 0
IsDoneOrNoMemory (Ok u) = Unit {0}
IsDoneOrNoMemory (Err audit_fail.DiskFault) = ⊥
IsDoneOrNoMemory (Err (audit_fail.Damaged slot at)) = ⊥
IsDoneOrNoMemory (Err audit_fail.NoMemory) = Unit {0}

-- the refusal of a home as one of its audit
abbrev pub fail_of : HomeFail → AuditFail
fail_of home_fail.DiskFault = audit_fail.DiskFault
fail_of (home_fail.Damaged slot at) = audit_fail.Damaged slot at
fail_of (home_fail.Full slot len) = audit_fail.NoMemory
fail_of home_fail.NoMemory = audit_fail.NoMemory
