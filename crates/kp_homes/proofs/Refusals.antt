-- How the refusals of a journal are those of a home.
use Rattle.std.proofs.Common.{◌≡◌, ℕ, ◌^◌, ◌<◌, Result, Ok, Err, sym, ◌∙◌, ap, subst}
use Rattle.kp_journal.specs.declared.fail.JournalFail.{JournalFail}
use Rattle.kp_journal.specs.declared.fail.JournalFail.TheVariants as journal_fail
use Rattle.kp_journal.specs.Answers.{IsOfAppend}
use Rattle.kp_homes.specs.declared.fail.HomeFail.{HomeFail}
use Rattle.kp_homes.specs.declared.fail.HomeFail.TheVariants as home_fail
use Rattle.kp_homes.specs.Stands.{fail_in, IsOfWriting}

pub ok_err : {T E : Type 0} (P : Type 0) (x : T) (e : E) → ◌≡◌ {A = Result T E} (Ok x) (Err e) → P
ok_err P x e is = absurd cc

error : {T E : Type 0} → Result T E → E → E
error (Ok x) d = d
error (Err e) d = e

pub err_same : {T E : Type 0} (a b : E) → ◌≡◌ {A = Result T E} (Err a) (Err b) → a ≡ b
unfolding error
err_same {T} {E} a b is = ap (λ (r : Result T E). error r a) is

len_of : HomeFail → ℕ
len_of home_fail.DiskFault = 0
len_of (home_fail.Damaged slot at) = 0
len_of (home_fail.Full slot len) = len
len_of home_fail.NoMemory = 0

slot_in : HomeFail → ℕ
slot_in home_fail.DiskFault = 0
slot_in (home_fail.Damaged slot at) = 0
slot_in (home_fail.Full slot len) = slot
slot_in home_fail.NoMemory = 0

other_fail : (P : Type 0) (slot len : ℕ) → home_fail.DiskFault ≡ home_fail.Full slot len → P
other_fail P slot len e = absurd cc

full_of : (fail : JournalFail) (s slot len : ℕ) → IsOfAppend fail → fail_in s fail ≡ home_fail.Full slot len → (fail ≡ journal_fail.Full len) × (slot ≡ s)
unfolding len_of slot_in
full_of journal_fail.DiskFault s slot len of e = other_fail _ slot len e
full_of (journal_fail.Damaged at) s slot len of e = absurd of
full_of (journal_fail.Full n) s slot len of e = (ap (λ (f : HomeFail). journal_fail.Full (len_of f)) e, sym (ap slot_in e))
full_of journal_fail.Closed s slot len of e = absurd of
full_of journal_fail.NoMemory s slot len of e = absurd of

pub fulls : {T U : Type 0} (s g slot len : ℕ) (fail : JournalFail) (r : HomeFail) → r ≡ fail_in s fail → IsOfAppend fail
    → ((n : ℕ) → (◌≡◌ {A = Result T JournalFail} (Err fail) (Err (journal_fail.Full n)) → (2 ^ 40 < n) × (n ≡ g)) × ((2 ^ 40 < n) × (n ≡ g) → ◌≡◌ {A = Result T JournalFail} (Err fail) (Err (journal_fail.Full n))))
    → (◌≡◌ {A = Result U HomeFail} (Err r) (Err (home_fail.Full slot len)) → (2 ^ 40 < len) × (len ≡ g) × (slot ≡ s)) × ((2 ^ 40 < len) × (len ≡ g) × (slot ≡ s) → ◌≡◌ {A = Result U HomeFail} (Err r) (Err (home_fail.Full slot len)))
fulls {T} {U} s g slot len fail r is of h = (
  (λ e.
      let both = full_of fail s slot len of (sym is ∙ err_same {T = U} r (home_fail.Full slot len) e) in
      let there = (h len).0 (ap (λ (f : JournalFail). Err f) both.0) in
      (there.0, there.1, both.1)),
  (λ x.
      let same = err_same {T = T} fail (journal_fail.Full len) ((h len).1 (x.0, x.1)) in
      ap (λ (f : HomeFail). Err f) (is ∙ ap (fail_in s) same ∙ ap (λ (k : ℕ). home_fail.Full k len) (sym x.2))),
)

writing : (fail : JournalFail) (s : ℕ) → IsOfAppend fail → IsOfWriting (fail_in s fail)
writing journal_fail.DiskFault s of = tt
writing (journal_fail.Damaged at) s of = absurd of
writing (journal_fail.Full n) s of = tt
writing journal_fail.Closed s of = absurd of
writing journal_fail.NoMemory s of = absurd of

pub writes_alone : {U : Type 0} (s : ℕ) (fail : JournalFail) (r f : HomeFail) → r ≡ fail_in s fail → IsOfAppend fail → ◌≡◌ {A = Result U HomeFail} (Err r) (Err f) → IsOfWriting f
writes_alone {U} s fail r f is of e = subst IsOfWriting (sym is ∙ err_same {T = U} r f e) (writing fail s of)
