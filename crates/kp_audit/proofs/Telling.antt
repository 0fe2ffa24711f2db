-- The text of what was told of a home.
use Rattle.std.proofs.Common.{◌≡◌, ℕ, Bool, List, ◌++◌, Option, Some, None, Result, Ok, Err, refl, sym, ◌∙◌, ap, subst, append_assoc}
use Rattle.kp_model.specs.LogEntry.{LogEntry}
use Rattle.kp_model.specs.Store.{Store, last, latest}
use Rattle.kp_plain.specs.declared.store.Counts.{Counts}
use Rattle.kp_plain.specs.Counted.{counts_of}
use Rattle.kp_journal.specs.Heads.{generation}
use Rattle.kp_snapshot.specs.Snapshots.{Snapshot}
use Rattle.kp_homes.specs.declared.fail.HomeFail.{HomeFail}
use Rattle.kp_homes.specs.declared.fail.HomeFail.TheVariants as home_fail
use Rattle.kp_homes.specs.declared.inspecting.LiveSlot.{LiveSlot}
use Rattle.kp_homes.specs.Stands.{Bytes4, choice, slot_number}
use Rattle.kp_homes.specs.Opening.{Fails, found}
use Rattle.kp_homes.specs.Inspects.{Inspects, IsLiveSlot, journal_in}
use Rattle.kp_homes.proofs.Looking.{blank_finds}
use Rattle.kp_homes.proofs.Refusals.{ok_err}
use Rattle.kp_audit.specs.Texts.{store_counts, store_of, numbers_text, line_text, slot_lines, found_text, live_text, told_text}
use Rattle.kp_audit.specs.declared.fail.AuditFail.{AuditFail}
use Rattle.kp_audit.specs.declared.fail.AuditFail.TheVariants as audit_fail
use Rattle.std.specs.Prelude.{OnOk, IsErrOf}
use Rattle.kp_audit.specs.Audits.{Audits, IsDoneOrNoMemory, audited, audited_by, fail_of, texted}
use lib.Chars.{codes}

live_told : (node : ℕ) (b : Bytes4) (s : LiveSlot) (is : IsLiveSlot node b s) → found_text (slot_number s.second) (generation (journal_in s.second b)) is.finds ≡ live_text s
live_told node b s is = sym (λ i. slot_lines (slot_number s.second) (is.generation i) (is.kept.boot i) (is.kept.term i) (is.kept.vote i) (is.kept.image i) (is.kept.rest i))

-- what was told of the home is its text
pub told : (node : ℕ) (b : Bytes4) (o : Option LiveSlot) → Inspects node b (Ok o) → audited node b ≡ Ok (told_text o)
unfolding audited
told node b None is = ap (λ (c : Option Bool). audited_by c node b) is
told node b (Some s) is =
    ap (λ (c : Option Bool). audited_by c node b) is.live
    ∙ ap (texted (slot_number s.second) (generation (journal_in s.second b))) is.found
    ∙ ap (λ (t : List ℕ). Ok t) (live_told node b s is)

-- what is refused at opening has no text
pub refused : (node : ℕ) (b : Bytes4) (e : HomeFail) → found node b ≡ Err e → audited node b ≡ Err e
unfolding audited
refused node b e is = by_choice (choice b.j0 b.j1) refl
  where
    by_choice : (o : Option Bool) → choice b.j0 b.j1 ≡ o → audited_by o node b ≡ Err e
    by_choice None none = ok_err _ _ _ (sym (blank_finds node b none) ∙ is)
    by_choice (Some second) live = ap (texted (slot_number second) (generation (journal_in second b))) is

pub refuses : (node : ℕ) (b : Bytes4) (old new : List ℕ) (e : HomeFail) (r : AuditFail) → r ≡ fail_of e → Inspects node b (Err e) → Audits (Err r) old new (audited node b)
refuses node b old new e r is fails = subst (λ (f : AuditFail). Audits (Err f) old new (audited node b)) (sym is) (by_fail e fails)
  where
    by_fail : (e : HomeFail) → Fails e (found node b) → Audits (Err (fail_of e)) old new (audited node b)
    by_fail home_fail.DiskFault fails = tt
    by_fail (home_fail.Damaged slot at) fails = refused node b (home_fail.Damaged slot at) fails
    by_fail (home_fail.Full slot len) fails = absurd fails
    by_fail home_fail.NoMemory fails = tt

-- what was told of the home is printed, or memory ran out
pub found_audits : (node : ℕ) (b : Bytes4) (o : Option LiveSlot) (r : Result (Unit {0}) AuditFail) (old new : List ℕ) → Inspects node b (Ok o) → OnOk r (new ≡ old ++ told_text o) → ((f : AuditFail) → IsErrOf r f → f ≡ audit_fail.NoMemory) → Audits r old new (audited node b)
found_audits node b o (Ok u) old new is printed only = (told_text o, told node b o is, printed)
found_audits node b o (Err f) old new is printed only = subst (λ (e : AuditFail). Audits (Err e) old new (audited node b)) (sym (only f refl)) tt

-- ---- where nothing stands against a text

pub complete_found : (r : Result (Unit {0}) AuditFail) → ((f : AuditFail) → IsErrOf r f → f ≡ audit_fail.NoMemory) → IsDoneOrNoMemory r
complete_found (Ok u) only = tt
complete_found (Err f) only = subst (λ (e : AuditFail). IsDoneOrNoMemory (Err e)) (sym (only f refl)) tt

pub complete_refused : {P : Type 0} (node : ℕ) (b : Bytes4) (text : List ℕ) (e : HomeFail) (r : AuditFail) → r ≡ fail_of e → Inspects node b (Err e) → audited node b ≡ Ok text → (◌≡◌ {A = Result (Option LiveSlot) HomeFail} (Err e) (Err home_fail.DiskFault) → P) → (P → ⊥)
    → IsDoneOrNoMemory (Err r)
complete_refused {P} node b text e r same fails is fault quiet = subst (λ (f : AuditFail). IsDoneOrNoMemory (Err f)) (sym same) (by_fail e fails fault)
  where
    by_fail : (e : HomeFail) → Fails e (found node b) → (◌≡◌ {A = Result (Option LiveSlot) HomeFail} (Err e) (Err home_fail.DiskFault) → P) → IsDoneOrNoMemory (Err (fail_of e))
    by_fail home_fail.DiskFault fails fault = absurd (quiet (fault refl))
    by_fail (home_fail.Damaged slot at) fails fault = ok_err _ _ _ (sym is ∙ refused node b (home_fail.Damaged slot at) fails)
    by_fail (home_fail.Full slot len) fails fault = absurd fails
    by_fail home_fail.NoMemory fails fault = tt

-- ---- the lines of a slot

line : LiveSlot → ℕ → List ℕ
line s k = line_text (slot_number s.second) s.generation s.kept.boot s.kept.term s.kept.vote s.kept.image k

numbers : Counts → List ℕ
numbers c = numbers_text (codes "tree") c.nodes c.sessions ++ numbers_text (codes "replay") c.all_nodes c.all_sessions

pub lines_told : (s : LiveSlot) (k : ℕ) (n : Counts) (a b c : List ℕ) → k ≡ last (store_of s.kept.image s.kept.rest.items) → n ≡ store_counts (store_of s.kept.image s.kept.rest.items)
    → b ≡ a ++ line_text (slot_number s.second) s.generation s.kept.boot s.kept.term s.kept.vote s.kept.image k
    → c ≡ b ++ (numbers_text (codes "tree") n.nodes n.sessions ++ numbers_text (codes "replay") n.all_nodes n.all_sessions) → c ≡ a ++ live_text s
unfolding slot_lines line numbers
lines_told s k n a b c at counts first rest =
    rest ∙ ap (λ (z : List ℕ). z ++ numbers n) first ∙ append_assoc a (line s k) (numbers n) ∙ (λ i. a ++ (line s (at i) ++ numbers (counts i)))

-- what a store that was filled counts
pub store_last : (x : Store) (k : ℕ) (i : Option Snapshot) (es fs : List LogEntry) → x ≡ store_of i fs → fs ≡ es → k ≡ last x → k ≡ last (store_of i es)
store_last x k i es fs is same at = at ∙ ap last (is ∙ ap (store_of i) same)

pub store_counted : (x : Store) (n : Counts) (i : Option Snapshot) (es fs : List LogEntry) → x ≡ store_of i fs → fs ≡ es → n ≡ counts_of x.state (latest x) → n ≡ store_counts (store_of i es)
store_counted x n i es fs is same counts = counts ∙ ap store_counts (is ∙ ap (store_of i) same)
