-- What is read of a home.
use Rattle.std.proofs.Common.{◌≡◌, ℕ, ◌+◌, ◌<◌, Bool, true, false, cond, List, [], ◌∷◌, length, take, Option, Some, None, Result, Ok, Err, refl, sym, ◌∙◌, ap, subst, arith}
use Rattle.std.specs.Prelude.{◌&&◌, nat_lt, IfSome, IfOk, OnOk}
use Rattle.kp_io.specs.Faults.{Rose}
use Rattle.std.proofs.lemmas.Bool.Decides.{nat_tests}
use Rattle.std.proofs.lemmas.Option.{none-some, same_Some}
use Rattle.kp_jute.specs.declared.fault.JuteFail.{JuteFail}
use Rattle.kp_jute.specs.declared.fault.JuteFail.TheVariants as jute
use Rattle.kp_jute.specs.Form.{whole}
use Rattle.kp_journal.specs.declared.fail.JournalFail.{JournalFail}
use Rattle.kp_journal.specs.declared.fail.JournalFail.TheVariants as journal_fail
use Rattle.kp_journal.specs.Answers.{Tells}
use Rattle.kp_journal.specs.Frames.{Run}
use Rattle.kp_journal.specs.Heads.{is_open, generation, open_generation}
use Rattle.kp_journal.specs.Journals.{Journaled, StandsFor}
use Rattle.kp_snapshot.specs.Snapshots.{Snapshot, images, IsRefusedAt}
use Rattle.kp_homes.specs.declared.fail.HomeFail.{HomeFail}
use Rattle.kp_homes.specs.declared.fail.HomeFail.TheVariants as home_fail
use Rattle.kp_homes.specs.declared.reading.Live.{Live}
use Rattle.kp_homes.specs.Stands.{Bytes4, Stand, IsReady, slot_of, fail_in, choice, stands, stands_by, slot_number}
use Rattle.kp_homes.specs.Opening.{Start, Found, blank_found, chosen, found, found_by, live_slot, found_in, with_start, behind_image, image_read, image_in, image_on, Refuses, Says, Fails, Finds}
use Rattle.kp_homes.specs.Reading.{HasJournal, ReadsJournal, IsLive, found_of, seen, some_live}
use Rattle.kp_journal.proofs.Staging.{some_of}
use Rattle.kp_homes.proofs.Refusals.{ok_err, err_same}
use Rattle.kp_homes.proofs.Ready.{ready_true, ready_false}

-- ---- which slot is live

chosen_by : (p q : Bool) (a b : ℕ) → chosen (cond p (Some a) None) (cond q (Some b) None) ≡ cond p (Some (q && nat_lt a b)) (cond q (Some true) None)
chosen_by true true a b = refl
chosen_by true false a b = refl
chosen_by false true a b = refl
chosen_by false false a b = refl

pub chosen_is : (xs ys : List ℕ) → chosen (open_generation xs) (open_generation ys) ≡ choice xs ys
chosen_is xs ys = chosen_by (is_open xs) (is_open ys) (generation xs) (generation ys)

pub chosen_live : (o p : Option (List ℕ)) (a b : Option ℕ) (r : Option Bool) → IfSome o (λ xs. a ≡ open_generation xs) → IfSome p (λ ys. b ≡ open_generation ys) → r ≡ chosen a b → IfSome o (λ xs. IfSome p (λ ys. r ≡ choice xs ys))
chosen_live None p a b r ha hb is = tt
chosen_live (Some xs) None a b r ha hb is = tt
chosen_live (Some xs) (Some ys) a b r ha hb is = is ∙ ap (λ (k : Option ℕ). chosen k b) ha ∙ ap (λ (k : Option ℕ). chosen (open_generation xs) k) hb ∙ chosen_is xs ys

-- ---- the image of a slot

pub too_short : (o : Option (List ℕ)) (there len slot : ℕ) → IfSome o (λ ys. there ≡ length ys) → nat_lt there len ≡ true
    → IfSome o (λ ys. cond (nat_lt (length ys) len) (Err (home_fail.Damaged slot 14)) (Ok (take len ys)) ≡ Err (home_fail.Damaged slot 14))
too_short None there len slot is less = tt
too_short (Some ys) there len slot is less = ap (λ (b : Bool). cond b (Err (home_fail.Damaged slot 14)) (Ok (take len ys))) (ap (λ (k : ℕ). nat_lt k len) (sym is) ∙ less)

pub long_enough : (o : Option (List ℕ)) (there len slot n room : ℕ) (items into : List ℕ) → IfSome o (λ ys. there ≡ length ys) → nat_lt there len ≡ false → IfSome o (λ xs. take n into ≡ take room xs) → room ≡ len → items ≡ take n into
    → IfSome o (λ ys. cond (nat_lt (length ys) len) (Err (home_fail.Damaged slot 14)) (Ok (take len ys)) ≡ Ok items)
long_enough None there len slot n room items into is less was size cut = tt
long_enough (Some ys) there len slot n room items into is less was size cut =
    ap (λ (b : Bool). cond b (Err (home_fail.Damaged slot 14)) (Ok (take len ys))) (ap (λ (k : ℕ). nat_lt k len) (sym is) ∙ less)
    ∙ ap (λ (l : List ℕ). Ok l) (ap (λ (k : ℕ). take k ys) (sym size) ∙ sym was ∙ sym cut)

-- ---- a slot

-- reading a slot is reading its journal, then its image, then replaying the records
pub slot_parts : (k : ℕ) (j : Journaled) (ys : List ℕ) → found_in k (slot_of k (Ok j) ys) ≡ behind_image k j.run (image_on k j.head.image_len ys)
slot_parts k j ys = by_test (nat_lt (length ys) j.head.image_len)
  where
    by_test : (b : Bool) → found_in k (cond b (Err (home_fail.Damaged k 14)) (Ok (record { image = take j.head.image_len ys; journal = j }))) ≡ behind_image k j.run (cond b (Err (home_fail.Damaged k 14)) (image_in k (take j.head.image_len ys)))
    by_test true = refl
    by_test false = refl

-- a journal that is refused
pub journal_fails : (k : ℕ) (e : JournalFail) (is : Result Journaled JournalFail) (ys : List ℕ) → Tells {A = Journaled} (Err e) is → Fails (fail_in k e) (found_in k (slot_of k is ys))
journal_fails k journal_fail.DiskFault is ys tells = tt
journal_fails k (journal_fail.Damaged at) is ys tells = ap (λ (r : Result Journaled JournalFail). found_in k (slot_of k r ys)) tells
journal_fails k (journal_fail.Full len) is ys tells = absurd tells
journal_fails k journal_fail.Closed is ys tells = ap (λ (r : Result Journaled JournalFail). found_in k (slot_of k r ys)) tells
journal_fails k journal_fail.NoMemory is ys tells = tt

-- an image that is refused
pub image_fails : (k : ℕ) (run : Run) (e : HomeFail) (is : Result (Option Snapshot) HomeFail) → Fails e is → Fails e (behind_image k run is)
image_fails k run home_fail.DiskFault is fails = tt
image_fails k run (home_fail.Damaged slot at) is fails = ap (λ (r : Result (Option Snapshot) HomeFail). behind_image k run r) fails
image_fails k run (home_fail.Full slot len) is fails = absurd fails
image_fails k run home_fail.NoMemory is fails = tt

pub refuses_fails : {B : Type 0} (e : HomeFail) (is : Result B HomeFail) → Refuses e is → Fails e is
refuses_fails home_fail.DiskFault is r = absurd r
refuses_fails (home_fail.Damaged slot at) is r = r
refuses_fails (home_fail.Full slot len) is r = absurd r
refuses_fails home_fail.NoMemory is r = tt

-- a slot of which all was read stands for a value
pub has_journal : (k : ℕ) (j : Journaled) (ys : List ℕ) (i : Option Snapshot) → image_on k j.head.image_len ys ≡ Ok i → HasJournal (slot_of k (Ok j) ys) j
has_journal k j ys i e = by_test (nat_lt (length ys) j.head.image_len) e
  where
    never : (P : Type 0) (f : HomeFail) → ◌≡◌ {A = Result (Option Snapshot) HomeFail} (Err f) (Ok i) → P
    never P f e = absurd cc

    by_test : (b : Bool) → cond b (Err (home_fail.Damaged k 14)) (image_in k (take j.head.image_len ys)) ≡ Ok i → HasJournal (cond b (Err (home_fail.Damaged k 14)) (Ok (record { image = take j.head.image_len ys; journal = j }))) j
    by_test true e = never _ _ e
    by_test false e = (record { image = take j.head.image_len ys; journal = j }, refl, refl)

-- ---- an image from its bytes

pub some_image : (slot : ℕ) (bytes : List ℕ) → 0 < length bytes → image_in slot bytes ≡ image_read slot (whole images bytes)
unfolding image_in
some_image slot [] some = absurd (omega (arith, some))
some_image slot (b ∷ bytes) some = refl

no_place : (P : Type 0) (at : ℕ) → ◌≡◌ {A = Option ℕ} None (Some at) → P
no_place P at e = absurd (none-some at e)

pub refused_image : (slot at : ℕ) (read : Result Snapshot JuteFail) → IsRefusedAt at read → image_read slot read ≡ Err (home_fail.Damaged (slot + 2) at)
refused_image slot at (Ok s) refused = absurd refused
refused_image slot at (Err jute.NoMemory) refused = no_place _ at refused
refused_image slot at (Err (jute.Short k)) refused = ap (λ (j : ℕ). Err (home_fail.Damaged (slot + 2) j)) (same_Some k at refused)
refused_image slot at (Err (jute.BadLength k)) refused = ap (λ (j : ℕ). Err (home_fail.Damaged (slot + 2) j)) (same_Some k at refused)
refused_image slot at (Err (jute.BadByte k)) refused = ap (λ (j : ℕ). Err (home_fail.Damaged (slot + 2) j)) (same_Some k at refused)

pub no_image : (k len : ℕ) (o : Option (List ℕ)) → len ≡ 0 → IfSome o (λ ys. image_on k len ys ≡ Ok None)
unfolding image_in
no_image k len None is = tt
no_image k len (Some ys) is = ap (λ (n : ℕ). image_on k n ys) is ∙ none_at k ys
  where
    never_less : (n : ℕ) → nat_lt n 0 ≡ false
    never_less n = grind (arith, nat_tests)

    none_in : (k : ℕ) → image_in k [] ≡ Ok None
    none_in k = refl

    none_at : (k : ℕ) (ys : List ℕ) → image_on k 0 ys ≡ Ok None
    none_at k ys = ap (λ (b : Bool). cond b (Err (home_fail.Damaged k 14)) (image_in k [])) (never_less (length ys)) ∙ none_in k

-- ---- the answers of the calls that read a slot

pub journal_read : (k : ℕ) (o : Option (List ℕ)) (is : List ℕ → Result Journaled JournalFail) (j : Journaled) → IfSome o (λ xs. Tells (Ok j) (is xs)) → IfSome o (λ xs. ReadsJournal k (Ok j) (is xs))
journal_read k None is j h = tt
journal_read k (Some xs) is j h = h

pub journal_unread : (k : ℕ) (o : Option (List ℕ)) (is : List ℕ → Result Journaled JournalFail) (f : JournalFail) (e : HomeFail) → IfSome o (λ xs. Tells {A = Journaled} (Err f) (is xs)) → e ≡ fail_in k f → IfSome o (λ xs. ReadsJournal k (Err e) (is xs))
journal_unread k None is f e h same = tt
journal_unread k (Some xs) is f e h same = (f, h, same)

pub slot_unread : (k : ℕ) (o p : Option (List ℕ)) (is : List ℕ → Result Journaled JournalFail) (e : HomeFail) → IfSome o (λ xs. ReadsJournal k (Err e) (is xs)) → IfSome o (λ xs. IfSome p (λ ys. Fails e (found_in k (slot_of k (is xs) ys))))
slot_unread k None p is e h = tt
slot_unread k (Some xs) None is e h = tt
slot_unread k (Some xs) (Some ys) is e h = subst (λ (x : HomeFail). Fails x (found_in k (slot_of k (is xs) ys))) (sym h.2) (journal_fails k h.0 (is xs) ys h.1)

parts_of : (k len : ℕ) (j : Journaled) (r : Result Journaled JournalFail) (ys : List ℕ) → r ≡ Ok j → len ≡ j.head.image_len → behind_image k j.run (image_on k len ys) ≡ found_in k (slot_of k r ys)
parts_of k len j r ys e is = ap (λ (n : ℕ). behind_image k j.run (image_on k n ys)) is ∙ sym (slot_parts k j ys) ∙ ap (λ (q : Result Journaled JournalFail). found_in k (slot_of k q ys)) (sym e)

pub image_unread : (k len : ℕ) (j : Journaled) (o p : Option (List ℕ)) (is : List ℕ → Result Journaled JournalFail) (e : HomeFail) → IfSome o (λ xs. ReadsJournal k (Ok j) (is xs)) → len ≡ j.head.image_len → IfSome p (λ ys. Fails e (image_on k len ys))
    → IfSome o (λ xs. IfSome p (λ ys. Fails e (found_in k (slot_of k (is xs) ys))))
image_unread k len j None p is e hj size hi = tt
image_unread k len j (Some xs) None is e hj size hi = tt
image_unread k len j (Some xs) (Some ys) is e hj size hi = subst (λ (r : Result Found HomeFail). Fails e r) (parts_of k len j (is xs) ys hj size) (image_fails k j.run e (image_on k len ys) hi)

says_finds : {A B : Type 0} (view : A → B) (r : Result A HomeFail) (is : Result B HomeFail) → Says view r is → Finds view r is
says_finds view (Ok x) is s = s
says_finds view (Err e) is s = refuses_fails e is s

pub slot_read : (k len : ℕ) (j : Journaled) (o p : Option (List ℕ)) (is : List ℕ → Result Journaled JournalFail) (i : Option Snapshot) (r : Result Live HomeFail) → IfSome o (λ xs. ReadsJournal k (Ok j) (is xs)) → len ≡ j.head.image_len → IfSome p (λ ys. image_on k len ys ≡ Ok i)
    → Says found_of r (behind_image k j.run (Ok i)) → IfSome o (λ xs. IfSome p (λ ys. Finds found_of r (found_in k (slot_of k (is xs) ys))))
slot_read k len j None p is i r hj size hi says = tt
slot_read k len j (Some xs) None is i r hj size hi says = tt
slot_read k len j (Some xs) (Some ys) is i r hj size hi says =
    subst (λ (q : Result Found HomeFail). Finds found_of r q) (ap (λ (q : Result (Option Snapshot) HomeFail). behind_image k j.run q) (sym hi) ∙ parts_of k len j (is xs) ys hj size) (says_finds found_of r _ says)

stand_of : (r : Result Live HomeFail) (s : Result Stand HomeFail) (j : Journaled) → IfOk r (λ l. l.journal ≡ j) → HasJournal s j → IfOk r (λ l. HasJournal s l.journal)
stand_of (Ok l) s j same has = (has.0, has.1, has.2 ∙ sym same)
stand_of (Err e) s j same has = tt

pub slot_stand : (k len : ℕ) (j : Journaled) (o p : Option (List ℕ)) (is : List ℕ → Result Journaled JournalFail) (i : Option Snapshot) (r : Result Live HomeFail) → IfSome o (λ xs. ReadsJournal k (Ok j) (is xs)) → len ≡ j.head.image_len → IfSome p (λ ys. image_on k len ys ≡ Ok i)
    → IfOk r (λ l. l.journal ≡ j) → IfSome o (λ xs. IfSome p (λ ys. IfOk r (λ l. HasJournal (slot_of k (is xs) ys) l.journal)))
slot_stand k len j None p is i r hj size hi same = tt
slot_stand k len j (Some xs) None is i r hj size hi same = tt
slot_stand k len j (Some xs) (Some ys) is i r hj size hi same =
    stand_of r (slot_of k (is xs) ys) j same
    (subst (λ (q : Result Journaled JournalFail). HasJournal (slot_of k q ys) j) (sym hj) (has_journal k j ys i (ap (λ (n : ℕ). image_on k n ys) (sym size) ∙ hi)))

pub ready_as : (r : Result Live HomeFail) (j : Journaled) (o : Option (List ℕ)) → IfOk r (λ l. l.journal ≡ j) → IfSome o (StandsFor j) → IfOk r (λ l. IfSome o (StandsFor l.journal))
ready_as (Ok l) j o same ready = subst (λ (k : Journaled). IfSome o (StandsFor k)) (sym same) ready
ready_as (Err e) j o same ready = tt

pub node_as : (r : Result Live HomeFail) (j : Journaled) (node : ℕ) → IfOk r (λ l. l.journal ≡ j) → j.head.node ≡ node → IfOk r (λ l. l.journal.head.node ≡ node)
node_as (Ok l) j node same is = ap (λ (k : Journaled). k.head.node) same ∙ is
node_as (Err e) j node same is = tt

-- ---- the answers of a replay

pub replayed_err : (e : HomeFail) (i : Option Snapshot) (r : Result Start HomeFail) → Refuses e r → Refuses e (with_start i r)
replayed_err home_fail.DiskFault i r h = absurd h
replayed_err (home_fail.Damaged slot at) i r h = ap (λ (q : Result Start HomeFail). with_start i q) h
replayed_err (home_fail.Full slot len) i r h = absurd h
replayed_err home_fail.NoMemory i r h = tt

pub refuses_no_fault : {A B : Type 0} (e : HomeFail) (is : Result B HomeFail) → Refuses e is → ◌≡◌ {A = Result A HomeFail} (Err e) (Err home_fail.DiskFault) → ⊥
refuses_no_fault {A} {B} e is h same = subst (λ (f : HomeFail). Refuses f is) (err_same {T = A} e home_fail.DiskFault same) h

pub refuses_no_full : {A B : Type 0} (e : HomeFail) (is : Result B HomeFail) (s n : ℕ) → Refuses e is → ◌≡◌ {A = Result A HomeFail} (Err e) (Err (home_fail.Full s n)) → ⊥
refuses_no_full {A} {B} e is s n h same = subst (λ (f : HomeFail). Refuses f is) (err_same {T = A} e (home_fail.Full s n) same) h

-- ---- the answers of a home's reading

pub finds_slot : (k node : ℕ) (second : Bool) (b : Bytes4) (r : Result Live HomeFail) (s : Result Stand HomeFail) → choice b.j0 b.j1 ≡ Some second → stands_by node (Some second) b ≡ Some s → slot_number second ≡ k → Finds found_of r (found_in k s) → Finds found_of r (found node b)
unfolding found
finds_slot k node second b r s live is same finds =
    let there : found_by (live_slot (choice b.j0 b.j1)) (stands_by node (choice b.j0 b.j1) b) ≡ found_in k s =
    ap (λ (o : Option Bool). found_by (live_slot o) (stands_by node o b)) live ∙ ap (λ (o : Option (Result Stand HomeFail)). found_by (slot_number second) o) is ∙ ap (λ (n : ℕ). found_in n s) same in
    subst (λ (q : Result Found HomeFail). Finds found_of r q) (sym there) finds

pub is_live : (node : ℕ) (second : Bool) (b : Bytes4) (r : Result Live HomeFail) (s : Result Stand HomeFail) → choice b.j0 b.j1 ≡ Some second → stands_by node (Some second) b ≡ Some s → IfOk r (λ l. l.second ≡ second) → IfOk r (λ l. HasJournal s l.journal) → IfOk r (λ l. IsLive node b (Some l))
is_live node second b (Err e) s live is same has = tt
is_live node second b (Ok l) s live is same has = (
  live ∙ ap (λ (k : Bool). Some k) (sym same),
  (has.0, ap (λ (o : Option Bool). stands_by node o b) live ∙ is ∙ ap (λ (q : Result Stand HomeFail). Some q) has.1, has.2),
)

pub some_finds : (r : Result Live HomeFail) (is : Result Found HomeFail) → Finds found_of r is → Finds seen (some_live r) is
some_finds (Ok l) is h = h
some_finds (Err e) is h = h

pub some_is_live : (node : ℕ) (b : Bytes4) (r : Result Live HomeFail) → IfOk r (λ l. IsLive node b (Some l)) → IfOk (some_live r) (λ l. IsLive node b l)
some_is_live node b (Ok l) h = h
some_is_live node b (Err e) h = h

pub some_holds : (P : Live → Type 0) (r : Result Live HomeFail) → IfOk r P → IfOk (some_live r) (λ l. IfSome l P)
some_holds P (Ok l) h = h
some_holds P (Err e) h = h

pub some_err : (r : Result Live HomeFail) (e : HomeFail) → some_live r ≡ Err e → r ≡ Err e
some_err (Ok l) e is = ok_err _ _ _ is
some_err (Err f) e is = ap (λ (g : HomeFail). Err g) (err_same f e is)

pub ready_first : (r : Result Live HomeFail) (a z : Option (List ℕ)) → IfOk r (λ l. l.second ≡ false) → IfOk r (λ l. IfSome a (StandsFor l.journal)) → IfOk r (λ l. IsReady l.second a z l.journal)
ready_first (Ok l) a z is ready = ready_false l.second a z l.journal is ready
ready_first (Err e) a z is ready = tt

pub ready_second : (r : Result Live HomeFail) (a z : Option (List ℕ)) → IfOk r (λ l. l.second ≡ true) → IfOk r (λ l. IfSome z (StandsFor l.journal)) → IfOk r (λ l. IsReady l.second a z l.journal)
ready_second (Ok l) a z is ready = ready_true l.second a z l.journal is ready
ready_second (Err e) a z is ready = tt

pub finds_as : (q r : Result (Option Live) HomeFail) (is : Result Found HomeFail) → q ≡ r → Finds seen r is → Finds seen q is
finds_as q r is same h = subst (λ (x : Result (Option Live) HomeFail). Finds seen x is) (sym same) h

pub live_as : (q r : Result (Option Live) HomeFail) (node : ℕ) (b : Bytes4) → q ≡ r → IfOk r (λ l. IsLive node b l) → IfOk q (λ l. IsLive node b l)
live_as q r node b same h = subst (λ (x : Result (Option Live) HomeFail). IfOk x (λ l. IsLive node b l)) (sym same) h

pub holds_as : (q r : Result (Option Live) HomeFail) (P : Live → Type 0) → q ≡ r → IfOk r (λ l. IfSome l P) → IfOk q (λ l. IfSome l P)
holds_as q r P same h = subst (λ (x : Result (Option Live) HomeFail). IfOk x (λ l. IfSome l P)) (sym same) h

pub found_at : (node : ℕ) (c : Bytes4) (o : Option (Result Stand HomeFail)) → stands node c ≡ o → found node c ≡ found_by (live_slot (choice c.j0 c.j1)) o
unfolding found
found_at node c o is = ap (λ (r : Option (Result Stand HomeFail)). found_by (live_slot (choice c.j0 c.j1)) r) is

pub blank_finds : (node : ℕ) (b : Bytes4) → choice b.j0 b.j1 ≡ None → found node b ≡ Ok blank_found
blank_finds node b none = found_at node b None (ap (λ (o : Option Bool). stands_by node o b) none)

pub choice_of : (o p : Option (List ℕ)) (a z : List ℕ) (live : Option Bool) → o ≡ Some a → p ≡ Some z → IfSome o (λ xs. IfSome p (λ ys. live ≡ choice xs ys)) → live ≡ choice a z
choice_of o p a z live first second told = some_of p (λ ys. live ≡ choice a ys) z (some_of o (λ xs. IfSome p (λ ys. live ≡ choice xs ys)) a told first) second

pub on_ok_all : {T E : Type 0} {P : Type 0} (r : Result T E) → P → OnOk r P
on_ok_all (Ok x) p = p
on_ok_all (Err e) p = tt

pub quiet_as : (q : Result (Option Live) HomeFail) (r : Result Live HomeFail) (P : Type 0) → q ≡ some_live r → OnOk r P → OnOk q P
quiet_as q r P same h = subst (λ (x : Result (Option Live) HomeFail). OnOk x P) (sym same) (by_case r h)
  where
    by_case : (r : Result Live HomeFail) → OnOk r P → OnOk (some_live r) P
    by_case (Ok l) h = h
    by_case (Err e) h = tt

pub rose_from : (a b c : ℕ) → b ≡ a → Rose b c → Rose a c
rose_from a b c same rose = subst (λ (x : ℕ). Rose x c) same rose
