-- The bytes of entries and records, and what is read from them.
use Rattle.std.proofs.Common.{◌≡◌, ◌≤◌, ◌^◌, ℕ, zero, suc, ◌+◌, ◌<◌, List, [], ◌∷◌, ◌++◌, length, take, drop, map, refl, sym, ◌∙◌, ap, subst, arith, Option, Some, None, slice_get, Result, Ok, Err, true, append-nil, length-append}
use Rattle.std.specs.Prelude.{IfSome, OnOk, OnErr, option_map, nat_le}
use Rattle.std.proofs.lemmas.Bool.Decides.{nat_tests}
use Rattle.kp_model.specs.LogEntry.{LogEntry}
use Rattle.kp_jute.specs.declared.fault.JuteFail.{JuteFail}
use Rattle.kp_jute.specs.declared.fault.JuteFail.TheVariants as jute
use Rattle.kp_jute.specs.Form.{Place, Form, Wrote, front, IsOfBytes, Fails}
use Rattle.kp_jute.proofs.Combined.{ok_is}
use Rattle.kp_jute.specs.Jute.{unsigned_longs}
use Rattle.kp_jute.proofs.Numbers.{unsigned_longs_lawful}
use Rattle.kp_entry.specs.declared.record.Record.{Record}
use Rattle.kp_entry.specs.declared.record.Record.TheVariants as record_
use Rattle.kp_model.specs.declared.entry.Body.TheVariants as body
use Rattle.kp_model.specs.declared.memory.NoMemory.{NoMemory}
use Rattle.kp_entry.specs.Fields.{numbers}
use Rattle.kp_entry.specs.Entries.{bodies, entries}
use Rattle.kp_entry.specs.Records.{records}
use Rattle.kp_entry.specs.Spellings.{read_or, entry_of, record_of, Spells, AllSpell, IsEntryBytes, IsRecordBytes, AreEntries}
use Rattle.kp_entry.proofs.EntryLaws.{entries_lawful}
use Rattle.kp_entry.proofs.RecordLaws.{records_lawful}

-- what is spelled is read again
pub entry_again : (e : LogEntry) → entries.Fits e → entry_of (entries.spell e) ≡ e
unfolding entry_of
entry_again e fits = ap (λ b. read_or (record { term = 0; time = 0; body = body.Noop }) (entries.read (front 0 b))) (sym (append-nil (entries.spell e))) ∙ ap (read_or (record { term = 0; time = 0; body = body.Noop })) (entries_lawful.again e 0 [] fits)

pub record_again : (r : Record) → records.Fits r → record_of (records.spell r) ≡ r
unfolding record_of
record_again r fits = ap (λ b. read_or (record_.Boot 0) (records.read (front 0 b))) (sym (append-nil (records.spell r))) ∙ ap (read_or (record_.Boot 0)) (records_lawful.again r 0 [] fits)

-- ---- an entry's term is the first field

term_first : (bytes : List ℕ) → IsEntryBytes bytes → (q : Place) × (unsigned_longs.read (front 0 bytes) ≡ Ok ((entry_of bytes).term, q))
term_first bytes h =
    let e : LogEntry = h.0 in
    let more : List ℕ = numbers.spell e.time ++ bodies.spell e.body in
    let q : Place = front (0 + length (unsigned_longs.spell e.term)) more in
    let term : (entry_of bytes).term ≡ e.term = ap (λ b. (entry_of b).term) h.2 ∙ ap (λ (x : LogEntry). x.term) (entry_again e h.1) in
    (q, ap (λ b. unsigned_longs.read (front 0 b)) h.2 ∙ unsigned_longs_lawful.again e.term 0 more h.1.0.0 ∙ ap (λ (t : ℕ). Ok (t, q)) (sym term))

pub term_is : (bytes : List ℕ) (p : Place) (t : ℕ) (q : Place) → IsEntryBytes bytes → p ≡ front 0 bytes → unsigned_longs.read p ≡ Ok (t, q) → t ≡ (entry_of bytes).term
term_is bytes p t q h at read =
    let f = term_first bytes h in
    ap (λ (x : ℕ × Place). x.0) (ok_is (t, q) ((entry_of bytes).term, f.0) (sym read ∙ ap (λ (x : Place). unsigned_longs.read x) at ∙ f.1))

not_read : (e : JuteFail) (r : Result (ℕ × Place) JuteFail) (x : ℕ × Place) → r ≡ Ok x → IsOfBytes e → Fails e r → ⊥
not_read jute.NoMemory r x is of f = of
not_read (jute.Short at) r x is of f = let clash : Ok x ≡ Err (jute.Short at) = sym is ∙ f in absurd (cc clash)
not_read (jute.BadLength at) r x is of f = let clash : Ok x ≡ Err (jute.BadLength at) = sym is ∙ f in absurd (cc clash)
not_read (jute.BadByte at) r x is of f = let clash : Ok x ≡ Err (jute.BadByte at) = sym is ∙ f in absurd (cc clash)

pub term_there : (bytes : List ℕ) (p : Place) (e : JuteFail) → IsEntryBytes bytes → p ≡ front 0 bytes → IsOfBytes e → Fails e (unsigned_longs.read p) → ⊥
term_there bytes p e h at of f = let g = term_first bytes h in not_read e (unsigned_longs.read p) ((entry_of bytes).term, g.0) (ap (λ (x : Place). unsigned_longs.read x) at ∙ g.1) of f

pub fits_term : (e : LogEntry) → entries.Fits e → e.term ≤ 2 ^ 62
fits_term e fits = let test : nat_le e.term 4611686018427387904 ≡ true = fits.0.1 in let le : e.term ≤ 4611686018427387904 = grind (arith, nat_tests) in le

pub term_small : (bytes : List ℕ) → IsEntryBytes bytes → (entry_of bytes).term ≤ 2 ^ 62
term_small bytes h =
    let read : entry_of bytes ≡ h.0 = ap entry_of h.2 ∙ entry_again h.0 h.1 in
    subst (λ (x : LogEntry). x.term ≤ 2 ^ 62) (sym read) (fits_term h.0 h.1)

-- ---- strings that are all spellings

pub all_push : {A : Type 0} (f : Form A) (ss : List (List ℕ)) (s : List ℕ) → AllSpell f ss → Spells f s → AllSpell f (ss ++ s ∷ [])
all_push f [] s hs h = (h, tt)
all_push f (t ∷ ss) s hs h = (hs.0, all_push f ss s hs.1 h)

pub all_take : {A : Type 0} (f : Form A) (n : ℕ) (ss : List (List ℕ)) → AllSpell f ss → AllSpell f (take n ss)
all_take f zero ss hs = tt
all_take f (suc n) [] hs = tt
all_take f (suc n) (s ∷ ss) hs = (hs.0, all_take f n ss hs.1)

pub one_of : {A : Type 0} (f : Form A) (k : ℕ) (ss : List (List ℕ)) (s : List ℕ) → AllSpell f ss → slice_get ss k ≡ Some s → Spells f s
one_of f k [] s hs is = absurd (cc is)
one_of f zero (t ∷ ss) s hs is = let same : t ≡ s = cc is in subst (Spells f) same hs.0
one_of f (suc k) (t ∷ ss) s hs is = one_of f k ss s hs.1 is

-- ---- of entries

-- each string is the spelling of its entry
pub spelled_at : (k : ℕ) (ss : List (List ℕ)) → AllSpell entries ss → slice_get ss k ≡ option_map entries.spell (slice_get (map entry_of ss) k)
spelled_at k [] hs = refl
spelled_at zero (s ∷ ss) hs = let h = hs.0 in ap Some (h.2 ∙ ap entries.spell (sym (entry_again h.0 h.1)) ∙ ap (λ b. entries.spell (entry_of b)) (sym h.2))
spelled_at (suc k) (s ∷ ss) hs = spelled_at k ss hs.1

pub fits_at : (k : ℕ) (ss : List (List ℕ)) → AllSpell entries ss → IfSome (slice_get (map entry_of ss) k) entries.Fits
fits_at k [] hs = tt
fits_at zero (s ∷ ss) hs = let h = hs.0 in subst entries.Fits (sym (ap entry_of h.2 ∙ entry_again h.0 h.1)) h.1
fits_at (suc k) (s ∷ ss) hs = fits_at k ss hs.1

-- bytes that spell the entry of a look-up are its bytes, and it is read from them
bytes_of_some : (b : List ℕ) (o : Option LogEntry) → Some b ≡ option_map entries.spell o → IfSome o entries.Fits → IsEntryBytes b × (o ≡ Some (entry_of b))
bytes_of_some b None is fits = absurd (cc is)
bytes_of_some b (Some e) is fits =
    let same : b ≡ entries.spell e = cc is in
    ((e, fits, same), ap Some (sym (ap entry_of same ∙ entry_again e fits)))

pub bytes_there : (b : List ℕ) (o : Option LogEntry) → Some b ≡ option_map entries.spell o → IfSome o entries.Fits → IsEntryBytes b
bytes_there b o is fits = (bytes_of_some b o is fits).0

pub entry_there : (b : List ℕ) (o : Option LogEntry) → Some b ≡ option_map entries.spell o → IfSome o entries.Fits → o ≡ Some (entry_of b)
entry_there b o is fits = (bytes_of_some b o is fits).1

pub none_there : (o : Option LogEntry) → ◌≡◌ {A = Option (List ℕ)} None (option_map entries.spell o) → o ≡ None
none_there None is = refl
none_there (Some e) is = absurd (cc is)

pub some_entry : (b : List ℕ) (t : ℕ) (o : Option LogEntry) → Some b ≡ option_map entries.spell o → IfSome o entries.Fits → t ≡ (entry_of b).term → Some t ≡ option_map (λ e. e.term) o
some_entry b t o is fits term = ap Some term ∙ sym (ap (λ (x : Option LogEntry). option_map (λ e. e.term) x) (entry_there b o is fits))

-- ---- one entry more

pub ok_then : {P Q : Type 0} (r : Result (Unit {0}) NoMemory) → (P → Q) → OnOk r P → OnOk r Q
ok_then (Ok u) f p = f p
ok_then (Err e) f p = tt

pub written : (b out old : List ℕ) (e : LogEntry) → Wrote entries e old out → old ≡ [] → b ≡ out → b ≡ entries.spell e
written b out old e w none is = is ∙ w.added ∙ ap (λ (x : List ℕ). x ++ entries.spell e) none

pub written_entry : (b out old : List ℕ) (e : LogEntry) → Wrote entries e old out → old ≡ [] → b ≡ out → entry_of b ≡ e
written_entry b out old e w none is = ap entry_of (written b out old e w none is) ∙ entry_again e w.fits

pub entries_pushed : (r : Result (Unit {0}) NoMemory) (ss new : List (List ℕ)) (s : List ℕ) → AreEntries ss → IsEntryBytes s → length ss < 4294967295 → OnOk r (new ≡ ss ++ s ∷ []) → OnErr r (new ≡ ss) → AreEntries new
entries_pushed (Ok u) ss new s h one few ok err = subst AreEntries (sym ok) (record { spelled = all_push entries ss s h.spelled one; few = omega (arith, few, length-append ss (s ∷ [])) })
entries_pushed (Err e) ss new s h one few ok err = subst AreEntries (sym err) h
