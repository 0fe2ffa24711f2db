-- Lists of records and their bytes.
use Rattle.std.proofs.Common.{◌≡◌, ℕ, zero, suc, ◌+◌, ◌-◌, ◌^◌, ◌<◌, ◌≤◌, Bool, true, false, List, [], ◌∷◌, ◌++◌, length, take, drop, map, Option, Some, None, Result, Ok, Err, refl, sym, ap, subst, ◌∙◌, append-nil, append_assoc, arith, length-append, slice_get}
use Rattle.std.proofs.lemmas.Grind.{common_steps}
use Rattle.std.specs.Prelude.{◌||◌, OnOk, OnErr, IfSome, is_some, nat_le}
use Rattle.std.proofs.lemmas.Bool.Decides.{nat_tests}
use Rattle.std.specs.Result.{is_err}
use Rattle.std.specs.Int.{w8, w64}
use Rattle.std.specs.List.{list_any, concat}
use Rattle.std.proofs.lemmas.List.Concat.{flat_map-cons}
use Rattle.std.proofs.lemmas.List.Folds.{list_any-append, concat-append}
use Rattle.std.proofs.lemmas.List.{map_push, take-map, take_at, map-append}
use Rattle.kp_jute.specs.Form.{Place, front}
use Rattle.kp_jute.specs.Jute.{unsigned}
use Rattle.kp_model.specs.LogEntry.{LogEntry}
use Rattle.kp_model.specs.declared.memory.NoMemory.{NoMemory}
use Rattle.kp_entry.specs.declared.record.Record.{Record}
use Rattle.kp_entry.specs.declared.record.Record.TheVariants as record_
use Rattle.kp_entry.specs.declared.kinds.RecordKind.TheVariants as record_kind
use Rattle.kp_entry.specs.declared.records.Base.{Base}
use Rattle.kp_entry.specs.Entries.{entries}
use Rattle.kp_entry.specs.Heads.{appended, part_of, voted, cut_off}
use Rattle.kp_entry.specs.Records.{records, spelled, is_base, has_base, IsRecord, IsRun, Added}
use Rattle.kp_entry.specs.Spellings.{read_or, record_of, entry_of, Spells, AllSpell, IsEntryBytes, IsRecordBytes, IsBaseOf, listed, FitsBase, AreRecords}
use Rattle.kp_entry.proofs.Spelled.{record_again, entry_again, all_push, all_take}

-- ---- records with bytes

pub fits_record : (r : Record) → records.Fits r → IsRecord r
fits_record (record_.Vote term vote) f = f
fits_record (record_.Boot boot) f = f
fits_record (record_.Append entry) f = f
fits_record (record_.Truncate last) f = f
fits_record (record_.Base index term) f = absurd (cc f.1)

pub fits_no_base : (r : Record) → records.Fits r → is_base r ≡ false
fits_no_base (record_.Vote term vote) f = refl
fits_no_base (record_.Boot boot) f = refl
fits_no_base (record_.Append entry) f = refl
fits_no_base (record_.Truncate last) f = refl
fits_no_base (record_.Base index term) f = absurd (cc f.1)

pub record_fits : (r : Record) → is_base r ≡ false → IsRecord r → records.Fits r
record_fits (record_.Vote term vote) e f = f
record_fits (record_.Boot boot) e f = f
record_fits (record_.Append entry) e f = f
record_fits (record_.Truncate last) e f = f
record_fits (record_.Base index term) e f = absurd (cc e)

read_again : (s : List ℕ) → (h : IsRecordBytes s) → record_of s ≡ h.0
read_again s h = ap record_of h.2 ∙ record_again h.0 h.1

pub spelled_fits : (s : List ℕ) → IsRecordBytes s → records.Fits (record_of s)
spelled_fits s h = subst records.Fits (sym (read_again s h)) h.1

pub spelled_no_base : (s : List ℕ) → IsRecordBytes s → is_base (record_of s) ≡ false
spelled_no_base s h = fits_no_base (record_of s) (spelled_fits s h)

pub spelled_back : (s : List ℕ) → IsRecordBytes s → s ≡ records.spell (record_of s)
spelled_back s h = h.2 ∙ ap records.spell (sym (read_again s h))

-- ---- lists of them

spelled_cons : (r : Record) (rs : List Record) → spelled (r ∷ rs) ≡ records.spell r ++ spelled rs
unfolding spelled
spelled_cons r rs = flat_map-cons records.spell r rs

spelled_nil : spelled [] ≡ []
unfolding spelled
spelled_nil = refl

spelled_base : (b : Base) → spelled (record_.Base b.index b.term ∷ []) ≡ []
unfolding spelled
spelled_base b = refl

or_false : (b c : Bool) → b ≡ false → c ≡ false → (b || c) ≡ false
or_false true c e f = absurd cc
or_false false c e f = f

pub none_based : (ss : List (List ℕ)) → AllSpell records ss → has_base (map record_of ss) ≡ false
none_based [] h = refl
none_based (s ∷ ss) h = or_false (is_base (record_of s)) (has_base (map record_of ss)) (spelled_no_base s h.0) (none_based ss h.1)

or_true : (b : Bool) → (b || true) ≡ true
or_true true = refl
or_true false = refl

based_last : (xs : List Record) (b : Base) → has_base (xs ++ record_.Base b.index b.term ∷ []) ≡ true
based_last [] b = refl
based_last (x ∷ xs) b = ap (λ (c : Bool). is_base x || c) (based_last xs b) ∙ or_true (is_base x)

clash : {A : Type 0} (b : Bool) → b ≡ true → b ≡ false → A
clash true t f = absurd cc
clash false t f = absurd cc

-- without a base there is none
pub no_base : (ss : List (List ℕ)) (base : Option Base) → has_base (listed ss base) ≡ false → base ≡ None
no_base ss None e = refl
no_base ss (Some b) e = clash (has_base (map record_of ss ++ record_.Base b.index b.term ∷ [])) (based_last (map record_of ss) b) e

-- the bytes
spelled_all : (ss : List (List ℕ)) → AllSpell records ss → spelled (map record_of ss) ≡ concat ss
spelled_all [] h = spelled_nil
spelled_all (s ∷ ss) h = spelled_cons (record_of s) (map record_of ss) ∙ ap (λ (b : List ℕ). b ++ spelled (map record_of ss)) (sym (spelled_back s h.0)) ∙ ap (λ (b : List ℕ). s ++ b) (spelled_all ss h.1)

spelled_based : (xs : List Record) (b : Base) → spelled (xs ++ record_.Base b.index b.term ∷ []) ≡ spelled xs
spelled_based [] b = spelled_base b ∙ sym spelled_nil
spelled_based (x ∷ xs) b = spelled_cons x (xs ++ record_.Base b.index b.term ∷ []) ∙ ap (λ (t : List ℕ). records.spell x ++ t) (spelled_based xs b) ∙ sym (spelled_cons x xs)

pub spelled_listed : (ss : List (List ℕ)) (base : Option Base) → AreRecords ss base → spelled (listed ss base) ≡ concat ss
spelled_listed ss None h = spelled_all ss h.spelled
spelled_listed ss (Some b) h = spelled_based (map record_of ss) b ∙ spelled_all ss h.spelled

-- a run
run_with : (ss : List (List ℕ)) (last : List Record) → AllSpell records ss → IsRun last → IsRun (map record_of ss ++ last)
run_with [] last h run = run
run_with (s ∷ ss) last h run = (fits_record (record_of s) (spelled_fits s h.0), (λ is. clash (is_base (record_of s)) is (spelled_no_base s h.0)), run_with ss last h.1 run)

pub run_listed : (ss : List (List ℕ)) (base : Option Base) → AreRecords ss base → IsRun (listed ss base)
run_listed ss None h = subst IsRun (append-nil (map record_of ss)) (run_with ss [] h.spelled tt)
run_listed ss (Some b) h = run_with ss (record_.Base b.index b.term ∷ []) h.spelled (h.base_fits, (λ _. refl), tt)

-- ---- one more

pub pushed_listed : (ss : List (List ℕ)) (s : List ℕ) → map record_of (ss ++ s ∷ []) ≡ map record_of ss ++ record_of s ∷ []
pushed_listed ss s = map_push record_of ss s

concat_push : (ss : List (List ℕ)) (s : List ℕ) → length (concat (ss ++ s ∷ [])) ≡ length (concat ss) + length s
concat_push ss s = ap (λ (b : List ℕ). length b) (concat-append ss (s ∷ [])) ∙ length-append (concat ss) (s ++ []) ∙ omega (arith, length-append s [])

pub append_none : (xs : List ℕ) → xs ++ [] ≡ xs
append_none xs = append-nil xs

pub records_pushed : (r : Result (Unit {0}) NoMemory) (ss new : List (List ℕ)) (s : List ℕ) (base : Option Base) → AreRecords ss base → IsRecordBytes s → length s ≤ 4294967295 - length (concat ss) → OnOk r (new ≡ ss ++ s ∷ []) → OnErr r (new ≡ ss) → AreRecords new base
records_pushed (Ok u) ss new s base h one few ok err =
    let before : length (concat ss) < 2 ^ 32 = h.small in
    subst (λ (x : List (List ℕ)). AreRecords x base) (sym ok) (record { spelled = all_push records ss s h.spelled one; small = omega (arith, few, before, concat_push ss s); base_fits = h.base_fits })
records_pushed (Err e) ss new s base h one few ok err = subst (λ (x : List (List ℕ)). AreRecords x base) (sym err) h

-- ---- what is looked up

take_front : {A : Type 0} (n : ℕ) (xs ys : List A) → n ≤ length xs → take n (xs ++ ys) ≡ take n xs
take_front zero xs ys le = refl
take_front (suc n) [] ys le = absurd (omega (arith, le))
take_front {A} (suc n) (x ∷ xs) ys le = ap (λ (zs : List A). x ∷ zs) (take_front n xs ys (omega (arith, le)))

len_mapped : (ss : List (List ℕ)) → length (map record_of ss) ≡ length ss
len_mapped [] = refl
len_mapped (s ∷ ss) = ap (λ (n : ℕ). suc n) (len_mapped ss)

pub take_listed : (n : ℕ) (ss : List (List ℕ)) (base : Option Base) → n ≤ length ss → map record_of (take n ss) ≡ take n (listed ss base)
take_listed n ss None le = sym (take-map record_of n ss)
take_listed n ss (Some b) le = sym (take-map record_of n ss) ∙ sym (take_front n (map record_of ss) (record_.Base b.index b.term ∷ []) (omega (arith, le, len_mapped ss)))

concat_take : (n : ℕ) (ss : List (List ℕ)) → length (concat (take n ss)) ≤ length (concat ss)
concat_take zero ss = omega arith
concat_take (suc n) [] = omega arith
concat_take (suc n) (s ∷ ss) = omega (arith, concat_take n ss, length-append s (concat (take n ss)), length-append s (concat ss))

pub records_taken : (n : ℕ) (ss new : List (List ℕ)) (base : Option Base) → AreRecords ss base → new ≡ take n ss → AreRecords new None
records_taken n ss new base h is =
    let before : length (concat ss) < 2 ^ 32 = h.small in
    subst (λ (x : List (List ℕ)). AreRecords x None) (sym is) (record { spelled = all_take records n ss h.spelled; small = omega (arith, before, concat_take n ss); base_fits = tt })

pub has_listed : (ss : List (List ℕ)) (base : Option Base) → AreRecords ss base → has_base (listed ss base) ≡ is_some base
has_listed ss None h = none_based ss h.spelled
has_listed ss (Some b) h = based_last (map record_of ss) b

there_in : (ss : List (List ℕ)) (last : List Record) (k : ℕ) (b : List ℕ) → Some b ≡ slice_get ss k → slice_get (map record_of ss ++ last) k ≡ Some (record_of b)
there_in [] last k b is = absurd (cc is)
there_in (s ∷ ss) last zero b is = let same : s ≡ b = cc is in ap (λ (x : List ℕ). Some (record_of x)) same
there_in (s ∷ ss) last (suc k) b is = there_in ss last k b is

pub list_at : (ss : List (List ℕ)) (base : Option Base) (k : ℕ) (b : List ℕ) → Some b ≡ slice_get ss k → slice_get (listed ss base) k ≡ Some (record_of b)
list_at ss None k b is = ap (λ (rs : List Record). slice_get rs k) (sym (append-nil (map record_of ss))) ∙ there_in ss [] k b is
list_at ss (Some base) k b is = there_in ss (record_.Base base.index base.term ∷ []) k b is

past_in : (ss : List (List ℕ)) (last : List Record) (k : ℕ) → ◌≡◌ {A = Option (List ℕ)} None (slice_get ss k) → slice_get last (k - length ss) ≡ slice_get (map record_of ss ++ last) k
past_in [] last k is = ap (λ (n : ℕ). slice_get last n) (omega arith)
past_in (s ∷ ss) last zero is = absurd (cc is)
past_in (s ∷ ss) last (suc k) is = let count : suc k - length (s ∷ ss) ≡ k - length ss = omega arith in ap (λ (n : ℕ). slice_get last n) count ∙ past_in ss last k is

pub list_past : (ss : List (List ℕ)) (base : Option Base) (k : ℕ) → ◌≡◌ {A = Option (List ℕ)} None (slice_get ss k) → slice_get (listed [] base) (k - length ss) ≡ slice_get (listed ss base) k
list_past ss None k is = past_in ss [] k is ∙ ap (λ (rs : List Record). slice_get rs k) (append-nil (map record_of ss))
list_past ss (Some b) k is = past_in ss (record_.Base b.index b.term ∷ []) k is

none_in : (ss : List (List ℕ)) (k : ℕ) → ◌≡◌ {A = Option (List ℕ)} None (slice_get ss k) → slice_get (map record_of ss) k ≡ None
none_in [] k is = refl
none_in (s ∷ ss) zero is = absurd (cc is)
none_in (s ∷ ss) (suc k) is = none_in ss k is

pub list_none : (ss : List (List ℕ)) (base : Option Base) (k : ℕ) → base ≡ None → ◌≡◌ {A = Option (List ℕ)} None (slice_get ss k) → slice_get (listed ss base) k ≡ None
list_none ss base k gone is = ap (λ (b : Option Base). slice_get (listed ss b) k) gone ∙ none_in ss k is

pub read_is : (b : List ℕ) (p : Place) (r : Record) (q : Place) → p ≡ front 0 b → records.read p ≡ Ok (r, q) → r ≡ record_of b
unfolding record_of
read_is b p r q at is = sym (ap (read_or (record_.Boot 0)) (ap (λ (x : Place). records.read x) (sym at) ∙ is))

-- ---- the record of an entry

tag_of_append : unsigned w8 3 ≡ 3 ∷ []
unfolding unsigned
tag_of_append = refl

append_spelled : (e : LogEntry) (b : List ℕ) → b ≡ entries.spell e → 3 ∷ b ≡ records.spell (record_.Append e)
append_spelled e b is = ap (λ (x : List ℕ). 3 ∷ x) is ∙ ap (λ (x : List ℕ). x ++ entries.spell e) (sym tag_of_append)

pub append_fits : (b : List ℕ) → IsEntryBytes b → IsRecordBytes (3 ∷ b)
append_fits b h = (record_.Append h.0, ((record_kind.Append, h.0), refl, ((omega arith, refl), h.1)), append_spelled h.0 b h.2)

pub append_read : (b : List ℕ) → IsEntryBytes b → record_of (3 ∷ b) ≡ record_.Append (entry_of b)
append_read b h =
    let read : entry_of b ≡ h.0 = ap entry_of h.2 ∙ entry_again h.0 h.1 in
    ap record_of (append_spelled h.0 b h.2) ∙ record_again (record_.Append h.0) ((record_kind.Append, h.0), refl, ((omega arith, refl), h.1)) ∙ ap (λ (e : LogEntry). record_.Append e) (sym read)

-- ---- the record that was written

pub no_base_of : (r : Record) (o : Option Base) → IsBaseOf r o → o ≡ None → is_base r ≡ false
no_base_of (record_.Vote term vote) o h e = refl
no_base_of (record_.Boot boot) o h e = refl
no_base_of (record_.Append entry) o h e = refl
no_base_of (record_.Truncate last) o h e = refl
no_base_of (record_.Base index term) None h e = absurd (h)
no_base_of (record_.Base index term) (Some b) h e = absurd (cc e)

pub was_written : (r : Record) (old out b : List ℕ) → is_base r ≡ false → Added r old out → old ≡ [] → b ≡ out → IsRecordBytes b
was_written r old out b plain a none is = (r, record_fits r plain a.fits, is ∙ a.added ∙ ap (λ (x : List ℕ). x ++ records.spell r) none)

pub written_record : (r : Record) (old out b : List ℕ) → is_base r ≡ false → Added r old out → old ≡ [] → b ≡ out → record_of b ≡ r
written_record r old out b plain a none is = ap record_of (is ∙ a.added ∙ ap (λ (x : List ℕ). x ++ records.spell r) none) ∙ record_again r (record_fits r plain a.fits)

-- ---- one list behind another, record by record

pub one_taken : {A : Type 0} (xs : List A) (i : ℕ) (x : A) → slice_get xs i ≡ Some x → take 1 (drop i xs) ≡ x ∷ []
one_taken [] i x is = absurd (cc is)
one_taken {A} (y ∷ xs) zero x is = let same : y ≡ x = cc is in ap (λ (z : A). z ∷ []) same
one_taken (y ∷ xs) (suc i) x is = one_taken xs i x is

drop_none : {A : Type 0} (n : ℕ) → drop {A = A} n [] ≡ []
drop_none zero = refl
drop_none (suc n) = refl

pub none_taken : {A : Type 0} (xs : List A) (i : ℕ) → slice_get xs i ≡ None → take 1 (drop i xs) ≡ []
none_taken {A} [] i is = ap (λ (ys : List A). take 1 ys) (drop_none i)
none_taken (y ∷ xs) zero is = absurd (cc is)
none_taken (y ∷ xs) (suc i) is = none_taken xs i is

take_next : {A : Type 0} (i : ℕ) (xs : List A) → take (suc i) xs ≡ take i xs ++ take 1 (drop i xs)
take_next zero [] = refl
take_next zero (x ∷ xs) = refl
take_next (suc i) [] = refl
take_next {A} (suc i) (x ∷ xs) = ap (λ (ys : List A). x ∷ ys) (take_next i xs)

pub taken_next : {A : Type 0} (i : ℕ) (xs : List A) → take (i + 1) xs ≡ take i xs ++ take 1 (drop i xs)
taken_next {A} i xs = let count : i + 1 ≡ suc i = omega arith in ap (λ (n : ℕ). take n xs) count ∙ take_next i xs

drop_front : {A : Type 0} (n : ℕ) (xs ys : List A) → n ≤ length xs → drop n (xs ++ ys) ≡ drop n xs ++ ys
drop_front zero xs ys le = refl
drop_front (suc n) [] ys le = absurd (omega (arith, le))
drop_front (suc n) (x ∷ xs) ys le = drop_front n xs ys (omega (arith, le))

len_taken : {A : Type 0} (n : ℕ) (xs : List A) → n ≤ length xs → length (take n xs) ≡ n
len_taken zero xs le = refl
len_taken (suc n) [] le = absurd (omega (arith, le))
len_taken (suc n) (x ∷ xs) le = ap (λ (m : ℕ). suc m) (len_taken n xs (omega (arith, le)))

pub part_next : (first i : ℕ) (es : List LogEntry) → first ≤ i → i < length es → appended (part_of first (i + 1) es) ≡ appended (part_of first i es) ++ appended (take 1 (drop i es))
part_next first i es le lt =
    ap (λ (xs : List LogEntry). appended (drop first xs)) (taken_next i es)
    ∙ ap appended (drop_front first (take i es) (take 1 (drop i es)) (omega (arith, le, len_taken i es (omega (arith, lt)))))
    ∙ map-append (λ (e : LogEntry). record_.Append e) (drop first (take i es)) (take 1 (drop i es))

all_dropped : {A : Type 0} (n : ℕ) (xs : List A) → length xs ≤ n → drop n xs ≡ []
all_dropped zero [] le = refl
all_dropped zero (x ∷ xs) le = absurd (omega (arith, le))
all_dropped (suc n) [] le = refl
all_dropped (suc n) (x ∷ xs) le = all_dropped n xs (omega (arith, le))

pub part_none : (first : ℕ) (es : List LogEntry) → first ≤ length es → appended (part_of first first es) ≡ []
part_none first es le = ap appended (all_dropped first (take first es) (omega (arith, len_taken first es le)))

pub whole_taken : {A : Type 0} (n : ℕ) (xs : List A) → length xs ≤ n → take n xs ≡ xs
whole_taken zero [] le = refl
whole_taken zero (x ∷ xs) le = absurd (omega (arith, le))
whole_taken (suc n) [] le = refl
whole_taken {A} (suc n) (x ∷ xs) le = ap (λ (ys : List A). x ∷ ys) (whole_taken n xs (omega (arith, le)))

in_parts : (xs ys : List Record) → has_base (xs ++ ys) ≡ (has_base xs || has_base ys)
in_parts xs ys = list_any-append is_base xs ys

pub open_behind : (xs ys new : List Record) → has_base xs ≡ false → has_base ys ≡ false → new ≡ xs ++ ys → has_base new ≡ false
open_behind xs ys new e f is = ap has_base is ∙ in_parts xs ys ∙ or_false (has_base xs) (has_base ys) e f

pub appended_open : (es : List LogEntry) → has_base (appended es) ≡ false
appended_open [] = refl
appended_open (e ∷ es) = appended_open es

not_first : (b c : Bool) → (b || c) ≡ false → (b ≡ false) × (c ≡ false)
not_first true c e = absurd cc
not_first false c e = (refl, e)

pub part_open : (i : ℕ) (rs : List Record) → has_base rs ≡ false → has_base (take 1 (drop i rs)) ≡ false
part_open i [] e = ap (λ (xs : List Record). has_base (take 1 xs)) (drop_none i)
part_open zero (r ∷ rs) e = or_false (is_base r) false (not_first (is_base r) (has_base rs) e).0 refl
part_open (suc i) (r ∷ rs) e = part_open i rs (not_first (is_base r) (has_base rs) e).1

pub more_added : (old done one next self new : List Record) → self ≡ old ++ done → new ≡ self ++ one → next ≡ done ++ one → new ≡ old ++ next
more_added old done one next self new so_far is all = is ∙ ap (λ (rs : List Record). rs ++ one) so_far ∙ append_assoc old done one ∙ ap (λ (rs : List Record). old ++ rs) (sym all)

pub is_undone : (old more self new : List Record) (len : ℕ) → len ≡ length old → self ≡ old ++ more → new ≡ self → take len new ≡ old
is_undone old more self new len is so_far same = ap (take len) (same ∙ so_far) ∙ take_at old more len (sym is)

pub was_ok : {P : Type 0} (r : Result (Unit {0}) NoMemory) → is_err r ≡ false → OnOk r P → P
was_ok (Ok u) e h = h
was_ok (Err x) e h = absurd cc

pub was_err : {P : Type 0} (r : Result (Unit {0}) NoMemory) → is_err r ≡ true → OnErr r P → P
was_err (Ok u) e h = absurd cc
was_err (Err x) e h = h

-- ---- the first records of a step

vote_fits : (t v : ℕ) → t ≤ 2 ^ 62 → v ≤ 7 → records.Fits (record_.Vote t v)
vote_fits t v small most =
    let one : nat_le t 4611686018427387904 ≡ true = grind (arith, nat_tests) in
    let two : nat_le v 7 ≡ true = grind (arith, nat_tests) in
    ((record_kind.Vote, (t, v)), refl, ((omega arith, refl), ((omega (arith, small), one), (omega (arith, most), two))))

cut_fits : (last : ℕ) → last ≤ 2 ^ 62 → records.Fits (record_.Truncate last)
cut_fits last small =
    let one : nat_le last 4611686018427387904 ≡ true = grind (arith, nat_tests) in
    ((record_kind.Truncate, last), refl, ((omega arith, refl), (omega (arith, small), one)))

spelled_one : (r : Record) → records.Fits r → AllSpell records (records.spell r ∷ [])
spelled_one r f = ((r, f, refl), tt)

voted_spelled : (v : Option (ℕ × ℕ)) → IfSome v (λ x. (x.0 ≤ 2 ^ 62) × (x.1 ≤ 7)) → AllSpell records (map records.spell (voted v)) × (map record_of (map records.spell (voted v)) ≡ voted v)
voted_spelled None h = (tt, refl)
voted_spelled (Some v) h = (spelled_one (record_.Vote v.0 v.1) (vote_fits v.0 v.1 h.0 h.1), ap (λ (r : Record). r ∷ []) (record_again (record_.Vote v.0 v.1) (vote_fits v.0 v.1 h.0 h.1)))

cut_spelled : (c : Option ℕ) → IfSome c (λ last. last ≤ 2 ^ 62) → AllSpell records (map records.spell (cut_off c)) × (map record_of (map records.spell (cut_off c)) ≡ cut_off c)
cut_spelled None h = (tt, refl)
cut_spelled (Some last) h = (spelled_one (record_.Truncate last) (cut_fits last h), ap (λ (r : Record). r ∷ []) (record_again (record_.Truncate last) (cut_fits last h)))

all_join : (xs ys : List (List ℕ)) → AllSpell records xs → AllSpell records ys → AllSpell records (xs ++ ys)
all_join [] ys h k = k
all_join (x ∷ xs) ys h k = (h.0, all_join xs ys h.1 k)

pub heads_hold : (none vs ss : List (List ℕ)) (v : Option (ℕ × ℕ)) (c : Option ℕ) → none ≡ [] → vs ≡ none ++ map records.spell (voted v) → ss ≡ vs ++ map records.spell (cut_off c) → IfSome v (λ x. (x.0 ≤ 2 ^ 62) × (x.1 ≤ 7)) → IfSome c (λ last. last ≤ 2 ^ 62) → length (concat (map records.spell (voted v))) ≤ 10 → length (concat (map records.spell (cut_off c))) ≤ 9 → AreRecords ss None × (listed ss None ≡ voted v ++ cut_off c)
heads_hold none vs ss v c empty one two hv hc lv lc =
    let is : ss ≡ map records.spell (voted v) ++ map records.spell (cut_off c) = two ∙ ap (λ (x : List (List ℕ)). x ++ map records.spell (cut_off c)) (one ∙ ap (λ (x : List (List ℕ)). x ++ map records.spell (voted v)) empty) in
    let len : length (concat (map records.spell (voted v) ++ map records.spell (cut_off c))) ≡ length (concat (map records.spell (voted v))) + length (concat (map records.spell (cut_off c))) = ap (λ (x : List ℕ). length x) (concat-append (map records.spell (voted v)) (map records.spell (cut_off c))) ∙ length-append (concat (map records.spell (voted v))) (concat (map records.spell (cut_off c))) in (
      subst (λ (x : List (List ℕ)). AreRecords x None) (sym is) (record { spelled = all_join _ _ (voted_spelled v hv).0 (cut_spelled c hc).0; small = omega (arith, len, lv, lc); base_fits = tt }),
      ap (λ (x : List (List ℕ)). map record_of x) is ∙ map-append record_of (map records.spell (voted v)) (map records.spell (cut_off c)) ∙ ap (λ (x : List Record). x ++ map record_of (map records.spell (cut_off c))) (voted_spelled v hv).1 ∙ ap (λ (x : List Record). voted v ++ x) (cut_spelled c hc).1,
    )

pub base_holds : (none ss : List (List ℕ)) (v : Option (ℕ × ℕ)) (b : Base) → none ≡ [] → ss ≡ none ++ map records.spell (voted v) → IfSome v (λ x. (x.0 ≤ 2 ^ 62) × (x.1 ≤ 7)) → length (concat (map records.spell (voted v))) ≤ 10 → b.index ≤ 2 ^ 62 → b.term ≤ 2 ^ 62 → AreRecords ss (Some b) × (listed ss (Some b) ≡ voted v ++ record_.Base b.index b.term ∷ [])
base_holds none ss v b empty one hv lv low small =
    let is : ss ≡ map records.spell (voted v) = one ∙ ap (λ (x : List (List ℕ)). x ++ map records.spell (voted v)) empty in
    let first : nat_le b.index 4611686018427387904 ≡ true = grind (arith, nat_tests) in
    let second : nat_le b.term 4611686018427387904 ≡ true = grind (arith, nat_tests) in (
      subst (λ (x : List (List ℕ)). AreRecords x (Some b)) (sym is) (record { spelled = (voted_spelled v hv).0; small = omega (arith, lv); base_fits = rw (first, second) refl }),
      ap (λ (x : List (List ℕ)). map record_of x ++ record_.Base b.index b.term ∷ []) is ∙ ap (λ (x : List Record). x ++ record_.Base b.index b.term ∷ []) (voted_spelled v hv).1,
    )

-- the strings of these records
one_byte : (n : ℕ) → n < 256 → unsigned w8 n ≡ n ∷ []
unfolding unsigned
one_byte n lt = grind (arith, common_steps)

pub vote_string : (head : List ℕ) (t v : ℕ) → head ≡ unsigned w8 1 ++ unsigned w64 t → v < 256 → head ++ v ∷ [] ≡ records.spell (record_.Vote t v)
vote_string head t v is lt = ap (λ (x : List ℕ). x ++ v ∷ []) is ∙ append_assoc (unsigned w8 1) (unsigned w64 t) (v ∷ []) ∙ ap (λ (x : List ℕ). unsigned w8 1 ++ (unsigned w64 t ++ x)) (sym (one_byte v lt))

pub cut_string : (head : List ℕ) (last : ℕ) → head ≡ unsigned w8 4 ++ unsigned w64 last → head ++ [] ≡ records.spell (record_.Truncate last)
cut_string head last is = append-nil head ∙ is

pub one_len : (s : List ℕ) (n : ℕ) → length s ≡ n → length (concat (s ∷ [])) ≤ n
one_len s n is = omega (arith, length-append s [], is)
