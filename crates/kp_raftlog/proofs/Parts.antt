-- Parts of lists of entries, and the strings that spell them.
use Rattle.std.proofs.Common.{◌≡◌, ℕ, zero, suc, ◌+◌, ◌-◌, ◌<◌, ◌≤◌, List, [], ◌∷◌, ◌++◌, length, take, drop, map, refl, sym, ◌∙◌, ap, subst, arith, Option, Some, None, slice_get, append_assoc, append-nil, Bool, true, false}
use Rattle.std.specs.Prelude.{option_map, IfSome, nat_eq}
use Rattle.std.specs.List.{AllByRecursion}
use Rattle.std.proofs.lemmas.Bool.Decides.{nat_tests}
use Rattle.std.proofs.lemmas.List.{map-append}
use Rattle.kp_model.specs.LogEntry.{LogEntry}
use Rattle.kp_entry.specs.Entries.{entries}
use Rattle.kp_entry.specs.Heads.{part_of}
use Rattle.kp_entry.specs.Log.{batch}
use Rattle.kp_entry.specs.Spellings.{entry_of, AllSpell}
use Rattle.kp_entry.proofs.Spelled.{entry_again}
use Rattle.kp_raftlog.specs.Kept.{total}
use Rattle.kp_raftlog.proofs.Totals.{len_taken, all_dropped}

pub all_drop : (n : ℕ) (ss : List (List ℕ)) → AllSpell entries ss → AllSpell entries (drop n ss)
all_drop zero ss hs = hs
all_drop (suc n) [] hs = tt
all_drop (suc n) (s ∷ ss) hs = all_drop n ss hs.1

pub all_append : (xs ys : List (List ℕ)) → AllSpell entries xs → AllSpell entries ys → AllSpell entries (xs ++ ys)
all_append [] ys hx hy = hy
all_append (x ∷ xs) ys hx hy = (hx.0, all_append xs ys hx.1 hy)

-- ---- the strings that spell entries

pub spelled_entries : (es : List LogEntry) → AllByRecursion entries.Fits es → AllSpell entries (map entries.spell es)
spelled_entries [] h = tt
spelled_entries (e ∷ es) h = ((e, h.0, refl), spelled_entries es h.1)

pub spelled_read : (es : List LogEntry) → AllByRecursion entries.Fits es → map entry_of (map entries.spell es) ≡ es
spelled_read [] h = refl
spelled_read (e ∷ es) h = ap (λ (x : LogEntry). x ∷ map entry_of (map entries.spell es)) (entry_again e h.0) ∙ ap (λ (xs : List LogEntry). e ∷ xs) (spelled_read es h.1)

pub spelled_len : (es : List LogEntry) → length (map entries.spell es) ≡ length es
spelled_len [] = refl
spelled_len (e ∷ es) = ap (λ (n : ℕ). suc n) (spelled_len es)

-- ---- one entry further

take_next : {A : Type 0} (i : ℕ) (xs : List A) (x : A) → slice_get xs i ≡ Some x → take (suc i) xs ≡ take i xs ++ x ∷ []
take_next i [] x is = absurd (cc is)
take_next {A} zero (y ∷ xs) x is = let same : y ≡ x = cc is in ap (λ (z : A). z ∷ []) same
take_next {A} (suc i) (y ∷ xs) x is = ap (λ (ys : List A). y ∷ ys) (take_next i xs x is)

pub next_taken : {A : Type 0} (i : ℕ) (xs : List A) (x : A) → slice_get xs i ≡ Some x → take (i + 1) xs ≡ take i xs ++ x ∷ []
next_taken {A} i xs x is = let count : i + 1 ≡ suc i = omega arith in ap (λ (n : ℕ). take n xs) count ∙ take_next i xs x is

drop_front : {A : Type 0} (n : ℕ) (xs ys : List A) → n ≤ length xs → drop n (xs ++ ys) ≡ drop n xs ++ ys
drop_front zero xs ys le = refl
drop_front (suc n) [] ys le = absurd (omega (arith, le))
drop_front (suc n) (x ∷ xs) ys le = drop_front n xs ys (omega (arith, le))

pub part_next : (first i : ℕ) (es : List LogEntry) (e : LogEntry) → first ≤ i → i < length es → slice_get es i ≡ Some e → part_of first (i + 1) es ≡ part_of first i es ++ e ∷ []
part_next first i es e le lt is = ap (λ (xs : List LogEntry). drop first xs) (next_taken i es e is) ∙ drop_front first (take i es) (e ∷ []) (omega (arith, le, len_taken i es (omega (arith, lt))))

pub part_none : (first : ℕ) (es : List LogEntry) → first ≤ length es → part_of first first es ≡ []
part_none first es le = all_dropped first (take first es) (omega (arith, len_taken first es le))

len_dropped : {A : Type 0} (n : ℕ) (xs : List A) → length (drop n xs) ≡ length xs - n
len_dropped zero xs = omega arith
len_dropped (suc n) [] = omega arith
len_dropped (suc n) (x ∷ xs) = omega (arith, len_dropped n xs)

pub part_len : (first until : ℕ) (es : List LogEntry) → until ≤ length es → length (part_of first until es) ≡ until - first
part_len first until es le = omega (arith, len_dropped first (take until es), len_taken until es le)

total_append : (xs ys : List LogEntry) → total (xs ++ ys) ≡ total xs + total ys
total_append [] ys = omega arith
total_append (x ∷ xs) ys = omega (arith, total_append xs ys)

pub total_next : (first i : ℕ) (es : List LogEntry) (e : LogEntry) → first ≤ i → i < length es → slice_get es i ≡ Some e → total (part_of first (i + 1) es) ≡ total (part_of first i es) + length (entries.spell e)
total_next first i es e le lt is = ap total (part_next first i es e le lt is) ∙ total_append (part_of first i es) (e ∷ []) ∙ omega arith

none_of : (n : ℕ) → drop {A = LogEntry} n [] ≡ []
none_of zero = refl
none_of (suc n) = refl

-- the part up to a place is the beginning of the part up to a later one
total_grows : (first i until : ℕ) (es : List LogEntry) → i ≤ until → total (part_of first i es) ≤ total (part_of first until es)
total_grows first zero until es le = omega (arith, ap total (none_of first))
total_grows zero (suc i) zero es le = absurd (omega (arith, le))
total_grows (suc first) (suc i) zero es le = absurd (omega (arith, le))
total_grows zero (suc i) (suc until) [] le = omega arith
total_grows zero (suc i) (suc until) (x ∷ es) le = omega (arith, total_grows zero i until es (omega (arith, le)))
total_grows (suc first) (suc i) (suc until) [] le = omega arith
total_grows (suc first) (suc i) (suc until) (x ∷ es) le = total_grows first i until es (omega (arith, le))

pub total_within : (first i until : ℕ) (es : List LogEntry) (e : LogEntry) → first ≤ i → i < until → until ≤ length es → slice_get es i ≡ Some e → total (part_of first i es) + length (entries.spell e) ≤ total (part_of first until es)
total_within first i until es e le lt to is = omega (arith, total_next first i es e le (omega (arith, lt, to)) is, total_grows first (i + 1) until es (omega (arith, lt)))

all_push : (es : List LogEntry) (e : LogEntry) → AllByRecursion entries.Fits es → entries.Fits e → AllByRecursion entries.Fits (es ++ e ∷ [])
all_push [] e h f = (f, tt)
all_push (x ∷ es) e h f = (h.0, all_push es e h.1 f)

pub fits_next : (first i : ℕ) (es : List LogEntry) (e : LogEntry) → first ≤ i → i < length es → slice_get es i ≡ Some e → AllByRecursion entries.Fits (part_of first i es) → entries.Fits e → AllByRecursion entries.Fits (part_of first (i + 1) es)
fits_next first i es e le lt is h f = subst (AllByRecursion entries.Fits) (sym (part_next first i es e le lt is)) (all_push (part_of first i es) e h f)

pub spelled_next : (first i : ℕ) (es : List LogEntry) (e : LogEntry) (old new now : List (List ℕ)) (s : List ℕ) → first ≤ i → i < length es → slice_get es i ≡ Some e → s ≡ entries.spell e → now ≡ old ++ map entries.spell (part_of first i es) → new ≡ now ++ s ∷ [] → new ≡ old ++ map entries.spell (part_of first (i + 1) es)
spelled_next first i es e old new now s le lt is spelled so_far pushed =
    pushed ∙ ap (λ (b : List ℕ). now ++ b ∷ []) spelled ∙ ap (λ (ss : List (List ℕ)). ss ++ entries.spell e ∷ []) so_far
    ∙ append_assoc old (map entries.spell (part_of first i es)) (entries.spell e ∷ [])
    ∙ ap (λ (ss : List (List ℕ)). old ++ ss) (sym (ap (map entries.spell) (part_next first i es e le lt is) ∙ map-append entries.spell (part_of first i es) (e ∷ [])))

-- the entry of a look-up whose bytes these are
pub some_is : (b : List ℕ) (o : Option LogEntry) → Some b ≡ option_map entries.spell o → IfSome o entries.Fits → (e : LogEntry) × (o ≡ Some e) × (b ≡ entries.spell e) × entries.Fits e
some_is b None is fits = absurd (cc is)
some_is b (Some e) is fits = let same : b ≡ entries.spell e = cc is in (e, refl, same, fits)

-- ---- what one message takes

batch_full : (n : ℕ) (es : List LogEntry) → batch n 0 es ≡ []
batch_full zero es = refl
batch_full (suc n) [] = refl
batch_full (suc n) (e ∷ es) = refl

batch_none : (n room : ℕ) (es : List LogEntry) → es ≡ [] → batch n room es ≡ []
batch_none zero room es e = refl
batch_none (suc n) room es e = ap (batch (suc n) room) e

batch_one : (n room : ℕ) (e : LogEntry) (es : List LogEntry) (b : Bool) → nat_eq room 0 ≡ b → b ≡ false → batch (suc n) room (e ∷ es) ≡ e ∷ batch n (room - length (entries.spell e)) es
batch_one n room e es true is no_room = absurd (cc no_room)
batch_one n room e es false is no_room = rw is refl

drop_some : (k : ℕ) (xs : List LogEntry) (e : LogEntry) → slice_get xs k ≡ Some e → drop k xs ≡ e ∷ drop (k + 1) xs
drop_some k [] e is = absurd (cc is)
drop_some zero (x ∷ xs) e is = let same : x ≡ e = cc is in ap (λ (y : LogEntry). y ∷ xs) same
drop_some (suc k) (x ∷ xs) e is = let count : suc k + 1 ≡ suc (k + 1) = omega arith in drop_some k xs e is ∙ ap (λ (n : ℕ). e ∷ drop n (x ∷ xs)) (sym count)

drop_past : (k : ℕ) (xs : List LogEntry) → slice_get xs k ≡ None → drop k xs ≡ []
drop_past zero [] is = refl
drop_past (suc k) [] is = refl
drop_past zero (x ∷ xs) is = absurd (cc is)
drop_past (suc k) (x ∷ xs) is = drop_past k xs is

pub batch_next : (most k room left : ℕ) (xs all : List LogEntry) (e : LogEntry) → k < most → 0 < room → slice_get xs k ≡ Some e → left ≡ room - length (entries.spell e) → all ≡ take k xs ++ batch (most - k) room (drop k xs) → all ≡ take (k + 1) xs ++ batch (most - (k + 1)) left (drop (k + 1) xs)
batch_next most k room left xs all e lt some is less so_far =
    let count : most - k ≡ suc (most - (k + 1)) = omega (arith, lt) in
    let room_left : nat_eq room 0 ≡ false = grind (arith, nat_tests) in
    so_far
    ∙ ap (λ (n : ℕ). take k xs ++ batch n room (drop k xs)) count
    ∙ ap (λ (ys : List LogEntry). take k xs ++ batch (suc (most - (k + 1))) room ys) (drop_some k xs e is)
    ∙ ap (λ (ys : List LogEntry). take k xs ++ ys) (batch_one (most - (k + 1)) room e (drop (k + 1) xs) (nat_eq room 0) refl room_left)
    ∙ sym (append_assoc (take k xs) (e ∷ []) (batch (most - (k + 1)) (room - length (entries.spell e)) (drop (k + 1) xs)))
    ∙ ap (λ (ys : List LogEntry). ys ++ batch (most - (k + 1)) (room - length (entries.spell e)) (drop (k + 1) xs)) (sym (next_taken k xs e is))
    ∙ ap (λ (n : ℕ). take (k + 1) xs ++ batch (most - (k + 1)) n (drop (k + 1) xs)) (sym less)

pub batch_ends : (n k room : ℕ) (xs all : List LogEntry) → batch n room (drop k xs) ≡ [] → all ≡ take k xs ++ batch n room (drop k xs) → take k xs ≡ all
batch_ends n k room xs all none so_far = sym (so_far ∙ ap (λ (ys : List LogEntry). take k xs ++ ys) none ∙ append-nil (take k xs))

pub full_ends : (n k room : ℕ) (xs all : List LogEntry) → room ≡ 0 → all ≡ take k xs ++ batch n room (drop k xs) → take k xs ≡ all
full_ends n k room xs all is so_far = batch_ends n k room xs all (ap (λ (r : ℕ). batch n r (drop k xs)) is ∙ batch_full n (drop k xs)) so_far

pub past_ends : (n k room : ℕ) (xs all : List LogEntry) → slice_get xs k ≡ None → all ≡ take k xs ++ batch n room (drop k xs) → take k xs ≡ all
past_ends n k room xs all is so_far = batch_ends n k room xs all (batch_none n room (drop k xs) (drop_past k xs is)) so_far

pub most_ends : (n k room : ℕ) (xs all : List LogEntry) → n ≡ 0 → all ≡ take k xs ++ batch n room (drop k xs) → take k xs ≡ all
most_ends n k room xs all is so_far = batch_ends n k room xs all (ap (λ (m : ℕ). batch m room (drop k xs)) is) so_far

-- what is there at a place
pub there : (xs : List LogEntry) (k : ℕ) → k < length xs → slice_get xs k ≡ None → ⊥
there [] k lt is = absurd (omega (arith, lt))
there (x ∷ xs) zero lt is = absurd (cc is)
there (x ∷ xs) (suc k) lt is = there xs k (omega (arith, lt)) is

pub found_within : (xs : List LogEntry) (k : ℕ) (e : LogEntry) → slice_get xs k ≡ Some e → k + 1 ≤ length xs
found_within [] k e is = absurd (cc is)
found_within (x ∷ xs) zero e is = omega arith
found_within (x ∷ xs) (suc k) e is = omega (arith, found_within xs k e is)
