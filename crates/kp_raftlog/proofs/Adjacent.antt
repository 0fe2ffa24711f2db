-- Adjacent entries, and the string that lends them in one piece.
use Rattle.std.proofs.Common.{◌≡◌, ℕ, ◌+◌, ◌-◌, ◌≤◌, List, [], ◌∷◌, ◌++◌, length, take, drop, map, refl, sym, ◌∙◌, ap, subst, arith, Some, None, slice_get, append-nil, length-append, Bool, true, false}
use Rattle.std.specs.Prelude.{nat_lt, if◌then◌else◌}
use Rattle.std.specs.List.{AllByRecursion, concat, flat_map}
use Rattle.std.proofs.lemmas.List.{map-append}
use Rattle.std.proofs.lemmas.List.Concat.{concat_is}
use Rattle.std.proofs.lemmas.List.Folds.{concat-append}
use Rattle.kp_model.specs.LogEntry.{LogEntry}
use Rattle.kp_entry.specs.Entries.{entries}
use Rattle.kp_entry.specs.Log.{Log, behind, batch, last_index}
use Rattle.kp_entry.specs.Pieces.{AreOf}
use Rattle.kp_entry.specs.Spellings.{entry_of, AllSpell, AreEntries}
use Rattle.kp_entry.proofs.Cuts.{pushed}
use Rattle.kp_entry.proofs.Spelled.{entry_again, all_take}
use Rattle.kp_region.specs.Marked.{Marked, run_at}
use Rattle.kp_raftlog.specs.Kept.{shown, joined, AreBatchEnds}
use Rattle.kp_raftlog.proofs.Parts.{all_drop, next_taken, spelled_entries, spelled_len, spelled_read}
use Rattle.kp_raftlog.proofs.Totals.{all_dropped, len_taken, map_take, map_drop}

-- ---- strings that spell entries

spelled_again : (ss : List (List ℕ)) → AllSpell entries ss → map entries.spell (map entry_of ss) ≡ ss
spelled_again [] hs = refl
spelled_again (s ∷ ss) hs =
    let h = hs.0 in
    let one : entries.spell (entry_of s) ≡ s = ap (λ b. entries.spell (entry_of b)) h.2 ∙ ap entries.spell (entry_again h.0 h.1) ∙ sym h.2 in
    λ i. one i ∷ spelled_again ss hs.1 i

-- those of adjacent entries
pub adjacent : (m : Marked) (base base_term after count : ℕ) → AllSpell entries m.strings → map entries.spell (take count (behind (shown m base base_term) after)) ≡ take count (drop (after - base) m.strings)
adjacent m base base_term after count hs =
    map_take entries.spell count (drop (after - base) (map entry_of m.strings))
    ∙ ap (take count) (map_drop entries.spell (after - base) (map entry_of m.strings))
    ∙ ap (λ (ss : List (List ℕ)). take count (drop (after - base) ss)) (spelled_again m.strings hs)

all_fit : (ss : List (List ℕ)) → AllSpell entries ss → AllByRecursion entries.Fits (map entry_of ss)
all_fit [] hs = tt
all_fit (s ∷ ss) hs = let h = hs.0 in (subst entries.Fits (sym (ap entry_of h.2 ∙ entry_again h.0 h.1)) h.1, all_fit ss hs.1)

pub adjacent_fit : (m : Marked) (base base_term after count : ℕ) → AllSpell entries m.strings → AllByRecursion entries.Fits (take count (behind (shown m base base_term) after))
adjacent_fit m base base_term after count hs =
    let read : map entry_of (take count (drop (after - base) m.strings)) ≡ take count (drop (after - base) (map entry_of m.strings)) = map_take entry_of count (drop (after - base) m.strings) ∙ ap (take count) (map_drop entry_of (after - base) m.strings) in
    subst (AllByRecursion entries.Fits) read (all_fit (take count (drop (after - base) m.strings)) (all_take entries count (drop (after - base) m.strings) (all_drop (after - base) m.strings hs)))

some_run : (low high : Bool) (b x : List ℕ) → Some b ≡ (if low then None else if high then None else Some x) → b ≡ x
some_run true high b x is = absurd (cc is)
some_run false true b x is = absurd (cc is)
some_run false false b x is = let same : b ≡ x = cc is in same

-- the bytes that are lent
pub lent_is : (m : Marked) (base base_term after mark count : ℕ) (b : List ℕ) → mark ≡ after - base + m.first → AllSpell entries m.strings → Some b ≡ run_at m mark count → b ≡ joined (take count (behind (shown m base base_term) after))
lent_is m base base_term after mark count b is hs lent =
    let at : mark - m.first ≡ after - base = omega (arith, is) in
    some_run (nat_lt mark m.first) (nat_lt (m.first + length m.strings) (mark + count)) b (flat_map (λ s. s) (take count (drop (mark - m.first) m.strings))) lent
    ∙ sym (concat_is (take count (drop (mark - m.first) m.strings)))
    ∙ ap (λ (n : ℕ). concat (take count (drop n m.strings))) at
    ∙ sym (ap concat (adjacent m base base_term after count hs))

-- ---- where they end

joined_next : (k : ℕ) (es : List LogEntry) (e : LogEntry) → slice_get es k ≡ Some e → joined (take (k + 1) es) ≡ joined (take k es) ++ entries.spell e
joined_next k es e is =
    ap joined (next_taken k es e is)
    ∙ ap concat (map-append entries.spell (take k es) (e ∷ []))
    ∙ concat-append (map entries.spell (take k es)) (entries.spell e ∷ [])
    ∙ ap (λ (b : List ℕ). joined (take k es) ++ b) (append-nil (entries.spell e))

pub next_end : (k : ℕ) (es : List LogEntry) (e : LogEntry) (end next : ℕ) → slice_get es k ≡ Some e → end ≡ length (joined (take k es)) → next ≡ end + length (entries.spell e) → next ≡ length (joined (take (k + 1) es))
next_end k es e end next is at goes = omega (arith, at, goes, length-append (joined (take k es)) (entries.spell e), ap (λ (b : List ℕ). length b) (joined_next k es e is))

pub next_ended : (k : ℕ) (es : List LogEntry) (e : LogEntry) (ends more : List ℕ) (next : ℕ) → slice_get es k ≡ Some e → AreOf (joined (take k es)) ends (map entries.spell (take k es)) → more ≡ ends ++ next ∷ [] → next ≡ length (joined (take (k + 1) es)) → AreOf (joined (take (k + 1) es)) more (map entries.spell (take (k + 1) es))
next_ended k es e ends more next is held goes at =
    let all : map entries.spell (take (k + 1) es) ≡ map entries.spell (take k es) ++ entries.spell e ∷ [] = ap (map entries.spell) (next_taken k es e is) ∙ map-append entries.spell (take k es) (e ∷ []) in
    subst (λ (ss : List (List ℕ)). AreOf (joined (take (k + 1) es)) more ss) (sym all) (pushed (joined (take k es)) ends (joined (take (k + 1) es)) more (map entries.spell (take k es)) (entries.spell e) next held (joined_next k es e is) goes at)

pub none_ended : (ends : List ℕ) → ends ≡ [] → AreOf [] ends []
none_ended ends none = record { joined = refl; ended = none }

pub ends_are : (k : ℕ) (ends : List ℕ) (es : List LogEntry) → take k es ≡ batch 64 1048576 es → k ≤ length es → k ≤ 64 → length ends ≡ k → AreOf (joined (take k es)) ends (map entries.spell (take k es)) → AreBatchEnds ends es
ends_are k ends es taken within few many ended = record {
  taken = ap (λ (n : ℕ). take n es) many ∙ taken;
  within = omega (arith, many, within);
  few = omega (arith, many, few);
  ended = subst (λ (n : ℕ). AreOf (joined (take n es)) ends (map entries.spell (take n es))) (sym many) ended;
}

-- where none stand behind
pub none_behind : (l : Log) (after : ℕ) (ends : List ℕ) → l.base ≤ after → last_index l ≤ after → ends ≡ [] → AreBatchEnds ends (behind l after)
none_behind l after ends from past none =
    let gone : behind l after ≡ [] = all_dropped (after - l.base) l.entries (omega (arith, from, past)) in
    subst (λ (xs : List ℕ). AreBatchEnds xs (behind l after)) (sym none) (subst (λ (es : List LogEntry). AreBatchEnds [] es) (sym gone) (record { taken = refl; within = omega arith; few = omega arith; ended = none_ended [] refl }))

-- ---- as many as there are ends, copied

pub copied : (bytes ends : List ℕ) (es : List LogEntry) (n : ℕ) → n ≡ length ends → bytes ≡ joined (take n es) → AreBatchEnds ends es → AreOf bytes ends (map entries.spell (take (length ends) es))
copied bytes ends es n len is h = record {
  joined = is ∙ ap (λ (k : ℕ). joined (take k es)) len;
  ended = h.ended.ended;
}

pub copied_entries : (ends : List ℕ) (es : List LogEntry) (n : ℕ) → n ≡ length ends → AllByRecursion entries.Fits (take n es) → AreBatchEnds ends es → AreEntries (map entries.spell (take (length ends) es))
copied_entries ends es n len fits h = record {
  spelled = spelled_entries (take (length ends) es) (subst (λ (k : ℕ). AllByRecursion entries.Fits (take k es)) len fits);
  few = omega (arith, h.few, spelled_len (take (length ends) es), len_taken (length ends) es h.within);
}

pub read_copied : (ends : List ℕ) (es : List LogEntry) (n : ℕ) → n ≡ length ends → AllByRecursion entries.Fits (take n es) → AreBatchEnds ends es → map entry_of (map entries.spell (take (length ends) es)) ≡ batch 64 1048576 es
read_copied ends es n len fits h = spelled_read (take (length ends) es) (subst (λ (k : ℕ). AllByRecursion entries.Fits (take k es)) len fits) ∙ h.taken
