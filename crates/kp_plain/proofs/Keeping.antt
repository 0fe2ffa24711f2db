-- What the store keeps, through its calls.
use Rattle.std.proofs.Common.{◌≡◌, get_or, sym, subst, ℕ, ◌+◌, ◌<◌, ◌≤◌, List, [], ◌∷◌, ◌++◌, zero, suc, length, take, arith, length-append}
use Rattle.std.proofs.lemmas.List.{length-take}
use Rattle.std.specs.List.{All}
use Rattle.std.proofs.lemmas.List.Elements.{All-append, All-take}
use Rattle.std.proofs.lemmas.List.Sums.{list_all-from_AllPass}
use Rattle.kp_model.specs.Grammar.{is_entry, IsEntry}
use Rattle.kp_model.specs.Good.{IsSound}
use Rattle.kp_model.specs.LogEntry.{LogEntry}
use Rattle.kp_model.specs.State.{State, empty}
use Rattle.kp_model.specs.Store.{after}
use Rattle.kp_model.specs.Step.{apply}
use Rattle.kp_model.proofs.GoodSteps.{apply_sound, after_sound}
use Rattle.kp_plain.specs.Kept.{Keeps}

pub keeps_none : Keeps empty []
unfolding empty
keeps_none = record { room = omega arith; taken = λ k d lt. absurd (omega (arith, lt)) }

one_taken : (e : LogEntry) → IsEntry e → All IsEntry (e ∷ [])
one_taken e h zero d lt = h
one_taken e h (suc k) d lt = absurd (omega (arith, lt))

pub keeps_more : (s : State) (es : List LogEntry) (e : LogEntry) → Keeps s es → s.applied + length es < 4611686018427387904 → IsEntry e → Keeps s (es ++ e ∷ [])
keeps_more s es e h lt t = record {
  room = omega (arith, length-append es (e ∷ []));
  taken = All-append IsEntry es (e ∷ []) h.taken (one_taken e t);
}

-- the entry at a place
pub taken_at : (es : List LogEntry) (i : ℕ) (e : LogEntry) → All IsEntry es → i < length es → e ≡ get_or es i e → IsEntry e
taken_at es i e h lt at = subst IsEntry (sym at) (h i e lt)

-- the state that took the first entry in
pub first_sound : (s new : State) (es : List LogEntry) (e : LogEntry) → All IsEntry es → IsSound s → s.applied < 4611686018427387904 → 0 < length es → e ≡ get_or es 0 e
    → new ≡ (apply s e).state → IsSound new
first_sound s new es e taken sound room some at same = subst IsSound (sym same) (apply_sound s e (taken_at es 0 e taken some at) room sound)

-- the state that took the entry at a place in
pub next_sound : (s new : State) (es : List LogEntry) (i : ℕ) (e : LogEntry) → All IsEntry es → IsSound s → s.applied < 4611686018427387904 → i < length es → e ≡ get_or es i e
    → new ≡ (apply s e).state → IsSound new
next_sound s new es i e taken sound room lt at same = subst IsSound (sym same) (apply_sound s e (taken_at es i e taken lt at) room sound)

-- the state behind the entries before a place
pub before_sound : (s t : State) (es : List LogEntry) (i : ℕ) → All IsEntry es → IsSound s → s.applied + length es ≤ 4611686018427387904 → t ≡ after s (take i es) → IsSound t
before_sound s t es i taken sound room same =
    let first : All IsEntry (take i es) = All-take IsEntry i es taken in
    subst IsSound (sym same) (after_sound s (take i es) (list_all-from_AllPass is_entry (take i es) first) (omega (arith, room, length-take i es)) sound)
