-- Entries added one behind the other.
use Rattle.std.proofs.Common.{◌≡◌, ℕ, ◌+◌, ◌≤◌, ◌<◌, ◌^◌, List, [], ◌∷◌, ◌++◌, length, take, Option, Some, None, refl, slice_get, sym, ap, ◌∙◌, append_assoc, arith, length-append}
use Rattle.std.proofs.lemmas.List.{append-nil, take_more, take_all, length-take-le}
use Rattle.std.proofs.lemmas.Option.{slice_get_within, get_or_from_slice_get}
use Rattle.kp_model.specs.LogEntry.{LogEntry}
use Rattle.kp_model.specs.Store.{Store, last, with_entry}
use Rattle.kp_model.specs.State as state
use Rattle.kp_snapshot.specs.Snapshots.{Snapshot}
use Rattle.kp_homes.specs.Opening.{IsWithin, base_of}
use Rattle.kp_audit.specs.Texts.{base_state, store_of, with_all}

pub none_added : (x : Store) (es : List LogEntry) → x ≡ with_all x (take 0 es)
none_added x es = ap (λ (u : List LogEntry). let w : Store = record { state = x.state; unapplied = u } in w) (sym (append-nil x.unapplied))

pub one_added : (x y z : Store) (es : List LogEntry) (i : ℕ) (e : LogEntry) → slice_get es i ≡ Some e → y ≡ with_all x (take i es) → z ≡ with_entry y e → z ≡ with_all x (take (i + 1) es)
one_added x y z es i e at so_far more =
    let lt = slice_get_within es i e at in
    let on : take (i + 1) es ≡ take i es ++ e ∷ [] = take_more es i e lt ∙ ap (λ (d : LogEntry). take i es ++ d ∷ []) (get_or_from_slice_get es i e e at) in
    let us : (x.unapplied ++ take i es) ++ e ∷ [] ≡ x.unapplied ++ take (i + 1) es = append_assoc x.unapplied (take i es) (e ∷ []) ∙ ap (λ (u : List LogEntry). x.unapplied ++ u) (sym on) in
    more ∙ ap (λ (w : Store). with_entry w e) so_far ∙ ap (λ (u : List LogEntry). let w : Store = record { state = x.state; unapplied = u } in w) us

pub all_added : (x y : Store) (es : List LogEntry) (i : ℕ) → length es ≤ i → y ≡ with_all x (take i es) → y ≡ with_all x es
all_added x y es i le so_far = so_far ∙ ap (with_all x) (take_all i es le)

pub room_left : (x y : Store) (es : List LogEntry) (i : ℕ) → y ≡ with_all x (take i es) → i < length es → last x + length es ≤ 2 ^ 62 → last y < 2 ^ 62
room_left x y es i so_far lt room =
    let len : length (x.unapplied ++ take i es) ≡ length x.unapplied + i = length-append x.unapplied (take i es) ∙ ap (λ (n : ℕ). length x.unapplied + n) (length-take-le i es (omega (arith, lt))) in
    let at : last y ≡ x.state.applied + length (x.unapplied ++ take i es) = ap last so_far in
    omega (arith, len, at, room, lt)

-- ---- the store of an image

base_at : (i : Option Snapshot) → (base_of i).base ≡ (base_state i).applied
unfolding state.empty
base_at None = refl
base_at (Some s) = refl

pub room_behind : (x : Store) (i : Option Snapshot) (es : List LogEntry) → x ≡ store_of i [] → IsWithin i es → last x + length es ≤ 2 ^ 62
room_behind x i es is room =
    let at : last x ≡ (base_state i).applied + 0 = ap last is in
    let base = base_at i in
    omega (arith, at, base, room)

pub all_behind : (x y : Store) (i : Option Snapshot) (es : List LogEntry) → x ≡ store_of i [] → y ≡ with_all x es → y ≡ store_of i es
all_behind x y i es is more = more ∙ ap (λ (z : Store). with_all z es) is
