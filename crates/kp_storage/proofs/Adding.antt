-- Entries added one behind the other.
use Rattle.std.proofs.Common.{◌≡◌, ℕ, ◌+◌, ◌≤◌, ◌<◌, ◌^◌, List, [], ◌∷◌, ◌++◌, length, take, Some, slice_get, sym, ap, ◌∙◌, append_assoc, arith, length-append}
use Rattle.std.proofs.lemmas.List.{append-nil, take_more, take_all, length-take-le}
use Rattle.std.proofs.lemmas.Option.{slice_get_within, get_or_from_slice_get}
use Rattle.kp_model.specs.LogEntry.{LogEntry}
use Rattle.kp_model.specs.State.{State}
use Rattle.kp_model.specs.Store.{Store, last, with_entry}
use Rattle.kp_storage.specs.Kept.{with_all}

pub none_added : (x : Store) (es : List LogEntry) → x ≡ with_all x (take 0 es)
none_added x es = ap (λ (u : List LogEntry). let w : Store = record { state = x.state; unapplied = u } in w) (sym (append-nil x.unapplied))

pub one_added : (x y z : Store) (es : List LogEntry) (i : ℕ) (e : LogEntry) → slice_get es i ≡ Some e → y ≡ with_all x (take i es) → z ≡ with_entry y e → z ≡ with_all x (take (i + 1) es)
one_added x y z es i e at so_far more =
    let lt = slice_get_within es i e at in
    let on : take (i + 1) es ≡ take i es ++ e ∷ [] = take_more es i e lt ∙ ap (λ (d : LogEntry). take i es ++ d ∷ []) (get_or_from_slice_get es i e e at) in
    let us : (x.unapplied ++ take i es) ++ e ∷ [] ≡ x.unapplied ++ take (i + 1) es = append_assoc x.unapplied (take i es) (e ∷ []) ∙ ap (λ (u : List LogEntry). x.unapplied ++ u) (sym on) in
    more ∙ ap (λ (w : Store). with_entry w e) so_far ∙ ap (λ (u : List LogEntry). let w : Store = record { state = x.state; unapplied = u } in w) us

pub room_left : (x y : Store) (es : List LogEntry) (i : ℕ) → y ≡ with_all x (take i es) → i < length es → last x + length es ≤ 2 ^ 62 → last y < 2 ^ 62
room_left x y es i so_far lt room =
    let len : length (x.unapplied ++ take i es) ≡ length x.unapplied + i = length-append x.unapplied (take i es) ∙ ap (λ (n : ℕ). length x.unapplied + n) (length-take-le i es (omega (arith, lt))) in
    let at : last y ≡ x.state.applied + length (x.unapplied ++ take i es) = ap last so_far in
    omega (arith, len, at, room, lt)

pub all_added : (x y : Store) (es : List LogEntry) (i : ℕ) → length es ≤ i → y ≡ with_all x (take i es) → y ≡ with_all x es
all_added x y es i le so_far = so_far ∙ ap (with_all x) (take_all i es le)

-- ---- a storage of an image

abbrev pub alone : State → Store
alone s = record { state = s; unapplied = [] }

pub room_behind : (made : Store) (s : State) (n : ℕ) → made ≡ alone s → s.applied + n ≤ 2 ^ 62 → last made + n ≤ 2 ^ 62
room_behind made s n is room =
    let at : last made ≡ s.applied + 0 = ap last is in
    omega (arith, at, room)
