-- The records of several steps, one behind the other.
use Rattle.std.proofs.Common.{◌≡◌, ℕ, zero, suc, ◌+◌, ◌<◌, Bool, true, false, Option, Some, None, List, [], ◌∷◌, ◌++◌, length, take, get_or, refl, ap, sym, ◌∙◌, arith, append-nil, append_assoc}
use Rattle.std.proofs.lemmas.List.Folds.{list_any-append}
use Rattle.std.specs.Prelude.{◌||◌, ◌&&◌, is_some}
use Rattle.kp_entry.specs.declared.record.Record.{Record}
use Rattle.kp_entry.specs.Records.{is_base, has_base}
use Rattle.kp_snapshot.specs.Snapshots.{Snapshot}
use Rattle.kp_kept.specs.Ahead.{Waiting, all_records, all_want, has_some, waits_behind}

no_left : (a b : Bool) → (a || b) ≡ false → a ≡ false
no_left true b e = absurd (cc e)
no_left false b e = refl

no_right : (a b : Bool) → (a || b) ≡ false → b ≡ false
no_right true b e = absurd (cc e)
no_right false b e = e

no_both : (a b : Bool) → a ≡ false → b ≡ false → (a || b) ≡ false
no_both true b e f = absurd (cc e)
no_both false b e f = f

pub open_left : (rs ss : List Record) → has_base (rs ++ ss) ≡ false → has_base rs ≡ false
open_left rs ss e = no_left (has_base rs) (has_base ss) (sym (list_any-append is_base rs ss) ∙ e)

pub open_right : (rs ss : List Record) → has_base (rs ++ ss) ≡ false → has_base ss ≡ false
open_right rs ss e = no_right (has_base rs) (has_base ss) (sym (list_any-append is_base rs ss) ∙ e)

pub open_both : (rs ss : List Record) → has_base rs ≡ false → has_base ss ≡ false → has_base (rs ++ ss) ≡ false
open_both rs ss e f = list_any-append is_base rs ss ∙ no_both (has_base rs) (has_base ss) e f

pub next_joined : (rss : List (List Record)) (i : ℕ) (rs : List Record) → i < length rss → rs ≡ get_or rss i rs → all_records (take (i + 1) rss) ≡ all_records (take i rss) ++ rs
next_joined [] i rs lt is = absurd (omega (arith, lt))
next_joined (x ∷ rss) zero rs lt is = append-nil x ∙ sym is
next_joined (x ∷ rss) (suc i) rs lt is =
    let z : suc i + 1 ≡ suc (i + 1) = omega arith in
    ap (λ (n : ℕ). all_records (take n (x ∷ rss))) z ∙ ap (λ (ys : List Record). x ++ ys) (next_joined rss i rs (omega (arith, lt)) is) ∙ sym (append_assoc x (all_records (take i rss)) rs)

pub part_open : (rss : List (List Record)) (i : ℕ) → has_base (all_records rss) ≡ false → has_base (all_records (take i rss)) ≡ false
part_open [] zero e = e
part_open [] (suc i) e = e
part_open (rs ∷ rss) zero e = refl
part_open (rs ∷ rss) (suc i) e = open_both rs (all_records (take i rss)) (open_left rs (all_records rss) e) (part_open rss i (open_right rs (all_records rss) e))

pub one_open : (rss : List (List Record)) (i : ℕ) (rs : List Record) → i < length rss → rs ≡ get_or rss i rs → has_base (all_records rss) ≡ false → has_base rs ≡ false
one_open [] i rs lt is e = absurd (omega (arith, lt))
one_open (x ∷ rss) zero rs lt is e = ap has_base is ∙ open_left x (all_records rss) e
one_open (x ∷ rss) (suc i) rs lt is e = one_open rss i rs (omega (arith, lt)) is (open_right x (all_records rss) e)

pub joined_push : (rss : List (List Record)) (rs : List Record) → all_records (rss ++ rs ∷ []) ≡ all_records rss ++ rs
joined_push [] rs = append-nil rs
joined_push (x ∷ rss) rs = ap (λ (ys : List Record). x ++ ys) (joined_push rss rs) ∙ sym (append_assoc x (all_records rss) rs)

pub only_one : (rss : List (List Record)) (rs : List Record) → length rss ≡ 1 → rs ≡ get_or rss 0 rs → rs ≡ all_records rss
only_one [] rs len is = absurd (cc len)
only_one (x ∷ []) rs len is = is ∙ sym (append-nil x)
only_one (x ∷ (y ∷ rss)) rs len is = absurd (omega (arith, len))

pub pushed_waits : (image : Option Snapshot) (old new : List (List Record)) (rs : List Record) → is_some image ≡ false → new ≡ old ++ rs ∷ []
    → ◌≡◌ {A = Waiting} (record { image = image; records = all_records new }) (waits_behind (record { image = image; records = all_records old }) rs None)
pushed_waits None old new rs none is = ap (λ (xs : List Record). let w : Waiting = record { image = None; records = xs } in w) (ap all_records is ∙ joined_push old rs)
pushed_waits (Some i) old new rs none is = absurd (cc none)

pub pushed_open : (old new : List (List Record)) (rs : List Record) → has_base (all_records old) ≡ false → has_base rs ≡ false → new ≡ old ++ rs ∷ [] → has_base (all_records new) ≡ false
pushed_open old new rs e f is = ap (λ (rss : List (List Record)). has_base (all_records rss)) is ∙ ap has_base (joined_push old rs) ∙ open_both (all_records old) rs e f

pub dropped_waits : (image : Option Snapshot) (old rs : List Record) → is_some image ≡ true → ◌≡◌ {A = Waiting} (record { image = image; records = old }) (waits_behind (record { image = image; records = old }) rs None)
dropped_waits None old rs some = absurd (cc some)
dropped_waits (Some i) old rs some = refl

no_records : (rs : List Record) → length rs ≡ 0 → rs ≡ []
no_records [] len = refl
no_records (r ∷ rs) len = absurd (omega (arith, len))

empty_waits_of : (image : Option Snapshot) (old : List Record) → ◌≡◌ {A = Waiting} (record { image = image; records = old }) (waits_behind (record { image = image; records = old }) [] None)
empty_waits_of None old = ap (λ (xs : List Record). let w : Waiting = record { image = None; records = xs } in w) (sym (append-nil old))
empty_waits_of (Some i) old = refl

pub empty_waits : (image : Option Snapshot) (old rs : List Record) → length rs ≡ 0 → ◌≡◌ {A = Waiting} (record { image = image; records = old }) (waits_behind (record { image = image; records = old }) rs None)
empty_waits image old rs len = empty_waits_of image old ∙ ap (λ (xs : List Record). waits_behind (record { image = image; records = old }) xs None) (sym (no_records rs len))

-- ---- each step wants something

right_true : (a b : Bool) → (a && b) ≡ true → b ≡ true
right_true true b e = e
right_true false b e = absurd (cc e)

left_true : (a b : Bool) → (a && b) ≡ true → a ≡ true
left_true true b e = refl
left_true false b e = absurd (cc e)

both_true : (a b : Bool) → a ≡ true → b ≡ true → (a && b) ≡ true
both_true true b e f = f
both_true false b e f = absurd (cc e)

one_more_wants : (rss : List (List Record)) (rs : List Record) → all_want rss ≡ true → has_some rs ≡ true → all_want (rss ++ rs ∷ []) ≡ true
one_more_wants [] rs e f = both_true (has_some rs) true f refl
one_more_wants (x ∷ rss) rs e f = both_true (has_some x) (all_want (rss ++ rs ∷ [])) (left_true (has_some x) (all_want rss) e) (one_more_wants rss rs (right_true (has_some x) (all_want rss) e) f)

pub pushed_wants : (old new : List (List Record)) (rs : List Record) → all_want old ≡ true → has_some rs ≡ true → new ≡ old ++ rs ∷ [] → all_want new ≡ true
pushed_wants old new rs e f is = ap all_want is ∙ one_more_wants old rs e f

pub some_of : (rs : List Record) (len : ℕ) → len ≡ length rs → (len ≡ 0 → ⊥) → has_some rs ≡ true
some_of [] len is some = absurd (some is)
some_of (r ∷ rs) len is some = refl
