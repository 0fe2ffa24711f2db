-- Where what waits is written, and up to which length.
use Rattle.std.proofs.Common.{◌≡◌, ◌⊎◌, inl, inr, ℕ, ◌+◌, ◌≤◌, ◌<◌, ◌^◌, Bool, true, false, cond, List, [], ◌∷◌, length, Option, Some, None, Ok, refl, ap, sym, subst, ◌∙◌, arith}
use Rattle.std.specs.Prelude.{IsErrOf, IsSome, ◌&&◌}
use Rattle.std.proofs.lemmas.Option.{none-some, same_Some}
use Rattle.kp_entry.specs.declared.record.Record.{Record}
use Rattle.kp_entry.specs.Records.{spelled}
use Rattle.kp_snapshot.specs.Snapshots.{Snapshot}
use Rattle.kp_event.specs.declared.fail.KeptFail.{KeptFail}
use Rattle.kp_event.specs.declared.fail.KeptFail.TheVariants as kept_fail
use Rattle.kp_homes.specs.declared.fail.HomeFail.{HomeFail}
use Rattle.kp_homes.specs.declared.fail.HomeFail.TheVariants as home_fail
use Rattle.kp_homes.specs.Replays.{image_bytes}
use Rattle.kp_homes.specs.Stands.{slot_number}
use Rattle.kp_homes.proofs.Refusals.{ok_err}
use Rattle.kp_kept.specs.Ahead.{all_records, all_want, has_some}
use Rattle.kp_kept.specs.Answers.{IsOfKeeping, fail_by}
use Rattle.kp_kept.specs.Lengths.{IsOver, batch_place, place_of}

-- ---- a batch

abbrev pub BatchLen : Bool → ℕ → List Record → ℕ → ℕ → Type 0
BatchLen second gate rs slot len = (2 ^ 40 < len) × (len ≡ gate + 6 + length (spelled rs)) × (slot ≡ slot_number second)

pub over_batch : (second : Bool) (gate : ℕ) (rs : List Record) (slot len : ℕ) → has_some rs ≡ true → BatchLen second gate rs slot len → IsOver (batch_place second gate rs) slot len
over_batch second gate [] slot len some b = absurd (cc some)
over_batch second gate (r ∷ rs) slot len some b = record {
  is = ap (λ (n : ℕ). let p : ℕ × ℕ = (n, gate + 6 + length (spelled (r ∷ rs))) in Some p) (sym b.2) ∙ ap (λ (n : ℕ). let p : ℕ × ℕ = (slot, n) in Some p) (sym b.1);
  long = b.0;
}

pub batch_over : (second : Bool) (gate : ℕ) (rs : List Record) (slot len : ℕ) → IsOver (batch_place second gate rs) slot len → BatchLen second gate rs slot len
batch_over second gate [] slot len o = absurd (none-some _ o.is)
batch_over second gate (r ∷ rs) slot len o =
    let same = same_Some _ _ o.is in
    (o.long, sym (ap (λ (p : ℕ × ℕ). p.1) same), sym (ap (λ (p : ℕ × ℕ). p.0) same))

pub not_over : (P : Type 0) (second : Bool) (gate slot len : ℕ) → IsOver (batch_place second gate []) slot len → P
not_over P second gate slot len o = absurd (none-some _ o.is)

left_true : (a b : Bool) → (a && b) ≡ true → a ≡ true
left_true true b e = refl
left_true false b e = absurd (cc e)

-- there is a step, so there is a record
pub some_wanted : (rss : List (List Record)) → all_want rss ≡ true → 1 ≤ length rss → has_some (all_records rss) ≡ true
some_wanted [] w some = absurd (omega (arith, some))
some_wanted ([] ∷ rss) w some = absurd (cc w)
some_wanted ((r ∷ rs) ∷ rss) w some = refl

-- ---- an answer that is Ok is no refusal

pub ok_is_none : {T E : Type 0} (P : Type 0) (x : T) (a b : E) → IsErrOf {T = T} {E = E} (Ok x) a ⊎ IsErrOf {T = T} {E = E} (Ok x) b → P
ok_is_none P x a b (inl e) = ok_err P x a e
ok_is_none P x a b (inr e) = ok_err P x b e

-- ---- an image

abbrev pub ImageLen : Bool → Option Snapshot → ℕ → ℕ → Type 0
ImageLen second image slot len = (2 ^ 40 < len) × (len ≡ length (image_bytes image)) × (slot ≡ cond second 2 3)

pub over_image : (second : Bool) (gate : ℕ) (image : Option Snapshot) (rs : List Record) (slot len : ℕ) → IsSome image → ImageLen second image slot len → IsOver (place_of second gate image rs) slot len
over_image second gate None rs slot len some b = absurd (cc some)
over_image second gate (Some i) rs slot len some b = record {
  is = ap (λ (n : ℕ). let p : ℕ × ℕ = (n, length (image_bytes (Some i))) in Some p) (sym b.2) ∙ ap (λ (n : ℕ). let p : ℕ × ℕ = (slot, n) in Some p) (sym b.1);
  long = b.0;
}

pub image_over : (second : Bool) (gate : ℕ) (image : Option Snapshot) (rs : List Record) (slot len : ℕ) → IsSome image → IsOver (place_of second gate image rs) slot len → ImageLen second image slot len
image_over second gate None rs slot len some o = absurd (cc some)
image_over second gate (Some i) rs slot len some o =
    let same = same_Some _ _ o.is in
    (o.long, sym (ap (λ (p : ℕ × ℕ). p.1) same), sym (ap (λ (p : ℕ × ℕ). p.0) same))

-- without an image the place is that of the records
pub place_plain : (second : Bool) (gate : ℕ) (image : Option Snapshot) (rs : List Record) (slot len : ℕ) → image ≡ None → IsOver (batch_place second gate rs) slot len → IsOver (place_of second gate image rs) slot len
place_plain second gate image rs slot len none o = subst (λ (i : Option Snapshot). IsOver (place_of second gate i rs) slot len) (sym none) o

pub plain_place : (second : Bool) (gate : ℕ) (image : Option Snapshot) (rs : List Record) (slot len : ℕ) → image ≡ None → IsOver (place_of second gate image rs) slot len → IsOver (batch_place second gate rs) slot len
plain_place second gate image rs slot len none o = subst (λ (i : Option Snapshot). IsOver (place_of second gate i rs) slot len) none o

-- ---- what the node answers

full_parts : KeptFail → Option (ℕ × ℕ)
full_parts kept_fail.NoMemory = None
full_parts kept_fail.DiskFault = None
full_parts (kept_fail.Full slot len) = Some (slot, len)
full_parts (kept_fail.Dead w) = None

-- the home's refusal behind a full one
pub full_of : (u : HomeFail) (slot len : ℕ) → fail_by u ≡ kept_fail.Full slot len → u ≡ home_fail.Full slot len
unfolding full_parts
full_of home_fail.DiskFault slot len e = absurd (none-some _ (ap full_parts e))
full_of (home_fail.Damaged at n) slot len e = absurd (none-some _ (ap full_parts e))
full_of (home_fail.Full at n) slot len e =
    let same = same_Some _ _ (ap full_parts e) in
    ap (λ (k : ℕ). home_fail.Full k n) (ap (λ (p : ℕ × ℕ). p.0) same) ∙ ap (λ (k : ℕ). home_fail.Full slot k) (ap (λ (p : ℕ × ℕ). p.1) same)
full_of home_fail.NoMemory slot len e = absurd (none-some _ (ap full_parts e))

is_memory : KeptFail → Option ℕ
is_memory kept_fail.NoMemory = Some 0
is_memory kept_fail.DiskFault = None
is_memory (kept_fail.Full slot len) = None
is_memory (kept_fail.Dead w) = None

pub memory_of : (u : HomeFail) → IsOfKeeping u → fail_by u ≡ kept_fail.NoMemory → u ≡ home_fail.NoMemory
unfolding is_memory
memory_of home_fail.DiskFault ok e = absurd (none-some _ (ap is_memory e))
memory_of (home_fail.Damaged at n) ok e = absurd ok
memory_of (home_fail.Full at n) ok e = absurd (none-some _ (ap is_memory e))
memory_of home_fail.NoMemory ok e = refl
