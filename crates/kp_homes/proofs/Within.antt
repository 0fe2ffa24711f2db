-- How far a log reaches behind an image.
use Rattle.std.proofs.Common.{◌≡◌, ℕ, ◌+◌, ◌-◌, ◌≤◌, ◌<◌, ◌^◌, Bool, true, false, cond, List, [], ◌∷◌, ◌++◌, length, drop, get_or, Option, Some, None, Result, Ok, Err, refl, ap, subst, arith, length-append}
use Rattle.std.proofs.lemmas.Bool.Decides.{nat_tests}
use Rattle.std.proofs.lemmas.List.{length-take}
use Rattle.kp_entry.specs.declared.record.Record.{Record}
use Rattle.kp_entry.specs.declared.record.Record.TheVariants as record_
use Rattle.kp_entry.specs.Log.{Log, last_index}
use Rattle.kp_entry.specs.Held.{Held, replay_one, replay}
use Rattle.kp_snapshot.specs.Snapshots.{Snapshot}
use Rattle.kp_homes.specs.declared.fail.HomeFail.{HomeFail}
use Rattle.kp_homes.specs.Opening.{Start, IsWithin, base_of, blank_start, is_fit, refused_at, misfit, started, unless, restarted}

-- a log behind this base that reaches at most up to 2 ^ 62
record Reaches (base : ℕ) (l : Log) : Type 0 where
  behind : l.base ≡ base
  within : last_index l ≤ 2 ^ 62

-- one record that may stand behind the log
one_reaches : (base : ℕ) (h : Held) (r : Record) → is_fit h.log r ≡ true → Reaches base h.log → Reaches base (replay_one h r).log
one_reaches base h (record_.Vote term vote) fit is = is
one_reaches base h (record_.Boot boot) fit is = is
one_reaches base h (record_.Append entry) fit is =
    let less : last_index h.log < 2 ^ 62 = grind (arith, nat_tests) in
    let len : length (h.log.entries ++ entry ∷ []) ≡ length h.log.entries + 1 = length-append h.log.entries (entry ∷ []) in
    record { behind = is.behind; within = omega (arith, less, len) }
one_reaches base h (record_.Truncate last) fit is =
    let len = length-take (last - h.log.base) h.log.entries in
    let was : last_index h.log ≤ 2 ^ 62 = is.within in
    record { behind = is.behind; within = omega (arith, len, was) }
one_reaches base h (record_.Base index term) fit is = absurd cc

no_misfit : (P : Type 0) (at : ℕ) → ◌≡◌ {A = Option ℕ} (Some at) None → P
no_misfit P at e = absurd cc

-- all records
all_reach : (base : ℕ) (h : Held) (rs : List Record) (ps : List ℕ) → misfit h rs ps ≡ None → Reaches base h.log → Reaches base (replay h rs).log
all_reach base h [] ps none is = is
all_reach base h (r ∷ rs) ps none is = by_fit (λ fit rest. all_reach base (replay_one h r) rs (drop 1 ps) rest (one_reaches base h r fit is)) (is_fit h.log r) refl none
  where
    by_fit : (is_fit h.log r ≡ true → misfit (replay_one h r) rs (drop 1 ps) ≡ None → Reaches base (replay h (r ∷ rs)).log) → (b : Bool) → is_fit h.log r ≡ b
        → cond b (misfit (replay_one h r) rs (drop 1 ps)) (Some (refused_at (get_or ps 0 0) r)) ≡ None → Reaches base (replay h (r ∷ rs)).log
    by_fit further true fit none = further fit none
    by_fit further false fit none = no_misfit _ _ none

no_start : (P : Type 0) (e : HomeFail) (s : Start) → ◌≡◌ {A = Result Start HomeFail} (Err e) (Ok s) → P
no_start P e s is = absurd cc

start_of : Result Start HomeFail → Start → Start
start_of (Ok s) d = s
start_of (Err e) d = d

-- what is left of a start
start_reaches : (base slot : ℕ) (s t : Start) (rs : List Record) (ps : List ℕ) → restarted slot s rs ps ≡ Ok t → Reaches base s.held.log → Reaches base t.held.log
unfolding restarted start_of
start_reaches base slot s t rs ps is reaches = by_misfit (misfit s.held rs ps) refl is
  where
    by_misfit : (o : Option ℕ) → misfit s.held rs ps ≡ o → unless slot o (started s rs) ≡ Ok t → Reaches base t.held.log
    by_misfit None none is = subst (λ (u : Start). Reaches base u.held.log) (ap (λ (r : Result Start HomeFail). start_of r s) is) (all_reach base s.held rs ps none reaches)
    by_misfit (Some at) none is = no_start _ _ t is

pub found_within : (slot : ℕ) (image : Option Snapshot) (rs : List Record) (ps : List ℕ) (t : Start) → (base_of image).base ≤ 2 ^ 62 → restarted slot (blank_start image) rs ps ≡ Ok t → IsWithin image t.held.log.entries
found_within slot image rs ps t limit is =
    let r = start_reaches (base_of image).base slot (blank_start image) t rs ps is (record { behind = refl; within = at_base image limit }) in
    let behind : t.held.log.base ≡ (base_of image).base = r.behind in
    let within : t.held.log.base + length t.held.log.entries ≤ 2 ^ 62 = r.within in
    omega (arith, behind, within)
  where
    at_base : (i : Option Snapshot) → (base_of i).base ≤ 2 ^ 62 → last_index (base_of i) ≤ 2 ^ 62
    at_base None le = omega (arith, le)
    at_base (Some s) le = omega (arith, le)
