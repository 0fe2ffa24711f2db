-- The log that opening finds begins behind its image.
use Rattle.std.proofs.Common.{◌≡◌, ℕ, Bool, true, false, cond, List, [], ◌∷◌, drop, get_or, Option, Some, None, Result, Ok, Err, refl, ap, subst}
use Rattle.kp_entry.specs.declared.record.Record.{Record}
use Rattle.kp_entry.specs.declared.record.Record.TheVariants as record_
use Rattle.kp_entry.specs.Held.{Held, replay_one, replay}
use Rattle.kp_entry.specs.Log.{Log}
use Rattle.kp_journal.specs.Frames.{Run}
use Rattle.kp_snapshot.specs.Snapshots.{Snapshot}
use Rattle.kp_homes.specs.declared.fail.HomeFail.{HomeFail}
use Rattle.kp_homes.specs.Stands.{Bytes4, Stand, choice, stands}
use Rattle.kp_homes.specs.Opening.{Found, base_of, blank_start, is_fit, refused_at, misfit, started, unless, restarted, image_in, with_start, behind_image, found_by, live_slot, found}

pub record BasedOn (l m : Log) : Type 0 where
  pub base : m.base ≡ l.base
  pub term : m.base_term ≡ l.base_term

-- the found log begins behind the found image
abbrev pub IsBehind : Found → Type 0
IsBehind f = BasedOn (base_of f.image) f.start.held.log

none_of : (P : Type 0) (at : ℕ) → ◌≡◌ {A = Option ℕ} (Some at) None → P
none_of P at e = absurd cc

one_based : (l : Log) (h : Held) (r : Record) → is_fit h.log r ≡ true → BasedOn l h.log → BasedOn l (replay_one h r).log
one_based l h (record_.Vote term vote) fit b = b
one_based l h (record_.Boot boot) fit b = b
one_based l h (record_.Append entry) fit b = record { base = b.base; term = b.term }
one_based l h (record_.Truncate last) fit b = record { base = b.base; term = b.term }
one_based l h (record_.Base index term) fit b = absurd cc

all_based : (l : Log) (h : Held) (rs : List Record) (ps : List ℕ) → misfit h rs ps ≡ None → BasedOn l h.log → BasedOn l (replay h rs).log
all_based l h [] ps none b = b
all_based l h (r ∷ rs) ps none b = by_fit (λ fit rest. all_based l (replay_one h r) rs (drop 1 ps) rest (one_based l h r fit b)) (is_fit h.log r) refl none
  where
    by_fit : (is_fit h.log r ≡ true → misfit (replay_one h r) rs (drop 1 ps) ≡ None → BasedOn l (replay h (r ∷ rs)).log) → (b : Bool) → is_fit h.log r ≡ b
        → cond b (misfit (replay_one h r) rs (drop 1 ps)) (Some (refused_at (get_or ps 0 0) r)) ≡ None → BasedOn l (replay h (r ∷ rs)).log
    by_fit further true fit none = further fit none
    by_fit further false fit none = none_of _ _ none

not_ok : {A : Type 0} (P : Type 0) (e : HomeFail) (x : A) → ◌≡◌ {A = Result A HomeFail} (Err e) (Ok x) → P
not_ok P e x is = absurd cc

found_or : Result Found HomeFail → Found → Found
found_or (Ok f) g = f
found_or (Err e) g = g

pub same_found : (f g : Found) → ◌≡◌ {A = Result Found HomeFail} (Ok f) (Ok g) → f ≡ g
unfolding found_or
same_found f g e = ap (λ (r : Result Found HomeFail). found_or r f) e

start_behind : (slot : ℕ) (image : Option Snapshot) (rs : List Record) (ps : List ℕ) (o : Option ℕ) (f : Found) → misfit (blank_start image).held rs ps ≡ o
    → with_start image (unless slot o (started (blank_start image) rs)) ≡ Ok f → IsBehind f
start_behind slot image rs ps None f none is =
    subst IsBehind (same_found (record { image = image; start = started (blank_start image) rs }) f is) (all_based (base_of image) (blank_start image).held rs ps none (record { base = refl; term = refl }))
start_behind slot image rs ps (Some at) f none is = not_ok _ _ f is

run_behind : (slot : ℕ) (run : Run) (i : Result (Option Snapshot) HomeFail) (f : Found) → behind_image slot run i ≡ Ok f → IsBehind f
unfolding restarted
run_behind slot run (Ok image) f is = start_behind slot image run.records run.places (misfit (blank_start image).held run.records run.places) f refl is
run_behind slot run (Err e) f is = not_ok _ e f is

slot_behind : (slot : ℕ) (r : Option (Result Stand HomeFail)) (f : Found) → found_by slot r ≡ Ok f → IsBehind f
slot_behind slot None f is = subst IsBehind (same_found (record { image = None; start = blank_start None }) f is) (record { base = refl; term = refl })
slot_behind slot (Some (Ok v)) f is = run_behind slot v.journal.run (image_in slot v.image) f is
slot_behind slot (Some (Err e)) f is = not_ok _ e f is

pub found_behind : (node : ℕ) (b : Bytes4) (f : Found) → found node b ≡ Ok f → IsBehind f
unfolding found
found_behind node b f is = slot_behind (live_slot (choice b.j0 b.j1)) (stands node b) f is
