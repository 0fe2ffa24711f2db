-- Records behind what opening finds.
use Rattle.std.proofs.Common.{◌≡◌, ℕ, ◌+◌, Bool, true, false, cond, List, [], ◌∷◌, ◌++◌, drop, get_or, Option, Some, None, Result, Ok, Err, refl, sym, ◌∙◌, ap, subst}
use Rattle.std.specs.Prelude.{◌&&◌}
use Rattle.std.proofs.lemmas.Option.{none-some}
use Rattle.kp_jute.specs.declared.fault.JuteFail.{JuteFail}
use Rattle.kp_jute.specs.Form.{whole}
use Rattle.kp_entry.specs.declared.record.Record.{Record}
use Rattle.kp_entry.specs.Held.{Held, replay_one, replay}
use Rattle.kp_entry.proofs.Replays.{replay_append}
use Rattle.kp_journal.specs.Frames.{Run, then_run}
use Rattle.kp_journal.specs.Journals.{run_of}
use Rattle.kp_snapshot.specs.Snapshots.{Snapshot, images}
use Rattle.kp_homes.specs.declared.fail.HomeFail.{HomeFail}
use Rattle.kp_homes.specs.Stands.{Stand, with_more}
use Rattle.kp_homes.specs.Opening.{Start, Found, boot_by, boot_after, started, is_fit, are_fit, refused_at, misfit, unless, restarted, image_read, image_in, blank_start, with_start, behind_image, found_in, with_records}

bad : {A : Type 0} (P : Type 0) (e : HomeFail) (x : A) → ◌≡◌ {A = Result A HomeFail} (Err e) (Ok x) → P
bad P e x is = absurd cc

boot_append : (b : ℕ) (rs ss : List Record) → boot_after b (rs ++ ss) ≡ boot_after (boot_after b rs) ss
boot_append b [] ss = refl
boot_append b (r ∷ rs) ss = boot_append (boot_by b r) rs ss

pub started_append : (s : Start) (rs ss : List Record) → started s (rs ++ ss) ≡ started (started s rs) ss
started_append s rs ss =
    ap (λ (b : ℕ). record { boot = b; held = replay s.held (rs ++ ss) }) (boot_append s.boot rs ss)
    ∙ ap (λ (h : Held). record { boot = boot_after (boot_after s.boot rs) ss; held = h }) (replay_append s.held rs ss)

-- ---- records that may stand

fit_both : (a b : Bool) → (a && b) ≡ true → (a ≡ true) × (b ≡ true)
fit_both true b e = (refl, e)
fit_both false b e = absurd cc

fits_first : (h : Held) (r : Record) (rs : List Record) (ps : List ℕ) (b : Bool) → is_fit h.log r ≡ b → cond b (misfit (replay_one h r) rs (drop 1 ps)) (Some (refused_at (get_or ps 0 0) r)) ≡ None
    → (is_fit h.log r ≡ true) × (misfit (replay_one h r) rs (drop 1 ps) ≡ None)
fits_first h r rs ps true is e = (is, e)
fits_first h r rs ps false is e = absurd (none-some _ (sym e))

fits_of : (h : Held) (rs : List Record) (ps : List ℕ) → misfit h rs ps ≡ None → are_fit h rs ≡ true
fits_of h [] ps e = refl
fits_of h (r ∷ rs) ps e =
    let first = fits_first h r rs ps (is_fit h.log r) refl e in
    ap (λ (b : Bool). b && are_fit (replay_one h r) rs) first.0 ∙ fits_of (replay_one h r) rs (drop 1 ps) first.1

pub none_of : (h : Held) (rs : List Record) (ps : List ℕ) → are_fit h rs ≡ true → misfit h rs ps ≡ None
none_of h [] ps e = refl
none_of h (r ∷ rs) ps e =
    let both = fit_both (is_fit h.log r) (are_fit (replay_one h r) rs) e in
    ap (λ (b : Bool). cond b (misfit (replay_one h r) rs (drop 1 ps)) (Some (refused_at (get_or ps 0 0) r))) both.0 ∙ none_of (replay_one h r) rs (drop 1 ps) both.1

fits_append : (h : Held) (rs ss : List Record) → are_fit h rs ≡ true → are_fit (replay h rs) ss ≡ true → are_fit h (rs ++ ss) ≡ true
fits_append h [] ss a b = b
fits_append h (r ∷ rs) ss a b =
    let both = fit_both (is_fit h.log r) (are_fit (replay_one h r) rs) a in
    ap (λ (t : Bool). t && are_fit (replay_one h r) (rs ++ ss)) both.0 ∙ fits_append (replay_one h r) rs ss both.1 b

-- ---- what a slot's records leave

restarted_ok : (k : ℕ) (s t : Start) (rs : List Record) (ps : List ℕ) → restarted k s rs ps ≡ Ok t → (misfit s.held rs ps ≡ None) × (started s rs ≡ t)
unfolding restarted
restarted_ok k s t rs ps e = by_test (misfit s.held rs ps) refl e
  where
    by_test : (o : Option ℕ) → misfit s.held rs ps ≡ o → unless k o (started s rs) ≡ Ok t → (misfit s.held rs ps ≡ None) × (started s rs ≡ t)
    by_test None is e = (is, same e)
      where
        start_in : Result Start HomeFail → Start
        start_in (Ok x) = x
        start_in (Err f) = started s rs

        same : ◌≡◌ {A = Result Start HomeFail} (Ok (started s rs)) (Ok t) → started s rs ≡ t
        same e = ap start_in e
    by_test (Some at) is e = bad _ _ t e

restarted_is : (k : ℕ) (s : Start) (rs : List Record) (ps : List ℕ) → misfit s.held rs ps ≡ None → restarted k s rs ps ≡ Ok (started s rs)
unfolding restarted
restarted_is k s rs ps e = ap (λ (o : Option ℕ). unless k o (started s rs)) e

-- the same in another slot, and with more records
pub restarted_more : (k l : ℕ) (s t : Start) (rs ss : List Record) (ps qs : List ℕ) → restarted k s rs ps ≡ Ok t → are_fit t.held ss ≡ true → restarted l s (rs ++ ss) qs ≡ Ok (started t ss)
restarted_more k l s t rs ss ps qs e fits =
    let was = restarted_ok k s t rs ps e in
    let all = fits_append s.held rs ss (fits_of s.held rs ps was.0) (subst (λ (x : Start). are_fit x.held ss ≡ true) (sym was.1) fits) in
    restarted_is l s (rs ++ ss) qs (none_of s.held (rs ++ ss) qs all) ∙ ap (λ (x : Start). Ok x) (started_append s rs ss ∙ ap (λ (x : Start). started x ss) was.1)

found_start : (image : Option Snapshot) (r : Result Start HomeFail) (f : Found) → with_start image r ≡ Ok f → (r ≡ Ok f.start) × (image ≡ f.image)
found_start image (Ok s) f e = (ap (λ (x : Result Found HomeFail). start_in x) e, ap image_of e)
  where
    start_in : Result Found HomeFail → Result Start HomeFail
    start_in (Ok x) = Ok x.start
    start_in (Err g) = Err g

    image_of : Result Found HomeFail → Option Snapshot
    image_of (Ok x) = x.image
    image_of (Err g) = None
found_start image (Err g) f e = bad _ g f e

image_ok : (k l : ℕ) (bytes : List ℕ) (i : Option Snapshot) → image_in k bytes ≡ Ok i → image_in l bytes ≡ Ok i
unfolding image_in
image_ok k l [] i e = e
image_ok k l (b ∷ bytes) i e = by_case (whole images (b ∷ bytes)) e
  where
    by_case : (r : Result Snapshot JuteFail) → image_read k r ≡ Ok i → image_read l r ≡ Ok i
    by_case (Ok s) e = e
    by_case (Err f) e = bad _ _ i e

image_of_found : (k : ℕ) (run : Run) (r : Result (Option Snapshot) HomeFail) (f : Found) → behind_image k run r ≡ Ok f → r ≡ Ok f.image
image_of_found k run (Ok i) f e = ap (λ (x : Option Snapshot). Ok x) (found_start i _ f e).1
image_of_found k run (Err g) f e = bad _ g f e

-- a slot with more records, in whichever slot
pub found_more : (k l : ℕ) (v : Stand) (f : Found) (rs : List Record) → found_in k (Ok v) ≡ Ok f → are_fit f.start.held rs ≡ true → found_in l (Ok (with_more rs v)) ≡ Ok (with_records rs f)
found_more k l v f rs e fits =
    let run = v.journal.run in
    let more = then_run run (run_of (v.journal.gate + 5) rs) in
    let image = image_of_found k run (image_in k v.image) f e in
    let there = ap (λ (r : Result (Option Snapshot) HomeFail). behind_image k run r) (sym image) ∙ e in
    let start = (found_start f.image (restarted k (blank_start f.image) run.records run.places) f there).0 in
    ap (λ (r : Result (Option Snapshot) HomeFail). behind_image l more r) (image_ok k l v.image f.image image)
    ∙ ap (λ (r : Result Start HomeFail). with_start f.image r) (restarted_more k l (blank_start f.image) f.start run.records rs run.places more.places start fits)

-- the same value in the other slot
pub found_either : (k l : ℕ) (v : Stand) (f : Found) → found_in k (Ok v) ≡ Ok f → found_in l (Ok v) ≡ Ok f
found_either k l v f e =
    let run = v.journal.run in
    let image = image_of_found k run (image_in k v.image) f e in
    let there = ap (λ (r : Result (Option Snapshot) HomeFail). behind_image k run r) (sym image) ∙ e in
    let start = (found_start f.image (restarted k (blank_start f.image) run.records run.places) f there).0 in
    let was = restarted_ok k (blank_start f.image) f.start run.records run.places start in
    ap (λ (r : Result (Option Snapshot) HomeFail). behind_image l run r) (image_ok k l v.image f.image image)
    ∙ ap (λ (r : Result Start HomeFail). with_start f.image r) (restarted_is l (blank_start f.image) run.records run.places was.0 ∙ ap (λ (x : Start). Ok x) was.1)
