-- What opening finds in a new slot.
use Rattle.std.proofs.Common.{◌≡◌, ℕ, true, List, [], Option, Result, Ok, refl, ◌∙◌, ap}
use Rattle.kp_entry.specs.declared.record.Record.{Record}
use Rattle.kp_journal.specs.declared.head.Head.{Head}
use Rattle.kp_journal.specs.Journals.{unread}
use Rattle.kp_snapshot.specs.Snapshots.{Snapshot}
use Rattle.kp_homes.specs.declared.fail.HomeFail.{HomeFail}
use Rattle.kp_homes.specs.Stands.{made}
use Rattle.kp_homes.specs.Opening.{Start, found_in, are_fit, image_in, blank_start, with_start, behind_image, restarted}
use Rattle.kp_homes.specs.Replays.{made_found}
use Rattle.kp_homes.proofs.Lifting.{found_more}

no_records : (i : Option Snapshot) → restarted 0 (blank_start i) [] [] ≡ Ok (blank_start i)
unfolding restarted
no_records i = refl

pub slot_found : (l : ℕ) (h : Head) (bytes : List ℕ) (i : Option Snapshot) (rs : List Record) → image_in 0 bytes ≡ Ok i → are_fit (blank_start i).held rs ≡ true → found_in l (Ok (made h bytes rs)) ≡ Ok (made_found i rs)
slot_found l h bytes i rs is fits =
    let before : found_in 0 (Ok (record { image = bytes; journal = unread h 22 })) ≡ Ok (record { image = i; start = blank_start i }) =
    ap (λ (r : Result (Option Snapshot) HomeFail). behind_image 0 (unread h 22).run r) is ∙ ap (λ (r : Result Start HomeFail). with_start i r) (no_records i) in
    found_more 0 l (record { image = bytes; journal = unread h 22 }) (record { image = i; start = blank_start i }) rs before fits
