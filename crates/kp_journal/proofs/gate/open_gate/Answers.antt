use Rattle.std.proofs.Common.{Some, ◌<◌, [], ◌∷◌, length, ⊎_elim, ◌∙◌, ap}
use Rattle.std.proofs.lemmas.Result.{on_ok_weaker}
use Rattle.std.specs.Option.{option_map}
use Rattle.kp_io.specs.Crash.{IsButFor}
use Rattle.kp_io.specs.Disks.{written_at}
use Rattle.kp_io.proofs.Behind.{had_room, stepped, byte_written, byte_unsynced, byte_synced, synced_settled, torn_run, passes, same_but_for}
use Rattle.kp_journal.specs.Gates.{opened}
use Rattle.kp_journal.proofs.Leaving.{sync_left}
use Rattle.kp_journal.proofs.Staging.{still, held_opened, opened_is, opened_but, either_way, some_of}
use Rattle.kp_journal.proofs.gate.open_gate.Goals as goal

pub returns-in_err-write_at-clause-crash : goal.returns-in_err-write_at-clause-crash
returns-in_err-write_at-clause-crash g c xs held is room =
    let lt = some_of _ (λ l. c.args.gate < length l) xs c.requires.there held in
    ⊎_elim (λ was. torn_run _ _ c.args.gate xs _ _ (byte_written _ _ c.args.gate xs _ _ is (stepped _ _ c.write_at.ensures.moment room) was lt))
    (λ same. passes _ _ _ (IsButFor c.args.gate xs) _ _ _ (still _ (IsButFor c.args.gate xs) xs _ is (same_but_for c.args.gate xs lt)) c.write_at.ensures.moment same) c.in_err-write_at.ensures.past_err

pub returns-clause-held : goal.returns-clause-held
returns-clause-held g c = on_ok_weaker c.sync.result (λ keeps. held_opened c.args.gate _ _ (keeps ∙ c.in_ok-write_at.ensures.bytes)) c.sync.ensures.keeps

pub returns-clause-settled : goal.returns-clause-settled
returns-clause-settled g c xs held is room =
    let lt = some_of _ (λ l. c.args.gate < length l) xs c.requires.there held in
    let h1 = c.in_ok-write_at.ensures.bytes ∙ ap (option_map (written_at c.args.gate (1 ∷ []))) held ∙ ap Some (opened_is c.args.gate xs) in
    let room1 = had_room _ _ c.sync.ensures.moment room in
    let torn = byte_written _ _ c.args.gate xs _ _ is (stepped _ _ c.write_at.ensures.moment room1) c.in_ok-write_at.ensures.past lt in
    on_ok_weaker c.sync.result (λ was. synced_settled _ _ _ (IsButFor c.args.gate xs) (opened c.args.gate xs) _ _ _ (torn_run _ _ c.args.gate xs _ _ torn) (stepped _ _ c.sync.ensures.moment room) was)
    (c.sync.ensures.past (opened c.args.gate xs) h1)

pub returns-clause-crash : goal.returns-clause-crash
returns-clause-crash g c xs held is room =
    let lt = some_of _ (λ l. c.args.gate < length l) xs c.requires.there held in
    let h1 = c.in_ok-write_at.ensures.bytes ∙ ap (option_map (written_at c.args.gate (1 ∷ []))) held ∙ ap Some (opened_is c.args.gate xs) in
    let room1 = had_room _ _ c.sync.ensures.moment room in
    let torn = byte_written _ _ c.args.gate xs _ _ is (stepped _ _ c.write_at.ensures.moment room1) c.in_ok-write_at.ensures.past lt in
    either_way c.sync.result (c.sync.ensures.past (opened c.args.gate xs) h1) c.sync.ensures.past_err
    (λ was. byte_synced _ _ _ c.args.gate xs (opened c.args.gate xs) _ _ _ torn (stepped _ _ c.sync.ensures.moment room) was (opened_but c.args.gate xs))
    (⊎_elim (λ was. byte_unsynced _ _ _ c.args.gate xs _ _ _ torn (stepped _ _ c.sync.ensures.moment room) was)
    (λ same. passes _ _ _ (IsButFor c.args.gate xs) _ _ _ (torn_run _ _ c.args.gate xs _ _ torn) c.sync.ensures.moment same))

pub returns-clause-left : goal.returns-clause-left
returns-clause-left g c = sync_left c.sync.result _ _ _ _ _ c.sync.ensures.keeps c.sync.ensures.past c.sync.ensures.past_err c.sync.ensures.was_left
