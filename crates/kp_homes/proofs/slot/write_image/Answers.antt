use Rattle.std.proofs.Common.{Some, length, ◌∙◌, ap, refl}
use Rattle.std.proofs.lemmas.Result.{on_ok_weaker}
use Rattle.std.specs.Option.{option_map}
use Rattle.kp_io.specs.Crash.{HasFront}
use Rattle.kp_io.specs.Disks.{written_at, cut_to}
use Rattle.kp_io.proofs.Behind.{had_room}
use Rattle.kp_journal.proofs.Staging.{either_way}
use Rattle.kp_homes.proofs.Known.{known, wrote_known, cut_known, synced_known, known_leaves, known_settled, failed_write, failed_cut, failed_sync}
use Rattle.kp_homes.proofs.Two.{image_is}
use Rattle.kp_journal.proofs.Leaving.{sync_left}
use Rattle.kp_homes.proofs.slot.write_image.Goals as goal

pub returns-in_err-write_at-clause-crash : goal.returns-in_err-write_at-clause-crash
returns-in_err-write_at-clause-crash g c xs held is room =
    let Q = HasFront 0 xs in
    (failed_write _ _ _ Q _ _ _ _ 0 (length c.args.image.now) (known _ Q xs _ is refl) c.write_at.ensures.moment room c.in_err-write_at.ensures.past_err (λ d left. refl))

pub returns-in_err-cut-clause-crash : goal.returns-in_err-cut-clause-crash
returns-in_err-cut-clause-crash g c xs held is room =
    let Q = HasFront 0 xs in
    let room1 = had_room _ _ c.cut.ensures.moment room in
    let k1 = wrote_known _ _ _ Q _ _ _ _ 0 (length c.args.image.now) (known _ Q xs _ is refl) c.write_at.ensures.moment room1 c.in_ok-write_at.ensures.past (λ d left. refl) in
    (failed_cut _ _ _ Q _ _ _ _ (length c.args.image.now) k1 c.cut.ensures.moment room c.in_err-cut.ensures.past_err (λ d left. refl))

pub returns-clause-settled : goal.returns-clause-settled
returns-clause-settled g c xs held is room =
    let Q = HasFront 0 xs in
    let room2 = had_room _ _ c.sync.ensures.moment room in
    let room1 = had_room _ _ c.cut.ensures.moment room2 in
    let k1 = wrote_known _ _ _ Q _ _ _ _ 0 (length c.args.image.now) (known _ Q xs _ is refl) c.write_at.ensures.moment room1 c.in_ok-write_at.ensures.past (λ d left. refl) in
    let k2 = cut_known _ _ _ Q _ _ _ _ (length c.args.image.now) k1 c.cut.ensures.moment room2 c.in_ok-cut.ensures.past (λ d left. refl) in
    let h = c.in_ok-cut.ensures.bytes ∙ ap (option_map (cut_to (length c.args.image.now))) (c.in_ok-write_at.ensures.bytes ∙ ap (option_map (written_at 0 c.args.image.now)) held) ∙ ap Some (image_is c.args.image.now xs) in
    on_ok_weaker c.sync.result (λ was. known_settled _ _ Q c.args.image.now _ _ (synced_known _ _ _ Q _ c.args.image.now _ _ _ k2 c.sync.ensures.moment room was (λ d left. refl) refl))
    (c.sync.ensures.past c.args.image.now h)

pub returns-clause-crash : goal.returns-clause-crash
returns-clause-crash g c xs held is room =
    let Q = HasFront 0 xs in
    let room2 = had_room _ _ c.sync.ensures.moment room in
    let room1 = had_room _ _ c.cut.ensures.moment room2 in
    let k1 = wrote_known _ _ _ Q _ _ _ _ 0 (length c.args.image.now) (known _ Q xs _ is refl) c.write_at.ensures.moment room1 c.in_ok-write_at.ensures.past (λ d left. refl) in
    let k2 = cut_known _ _ _ Q _ _ _ _ (length c.args.image.now) k1 c.cut.ensures.moment room2 c.in_ok-cut.ensures.past (λ d left. refl) in
    let h = c.in_ok-cut.ensures.bytes ∙ ap (option_map (cut_to (length c.args.image.now))) (c.in_ok-write_at.ensures.bytes ∙ ap (option_map (written_at 0 c.args.image.now)) held) ∙ ap Some (image_is c.args.image.now xs) in
    either_way c.sync.result (c.sync.ensures.past c.args.image.now h) c.sync.ensures.past_err
    (λ was. known_leaves _ _ Q _ _ _ (synced_known _ _ _ Q _ c.args.image.now _ _ _ k2 c.sync.ensures.moment room was (λ d left. refl) refl))
    (λ was. (failed_sync _ _ _ Q _ _ _ _ k2 c.sync.ensures.moment room was (λ d left. refl)))

pub returns-clause-left : goal.returns-clause-left
returns-clause-left g c = sync_left c.sync.result _ _ _ _ _ c.sync.ensures.keeps c.sync.ensures.past c.sync.ensures.past_err c.sync.ensures.was_left
