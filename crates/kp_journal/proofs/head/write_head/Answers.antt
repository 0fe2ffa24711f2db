use Rattle.std.proofs.Common.{◌<◌, length, ⊎_elim, ◌∙◌, ap, arith}
use Rattle.std.proofs.lemmas.Result.{on_ok_weaker}
use Rattle.std.specs.Option.{option_map}
use Rattle.kp_io.specs.Crash.{HasFront}
use Rattle.kp_io.specs.Disks.{cut_to}
use Rattle.kp_io.proofs.Behind.{had_room, stepped, begun, cut_behind, unsynced_behind, synced_behind, synced_settled, behind_leaves, passes}
use Rattle.kp_journal.specs.Heads.{headed}
use Rattle.kp_journal.proofs.Leaving.{sync_left}
use Rattle.kp_journal.proofs.Staging.{either_way, some_of, writes_on}
use Rattle.kp_journal.proofs.HeadBytes.{held_headed, headed_front}
use Rattle.kp_journal.proofs.head.write_head.Goals as goal

pub returns-in_err-write_at-clause-crash : goal.returns-in_err-write_at-clause-crash
returns-in_err-write_at-clause-crash g c xs held is room =
    let lt = some_of _ (λ l. 0 < length l) xs c.requires held in
    let b0 = begun c.args.moments.now 1 xs _ (omega (arith, lt)) is in
    ⊎_elim (λ was. behind_leaves _ _ 1 xs _ _ (writes_on _ _ _ 1 xs _ _ _ 1 _ b0 c.write_at.ensures.moment room was (omega arith)))
    (λ same. passes _ _ _ (HasFront 1 xs) _ _ _ (behind_leaves _ _ 1 xs _ _ b0) c.write_at.ensures.moment same) c.in_err-write_at.ensures.past_err

pub returns-in_err-cut-clause-crash : goal.returns-in_err-cut-clause-crash
returns-in_err-cut-clause-crash g c xs held is room =
    let lt = some_of _ (λ l. 0 < length l) xs c.requires held in
    let b0 = begun c.args.moments.now 1 xs _ (omega (arith, lt)) is in
    let room1 = had_room _ _ c.cut.ensures.moment room in
    let b1 = writes_on _ _ _ 1 xs _ _ _ 1 _ b0 c.write_at.ensures.moment room1 c.in_ok-write_at.ensures.past (omega arith) in
    ⊎_elim (λ was. behind_leaves _ _ 1 xs _ _ (cut_behind _ _ _ 1 xs _ _ _ 23 b1 (stepped _ _ c.cut.ensures.moment room) was (omega arith)))
    (λ same. passes _ _ _ (HasFront 1 xs) _ _ _ (behind_leaves _ _ 1 xs _ _ b1) c.cut.ensures.moment same) c.in_err-cut.ensures.past_err

pub returns-clause-held : goal.returns-clause-held
returns-clause-held g c =
    let h = c.in_ok-cut.ensures.bytes ∙ ap (option_map (cut_to 23)) c.in_ok-write_at.ensures.bytes in
    on_ok_weaker c.sync.result (λ keeps. held_headed c.args.head _ _ _ c.requires c.head_bytes-bytes.ensures (keeps ∙ h)) c.sync.ensures.keeps

pub returns-clause-settled : goal.returns-clause-settled
returns-clause-settled g c xs held is room =
    let lt = some_of _ (λ l. 0 < length l) xs c.requires held in
    let h = held_headed c.args.head _ _ _ c.requires c.head_bytes-bytes.ensures (c.in_ok-cut.ensures.bytes ∙ ap (option_map (cut_to 23)) c.in_ok-write_at.ensures.bytes) ∙ ap (option_map (headed c.args.head)) held in
    let b0 = begun c.args.moments.now 1 xs _ (omega (arith, lt)) is in
    let room2 = had_room _ _ c.sync.ensures.moment room in
    let room1 = had_room _ _ c.cut.ensures.moment room2 in
    let b1 = writes_on _ _ _ 1 xs _ _ _ 1 _ b0 c.write_at.ensures.moment room1 c.in_ok-write_at.ensures.past (omega arith) in
    let b2 = cut_behind _ _ _ 1 xs _ _ _ 23 b1 (stepped _ _ c.cut.ensures.moment room2) c.in_ok-cut.ensures.past (omega arith) in
    on_ok_weaker c.sync.result (λ was. synced_settled _ _ _ (HasFront 1 xs) (headed c.args.head xs) _ _ _ (behind_leaves _ _ 1 xs _ _ b2) (stepped _ _ c.sync.ensures.moment room) was)
    (c.sync.ensures.past (headed c.args.head xs) h)

pub returns-clause-crash : goal.returns-clause-crash
returns-clause-crash g c xs held is room =
    let lt = some_of _ (λ l. 0 < length l) xs c.requires held in
    let h = held_headed c.args.head _ _ _ c.requires c.head_bytes-bytes.ensures (c.in_ok-cut.ensures.bytes ∙ ap (option_map (cut_to 23)) c.in_ok-write_at.ensures.bytes) ∙ ap (option_map (headed c.args.head)) held in
    let b0 = begun c.args.moments.now 1 xs _ (omega (arith, lt)) is in
    let room2 = had_room _ _ c.sync.ensures.moment room in
    let room1 = had_room _ _ c.cut.ensures.moment room2 in
    let b1 = writes_on _ _ _ 1 xs _ _ _ 1 _ b0 c.write_at.ensures.moment room1 c.in_ok-write_at.ensures.past (omega arith) in
    let b2 = cut_behind _ _ _ 1 xs _ _ _ 23 b1 (stepped _ _ c.cut.ensures.moment room2) c.in_ok-cut.ensures.past (omega arith) in
    either_way c.sync.result (c.sync.ensures.past (headed c.args.head xs) h) c.sync.ensures.past_err
    (λ was. synced_behind _ _ _ 1 xs (headed c.args.head xs) _ _ _ b2 (stepped _ _ c.sync.ensures.moment room) was (headed_front c.args.head xs lt))
    (⊎_elim (λ was. behind_leaves _ _ 1 xs _ _ (unsynced_behind _ _ _ 1 xs _ _ _ b2 (stepped _ _ c.sync.ensures.moment room) was))
    (λ same. passes _ _ _ (HasFront 1 xs) _ _ _ (behind_leaves _ _ 1 xs _ _ b2) c.sync.ensures.moment same))

pub returns-clause-left : goal.returns-clause-left
returns-clause-left g c = sync_left c.sync.result _ _ _ _ _ c.sync.ensures.keeps c.sync.ensures.past c.sync.ensures.past_err c.sync.ensures.was_left
