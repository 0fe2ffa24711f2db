use Rattle.std.proofs.Common.{◌+◌, ◌<◌, [], ◌∷◌, length, ⊎_elim, ◌∙◌, ap, arith}
use Rattle.std.proofs.lemmas.Result.{on_ok_weaker}
use Rattle.std.specs.Option.{option_map}
use Rattle.kp_io.specs.Crash.{HasFront}
use Rattle.kp_io.specs.Disks.{written_at}
use Rattle.kp_io.proofs.Behind.{had_room, stepped, begun, unsynced_behind, synced_behind, synced_settled, behind_leaves, passes}
use Rattle.kp_journal.specs.Gates.{staged}
use Rattle.kp_journal.proofs.Leaving.{sync_left}
use Rattle.kp_journal.proofs.Staging.{held_staged, staged_front, either_way, some_of, writes_on}
use Rattle.kp_journal.proofs.gate.stage.Goals as goal

pub returns-in_err-write_at-clause-crash : goal.returns-in_err-write_at-clause-crash
returns-in_err-write_at-clause-crash g c xs held is room =
    let k = c.args.gate + 1 in
    let lt = some_of _ (λ l. c.args.gate < length l) xs c.requires.there held in
    let b0 = begun c.args.moments.now k xs _ (omega (arith, lt)) is in
    ⊎_elim (λ was. behind_leaves _ _ k xs _ _ (writes_on _ _ _ k xs _ _ _ k _ b0 c.write_at.ensures.moment room was (omega arith)))
    (λ same. passes _ _ _ (HasFront k xs) _ _ _ (behind_leaves _ _ k xs _ _ b0) c.write_at.ensures.moment same) c.in_err-write_at.ensures.past_err

pub returns-in_err-write_at-2-clause-crash : goal.returns-in_err-write_at-2-clause-crash
returns-in_err-write_at-2-clause-crash g c xs held is room =
    let k = c.args.gate + 1 in
    let lt = some_of _ (λ l. c.args.gate < length l) xs c.requires.there held in
    let b0 = begun c.args.moments.now k xs _ (omega (arith, lt)) is in
    let room1 = had_room _ _ c.write_at-2.ensures.moment room in
    let b1 = writes_on _ _ _ k xs _ _ _ k _ b0 c.write_at.ensures.moment room1 c.in_ok-write_at.ensures.past (omega arith) in
    ⊎_elim (λ was. behind_leaves _ _ k xs _ _ (writes_on _ _ _ k xs _ _ _ (c.args.gate + 5) (length c.args.body.now) b1 c.write_at-2.ensures.moment room was (omega arith)))
    (λ same. passes _ _ _ (HasFront k xs) _ _ _ (behind_leaves _ _ k xs _ _ b1) c.write_at-2.ensures.moment same) c.in_err-write_at-2.ensures.past_err

pub returns-in_err-write_at-3-clause-crash : goal.returns-in_err-write_at-3-clause-crash
returns-in_err-write_at-3-clause-crash g c xs held is room =
    let k = c.args.gate + 1 in
    let lt = some_of _ (λ l. c.args.gate < length l) xs c.requires.there held in
    let b0 = begun c.args.moments.now k xs _ (omega (arith, lt)) is in
    let room2 = had_room _ _ c.write_at-3.ensures.moment room in
    let room1 = had_room _ _ c.write_at-2.ensures.moment room2 in
    let b1 = writes_on _ _ _ k xs _ _ _ k _ b0 c.write_at.ensures.moment room1 c.in_ok-write_at.ensures.past (omega arith) in
    let b2 = writes_on _ _ _ k xs _ _ _ (c.args.gate + 5) (length c.args.body.now) b1 c.write_at-2.ensures.moment room2 c.in_ok-write_at-2.ensures.past (omega arith) in
    ⊎_elim (λ was. behind_leaves _ _ k xs _ _ (writes_on _ _ _ k xs _ _ _ (c.args.gate + 5 + length c.args.body.now) 1 b2 c.write_at-3.ensures.moment room was (omega arith)))
    (λ same. passes _ _ _ (HasFront k xs) _ _ _ (behind_leaves _ _ k xs _ _ b2) c.write_at-3.ensures.moment same) c.in_err-write_at-3.ensures.past_err

pub returns-clause-held : goal.returns-clause-held
returns-clause-held g c =
    let is = c.to_be_bytes-length.ensures in
    let h2 = c.in_ok-write_at-2.ensures.bytes ∙ ap (option_map (written_at (c.args.gate + 5) c.args.body.now)) c.in_ok-write_at.ensures.bytes in
    let h3 = c.in_ok-write_at-3.ensures.bytes ∙ ap (option_map (written_at (c.args.gate + 5 + length c.args.body.now) (0 ∷ []))) h2 in
    on_ok_weaker c.sync.result (λ keeps. held_staged c.args.gate c.to_be_bytes-length.result c.args.body.now _ _ c.requires.there (ap length is) is (keeps ∙ h3)) c.sync.ensures.keeps

pub returns-clause-settled : goal.returns-clause-settled
returns-clause-settled g c xs held is room =
    let k = c.args.gate + 1 in
    let lt = some_of _ (λ l. c.args.gate < length l) xs c.requires.there held in
    let len = c.to_be_bytes-length.ensures in
    let h2 = c.in_ok-write_at-2.ensures.bytes ∙ ap (option_map (written_at (c.args.gate + 5) c.args.body.now)) c.in_ok-write_at.ensures.bytes in
    let h3 = c.in_ok-write_at-3.ensures.bytes ∙ ap (option_map (written_at (c.args.gate + 5 + length c.args.body.now) (0 ∷ []))) h2 in
    let h = held_staged c.args.gate c.to_be_bytes-length.result c.args.body.now _ _ c.requires.there (ap length len) len h3 ∙ ap (option_map (staged c.args.gate c.args.body.now)) held in
    let b0 = begun c.args.moments.now k xs _ (omega (arith, lt)) is in
    let room3 = had_room _ _ c.sync.ensures.moment room in
    let room2 = had_room _ _ c.write_at-3.ensures.moment room3 in
    let room1 = had_room _ _ c.write_at-2.ensures.moment room2 in
    let b1 = writes_on _ _ _ k xs _ _ _ k _ b0 c.write_at.ensures.moment room1 c.in_ok-write_at.ensures.past (omega arith) in
    let b2 = writes_on _ _ _ k xs _ _ _ (c.args.gate + 5) (length c.args.body.now) b1 c.write_at-2.ensures.moment room2 c.in_ok-write_at-2.ensures.past (omega arith) in
    let b3 = writes_on _ _ _ k xs _ _ _ (c.args.gate + 5 + length c.args.body.now) 1 b2 c.write_at-3.ensures.moment room3 c.in_ok-write_at-3.ensures.past (omega arith) in
    on_ok_weaker c.sync.result (λ was. synced_settled _ _ _ (HasFront k xs) (staged c.args.gate c.args.body.now xs) _ _ _ (behind_leaves _ _ k xs _ _ b3) (stepped _ _ c.sync.ensures.moment room) was)
    (c.sync.ensures.past (staged c.args.gate c.args.body.now xs) h)

pub returns-clause-crash : goal.returns-clause-crash
returns-clause-crash g c xs held is room =
    let k = c.args.gate + 1 in
    let lt = some_of _ (λ l. c.args.gate < length l) xs c.requires.there held in
    let len = c.to_be_bytes-length.ensures in
    let h2 = c.in_ok-write_at-2.ensures.bytes ∙ ap (option_map (written_at (c.args.gate + 5) c.args.body.now)) c.in_ok-write_at.ensures.bytes in
    let h3 = c.in_ok-write_at-3.ensures.bytes ∙ ap (option_map (written_at (c.args.gate + 5 + length c.args.body.now) (0 ∷ []))) h2 in
    let h = held_staged c.args.gate c.to_be_bytes-length.result c.args.body.now _ _ c.requires.there (ap length len) len h3 ∙ ap (option_map (staged c.args.gate c.args.body.now)) held in
    let b0 = begun c.args.moments.now k xs _ (omega (arith, lt)) is in
    let room3 = had_room _ _ c.sync.ensures.moment room in
    let room2 = had_room _ _ c.write_at-3.ensures.moment room3 in
    let room1 = had_room _ _ c.write_at-2.ensures.moment room2 in
    let b1 = writes_on _ _ _ k xs _ _ _ k _ b0 c.write_at.ensures.moment room1 c.in_ok-write_at.ensures.past (omega arith) in
    let b2 = writes_on _ _ _ k xs _ _ _ (c.args.gate + 5) (length c.args.body.now) b1 c.write_at-2.ensures.moment room2 c.in_ok-write_at-2.ensures.past (omega arith) in
    let b3 = writes_on _ _ _ k xs _ _ _ (c.args.gate + 5 + length c.args.body.now) 1 b2 c.write_at-3.ensures.moment room3 c.in_ok-write_at-3.ensures.past (omega arith) in
    either_way c.sync.result (c.sync.ensures.past (staged c.args.gate c.args.body.now xs) h) c.sync.ensures.past_err
    (λ was. synced_behind _ _ _ k xs (staged c.args.gate c.args.body.now xs) _ _ _ b3 (stepped _ _ c.sync.ensures.moment room) was (staged_front c.args.gate c.args.body.now xs lt))
    (⊎_elim (λ was. behind_leaves _ _ k xs _ _ (unsynced_behind _ _ _ k xs _ _ _ b3 (stepped _ _ c.sync.ensures.moment room) was))
    (λ same. passes _ _ _ (HasFront k xs) _ _ _ (behind_leaves _ _ k xs _ _ b3) c.sync.ensures.moment same))

pub returns-clause-left : goal.returns-clause-left
returns-clause-left g c = sync_left c.sync.result _ _ _ _ _ c.sync.ensures.keeps c.sync.ensures.past c.sync.ensures.past_err c.sync.ensures.was_left
