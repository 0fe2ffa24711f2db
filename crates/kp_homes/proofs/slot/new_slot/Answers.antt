use Rattle.std.proofs.Common.{ℕ, List, inl, ◌∙◌, ap, arith}
use Rattle.std.proofs.lemmas.Result.{on_ok_weaker}
use Rattle.std.specs.Option.{option_map}
use Rattle.kp_io.specs.Crash.{HasFront, HasRoom, IsButFor}
use Rattle.kp_journal.specs.Gates.{Appended, appended, opened}
use Rattle.kp_homes.specs.Slots.{Loses, closed_head, filled, IsOldOrNew}
use Rattle.kp_journal.specs.Heads.{headed}
use Rattle.kp_homes.proofs.Two.{two_start, two_first, two_second, settled_later, shut_loses, front_loses, closed_is_shut, opening_wins, batch_loses, some_byte, all_done, filled_held}
use Rattle.kp_homes.proofs.slot.new_slot.Goals as goal

pub open_gate-requires-clause-there : goal.open_gate-requires-clause-there
open_gate-requires-clause-there g c = some_byte c.args.body.now _ _ c.in_ok-append.ensures.held

pub returns-in_err-close_head-clause-crash : goal.returns-in_err-close_head-clause-crash
returns-in_err-close_head-clause-crash g c bound xj xi hj hi ij ii room loses =
    let Q = IsOldOrNew bound (filled c.args.head c.args.body.now (closed_head xj)) c.args.bytes.now in
    let t0 = two_start _ Q xj xi _ _ ij ii (inl loses) in
    two_first _ _ _ Q (Loses bound) xi _ _ _ _ _ t0 (c.close_head.ensures.crash bound xj hj ij room loses) ii (λ d left. inl left)

pub returns-in_err-write_image-clause-crash : goal.returns-in_err-write_image-clause-crash
returns-in_err-write_image-clause-crash g c bound xj xi hj hi ij ii room loses =
    let Q = IsOldOrNew bound (filled c.args.head c.args.body.now (closed_head xj)) c.args.bytes.now in
    let room1 : HasRoom c.close_head.new.moments = omega (arith, room, c.write_image.ensures.moment) in
    let t0 = two_start _ Q xj xi _ _ ij ii (inl loses) in
    let t1 = two_first _ _ _ Q (Loses bound) xi _ _ _ _ _ t0 (c.close_head.ensures.crash bound xj hj ij room1 loses) ii (λ d left. inl left) in
    let ij1 = c.in_ok-close_head.ensures.settled xj hj ij room1 in
    let ii1 = settled_later _ _ xi _ c.close_head.ensures.moment ii in
    two_second _ _ _ Q (HasFront 0 xi) (closed_head xj) _ _ _ _ _ t1 (c.write_image.ensures.crash xi hi ii1 room) ij1 (λ d left. inl (shut_loses bound (closed_head xj) (closed_is_shut xj)))

pub returns-in_err-write_head-clause-crash : goal.returns-in_err-write_head-clause-crash
returns-in_err-write_head-clause-crash g c bound xj xi hj hi ij ii room loses =
    let Q = IsOldOrNew bound (filled c.args.head c.args.body.now (closed_head xj)) c.args.bytes.now in
    let room2 : HasRoom c.write_image.new.moments = omega (arith, room, c.write_head.ensures.moment) in
    let room1 : HasRoom c.close_head.new.moments = omega (arith, room2, c.write_image.ensures.moment) in
    let t0 = two_start _ Q xj xi _ _ ij ii (inl loses) in
    let t1 = two_first _ _ _ Q (Loses bound) xi _ _ _ _ _ t0 (c.close_head.ensures.crash bound xj hj ij room1 loses) ii (λ d left. inl left) in
    let ij1 = c.in_ok-close_head.ensures.settled xj hj ij room1 in
    let ii1 = settled_later _ _ xi _ c.close_head.ensures.moment ii in
    let t2 = two_second _ _ _ Q (HasFront 0 xi) (closed_head xj) _ _ _ _ _ t1 (c.write_image.ensures.crash xi hi ii1 room2) ij1 (λ d left. inl (shut_loses bound (closed_head xj) (closed_is_shut xj))) in
    let ii2 = c.in_ok-write_image.ensures.settled xi hi ii1 room2 in
    let ij2 = settled_later _ _ (closed_head xj) _ c.write_image.ensures.moment ij1 in
    let hj1 = c.in_ok-close_head.ensures.told xj hj in
    two_first _ _ _ Q (HasFront 1 (closed_head xj)) c.args.bytes.now _ _ _ _ _ t2 (c.write_head.ensures.crash _ hj1 ij2 room) ii2 (λ d left. inl (front_loses bound (closed_head xj) d (closed_is_shut xj) left))

pub returns-in_err-append-clause-crash : goal.returns-in_err-append-clause-crash
returns-in_err-append-clause-crash g c bound xj xi hj hi ij ii room loses =
    let Q = IsOldOrNew bound (filled c.args.head c.args.body.now (closed_head xj)) c.args.bytes.now in
    let room3 : HasRoom c.write_head.new.moments = omega (arith, room, c.append.ensures.moment) in
    let room2 : HasRoom c.write_image.new.moments = omega (arith, room3, c.write_head.ensures.moment) in
    let room1 : HasRoom c.close_head.new.moments = omega (arith, room2, c.write_image.ensures.moment) in
    let t0 = two_start _ Q xj xi _ _ ij ii (inl loses) in
    let t1 = two_first _ _ _ Q (Loses bound) xi _ _ _ _ _ t0 (c.close_head.ensures.crash bound xj hj ij room1 loses) ii (λ d left. inl left) in
    let ij1 = c.in_ok-close_head.ensures.settled xj hj ij room1 in
    let ii1 = settled_later _ _ xi _ c.close_head.ensures.moment ii in
    let t2 = two_second _ _ _ Q (HasFront 0 xi) (closed_head xj) _ _ _ _ _ t1 (c.write_image.ensures.crash xi hi ii1 room2) ij1 (λ d left. inl (shut_loses bound (closed_head xj) (closed_is_shut xj))) in
    let ii2 = c.in_ok-write_image.ensures.settled xi hi ii1 room2 in
    let ij2 = settled_later _ _ (closed_head xj) _ c.write_image.ensures.moment ij1 in
    let hj1 = c.in_ok-close_head.ensures.told xj hj in
    let t3 = two_first _ _ _ Q (HasFront 1 (closed_head xj)) c.args.bytes.now _ _ _ _ _ t2 (c.write_head.ensures.crash _ hj1 ij2 room3) ii2 (λ d left. inl (front_loses bound (closed_head xj) d (closed_is_shut xj) left)) in
    let ii3 = settled_later _ _ c.args.bytes.now _ c.write_head.ensures.moment ii2 in
    let ij3 = c.in_ok-write_head.ensures.settled _ hj1 ij2 room3 in
    let hj2 = c.in_ok-write_head.ensures.held ∙ ap (option_map (headed c.args.head)) hj1 in
    two_first _ _ _ Q (Appended 22 c.args.body.now (headed c.args.head (closed_head xj))) c.args.bytes.now _ _ _ _ _ t3 (c.append.ensures.crash _ hj2 ij3 room) ii3
    (λ d left. inl (batch_loses bound c.args.head c.args.body.now (closed_head xj) d (closed_is_shut xj) left))

pub returns-clause-crash : goal.returns-clause-crash
returns-clause-crash g c bound xj xi hj hi ij ii room loses =
    let Q = IsOldOrNew bound (filled c.args.head c.args.body.now (closed_head xj)) c.args.bytes.now in
    let room4 : HasRoom c.append.new.moments = omega (arith, room, c.open_gate.ensures.moment) in
    let room3 : HasRoom c.write_head.new.moments = omega (arith, room4, c.append.ensures.moment) in
    let room2 : HasRoom c.write_image.new.moments = omega (arith, room3, c.write_head.ensures.moment) in
    let room1 : HasRoom c.close_head.new.moments = omega (arith, room2, c.write_image.ensures.moment) in
    let t0 = two_start _ Q xj xi _ _ ij ii (inl loses) in
    let t1 = two_first _ _ _ Q (Loses bound) xi _ _ _ _ _ t0 (c.close_head.ensures.crash bound xj hj ij room1 loses) ii (λ d left. inl left) in
    let ij1 = c.in_ok-close_head.ensures.settled xj hj ij room1 in
    let ii1 = settled_later _ _ xi _ c.close_head.ensures.moment ii in
    let t2 = two_second _ _ _ Q (HasFront 0 xi) (closed_head xj) _ _ _ _ _ t1 (c.write_image.ensures.crash xi hi ii1 room2) ij1 (λ d left. inl (shut_loses bound (closed_head xj) (closed_is_shut xj))) in
    let ii2 = c.in_ok-write_image.ensures.settled xi hi ii1 room2 in
    let ij2 = settled_later _ _ (closed_head xj) _ c.write_image.ensures.moment ij1 in
    let hj1 = c.in_ok-close_head.ensures.told xj hj in
    let t3 = two_first _ _ _ Q (HasFront 1 (closed_head xj)) c.args.bytes.now _ _ _ _ _ t2 (c.write_head.ensures.crash _ hj1 ij2 room3) ii2 (λ d left. inl (front_loses bound (closed_head xj) d (closed_is_shut xj) left)) in
    let ii3 = settled_later _ _ c.args.bytes.now _ c.write_head.ensures.moment ii2 in
    let ij3 = c.in_ok-write_head.ensures.settled _ hj1 ij2 room3 in
    let hj2 = c.in_ok-write_head.ensures.held ∙ ap (option_map (headed c.args.head)) hj1 in
    let t4 = two_first _ _ _ Q (Appended 22 c.args.body.now (headed c.args.head (closed_head xj))) c.args.bytes.now _ _ _ _ _ t3 (c.append.ensures.crash _ hj2 ij3 room4) ii3
    (λ d left. inl (batch_loses bound c.args.head c.args.body.now (closed_head xj) d (closed_is_shut xj) left)) in
    let ii4 = settled_later _ _ c.args.bytes.now _ c.append.ensures.moment ii3 in
    let ij4 = c.in_ok-append.ensures.settled _ hj2 ij3 room4 in
    let hj3 = c.in_ok-append.ensures.held ∙ ap (option_map (appended 22 c.args.body.now)) hj2 in
    two_first _ _ _ Q (IsButFor 0 (appended 22 c.args.body.now (headed c.args.head (closed_head xj)))) c.args.bytes.now _ _ _ _ _ t4 (c.open_gate.ensures.crash _ hj3 ij4 room) ii4
    (λ d left. opening_wins bound (appended 22 c.args.body.now (headed c.args.head (closed_head xj))) c.args.bytes.now d left)

pub returns-clause-done : goal.returns-clause-done
returns-clause-done g c xj xi hj hi ij ii room =
    let room4 : HasRoom c.append.new.moments = omega (arith, room, c.open_gate.ensures.moment) in
    let room3 : HasRoom c.write_head.new.moments = omega (arith, room4, c.append.ensures.moment) in
    let room2 : HasRoom c.write_image.new.moments = omega (arith, room3, c.write_head.ensures.moment) in
    let room1 : HasRoom c.close_head.new.moments = omega (arith, room2, c.write_image.ensures.moment) in
    let ij1 = c.in_ok-close_head.ensures.settled xj hj ij room1 in
    let ii1 = settled_later _ _ xi _ c.close_head.ensures.moment ii in
    let ii2 = c.in_ok-write_image.ensures.settled xi hi ii1 room2 in
    let ij2 = settled_later _ _ (closed_head xj) _ c.write_image.ensures.moment ij1 in
    let hj1 = c.in_ok-close_head.ensures.told xj hj in
    let ii3 = settled_later _ _ c.args.bytes.now _ c.write_head.ensures.moment ii2 in
    let ij3 = c.in_ok-write_head.ensures.settled _ hj1 ij2 room3 in
    let hj2 = c.in_ok-write_head.ensures.held ∙ ap (option_map (headed c.args.head)) hj1 in
    let ii4 = settled_later _ _ c.args.bytes.now _ c.append.ensures.moment ii3 in
    let ij4 = c.in_ok-append.ensures.settled _ hj2 ij3 room4 in
    let hj3 = c.in_ok-append.ensures.held ∙ ap (option_map (appended 22 c.args.body.now)) hj2 in
    let ii5 = settled_later _ _ c.args.bytes.now _ c.open_gate.ensures.moment ii4 in
    let told = on_ok_weaker c.open_gate.result (λ was. was ∙ ap (option_map (opened 0)) hj3) c.open_gate.ensures.held in
    let image = c.in_ok-write_image.ensures.held ∙ ap (option_map (λ (l : List ℕ). c.args.bytes.now)) hi in
    all_done _ _ _ _ _ _ _ c.open_gate.result told image (c.open_gate.ensures.settled _ hj3 ij4 room) ii5

pub returns-clause-held : goal.returns-clause-held
returns-clause-held g c =
    let h1 = c.in_ok-write_head.ensures.held ∙ ap (option_map (headed c.args.head)) c.in_ok-close_head.ensures.held in
    let h2 = c.in_ok-append.ensures.held ∙ ap (option_map (appended 22 c.args.body.now)) h1 in
    on_ok_weaker c.open_gate.result (λ was. was ∙ ap (option_map (opened 0)) h2 ∙ filled_held c.args.head c.args.body.now _) c.open_gate.ensures.held
