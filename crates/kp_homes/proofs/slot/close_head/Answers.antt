use Rattle.std.proofs.Common.{ℕ, List, Some, ◌≡◌, [], ◌∷◌, sym, ◌∙◌, ap, subst}
use Rattle.std.proofs.lemmas.Result.{on_ok_weaker}
use Rattle.std.specs.Option.{option_map}
use Rattle.kp_io.specs.Crash.{IsSettled}
use Rattle.kp_io.specs.Disks.{written_at}
use Rattle.kp_io.proofs.Behind.{had_room, joined_if}
use Rattle.kp_journal.proofs.Staging.{either_way, some_of}
use Rattle.kp_homes.specs.Slots.{Loses, is_shut, closed_head}
use Rattle.kp_homes.proofs.Known.{known, wrote_known, synced_known, looked, looks_still, known_leaves, known_settled, failed_write, failed_sync}
use Rattle.kp_homes.proofs.Two.{closing_loses, shut_loses, closed_is_shut, closed_same, closed_other, same_held, other_held}
use Rattle.kp_journal.proofs.Leaving.{sync_left}
use Rattle.kp_homes.proofs.slot.close_head.Goals as goal

pub returns-in_err-shut-clause-crash : goal.returns-in_err-shut-clause-crash
returns-in_err-shut-clause-crash g c bound xs held is room loses = looks_still _ _ (Loses bound) xs _ _ is c.is_shut.ensures.moment c.is_shut.ensures.past loses

pub returns-then-shut-clause-settled : goal.returns-then-shut-clause-settled
returns-then-shut-clause-settled g c xs held is room =
    let e = sym (some_of _ (λ l. c.in_ok-shut.shut ≡ is_shut l) xs c.in_ok-shut.ensures.answer held) ∙ c.if-shut.true in
    subst (λ (l : List ℕ). IsSettled c.is_shut.new.moments l (g.D.Disk.past c.is_shut.new.journal)) (sym (closed_same xs e)) (looked _ _ xs _ _ is c.is_shut.ensures.moment c.is_shut.ensures.past)

pub returns-then-shut-clause-crash : goal.returns-then-shut-clause-crash
returns-then-shut-clause-crash g c bound xs held is room loses = looks_still _ _ (Loses bound) xs _ _ is c.is_shut.ensures.moment c.is_shut.ensures.past loses

pub returns-in_err-write_at-clause-crash : goal.returns-in_err-write_at-clause-crash
returns-in_err-write_at-clause-crash g c bound xs held is room loses =
    let e = sym (some_of _ (λ l. c.in_ok-shut.shut ≡ is_shut l) xs c.in_ok-shut.ensures.answer held) ∙ c.if-shut.false in
    let s1 = looked _ _ xs _ _ is c.is_shut.ensures.moment c.is_shut.ensures.past in
    let first = looks_still _ _ (Loses bound) xs _ _ is c.is_shut.ensures.moment c.is_shut.ensures.past loses in
    let k1 = failed_write _ _ _ (Loses bound) _ _ _ _ 0 1 (known _ (Loses bound) xs _ s1 loses) c.write_at.ensures.moment room c.in_err-write_at.ensures.past_err (λ d left. closing_loses bound xs d e loses left) in
    joined_if _ _ _ (Loses bound) _ _ _ first k1

pub returns-clause-settled : goal.returns-clause-settled
returns-clause-settled g c xs held is room =
    let e = sym (some_of _ (λ l. c.in_ok-shut.shut ≡ is_shut l) xs c.in_ok-shut.ensures.answer held) ∙ c.if-shut.false in
    let Q = λ (l : List ℕ). Unit {0} in
    let room1 = had_room _ _ c.sync.ensures.moment room in
    let s1 = looked _ _ xs _ _ is c.is_shut.ensures.moment c.is_shut.ensures.past in
    let k1 = wrote_known _ _ _ Q _ _ _ _ 0 1 (known _ Q xs _ s1 tt) c.write_at.ensures.moment room1 c.in_ok-write_at.ensures.past (λ d left. tt) in
    let h = c.in_ok-write_at.ensures.bytes ∙ ap (option_map (written_at 0 (0 ∷ []))) (c.is_shut.ensures.keeps ∙ held) ∙ ap Some (sym (closed_other xs e)) in
    on_ok_weaker c.sync.result (λ was. known_settled _ _ Q (closed_head xs) _ _ (synced_known _ _ _ Q _ (closed_head xs) _ _ _ k1 c.sync.ensures.moment room was (λ d left. tt) tt))
    (c.sync.ensures.past (closed_head xs) h)

pub returns-clause-crash : goal.returns-clause-crash
returns-clause-crash g c bound xs held is room loses =
    let e = sym (some_of _ (λ l. c.in_ok-shut.shut ≡ is_shut l) xs c.in_ok-shut.ensures.answer held) ∙ c.if-shut.false in
    let Q = Loses bound in
    let room1 = had_room _ _ c.sync.ensures.moment room in
    let s1 = looked _ _ xs _ _ is c.is_shut.ensures.moment c.is_shut.ensures.past in
    let first = looks_still _ _ Q xs _ _ is c.is_shut.ensures.moment c.is_shut.ensures.past loses in
    let k1 = wrote_known _ _ _ Q _ _ _ _ 0 1 (known _ Q xs _ s1 loses) c.write_at.ensures.moment room1 c.in_ok-write_at.ensures.past (λ d left. closing_loses bound xs d e loses left) in
    let h = c.in_ok-write_at.ensures.bytes ∙ ap (option_map (written_at 0 (0 ∷ []))) (c.is_shut.ensures.keeps ∙ held) ∙ ap Some (sym (closed_other xs e)) in
    either_way c.sync.result (c.sync.ensures.past (closed_head xs) h) c.sync.ensures.past_err
    (λ was. joined_if _ _ _ Q _ _ _ first (known_leaves _ _ Q _ _ _ (synced_known _ _ _ Q _ (closed_head xs) _ _ _ k1 c.sync.ensures.moment room was (λ d left. closing_loses bound xs d e loses left) (shut_loses bound (closed_head xs) (closed_is_shut xs)))))
    (λ was. joined_if _ _ _ Q _ _ _ first ((failed_sync _ _ _ Q _ _ _ _ k1 c.sync.ensures.moment room was (λ d left. closing_loses bound xs d e loses left))))

pub returns-then-shut-clause-held : goal.returns-then-shut-clause-held
returns-then-shut-clause-held g c = c.is_shut.ensures.keeps ∙ same_held _ c.in_ok-shut.shut c.in_ok-shut.ensures.answer c.if-shut.true

pub returns-clause-held : goal.returns-clause-held
returns-clause-held g c =
    on_ok_weaker c.sync.result (λ keeps. keeps ∙ c.in_ok-write_at.ensures.bytes ∙ ap (option_map (written_at 0 (0 ∷ []))) c.is_shut.ensures.keeps ∙ other_held _ c.in_ok-shut.shut c.in_ok-shut.ensures.answer c.if-shut.false)
    c.sync.ensures.keeps

pub returns-clause-left : goal.returns-clause-left
returns-clause-left g c was = sync_left c.sync.result _ _ _ _ _ c.sync.ensures.keeps c.sync.ensures.past c.sync.ensures.past_err c.sync.ensures.was_left
