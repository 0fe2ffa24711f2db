use Rattle.std.proofs.lemmas.Result.{on_ok_weaker}
use Rattle.kp_homes.specs.Stands.{slot_number, with_more}
use Rattle.kp_homes.proofs.Finding.{either_found, only_found}
use Rattle.kp_homes.proofs.Lifting.{found_more}
use Rattle.kp_homes.proofs.Holding.{either_held}
use Rattle.kp_homes.proofs.home.Home.append_batch.Goals as goal

pub returns-clause-crash : goal.returns-clause-crash
returns-clause-crash g c f is room fits =
    let k = slot_number c.args.self.now.second in
    let rs = c.args.records.now in
    either_found g.H.Disk.past _ k k _ _ is.value (with_more rs is.value) _ _ (c.append_records.ensures.crash is.bytes is.value is.stands room) is.finds (found_more k k is.value f rs is.finds fits)

pub returns-clause-kept : goal.returns-clause-kept
returns-clause-kept g c f is room fits =
    let k = slot_number c.args.self.now.second in
    let rs = c.args.records.now in
    on_ok_weaker c.append_records.result (λ only. only_found g.H.Disk.past _ k _ _ (with_more rs is.value) _ only (found_more k k is.value f rs is.finds fits)) (c.append_records.ensures.kept is.bytes is.value is.stands room)

pub returns-clause-keeps : goal.returns-clause-keeps
returns-clause-keeps g c f is room fits =
    let k = slot_number c.args.self.now.second in
    let rs = c.args.records.now in
    on_ok_weaker c.append_records.result
    (λ x. record { bytes = x.0; value = with_more rs is.value; stands = x.1; finds = found_more k (slot_number c.append_records.new.self.second) is.value f rs is.finds fits })
    (c.append_records.ensures.rest is.bytes is.value is.stands room)

pub returns-clause-earlier : goal.returns-clause-earlier
returns-clause-earlier g c f is room = c.append_records.ensures.earlier is.bytes is.value is.stands room

pub returns-clause-left : goal.returns-clause-left
returns-clause-left g c f is room fits =
    either_held g.H.Disk.held g.H.Disk.past _ _ _ _ _ c.append_records.ensures.moment (returns-clause-crash g c f is room fits) (c.append_records.ensures.sound is.bytes is.value is.stands room)
