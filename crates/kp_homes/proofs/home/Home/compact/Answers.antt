use Rattle.std.proofs.Common.{◌≡◌, ◌^◌, ◌<◌, List, ℕ, length, subst, cond}
use Rattle.std.specs.Prelude.{OnOk, IsErrOf, ◌↔◌}
use Rattle.std.proofs.lemmas.Result.{on_ok_weaker}
use Rattle.kp_homes.specs.declared.fail.HomeFail.TheVariants as home_fail
use Rattle.kp_homes.specs.Stands.{slot_number, next_head, made}
use Rattle.kp_homes.proofs.Carrying.{slot_found}
use Rattle.kp_homes.proofs.Finding.{either_found, only_found}
use Rattle.kp_homes.proofs.Holding.{either_held}
use Rattle.kp_homes.proofs.home.Home.compact.Goals as goal

pub returns-clause-crash : goal.returns-clause-crash
returns-clause-crash g c f is room below fits =
    let bytes = c.image_bytes-image.result.now in
    let h = next_head c.args.self.now.journal.head (length bytes) in
    either_found g.H.Disk.past _ (slot_number c.args.self.now.second) 0 _ _ is.value (made h bytes c.args.whole.now.rest) _ _ (c.make_slot.ensures.crash is.bytes is.value is.stands room below) is.finds
    (slot_found 0 h bytes c.args.whole.now.image c.args.whole.now.rest c.image_bytes-image.ensures.read fits)

pub returns-clause-kept : goal.returns-clause-kept
returns-clause-kept g c f is room below fits =
    let bytes = c.image_bytes-image.result.now in
    let h = next_head c.args.self.now.journal.head (length bytes) in
    on_ok_weaker c.make_slot.result
    (λ only. only_found g.H.Disk.past _ 0 _ _ (made h bytes c.args.whole.now.rest) _ only (slot_found 0 h bytes c.args.whole.now.image c.args.whole.now.rest c.image_bytes-image.ensures.read fits))
    (c.make_slot.ensures.kept is.bytes is.value is.stands room below)

pub returns-clause-keeps : goal.returns-clause-keeps
returns-clause-keeps g c f is room below fits =
    let bytes = c.image_bytes-image.result.now in
    let h = next_head c.args.self.now.journal.head (length bytes) in
    on_ok_weaker c.make_slot.result
    (λ x. record {
      bytes = x.0;
      value = made h bytes c.args.whole.now.rest;
      stands = x.1;
      finds = slot_found (slot_number c.make_slot.new.self.second) h bytes c.args.whole.now.image c.args.whole.now.rest c.image_bytes-image.ensures.read fits;
    })
    (c.make_slot.ensures.rest is.bytes is.value is.stands room below)

pub returns-clause-earlier : goal.returns-clause-earlier
returns-clause-earlier g c f is room = c.make_slot.ensures.earlier is.bytes is.value is.stands room

pub returns-clause-head : goal.returns-clause-head
returns-clause-head g c =
    subst (λ (bytes : List ℕ). OnOk c.make_slot.result (c.make_slot.new.self.journal.head ≡ next_head c.args.self.now.journal.head (length bytes))) c.image_bytes-image.ensures.bytes c.make_slot.ensures.head

pub returns-clause-full : goal.returns-clause-full
returns-clause-full g c slot len =
    subst (λ (bytes : List ℕ). IsErrOf c.make_slot.result (home_fail.Full slot len) ↔ ((2 ^ 40 < len) × (len ≡ length bytes) × (slot ≡ cond c.args.self.now.second 2 3))) c.image_bytes-image.ensures.bytes
    (c.make_slot.ensures.full slot len)

pub returns-clause-left : goal.returns-clause-left
returns-clause-left g c f is room below fits =
    either_held g.H.Disk.held g.H.Disk.past _ _ _ _ _ c.make_slot.ensures.moment (returns-clause-crash g c f is room below fits) (c.make_slot.ensures.sound is.bytes is.value is.stands room)
