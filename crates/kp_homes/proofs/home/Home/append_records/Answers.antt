use Rattle.std.proofs.Common.{ℕ, ◌+◌, length, refl, ◌∙◌, ap}
use Rattle.kp_entry.specs.Records.{spelled}
use Rattle.kp_homes.specs.Stands.{fail_in, slot_number}
use Rattle.kp_homes.proofs.Standing.{rest_only}
use Rattle.kp_homes.proofs.Refusals.{ok_err, fulls, writes_alone}
use Rattle.kp_homes.proofs.home.Home.append_records.Goals as goal

pub returns-in-Ok-clause-kept : goal.returns-in-Ok-clause-kept
returns-in-Ok-clause-kept g c b v st room = let r = c.in-Ok.ensures.rest b v st room in rest_only g.H.Disk.held g.H.Disk.past _ _ r.0 _ r.1.rest r.1.value

pub returns-in-Ok-clause-full : goal.returns-in-Ok-clause-full
returns-in-Ok-clause-full g c slot len = ((λ e. ok_err _ _ _ e), (λ x. ok_err _ _ _ ((c.in-Ok.ensures.full len).1 (x.0, x.1))))

pub returns-in-Err-clause-full : goal.returns-in-Err-clause-full
returns-in-Err-clause-full g c slot len =
    fulls (slot_number c.args.self.now.second) (c.args.self.now.journal.gate + 6 + length (spelled c.args.records.now)) slot len c.in-Err.fail c.fail_in.result
    (c.fail_in.ensures ∙ ap (λ (k : ℕ). fail_in k c.in-Err.fail) c.journal_slot-slot.ensures) (c.in-Err.ensures.only c.in-Err.fail refl) c.in-Err.ensures.full

pub returns-in-Err-clause-only : goal.returns-in-Err-clause-only
returns-in-Err-clause-only g c f e = writes_alone c.journal_slot-slot.result c.in-Err.fail c.fail_in.result f c.fail_in.ensures (c.in-Err.ensures.only c.in-Err.fail refl) e
