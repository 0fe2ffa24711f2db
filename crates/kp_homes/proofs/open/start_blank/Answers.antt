use Rattle.std.proofs.Common.{◌≡◌, inl, List, [], Some, None, Ok, subst}
use Rattle.std.specs.Prelude.{◌⊎◌}
use Rattle.kp_entry.specs.declared.record.Record.{Record}
use Rattle.kp_journal.specs.declared.head.Head.{Head}
use Rattle.kp_homes.specs.Stands.{stands, made}
use Rattle.kp_homes.specs.Opening.{first_records}
use Rattle.kp_homes.proofs.Beginning.{blank_stays}
use Rattle.kp_homes.proofs.Sound.{rests_sound}
use Rattle.kp_homes.proofs.open.start_blank.Goals as goal

pub returns-in-Ok-clause-crash : goal.returns-in-Ok-clause-crash
returns-in-Ok-clause-crash g c b rest none room n d lt left =
    subst (λ (h : Head). (stands h.node d ≡ None) ⊎ (stands h.node d ≡ Some (Ok (made h [] first_records)))) c.first_head.ensures.is
    (subst (λ (rs : List Record). (stands c.first_head.result.node d ≡ None) ⊎ (stands c.first_head.result.node d ≡ Some (Ok (made c.first_head.result [] rs)))) c.in-Ok.ensures
    (c.start_first-opened.ensures.crash b rest none room n d lt left))

pub returns-in-Err-clause-crash : goal.returns-in-Err-clause-crash
returns-in-Err-clause-crash g c b rest none room n d lt left = inl (blank_stays g.H.Disk.held g.H.Disk.past c.args.node c.args.disks b rest none n d lt left)

pub returns-in-Err-clause-sound : goal.returns-in-Err-clause-sound
returns-in-Err-clause-sound g c b rest none room = rests_sound g.H.Disk.held g.H.Disk.past c.args.disks b rest
