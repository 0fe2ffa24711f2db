use Rattle.std.proofs.Common.{◌≡◌, inl, ℕ, List, [], ◌∷◌, ◌∙◌, ap, subst}
use Rattle.std.specs.Prelude.{IfOk}
use Rattle.kp_entry.specs.declared.record.Record.{Record}
use Rattle.kp_entry.specs.declared.record.Record.TheVariants as record_
use Rattle.kp_homes.specs.Stands.{Bytes4, Stands, StandsForEither, with_more}
use Rattle.kp_homes.specs.Opening.{next_boot}
use Rattle.kp_homes.specs.Homes.{disks_of}
use Rattle.kp_homes.proofs.Standing.{rest_only}
use Rattle.kp_homes.proofs.Sound.{rests_sound}
use Rattle.kp_homes.proofs.open.start_live.Goals as goal

pub returns-in-Ok-clause-crash : goal.returns-in-Ok-clause-crash
returns-in-Ok-clause-crash g c b v st room =
    let same : c.in-Ok.records ≡ record_.Boot (next_boot c.args.live.replay.boot) ∷ [] = c.in-Ok.ensures ∙ ap (λ (k : ℕ). record_.Boot k ∷ []) (c.next_boot-boot.ensures.next ∙ ap next_boot c.boot.ensures.is) in
    subst (λ (rs : List Record). StandsForEither c.args.live.journal.head.node g.H.Disk.past c.args.disks.moments (disks_of c.start_with-opened.result) v (with_more rs v)) same (c.start_with-opened.ensures.crash b v st room)

pub returns-in-Ok-clause-rest : goal.returns-in-Ok-clause-rest
returns-in-Ok-clause-rest g c b v st room =
    let same : c.in-Ok.records ≡ record_.Boot (next_boot c.args.live.replay.boot) ∷ [] = c.in-Ok.ensures ∙ ap (λ (k : ℕ). record_.Boot k ∷ []) (c.next_boot-boot.ensures.next ∙ ap next_boot c.boot.ensures.is) in
    subst (λ (rs : List Record). IfOk c.start_with-opened.result (λ x. (d : Bytes4) × Stands g.H.Disk.held g.H.Disk.past x.0.disks x.0.second x.0.journal d (with_more rs v))) same (c.start_with-opened.ensures.rest b v st room)

pub returns-in-Err-clause-crash : goal.returns-in-Err-clause-crash
returns-in-Err-clause-crash g c b v st room n d lt left = inl (rest_only g.H.Disk.held g.H.Disk.past c.args.live.journal.head.node c.args.disks b v st.rest st.value n d lt left)

pub returns-in-Err-clause-sound : goal.returns-in-Err-clause-sound
returns-in-Err-clause-sound g c b v st room = rests_sound g.H.Disk.held g.H.Disk.past c.args.disks b st.rest
