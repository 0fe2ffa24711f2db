use Rattle.std.proofs.Common.{Some, ◌+◌, length, refl, sym, ◌∙◌, ap}
use Rattle.std.specs.Prelude.{not}
use Rattle.std.proofs.lemmas.Result.{on_ok_weaker}
use Rattle.kp_journal.specs.Heads.{generation}
use Rattle.kp_homes.specs.Slots.{closed_head, filled, IsOldOrNew}
use Rattle.kp_homes.specs.Stands.{Bytes4}
use Rattle.kp_homes.proofs.Standing.{rest_left, rest_later, two_left, two_told_after, live_first, live_second}
use Rattle.kp_homes.proofs.Earlier.{two_before}
use Rattle.kp_homes.proofs.Ready.{ready_true, ready_false}
use Rattle.kp_homes.proofs.Making.{made_slot, head_generation, next_generation, first_loses, second_loses, new_first, new_second, compact_first, compact_second, ready_made}
use Rattle.kp_homes.proofs.Sound.{rest_sound, two_sound}
use Rattle.kp_homes.proofs.home.Home.write_other.Goals as goal

pub returns-then-self-clause-crash : goal.returns-then-self-clause-crash
returns-then-self-clause-crash g c b v st room below n d lt left =
    let rs = c.args.records.now in
    let old = c.args.self.now.journal.head in
    let image = c.args.image.now in
    let body = c.bytes-body.result.now in
    let live = st.live ∙ ap Some c.if-self.true in
    let j = live_second old.node b v live st.value in
    let gen = head_generation old.node b.j1 v.journal old j st.head in
    let f = filled c.args.head body (closed_head b.j0) in
    let new = made_slot old c.args.head rs image body b.j0 c.requires.next c.requires.fits c.bytes-body.ensures.spelled c.bytes-body.ensures.run c.requires.no_base c.bytes-body.ensures.small in
    let higher = next_generation old c.args.head (length image) (generation b.j1) c.requires.next below gen in
    let run = c.new_slot.ensures.crash (generation b.j1) b.j0 b.i0 st.rest.at_j0.holds st.rest.at_i0.holds st.rest.at_j0.rests st.rest.at_i0.rests room (first_loses b.j0 b.j1 live) in
    compact_first old.node b d c.args.head rs image f v live st.value higher new
    (two_left _ _ n (IsOldOrNew (generation b.j1) f image) d.j0 d.i0 b.j0 b.i0 _ _ _ _ _ _ st.rest.at_j0 st.rest.at_i0 run lt left.on_j0 left.on_i0)
    (rest_left _ n b.j1 d.j1 _ _ st.rest.at_j1 lt left.on_j1) (rest_left _ n b.i1 d.i1 _ _ st.rest.at_i1 lt left.on_i1)

pub returns-then-self-clause-rest : goal.returns-then-self-clause-rest
returns-then-self-clause-rest g c b v st room below =
    let rs = c.args.records.now in
    let old = c.args.self.now.journal.head in
    let image = c.args.image.now in
    let body = c.bytes-body.result.now in
    let later = c.new_slot.ensures.moment in
    let live = st.live ∙ ap Some c.if-self.true in
    let j = live_second old.node b v live st.value in
    let gen = head_generation old.node b.j1 v.journal old j st.head in
    let f = filled c.args.head body (closed_head b.j0) in
    let new = made_slot old c.args.head rs image body b.j0 c.requires.next c.requires.fits c.bytes-body.ensures.spelled c.bytes-body.ensures.run c.requires.no_base c.bytes-body.ensures.small in
    let higher = next_generation old c.args.head (length image) (generation b.j1) c.requires.next below gen in
    let run = c.new_slot.ensures.crash (generation b.j1) b.j0 b.i0 st.rest.at_j0.holds st.rest.at_i0.holds st.rest.at_j0.rests st.rest.at_i0.rests room (first_loses b.j0 b.j1 live) in
    let told = two_told_after _ _ (IsOldOrNew (generation b.j1) f image) b.j0 b.i0 _ _ _ _ _ _ st.rest.at_j0 st.rest.at_i0 run in
    let d : Bytes4 = record b { j0 = f; i0 = image } in
    let now = new_first old.node b d c.args.head rs image f live higher new refl refl refl in
    on_ok_weaker c.new_slot.result
    (λ done. (
      d,
      record {
        at_j0 = record { holds = done.0.holds; told = told.0.0; tells = told.0.1; rests = done.0.rests };
        at_i0 = record { holds = done.1.holds; told = told.1.0; tells = told.1.1; rests = done.1.rests };
        at_j1 = rest_later _ _ b.j1 _ _ later st.rest.at_j1;
        at_i1 = rest_later _ _ b.i1 _ _ later st.rest.at_i1;
      },
      now.0 ∙ ap Some (sym (ap not c.if-self.true)),
      now.1,
    ))
    (c.new_slot.ensures.done b.j0 b.i0 st.rest.at_j0.holds st.rest.at_i0.holds st.rest.at_j0.rests st.rest.at_i0.rests room)

pub returns-then-self-clause-ready : goal.returns-then-self-clause-ready
returns-then-self-clause-ready g c =
    on_ok_weaker c.new_slot.result
    (λ was. ready_false _ _ _ _ (ap not c.if-self.true)
    (ready_made c.args.self.now.journal.head c.args.head c.args.records.now c.args.image.now c.bytes-body.result.now _ _ c.requires.next c.requires.fits c.bytes-body.ensures.spelled c.bytes-body.ensures.run c.requires.no_base c.bytes-body.ensures.small was))
    c.new_slot.ensures.held

pub returns-else-self-clause-crash : goal.returns-else-self-clause-crash
returns-else-self-clause-crash g c b v st room below n d lt left =
    let rs = c.args.records.now in
    let old = c.args.self.now.journal.head in
    let image = c.args.image.now in
    let body = c.bytes-body.result.now in
    let live = st.live ∙ ap Some c.if-self.false in
    let j = live_first old.node b v live st.value in
    let gen = head_generation old.node b.j0 v.journal old j st.head in
    let f = filled c.args.head body (closed_head b.j1) in
    let new = made_slot old c.args.head rs image body b.j1 c.requires.next c.requires.fits c.bytes-body.ensures.spelled c.bytes-body.ensures.run c.requires.no_base c.bytes-body.ensures.small in
    let higher = next_generation old c.args.head (length image) (generation b.j0) c.requires.next below gen in
    let run = c.new_slot-else-self.ensures.crash (generation b.j0 + 1) b.j1 b.i1 st.rest.at_j1.holds st.rest.at_i1.holds st.rest.at_j1.rests st.rest.at_i1.rests room (second_loses b.j0 b.j1 live) in
    compact_second old.node b d c.args.head rs image f v live st.value higher new
    (two_left _ _ n (IsOldOrNew (generation b.j0 + 1) f image) d.j1 d.i1 b.j1 b.i1 _ _ _ _ _ _ st.rest.at_j1 st.rest.at_i1 run lt left.on_j1 left.on_i1)
    (rest_left _ n b.j0 d.j0 _ _ st.rest.at_j0 lt left.on_j0) (rest_left _ n b.i0 d.i0 _ _ st.rest.at_i0 lt left.on_i0)

pub returns-else-self-clause-rest : goal.returns-else-self-clause-rest
returns-else-self-clause-rest g c b v st room below =
    let rs = c.args.records.now in
    let old = c.args.self.now.journal.head in
    let image = c.args.image.now in
    let body = c.bytes-body.result.now in
    let later = c.new_slot-else-self.ensures.moment in
    let live = st.live ∙ ap Some c.if-self.false in
    let j = live_first old.node b v live st.value in
    let gen = head_generation old.node b.j0 v.journal old j st.head in
    let f = filled c.args.head body (closed_head b.j1) in
    let new = made_slot old c.args.head rs image body b.j1 c.requires.next c.requires.fits c.bytes-body.ensures.spelled c.bytes-body.ensures.run c.requires.no_base c.bytes-body.ensures.small in
    let higher = next_generation old c.args.head (length image) (generation b.j0) c.requires.next below gen in
    let run = c.new_slot-else-self.ensures.crash (generation b.j0 + 1) b.j1 b.i1 st.rest.at_j1.holds st.rest.at_i1.holds st.rest.at_j1.rests st.rest.at_i1.rests room (second_loses b.j0 b.j1 live) in
    let told = two_told_after _ _ (IsOldOrNew (generation b.j0 + 1) f image) b.j1 b.i1 _ _ _ _ _ _ st.rest.at_j1 st.rest.at_i1 run in
    let d : Bytes4 = record b { j1 = f; i1 = image } in
    let now = new_second old.node b d c.args.head rs image f live higher new refl refl refl in
    on_ok_weaker c.new_slot-else-self.result
    (λ done. (
      d,
      record {
        at_j1 = record { holds = done.0.holds; told = told.0.0; tells = told.0.1; rests = done.0.rests };
        at_i1 = record { holds = done.1.holds; told = told.1.0; tells = told.1.1; rests = done.1.rests };
        at_j0 = rest_later _ _ b.j0 _ _ later st.rest.at_j0;
        at_i0 = rest_later _ _ b.i0 _ _ later st.rest.at_i0;
      },
      now.0 ∙ ap Some (sym (ap not c.if-self.false)),
      now.1,
    ))
    (c.new_slot-else-self.ensures.done b.j1 b.i1 st.rest.at_j1.holds st.rest.at_i1.holds st.rest.at_j1.rests st.rest.at_i1.rests room)

pub returns-else-self-clause-ready : goal.returns-else-self-clause-ready
returns-else-self-clause-ready g c =
    on_ok_weaker c.new_slot-else-self.result
    (λ was. ready_true _ _ _ _ (ap not c.if-self.false)
    (ready_made c.args.self.now.journal.head c.args.head c.args.records.now c.args.image.now c.bytes-body.result.now _ _ c.requires.next c.requires.fits c.bytes-body.ensures.spelled c.bytes-body.ensures.run c.requires.no_base c.bytes-body.ensures.small was))
    c.new_slot-else-self.ensures.held

pub returns-then-self-clause-earlier : goal.returns-then-self-clause-earlier
returns-then-self-clause-earlier g c b v st room n d le left =
    let live = st.live ∙ ap Some c.if-self.true in
    let run = c.new_slot.ensures.crash (generation b.j1) b.j0 b.i0 st.rest.at_j0.holds st.rest.at_i0.holds st.rest.at_j0.rests st.rest.at_i0.rests room (first_loses b.j0 b.j1 live) in
    let both = two_before _ _ n _ d.j0 d.i0 b.j0 b.i0 _ _ _ _ _ _ st.rest.at_j0 st.rest.at_i0 run le left.on_j0 left.on_i0 in
    record { on_j0 = both.0; on_i0 = both.1; on_j1 = left.on_j1; on_i1 = left.on_i1 }

pub returns-else-self-clause-earlier : goal.returns-else-self-clause-earlier
returns-else-self-clause-earlier g c b v st room n d le left =
    let live = st.live ∙ ap Some c.if-self.false in
    let run = c.new_slot-else-self.ensures.crash (generation b.j0 + 1) b.j1 b.i1 st.rest.at_j1.holds st.rest.at_i1.holds st.rest.at_j1.rests st.rest.at_i1.rests room (second_loses b.j0 b.j1 live) in
    let both = two_before _ _ n _ d.j1 d.i1 b.j1 b.i1 _ _ _ _ _ _ st.rest.at_j1 st.rest.at_i1 run le left.on_j1 left.on_i1 in
    record { on_j1 = both.0; on_i1 = both.1; on_j0 = left.on_j0; on_i0 = left.on_i0 }

pub returns-then-self-clause-sound : goal.returns-then-self-clause-sound
returns-then-self-clause-sound g c b v st room =
    let later = c.new_slot.ensures.moment in
    let live = st.live ∙ ap Some c.if-self.true in
    let run = c.new_slot.ensures.crash (generation b.j1) b.j0 b.i0 st.rest.at_j0.holds st.rest.at_i0.holds st.rest.at_j0.rests st.rest.at_i0.rests room (first_loses b.j0 b.j1 live) in
    let both = two_sound _ _ _ b.j0 b.i0 _ _ _ _ _ _ _ _ st.rest.at_j0 st.rest.at_i0 run c.new_slot.ensures.left_journal c.new_slot.ensures.left_image in
    record { on_j0 = both.0; on_i0 = both.1; on_j1 = rest_sound _ _ b.j1 _ _ later st.rest.at_j1; on_i1 = rest_sound _ _ b.i1 _ _ later st.rest.at_i1 }

pub returns-else-self-clause-sound : goal.returns-else-self-clause-sound
returns-else-self-clause-sound g c b v st room =
    let later = c.new_slot-else-self.ensures.moment in
    let live = st.live ∙ ap Some c.if-self.false in
    let run = c.new_slot-else-self.ensures.crash (generation b.j0 + 1) b.j1 b.i1 st.rest.at_j1.holds st.rest.at_i1.holds st.rest.at_j1.rests st.rest.at_i1.rests room (second_loses b.j0 b.j1 live) in
    let both = two_sound _ _ _ b.j1 b.i1 _ _ _ _ _ _ _ _ st.rest.at_j1 st.rest.at_i1 run c.new_slot-else-self.ensures.left_journal c.new_slot-else-self.ensures.left_image in
    record { on_j1 = both.0; on_i1 = both.1; on_j0 = rest_sound _ _ b.j0 _ _ later st.rest.at_j0; on_i0 = rest_sound _ _ b.i0 _ _ later st.rest.at_i0 }
