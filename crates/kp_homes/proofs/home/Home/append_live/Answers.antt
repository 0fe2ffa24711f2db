use Rattle.std.proofs.Common.{ℕ, Some, Ok, ◌≡◌, ◌+◌, length, refl, sym, ◌∙◌, ap, subst}
use Rattle.std.proofs.lemmas.Result.{on_ok_weaker}
use Rattle.std.specs.Option.{option_map}
use Rattle.kp_entry.specs.Records.{spelled}
use Rattle.kp_journal.specs.Gates.{appended}
use Rattle.kp_journal.specs.Journals.{Journaled, journal_of, with_batch, IsWithOrWithout}
use Rattle.kp_journal.proofs.Staging.{some_of}
use Rattle.kp_homes.specs.Stands.{Bytes4, stands, with_more}
use Rattle.kp_homes.proofs.Standing.{rest_left, run_left, rest_made, rest_later, live_first, live_second, append_first, append_second, kept_first, kept_second}
use Rattle.kp_homes.proofs.Earlier.{run_before}
use Rattle.kp_homes.proofs.Ready.{on_ok_four, ready_ok, ready_true, ready_false, is_ready_true, is_ready_false}
use Rattle.kp_homes.proofs.Sound.{rest_sound, run_sound}
use Rattle.kp_homes.proofs.home.Home.append_live.Goals as goal

pub returns-then-self-clause-crash : goal.returns-then-self-clause-crash
returns-then-self-clause-crash g c b v st room n d lt left =
    let rs = c.args.records.now in
    let node = c.args.self.now.journal.head.node in
    let live = st.live ∙ ap Some c.if-self.true in
    let j = live_second node b v live st.value in
    let run = c.append_batch.ensures.crash b.j1 v.journal st.rest.at_j1.holds j st.gate st.rest.at_j1.rests room in
    append_second node b d v.journal rs v live st.value j (run_left _ _ n (IsWithOrWithout node v.journal rs) d.j1 _ _ run lt left.on_j1)
    (rest_left _ n b.j0 d.j0 _ _ st.rest.at_j0 lt left.on_j0) (rest_left _ n b.i1 d.i1 _ _ st.rest.at_i1 lt left.on_i1)

pub returns-then-self-clause-rest : goal.returns-then-self-clause-rest
returns-then-self-clause-rest g c b v st room =
    let rs = c.args.records.now in
    let node = c.args.self.now.journal.head.node in
    let later = c.append_batch.ensures.moment in
    let live = st.live ∙ ap Some c.if-self.true in
    let j = live_second node b v live st.value in
    let run = c.append_batch.ensures.crash b.j1 v.journal st.rest.at_j1.holds j st.gate st.rest.at_j1.rests room in
    let ys = appended c.args.self.now.journal.gate (spelled rs) b.j1 in
    let d : Bytes4 = record b { j1 = ys } in
    on_ok_four c.append_batch.result
    (λ was settled done made.
    let holds = was ∙ ap (option_map (appended c.args.self.now.journal.gate (spelled rs))) st.rest.at_j1.holds in
    let more = some_of _ (λ zs. journal_of node zs ≡ Ok (with_batch rs v.journal)) ys done holds in
    let kept = kept_second node b d v.journal rs v live st.value j more refl refl in (
      d,
      record {
        rest = record {
          at_j1 = rest_made _ _ (IsWithOrWithout node v.journal rs) b.j1 ys _ _ _ _ st.rest.at_j1 run holds settled;
          at_j0 = rest_later _ _ b.j0 _ _ later st.rest.at_j0;
          at_i1 = rest_later _ _ b.i1 _ _ later st.rest.at_i1;
          at_i0 = rest_later _ _ b.i0 _ _ later st.rest.at_i0;
        };
        live = kept.0 ∙ ap Some (sym c.if-self.true);
        value = subst (λ (n : ℕ). stands n d ≡ Some (Ok (with_more rs v))) (sym (ap (λ (i : Journaled). i.head.node) made)) kept.1;
        head = st.head ∙ ap (λ (i : Journaled). i.head) (sym made);
        gate = ap (λ (n : ℕ). n + 5 + length (spelled rs)) st.gate ∙ ap (λ (i : Journaled). i.gate) (sym made);
      },
    ))
    c.append_batch.ensures.held
    (c.append_batch.ensures.settled b.j1 st.rest.at_j1.holds st.rest.at_j1.rests room)
    (c.append_batch.ensures.done b.j1 v.journal st.rest.at_j1.holds j st.gate)
    c.append_batch.ensures.journal

pub returns-then-self-clause-ready : goal.returns-then-self-clause-ready
returns-then-self-clause-ready g c =
    on_ok_weaker c.append_batch.result (λ here. ready_true _ _ _ _ c.if-self.true here)
    (ready_ok c.append_batch.result c.args.self.now.journal _ c.args.records.now _ _ (is_ready_true _ _ _ _ c.if-self.true c.requires.ready) c.append_batch.ensures.held c.append_batch.ensures.done c.append_batch.ensures.journal)

pub returns-else-self-clause-crash : goal.returns-else-self-clause-crash
returns-else-self-clause-crash g c b v st room n d lt left =
    let rs = c.args.records.now in
    let node = c.args.self.now.journal.head.node in
    let live = st.live ∙ ap Some c.if-self.false in
    let j = live_first node b v live st.value in
    let run = c.append_batch-else-self.ensures.crash b.j0 v.journal st.rest.at_j0.holds j st.gate st.rest.at_j0.rests room in
    append_first node b d v.journal rs v live st.value j (run_left _ _ n (IsWithOrWithout node v.journal rs) d.j0 _ _ run lt left.on_j0)
    (rest_left _ n b.j1 d.j1 _ _ st.rest.at_j1 lt left.on_j1) (rest_left _ n b.i0 d.i0 _ _ st.rest.at_i0 lt left.on_i0)

pub returns-else-self-clause-rest : goal.returns-else-self-clause-rest
returns-else-self-clause-rest g c b v st room =
    let rs = c.args.records.now in
    let node = c.args.self.now.journal.head.node in
    let later = c.append_batch-else-self.ensures.moment in
    let live = st.live ∙ ap Some c.if-self.false in
    let j = live_first node b v live st.value in
    let run = c.append_batch-else-self.ensures.crash b.j0 v.journal st.rest.at_j0.holds j st.gate st.rest.at_j0.rests room in
    let ys = appended c.args.self.now.journal.gate (spelled rs) b.j0 in
    let d : Bytes4 = record b { j0 = ys } in
    on_ok_four c.append_batch-else-self.result
    (λ was settled done made.
    let holds = was ∙ ap (option_map (appended c.args.self.now.journal.gate (spelled rs))) st.rest.at_j0.holds in
    let more = some_of _ (λ zs. journal_of node zs ≡ Ok (with_batch rs v.journal)) ys done holds in
    let kept = kept_first node b d v.journal rs v live st.value j more refl refl in (
      d,
      record {
        rest = record {
          at_j0 = rest_made _ _ (IsWithOrWithout node v.journal rs) b.j0 ys _ _ _ _ st.rest.at_j0 run holds settled;
          at_j1 = rest_later _ _ b.j1 _ _ later st.rest.at_j1;
          at_i0 = rest_later _ _ b.i0 _ _ later st.rest.at_i0;
          at_i1 = rest_later _ _ b.i1 _ _ later st.rest.at_i1;
        };
        live = kept.0 ∙ ap Some (sym c.if-self.false);
        value = subst (λ (n : ℕ). stands n d ≡ Some (Ok (with_more rs v))) (sym (ap (λ (i : Journaled). i.head.node) made)) kept.1;
        head = st.head ∙ ap (λ (i : Journaled). i.head) (sym made);
        gate = ap (λ (n : ℕ). n + 5 + length (spelled rs)) st.gate ∙ ap (λ (i : Journaled). i.gate) (sym made);
      },
    ))
    c.append_batch-else-self.ensures.held
    (c.append_batch-else-self.ensures.settled b.j0 st.rest.at_j0.holds st.rest.at_j0.rests room)
    (c.append_batch-else-self.ensures.done b.j0 v.journal st.rest.at_j0.holds j st.gate)
    c.append_batch-else-self.ensures.journal

pub returns-else-self-clause-ready : goal.returns-else-self-clause-ready
returns-else-self-clause-ready g c =
    on_ok_weaker c.append_batch-else-self.result (λ here. ready_false _ _ _ _ c.if-self.false here)
    (ready_ok c.append_batch-else-self.result c.args.self.now.journal _ c.args.records.now _ _ (is_ready_false _ _ _ _ c.if-self.false c.requires.ready) c.append_batch-else-self.ensures.held c.append_batch-else-self.ensures.done c.append_batch-else-self.ensures.journal)

pub returns-then-self-clause-earlier : goal.returns-then-self-clause-earlier
returns-then-self-clause-earlier g c b v st room n d le left =
    let j = live_second c.args.self.now.journal.head.node b v (st.live ∙ ap Some c.if-self.true) st.value in
    let run = c.append_batch.ensures.crash b.j1 v.journal st.rest.at_j1.holds j st.gate st.rest.at_j1.rests room in
    record { on_j0 = left.on_j0; on_j1 = run_before _ _ n _ d.j1 _ _ run le left.on_j1; on_i0 = left.on_i0; on_i1 = left.on_i1 }

pub returns-else-self-clause-earlier : goal.returns-else-self-clause-earlier
returns-else-self-clause-earlier g c b v st room n d le left =
    let j = live_first c.args.self.now.journal.head.node b v (st.live ∙ ap Some c.if-self.false) st.value in
    let run = c.append_batch-else-self.ensures.crash b.j0 v.journal st.rest.at_j0.holds j st.gate st.rest.at_j0.rests room in
    record { on_j0 = run_before _ _ n _ d.j0 _ _ run le left.on_j0; on_j1 = left.on_j1; on_i0 = left.on_i0; on_i1 = left.on_i1 }

pub returns-then-self-clause-head : goal.returns-then-self-clause-head
returns-then-self-clause-head g c = on_ok_weaker c.append_batch.result (λ made. ap (λ (i : Journaled). i.head) made) c.append_batch.ensures.journal

pub returns-else-self-clause-head : goal.returns-else-self-clause-head
returns-else-self-clause-head g c = on_ok_weaker c.append_batch-else-self.result (λ made. ap (λ (i : Journaled). i.head) made) c.append_batch-else-self.ensures.journal

pub returns-then-self-clause-sound : goal.returns-then-self-clause-sound
returns-then-self-clause-sound g c b v st room =
    let node = c.args.self.now.journal.head.node in
    let later = c.append_batch.ensures.moment in
    let j = live_second node b v (st.live ∙ ap Some c.if-self.true) st.value in
    let run = c.append_batch.ensures.crash b.j1 v.journal st.rest.at_j1.holds j st.gate st.rest.at_j1.rests room in
    record {
      on_j0 = rest_sound _ _ b.j0 _ _ later st.rest.at_j0;
      on_j1 = run_sound _ _ (IsWithOrWithout node v.journal c.args.records.now) b.j1 _ _ _ _ st.rest.at_j1 run c.append_batch.ensures.left;
      on_i0 = rest_sound _ _ b.i0 _ _ later st.rest.at_i0;
      on_i1 = rest_sound _ _ b.i1 _ _ later st.rest.at_i1;
    }

pub returns-else-self-clause-sound : goal.returns-else-self-clause-sound
returns-else-self-clause-sound g c b v st room =
    let node = c.args.self.now.journal.head.node in
    let later = c.append_batch-else-self.ensures.moment in
    let j = live_first node b v (st.live ∙ ap Some c.if-self.false) st.value in
    let run = c.append_batch-else-self.ensures.crash b.j0 v.journal st.rest.at_j0.holds j st.gate st.rest.at_j0.rests room in
    record {
      on_j0 = run_sound _ _ (IsWithOrWithout node v.journal c.args.records.now) b.j0 _ _ _ _ st.rest.at_j0 run c.append_batch-else-self.ensures.left;
      on_j1 = rest_sound _ _ b.j1 _ _ later st.rest.at_j1;
      on_i0 = rest_sound _ _ b.i0 _ _ later st.rest.at_i0;
      on_i1 = rest_sound _ _ b.i1 _ _ later st.rest.at_i1;
    }
