use Rattle.std.proofs.Common.{◌≡◌, ℕ, ◌+◌, ◌<◌, List, [], ◌∷◌, ◌++◌, length, ap, sym, subst, ◌∙◌, arith}
use Rattle.kp_model.specs.Good.{IsGood}
use Rattle.kp_model.specs.LogEntry.{LogEntry}
use Rattle.kp_model.specs.Step.{apply, Outcome}
use Rattle.kp_model.specs.Store.{Store, committed_as}
use Rattle.kp_model.specs.declared.reply.Committed.{Committed}
use Rattle.kp_cells.specs.Parts.{parts_of, FitTogether}
use Rattle.kp_cells.specs.Overlays.{Overlays, latest_parts, latest_state, all_begun, all_sealed}
use Rattle.kp_model.specs.Grammar.{IsEntry}
use Rattle.kp_model.specs.Touched.{touched}
use Rattle.kp_prep.specs.Touching.{AreWithin, staged_keys}
use Rattle.kp_storage.proofs.Keeping.{applied_is, begun_fits, begun_sound, begun_next, keeps_more, keeps_as}
use Rattle.kp_storage.proofs.storage.Storage.preprocess.Goals as goal

pub prepare-requires-clause-fits : goal.prepare-requires-clause-fits
prepare-requires-clause-fits c = subst (λ (o : Overlays). FitTogether (latest_parts o)) (sym c.in_ok-begin.ensures.ok) (begun_fits c.self.inside.cells c.self.inside.entries.items c.self.inside.answers.items c.self.invariant)

pub prepare-requires-clause-good : goal.prepare-requires-clause-good
prepare-requires-clause-good c = subst (λ (o : Overlays). IsGood (latest_state o)) (sym c.in_ok-begin.ensures.ok) (begun_sound c.self.inside.cells c.self.inside.entries.items c.self.inside.answers.items c.self.invariant).good

pub prepare-requires-clause-next : goal.prepare-requires-clause-next
prepare-requires-clause-next c =
    let index : c.self.inside.cells.applied + length c.self.inside.entries.items + 1 ≡ c.last-index.result + 1 =
    omega (arith, c.last-index.ensures.index, applied_is c.self.inside.cells, ap (λ (x : Store). x.state.applied + length x.unapplied) c.self.view_is) in
    ap (λ (o : Overlays). (latest_state o).applied + 1) c.in_ok-begin.ensures.ok ∙ begun_next c.self.inside.cells c.self.inside.entries.items c.self.inside.answers.items c.self.invariant ∙ index

pub invariant_of-self-in-Ok : goal.invariant_of-self-in-Ok
invariant_of-self-in-Ok c =
    let e : LogEntry = c.in_ok-entry.entry in
    let o : Overlays = c.self.inside.cells in
    let i : ℕ = c.last-index.result + 1 in
    let out : Outcome = record { state = (apply (latest_state (all_begun o)) e).state; reply = c.in-Ok.field-0.reply; events = c.in-Ok.field-0.events } in
    let on : all_begun c.prepare.new.cells ≡ all_begun o = c.in-Ok.ensures.beneath ∙ c.in_ok-begin.ensures.ok in
    let as_applied : out ≡ apply (latest_state (all_begun o)) e = λ j. record {
      state = (apply (latest_state (all_begun o)) e).state;
      reply = (c.in-Ok.ensures.reply ∙ ap (λ (x : Overlays). (apply (latest_state x) e).reply) c.in_ok-begin.ensures.ok) j;
      events = (c.in-Ok.ensures.events ∙ ap (λ (x : Overlays). (apply (latest_state x) e).events) c.in_ok-begin.ensures.ok) j;
    } in
    let stands : latest_parts c.prepare.new.cells ≡ parts_of out.state = c.in-Ok.ensures.stands ∙ ap (λ (x : Overlays). parts_of (apply (latest_state x) e).state) c.in_ok-begin.ensures.ok in
    let index : i ≡ o.applied + length c.self.inside.entries.items + 1 =
    omega (arith, c.last-index.ensures.index, applied_is o, ap (λ (x : Store). x.state.applied + length x.unapplied) c.self.view_is) in
    let room : o.applied + length c.self.inside.entries.items < 4611686018427387904 =
    omega (arith, c.requires.room, applied_is o, ap (λ (x : Store). x.state.applied + length x.unapplied) c.self.view_is) in
    let taken : IsEntry e = subst IsEntry (sym c.in_ok-entry.ensures.same) c.copy.ensures.grammar in
    let within : AreWithin (touched (latest_state (all_begun o)) e) (staged_keys c.prepare.new.cells) = subst (λ (x : Overlays). AreWithin (touched (latest_state x) e) (staged_keys c.prepare.new.cells)) c.in_ok-begin.ensures.ok c.in-Ok.ensures.touches in
    let entries : c.push_back_reserved.new.self.items ≡ c.self.inside.entries.items ++ e ∷ [] =
    c.push_back_reserved.ensures.items ∙ ap (λ (xs : List LogEntry). xs ++ e ∷ []) c.reserve.ensures.items in
    let answers : c.push_back_reserved-in-Ok.new.self.items ≡ c.self.inside.answers.items ++ committed_as i out ∷ [] =
    c.push_back_reserved-in-Ok.ensures.items ∙ ap (λ (xs : List Committed). xs ++ committed_as i out ∷ []) c.reserve-2.ensures.items in
    keeps_as (all_sealed c.prepare.new.cells) c.seal.new.self (c.self.inside.entries.items ++ e ∷ []) c.push_back_reserved.new.self.items (c.self.inside.answers.items ++ committed_as i out ∷ []) c.push_back_reserved-in-Ok.new.self.items
    c.seal.ensures entries answers
    (keeps_more c.self.inside.cells c.self.inside.entries.items c.self.inside.answers.items c.self.invariant c.prepare.new.cells e i out on as_applied stands index room taken within)
