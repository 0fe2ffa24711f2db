use Rattle.std.proofs.Common.{ℕ, List, get_or, slice_get, sym, ap, subst, ◌∙◌}
use Rattle.std.specs.FinMap as map
use Rattle.std.specs.Cmp.{nat_cmp_total}
use Rattle.std.proofs.lemmas.Option.{slice_get-get_or}
use Rattle.kp_snapshot.specs.Rules.{Numbered}
use Rattle.kp_snapshot.specs.Images.{spell_session}
use Rattle.kp_snapshot.specs.Written.{WroteRows}
use Rattle.kp_snapshot.proofs.Keyed.{at_key, keys_taken}
use Rattle.kp_snapshot.proofs.PartWrites.{session_row, session_written}
use Rattle.kp_snapshot.proofs.put_sessions.put_each.Goals as goal

pub loop-id-preserved : goal.loop-id-preserved
loop-id-preserved g c =
    let m = (g.V.View.state c.args.view.now).sessions in
    let i = c.loop-id.id-index in
    let id = get_or c.args.ids.now i 0 in
    let e = at_key nat_cmp_total m i id (ap (λ (ks : List ℕ). slice_get ks i) (sym c.requires.ids) ∙ slice_get-get_or c.args.ids.now i 0 c.loop-id-test.true) in
    let w = c.in_ok-put_next.ensures e.0 e.1 in
    session_written c.args.known.now.next i (map.entries m) (id, e.0) c.loop-id.known c.put_next.new.known c.args.out.now.items c.loop-id.out.items c.put_next.new.out.items e.2 c.loop-id.invariant.0 w.0 c.loop-id.invariant.1 w.1

pub returns-clause-put : goal.returns-clause-put
returns-clause-put g c =
    let m = (g.V.View.state c.args.view.now).sessions in
    subst (λ (xs : List Numbered). WroteRows spell_session (session_row c.args.known.now.next) xs c.args.out.now.items c.loop-id.out.items) (keys_taken nat_cmp_total m c.loop-id.id-index c.args.ids.now c.requires.ids c.loop-id-test.false) c.loop-id.invariant.1
