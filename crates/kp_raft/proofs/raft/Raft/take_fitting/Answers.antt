use Rattle.std.proofs.Common.{arith, ap, sym, refl, ◌≡◌, ◌≤◌, ◌∙◌, ◌∷◌, [], ℕ, List, take, drop}
use Rattle.kp_entry.specs.Log.{last_index}
use Rattle.kp_raft.specs.declared.vars.Vars.{Vars}
use Rattle.kp_raft.specs.Variables.{vars_of}
use Rattle.kp_raft.proofs.StepFacts.{if_ok, fitted_is, Ends, fitted_ends, still_fitted, none_behind, steps_as}
use Rattle.kp_raft.proofs.raft.Raft.take_fitting.Goals as goal

pub still-requires-clause-to : goal.still-requires-clause-to
still-requires-clause-to g c =
    let own : c.variables.result.commit ≡ c.args.self.now.vars.commit = ap (λ (v : Vars). v.commit) c.variables.ensures.vars in
    let low : c.args.self.now.vars.commit ≤ last_index c.args.self.now.held.log = omega (arith, own, c.variables.ensures.to) in
    let e : Ends c.args.self.now.held.log c.args.self.now.vars.commit c.args.mail.now.prev c.args.weighed.matched c.args.j c.args.weighed.keep = fitted_ends c.args.self.now.held.log c.args.self.now.vars.commit c.args.mail.now c.args.weighed c.args.j c.requires.fits c.requires.weighed c.requires.taken low c.requires.matched c.requires.within in
    omega (arith, own, e.commit_in, e.reach, c.committing-vars.ensures.commit, c.min.ensures, c.if-weighed-j.true)

pub change-requires-clause-to : goal.change-requires-clause-to
change-requires-clause-to g c =
    let own : c.variables.result.commit ≡ c.args.self.now.vars.commit = ap (λ (v : Vars). v.commit) c.variables.ensures.vars in
    let low : c.args.self.now.vars.commit ≤ last_index c.args.self.now.held.log = omega (arith, own, c.variables.ensures.to) in
    let e : Ends c.args.self.now.held.log c.args.self.now.vars.commit c.args.mail.now.prev c.args.weighed.matched c.args.j c.args.weighed.keep = fitted_ends c.args.self.now.held.log c.args.self.now.vars.commit c.args.mail.now c.args.weighed c.args.j c.requires.fits c.requires.weighed c.requires.taken low c.requires.matched c.requires.within in
    omega (arith, own, e.commit_in, e.reach, c.committing-vars.ensures.commit, c.min.ensures)

pub change-requires-clause-fits : goal.change-requires-clause-fits
change-requires-clause-fits g c =
    let own : c.variables.result.commit ≡ c.args.self.now.vars.commit = ap (λ (v : Vars). v.commit) c.variables.ensures.vars in
    let low : c.args.self.now.vars.commit ≤ last_index c.args.self.now.held.log = omega (arith, own, c.variables.ensures.to) in
    let e : Ends c.args.self.now.held.log c.args.self.now.vars.commit c.args.mail.now.prev c.args.weighed.matched c.args.j c.args.weighed.keep = fitted_ends c.args.self.now.held.log c.args.self.now.vars.commit c.args.mail.now c.args.weighed c.args.j c.requires.fits c.requires.weighed c.requires.taken low c.requires.matched c.requires.within in
    omega (arith, e.within, c.variables.ensures.fits, c.requires.within, c.requires.range)

pub returns-then-weighed-j-clause-ok : goal.returns-then-weighed-j-clause-ok
returns-then-weighed-j-clause-ok g c =
    let fitted_ = fitted_is {I = g.row.I.Denot} c.args.self.now c.args.mail.now c.args.j c.vote_at-vote.result c.min.result c.args.weighed c.variables.result c.committing-vars.result [] (c.acceptance-answer.result ∷ []) c.requires.weighed c.requires.taken c.requires.matched c.vote_at-vote.ensures.vote c.variables.ensures.vars c.committing-vars.ensures.after c.min.ensures (none_behind c.args.j c.args.mail.now.entries c.requires.within ∙ ap (λ (k : ℕ). drop k (take c.args.j c.args.mail.now.entries)) (sym c.if-weighed-j.true)) c.acceptance-answer.ensures in
    if_ok c.still.result (λ out. steps_as {I = g.row.I.Denot} c.args.self.now c.still.new.self _ _ out (still_fitted {I = g.row.I.Denot} c.args.self.now.held c.args.mail.now.term c.vote_at-vote.result c.args.weighed.keep (vars_of c.committing-vars.result) (c.acceptance-answer.result ∷ []) ∙ fitted_)) c.still.ensures.ok

pub returns-clause-ok : goal.returns-clause-ok
returns-clause-ok g c = if_ok c.change.result (λ out. steps_as {I = g.row.I.Denot} c.args.self.now c.change.new.self _ _ out (fitted_is {I = g.row.I.Denot} c.args.self.now c.args.mail.now c.args.j _ _ c.args.weighed c.variables.result _ _ _ c.requires.weighed c.requires.taken c.requires.matched c.vote_at-vote.ensures.vote c.variables.ensures.vars c.committing-vars.ensures.after c.min.ensures refl (c.in_ok-mails.ensures ∙ c.acceptance-answer.ensures))) c.change.ensures.ok
