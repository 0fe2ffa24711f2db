-- The end of a session is what closing it does.
use Rattle.std.proofs.Common.{◌≡◌, ℕ, List, refl, ap, sym, subst, ◌∙◌}
use Rattle.std.specs.Prelude.{Result, IfOk}
use Rattle.std.specs.FinMap as fin
use Rattle.kp_model.specs.declared.command.Cmd.TheVariants as cmd
use Rattle.kp_model.specs.State.{State, Sessions, owned}
use Rattle.kp_model.specs.Step.{act, closed, shrunk_by}
use Rattle.kp_model.specs.Touched.{touched_in, with_parents}
use Rattle.kp_cells.specs.Parts.{parts_of}
use Rattle.kp_act.specs.declared.plan.Plan.{Plan}
use Rattle.kp_draft.specs.Closing.{AreLeaves, closing_plan}
use Rattle.kp_act.specs.Plans.{IsPlan}
use Rattle.kp_act.proofs.Acts.{if_ok}
use Rattle.kp_draft.proofs.Removals.{removals_parts, removals_nodes, removals_owners, removals_fit, removals_data, removals_among, families}
use Rattle.kp_act.proofs.Plans.{the_one}

-- the nodes go, and then the session, whatever it was before
pub closed_is : (s : State) (i id applied : ℕ) (sessions : Sessions) → fin.remove sessions id ≡ fin.remove s.sessions id → AreLeaves s.nodes id (owned s.nodes id) → IsPlan (touched_in s id cmd.CloseSession) s (closed (record s { applied = applied; sessions = sessions }) i id) (closing_plan i id s.nodes (owned s.nodes id))
unfolding closed parts_of
closed_is s i id applied sessions same h =
    let ps : List (List ℕ) = owned s.nodes id in
    let z : State = record s { sessions = fin.remove s.sessions id } in
    record {
      reply = refl;
      events = refl;
      parts = removals_parts i id z ps h ∙ ap (λ m. parts_of (record s { nodes = shrunk_by s.nodes i ps; sessions = m })) (sym same);
      nodes = removals_nodes i id s.nodes ps h;
      owners = removals_owners i id s ps h;
      fit = removals_fit i id s.nodes ps h;
      fits = removals_data i id s.nodes ps;
      paths = removals_among i id (with_parents ps) s.nodes ps (families ps);
      sessions = the_one id;
    }

-- the same of what was found
pub closing_does : {E : Type 0} (s : State) (i id applied : ℕ) (sessions : Sessions) (paths : List (List ℕ)) (r : Result Plan E) → fin.remove sessions id ≡ fin.remove s.sessions id → paths ≡ owned s.nodes id → AreLeaves s.nodes id (owned s.nodes id) → IfOk r (λ p. p ≡ closing_plan i id s.nodes paths) → IfOk r (IsPlan (touched_in s id cmd.CloseSession) s (closed (record s { applied = applied; sessions = sessions }) i id))
closing_does s i id applied sessions paths r same are h found =
    if_ok (IsPlan (touched_in s id cmd.CloseSession) s (closed (record s { applied = applied; sessions = sessions }) i id)) r (closing_plan i id s.nodes paths) found
    (subst (λ ps. IsPlan (touched_in s id cmd.CloseSession) s (closed (record s { applied = applied; sessions = sessions }) i id) (closing_plan i id s.nodes ps)) (sym are) (closed_is s i id applied sessions same h))

-- the command that closes a session
pub acted_closed : {E : Type 0} (s : State) (sessions : Sessions) (ids : List (List ℕ)) (i t id : ℕ) (r : Result Plan E) → IfOk r (IsPlan (touched_in s id cmd.CloseSession) s (closed (record s { applied = i; sessions = sessions }) i id)) → IfOk r (IsPlan (touched_in s id cmd.CloseSession) s (act (record s { applied = i; sessions = sessions }) id ids i t cmd.CloseSession))
unfolding act
acted_closed s sessions ids i t id r h = h
