-- A multi keeps a good state good.
use Rattle.std.proofs.Common.{◌≡◌, ℕ, List, [], ◌∷◌, ◌++◌, length, Option, Some, None, IsTrue, IsSome, sym, subst, ◌∙◌}
use Rattle.std.specs.Prelude.{ℤ}
use Rattle.std.specs.List.{list_all}
use Rattle.std.specs.FinMap as map
use Rattle.kp_model.specs.declared.command.Op.{Op}
use Rattle.kp_model.specs.declared.reply.OpReply.{OpReply}
use Rattle.kp_model.specs.declared.reply.Event.{Event}
use Rattle.kp_model.specs.Grammar.{is_number, fits_op}
use Rattle.kp_model.specs.State.{State}
use Rattle.kp_model.specs.Step.{Outcome, replies, act_on, error_of, op_reply, failure, stop_at, multi}
use Rattle.kp_model.specs.Good.{IsGood}
use Rattle.kp_model.proofs.Applied.{acted_on}
use Rattle.kp_model.proofs.GoodLists.{both}
use Rattle.kp_model.proofs.GoodNodes.{act_on_good}
use Rattle.kp_model.proofs.Holders.{act_on_sessions}

stop_good : (o : Option ℤ) (failed : ℤ → Outcome) (rest : Outcome) → ((e : ℤ) → IsGood (failed e).state) → IsGood rest.state → IsGood (stop_at o failed rest).state
stop_good None failed rest f r = r
stop_good (Some e) failed rest f r = f e

-- an operation at an index that is the applied one
act_on_good_at : (s : State) (session : ℕ) (ids : List (List ℕ)) (i t : ℕ) (o : Op) → s.applied ≡ i → IsTrue (is_number t) → IsTrue (fits_op o) → IsSome (map.get s.sessions session)
    → IsGood s → IsGood (act_on s session ids i t o).state
act_on_good_at s session ids i t o same time fits lives good = subst (λ j. IsGood (act_on s session ids j t o).state) same (act_on_good s session ids t o time fits lives good)

pub multi_good : (old s : State) (session : ℕ) (ids : List (List ℕ)) (i t : ℕ) (answers : List OpReply) (events : List Event) (ops : List Op)
    → s.applied ≡ i → IsTrue (is_number t) → IsTrue (list_all fits_op ops) → IsSome (map.get s.sessions session)
    → IsGood old → IsGood s → IsGood (multi old s session ids i t answers events ops).state
unfolding multi
multi_good old s session ids i t answers events [] same time fits lives before good = good
multi_good old s session ids i t answers events (o ∷ ops) same time fits lives before good =
    let parts = both (fits_op o) (list_all fits_op ops) fits in
    let done = act_on s session ids i t o in
    stop_good (error_of done.reply) (λ code. replies old (failure (length answers) code (length ops))) _ (λ _. before)
    (multi_good old done.state session ids i t (answers ++ op_reply done.reply ∷ []) (events ++ done.events) ops (acted_on s session ids i t o ∙ same) time parts.1
    (subst (λ m. IsSome (map.get m session)) (sym (act_on_sessions s session ids i t o)) lives) before (act_on_good_at s session ids i t o same time parts.0 lives good))
