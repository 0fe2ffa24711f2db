-- Settling the one connection that doesn't rest is settling all.
use Rattle.std.proofs.Common.{◌≡◌, ℕ, Option, Some, None, refl, ap, ◌∙◌}
use Rattle.std.specs.FinMap as map
use Rattle.kp_model.specs.State.{State}
use Rattle.kp_step.specs.declared.seat.Seat.{Seat}
use Rattle.kp_step.specs.Choices.{Choices}
use Rattle.kp_step.specs.Settling.{settled}
use Rattle.kp_step.specs.Tables.{Table, seated, settled_in, settled_one, settled_all}
use Rattle.kp_node.specs.Ending.{SettledIsAll}
use Rattle.kp_node.specs.Resting.{OthersRest}
use Rattle.kp_node.proofs.Resting.{one_is_all}

in_place : (ch : Choices) (s : State) (t : Table) (k : ℕ) (x : Seat) → map.get t.seats k ≡ Some x → settled_one ch s t k ≡ settled_in ch s t k (Some x)
unfolding settled_one
in_place ch s t k x there = ap (settled_in ch s t k) there

pub settled_law : SettledIsAll
settled_law ch s t k x rest there =
    let all : settled_all ch s t (map.keys t.seats) ≡ settled_in ch s t k (Some x) = one_is_all ch s t k rest ∙ in_place ch s t k x there in
    (ap (λ (u : Table). u.seats) all, ap (λ (u : Table). u.watches) all)
