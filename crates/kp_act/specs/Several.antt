-- Effects, one after the other.
use Rattle.std.specs.Prelude.{List, [], ◌∷◌}
use Rattle.kp_model.specs.State.{Nodes}
use Rattle.kp_cells.specs.Parts.{Parts}
use Rattle.kp_act.specs.declared.plan.Effect.{Effect}
use Rattle.kp_act.specs.Effects.{TellsOwner, effected, effected_nodes}

-- the parts after all effects
unfoldable pub effected_by : Parts → List Effect → Parts
effected_by p [] = p
effected_by p (e ∷ es) = effected_by (effected p e) es

-- the nodes after all effects
unfoldable pub effected_nodes_by : Nodes → List Effect → Nodes
effected_nodes_by nodes [] = nodes
effected_nodes_by nodes (e ∷ es) = effected_nodes_by (effected_nodes nodes e) es

-- each effect tells the owner of a node that is removed
unfoldable pub TellOwners : Parts → List Effect → Type 0
TellOwners p [] = Unit {0}
TellOwners p (e ∷ es) = TellsOwner p e × TellOwners (effected p e) es
