-- What is looked up of a node, part by part.
use Rattle.std.proofs.Common.{◌≡◌, ℕ, true, false, List, Option, Some, None, refl}
use Rattle.std.specs.Prelude.{is_some}
use Rattle.std.specs.Option.{option_map}
use Rattle.std.specs.FinMap as map
use Rattle.kp_model.specs.declared.node.Node.{Node}
use Rattle.kp_model.specs.State.{Nodes, stat, kids, seen, meta_at, bytes_at}
use Rattle.kp_look.specs.Texts.{shown, kids_at}

both_of : (nodes : Nodes) (path : List ℕ) (o : Option Node)
    → shown (option_map (λ (n : Node). n.bytes) o) (option_map (stat nodes path) o) ≡ option_map (λ n. record { bytes = n.bytes; meta = stat nodes path n }) o
both_of nodes path None = refl
both_of nodes path (Some n) = refl

-- a node's data and its numbers are what is seen of it
pub shown_seen : (nodes : Nodes) (path : List ℕ) → shown (bytes_at nodes path) (meta_at nodes path) ≡ seen nodes path
unfolding bytes_at meta_at seen
shown_seen nodes path = both_of nodes path (map.get nodes path)

there : (nodes : Nodes) (path : List ℕ) (o : Option Node) → is_some (option_map (stat nodes path) o) ≡ true → option_map (λ _. kids nodes path) o ≡ Some (kids nodes path)
there nodes path None h = absurd (cc)
there nodes path (Some n) h = refl

-- a node has children, and a path without a node has none to tell of
pub kids_there : (nodes : Nodes) (path : List ℕ) → is_some (meta_at nodes path) ≡ true → kids_at nodes path ≡ Some (kids nodes path)
unfolding meta_at kids_at
kids_there nodes path h = there nodes path (map.get nodes path) h

nowhere : (nodes : Nodes) (path : List ℕ) (o : Option Node) → is_some (option_map (stat nodes path) o) ≡ false → option_map (λ _. kids nodes path) o ≡ None
nowhere nodes path None h = refl
nowhere nodes path (Some n) h = absurd (cc)

pub kids_nowhere : (nodes : Nodes) (path : List ℕ) → is_some (meta_at nodes path) ≡ false → kids_at nodes path ≡ None
unfolding meta_at kids_at
kids_nowhere nodes path h = nowhere nodes path (map.get nodes path) h
