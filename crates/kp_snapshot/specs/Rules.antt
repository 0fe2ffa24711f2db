-- The rules of an image between its fields. Each looks back alone: a field is judged by the fields before it, so that the
-- first field that breaks a rule is the one refused. They are this project's own.
use Rattle.std.specs.Prelude.{ℕ, Bool, false, not, ◌&&◌, ◌||◌, ◌==◌, nat_lt, nat_le, List, [], ◌∷◌, map}
use Rattle.std.specs.List.{list_all, list_any}
use Rattle.std.specs.Option.{option_map_or}
use Rattle.std.specs.Ordering.{is_lt}
use Rattle.std.specs.Str.{bytes_eq}
use Rattle.std.specs.FinMap.{find}
use Rattle.kp_model.specs.declared.node.Node.{Node}
use Rattle.kp_model.specs.declared.session.Session.{Session}
use Rattle.kp_model.specs.declared.session.Origin.{Origin}
use Rattle.kp_model.specs.Path.{root, parent, is_well_formed}
use Rattle.kp_model.specs.State.{path_cmp, same_origin}

-- a session by its number, and a node by its path
abbrev pub Numbered : Type 0
Numbered = ℕ × Session

abbrev pub Placed : Type 0
Placed = List ℕ × Node

abbrev pub numbers_of : List Numbered → List ℕ
numbers_of ss = map (λ (s : Numbered). s.0) ss

abbrev pub holders_of : List Numbered → List Origin
holders_of ss = map (λ (s : Numbered). s.1.holder) ss

-- sessions come in the order of their numbers, which are at least 1 and below the next one's
abbrev pub may_be_number : ℕ → List ℕ → ℕ → Bool
may_be_number next before id = nat_le 1 id && (nat_lt id next && list_all (λ b. nat_lt b id) before)

-- no session before has this holder
abbrev pub is_new_holder : List Origin → Origin → Bool
is_new_holder before o = not (list_any (λ b. same_origin b o) before)

-- the node of this path is before, and has no owner
abbrev pub is_open : List Placed → List ℕ → Bool
is_open before p = option_map_or (λ (n : Node). n.owner == 0) (find path_cmp p before) false

-- the first path is the root; each further one is well formed, behind those before it, and has its parent among them, without owner
abbrev pub may_be_path : List Placed → List ℕ → Bool
may_be_path [] p = bytes_eq p root
may_be_path (x ∷ xs) p = is_well_formed p && (list_all (λ (n : Placed). is_lt (path_cmp n.0 p)) (x ∷ xs) && is_open (x ∷ xs) (parent p))

-- an owner is 0, or one of these sessions for another node than the root
abbrev pub may_own : List ℕ → Bool → ℕ → Bool
may_own sessions is_root owner = owner == 0 || (not is_root && list_any (λ id. id == owner) sessions)
