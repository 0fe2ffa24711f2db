-- How what is known of the sessions and the tree of deadlines hang together.
use Rattle.std.specs.Prelude.{◌≡◌, ℕ, ◌-◌, cond, nat_eq, nat_lt, List, [], ◌∷◌, length, Option, Some, None}
use Rattle.std.specs.List.{slice_get}
use Rattle.std.specs.Map.{lookup}
use Rattle.std.specs.Ordering.{nat_cmp}
use Rattle.std.specs.FinMap as map
use Rattle.std.specs.FinMap.{FinMap}
use Rattle.kp_expiry.specs.declared.heard.Heard.{Heard}
use Rattle.kp_expiry.specs.declared.expiry.Known.{Known}
use Rattle.kp_expiry.specs.Deadline.{deadline}

-- when the session was heard, if it is known
abbrev pub heard_in : Option Known → Option Heard
heard_in None = None
heard_in (Some c) = Some c.heard

-- the session's node, if it is known
abbrev pub node_in : Option Known → Option ℕ
node_in None = None
node_in (Some c) = Some c.node

-- the same, heard at another time
abbrev pub heard_at : Heard → Option Known → Option Known
heard_at h None = None
heard_at h (Some c) = Some (record { heard = h; node = c.node })

-- the same timeout, heard at now
abbrev pub heard_again : ℕ → Heard → Heard
heard_again now h = record { heard = now; timeout = h.timeout }

-- a session, heard again at now
abbrev pub known_again : ℕ → Known → Known
known_again now c = record { heard = heard_again now c.heard; node = c.node }

-- the session of the node, heard again at now; another one as it was
abbrev pub known_at : ℕ → ℕ → Known → Known
known_at node now c = cond (nat_eq c.node node) (known_again now c) c

-- a session of a node before the n-th, heard again at now; another one as it was
abbrev pub known_before : ℕ → ℕ → Known → Known
known_before n now c = cond (nat_lt c.node n) (known_again now c) c

-- the same, at another node
abbrev pub moved_to : ℕ → Option Known → Option Known
moved_to node None = None
moved_to node (Some c) = Some (record { heard = c.heard; node = node })

-- the session of a node, if there is such a node
abbrev pub session_in : Option (ℕ × ℕ) → Option ℕ
session_in None = None
session_in (Some t) = Some t.1

-- what stands at i once the node was taken out and the last one put in its place
abbrev pub taken_out : List (ℕ × ℕ) → ℕ → ℕ → Option (ℕ × ℕ)
taken_out ts node i = cond (nat_lt i (length ts - 1)) (cond (nat_eq i node) (slice_get ts (length ts - 1)) (slice_get ts i)) None

-- the session that is put in the node's place: the last one, if it is another
abbrev pub mover : List (ℕ × ℕ) → ℕ → Option ℕ
mover ts node = cond (nat_lt node (length ts - 1)) (session_in (slice_get ts (length ts - 1))) None

-- the map of what is known
abbrev pub base_of : List (ℕ × Known) → FinMap nat_cmp Heard
base_of [] = map.empty
base_of (e ∷ es) = map.insert (base_of es) e.0 e.1.heard

-- each known session has its deadline at its node, and no other node has a session
pub record IsIndex (known : List (ℕ × Known)) (ts : List (ℕ × ℕ)) : Type 0 where
  pub there : (k : ℕ) (c : Known) → lookup (nat_eq k) known ≡ Some c → slice_get ts c.node ≡ Some (deadline c.heard, k)
  pub back : (i : ℕ) (t : ℕ × ℕ) → slice_get ts i ≡ Some t → node_in (lookup (nat_eq t.1) known) ≡ Some i
