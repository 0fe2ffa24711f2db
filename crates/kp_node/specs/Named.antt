-- The sessions that a message names become known, so that they can be heard without memory.
use Rattle.std.specs.Prelude.{◌≡◌, ℕ, Bool, true, nat_eq, cond, is_some, List, [], ◌∷◌, ◌++◌, Option, Some, None, if◌then◌else◌}
use Rattle.std.specs.List.{list_any}
use Rattle.std.specs.Ordering.{nat_cmp}
use Rattle.std.specs.Option.{option_map}
use Rattle.std.specs.FinMap as map
use Rattle.std.specs.FinMap.{FinMap}
use Rattle.kp_model.specs.declared.session.Session.{Session}
use Rattle.kp_model.specs.State.{Sessions}
use Rattle.kp_expiry.specs.declared.heard.Heard.{Heard}

-- whether the list has the number
abbrev pub has : List ℕ → ℕ → Bool
has ks q = list_any (nat_eq q) ks

-- the timeout of a session that is not known
abbrev pub missing : Sessions → FinMap nat_cmp Heard → ℕ → Option ℕ
missing sessions heard id = if is_some (map.get heard id) then None else option_map (λ (x : Session). x.timeout) (map.get sessions id)

-- nothing is known of these any more
abbrev pub forgotten : FinMap nat_cmp Heard → List ℕ → FinMap nat_cmp Heard
forgotten m [] = m
forgotten m (k ∷ ks) = forgotten (map.remove m k) ks

-- a session, if there is one, is known
abbrev pub IsKnown : Sessions → ℕ → FinMap nat_cmp Heard → Type 0
IsKnown sessions id heard = is_some (map.get sessions id) ≡ true → is_some (map.get heard id) ≡ true

abbrev pub AreKnown : Sessions → List ℕ → FinMap nat_cmp Heard → Type 0
AreKnown sessions ids heard = (q : ℕ) → has ids q ≡ true → IsKnown sessions q heard

-- all that are named are known, and these, which are of them, were not
pub record IsAdmitted (sessions : Sessions) (ids : List ℕ) (old : FinMap nat_cmp Heard) (list : List ℕ) (new : FinMap nat_cmp Heard) : Type 0 where
  pub known : AreKnown sessions ids new
  pub among : (q : ℕ) → has list q ≡ true → (has ids q ≡ true) × (is_some (map.get sessions q) ≡ true)
  pub back : forgotten new list ≡ old

-- a session with this timeout, if it was missing, is known and stands behind the others
abbrev pub TakesIn : ℕ → Option ℕ → FinMap nat_cmp Heard → List ℕ → FinMap nat_cmp Heard → List ℕ → Type 0
TakesIn id None m list m' list' = (m' ≡ m) × (list' ≡ list)
TakesIn id (Some timeout) m list m' list' = (x : Heard) × (m' ≡ map.insert m id x) × (list' ≡ list ++ id ∷ [])
