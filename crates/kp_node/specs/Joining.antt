-- Requests join the queue of a connection, by some luck.
use Rattle.std.specs.Prelude.{◌≡◌, ◌-◌, ◌&&◌, nat_le, if◌then◌else◌, ℕ, Bool, true, List, [], Option, Some, None}
use Rattle.kp_model.specs.declared.command.Cmd.{Cmd}
use Rattle.kp_model.specs.declared.entry.Body.{Body}
use Rattle.kp_model.specs.Limits.{last_number}
use Rattle.kp_model.specs.State.{State}
use Rattle.kp_model.specs.Store.{Store, latest as latest_of, last as last_of}
use Rattle.kp_wire.specs.declared.request.Request.{Request}
use Rattle.kp_conn.specs.declared.phase.Phase.{Phase}
use Rattle.kp_conn.specs.declared.phase.Phase.TheVariants as phase
use Rattle.kp_conn.specs.Connection.{Connection, closed}
use Rattle.kp_step.specs.Handing as step
use Rattle.kp_step.specs.Handing.{Joined, joined_all, joined_one, joined_write, handed, is_led}
use Rattle.kp_node.specs.declared.joining.Ground.{Ground}
use Rattle.kp_node.specs.declared.joining.Place.{Place}
use Rattle.kp_node.specs.Proposing.{AtDesk}

-- the connection and the desk behind requests
abbrev pub joined_with : step.Ground → Option ℕ → Connection → step.Desk → List Request → Connection × step.Desk
joined_with g n c d qs = let j = joined_all g n c d qs in (j.connection, j.desk)

-- by some luck the requests join
abbrev pub IsJoined : step.Ground → Connection → step.Desk → List Request → Connection → step.Desk → Type 0
IsJoined g c d qs c' d' = (n : Option ℕ) × (joined_with g n c d qs ≡ (c', d'))

-- ---- what was handed in, as a storage and two lists of bodies

-- the ground of a step with this committed state
abbrev pub ground_in : Ground → State → step.Ground
ground_in g s = record { me = g.me; boot = g.boot; term = g.term; leader = g.leader; leads = g.leads; now = g.now; state = s }

-- the desk of a storage, where these bodies were handed in and those are sent to the leader
abbrev pub desk_of : Store → List Body → List Body → step.Desk
desk_of x bs fs = record { latest = latest_of x; room = last_number - last_of x; bodies = bs; forwards = fs }

-- whether a leader is known; one whose log is full leads no more
abbrev pub led : Ground → Store → Bool
led g x = is_led (ground_in g x.state) (desk_of x [] [])

-- the storage is behind these bodies, which were handed in from the first one on
abbrev pub IsBehind : Store → Ground → Store → List Body → List Body → Type 0
IsBehind first g x bs fs = AtDesk first g.term g.now x bs (desk_of x bs fs)

-- a storage with what was handed in and is sent, before and behind something, which the desk becomes
abbrev pub HandsOn : Ground → Store → List Body → List Body → Store → List Body → List Body → (step.Ground → step.Desk → step.Desk → Type 0) → Type 0
HandsOn g x bs fs y cs gs Becomes = (first : Store) (s : State) → IsBehind first g x bs fs → IsBehind first g y cs gs × Becomes (ground_in g s) (desk_of x bs fs) (desk_of y cs gs)

-- a body was handed in
abbrev pub IsHanded : Ground → Store → List Body → List Body → Body → Store → List Body → List Body → Type 0
IsHanded g x bs fs b y cs gs = HandsOn g x bs fs y cs gs (λ h d d'. d' ≡ handed h d b)

-- nothing has changed
abbrev pub SameBeside : Store → List Body → List Body → Store → List Body → List Body → Type 0
SameBeside x bs fs y cs gs = (y ≡ x) × ((cs ≡ bs) × (gs ≡ fs))

-- where a connection's next write stands, if it may have a number
abbrev pub write_number : Bool → Phase → Option Place
write_number led (phase.Live s e n) = if led && nat_le n last_number then Some (record { session = s; epoch = e; seq = n }) else None
write_number led p = None

-- ---- requests join

abbrev pub joined_by : Joined → Connection × step.Desk
joined_by j = (j.connection, j.desk)

-- a write joined
abbrev pub IsJoinedWrite : Ground → Request → Cmd → Store → List Body → List Body → Connection → Store → List Body → List Body → Connection → Type 0
IsJoinedWrite g q w x bs fs c y cs gs c' = HandsOn g x bs fs y cs gs (λ h d d'. joined_by (joined_write h c d q w c.phase) ≡ (c', d'))

-- one request joined
abbrev pub IsJoinedOne : Ground → Request → Store → List Body → List Body → Connection → Store → List Body → List Body → Connection → Type 0
IsJoinedOne g q x bs fs c y cs gs c' = HandsOn g x bs fs y cs gs (λ h d d'. joined_by (joined_one h c d q) ≡ (c', d'))

-- whatever luck the requests that are left find, some luck from the beginning leads to the same
abbrev pub JoinsOn : step.Ground → Connection → step.Desk → List Request → Connection → step.Desk → List Request → Type 0
JoinsOn h c d qs c' d' rest = (n : Option ℕ) → (m : Option ℕ) × (joined_with h m c d qs ≡ joined_with h n c' d' rest)

-- all requests joined, by some luck
abbrev pub AreJoined : Ground → List Request → Store → List Body → List Body → Connection → Store → List Body → List Body → Connection → Type 0
AreJoined g qs x bs fs c y cs gs c' = HandsOn g x bs fs y cs gs (λ h d d'. IsJoined h c d qs c' d')

-- so far all joined
abbrev pub JoinSoFar : Ground → List Request → Store → List Body → List Body → Connection → Store → List Body → List Body → Connection → List Request → Type 0
JoinSoFar g qs x bs fs c y cs gs c' rest = HandsOn g x bs fs y cs gs (λ h d d'. JoinsOn h c d qs c' d' rest)

-- given up, the two are the same
abbrev pub EndAlike : Connection → Connection → Type 0
EndAlike c c' = closed true c' ≡ closed true c
