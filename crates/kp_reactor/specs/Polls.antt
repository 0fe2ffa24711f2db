-- What a reactor answers (this project's own).
use Rattle.std.specs.Prelude.{◌≡◌, ◌+◌, ℕ, Bool, true, false, nat_eq, Option, Some, None, Result, Ok, Err, Vec}
use Rattle.std.specs.declared.alloc.Global.{Global}
use Rattle.std.specs.HashMap.{get}
use Rattle.mio.specs.Events.{items}
use Rattle.kp_io.specs.Faults.{one_more}
use Rattle.kp_reactor.specs.declared.reactor.Reactor.{Reactor}
use Rattle.kp_reactor.specs.declared.reactor.Arrival.{Arrival}
use Rattle.kp_reactor.specs.declared.reactor.Door.{Door}
use Rattle.kp_reactor.specs.declared.reactor.Door.TheVariants as door
use Rattle.kp_reactor.specs.declared.reactor.WaitFail.{WaitFail}
use Rattle.kp_reactor.specs.declared.reactor.WaitFail.TheVariants as wait
use Rattle.kp_reactor.specs.declared.reactor.AcceptFail.{AcceptFail}
use Rattle.kp_reactor.specs.declared.reactor.AcceptFail.TheVariants as accept
use Rattle.kp_reactor.specs.Naming.{OthersStay, is_among, numbers_of, of_listener, tokens_of}

-- the door is open where the listener was told of, and else as it was
abbrev pub door_behind : Bool → Door → Door
door_behind true d = door.Open
door_behind false d = d

-- no line came or went, and no fault was met
pub record Same (r r' : Reactor) : Type 0 where
  pub names : (t : ℕ) → get nat_eq r'.tokens.names t ≡ get nat_eq r.tokens.names t
  pub faults : r'.faults ≡ r.faults

-- no line came or went, and the fault was counted
pub record Fails (r r' : Reactor) : Type 0 where
  pub names : (t : ℕ) → get nat_eq r'.tokens.names t ≡ get nat_eq r.tokens.names t
  pub faults : r'.faults ≡ one_more r.faults

-- the lines that the system told of are named, in order; of a token that is of no line nobody is
abbrev pub Waits : Reactor → Reactor → Result (Vec ℕ Global) WaitFail → Type 0
Waits r r' (Ok told) = (told.items ≡ numbers_of r.tokens.names (tokens_of (items r'.events))) × (r'.door ≡ door_behind (is_among of_listener (tokens_of (items r'.events))) r.door) × (r'.tokens ≡ r.tokens) × (r'.faults ≡ r.faults)
Waits r r' (Err wait.NoMemory) = r' ≡ r
Waits r r' (Err wait.Fault) = (r'.tokens ≡ r.tokens) × (r'.door ≡ r.door) × (r'.faults ≡ one_more r.faults)

-- a line without a number has come, under a token that is given once
pub record Comes (r r' : Reactor) (token : ℕ) : Type 0 where
  pub token_is : token ≡ r.tokens.next
  pub fresh : get nat_eq r.tokens.names token ≡ None
  pub at : get nat_eq r'.tokens.names token ≡ Some None
  pub others : OthersStay r.tokens.names r'.tokens.names token
  pub next : r'.tokens.next ≡ r.tokens.next + 1
  pub faults : r'.faults ≡ r.faults

abbrev pub Enters : Reactor → Reactor → Result (Option Arrival) AcceptFail → Type 0
Enters r r' (Ok None) = ⊥
Enters r r' (Ok (Some a)) = Comes r r' a.token
Enters r r' (Err accept.NoMemory) = ⊥
Enters r r' (Err accept.Fault) = Fails r r'

-- a line has come; or none waits, and none is looked for before the listener is told of; or none has come, for the cause that is named
abbrev pub Accepts : Reactor → Reactor → Result (Option Arrival) AcceptFail → Type 0
Accepts r r' (Ok None) = (r'.door ≡ door.Shut) × Same r r'
Accepts r r' (Ok (Some a)) = Comes r r' a.token
Accepts r r' (Err accept.NoMemory) = Same r r'
Accepts r r' (Err accept.Fault) = Fails r r'
