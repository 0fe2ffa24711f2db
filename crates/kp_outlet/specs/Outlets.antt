-- What goes out of an outlet, and what is kept before it (this project's own).
use Rattle.std.specs.Prelude.{◌≡◌, ◌≤◌, ◌<◌, ℕ, Bool, nat_lt, List, ◌++◌, length, drop, Option, Some, None}
use Rattle.std.specs.Io.KnownBytes.{Appends}
use Rattle.kp_io.specs.Faults.{one_more}
use Rattle.kp_outlet.specs.declared.outlet.Outlet.{Outlet}
use Rattle.kp_outlet.specs.declared.outlet.OutletEnd.{OutletEnd}
use Rattle.kp_outlet.specs.declared.outlet.OutletEnd.TheVariants as end

-- the end is a fault exactly where the sink met one
abbrev pub Caused : Option OutletEnd → ℕ → ℕ → Type 0
Caused None f f' = f' ≡ f
Caused (Some end.Fault) f f' = f' ≡ one_more f
Caused (Some end.Full) f f' = f' ≡ f
Caused (Some end.NoMemory) f f' = f' ≡ f

module _ {W : Type 0} where
  -- the bytes that the sink has yet to take
  abbrev pub kept : Outlet W → List ℕ
  kept o = drop o.from o.rest.items

  abbrev pub has_rest : Outlet W → Bool
  has_rest o = nat_lt o.from (length o.rest.items)

  -- no more bytes are kept than the bound
  pub record IsWithin (o : Outlet W) : Type 0 where
    pub inside : o.from ≤ length o.rest.items
    pub few : length (kept o) ≤ 4194304

  -- and those before them, which were taken, are no more than those: so all are at most twice the bound
  pub record IsOutlet (o : Outlet W) : Type 0 where
    pub within : IsWithin o
    pub tidy : o.from ≤ length (kept o)

  -- a beginning of what was kept and of these bytes went out; where the outlet has no end the rest is kept, and where it is full
  -- the rest is more than the bound
  pub record GoesOut (held : W → Option (List ℕ)) (faults : W → ℕ) (o p : Outlet W) (bytes : List ℕ) : Type 0 where
    pub gone : List ℕ
    pub behind : List ℕ
    pub whole : kept o ++ bytes ≡ gone ++ behind
    pub writes : Appends (held o.sink) (held p.sink) gone
    pub rest : p.end ≡ None → kept p ≡ behind
    pub full : p.end ≡ Some end.Full → 4194304 < length behind
    pub cause : Caused p.end (faults o.sink) (faults p.sink)

  abbrev pub HandsWhere : Option OutletEnd → (W → Option (List ℕ)) → (W → ℕ) → Outlet W → Outlet W → List ℕ → Type 0
  HandsWhere (Some e) held faults o p bytes = p ≡ o
  HandsWhere None held faults o p bytes = GoesOut held faults o p bytes

  -- these bytes were handed out; of an outlet that has an end nothing goes out
  abbrev pub HandsOut : (W → Option (List ℕ)) → (W → ℕ) → Outlet W → Outlet W → List ℕ → Type 0
  HandsOut held faults o p bytes = HandsWhere o.end held faults o p bytes

  -- the bytes are kept behind the others; or they are too many, or there was no memory for them
  pub record Keeps (o p : Outlet W) (bytes : List ℕ) : Type 0 where
    pub sink : p.sink ≡ o.sink
    pub kept_too : p.end ≡ None → kept p ≡ kept o ++ bytes
    pub full : p.end ≡ Some end.Full → 4194304 < length (kept o ++ bytes)
    pub no_fault : p.end ≡ Some end.Fault → ⊥

  -- nothing changed but the room
  pub record Settles (o p : Outlet W) : Type 0 where
    pub sink : p.sink ≡ o.sink
    pub end_ : p.end ≡ o.end
    pub same : kept p ≡ kept o
