-- All connections of a node, in a step.
use Rattle.std.specs.Prelude.{ℕ, cond, List, [], ◌∷◌, ◌++◌, map, Option, Some, None}
use Rattle.std.specs.Ordering.{nat_cmp, eq_by_cmp}
use Rattle.std.specs.FinMap as map
use Rattle.std.specs.FinMap.{FinMap}
use Rattle.kp_model.specs.State.{State}
use Rattle.kp_wire.specs.declared.request.Request.{Request}
use Rattle.kp_watch.specs.declared.watch.Watch.{Watch}
use Rattle.kp_conn.specs.Connection.{Connection}
use Rattle.kp_step.specs.Choices.{Choices}
use Rattle.kp_step.specs.declared.seat.Seat.{Seat}
use Rattle.kp_step.specs.Node.{Seats}
use Rattle.kp_step.specs.Settling.{Told, Settled, settled}
use Rattle.kp_step.specs.Handing.{Served}

-- a map with each of its values changed
unfoldable pub mapped : {X Y : Type 0} → (ℕ → X → Y) → FinMap nat_cmp X → FinMap nat_cmp Y
mapped f m = map.from_sorted (map (λ e. (e.0, f e.0 e.1)) (map.entries m))

-- the connections and the watches, what each connection was answered, and which requests joined its queue
pub record Table : Type 0 where
  pub seats : Seats
  pub watches : List Watch
  pub told : ℕ → List Told
  pub took : ℕ → List Request

-- nothing was answered yet
abbrev pub tabled : Seats → List Watch → Table
tabled seats ws = record { seats = seats; watches = ws; told = λ k. []; took = λ k. [] }

-- f with more at k
abbrev pub more_at : {A : Type 0} → ℕ → List A → (ℕ → List A) → ℕ → List A
more_at k xs f j = cond (eq_by_cmp nat_cmp j k) (f j ++ xs) (f j)

abbrev pub seated : Seat → Connection → Seat
seated s c = record s { connection = c }

-- connection k behind what its bytes made
abbrev pub with_served : ℕ → Seat → Served → Table → Table
with_served k s w t = record { seats = map.insert t.seats k (seated s w.connection); watches = w.watches; told = more_at k w.told t.told; took = more_at k w.took t.took }

-- ---- each connection by itself

-- a change of one connection, and what it is answered with it
abbrev pub Row : Type 0
Row = ℕ → Connection → Settled

abbrev pub row_at : Row → ℕ → Seat → Seat
row_at f k s = seated s (f k s.connection).connection

abbrev pub row_told : Row → ℕ → Option Seat → List Told
row_told f k None = []
row_told f k (Some s) = (f k s.connection).told

-- the same of all of them
unfoldable pub with_row : Row → Table → Table
with_row f t = record t { seats = mapped (row_at f) t.seats; told = λ k. t.told k ++ row_told f k (map.get t.seats k) }

-- ---- one after another

abbrev pub settled_in : Choices → State → Table → ℕ → Option Seat → Table
settled_in ch s t k None = t
settled_in ch s t k (Some x) = let r = settled s k (ch.luck k).answers t.watches x.connection x.connection.queue in
    record { seats = map.insert t.seats k (seated x r.connection); watches = r.watches; told = more_at k r.told t.told; took = t.took }

unfoldable pub settled_one : Choices → State → Table → ℕ → Table
settled_one ch s t k = settled_in ch s t k (map.get t.seats k)

-- the connections with these numbers are settled on a state
unfoldable pub settled_all : Choices → State → Table → List ℕ → Table
settled_all ch s t [] = t
settled_all ch s t (k ∷ ks) = settled_all ch s (settled_one ch s t k) ks
