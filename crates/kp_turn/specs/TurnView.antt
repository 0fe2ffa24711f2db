-- What a seat knows of its turn, and how a call changes it.
use Rattle.std.specs.Prelude.{◌≡◌, ℕ, ◌+◌, ◌^◌, ◌<◌, ◌≤◌, false, List, [], ◌∷◌, ◌++◌, length, map}
use mathlib.Core.Option.{Option, some, none}
use lib.ListN.{get_elem?}
use Rattle.kp_turn.specs.declared.view.TurnView.{TurnView}
use Rattle.kp_turn.specs.History.{Answers, IsPrefix}

-- the view of a turn's first seat: no event was taken
abbrev pub first_view : {T E A : Type 0} → T → TurnView T E A
first_view x = record { start = x; seen = []; mine = []; met = 0; splits = 0; has_turn = false }

module _ {T E A : Type 0} where
  -- the view of a seat that is split off: it has seen as much, and has no event of its own
  abbrev pub split_off : TurnView T E A → TurnView T E A
  split_off v = record { start = v.start; seen = v.seen; mine = []; met = 0; splits = 0; has_turn = false }

  -- one more seat was split off
  abbrev pub with_split : TurnView T E A → TurnView T E A
  with_split v = record v { splits = v.splits + 1 }

  -- the seat asked once more and met another's turn
  abbrev pub with_met : TurnView T E A → TurnView T E A
  with_met v = record v { met = v.met + 1 }

  -- the history that the seat has seen can't grow any more
  abbrev pub IsFull : TurnView T E A → Type 0
  IsFull v = length v.seen ≡ 2 ^ 62

  -- the seat saw more of the history, and nothing else changed
  pub record SeesMore (v w : TurnView T E A) : Type 0 where
    pub seen : IsPrefix v.seen w.seen
    pub same : w ≡ record v { seen = w.seen }

  -- the seat waited and saw more of the history, and nothing else changed
  pub record WaitsOnly (v w : TurnView T E A) : Type 0 where
    pub seen : IsPrefix v.seen w.seen
    pub met : v.met ≤ w.met
    pub same : w ≡ record v { seen = w.seen; met = w.met }

  -- one event joined the history behind all events before it, answered by the value after them, and its place is the seat's own
  pub record Adds (steps : T → E → A → T → Type 0) (v w : TurnView T E A) (e : E) (a : A) : Type 0 where
    pub before : List (E × A × T)
    pub after : T
    pub seen : IsPrefix v.seen before
    pub room : length before < 2 ^ 62
    pub answer : Answers steps v.start before e a after
    pub met : v.met ≤ w.met
    pub same : w ≡ record v { seen = before ++ (e, a, after) ∷ []; mine = v.mine ++ length before ∷ []; met = w.met }

  -- the event and the answer at a place
  abbrev pub pair_of : Option (E × A × T) → Option (E × A)
  pair_of none = none
  pair_of (some t) = some (t.0, t.1)

  -- the seat's own events in their order, each with its answer
  abbrev pub own : TurnView T E A → List (Option (E × A))
  own v = map pair_of (map (get_elem? v.seen) v.mine)

  -- the seat has seen its own events
  abbrev pub SawOwn : TurnView T E A → Type 0
  SawOwn v = (n k : ℕ) → get_elem? v.mine n ≡ some k → k < length v.seen
