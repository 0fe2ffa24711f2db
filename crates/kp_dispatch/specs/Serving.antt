-- What serving one connection does (this project's own).
use Rattle.std.specs.Prelude.{◌≡◌, ◌⊎◌, ◌+◌, ℕ, Bool, List, [], ◌∷◌, ◌++◌, Option, Some, None, Result, Ok, Err, true}
use Rattle.kp_turn.specs.TurnSeats.{view}
use Rattle.kp_turn.specs.TurnView.{IsFull}
use Rattle.kp_turn.specs.StopSeats.{stop_view}
use Rattle.kp_event.specs.declared.event.NodeEventKind.TheVariants as kind
use Rattle.kp_event.specs.declared.fail.KeptFail.{KeptFail}
use Rattle.kp_event.specs.declared.thought.Thought.{Thought}
use Rattle.kp_shared.specs.Letters.{Letter}
use Rattle.kp_io.specs.Faults.{one_more}
use Rattle.kp_io.specs.Streams.{Piece, Tells}
use Rattle.kp_io.specs.Streams as piece
use Rattle.kp_shared.specs.declared.task.Task.{Task}
use Rattle.kp_shared.specs.declared.task.Task.TheVariants as task
use Rattle.kp_shared.specs.TaskSteps.{Answered}
use Rattle.kp_shared.specs.Tasks.{Did, Each, InTime, Went, bytes_of, flushed, mails_of}
use Rattle.kp_shared.specs.Plans.{IsCut, IsTurn}
use Rattle.kp_shared.specs.Nodes.{Does, ViewIn, Whole}
use Rattle.kp_shared.specs.Posts.{Posts}
use Rattle.kp_shared.specs.Sharing.{NodeSeatIn}
use Rattle.kp_dispatch.specs.declared.ends.ConnEnd.{ConnEnd}
use Rattle.kp_dispatch.specs.declared.ends.ConnEnd.TheVariants as end
use Rattle.kp_dispatch.specs.Ends.{end_of_fail}
use Rattle.kp_dispatch.specs.Output.{WroteAll, WrotePart}
use Rattle.kp_dispatch.specs.Plans.{plan_for}
use Rattle.kp_dispatch.specs.Rounds.{SaysBad, SaysNoneBad, SaysOver}

-- the answer of a stream with these bytes, or Later
abbrev pub piece_at : Option (List ℕ) → Piece
piece_at (Some bytes) = piece.Bytes bytes
piece_at None = piece.Later

-- one answer was taken of the stream: bytes, or Later; or the connection ends
module _ (told told' : Option (List Piece)) (ended ended' : Bool) (faults faults' : ℕ) where
  abbrev pub TakeTells : Result (Option (List ℕ)) ConnEnd → Type 0
  TakeTells (Ok p) = Tells told told' (piece_at p ∷ []) × (faults' ≡ faults)
  TakeTells (Err end.Ended) = Tells told told' (piece.End ∷ []) × (ended' ≡ true) × (faults' ≡ faults)
  TakeTells (Err end.NoMemory) = ((bytes : List ℕ) × Tells told told' (piece.Bytes bytes ∷ [])) × (faults' ≡ faults)
  TakeTells (Err end.ReadFault) = Tells told told' [] × (faults' ≡ one_more faults)
  TakeTells (Err (end.BadFrame at)) = ⊥
  TakeTells (Err end.WriteFault) = ⊥
  TakeTells (Err end.Stopped) = ⊥
  TakeTells (Err end.DiskFault) = ⊥
  TakeTells (Err (end.Full s n)) = ⊥
  TakeTells (Err end.Worn) = ⊥

module _ {M : Type 0} (conn : ℕ) where
  -- a whole turn for each of these answers of the stream, one behind the other
  abbrev pub Turns : List Piece → List (Did M) → Type 0
  Turns [] ds = ds ≡ []
  Turns (p ∷ ps) ds = (xs : List (Did M)) × (es : List (Did M)) × (ds ≡ xs ++ es) × IsTurn (plan_for conn p) xs × Turns ps es

-- the last task was refused, which ends the connection so, and all before it went
abbrev pub FailsLast : {M : Type 0} → List (Did M) → ConnEnd → Type 0
FailsLast {M} ds e = (before : List (Did M)) × (t : Task M) × (f : KeptFail) × (ds ≡ before ++ (t, Err f) ∷ []) × Each Went before × (e ≡ end_of_fail f)

-- how much was written of what may leave: all of it, or after a fault of the output a beginning
abbrev pub WroteAt : ConnEnd → Option (List ℕ) → Option (List ℕ) → List ℕ → Type 0
WroteAt end.WriteFault held held' all = WrotePart held held' all
WroteAt end.Ended held held' all = WroteAll held held' all
WroteAt (end.BadFrame at) held held' all = WroteAll held held' all
WroteAt end.ReadFault held held' all = WroteAll held held' all
WroteAt end.Stopped held held' all = WroteAll held held' all
WroteAt end.DiskFault held held' all = WroteAll held held' all
WroteAt (end.Full k n) held held' all = WroteAll held held' all
WroteAt end.Worn held held' all = WroteAll held held' all
WroteAt end.NoMemory held held' all = WroteAll held held' all

-- why a connection ends so whose turns are all whole: what its stream answered last, where that has no turn, what its thoughts
-- said, and how the faults of its input and output and its reads of the stop word rose
abbrev pub EndsWhole : {M : Type 0} → ConnEnd → List Piece → List (Thought (Letter M)) → Bool → ℕ → ℕ → ℕ → ℕ → ℕ → ℕ → Type 0
EndsWhole end.Ended last ts ended i i' o o' r r' = SaysNoneBad ts × (((last ≡ piece.End ∷ []) × (ended ≡ true)) ⊎ ((last ≡ []) × SaysOver ts))
EndsWhole (end.BadFrame at) last ts ended i i' o o' r r' = (last ≡ []) × SaysBad at ts
EndsWhole end.ReadFault last ts ended i i' o o' r r' = (last ≡ []) × (i' ≡ one_more i)
EndsWhole end.WriteFault last ts ended i i' o o' r r' = (last ≡ []) × (o' ≡ one_more o)
EndsWhole end.Stopped last ts ended i i' o o' r r' = (last ≡ []) × (r' ≡ r + 1)
EndsWhole end.NoMemory last ts ended i i' o o' r r' = (last ≡ []) ⊎ ((bytes : List ℕ) × (last ≡ piece.Bytes bytes ∷ []))
EndsWhole end.DiskFault last ts ended i i' o o' r r' = ⊥
EndsWhole (end.Full k n) last ts ended i i' o o' r r' = ⊥
EndsWhole end.Worn last ts ended i i' o o' r r' = ⊥

module _ {S M : Type 0} where
  -- why a connection ends so whose last turn was cut: its last task was refused, the history is full, or memory ran out
  abbrev pub EndsCut : ConnEnd → ViewIn S M → List (Did M) → Type 0
  EndsCut e w cut = FailsLast cut e ⊎ (((e ≡ end.Worn) × IsFull w × Each Went cut) ⊎ ((e ≡ end.NoMemory) × Each Went cut))

  -- what the outside told before and after, and the seat before and after
  module _ (may : ℕ → Type 0) (conn : ℕ) (told told' : Option (List Piece)) (ended ended' : Bool) (in_faults in_faults' : ℕ) (held held' : Option (List ℕ)) (out_faults out_faults' : ℕ)
      (s s' : NodeSeatIn S M) where
    -- whole turns for these answers of the stream, and no end yet
    pub record Goes (taken : List Piece) (ds : List (Did M)) : Type 0 where
      pub tells : Tells told told' taken
      pub turns : Turns conn taken ds
      pub did : Whole may (view s.turn) (view s'.turn) (flushed [] ds) ds
      pub posts : Posts (mails_of (flushed [] ds)) s.links s'.links
      pub wrote : WroteAll held held' (bytes_of (flushed [] ds))
      pub none_bad : SaysNoneBad (flushed [] ds)
      pub stop : stop_view s'.stop ≡ stop_view s.stop
      pub no_read_fault : in_faults' ≡ in_faults
      pub no_write_fault : out_faults' ≡ out_faults

    -- why the connection ends so
    abbrev pub EndsSo : ConnEnd → List Piece → List (Did M) → List (Did M) → ViewIn S M → Type 0
    EndsSo e last done cut w = ((cut ≡ []) × EndsWhole e last (flushed [] done) ended' in_faults in_faults' out_faults out_faults' (stop_view s.stop).reads (stop_view s'.stop).reads)
        ⊎ ((p : Piece) × (last ≡ p ∷ []) × IsCut (plan_for conn p) cut × EndsCut e w cut)

    -- the connection was served until its end was fixed: whole turns for the first answers of its stream, and for at most one
    -- answer more the tasks of a turn that was cut
    pub record Serves (e : ConnEnd) (taken last : List Piece) (done cut : List (Did M)) (w : ViewIn S M) : Type 0 where
      pub tells : Tells told told' (taken ++ last)
      pub turns : Turns conn taken done
      pub does : Does (view s.turn) w (done ++ cut)
      pub times : Each (InTime may) (done ++ cut)
      pub went : Each Went done
      -- what leaves is of the whole turns alone
      pub posts : Posts (mails_of (flushed [] done)) s.links s'.links
      pub wrote : WroteAt e held held' (bytes_of (flushed [] done))
      pub stop : ((stop_view s'.stop).sets ≡ (stop_view s.stop).sets) × ((stop_view s'.stop).splits ≡ (stop_view s.stop).splits)
      pub ends : EndsSo e last done cut w

    -- the connection was served until its end was fixed
    abbrev pub ServedSo : ConnEnd → Type 0
    ServedSo e = (taken : List Piece) × (last : List Piece) × (done : List (Did M)) × (cut : List (Did M)) × Serves e taken last done cut (view s'.turn)

    -- the last task is the Hangup, whatever it is answered; or it was not taken, since the history is full
    abbrev pub HangsUp : List (Did M) → Type 0
    HangsUp hs = ((now : ℕ) × (a : Answered M) × (hs ≡ (task.Think record { now = now; kind = kind.Hangup conn }, a) ∷ []) × may now) ⊎ ((hs ≡ []) × IsFull (view s'.turn))

    -- the whole call: its end was fixed, and then the connection was hung up
    pub record ServedWhole (e : ConnEnd) : Type 0 where
      pub taken : List Piece
      pub last : List Piece
      pub done : List (Did M)
      pub cut : List (Did M)
      -- what the seat knew when the end was fixed
      pub fixed : ViewIn S M
      pub serves : Serves e taken last done cut fixed
      pub hung : List (Did M)
      pub hangs_up : Does fixed (view s'.turn) hung
      pub hangs : HangsUp hung
