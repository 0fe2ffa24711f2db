-- What a stream tells of its answers, and what contracts see of the streams in memory (this project's own).
use Rattle.std.specs.Prelude.{◌≡◌, ◌<◌, ◌≤◌, ℕ, Bool, true, false, List, [], ◌∷◌, ◌++◌, take, drop, min, Option, Some, None, Result, Ok, Err, ⊤}
use Rattle.kp_io.specs.declared.stream.Took.{Took}
use Rattle.kp_io.specs.declared.stream.Took.TheVariants as took

-- an answer of a stream, with the bytes that it gave
pub data Piece : Type 0 where
  Bytes : List ℕ → Piece
  End : Piece
  Later : Piece

-- at least one byte, and no more than there is room for
abbrev pub TookWithin : Took → ℕ → Type 0
TookWithin (took.Bytes n) room = (0 < n) × (n ≤ room)
TookWithin took.End room = ⊤
TookWithin took.Later room = ⊤

-- how many bytes an answer gives
abbrev pub size_of : Took → ℕ
size_of (took.Bytes n) = n
size_of took.End = 0
size_of took.Later = 0

-- the answer with its bytes, which stand at the front of these
abbrev pub piece_of : Took → List ℕ → Piece
piece_of (took.Bytes n) bytes = Bytes (take n bytes)
piece_of took.End bytes = End
piece_of took.Later bytes = Later

-- what is told grew by these answers; a stream that doesn't tell says nothing
abbrev pub Tells : Option (List Piece) → Option (List Piece) → List Piece → Type 0
Tells None new pieces = ⊤
Tells (Some xs) None pieces = ⊥
Tells (Some xs) (Some ys) pieces = ys ≡ xs ++ pieces

-- one answer was told, or none where the call failed
abbrev pub TellsTook : {E : Type 0} → Option (List Piece) → Option (List Piece) → Result Took E → List ℕ → Type 0
TellsTook old new (Ok t) into = Tells old new (piece_of t into ∷ [])
TellsTook old new (Err e) into = Tells old new []

-- whether the stream has answered its end, after this answer
abbrev pub ended_by : Took → Bool → Bool
ended_by (took.Bytes n) before = before
ended_by took.End before = true
ended_by took.Later before = before

-- the same where the call may have failed
abbrev pub ended_after : {E : Type 0} → Result Took E → Bool → Bool
ended_after (Ok t) before = ended_by t before
ended_after (Err e) before = before

-- the answers with the bytes that they gave of these, one behind the other
abbrev pub pieces_of : List ℕ → List Took → List Piece
pieces_of bytes [] = []
pieces_of bytes (t ∷ ts) = piece_of t bytes ∷ pieces_of (drop (size_of t) bytes) ts

-- what they left of them
abbrev pub left_of : List ℕ → List Took → List ℕ
left_of bytes [] = bytes
left_of bytes (t ∷ ts) = left_of (drop (size_of t) bytes) ts

-- nothing has come yet
abbrev pub IsLater : Took → Type 0
IsLater (took.Bytes n) = ⊥
IsLater took.End = ⊥
IsLater took.Later = ⊤

-- a stream in memory gives as much as is left, there is room for, and it gives in a call at most, and ends where nothing is left
abbrev pub IsNext : ℕ → ℕ → ℕ → Took → Type 0
IsNext left room piece (took.Bytes n) = n ≡ min (min left room) piece
IsNext left room piece took.End = left ≡ 0
IsNext left room piece took.Later = ⊤

-- how many bytes a call gave
abbrev pub size_given : {E : Type 0} → Result Took E → ℕ
size_given (Ok t) = size_of t
size_given (Err e) = 0

-- a stream in memory: what it told, what is left, the most bytes that it gives in a call, the numbers of the calls that it answers
-- with Later, whether it has ended, and how many calls were made and have failed
pub record Flow : Type 0 where
  pub told : List Piece
  pub left : List ℕ
  pub piece : ℕ
  pub later : List ℕ
  pub ended : Bool
  pub calls : ℕ
  pub faults : ℕ

-- the same, with the numbers of the calls that are to fail
pub record FaultyFlow : Type 0 where
  pub stream : Flow
  pub failing : List ℕ
