-- One answer more of a stream in memory.
use Rattle.std.proofs.Common.{◌≡◌, ℕ, List, [], ◌∷◌, ◌++◌, drop, refl, ap}
use Rattle.kp_io.specs.declared.stream.Took.{Took}
use Rattle.kp_io.specs.Streams.{Piece, left_of, piece_of, pieces_of, size_of}

pub pieces_more : (bytes : List ℕ) (ts : List Took) (t : Took) → pieces_of bytes (ts ++ t ∷ []) ≡ pieces_of bytes ts ++ piece_of t (left_of bytes ts) ∷ []
pieces_more bytes [] t = refl
pieces_more bytes (u ∷ us) t = ap (λ (l : List Piece). piece_of u bytes ∷ l) (pieces_more (drop (size_of u) bytes) us t)

pub left_more : (bytes : List ℕ) (ts : List Took) (t : Took) → left_of bytes (ts ++ t ∷ []) ≡ drop (size_of t) (left_of bytes ts)
left_more bytes [] t = refl
left_more bytes (u ∷ us) t = left_more (drop (size_of u) bytes) us t
