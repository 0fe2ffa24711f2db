-- The seven moves that change a book, and when each is allowed.
-- Messages, snapshots, stops, starts and commits are no moves: they change nothing of the book.
use Rattle.std.specs.Prelude.{ℕ, ◌≡◌, ◌<◌, ◌≤◌, ◌⊎◌, nat_eq, List, [], ◌∷◌, ◌++◌, length}
use mathlib.Core.List.{IsPrefix}
use Rattle.kp_model.specs.LogEntry.{LogEntry}
use Rattle.kp_model.specs.Majority.{IsMajority}
use Rattle.kp_world.specs.Log.{IsUpToDate}
use Rattle.kp_world.specs.Book.{Book, empty_book, set_at, set_at_both}

pub data Move : Type 0 where
  RaiseTerm : (k t : ℕ) → Move  -- k comes to know the term t
  Stand : (c t : ℕ) → Move  -- c stands for election in the term t, with the log that it has, and votes for itself
  Vote : (k c : ℕ) → Move  -- k votes for c in k's term
  Elect : (t c : ℕ) → Move  -- c becomes the leader of the term t, with the log with which it stood
  Write : (t : ℕ) → (e : LogEntry) → Move  -- the leader of t appends e to its log
  Follow : (k : ℕ) → (xs : List LogEntry) → Move  -- k makes xs its log, as the leader of k's term has it
  Acknowledge : (k i : ℕ) → Move  -- k acknowledges the first i entries of the log of its term's leader

-- the book after a move
abbrev pub after_move : Book → Move → Book
after_move b (RaiseTerm k t) = record b { term = set_at b.term k t }
after_move b (Stand c t) = record b { term = set_at b.term c t; voted_for = set_at_both b.voted_for c t c; candidate_log = set_at_both b.candidate_log t c (b.log c) }
after_move b (Vote k c) = record b { voted_for = set_at_both b.voted_for k (b.term k) c }
after_move b (Elect t c) = record b { leader = set_at b.leader t c; leader_log = set_at b.leader_log t (b.candidate_log t c) }
after_move b (Write t e) = record b { log = set_at b.log (b.leader t) (b.leader_log t ++ e ∷ []); leader_log = set_at b.leader_log t (b.leader_log t ++ e ∷ []) }
after_move b (Follow k xs) = record b { log = set_at b.log k xs }
after_move b (Acknowledge k i) = record b { acked = set_at_both b.acked k (b.term k) i }

-- terms only rise
pub record MayRaiseTerm (b : Book) (k t : ℕ) : Type 0 where
  pub above : b.term k < t

-- a candidate stands in a term above its own
pub record MayStand (b : Book) (c t : ℕ) : Type 0 where
  pub above : b.term c < t
  pub member : 0 < c

-- a member votes once in a term, for a candidate that has come to that term and stood with a log at least as up-to-date as the voter's
pub record MayVote (b : Book) (k c : ℕ) : Type 0 where
  pub member : 0 < c
  pub free : (b.voted_for k (b.term k) ≡ 0) ⊎ (b.voted_for k (b.term k) ≡ c)
  pub reached : b.term k ≤ b.term c
  pub newer : IsUpToDate (b.candidate_log (b.term k) c) (b.log k)

-- a candidate that has the votes of a majority becomes leader, once
pub record MayElect (n : ℕ) (b : Book) (t c : ℕ) : Type 0 where
  pub member : 0 < c
  pub new : b.leader t ≡ c → ⊥
  pub votes : IsMajority n (λ k. nat_eq (b.voted_for k t) c)

-- a leader that is still in its term, and has the whole log of it, writes entries of its term
pub record MayWrite (b : Book) (t : ℕ) (e : LogEntry) : Type 0 where
  pub leads : 0 < b.leader t
  pub now : b.term (b.leader t) ≡ t
  pub holds : b.log (b.leader t) ≡ b.leader_log t
  pub own : e.term ≡ t

-- a member takes a beginning of its leader's log, and drops nothing in which its own log agrees with the leader's
pub record MayFollow (b : Book) (k : ℕ) (xs : List LogEntry) : Type 0 where
  pub leads : 0 < b.leader (b.term k)
  pub within : IsPrefix xs (b.leader_log (b.term k))
  pub keeps : (zs : List LogEntry) → IsPrefix zs (b.log k) → IsPrefix zs (b.leader_log (b.term k)) → IsPrefix zs xs

-- a member acknowledges what it has of its leader's log, and no less than before
pub record MayAcknowledge (b : Book) (k i : ℕ) : Type 0 where
  pub more : b.acked k (b.term k) ≤ i
  pub within : i ≤ length (b.leader_log (b.term k))
  pub has : (zs : List LogEntry) → IsPrefix zs (b.leader_log (b.term k)) → length zs ≤ i → IsPrefix zs (b.log k)

-- the move is allowed in a cluster of n members with the book b
abbrev pub IsAllowed : ℕ → Book → Move → Type 0
IsAllowed n b (RaiseTerm k t) = MayRaiseTerm b k t
IsAllowed n b (Stand c t) = MayStand b c t
IsAllowed n b (Vote k c) = MayVote b k c
IsAllowed n b (Elect t c) = MayElect n b t c
IsAllowed n b (Write t e) = MayWrite b t e
IsAllowed n b (Follow k xs) = MayFollow b k xs
IsAllowed n b (Acknowledge k i) = MayAcknowledge b k i

-- the book after a list of moves
abbrev pub after_moves : Book → List Move → Book
after_moves b [] = b
after_moves b (m ∷ ms) = after_moves (after_move b m) ms

-- each move is allowed where its turn comes
abbrev pub AreAllowed : ℕ → Book → List Move → Type 0
AreAllowed n b [] = Unit {0}
AreAllowed n b (m ∷ ms) = IsAllowed n b m × AreAllowed n (after_move b m) ms

-- the book of a list of moves, from the empty one
abbrev pub book_of : List Move → Book
book_of ms = after_moves empty_book ms

-- a list of moves that a cluster of n members may make from the empty book
abbrev pub IsHistory : ℕ → List Move → Type 0
IsHistory n ms = AreAllowed n empty_book ms
