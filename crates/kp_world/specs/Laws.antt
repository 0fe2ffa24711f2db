-- The five properties of Raft (Ongaro's thesis "Consensus: Bridging Theory and Practice", figure 3.2), of every history of a cluster of any number of members.
-- Where two moments are compared, `ms` is the history up to the earlier and `ms ++ later` up to the later one; with no `later` they are the same moment.
use Rattle.std.specs.Prelude.{ℕ, suc, ◌≡◌, ◌<◌, nat_eq, List, ◌++◌, take, slice_get, Some}
use mathlib.Core.List.{IsPrefix}
use Rattle.kp_model.specs.LogEntry.{LogEntry}
use Rattle.kp_model.specs.Majority.{IsMajority}
use Rattle.kp_world.specs.Log.{BeginAlike}
use Rattle.kp_world.specs.Book.{IsCommitted}
use Rattle.kp_world.specs.Moves.{Move, IsHistory, book_of}

-- no two candidates ever get the votes of a majority in one term
abbrev pub OneWinner : Type 0
OneWinner = (n : ℕ) (ms later : List Move) → IsHistory n (ms ++ later) → (t c d : ℕ) → 0 < c
    → IsMajority n (λ k. nat_eq ((book_of ms).voted_for k t) c)
    → IsMajority n (λ k. nat_eq ((book_of (ms ++ later)).voted_for k t) d)
    → c ≡ d

-- a leader has the votes of a majority, and is the only leader of its term for ever
abbrev pub OneLeader : Type 0
OneLeader = (n : ℕ) (ms later : List Move) → IsHistory n (ms ++ later) → (t : ℕ) → 0 < (book_of ms).leader t
    → IsMajority n (λ k. nat_eq ((book_of ms).voted_for k t) ((book_of ms).leader t))
    × ((book_of (ms ++ later)).leader t ≡ (book_of ms).leader t)

-- what the log of a term's leader had stays in it
abbrev pub LeaderAppendsOnly : Type 0
LeaderAppendsOnly = (n : ℕ) (ms later : List Move) → IsHistory n (ms ++ later) → (t : ℕ)
    → IsPrefix ((book_of ms).leader_log t) ((book_of (ms ++ later)).leader_log t)

-- a leader that has the whole log of its term goes on having it as long as it stays in its term
abbrev pub LeaderKeepsItsLog : Type 0
LeaderKeepsItsLog = (n : ℕ) (ms later : List Move) → IsHistory n (ms ++ later) → (t : ℕ) → 0 < (book_of ms).leader t
    → (book_of ms).log ((book_of ms).leader t) ≡ (book_of ms).leader_log t
    → (book_of (ms ++ later)).term ((book_of ms).leader t) ≡ t
    → (book_of (ms ++ later)).log ((book_of ms).leader t) ≡ (book_of (ms ++ later)).leader_log t

-- two logs with an entry of one term at one place are the same up to there, also at different moments
abbrev pub LogsMatch : Type 0
LogsMatch = (n : ℕ) (ms later : List Move) → IsHistory n (ms ++ later) → (j k i : ℕ) (e f : LogEntry)
    → slice_get ((book_of ms).log j) i ≡ Some e
    → slice_get ((book_of (ms ++ later)).log k) i ≡ Some f
    → e.term ≡ f.term
    → take (suc i) ((book_of ms).log j) ≡ take (suc i) ((book_of (ms ++ later)).log k)

-- what is committed in a term stands in the log of each leader of a later term that is there by then
abbrev pub LaterLeadersHaveIt : Type 0
LaterLeadersHaveIt = (n : ℕ) (ms later : List Move) → IsHistory n (ms ++ later) → (t u : ℕ) (p : List LogEntry) → t < u
    → IsCommitted n (book_of ms) t p
    → 0 < (book_of (ms ++ later)).leader u
    → IsPrefix p ((book_of (ms ++ later)).leader_log u)

-- and stood in that of one that was there before it was committed
abbrev pub EarlierLeadersHaveIt : Type 0
EarlierLeadersHaveIt = (n : ℕ) (ms later : List Move) → IsHistory n (ms ++ later) → (t u : ℕ) (p : List LogEntry) → t < u
    → IsCommitted n (book_of (ms ++ later)) t p
    → 0 < (book_of ms).leader u
    → IsPrefix p ((book_of ms).leader_log u)

-- of any two committed lists one begins the other
abbrev pub CommittedBeginAlike : Type 0
CommittedBeginAlike = (n : ℕ) (ms later : List Move) → IsHistory n (ms ++ later) → (t u : ℕ) (p q : List LogEntry)
    → IsCommitted n (book_of ms) t p
    → IsCommitted n (book_of (ms ++ later)) u q
    → BeginAlike p q

-- no two different entries are ever committed at one place
abbrev pub OneEntryAPlace : Type 0
OneEntryAPlace = (n : ℕ) (ms later : List Move) → IsHistory n (ms ++ later) → (t u i : ℕ) (p q : List LogEntry) (e f : LogEntry)
    → IsCommitted n (book_of ms) t p
    → IsCommitted n (book_of (ms ++ later)) u q
    → slice_get p i ≡ Some e
    → slice_get q i ≡ Some f
    → e ≡ f

-- what is committed stays so
abbrev pub CommittedForGood : Type 0
CommittedForGood = (n : ℕ) (ms later : List Move) → IsHistory n (ms ++ later) → (t : ℕ) (p : List LogEntry)
    → IsCommitted n (book_of ms) t p
    → IsCommitted n (book_of (ms ++ later)) t p
