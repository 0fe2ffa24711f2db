-- What the rules are for: runs of three members in which one rule is broken once, all others are kept, and the protocol is no longer safe.
use Rattle.std.specs.Prelude.{ℕ, ◌≡◌, nat_le, List, [], ◌∷◌, ◌++◌}
use mathlib.Core.List.{IsPrefix}
use Rattle.kp_model.specs.LogEntry.{LogEntry}
use Rattle.kp_model.specs.declared.entry.Body.TheVariants as body
use Rattle.kp_model.specs.Majority.{IsMajority}
use Rattle.kp_world.specs.Log.{BeginAlike}
use Rattle.kp_world.specs.Book.{Book, IsCommitted}
use Rattle.kp_world.specs.Moves.{Move, RaiseTerm, Stand, Vote, Elect, Write, Follow, Acknowledge, MayVote, MayFollow, AreAllowed, IsHistory, after_move, after_moves, book_of}
use Rattle.kp_world.specs.Runs.{one, two, write, commit}

-- an entry of the term 4
abbrev pub four : LogEntry
four = record { term = 4; time = 0; body = body.Noop }

-- the entry reaches no other member, and member 3 is elected in term 2 and writes one that reaches none either;
-- then member 1 is elected again, in term 3, and member 2 takes and acknowledges the entry of term 1
abbrev pub old_entry : List Move
old_entry = write ++ Stand 3 2 ∷ RaiseTerm 2 2 ∷ Vote 2 3 ∷ Elect 2 3 ∷ Write 2 two ∷ Stand 1 3 ∷ RaiseTerm 2 3 ∷ Vote 2 1 ∷ Elect 3 1 ∷ Acknowledge 1 1 ∷ Follow 2 (one ∷ []) ∷ Acknowledge 2 1 ∷ []

-- member 3 is elected in term 4, writes another entry, and member 2 takes its log
abbrev pub overwriting : List Move
overwriting = old_entry ++ Stand 3 4 ∷ RaiseTerm 2 4 ∷ Vote 2 3 ∷ Elect 4 3 ∷ Write 4 four ∷ Acknowledge 3 2 ∷ Follow 2 (two ∷ four ∷ []) ∷ Acknowledge 2 2 ∷ []

-- member 3, whose log is empty, is elected in term 2 by the vote of member k, writes another entry, and k takes it
abbrev pub takeover : ℕ → List Move
takeover k = Elect 2 3 ∷ Write 2 two ∷ Acknowledge 3 1 ∷ Follow k (two ∷ []) ∷ Acknowledge k 1 ∷ []

-- one entry is committed in term 1 and another in term 2, at the same place
abbrev pub TwoCommitted : Book → Type 0
TwoCommitted b = IsCommitted 3 b 1 (one ∷ []) × IsCommitted 3 b 2 (two ∷ []) × (BeginAlike (one ∷ []) (two ∷ []) → ⊥)

-- member 3, which lags, asks member 1 for its vote
abbrev pub laggard_stands : List Move
laggard_stands = commit ++ Stand 3 2 ∷ RaiseTerm 1 2 ∷ []

-- a voter compares its log with the candidate's (Ongaro's thesis, section 3.6.1): member 1 may not vote for member 3; if it did, what is committed would be lost
abbrev pub VotersCompareLogs : Type 0
VotersCompareLogs = IsHistory 3 laggard_stands
    × (MayVote (book_of laggard_stands) 1 3 → ⊥)
    × AreAllowed 3 (after_move (book_of laggard_stands) (Vote 1 3)) (takeover 1)
    × TwoCommitted (after_moves (after_move (book_of laggard_stands) (Vote 1 3)) (takeover 1))

-- members 1 and 3 both stand in term 1, and member 2 votes for member 1
abbrev pub rivals : List Move
rivals = Stand 1 1 ∷ Stand 3 1 ∷ RaiseTerm 2 1 ∷ Vote 2 1 ∷ Elect 1 1 ∷ []

-- a member votes once in a term, also where it was started again in between (section 3.8): if member 2 voted for member 3 too, the term would have a second leader
abbrev pub VotersVoteOnce : Type 0
VotersVoteOnce = IsHistory 3 rivals
    × (MayVote (book_of rivals) 2 3 → ⊥)
    × AreAllowed 3 (after_move (book_of rivals) (Vote 2 3)) (Elect 1 3 ∷ [])
    × ((book_of rivals).leader 1 ≡ 1)
    × ((after_moves (after_move (book_of rivals) (Vote 2 3)) (Elect 1 3 ∷ [])).leader 1 ≡ 3)

-- member 3 is elected by member 2, which has come to term 2
abbrev pub second_term : List Move
second_term = Stand 3 2 ∷ RaiseTerm 2 2 ∷ Vote 2 3 ∷ takeover 2

-- a member cuts off nothing that agrees with its leader's log (section 3.5): if a late message made member 2 drop the entry that it acknowledged, it could vote for member 3
abbrev pub FollowersKeepAgreement : Type 0
FollowersKeepAgreement = IsHistory 3 commit
    × (MayFollow (book_of commit) 2 [] → ⊥)
    × AreAllowed 3 (after_move (book_of commit) (Follow 2 [])) second_term
    × TwoCommitted (after_moves (after_move (book_of commit) (Follow 2 [])) second_term)

-- a majority is not enough to commit an entry of an earlier term (section 3.6.2): in term 3 a majority acknowledges a list that ends in an entry of term 1, and yet another list is committed in term 4; all moves are allowed
abbrev pub OldEntriesAreNotCounted : Type 0
OldEntriesAreNotCounted = IsHistory 3 overwriting
    × IsPrefix (one ∷ []) ((book_of old_entry).leader_log 3)
    × IsMajority 3 (λ k. nat_le 1 ((book_of old_entry).acked k 3))
    × IsCommitted 3 (book_of overwriting) 4 (two ∷ four ∷ [])
    × (BeginAlike (one ∷ []) (two ∷ four ∷ []) → ⊥)
