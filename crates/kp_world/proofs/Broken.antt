-- The runs with a broken rule: every other move is allowed, and what comes out is computed.
use Rattle.std.proofs.Common.{◌≡◌, ◌<◌, ◌≤◌, inl, List, [], ◌∷◌, refl, ap, arith, ⊎_elim}
use Rattle.std.specs.Prelude.{nat_le}
use mathlib.Core.List.{IsPrefix}
use Rattle.kp_model.specs.LogEntry.{LogEntry}
use Rattle.kp_model.specs.Majority.{IsMajority}
use Rattle.kp_world.specs.Log.{BeginAlike}
use Rattle.kp_world.specs.Book.{Book, IsCommitted, empty_book}
use Rattle.kp_world.specs.Moves.{RaiseTerm, Stand, Vote, Elect, Write, Follow, Acknowledge, AreAllowed, IsHistory, MayVote, MayFollow, after_move, book_of}
use Rattle.kp_world.specs.Runs.{one, two, write, commit}
use Rattle.kp_world.specs.Broken.{four, old_entry, overwriting, takeover, TwoCommitted, laggard_stands, rivals, second_term, VotersCompareLogs, VotersVoteOnce, FollowersKeepAgreement, OldEntriesAreNotCounted}
use Rattle.kp_world.proofs.Prefixes.{prefix_self, prefix_length}
use Rattle.kp_world.proofs.Runs.{◌▸◌, allowed_append, two_of_three, later_term, same_term, takes_all, has_all, write_allowed, commit_allowed}

-- lists that begin with entries of the terms 1 and 2 do not begin alike
one_or_two : one ≡ two → ⊥
one_or_two e = absurd (omega (arith, ap (λ (x : LogEntry). x.term) e))

not_alike : (xs : List LogEntry) → BeginAlike (one ∷ []) (two ∷ xs) → ⊥
not_alike xs alike = ⊎_elim
    (λ (w : IsPrefix (one ∷ []) (two ∷ xs)). one_or_two (cc (w.1)))
    (λ (w : IsPrefix (two ∷ xs) (one ∷ [])). one_or_two (cc (w.1)))
    alike

laggard_stands_allowed : IsHistory 3 laggard_stands
laggard_stands_allowed = allowed_append 3 empty_book commit (Stand 3 2 ∷ RaiseTerm 1 2 ∷ []) commit_allowed (
    record { above = omega arith; member = omega arith }
    ▸ record { above = omega arith }
    ▸ tt
    )

laggard_is_refused : MayVote (book_of laggard_stands) 1 3 → ⊥
laggard_is_refused may = ⊎_elim (λ (l : 1 < 0). absurd (omega arith)) (λ (e : (1 ≡ 0) × (1 ≤ 0)). absurd (omega (arith, e.1))) may.newer.newer

both_committed : (b : Book) → b.leader_log 1 ≡ one ∷ [] → b.leader_log 2 ≡ two ∷ [] → IsMajority 3 (λ k. nat_le 1 (b.acked k 1)) → IsMajority 3 (λ k. nat_le 1 (b.acked k 2)) → TwoCommitted b
both_committed b first second most more = (
  record { written = record { within = rw first (prefix_self (one ∷ [])); ends = refl; some = omega arith }; stored = most },
  record { written = record { within = rw second (prefix_self (two ∷ [])); ends = refl; some = omega arith }; stored = more },
  not_alike [],
)

takeover_allowed : AreAllowed 3 (after_move (book_of laggard_stands) (Vote 1 3)) (takeover 1)
takeover_allowed =
    record { member = omega arith; new = λ e. absurd (omega (arith, e)); votes = two_of_three _ refl }
    ▸ record { leads = omega arith; now = refl; holds = refl; own = refl }
    ▸ has_all _ 3 1 (omega arith) (omega arith) refl
    ▸ takes_all _ 1 (omega arith)
    ▸ has_all _ 1 1 (omega arith) (omega arith) refl
    ▸ tt

pub voters_compare_logs : VotersCompareLogs
voters_compare_logs = (
  laggard_stands_allowed,
  laggard_is_refused,
  takeover_allowed,
  both_committed _ refl refl (two_of_three _ refl) (two_of_three _ refl),
)

rivals_allowed : IsHistory 3 rivals
rivals_allowed =
    record { above = omega arith; member = omega arith }
    ▸ record { above = omega arith; member = omega arith }
    ▸ record { above = omega arith }
    ▸ record { member = omega arith; free = inl refl; reached = omega arith; newer = same_term [] [] refl (omega arith) }
    ▸ record { member = omega arith; new = λ e. absurd (omega (arith, e)); votes = two_of_three _ refl }
    ▸ tt

pub voters_vote_once : VotersVoteOnce
voters_vote_once = (
  rivals_allowed,
  λ may. ⊎_elim (λ (e : 1 ≡ 0). absurd (omega (arith, e))) (λ (e : 1 ≡ 3). absurd (omega (arith, e))) may.free,
  (record { member = omega arith; new = λ e. absurd (omega (arith, e)); votes = two_of_three _ refl } ▸ tt),
  refl,
  refl,
)

-- the log that member 2 has and its leader has too would be lost
cut_is_refused : MayFollow (book_of commit) 2 [] → ⊥
cut_is_refused may = absurd (omega (arith, prefix_length (one ∷ []) [] (may.keeps (one ∷ []) (prefix_self (one ∷ [])) (prefix_self (one ∷ [])))))

second_term_allowed : AreAllowed 3 (after_move (book_of commit) (Follow 2 [])) second_term
second_term_allowed =
    record { above = omega arith; member = omega arith }
    ▸ record { above = omega arith }
    ▸ record { member = omega arith; free = inl refl; reached = omega arith; newer = same_term [] [] refl (omega arith) }
    ▸ record { member = omega arith; new = λ e. absurd (omega (arith, e)); votes = two_of_three _ refl }
    ▸ record { leads = omega arith; now = refl; holds = refl; own = refl }
    ▸ has_all _ 3 1 (omega arith) (omega arith) refl
    ▸ takes_all _ 2 (omega arith)
    ▸ has_all _ 2 1 (omega arith) (omega arith) refl
    ▸ tt

pub followers_keep_agreement : FollowersKeepAgreement
followers_keep_agreement = (
  commit_allowed,
  cut_is_refused,
  second_term_allowed,
  both_committed _ refl refl (two_of_three _ refl) (two_of_three _ refl),
)

old_entry_allowed : IsHistory 3 old_entry
old_entry_allowed = allowed_append 3 empty_book write (Stand 3 2 ∷ RaiseTerm 2 2 ∷ Vote 2 3 ∷ Elect 2 3 ∷ Write 2 two ∷ Stand 1 3 ∷ RaiseTerm 2 3 ∷ Vote 2 1 ∷ Elect 3 1 ∷ Acknowledge 1 1 ∷ Follow 2 (one ∷ []) ∷ Acknowledge 2 1 ∷ []) write_allowed (
    record { above = omega arith; member = omega arith }
    ▸ record { above = omega arith }
    ▸ record { member = omega arith; free = inl refl; reached = omega arith; newer = same_term [] [] refl (omega arith) }
    ▸ record { member = omega arith; new = λ e. absurd (omega (arith, e)); votes = two_of_three _ refl }
    ▸ record { leads = omega arith; now = refl; holds = refl; own = refl }
    ▸ record { above = omega arith; member = omega arith }
    ▸ record { above = omega arith }
    ▸ record { member = omega arith; free = inl refl; reached = omega arith; newer = later_term (one ∷ []) [] (omega arith) }
    ▸ record { member = omega arith; new = λ e. absurd (omega (arith, e)); votes = two_of_three _ refl }
    ▸ has_all _ 1 1 (omega arith) (omega arith) refl
    ▸ takes_all _ 2 (omega arith)
    ▸ has_all _ 2 1 (omega arith) (omega arith) refl
    ▸ tt
    )

overwriting_allowed : IsHistory 3 overwriting
overwriting_allowed = allowed_append 3 empty_book old_entry (Stand 3 4 ∷ RaiseTerm 2 4 ∷ Vote 2 3 ∷ Elect 4 3 ∷ Write 4 four ∷ Acknowledge 3 2 ∷ Follow 2 (two ∷ four ∷ []) ∷ Acknowledge 2 2 ∷ []) old_entry_allowed (
    record { above = omega arith; member = omega arith }
    ▸ record { above = omega arith }
    ▸ record { member = omega arith; free = inl refl; reached = omega arith; newer = later_term (two ∷ []) (one ∷ []) (omega arith) }
    ▸ record { member = omega arith; new = λ e. absurd (omega (arith, e)); votes = two_of_three _ refl }
    ▸ record { leads = omega arith; now = refl; holds = refl; own = refl }
    ▸ has_all _ 3 2 (omega arith) (omega arith) refl
    ▸ takes_all _ 2 (omega arith)
    ▸ has_all _ 2 2 (omega arith) (omega arith) refl
    ▸ tt
    )

pub old_entries_are_not_counted : OldEntriesAreNotCounted
old_entries_are_not_counted = (overwriting_allowed, prefix_self (one ∷ []), two_of_three _ refl, other_committed, not_alike (four ∷ []))
  where
    other_committed : IsCommitted 3 (book_of overwriting) 4 (two ∷ four ∷ [])
    other_committed = record { written = record { within = prefix_self (two ∷ four ∷ []); ends = refl; some = omega arith }; stored = two_of_three _ refl }
