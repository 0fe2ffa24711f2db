-- The runs of three members: each move is allowed, and what comes out is computed.
use Rattle.std.proofs.Common.{◌≡◌, ℕ, ◌<◌, ◌≤◌, Bool, inl, inr, List, [], ◌∷◌, ◌++◌, length, refl, sym, arith, subst}
use mathlib.Core.List.{IsPrefix}
use Rattle.kp_model.specs.LogEntry.{LogEntry}
use Rattle.kp_model.specs.Majority.{count, IsMajority}
use Rattle.kp_world.specs.Log.{IsUpToDate, last_term}
use Rattle.kp_world.specs.Book.{Book, IsCommitted, empty_book}
use Rattle.kp_world.specs.Moves.{Move, RaiseTerm, Stand, Vote, Elect, Write, Follow, Acknowledge, AreAllowed, IsHistory, MayFollow, MayAcknowledge, after_move, after_moves, book_of}
use Rattle.kp_world.specs.Runs.{one, two, election, write, commit, catch_up, deposition, ElectionHappens, WriteIsCommitted, MemberCatchesUp, WriteIsDropped}
use Rattle.kp_world.proofs.Prefixes.{prefix_self}

infixr 5 ◌▸◌
-- a move is allowed, and so are those behind it
abbrev pub ◌▸◌ : {A B : Type 0} → A → B → A × B
a ▸ b = (a, b)

pub allowed_append : (n : ℕ) (b : Book) (ms later : List Move) → AreAllowed n b ms → AreAllowed n (after_moves b ms) later → AreAllowed n b (ms ++ later)
allowed_append n b [] later first then = then
allowed_append n b (m ∷ ms) later first then = (first.0, allowed_append n (after_move b m) ms later first.1 then)

pub two_of_three : (f : ℕ → Bool) → count 3 f ≡ 2 → IsMajority 3 f
two_of_three f e = record { most = rw e (omega arith) }

-- the candidate's log is no older, by its last term or by its length
pub later_term : (xs ys : List LogEntry) → last_term ys < last_term xs → IsUpToDate xs ys
later_term xs ys l = record { newer = inl l }

pub same_term : (xs ys : List LogEntry) → last_term ys ≡ last_term xs → length ys ≤ length xs → IsUpToDate xs ys
same_term xs ys e l = record { newer = inr (e, l) }

-- a member takes its leader's whole log
pub takes_all : (b : Book) (k : ℕ) → 0 < b.leader (b.term k) → MayFollow b k (b.leader_log (b.term k))
takes_all b k leads = record { leads = leads; within = prefix_self (b.leader_log (b.term k)); keeps = λ zs v w. w }

-- and acknowledges it
pub has_all : (b : Book) (k i : ℕ) → b.acked k (b.term k) ≤ i → i ≤ length (b.leader_log (b.term k)) → b.log k ≡ b.leader_log (b.term k) → MayAcknowledge b k i
has_all b k i more within same = record { more = more; within = within; has = λ zs w l. subst (λ xs. IsPrefix zs xs) (sym same) w }

election_allowed : IsHistory 3 election
election_allowed = (
    record { above = omega arith; member = omega arith }
    ▸ record { above = omega arith }
    ▸ record { member = omega arith; free = inl refl; reached = omega arith; newer = same_term [] [] refl (omega arith) }
    ▸ record { member = omega arith; new = λ e. absurd (omega (arith, e)); votes = two_of_three _ refl }
    ▸ tt
    )

pub election_happens : ElectionHappens
election_happens = (election_allowed, refl)

pub write_allowed : IsHistory 3 write
write_allowed = allowed_append 3 empty_book election (Write 1 one ∷ []) election_allowed
    (record { leads = omega arith; now = refl; holds = refl; own = refl } ▸ tt)

pub commit_allowed : IsHistory 3 commit
commit_allowed = allowed_append 3 empty_book write (Acknowledge 1 1 ∷ Follow 2 (one ∷ []) ∷ Acknowledge 2 1 ∷ []) write_allowed
    (has_all (book_of write) 1 1 (omega arith) (omega arith) refl ▸ takes_all _ 2 (omega arith) ▸ has_all _ 2 1 (omega arith) (omega arith) refl ▸ tt)

pub write_is_committed : WriteIsCommitted
write_is_committed = (commit_allowed, one_committed, refl)
  where
    one_committed : IsCommitted 3 (book_of commit) 1 (one ∷ [])
    one_committed = record { written = record { within = prefix_self (one ∷ []); ends = refl; some = omega arith }; stored = two_of_three _ refl }

catch_up_allowed : IsHistory 3 catch_up
catch_up_allowed = allowed_append 3 empty_book commit (RaiseTerm 3 1 ∷ Follow 3 (one ∷ []) ∷ Acknowledge 3 1 ∷ []) commit_allowed (
    record { above = omega arith }
    ▸ takes_all _ 3 (omega arith)
    ▸ has_all _ 3 1 (omega arith) (omega arith) refl
    ▸ tt
    )

pub member_catches_up : MemberCatchesUp
member_catches_up = (catch_up_allowed, refl)

deposition_allowed : IsHistory 3 deposition
deposition_allowed = allowed_append 3 empty_book write (Stand 2 2 ∷ RaiseTerm 3 2 ∷ Vote 3 2 ∷ Elect 2 2 ∷ Write 2 two ∷ Acknowledge 2 1 ∷ RaiseTerm 1 2 ∷ Follow 1 (two ∷ []) ∷ Acknowledge 1 1 ∷ []) write_allowed (
    record { above = omega arith; member = omega arith }
    ▸ record { above = omega arith }
    ▸ record { member = omega arith; free = inl refl; reached = omega arith; newer = same_term [] [] refl (omega arith) }
    ▸ record { member = omega arith; new = λ e. absurd (omega (arith, e)); votes = two_of_three _ refl }
    ▸ record { leads = omega arith; now = refl; holds = refl; own = refl }
    ▸ has_all _ 2 1 (omega arith) (omega arith) refl
    ▸ record { above = omega arith }
    ▸ takes_all _ 1 (omega arith)
    ▸ has_all _ 1 1 (omega arith) (omega arith) refl
    ▸ tt
    )

pub write_is_dropped : WriteIsDropped
write_is_dropped = (deposition_allowed, refl, refl, two_committed)
  where
    two_committed : IsCommitted 3 (book_of deposition) 2 (two ∷ [])
    two_committed = record { written = record { within = prefix_self (two ∷ []); ends = refl; some = omega arith }; stored = two_of_three _ refl }
