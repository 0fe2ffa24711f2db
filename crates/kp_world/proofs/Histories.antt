-- Every history keeps the invariant, and its book grows.
use Rattle.std.proofs.Common.{◌≡◌, ℕ, refl, sym, arith, List, [], ◌∷◌, ◌++◌, subst}
use Rattle.kp_world.specs.Book.{Book, empty_book}
use Rattle.kp_world.specs.Moves.{Move, RaiseTerm, Stand, Vote, Elect, Write, Follow, Acknowledge, IsAllowed, AreAllowed, after_move, after_moves, book_of, IsHistory}
use Rattle.kp_world.proofs.LastTerms.{empty_length, empty_last_term}
use Rattle.kp_world.proofs.Growth.{Grows, grows_self, grows_trans}
use Rattle.kp_world.proofs.Invariant.{Invariant}
use Rattle.kp_world.proofs.RaiseTerm.{raise_term_grows, raise_term_keeps}
use Rattle.kp_world.proofs.Stand.{stand_grows, stand_keeps}
use Rattle.kp_world.proofs.Vote.{vote_grows, vote_keeps}
use Rattle.kp_world.proofs.Elect.{elect_grows, elect_keeps}
use Rattle.kp_world.proofs.Write.{write_grows, write_keeps}
use Rattle.kp_world.proofs.Follow.{follow_grows, follow_keeps}
use Rattle.kp_world.proofs.Acknowledge.{acknowledge_grows, acknowledge_keeps}

pub empty_invariant : (n : ℕ) → Invariant n empty_book
empty_invariant n = record {
  voter_term = λ k t h. absurd (omega arith);
  candidate_term = λ k t h. absurd (omega arith);
  acked_term = λ k t h. absurd (omega arith);
  acked_within = λ k t. omega arith;
  leader_votes = λ t h. absurd (omega arith);
  leaderless = λ t h. refl;
  log_terms = λ k p w. omega (arith, empty_last_term p w);
  leader_log_terms = λ t p w. omega (arith, empty_last_term p w);
  candidate_log_terms = λ t c p some w. absurd (omega (arith, empty_length p w));
  log_matching = λ k p some w. absurd (omega (arith, empty_length p w));
  leader_log_matching = λ t p some w. absurd (omega (arith, empty_length p w));
  candidate_log_matching = λ t c p some w. absurd (omega (arith, empty_length p w));
  log_holds = λ k t p own h. absurd (omega (arith, empty_length p own.within, own.some));
  candidate_holds = λ k u t p v l own h. absurd (omega arith);
  leader_holds = λ t u p l e own. absurd (omega arith);
}

pub move_grows : (n : ℕ) (b : Book) (m : Move) → Invariant n b → IsAllowed n b m → Grows b (after_move b m)
move_grows n b (RaiseTerm k t) i may = raise_term_grows b k t may
move_grows n b (Stand c t) i may = stand_grows n b c t i may
move_grows n b (Vote k c) i may = vote_grows b k c may
move_grows n b (Elect t c) i may = elect_grows n b t c i may
move_grows n b (Write t e) i may = write_grows b t e
move_grows n b (Follow k xs) i may = follow_grows b k xs
move_grows n b (Acknowledge k m) i may = acknowledge_grows b k m may

pub move_keeps : (n : ℕ) (b : Book) (m : Move) → Invariant n b → IsAllowed n b m → Invariant n (after_move b m)
move_keeps n b (RaiseTerm k t) i may = raise_term_keeps n b k t i may
move_keeps n b (Stand c t) i may = stand_keeps n b c t i may
move_keeps n b (Vote k c) i may = vote_keeps n b k c i may
move_keeps n b (Elect t c) i may = elect_keeps n b t c i may
move_keeps n b (Write t e) i may = write_keeps n b t e i may
move_keeps n b (Follow k xs) i may = follow_keeps n b k xs i may
move_keeps n b (Acknowledge k m) i may = acknowledge_keeps n b k m i may

pub moves_keep : (n : ℕ) (b : Book) (ms : List Move) → Invariant n b → AreAllowed n b ms → Invariant n (after_moves b ms)
moves_keep n b [] i may = i
moves_keep n b (m ∷ ms) i may = moves_keep n (after_move b m) ms (move_keeps n b m i may.0) may.1

pub moves_grow : (n : ℕ) (b : Book) (ms : List Move) → Invariant n b → AreAllowed n b ms → Grows b (after_moves b ms)
moves_grow n b [] i may = grows_self b
moves_grow n b (m ∷ ms) i may = grows_trans b (after_move b m) (after_moves (after_move b m) ms) (move_grows n b m i may.0) (moves_grow n (after_move b m) ms (move_keeps n b m i may.0) may.1)

-- the moves up to a moment, and those behind it
pub after_both : (b : Book) (ms later : List Move) → after_moves b (ms ++ later) ≡ after_moves (after_moves b ms) later
after_both b [] later = refl
after_both b (m ∷ ms) later = after_both (after_move b m) ms later

pub allowed_first : (n : ℕ) (b : Book) (ms later : List Move) → AreAllowed n b (ms ++ later) → AreAllowed n b ms
allowed_first n b [] later may = tt
allowed_first n b (m ∷ ms) later may = (may.0, allowed_first n (after_move b m) ms later may.1)

pub allowed_later : (n : ℕ) (b : Book) (ms later : List Move) → AreAllowed n b (ms ++ later) → AreAllowed n (after_moves b ms) later
allowed_later n b [] later may = may
allowed_later n b (m ∷ ms) later may = allowed_later n (after_move b m) ms later may.1

-- two moments of one history
pub record Moments (n : ℕ) (b d : Book) : Type 0 where
  pub earlier : Invariant n b
  pub later : Invariant n d
  pub since : Grows b d

pub moments : (n : ℕ) (ms later : List Move) → IsHistory n (ms ++ later) → Moments n (book_of ms) (book_of (ms ++ later))
moments n ms later may =
    let first : Invariant n (book_of ms) = moves_keep n empty_book ms (empty_invariant n) (allowed_first n empty_book ms later may) in
    record {
      earlier = first;
      later = moves_keep n empty_book (ms ++ later) (empty_invariant n) may;
      since = subst (λ d. Grows (book_of ms) d) (sym (after_both empty_book ms later)) (moves_grow n (book_of ms) later first (allowed_later n empty_book ms later may));
    }
