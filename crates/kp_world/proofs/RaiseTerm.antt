-- A member comes to know a later term.
use Rattle.std.proofs.Common.{ℕ, ◌≤◌, refl, arith, le_trans}
use Rattle.kp_world.specs.Book.{Book}
use Rattle.kp_world.specs.Moves.{MayRaiseTerm, after_move, RaiseTerm}
use Rattle.kp_world.proofs.Prefixes.{prefix_self}
use Rattle.kp_world.proofs.Cases.{set_at_cases}
use Rattle.kp_world.proofs.Growth.{Grows}
use Rattle.kp_world.proofs.Invariant.{Invariant, still_holds}

pub raise_term_grows : (b : Book) (k t : ℕ) → MayRaiseTerm b k t → Grows b (after_move b (RaiseTerm k t))
raise_term_grows b k t may = record {
  term = λ j. set_at_cases (λ x. b.term j ≤ x) b.term k t j (λ is. rw is (omega (arith, may.above))) (λ is. omega arith);
  voted_for = λ j u h. refl;
  leader = λ u h. refl;
  leader_log = λ u. prefix_self (b.leader_log u);
  acked = λ j u. omega arith;
  acked_past = λ j u h. refl;
}

pub raise_term_keeps : (n : ℕ) (b : Book) (k t : ℕ) → Invariant n b → MayRaiseTerm b k t → Invariant n (after_move b (RaiseTerm k t))
raise_term_keeps n b k t i may =
    let d : Book = after_move b (RaiseTerm k t) in
    let g : Grows b d = raise_term_grows b k t may in
    record {
      voter_term = λ j u h. le_trans (i.voter_term j u h) (g.term j);
      candidate_term = λ j u h. le_trans (i.candidate_term j u h) (g.term (b.voted_for j u));
      acked_term = λ j u h. le_trans (i.acked_term j u h) (g.term j);
      acked_within = i.acked_within;
      leader_votes = i.leader_votes;
      leaderless = i.leaderless;
      log_terms = λ j p w. le_trans (i.log_terms j p w) (g.term j);
      leader_log_terms = i.leader_log_terms;
      candidate_log_terms = i.candidate_log_terms;
      log_matching = i.log_matching;
      leader_log_matching = i.leader_log_matching;
      candidate_log_matching = i.candidate_log_matching;
      log_holds = λ j u p own h. still_holds n b d u p _ g (i.log_holds j u p own h);
      candidate_holds = λ j u s p v l own h. still_holds n b d s p _ g (i.candidate_holds j u s p v l own h);
      leader_holds = λ s u p l e own. still_holds n b d s p _ g (i.leader_holds s u p l e own);
    }
