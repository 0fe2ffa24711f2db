-- A member acknowledges what it has of the log of its term's leader.
use Rattle.std.proofs.Common.{◌≡◌, ℕ, ◌<◌, ◌≤◌, refl, sym, arith, length, subst, inl}
use Rattle.kp_world.specs.Book.{Book}
use Rattle.kp_world.specs.Moves.{MayAcknowledge, after_move, Acknowledge}
use Rattle.kp_world.proofs.Prefixes.{prefix_self}
use Rattle.kp_world.proofs.Cases.{set_at_both_cases}
use Rattle.kp_world.proofs.Growth.{Grows}
use Rattle.kp_world.proofs.Invariant.{Invariant, Holds, still_holds}

pub acknowledge_grows : (b : Book) (k m : ℕ) → MayAcknowledge b k m → Grows b (after_move b (Acknowledge k m))
acknowledge_grows b k m may = record {
  term = λ j. omega arith;
  voted_for = λ j u h. refl;
  leader = λ u h. refl;
  leader_log = λ u. prefix_self (b.leader_log u);
  acked = λ j u. set_at_both_cases (λ x. b.acked j u ≤ x) b.acked k (b.term k) m j u (λ is at. rw (is, at) may.more) (λ is. omega arith);
  acked_past = λ j u h. set_at_both_cases (λ x. x ≡ b.acked j u) b.acked k (b.term k) m j u
      (λ is at. absurd (omega (arith, subst (λ x. u < b.term x) is h)))
      (λ is. refl);
}

pub acknowledge_keeps : (n : ℕ) (b : Book) (k m : ℕ) → Invariant n b → MayAcknowledge b k m → Invariant n (after_move b (Acknowledge k m))
acknowledge_keeps n b k m i may =
    let d : Book = after_move b (Acknowledge k m) in
    let g : Grows b d = acknowledge_grows b k m may in
    record {
      voter_term = i.voter_term;
      candidate_term = i.candidate_term;
      acked_term = λ j u. set_at_both_cases (λ x. 0 < x → u ≤ b.term j) b.acked k (b.term k) m j u (λ is at h. rw (is, at) (omega arith)) (λ is. i.acked_term j u);
      acked_within = λ j u. set_at_both_cases (λ x. x ≤ length (b.leader_log u)) b.acked k (b.term k) m j u (λ is at. rw at may.within) (λ is. i.acked_within j u);
      leader_votes = i.leader_votes;
      leaderless = i.leaderless;
      log_terms = i.log_terms;
      leader_log_terms = i.leader_log_terms;
      candidate_log_terms = i.candidate_log_terms;
      log_matching = i.log_matching;
      leader_log_matching = i.leader_log_matching;
      candidate_log_matching = i.candidate_log_matching;
      log_holds = λ j u p own. set_at_both_cases (λ x. length p ≤ x → Holds n d u p (b.log j)) b.acked k (b.term k) m j u
          (λ is at h. inl (rw is (may.has p (rw (← at) own.within) h)))
          (λ is h. still_holds n b d u p _ g (i.log_holds j u p own h));
      -- votes of later terms are not cast yet: the member is still in this term
      candidate_holds = λ j u s p v l own. set_at_both_cases (λ x. length p ≤ x → Holds n d s p (b.candidate_log u (b.voted_for j u))) b.acked k (b.term k) m j s
          (λ is at h. absurd (omega (arith, i.voter_term j u v, subst (λ x. s ≡ b.term x) (sym is) at)))
          (λ is h. still_holds n b d s p _ g (i.candidate_holds j u s p v l own h));
      leader_holds = λ s u p l e own. still_holds n b d s p _ g (i.leader_holds s u p l e own);
    }
