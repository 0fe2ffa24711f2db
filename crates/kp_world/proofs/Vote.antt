-- A member votes for a candidate of its term.
use Rattle.std.proofs.Common.{◌≡◌, ℕ, ◌<◌, ◌≤◌, refl, arith, List, length, subst, inr, ⊎_elim}
use mathlib.Core.List.{IsPrefix}
use Rattle.kp_model.specs.LogEntry.{LogEntry}
use Rattle.kp_world.specs.Log.{EndsInTerm}
use Rattle.kp_world.specs.Book.{Book}
use Rattle.kp_world.specs.Moves.{MayVote, after_move, Vote}
use Rattle.kp_world.proofs.Prefixes.{prefix_self}
use Rattle.kp_world.proofs.Cases.{set_at_both_cases}
use Rattle.kp_world.proofs.Growth.{Grows}
use Rattle.kp_world.proofs.Invariant.{Invariant, IsBlocked, Holds, still_holds, leader_votes_grow, newer_holds}

pub vote_grows : (b : Book) (k c : ℕ) → MayVote b k c → Grows b (after_move b (Vote k c))
vote_grows b k c may = record {
  term = λ j. omega arith;
  -- a vote that is given again is the same
  voted_for = λ j u h. set_at_both_cases (λ x. x ≡ b.voted_for j u) b.voted_for k (b.term k) c j u
      (λ is at.
      let same : b.voted_for j u ≡ b.voted_for k (b.term k) = subst (λ x. b.voted_for j u ≡ b.voted_for x (b.term k)) is (subst (λ y. b.voted_for j u ≡ b.voted_for j y) at refl) in
      ⊎_elim (λ (e : b.voted_for k (b.term k) ≡ 0). absurd (omega arith)) (λ (e : b.voted_for k (b.term k) ≡ c). omega arith) may.free)
      (λ is. refl);
  leader = λ u h. refl;
  leader_log = λ u. prefix_self (b.leader_log u);
  acked = λ j u. omega arith;
  acked_past = λ j u h. refl;
}

-- what the voter acknowledged in earlier terms it still has, and so the candidate had it
vote_holds : (n : ℕ) (b : Book) (k c s : ℕ) (p : List LogEntry) → Invariant n b → MayVote b k c → EndsInTerm (b.leader_log s) s p → length p ≤ b.acked k s → Holds n b s p (b.candidate_log (b.term k) c)
vote_holds n b k c s p i may own h = ⊎_elim
    (λ (w : IsPrefix p (b.log k)). newer_holds n b s p (b.candidate_log (b.term k) c) (b.log k) i (i.candidate_log_matching (b.term k) c) (i.log_matching k) may.newer own w)
    (λ (w : IsBlocked n b s (length p)). inr w)
    (i.log_holds k s p own h)

pub vote_keeps : (n : ℕ) (b : Book) (k c : ℕ) → Invariant n b → MayVote b k c → Invariant n (after_move b (Vote k c))
vote_keeps n b k c i may =
    let d : Book = after_move b (Vote k c) in
    let g : Grows b d = vote_grows b k c may in
    record {
      voter_term = λ j u. set_at_both_cases (λ x. 0 < x → u ≤ b.term j) b.voted_for k (b.term k) c j u
          (λ is at h. rw (is, at) (omega arith))
          (λ is. i.voter_term j u);
      candidate_term = λ j u. set_at_both_cases (λ x. 0 < x → u ≤ b.term x) b.voted_for k (b.term k) c j u
          (λ is at h. rw at may.reached)
          (λ is. i.candidate_term j u);
      acked_term = i.acked_term;
      acked_within = i.acked_within;
      leader_votes = λ u h. leader_votes_grow n b d u g h (i.leader_votes u h);
      leaderless = i.leaderless;
      log_terms = i.log_terms;
      leader_log_terms = i.leader_log_terms;
      candidate_log_terms = i.candidate_log_terms;
      log_matching = i.log_matching;
      leader_log_matching = i.leader_log_matching;
      candidate_log_matching = i.candidate_log_matching;
      log_holds = λ j u p own h. still_holds n b d u p _ g (i.log_holds j u p own h);
      candidate_holds = λ j u s p. set_at_both_cases (λ v. 0 < v → s < u → EndsInTerm (b.leader_log s) s p → length p ≤ b.acked j s → Holds n d s p (d.candidate_log u v)) b.voted_for k (b.term k) c j u
          (λ is at v l own h. rw at (still_holds n b d s p _ g (vote_holds n b k c s p i may own (rw (← is) h))))
          (λ _ v l own h. still_holds n b d s p _ g (i.candidate_holds j u s p v l own h));
      leader_holds = λ s u p l e own. still_holds n b d s p _ g (i.leader_holds s u p l e own);
    }
