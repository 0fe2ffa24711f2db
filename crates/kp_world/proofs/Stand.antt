-- A member stands for election in a term above its own.
use Rattle.std.proofs.Common.{◌≡◌, ℕ, ◌<◌, ◌≤◌, refl, sym, arith, le_trans, length, subst}
use mathlib.Core.List.{IsPrefix}
use Rattle.kp_world.specs.Log.{last_term, EndsInTerm}
use Rattle.kp_world.specs.Book.{Book}
use Rattle.kp_world.specs.Moves.{MayStand, after_move, Stand}
use Rattle.kp_world.proofs.Prefixes.{prefix_self}
use Rattle.kp_world.proofs.Cases.{set_at_cases, set_at_both_cases}
use Rattle.kp_world.proofs.Growth.{Grows}
use Rattle.kp_world.proofs.Invariant.{Invariant, MatchesLeaders, Holds, still_holds, leader_votes_grow}

pub stand_grows : (n : ℕ) (b : Book) (c t : ℕ) → Invariant n b → MayStand b c t → Grows b (after_move b (Stand c t))
stand_grows n b c t i may = record {
  term = λ j. set_at_cases (λ x. b.term j ≤ x) b.term c t j (λ is. rw is (omega (arith, may.above))) (λ is. omega arith);
  -- c has not voted in t: its term is below
  voted_for = λ j u h. set_at_both_cases (λ x. x ≡ b.voted_for j u) b.voted_for c t c j u
      (λ is at. absurd (omega (arith, i.voter_term j u h, may.above, subst (λ x. b.term x ≡ b.term c) (sym is) refl)))
      (λ is. refl);
  leader = λ u h. refl;
  leader_log = λ u. prefix_self (b.leader_log u);
  acked = λ j u. omega arith;
  acked_past = λ j u h. refl;
}

pub stand_keeps : (n : ℕ) (b : Book) (c t : ℕ) → Invariant n b → MayStand b c t → Invariant n (after_move b (Stand c t))
stand_keeps n b c t i may =
    let d : Book = after_move b (Stand c t) in
    let g : Grows b d = stand_grows n b c t i may in
    let now : t ≤ d.term c = set_at_cases (λ x. t ≤ x) b.term c t c (λ is. omega arith) (λ is. absurd (is refl)) in
    record {
      voter_term = λ j u. set_at_both_cases (λ x. 0 < x → u ≤ d.term j) b.voted_for c t c j u
          (λ is at h. rw (is, at) now)
          (λ is h. le_trans (i.voter_term j u h) (g.term j));
      candidate_term = λ j u. set_at_both_cases (λ x. 0 < x → u ≤ d.term x) b.voted_for c t c j u
          (λ is at h. rw at now)
          (λ is h. le_trans (i.candidate_term j u h) (g.term (b.voted_for j u)));
      acked_term = λ j u h. le_trans (i.acked_term j u h) (g.term j);
      acked_within = i.acked_within;
      leader_votes = λ u h. leader_votes_grow n b d u g h (i.leader_votes u h);
      leaderless = i.leaderless;
      log_terms = λ j p w. le_trans (i.log_terms j p w) (g.term j);
      leader_log_terms = i.leader_log_terms;
      candidate_log_terms = λ u k p. set_at_both_cases (λ xs. 0 < length p → IsPrefix p xs → last_term p < u) b.candidate_log t c (b.log c) u k
          (λ is at some w. rw is (omega (arith, i.log_terms c p w, may.above)))
          (λ is. i.candidate_log_terms u k p);
      log_matching = i.log_matching;
      leader_log_matching = i.leader_log_matching;
      candidate_log_matching = λ u k. set_at_both_cases (λ xs. MatchesLeaders b xs) b.candidate_log t c (b.log c) u k (λ is at. i.log_matching c) (λ is. i.candidate_log_matching u k);
      log_holds = λ j u p own h. still_holds n b d u p _ g (i.log_holds j u p own h);
      -- c's own vote: it stands with its own log; an earlier vote: that candidate did not stand just now
      candidate_holds = λ j u s p. set_at_both_cases (λ v. 0 < v → s < u → EndsInTerm (b.leader_log s) s p → length p ≤ b.acked j s → Holds n d s p (d.candidate_log u v)) b.voted_for c t c j u
          (λ is at v l own h. set_at_both_cases (λ xs. Holds n d s p xs) b.candidate_log t c (b.log c) u c
          (λ _ _. still_holds n b d s p _ g (i.log_holds c s p own (rw (← is) h)))
          (λ no. absurd (no at refl)))
          (λ _ v l own h. set_at_both_cases (λ xs. Holds n d s p xs) b.candidate_log t c (b.log c) u (b.voted_for j u)
          (λ is at. absurd (omega (arith, i.candidate_term j u v, may.above, subst (λ x. b.term x ≡ b.term c) (sym at) refl)))
          (λ _. still_holds n b d s p _ g (i.candidate_holds j u s p v l own h)));
      leader_holds = λ s u p l e own. still_holds n b d s p _ g (i.leader_holds s u p l e own);
    }
