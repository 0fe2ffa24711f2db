-- A candidate becomes the leader of its term.
use Rattle.std.proofs.Common.{◌≡◌, ℕ, ◌<◌, ◌≤◌, true, refl, sym, arith, le_trans, ◌∙◌, List, [], length, subst, inr, ⊎_elim}
use Rattle.std.specs.Prelude.{nat_eq}
use Rattle.std.proofs.lemmas.Bool.Decides.{nat_tests}
use mathlib.Core.List.{IsPrefix}
use Rattle.kp_model.specs.LogEntry.{LogEntry}
use Rattle.kp_model.specs.Majority.{IsMajority}
use Rattle.kp_world.specs.Log.{last_term, EndsInTerm}
use Rattle.kp_world.specs.Book.{Book}
use Rattle.kp_world.specs.Moves.{MayElect, after_move, Elect}
use Rattle.kp_world.proofs.Majorities.{InBoth, InFirst, Covers, majorities_meet, majority_covers, covers_or_not}
use Rattle.kp_world.proofs.Prefixes.{prefix_self, prefix_length}
use Rattle.kp_world.proofs.LastTerms.{some_or_zero}
use Rattle.kp_world.proofs.Cases.{set_at_cases}
use Rattle.kp_world.proofs.Growth.{Grows}
use Rattle.kp_world.proofs.Invariant.{Invariant, MatchesLeaders, Holds, has_left, not_left, still_holds, matching_grows}

-- each member votes once, so two that have the votes of a majority are one
pub same_winner : (n : ℕ) (b : Book) (t c e : ℕ) → IsMajority n (λ k. nat_eq (b.voted_for k t) c) → IsMajority n (λ k. nat_eq (b.voted_for k t) e) → c ≡ e
same_winner n b t c e p q =
    let m : InBoth n (λ k. nat_eq (b.voted_for k t) c) (λ k. nat_eq (b.voted_for k t) e) = majorities_meet n (λ k. nat_eq (b.voted_for k t) c) (λ k. nat_eq (b.voted_for k t) e) p q in
    let k : ℕ = m.0 in
    let first : nat_eq (b.voted_for k t) c ≡ true = m.3 in
    let second : nat_eq (b.voted_for k t) e ≡ true = m.4 in
    let is : b.voted_for k t ≡ c = grind (arith, nat_tests) in
    let at : b.voted_for k t ≡ e = grind (arith, nat_tests) in
    sym is ∙ at

-- so the term had no leader
pub no_leader_yet : (n : ℕ) (b : Book) (t c : ℕ) → Invariant n b → MayElect n b t c → b.leader t ≡ 0
no_leader_yet n b t c i may = ⊎_elim
    (λ (some : 0 < b.leader t). absurd (may.new (same_winner n b t (b.leader t) c (i.leader_votes t some) may.votes)))
    (λ (none : b.leader t ≡ 0). none)
    (grind arith)

pub elect_grows : (n : ℕ) (b : Book) (t c : ℕ) → Invariant n b → MayElect n b t c → Grows b (after_move b (Elect t c))
elect_grows n b t c i may = let free : b.leader t ≡ 0 = no_leader_yet n b t c i may in record {
  term = λ j. omega arith;
  voted_for = λ j u h. refl;
  leader = λ u h. set_at_cases (λ x. x ≡ b.leader u) b.leader t c u (λ is. absurd (omega (arith, h, free, subst (λ x. b.leader x ≡ b.leader t) (sym is) refl))) (λ is. refl);
  leader_log = λ u. set_at_cases (λ x. IsPrefix (b.leader_log u) x) b.leader_log t (b.candidate_log t c) u
      (λ is. rw is (rw (i.leaderless t free) (b.candidate_log t c, refl)))
      (λ is. prefix_self (b.leader_log u));
  acked = λ j u. omega arith;
  acked_past = λ j u h. refl;
}

-- what may still be committed in an earlier term stands in the log that is elected:
-- either all its voters left that term without p, and p is blocked, or one voter acknowledged p, and candidate_holds speaks of that voter
pub elect_holds : (n : ℕ) (b : Book) (t c s : ℕ) (p : List LogEntry) → Invariant n b → MayElect n b t c → s < t → EndsInTerm (b.leader_log s) s p → Holds n b s p (b.candidate_log t c)
elect_holds n b t c s p i may l own = ⊎_elim
    (λ (all : Covers n (λ k. nat_eq (b.voted_for k t) c) (has_left b s (length p))). inr (record { left = majority_covers n (λ k. nat_eq (b.voted_for k t) c) (has_left b s (length p)) all may.votes }))
    (λ (one : InFirst n (λ k. nat_eq (b.voted_for k t) c) (has_left b s (length p))).
    let k : ℕ = one.0 in
    let chose : nat_eq (b.voted_for k t) c ≡ true = one.3 in
    let is : b.voted_for k t ≡ c = grind (arith, nat_tests) in
    let some : 0 < b.voted_for k t = omega (arith, may.member) in
    let has : length p ≤ b.acked k s = not_left b s (length p) k one.4 (omega (arith, i.voter_term k t some)) in
    rw is at (i.candidate_holds k t s p some l own has))
    (covers_or_not n (λ k. nat_eq (b.voted_for k t) c) (has_left b s (length p)))

pub elect_keeps : (n : ℕ) (b : Book) (t c : ℕ) → Invariant n b → MayElect n b t c → Invariant n (after_move b (Elect t c))
elect_keeps n b t c i may =
    let d : Book = after_move b (Elect t c) in
    let g : Grows b d = elect_grows n b t c i may in
    -- the log that is elected has no entry of t
    let old : (s : ℕ) (p : List LogEntry) → EndsInTerm (d.leader_log s) s p → EndsInTerm (b.leader_log s) s p = λ s p. set_at_cases (λ xs. EndsInTerm xs s p → EndsInTerm (b.leader_log s) s p) b.leader_log t (b.candidate_log t c) s
    (λ is own. absurd (omega (arith, i.candidate_log_terms t c p own.some own.within, own.ends, is)))
    (λ is own. own) in
    record {
      voter_term = i.voter_term;
      candidate_term = i.candidate_term;
      acked_term = i.acked_term;
      acked_within = λ j u. le_trans (i.acked_within j u) (prefix_length (b.leader_log u) (d.leader_log u) (g.leader_log u));
      leader_votes = λ u. set_at_cases (λ x. 0 < x → IsMajority n (λ k. nat_eq (b.voted_for k u) x)) b.leader t c u
          (λ is h. rw is may.votes)
          (λ is. i.leader_votes u);
      leaderless = λ u. set_at_cases (λ x. x ≡ 0 → d.leader_log u ≡ []) b.leader t c u
          (λ is h. absurd (omega (arith, may.member)))
          (λ is h. set_at_cases (λ xs. xs ≡ []) b.leader_log t (b.candidate_log t c) u (λ same. absurd (is same)) (λ _. i.leaderless u h));
      log_terms = i.log_terms;
      leader_log_terms = λ u p. set_at_cases (λ xs. IsPrefix p xs → last_term p ≤ u) b.leader_log t (b.candidate_log t c) u
          (λ is w. ⊎_elim
          (λ (h : 0 < length p). omega (arith, i.candidate_log_terms t c p h w))
          (λ (h : last_term p ≡ 0). omega arith)
          (some_or_zero p))
          (λ is. i.leader_log_terms u p);
      candidate_log_terms = i.candidate_log_terms;
      log_matching = λ j. matching_grows b d (b.log j) g (i.log_matching j);
      leader_log_matching = λ u. set_at_cases (λ xs. MatchesLeaders d xs) b.leader_log t (b.candidate_log t c) u
          (λ is. matching_grows b d (b.candidate_log t c) g (i.candidate_log_matching t c))
          (λ is. matching_grows b d (b.leader_log u) g (i.leader_log_matching u));
      candidate_log_matching = λ u k. matching_grows b d (b.candidate_log u k) g (i.candidate_log_matching u k);
      log_holds = λ j u p own h. still_holds n b d u p _ g (i.log_holds j u p (old u p own) h);
      candidate_holds = λ j u s p v l own h. still_holds n b d s p _ g (i.candidate_holds j u s p v l (old s p own) h);
      leader_holds = λ s u p l e own. still_holds n b d s p (d.leader_log u) g
          (set_at_cases (λ x. 0 < x → Holds n b s p (d.leader_log u)) b.leader t c u
          (λ is _. set_at_cases (λ xs. Holds n b s p xs) b.leader_log t (b.candidate_log t c) u
          (λ _. elect_holds n b t c s p i may (omega arith) (old s p own))
          (λ no. absurd (no is)))
          (λ is e. set_at_cases (λ xs. Holds n b s p xs) b.leader_log t (b.candidate_log t c) u
          (λ at. absurd (is at))
          (λ _. i.leader_holds s u p l e (old s p own)))
          e);
    }
