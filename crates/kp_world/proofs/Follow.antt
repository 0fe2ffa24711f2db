-- A member takes what it was sent of the log of its term's leader: a conflict is cut off, entries are appended, a snapshot is installed.
use Rattle.std.proofs.Common.{◌≡◌, ℕ, ◌<◌, ◌≤◌, refl, arith, List, length, subst, inl, inr, ⊎_elim}
use mathlib.Core.List.{IsPrefix}
use Rattle.kp_model.specs.LogEntry.{LogEntry}
use Rattle.kp_world.specs.Log.{last_term, EndsInTerm}
use Rattle.kp_world.specs.Book.{Book}
use Rattle.kp_world.specs.Moves.{MayFollow, after_move, Follow}
use Rattle.kp_world.proofs.Prefixes.{prefix_self, prefix_trans}
use Rattle.kp_world.proofs.Cases.{set_at_cases}
use Rattle.kp_world.proofs.Growth.{Grows}
use Rattle.kp_world.proofs.Invariant.{Invariant, MatchesLeaders, IsBlocked, Holds, still_holds, matching_prefix}

pub follow_grows : (b : Book) (k : ℕ) (xs : List LogEntry) → Grows b (after_move b (Follow k xs))
follow_grows b k xs = record {
  term = λ j. omega arith;
  voted_for = λ j u h. refl;
  leader = λ u h. refl;
  leader_log = λ u. prefix_self (b.leader_log u);
  acked = λ j u. omega arith;
  acked_past = λ j u h. refl;
}

-- what the member acknowledged and may still be committed it has, and so has its leader, so it stays
follow_holds : (n : ℕ) (b : Book) (k s : ℕ) (xs p : List LogEntry) → Invariant n b → MayFollow b k xs → EndsInTerm (b.leader_log s) s p → length p ≤ b.acked k s → Holds n b s p xs
follow_holds n b k s xs p i may own h =
    let past : s ≤ b.term k = i.acked_term k s (omega (arith, own.some)) in
    let there : Holds n b s p (b.leader_log (b.term k)) = ⊎_elim
    (λ (l : s < b.term k). i.leader_holds s (b.term k) p l may.leads own)
    (λ (l : s ≡ b.term k). inl (subst (λ u. IsPrefix p (b.leader_log u)) l own.within))
    (grind arith) in
    ⊎_elim
    (λ (w : IsPrefix p (b.log k)). ⊎_elim
    (λ (v : IsPrefix p (b.leader_log (b.term k))). inl (may.keeps p w v))
    (λ (v : IsBlocked n b s (length p)). inr v)
    there)
    (λ (w : IsBlocked n b s (length p)). inr w)
    (i.log_holds k s p own h)

pub follow_keeps : (n : ℕ) (b : Book) (k : ℕ) (xs : List LogEntry) → Invariant n b → MayFollow b k xs → Invariant n (after_move b (Follow k xs))
follow_keeps n b k xs i may =
    let d : Book = after_move b (Follow k xs) in
    let g : Grows b d = follow_grows b k xs in
    record {
      voter_term = i.voter_term;
      candidate_term = i.candidate_term;
      acked_term = i.acked_term;
      acked_within = i.acked_within;
      leader_votes = i.leader_votes;
      leaderless = i.leaderless;
      log_terms = λ j p. set_at_cases (λ ys. IsPrefix p ys → last_term p ≤ b.term j) b.log k xs j
          (λ is w. rw is (i.leader_log_terms (b.term k) p (prefix_trans p xs _ w may.within)))
          (λ is. i.log_terms j p);
      leader_log_terms = i.leader_log_terms;
      candidate_log_terms = i.candidate_log_terms;
      log_matching = λ j. set_at_cases (λ ys. MatchesLeaders b ys) b.log k xs j
          (λ is. matching_prefix b xs (b.leader_log (b.term k)) may.within (i.leader_log_matching (b.term k)))
          (λ is. i.log_matching j);
      leader_log_matching = i.leader_log_matching;
      candidate_log_matching = i.candidate_log_matching;
      log_holds = λ j u p own h. still_holds n b d u p (d.log j) g
          (set_at_cases (λ ys. Holds n b u p ys) b.log k xs j
          (λ is. follow_holds n b k u xs p i may own (rw (← is) h))
          (λ is. i.log_holds j u p own h));
      candidate_holds = λ j u s p v l own h. still_holds n b d s p _ g (i.candidate_holds j u s p v l own h);
      leader_holds = λ s u p l e own. still_holds n b d s p _ g (i.leader_holds s u p l e own);
    }
