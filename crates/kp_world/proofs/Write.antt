-- A leader appends an entry to its log.
use Rattle.std.proofs.Common.{◌≡◌, ℕ, ◌<◌, ◌≤◌, refl, ap, arith, le_trans, List, [], ◌∷◌, ◌++◌, ◌+◌, length, length-append, subst, inl, inr, ◌⊎◌, ⊎_elim, ◌∙◌}
use Rattle.std.specs.Prelude.{nat_eq}
use Rattle.std.proofs.lemmas.Bool.Decides.{nat_tests}
use mathlib.Core.List.{IsPrefix}
use Rattle.kp_model.specs.LogEntry.{LogEntry}
use Rattle.kp_world.specs.Log.{last_term, EndsInTerm}
use Rattle.kp_world.specs.Book.{Book}
use Rattle.kp_world.specs.Moves.{MayWrite, after_move, Write}
use Rattle.kp_world.proofs.Majorities.{majority_covers}
use Rattle.kp_world.proofs.Prefixes.{prefix_self, prefix_length, prefix_append, prefix_snoc}
use Rattle.kp_world.proofs.LastTerms.{last_term_snoc}
use Rattle.kp_world.proofs.Cases.{set_at_cases}
use Rattle.kp_world.proofs.Growth.{Grows}
use Rattle.kp_world.proofs.Invariant.{Invariant, MatchesLeaders, IsBlocked, has_left, left_test, holds_grows, still_holds, matching_grows}

pub write_grows : (b : Book) (t : ℕ) (e : LogEntry) → Grows b (after_move b (Write t e))
write_grows b t e = record {
  term = λ j. omega arith;
  voted_for = λ j u h. refl;
  leader = λ u h. refl;
  leader_log = λ u. set_at_cases (λ x. IsPrefix (b.leader_log u) x) b.leader_log t (b.leader_log t ++ e ∷ []) u
      (λ is. rw is (prefix_append (b.leader_log t) (e ∷ [])))
      (λ is. prefix_self (b.leader_log u));
  acked = λ j u. omega arith;
  acked_past = λ j u h. refl;
}

-- where a leader of a later term is elected, no more can be committed in t than the leader of t has by now: the voters have all left t
pub later_leader_blocks : (n : ℕ) (b : Book) (t u m : ℕ) → Invariant n b → t < u → 0 < b.leader u → length (b.leader_log t) < m → IsBlocked n b t m
later_leader_blocks n b t u m i l some more = record {
  left = majority_covers n (λ k. nat_eq (b.voted_for k u) (b.leader u)) (has_left b t m) (λ k p q chose.
      let is : b.voted_for k u ≡ b.leader u = grind (arith, nat_tests) in
      left_test b t m k (omega (arith, i.voter_term k u (omega arith))) (omega (arith, i.acked_within k t)))
      (i.leader_votes u some);
}

pub write_keeps : (n : ℕ) (b : Book) (t : ℕ) (e : LogEntry) → Invariant n b → MayWrite b t e → Invariant n (after_move b (Write t e))
write_keeps n b t e i may =
    let ys : List LogEntry = b.leader_log t ++ e ∷ [] in
    let c : ℕ = b.leader t in
    let d : Book = after_move b (Write t e) in
    let g : Grows b d = write_grows b t e in
    let longer : length ys ≡ length (b.leader_log t) + 1 = length-append (b.leader_log t) (e ∷ []) in
    let here : d.leader_log t ≡ ys = set_at_cases (λ xs. xs ≡ ys) b.leader_log t ys t (λ _. refl) (λ no. absurd (no refl)) in
    let matching : MatchesLeaders d ys = λ p some w. ⊎_elim
    (λ (v : IsPrefix p (b.leader_log t)). matching_grows b d (b.leader_log t) g (i.leader_log_matching t) p some v)
    (λ (v : p ≡ ys).
    let at : last_term p ≡ t = ap last_term v ∙ (last_term_snoc (b.leader_log t) e ∙ may.own) in
    rw (at, here, v) (prefix_self ys))
    (prefix_snoc p (b.leader_log t) e w) in
    let below : (p : List LogEntry) → IsPrefix p ys → last_term p ≤ t = λ p w. ⊎_elim
    (λ (v : IsPrefix p (b.leader_log t)). i.leader_log_terms t p v)
    (λ (v : p ≡ ys). omega (arith, ap last_term v ∙ (last_term_snoc (b.leader_log t) e ∙ may.own)))
    (prefix_snoc p (b.leader_log t) e w) in
    -- what ends in its leader's term was there, or is the whole new log
    let old : (s : ℕ) (p : List LogEntry) → EndsInTerm (d.leader_log s) s p → EndsInTerm (b.leader_log s) s p ⊎ ((s ≡ t) × (p ≡ ys)) = λ s p. set_at_cases (λ xs. EndsInTerm xs s p → EndsInTerm (b.leader_log s) s p ⊎ ((s ≡ t) × (p ≡ ys))) b.leader_log t ys s
    (λ is own. ⊎_elim
    (λ (v : IsPrefix p (b.leader_log t)). inl (record { within = rw is v; ends = own.ends; some = own.some }))
    (λ (v : p ≡ ys). inr (is, v))
    (prefix_snoc p (b.leader_log t) e own.within))
    (λ is own. inl own) in
    -- the whole new log is acknowledged by none
    let unacked : (j s : ℕ) (p : List LogEntry) → s ≡ t → p ≡ ys → length p ≤ b.acked j s → ⊥ = λ j s p is v h.
    omega (arith, i.acked_within j t, longer, ap (λ xs. length xs) v, subst (λ x. length p ≤ b.acked j x) is h) in
    record {
      voter_term = i.voter_term;
      candidate_term = i.candidate_term;
      acked_term = i.acked_term;
      acked_within = λ j u. le_trans (i.acked_within j u) (prefix_length (b.leader_log u) (d.leader_log u) (g.leader_log u));
      leader_votes = i.leader_votes;
      leaderless = λ u h. set_at_cases (λ xs. xs ≡ []) b.leader_log t ys u
          (λ is. absurd (omega (arith, may.leads, subst (λ x. b.leader x ≡ 0) is h)))
          (λ is. i.leaderless u h);
      log_terms = λ j p. set_at_cases (λ xs. IsPrefix p xs → last_term p ≤ b.term j) b.log c ys j
          (λ is w. rw is (omega (arith, below p w, may.now)))
          (λ is. i.log_terms j p);
      leader_log_terms = λ u p. set_at_cases (λ xs. IsPrefix p xs → last_term p ≤ u) b.leader_log t ys u
          (λ is w. rw is (below p w))
          (λ is. i.leader_log_terms u p);
      candidate_log_terms = i.candidate_log_terms;
      log_matching = λ j. set_at_cases (λ xs. MatchesLeaders d xs) b.log c ys j (λ is. matching) (λ is. matching_grows b d (b.log j) g (i.log_matching j));
      leader_log_matching = λ u. set_at_cases (λ xs. MatchesLeaders d xs) b.leader_log t ys u (λ is. matching) (λ is. matching_grows b d (b.leader_log u) g (i.leader_log_matching u));
      candidate_log_matching = λ u k. matching_grows b d (b.candidate_log u k) g (i.candidate_log_matching u k);
      log_holds = λ j u p own h. ⊎_elim
          (λ (o : EndsInTerm (b.leader_log u) u p). holds_grows n b d u p (b.log j) (d.log j) g
          (set_at_cases (λ xs. IsPrefix (b.log j) xs) b.log c ys j
          (λ is. rw (is, may.holds) (prefix_append (b.leader_log t) (e ∷ [])))
          (λ is. prefix_self (b.log j)))
          (i.log_holds j u p o h))
          (λ (o : (u ≡ t) × (p ≡ ys)). absurd (unacked j u p o.0 o.1 h))
          (old u p own);
      candidate_holds = λ j u s p v l own h. ⊎_elim
          (λ (o : EndsInTerm (b.leader_log s) s p). still_holds n b d s p _ g (i.candidate_holds j u s p v l o h))
          (λ (o : (s ≡ t) × (p ≡ ys)). absurd (unacked j s p o.0 o.1 h))
          (old s p own);
      -- an entry that is written after a later election is blocked
      leader_holds = λ s u p l some own. ⊎_elim
          (λ (o : EndsInTerm (b.leader_log s) s p). holds_grows n b d s p (b.leader_log u) (d.leader_log u) g (g.leader_log u) (i.leader_holds s u p l some o))
          (λ (o : (s ≡ t) × (p ≡ ys)). rw (o.0, o.1) (still_holds n b d t ys (d.leader_log u) g (inr (later_leader_blocks n b t u (length ys) i (omega (arith, o.0)) some (omega (arith, longer))))))
          (old s p own);
    }
