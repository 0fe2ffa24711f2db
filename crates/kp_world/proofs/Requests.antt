-- A request for a vote is answered as the book allows.
use Rattle.std.proofs.Common.{◌≡◌, ℕ, ◌<◌, ◌≤◌, true, ◌&&◌, ◌||◌, refl, sym, arith, List, ◌++◌, length, inl, inr, ◌⊎◌, ⊎_elim}
use Rattle.std.specs.Prelude.{nat_eq, nat_lt, nat_le}
use Rattle.std.proofs.lemmas.Bool.Decides.{nat_tests}
use Rattle.kp_model.specs.LogEntry.{LogEntry}
use Rattle.kp_entry.specs.Log.{Log, last_index, term_of}
use Rattle.kp_raft.specs.Parts.{Running, vote_at, running_at}
use Rattle.kp_world.specs.Log.{last_term, IsUpToDate}
use Rattle.kp_world.specs.Book.{Book}
use Rattle.kp_world.specs.Moves.{Vote, MayVote, after_move}
use Rattle.kp_world.proofs.Cases.{set_at_both_cases, and_true}
use Rattle.kp_world.proofs.Invariant.{Invariant}
use Rattle.kp_world.specs.Net.{Stored, full}
use Rattle.kp_raft.specs.Rules.{is_up_to_date, grants, on_vote_req}
use Rattle.kp_world.proofs.Reach.{Reaches, reach_trans, reach_vote}
use Rattle.kp_world.proofs.Link.{StoredFits, RunningFits, VoteReqFits, Result, Termed, term_stage, still, voted_result, cond_cases, at_term, running_grows, running_vote, or_true, running_at_commit}
use Rattle.kp_world.proofs.Views.{IsBehind, is_behind, index_view, newest_view}

newer_test : (front : List LogEntry) (log : Log) (lt li : ℕ) (xs : List LogEntry) → IsBehind front log → is_up_to_date lt li log ≡ true → last_term xs ≡ lt → length xs ≡ li → IsUpToDate xs (front ++ log.entries)
newer_test front log lt li xs f e p q =
    let term : last_term (front ++ log.entries) ≡ term_of log (last_index log) = newest_view front log f in
    let size : last_index log ≡ length (front ++ log.entries) = index_view front log f in
    let own : ℕ = term_of log (last_index log) in
    record {
      newer = ⊎_elim
          (λ (h : nat_lt own lt ≡ true). let l : own < lt = grind (arith, nat_tests) in inl (omega arith))
          (λ (h : (nat_eq own lt && nat_le (last_index log) li) ≡ true).
          let both = and_true (nat_eq own lt) (nat_le (last_index log) li) h in
          let s : nat_eq own lt ≡ true = both.0 in
          let l : nat_le (last_index log) li ≡ true = both.1 in
          let s' : own ≡ lt = grind (arith, nat_tests) in
          let l' : last_index log ≤ li = grind (arith, nat_tests) in
          inr (omega arith, omega arith))
          (or_true (nat_lt own lt) (nat_eq own lt && nat_le (last_index log) li) e);
    }

free_test : (vote from : ℕ) → (nat_eq vote 0 || nat_eq vote from) ≡ true → (vote ≡ 0) ⊎ (vote ≡ from)
free_test vote from e = ⊎_elim
    (λ (h : nat_eq vote 0 ≡ true). inl (grind (arith, nat_tests)))
    (λ (h : nat_eq vote from ≡ true). inr (grind (arith, nat_tests)))
    (or_true (nat_eq vote 0) (nat_eq vote from) e)

pub request_ok : {I : Type 0} (n k : ℕ) (b : Book) (s : Stored) (v : Running) (list : List LogEntry) (from t li lt : ℕ) → 0 < k → Invariant n b → StoredFits n b k s → RunningFits n b k s v → VoteReqFits b from t li lt
    → Result {I = I} n k b s v list (on_vote_req k s.held v t from li lt)
request_ok n k b s v list from t li lt some i f g m = cond_cases (Result n k b s v list) (nat_lt t s.held.term) _ _
    (λ old. still n k b s v v list _ (omega arith) i f g (record { to = m.some; message = λ e. absurd cc }, tt))
    (λ old.
    let l : s.held.term ≤ t = grind (arith, nat_tests) in
    let y : ℕ = vote_at s.held t in
    let z : Termed n k b s v t = term_stage n k b s v t i f g l in
    cond_cases (Result n k b s v list) (grants y from lt li s.held.log) _ _
    (λ e.
    let both = and_true (nat_eq y 0 || nat_eq y from) (is_up_to_date lt li s.held.log) e in
    let d : Book = z.book in
    let at : d.term k ≡ t = z.keeps.term in
    let log : d.log k ≡ full s = z.keeps.log in
    let asked : d.candidate_log t from ≡ b.candidate_log t from = z.reaches.asked t from m.stood in
    let may : MayVote d k from = record {
      member = m.some;
      free = rw at (rw z.keeps.vote (free_test y from both.0));
      reached = omega (arith, z.reaches.grows.term from, m.stood);
      newer = rw (at, asked, log) (newer_test s.front s.held.log lt li (b.candidate_log t from) (is_behind n b k s f) both.1 m.last_term_is m.last_is);
    } in
    let c : Book = after_move d (Vote k from) in
    let r : Reaches n k d c = reach_vote n k d from z.reaches.inv may in
    let voted : c.voted_for k t ≡ from = set_at_both_cases (λ x. x ≡ from) d.voted_for k (d.term k) from k t (λ _ _. refl) (λ no. absurd (no refl (sym at))) in
    voted_result n k b c s t from v (running_at s.held v t) list _ (omega (arith, running_at_commit s.held v t)) i f (reach_trans n k b d c z.reaches r)
    (record { term = at; vote = voted; log = log; base = z.keeps.base; base_term = z.keeps.base_term; backed = Rattle.kp_world.proofs.Link.backed_grows n d c t t s.front r.grows (omega arith) z.keeps.backed })
    (running_vote n c k s t y from (running_at s.held v t)
    (running_grows n d c k (at_term s t y) (running_at s.held v t) r.grows refl (λ _ _. refl) (λ x. x) z.runs))
    (record { to = m.some; message = λ _. voted }, tt))
    (λ e. voted_result n k b z.book s t y v (running_at s.held v t) list _ (omega (arith, running_at_commit s.held v t)) i f z.reaches z.keeps z.runs (record { to = m.some; message = λ e. absurd cc }, tt)))
