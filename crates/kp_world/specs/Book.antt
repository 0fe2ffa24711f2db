-- The book of a cluster: what its members hold, and all that was ever voted, elected, written and acknowledged.
-- It is the state of no program. Nothing is ever struck out of it but the end of a member's log.
use Rattle.std.specs.Prelude.{ℕ, cond, nat_eq, nat_le, List, [], length}
use Rattle.kp_model.specs.LogEntry.{LogEntry}
use Rattle.kp_model.specs.Majority.{IsMajority}
use Rattle.kp_world.specs.Log.{EndsInTerm}

pub record Book : Type 0 where
  pub term : ℕ → ℕ  -- term k: the current term of member k
  pub voted_for : ℕ → ℕ → ℕ  -- voted_for k t: the candidate that k has voted for in term t, or 0
  pub leader : ℕ → ℕ  -- leader t: the member that was elected in term t, or 0
  pub log : ℕ → List LogEntry  -- log k: the whole log of k, with the entries that a snapshot stands for
  pub candidate_log : ℕ → ℕ → List LogEntry  -- candidate_log t c: the log with which c stood for election in term t
  pub leader_log : ℕ → List LogEntry  -- leader_log t: the log of the leader of term t, as far as it ever came
  pub acked : ℕ → ℕ → ℕ  -- acked k t: how many entries of leader_log t member k has acknowledged in term t, the leader itself too

-- before anything has happened
abbrev pub empty_book : Book
empty_book = record {
  term = λ k. 0;
  voted_for = λ k t. 0;
  leader = λ t. 0;
  log = λ k. [];
  candidate_log = λ t c. [];
  leader_log = λ t. [];
  acked = λ k t. 0;
}

-- f, but x at k
abbrev pub set_at : {X : Type 0} → (ℕ → X) → ℕ → X → ℕ → X
set_at f k x j = cond (nat_eq j k) x (f j)

-- f, but x at k and t
abbrev pub set_at_both : {X : Type 0} → (ℕ → ℕ → X) → ℕ → ℕ → X → ℕ → ℕ → X
set_at_both f k t x j u = cond (nat_eq j k) (cond (nat_eq u t) x (f j u)) (f j u)

-- p is committed in term t: it ends in an entry that the leader of t wrote in t, and a majority has acknowledged it in t (Ongaro's thesis, section 3.6.2)
pub record IsCommitted (n : ℕ) (b : Book) (t : ℕ) (p : List LogEntry) : Type 0 where
  pub written : EndsInTerm (b.leader_log t) t p
  pub stored : IsMajority n (λ k. nat_le (length p) (b.acked k t))
