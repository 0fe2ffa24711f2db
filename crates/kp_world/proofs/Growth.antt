-- What every move does to a book: it grows.
use Rattle.std.proofs.Common.{◌≡◌, ℕ, ◌<◌, ◌≤◌, refl, arith, le_trans, ◌∙◌}
use mathlib.Core.List.{IsPrefix}
use Rattle.kp_world.specs.Book.{Book}
use Rattle.kp_world.proofs.Prefixes.{prefix_self, prefix_trans}

-- d is b at a later moment
pub record Grows (b d : Book) : Type 0 where
  pub term : (k : ℕ) → b.term k ≤ d.term k  -- terms rise
  pub voted_for : (k t : ℕ) → 0 < b.voted_for k t → d.voted_for k t ≡ b.voted_for k t  -- a vote stays
  pub leader : (t : ℕ) → 0 < b.leader t → d.leader t ≡ b.leader t  -- a leader stays the leader of its term
  pub leader_log : (t : ℕ) → IsPrefix (b.leader_log t) (d.leader_log t)  -- a leader only appends
  pub acked : (k t : ℕ) → b.acked k t ≤ d.acked k t  -- acknowledgements rise
  pub acked_past : (k t : ℕ) → t < b.term k → d.acked k t ≡ b.acked k t  -- and stand still in terms that the member has left

pub grows_self : (b : Book) → Grows b b
grows_self b = record {
  term = λ k. omega arith;
  voted_for = λ k t h. refl;
  leader = λ t h. refl;
  leader_log = λ t. prefix_self (b.leader_log t);
  acked = λ k t. omega arith;
  acked_past = λ k t h. refl;
}

pub grows_trans : (a b d : Book) → Grows a b → Grows b d → Grows a d
grows_trans a b d g h = record {
  term = λ k. le_trans (g.term k) (h.term k);
  voted_for = λ k t some.
      let was : b.voted_for k t ≡ a.voted_for k t = g.voted_for k t some in
      h.voted_for k t (omega arith) ∙ was;
  leader = λ t some.
      let was : b.leader t ≡ a.leader t = g.leader t some in
      h.leader t (omega arith) ∙ was;
  leader_log = λ t. prefix_trans (a.leader_log t) (b.leader_log t) (d.leader_log t) (g.leader_log t) (h.leader_log t);
  acked = λ k t. le_trans (g.acked k t) (h.acked k t);
  acked_past = λ k t past. h.acked_past k t (omega (arith, g.term k)) ∙ g.acked_past k t past;
}
