-- What the invariant says of two moments b and d of one history.
use Rattle.std.proofs.Common.{◌≡◌, ℕ, suc, ◌<◌, ◌≤◌, true, sym, arith, ◌∙◌, List, length, take, Some, slice_get, subst, ⊎_elim}
use Rattle.std.specs.Prelude.{nat_le, nat_eq}
use Rattle.std.proofs.lemmas.Bool.Decides.{nat_tests}
use mathlib.Core.List.{IsPrefix}
use Rattle.kp_model.specs.LogEntry.{LogEntry}
use Rattle.kp_model.specs.Majority.{IsMajority}
use Rattle.kp_world.specs.Log.{last_term, BeginAlike}
use Rattle.kp_world.specs.Book.{Book, IsCommitted}
use Rattle.kp_world.proofs.Majorities.{InBoth, majorities_meet, majority_covers}
use Rattle.kp_world.proofs.Prefixes.{prefix_trans, prefix_shorter, prefix_either, prefix_whole, prefix_get, take_prefix, take_length}
use Rattle.kp_world.proofs.LastTerms.{last_term_take}
use Rattle.kp_world.proofs.Growth.{Grows}
use Rattle.kp_world.proofs.Invariant.{Invariant, IsBlocked, has_left, left_less, blocked_grows, leader_some, votes_grow}
use Rattle.kp_world.proofs.Elect.{same_winner}
use Rattle.kp_world.proofs.Write.{later_leader_blocks}
use Rattle.kp_world.proofs.Histories.{Moments}

-- what is committed is not blocked: the two majorities have a member in common
pub not_blocked : (n : ℕ) (b : Book) (t : ℕ) (p : List LogEntry) → IsCommitted n b t p → IsBlocked n b t (length p) → ⊥
not_blocked n b t p c h =
    let m : InBoth n (λ k. nat_le (length p) (b.acked k t)) (has_left b t (length p)) = majorities_meet n (λ k. nat_le (length p) (b.acked k t)) (has_left b t (length p)) c.stored h.left in
    let k : ℕ = m.0 in
    let has : nat_le (length p) (b.acked k t) ≡ true = m.3 in
    let less : b.acked k t < length p = left_less b t (length p) k m.4 in
    grind (arith, nat_tests)

pub committed_grows : (n : ℕ) (b d : Book) (t : ℕ) (p : List LogEntry) → Grows b d → IsCommitted n b t p → IsCommitted n d t p
committed_grows n b d t p g c = record {
  written = record {
    within = prefix_trans p (b.leader_log t) (d.leader_log t) c.written.within (g.leader_log t);
    ends = c.written.ends;
    some = c.written.some;
  };
  stored = majority_covers n (λ k. nat_le (length p) (b.acked k t)) (λ k. nat_le (length p) (d.acked k t)) (λ k r q e.
      let more : b.acked k t ≤ d.acked k t = g.acked k t in
      grind (arith, nat_tests)) c.stored;
}

pub winners_same : (n : ℕ) (b d : Book) (t c e : ℕ) → Grows b d → 0 < c → IsMajority n (λ k. nat_eq (b.voted_for k t) c) → IsMajority n (λ k. nat_eq (d.voted_for k t) e) → c ≡ e
winners_same n b d t c e g some p q = same_winner n d t c e (votes_grow n b d t c g some p) q

-- what is committed the leaders of its term and of later ones have
pub leader_has : (n : ℕ) (b : Book) (t u : ℕ) (p : List LogEntry) → Invariant n b → IsCommitted n b t p → t ≤ u → 0 < b.leader u → IsPrefix p (b.leader_log u)
leader_has n b t u p i c l some = ⊎_elim
    (λ (less : t < u). ⊎_elim
    (λ (w : IsPrefix p (b.leader_log u)). w)
    (λ (h : IsBlocked n b t (length p)). absurd (not_blocked n b t p c h))
    (i.leader_holds t u p less some c.written))
    (λ (same : t ≡ u). subst (λ x. IsPrefix p (b.leader_log x)) same c.written.within)
    (grind arith)

-- a leader of a later term had it already before it was committed
pub leader_had : (n : ℕ) (b d : Book) (t u : ℕ) (p : List LogEntry) → Moments n b d → IsCommitted n d t p → t < u → 0 < b.leader u → IsPrefix p (b.leader_log u)
leader_had n b d t u p m c less some = ⊎_elim
    (λ (short : length p ≤ length (b.leader_log t)). ⊎_elim
    (λ (w : IsPrefix p (b.leader_log u)). w)
    (λ (h : IsBlocked n b t (length p)). never h)
    (m.earlier.leader_holds t u p less some (record {
      within = prefix_shorter p (b.leader_log t) (d.leader_log t) c.written.within (m.since.leader_log t) short;
      ends = c.written.ends;
      some = c.written.some;
    })))
    (λ (long : length (b.leader_log t) < length p). never (later_leader_blocks n b t u (length p) m.earlier less some long))
    (grind arith)
  where
    never : IsBlocked n b t (length p) → IsPrefix p (b.leader_log u)
    never h = absurd (not_blocked n d t p c (blocked_grows n b d t (length p) m.since h))

committed_leader : (n : ℕ) (b : Book) (t : ℕ) (p : List LogEntry) → Invariant n b → IsCommitted n b t p → 0 < b.leader t
committed_leader n b t p i c = leader_some n b t p i c.written.some c.written.within

-- the log of the later of two terms begins with both
pub committed_alike : (n : ℕ) (b : Book) (t u : ℕ) (p q : List LogEntry) → Invariant n b → IsCommitted n b t p → IsCommitted n b u q → BeginAlike p q
committed_alike n b t u p q i c d = ⊎_elim
    (λ (l : t ≤ u). prefix_either p q (b.leader_log u) (leader_has n b t u p i c l (committed_leader n b u q i d)) d.written.within)
    (λ (l : u ≤ t). prefix_either p q (b.leader_log t) c.written.within (leader_has n b u t q i d l (committed_leader n b t p i c)))
    (grind arith)

pub same_entry : (p q : List LogEntry) (i : ℕ) (e f : LogEntry) → BeginAlike p q → slice_get p i ≡ Some e → slice_get q i ≡ Some f → e ≡ f
same_entry p q i e f alike at there = ⊎_elim
    (λ (w : IsPrefix p q). let at_q : slice_get q i ≡ Some e = prefix_get p q i e w at in cc (at_q, there))
    (λ (w : IsPrefix q p). let at_p : slice_get p i ≡ Some f = prefix_get q p i f w there in cc (at_p, at))
    alike

-- two beginnings of one length and last term that match the leaders' logs are the same
same_beginning : (d : Book) (p q : List LogEntry) → length p ≡ length q → IsPrefix p (d.leader_log (last_term p)) → IsPrefix q (d.leader_log (last_term q)) → last_term p ≡ last_term q → p ≡ q
same_beginning d p q long v w is =
    let there : IsPrefix p (d.leader_log (last_term q)) = subst (λ u. IsPrefix p (d.leader_log u)) is v in
    prefix_whole p q (prefix_shorter p q (d.leader_log (last_term q)) there w (omega arith)) (omega arith)

pub logs_match : (n : ℕ) (b d : Book) (j k i : ℕ) (e f : LogEntry) → Moments n b d → slice_get (b.log j) i ≡ Some e → slice_get (d.log k) i ≡ Some f → e.term ≡ f.term → take (suc i) (b.log j) ≡ take (suc i) (d.log k)
logs_match n b d j k i e f m at there is =
    let p : List LogEntry = take (suc i) (b.log j) in
    let q : List LogEntry = take (suc i) (d.log k) in
    let long_p : length p ≡ suc i = take_length i (b.log j) e at in
    let long_q : length q ≡ suc i = take_length i (d.log k) f there in
    let old : IsPrefix p (b.leader_log (last_term p)) = m.earlier.log_matching j p (omega arith) (take_prefix (suc i) (b.log j)) in
    same_beginning d p q (long_p ∙ sym long_q)
    (prefix_trans p (b.leader_log (last_term p)) (d.leader_log (last_term p)) old (m.since.leader_log (last_term p)))
    (m.later.log_matching k q (omega arith) (take_prefix (suc i) (d.log k)))
    (last_term_take i (b.log j) e at ∙ (is ∙ sym (last_term_take i (d.log k) f there)))
