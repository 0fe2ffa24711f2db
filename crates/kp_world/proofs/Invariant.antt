-- The invariant of a book, and what of it every growing book keeps.
use Rattle.std.proofs.Common.{◌≡◌, ℕ, ◌<◌, ◌≤◌, Bool, true, false, ◌&&◌, ap, arith, inl, inr, ◌⊎◌, ⊎_elim, subst, List, [], length}
use Rattle.std.specs.Prelude.{nat_eq, nat_lt}
use Rattle.std.proofs.lemmas.Bool.Decides.{nat_tests}
use mathlib.Core.List.{IsPrefix}
use Rattle.kp_model.specs.LogEntry.{LogEntry}
use Rattle.kp_model.specs.Majority.{IsMajority}
use Rattle.kp_world.specs.Log.{last_term, IsUpToDate, EndsInTerm}
use Rattle.kp_world.specs.Book.{Book}
use Rattle.kp_world.proofs.Majorities.{majority_covers}
use Rattle.kp_world.proofs.Prefixes.{prefix_self, prefix_trans, prefix_shorter, prefix_length}
use Rattle.kp_world.proofs.LastTerms.{last_term_some}
use Rattle.kp_world.proofs.Cases.{and_true, true_and, and_false, less_test, test_less, test_not_less}
use Rattle.kp_world.proofs.Growth.{Grows}

-- k has gone on past the term t with fewer than m entries acknowledged in t
abbrev pub has_left : Book → ℕ → ℕ → ℕ → Bool
has_left b t m k = nat_lt t (b.term k) && nat_lt (b.acked k t) m

-- a majority has left term t with fewer than m entries: m entries can never be committed in t any more
pub record IsBlocked (n : ℕ) (b : Book) (t m : ℕ) : Type 0 where
  pub left : IsMajority n (has_left b t m)

-- xs begins with p, or p can never be committed in t
abbrev pub Holds : ℕ → Book → ℕ → List LogEntry → List LogEntry → Type 0
Holds n b t p xs = IsPrefix p xs ⊎ IsBlocked n b t (length p)

-- each beginning of xs begins the log of the leader of its last term: log matching, in one line
abbrev pub MatchesLeaders : Book → List LogEntry → Type 0
MatchesLeaders b xs = (p : List LogEntry) → 0 < length p → IsPrefix p xs → IsPrefix p (b.leader_log (last_term p))

pub record Invariant (n : ℕ) (b : Book) : Type 0 where
  -- who voted in a term has come to it
  pub voter_term : (k t : ℕ) → 0 < b.voted_for k t → t ≤ b.term k
  -- and so has the candidate
  pub candidate_term : (k t : ℕ) → 0 < b.voted_for k t → t ≤ b.term (b.voted_for k t)
  -- who acknowledged in a term has come to it
  pub acked_term : (k t : ℕ) → 0 < b.acked k t → t ≤ b.term k
  -- no more is acknowledged than the leader has
  pub acked_within : (k t : ℕ) → b.acked k t ≤ length (b.leader_log t)
  -- a leader has the votes of a majority
  pub leader_votes : (t : ℕ) → 0 < b.leader t → IsMajority n (λ k. nat_eq (b.voted_for k t) (b.leader t))
  -- without a leader nothing is written in a term
  pub leaderless : (t : ℕ) → b.leader t ≡ 0 → b.leader_log t ≡ []
  -- a log has no entry of a term above its member's
  pub log_terms : (k : ℕ) (p : List LogEntry) → IsPrefix p (b.log k) → last_term p ≤ b.term k
  -- a leader's log has none above the leader's term
  pub leader_log_terms : (t : ℕ) (p : List LogEntry) → IsPrefix p (b.leader_log t) → last_term p ≤ t
  -- a candidate's log has none of the term in which it stands
  pub candidate_log_terms : (t c : ℕ) (p : List LogEntry) → 0 < length p → IsPrefix p (b.candidate_log t c) → last_term p < t
  -- logs match those of the leaders
  pub log_matching : (k : ℕ) → MatchesLeaders b (b.log k)
  -- so do leaders' logs
  pub leader_log_matching : (t : ℕ) → MatchesLeaders b (b.leader_log t)
  -- and candidates'
  pub candidate_log_matching : (t c : ℕ) → MatchesLeaders b (b.candidate_log t c)
  -- what a member has acknowledged it still has, as long as it may be committed
  pub log_holds : (k t : ℕ) (p : List LogEntry) → EndsInTerm (b.leader_log t) t p → length p ≤ b.acked k t → Holds n b t p (b.log k)
  -- what a voter has acknowledged the candidate of a later term had, as long as it may be committed
  pub candidate_holds : (k u t : ℕ) (p : List LogEntry) → 0 < b.voted_for k u → t < u → EndsInTerm (b.leader_log t) t p → length p ≤ b.acked k t → Holds n b t p (b.candidate_log u (b.voted_for k u))
  -- what may still be committed the leaders of later terms have
  pub leader_holds : (t u : ℕ) (p : List LogEntry) → t < u → 0 < b.leader u → EndsInTerm (b.leader_log t) t p → Holds n b t p (b.leader_log u)

pub left_test : (b : Book) (t m k : ℕ) → t < b.term k → b.acked k t < m → has_left b t m k ≡ true
left_test b t m k p q = true_and (nat_lt t (b.term k)) (nat_lt (b.acked k t) m) (less_test _ _ p) (less_test _ _ q)

pub left_term : (b : Book) (t m k : ℕ) → has_left b t m k ≡ true → t < b.term k
left_term b t m k e = test_less _ _ (and_true (nat_lt t (b.term k)) (nat_lt (b.acked k t) m) e).0

pub left_less : (b : Book) (t m k : ℕ) → has_left b t m k ≡ true → b.acked k t < m
left_less b t m k e = test_less _ _ (and_true (nat_lt t (b.term k)) (nat_lt (b.acked k t) m) e).1

pub not_left : (b : Book) (t m k : ℕ) → has_left b t m k ≡ false → t < b.term k → m ≤ b.acked k t
not_left b t m k e p = test_not_less _ _ (and_false (nat_lt t (b.term k)) (nat_lt (b.acked k t) m) (less_test _ _ p) e)

-- blocked stays blocked: a member past a term acknowledges nothing more in it
pub blocked_grows : (n : ℕ) (b d : Book) (t m : ℕ) → Grows b d → IsBlocked n b t m → IsBlocked n d t m
blocked_grows n b d t m g h = record {
  left = majority_covers n (has_left b t m) (has_left d t m) (λ k p q e.
      let up : t < b.term k = left_term b t m k e in
      let less : b.acked k t < m = left_less b t m k e in
      let same : d.acked k t ≡ b.acked k t = g.acked_past k t up in
      left_test d t m k (omega (arith, g.term k)) (omega arith)) h.left;
}

pub holds_grows : (n : ℕ) (b d : Book) (t : ℕ) (p xs ys : List LogEntry) → Grows b d → IsPrefix xs ys → Holds n b t p xs → Holds n d t p ys
holds_grows n b d t p xs ys g w (inl h) = inl (prefix_trans p xs ys h w)
holds_grows n b d t p xs ys g w (inr h) = inr (blocked_grows n b d t (length p) g h)

-- the same of one log in a book that has grown
pub still_holds : (n : ℕ) (b d : Book) (t : ℕ) (p xs : List LogEntry) → Grows b d → Holds n b t p xs → Holds n d t p xs
still_holds n b d t p xs g h = holds_grows n b d t p xs xs g (prefix_self xs) h

pub matching_grows : (b d : Book) (xs : List LogEntry) → Grows b d → MatchesLeaders b xs → MatchesLeaders d xs
matching_grows b d xs g c p some w = prefix_trans p (b.leader_log (last_term p)) (d.leader_log (last_term p)) (c p some w) (g.leader_log (last_term p))

pub matching_prefix : (b : Book) (xs ys : List LogEntry) → IsPrefix xs ys → MatchesLeaders b ys → MatchesLeaders b xs
matching_prefix b xs ys w c p some v = c p some (prefix_trans p xs ys v w)

pub votes_grow : (n : ℕ) (b d : Book) (t c : ℕ) → Grows b d → 0 < c → IsMajority n (λ k. nat_eq (b.voted_for k t) c) → IsMajority n (λ k. nat_eq (d.voted_for k t) c)
votes_grow n b d t c g some q = majority_covers n (λ k. nat_eq (b.voted_for k t) c) (λ k. nat_eq (d.voted_for k t) c) (λ k p r e.
    let is : b.voted_for k t ≡ c = grind (arith, nat_tests) in
    let same : d.voted_for k t ≡ b.voted_for k t = g.voted_for k t (omega arith) in
    let both : d.voted_for k t ≡ c = omega arith in
    grind (arith, nat_tests)) q

pub leader_votes_grow : (n : ℕ) (b d : Book) (t : ℕ) → Grows b d → 0 < b.leader t → IsMajority n (λ k. nat_eq (b.voted_for k t) (b.leader t)) → IsMajority n (λ k. nat_eq (d.voted_for k t) (d.leader t))
leader_votes_grow n b d t g some q = rw (g.leader t some) (votes_grow n b d t (b.leader t) g some q)

-- where a leader's log has an entry, there is a leader
pub leader_some : (n : ℕ) (b : Book) (t : ℕ) (p : List LogEntry) → Invariant n b → 0 < length p → IsPrefix p (b.leader_log t) → 0 < b.leader t
leader_some n b t p i some w = ⊎_elim
    (λ (h : 0 < b.leader t). h)
    (λ (z : b.leader t ≡ 0). absurd (omega (arith, prefix_length p (b.leader_log t) w, ap (λ xs. length xs) (i.leaderless t z))))
    (grind arith)

-- what the log ys has the log xs has, where it is at least as up-to-date
pub newer_holds : (n : ℕ) (b : Book) (t : ℕ) (p xs ys : List LogEntry) → Invariant n b → MatchesLeaders b xs → MatchesLeaders b ys → IsUpToDate xs ys → EndsInTerm (b.leader_log t) t p → IsPrefix p ys → Holds n b t p xs
newer_holds n b t p xs ys i mx my up own w = ⊎_elim later same up.newer
  where
    some_y : 0 < length ys
    some_y = omega (arith, prefix_length p ys w, own.some)

    y_there : IsPrefix ys (b.leader_log (last_term ys))
    y_there = my ys some_y (prefix_self ys)

    t_le : t ≤ last_term ys
    t_le = omega (arith, i.leader_log_terms (last_term ys) p (prefix_trans p ys _ w y_there), own.ends)

    -- of one term: both begin that leader's log, and xs is no shorter
    same : (last_term ys ≡ last_term xs) × (length ys ≤ length xs) → Holds n b t p xs
    same e =
        let x_there : IsPrefix xs (b.leader_log (last_term xs)) = mx xs (omega (arith, some_y)) (prefix_self xs) in
        let y_with_x : IsPrefix ys (b.leader_log (last_term xs)) = subst (λ (u : ℕ). IsPrefix ys (b.leader_log u)) e.0 y_there in
        inl (prefix_trans p ys xs w (prefix_shorter ys xs _ y_with_x x_there e.1))

    -- of a later term: that term's leader holds p, and xs goes on behind it
    later : last_term ys < last_term xs → Holds n b t p xs
    later l =
        let some_x : 0 < length xs = last_term_some xs (omega arith) in
        let x_there : IsPrefix xs (b.leader_log (last_term xs)) = mx xs some_x (prefix_self xs) in
        ⊎_elim
        (λ (h : IsPrefix p (b.leader_log (last_term xs))). inl (⊎_elim
        (λ (le : length p ≤ length xs). prefix_shorter p xs _ h x_there le)
        (λ (gt : length xs ≤ length p).
        let back : IsPrefix xs p = prefix_shorter xs p _ x_there h gt in
        absurd (omega (arith, t_le, i.leader_log_terms t xs (prefix_trans xs p _ back own.within))))
        (grind arith)))
        (λ (h : IsBlocked n b t (length p)). inr h)
        (i.leader_holds t (last_term xs) p (omega (arith, t_le)) (leader_some n b (last_term xs) xs i some_x x_there) own)
