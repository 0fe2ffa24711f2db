-- The steps of candidates and leaders.
use Rattle.std.proofs.Common.{◌≡◌, ℕ, zero, suc, ◌+◌, ◌-◌, ◌<◌, ◌≤◌, max, min, Bool, true, false, cond, ◌&&◌, refl, sym, ap, ◌∙◌, arith, le_trans, List, [], ◌∷◌, length, length-append, take, map, subst}
use Rattle.std.specs.Prelude.{nat_eq, nat_lt}
use Rattle.std.proofs.lemmas.Bool.Decides.{nat_tests}
use mathlib.Core.List.{IsPrefix}
use Rattle.kp_model.specs.LogEntry.{LogEntry}
use Rattle.kp_model.specs.declared.entry.Body.{Body}
use Rattle.kp_model.specs.declared.read.Role.{Role}
use Rattle.kp_model.specs.declared.read.Role.TheVariants.{Follower, Candidate, Leader}
use Rattle.kp_entry.specs.declared.record.Record.{Record}
use Rattle.kp_entry.specs.Log.{last_index}
use Rattle.kp_raft.specs.declared.mail.Mail.{Mail}
use Rattle.kp_raft.specs.Numbers.{MAX, each, for_peers}
use Rattle.kp_model.specs.Majority.{is_majority}
use Rattle.kp_entry.specs.Held.{Held}
use Rattle.kp_raft.specs.Parts.{Running, is_leader, is_candidate, vote_records, following}
use Rattle.kp_entry.specs.Heads.{appended}
use Rattle.kp_entry.proofs.Replays.{replay_append}
use Rattle.kp_world.specs.Log.{last_term}
use Rattle.kp_world.specs.Book.{Book, set_at}
use Rattle.kp_world.specs.Moves.{Stand, MayStand, after_move}
use Rattle.kp_world.proofs.Majorities.{InBoth, majorities_meet}
use Rattle.kp_world.proofs.Prefixes.{prefix_append}
use Rattle.kp_world.proofs.Cases.{set_at_cases, set_at_both_cases, and_true}
use Rattle.kp_world.proofs.Invariant.{Invariant}
use Rattle.kp_world.specs.Net.{Stored, full}
use Rattle.kp_raft.specs.Rules.{committed, noop, leading, leads, own_vote, may_stand, candidate, vote_request, on_timeout, with_vote, counts, on_vote_rep, with_match, with_next, on_append_rep, entry_with, proposed, still_leading, on_propose}
use Rattle.kp_world.proofs.Reach.{Reaches, reach_none, reach_trans, reach_stand}
use Rattle.kp_world.proofs.Link.{StoredFits, RunningFits, Stands, Leads, OutFits, outs_join, Torn, torn_nil, torn_append, torn_votes, behind_plain, behind_votes, at_term, HasNoBase, no_base_join, no_base_votes, no_base_appended, Result, made, still, term_ok, follower_fits, cond_cases, backed_grows}
use Rattle.kp_world.proofs.Views.{is_behind, index_view, newest_view}
use Rattle.kp_world.proofs.Leading.{majority_is, commit_more, extended, behind_appended, extended_full, AreOf, Written, write_one, write_all, Won, win_stage, leader_fits, backed_longer}

pub leader_is : (r : Role) → is_leader r ≡ true → r ≡ Leader
leader_is Leader e = refl
leader_is Candidate e = absurd cc
leader_is Follower e = absurd cc

candidate_is : (r : Role) → is_candidate r ≡ true → r ≡ Candidate
candidate_is Candidate e = refl
candidate_is Leader e = absurd cc
candidate_is Follower e = absurd cc

each_most : (x k : ℕ) → each x k ≤ x
each_most x k = cond_cases (λ y. y ≤ x) (nat_lt k 8) x 0 (λ _. omega arith) (λ _. omega arith)

-- rule 4, at the book where the votes are counted, behind records that come to s
pub lead_result : {I : Type 0} (n k : ℕ) (b d : Book) (s0 s : Stored) (v0 v : Running) (list : List LogEntry) (rs : List Record) → HasNoBase rs → behind_plain s0 rs ≡ s → v0.commit ≡ v.commit → Torn n k b s0 rs → Reaches n k b d → StoredFits n d k s → RunningFits n d k s v → Stands d k s v → is_majority n v.votes ≡ true
    → Result {I = I} n k b s0 v0 list (leads n k s.held.term s.held.log v rs)
lead_result n k b d s0 s v0 v list rs plain is same torn r f g st q =
    let e : LogEntry = noop s.held.term in
    let w : Won n k d s = win_stage n k d s v r.inv f st (majority_is n v.votes q) in
    let x : Written n k w.book s (e ∷ []) = write_one n k w.book s e st.some w.reaches.inv w.keeps w.elected w.lead refl in
    let s2 : Stored = extended s (e ∷ []) in
    let r2 : Reaches n k d x.book = reach_trans n k d w.book x.book w.reaches x.reaches in
    let tail : Torn n k d s (appended (e ∷ [])) = λ j. let t = x.torn j in (t.0, reach_trans n k d w.book t.0 w.reaches t.1, t.2) in
    let size : length (full s2) ≡ length (full s) + 1 = ap (λ xs. length xs) (extended_full s (e ∷ [])) ∙ length-append (full s) (e ∷ []) in
    made n k b x.book s0 s2 v0 list (leads n k s.held.term s.held.log v rs)
    (ap (λ (h : Held). record { held = h; front = s0.front }) (replay_append s0.held rs (appended (e ∷ []))) ∙ (ap (λ (y : Stored). behind_plain y (appended (e ∷ []))) is ∙ behind_appended s (e ∷ [])))
    (omega (arith, same, commit_more n k s.held.term s2.held.log (λ p. 0) v.commit))
    (no_base_join rs (appended (e ∷ [])) plain tt)
    (reach_trans n k b d x.book r r2)
    (torn_append n k b d s0 rs (appended (e ∷ [])) torn r (subst (λ y. Torn n k d y (appended (e ∷ []))) (sym is) tail))
    x.keeps
    (leader_fits n k x.book s2 (leading k (last_index s.held.log) v) st.some x.keeps x.elected x.lead x.own
    (λ p. omega arith)
    (λ p. omega (arith, each_most (last_index s.held.log + 1) p, index_view s.front s.held.log (is_behind n d k s f), size))
    (λ y. absurd (cc y))
    g.base_in
    (omega (arith, g.commit_in, size))
    (backed_longer n d x.book s.held.term v.commit (full s) (full s2) r2.grows g.commit_in (subst (λ xs. IsPrefix (full s) xs) (sym (extended_full s (e ∷ []))) (prefix_append (full s) (e ∷ []))) g.committed))
    tt

pub peers_fit : {I : Type 0} (n : ℕ) (b : Book) (list : List LogEntry) (m me : ℕ) (f : ℕ → List (ℕ × Mail I)) → ((p : ℕ) → 0 < p → nat_eq p me ≡ false → OutFits n b list (f p)) → OutFits n b list (for_peers m me f)
peers_fit n b list zero me f h = tt
peers_fit n b list (suc m) me f h = outs_join n b list (for_peers m me f) (cond (nat_eq (suc m) me) [] (f (suc m))) (peers_fit n b list m me f h)
    (cond_cases (OutFits n b list) (nat_eq (suc m) me) [] (f (suc m)) (λ _. tt) (λ e. h (suc m) (omega arith) e))

-- rule 2
pub timeout_ok : {I : Type 0} (n k : ℕ) (b : Book) (s : Stored) (v : Running) (list : List LogEntry) → 0 < k → Invariant n b → StoredFits n b k s → RunningFits n b k s v → Result {I = I} n k b s v list (on_timeout n k s.held v)
timeout_ok n k b s v list some i f g = cond_cases (Result n k b s v list) (may_stand s.held v) _ _
    (λ _.
    let t : ℕ = s.held.term + 1 in
    let may : MayStand b k t = record { above = omega (arith, f.term); member = some } in
    let d : Book = after_move b (Stand k t) in
    let r : Reaches n k b d = reach_stand n k b t i may in
    let s1 : Stored = at_term s t k in
    let term : d.term k ≡ t = set_at_cases (λ x. x ≡ t) b.term k t k (λ _. refl) (λ no. absurd (no refl)) in
    let keeps : StoredFits n d k s1 = record {
      term = term;
      vote = set_at_both_cases (λ x. x ≡ k) b.voted_for k t k k t (λ _ _. refl) (λ no. absurd (no refl refl));
      log = f.log;
      base = f.base;
      base_term = f.base_term;
      backed = backed_grows n b d s.held.term t s.front r.grows (omega arith) f.backed;
    } in
    let asked : d.candidate_log t k ≡ full s = set_at_both_cases (λ xs. xs ≡ full s) b.candidate_log t k (b.log k) t k (λ _ _. f.log) (λ no. absurd (no refl refl)) in
    let yet : d.leader t ≡ k → ⊥ = λ e.
    let m : InBoth n (λ p. nat_eq (b.voted_for p t) (b.leader t)) (λ p. nat_eq (b.voted_for p t) (b.leader t)) = majorities_meet n (λ p. nat_eq (b.voted_for p t) (b.leader t)) (λ p. nat_eq (b.voted_for p t) (b.leader t)) (i.leader_votes t (omega arith)) (i.leader_votes t (omega arith)) in
    let x : nat_eq (b.voted_for m.0 t) (b.leader t) ≡ true = m.3 in
    let is : b.voted_for m.0 t ≡ b.leader t = grind (arith, nat_tests) in
    let mine : b.voted_for m.0 t ≡ k = is ∙ e in
    let late : t ≤ b.term (b.voted_for m.0 t) = i.candidate_term m.0 t (omega arith) in
    let late' : t ≤ b.term k = subst (λ y. t ≤ b.term y) mine late in
    omega (arith, may.above) in
    let own : (p : ℕ) → own_vote k p ≡ true → d.voted_for p t ≡ k = λ p. set_at_cases (λ x. x ≡ true → d.voted_for p t ≡ k) (λ p. false) k true p
    (λ is _. set_at_both_cases (λ x. x ≡ k) b.voted_for k t k p t (λ _ _. refl) (λ no. absurd (no is refl)))
    (λ is e. absurd cc) in
    let w : Running = candidate k v in
    let st : Stands d k s1 w = record { some = some; yet = yet; asked = asked; votes = own } in
    let runs : RunningFits n d k s1 w = record {
      base_in = g.base_in;
      commit_in = g.commit_in;
      committed = backed_grows n b d s.held.term t (take v.commit (full s)) r.grows (omega arith) g.committed;
      stands = λ _. st;
      leads = λ e. absurd cc;
    } in
    let torn : Torn n k b s (vote_records s.held t k) = torn_votes n k b d s t k i f r keeps in
    cond_cases (Result n k b s v list) (is_majority n (own_vote k)) _ _
    (λ q. lead_result n k b d s s1 v w list (vote_records s.held t k) (no_base_votes s.held t k) (behind_votes s t k) refl torn r keeps runs st q)
    (λ _. made n k b d s s1 v list (record { records = vote_records s.held t k; running = w; mail = for_peers n k (vote_request k s.held) }) (behind_votes s t k) (omega arith) (no_base_votes s.held t k) r torn keeps runs
    (peers_fit n d list n k (vote_request k s.held) (λ p pos _. (
      record {
        to = pos;
        message = record {
          some = some;
          stood = omega (arith, term);
          last_term_is = ap last_term asked ∙ newest_view s.front s.held.log (is_behind n b k s f);
          last_is = ap (λ xs. length xs) asked ∙ sym (index_view s.front s.held.log (is_behind n b k s f));
        };
      },
      tt,
    )))))
    (λ _. still n k b s v v list [] (omega arith) i f g tt)

-- an answer to a request
pub vote_ok : {I : Type 0} (n k : ℕ) (b : Book) (s : Stored) (v : Running) (list : List LogEntry) (from t : ℕ) (granted : Bool) → 0 < k → Invariant n b → StoredFits n b k s → RunningFits n b k s v → (granted ≡ true → b.voted_for from t ≡ k) → Result {I = I} n k b s v list (on_vote_rep n k s.held v t from granted)
vote_ok n k b s v list from t granted some i f g m = cond_cases (Result n k b s v list) (counts t s.held v granted) _ _
    (λ e.
    let both = and_true (nat_eq t s.held.term) (is_candidate v.role && granted) e in
    let both' = and_true (is_candidate v.role) granted both.1 in
    let at : nat_eq t s.held.term ≡ true = both.0 in
    let same : t ≡ s.held.term = grind (arith, nat_tests) in
    let x : Stands b k s v = g.stands (candidate_is v.role both'.0) in
    let w : Running = with_vote v from in
    let voted : b.voted_for from s.held.term ≡ k = subst (λ u. b.voted_for from u ≡ k) same (m both'.1) in
    let st : Stands b k s w = record {
      some = some;
      yet = x.yet;
      asked = x.asked;
      votes = λ p. set_at_cases (λ y. y ≡ true → b.voted_for p s.held.term ≡ k) v.votes from true p
          (λ is _. rw is voted)
          (λ _. x.votes p);
    } in
    let runs : RunningFits n b k s w = record { base_in = g.base_in; commit_in = g.commit_in; committed = g.committed; stands = λ _. st; leads = λ y. absurd (cc (y, candidate_is v.role both'.0)) } in
    cond_cases (Result n k b s v list) (is_majority n w.votes) _ _
    (λ q. lead_result n k b b s s v w list [] tt refl refl (torn_nil n k b s i f) (reach_none n k b i) f runs st q)
    (λ _. still n k b s v w list [] (omega arith) i f runs tt))
    (λ _. term_ok n k b s v list t i f g)

-- an answer to an append or an image
pub append_rep_ok : {I : Type 0} (n k : ℕ) (b : Book) (s : Stored) (v : Running) (list : List LogEntry) (from t : ℕ) (ok : Bool) (last : ℕ) → Invariant n b → StoredFits n b k s → RunningFits n b k s v → (ok ≡ true → last ≤ b.acked from t) → Result {I = I} n k b s v list (on_append_rep n k s.held v t from ok last)
append_rep_ok n k b s v list from t ok last i f g m = cond_cases (Result n k b s v list) (nat_eq t s.held.term && is_leader v.role) _ _
    (λ e.
    let both = and_true (nat_eq t s.held.term) (is_leader v.role) e in
    let at : nat_eq t s.held.term ≡ true = both.0 in
    let same : t ≡ s.held.term = grind (arith, nat_tests) in
    let led : v.role ≡ Leader = leader_is v.role both.1 in
    let x : Leads b k s v = g.leads led in
    let within : (p : ℕ) → b.acked p s.held.term ≤ length (full s) = λ p. omega (arith, i.acked_within p s.held.term, ap (λ xs. length xs) x.lead) in
    cond_cases (Result n k b s v list) ok _ _
    (λ y.
    let acked : last ≤ b.acked from s.held.term = subst (λ u. last ≤ b.acked from u) same (m y) in
    let top : ℕ = max (v.matches from) last in
    let u : Running = record { role = v.role; leader = v.leader; commit = v.commit; votes = v.votes; matches = set_at v.matches from top; nexts = set_at v.nexts from (top + 1) } in
    still n k b s v (with_match n k s.held v from last) list [] (commit_more n k s.held.term s.held.log u.matches v.commit) i f
    (leader_fits n k b s u x.some f x.elected x.lead x.own
    (λ p. set_at_cases (λ z. z ≤ b.acked p s.held.term) v.matches from top p
    (λ is. rw is (omega (arith, x.matches from)))
    (λ _. x.matches p))
    (λ p. set_at_cases (λ z. z ≤ length (full s) + 1) v.nexts from (top + 1) p
    (λ is. omega (arith, x.matches from, within from))
    (λ _. x.nexts p))
    (λ z. absurd (cc (z, led)))
    g.base_in g.commit_in g.committed)
    tt)
    (λ _. still n k b s v (with_next v from last) list [] (omega arith) i f
    (record {
      base_in = g.base_in;
      commit_in = g.commit_in;
      committed = g.committed;
      stands = λ z. absurd (cc (z, led));
      leads = λ _. record {
        some = x.some;
        elected = x.elected;
        lead = x.lead;
        own = x.own;
        matches = x.matches;
        nexts = λ p. set_at_cases (λ z. z ≤ length (full s) + 1) v.nexts from (max (v.matches from + 1) (min (v.nexts from - 1) (last + 1))) p
            (λ is. omega (arith, x.matches from, within from, x.nexts from))
            (λ _. x.nexts p);
      };
    }) tt))
    (λ _. term_ok n k b s v list t i f g)

own_map : (t time : ℕ) (bodies : List Body) → AreOf t (map (entry_with t time) bodies)
own_map t time [] = tt
own_map t time (x ∷ bodies) = (refl, own_map t time bodies)

own_take : (t m : ℕ) (es : List LogEntry) → AreOf t es → AreOf t (take m es)
own_take t zero es h = tt
own_take t (suc m) [] h = tt
own_take t (suc m) (e ∷ es) h = (h.0, own_take t m es h.1)

-- bodies, as many as the log has room for (rules 10 and 11)
pub propose_ok : {I : Type 0} (n k : ℕ) (b : Book) (s : Stored) (v : Running) (list : List LogEntry) (time : ℕ) (bodies : List Body) → Invariant n b → StoredFits n b k s → RunningFits n b k s v → Result {I = I} n k b s v list (on_propose n k s.held v time bodies)
propose_ok n k b s v list time bodies i f g = cond_cases (Result n k b s v list) (is_leader v.role) _ _
    (λ e.
    let led : v.role ≡ Leader = leader_is v.role e in
    let x : Leads b k s v = g.leads led in
    let es : List LogEntry = proposed s.held time bodies in
    let s2 : Stored = extended s es in
    let w : Written n k b s es = write_all n k b s es x.some i f x.elected x.lead x.own (own_take s.held.term (MAX - last_index s.held.log) (map (entry_with s.held.term time) bodies) (own_map s.held.term time bodies)) in
    let size : length (full s2) ≡ length (full s) + length es = ap (λ xs. length xs) (extended_full s es) ∙ length-append (full s) es in
    let u : Running = still_leading (last_index s.held.log + length es) v in
    let runs : RunningFits n w.book k s2 (committed n k s.held.term s2.held.log v) = leader_fits n k w.book s2 v x.some w.keeps w.elected w.lead w.own
    (λ p. le_trans (x.matches p) (w.reaches.grows.acked p s.held.term))
    (λ p. omega (arith, x.nexts p, size))
    (λ z. absurd (cc (z, led)))
    g.base_in
    (omega (arith, g.commit_in, size))
    (backed_longer n b w.book s.held.term v.commit (full s) (full s2) w.reaches.grows g.commit_in (subst (λ xs. IsPrefix (full s) xs) (sym (extended_full s es)) (prefix_append (full s) es)) g.committed) in
    let full_too : RunningFits n w.book k s2 (committed n k s.held.term s2.held.log (following v 0)) = follower_fits n w.book k s2 (committed n k s.held.term s2.held.log v) 0 runs in
    made n k b w.book s s2 v list (record { records = appended es; running = committed n k s.held.term s2.held.log u; mail = [] }) (behind_appended s es)
    (cond_cases (λ (y : Running). v.commit ≤ (committed n k s.held.term s2.held.log y).commit) (nat_lt (last_index s.held.log + length es) MAX) v (following v 0)
    (λ _. commit_more n k s.held.term s2.held.log v.matches v.commit)
    (λ _. commit_more n k s.held.term s2.held.log v.matches v.commit))
    (no_base_appended es) w.reaches w.torn w.keeps
    (cond_cases (λ (y : Running). RunningFits n w.book k s2 (committed n k s.held.term s2.held.log y)) (nat_lt (last_index s.held.log + length es) MAX) v (following v 0) (λ _. runs) (λ _. full_too))
    tt)
    (λ _. still n k b s v v list [] (omega arith) i f g tt)
