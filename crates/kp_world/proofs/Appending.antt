-- An append is answered as the book allows (rule 6).
use Rattle.std.proofs.Common.{◌≡◌, ℕ, ◌+◌, ◌<◌, ◌≤◌, min, refl, sym, ap, arith, List, [], ◌∷◌, ◌++◌, length, length-append, length-drop, append_assoc, take, drop, subst, Option, None, Some}
use Rattle.std.specs.Prelude.{nat_lt}
use Rattle.std.proofs.lemmas.Bool.Decides.{nat_tests}
use mathlib.Core.List.{IsPrefix}
use Rattle.kp_model.specs.LogEntry.{LogEntry}
use Rattle.kp_entry.specs.declared.record.Record.{Record}
use Rattle.kp_entry.specs.declared.record.Record.TheVariants as record_
use Rattle.kp_entry.specs.Log.{Log, behind}
use Rattle.kp_raft.specs.declared.append.AppendMail.{AppendMail}
use Rattle.kp_entry.specs.Held.{Held}
use Rattle.kp_raft.specs.Parts.{Running, vote_records, following, vote_at, with_cut}
use Rattle.kp_entry.specs.Heads.{appended}
use Rattle.kp_raft.proofs.Replays.{replay_changes}
use Rattle.kp_world.specs.Book.{Book}
use Rattle.kp_world.proofs.Prefixes.{prefix_trans, prefix_length, prefix_whole, take_prefix}
use Rattle.kp_world.proofs.Invariant.{Invariant}
use Rattle.kp_world.specs.Net.{Stored, full}
use Rattle.kp_raft.specs.Appends.{fits, below_base, matched, clashes, keep_of, missing, fitted, on_append}
use Rattle.kp_world.proofs.Takes.{prefix_take, take_length, take_most}
use Rattle.kp_world.proofs.Agree.{prefix_join, agreeing_right}
use Rattle.kp_world.proofs.Reach.{Reaches, reach_trans}
use Rattle.kp_world.proofs.Link.{Backed, StoredFits, RunningFits, AppendFits, Torn, torn_append, torn_votes, behind_votes, at_term, HasNoBase, no_base_join, no_base_votes, no_base_appended, Result, made, Termed, term_stage, still, voted_result, cond_cases, backed_grows, covered_grows}
use Rattle.kp_world.proofs.Appends.{changed, Logged, log_stage, Acked, ack_stage, taken_commit, termed_following, either_max}

changes_split : (rs : List Record) (cut : Option ℕ) (es : List LogEntry) → rs ++ (with_cut [] cut ++ appended es) ≡ with_cut rs cut ++ appended es
changes_split rs None es = refl
changes_split rs (Some i) es = sym (append_assoc rs (record_.Truncate i ∷ []) (appended es))

no_base_changes : (cut : Option ℕ) (es : List LogEntry) → HasNoBase (with_cut [] cut ++ appended es)
no_base_changes None es = no_base_appended es
no_base_changes (Some i) es = no_base_appended es

pub matched_most : (log : Log) (prev : ℕ) (es : List LogEntry) → matched log prev es ≤ length es
matched_most log prev es =
    let below : ℕ = below_base log prev es in
    let few : below ≤ length es = omega arith in
    omega (arith, few, agreeing_right (behind log (prev + below)) (drop below es), length-drop below es)

pub append_ok : {I : Type 0} (n k : ℕ) (b : Book) (s : Stored) (v : Running) (list : List LogEntry) (m : AppendMail) (j : ℕ) → 0 < k → Invariant n b → StoredFits n b k s → RunningFits n b k s v → AppendFits n b m → matched s.held.log m.prev m.entries ≤ j → j ≤ length m.entries
    → Result {I = I} n k b s v list (on_append k s.held v m j)
append_ok n k b s v list m j some i f g h jm jn = cond_cases (Result n k b s v list) (nat_lt m.term s.held.term) _ _
    (λ _. still n k b s v v list _ (omega arith) i f g (record { to = h.some; message = λ e. absurd cc }, tt))
    (λ old.
    let t : ℕ = m.term in
    let l : s.held.term ≤ t = grind (arith, nat_tests) in
    let y : ℕ = vote_at s.held t in
    let st : Termed n k b s v t = term_stage n k b s v t i f g l in
    let d : Book = st.book in
    let s1 : Stored = at_term s t y in
    let f1 : RunningFits n d k s1 (following v m.from) = termed_following n k d s v t m.from st.runs in
    cond_cases (Result n k b s v list) (fits s.held.log m.prev m.prev_term) _ _
    (λ fit. cond_cases (Result n k b s v list) (clashes s.held.log m.prev m.entries v.commit) _ _
    (λ _. voted_result n k b d s t y v (following v m.from) list [] (omega arith) i f st.reaches st.keeps f1 tt)
    (λ clash.
    let led : 0 < d.leader t = omega (arith, st.reaches.grows.leader t (omega (arith, h.elected, h.some)), h.elected, h.some) in
    let w : IsPrefix (h.front ++ m.entries) (d.leader_log t) = prefix_trans (h.front ++ m.entries) (b.leader_log t) (d.leader_log t) h.within (st.reaches.grows.leader_log t) in
    let cut : Option ℕ = keep_of s.held.log m.prev m.entries in
    let more : List LogEntry = missing s.held.log m.prev m.entries j in
    let got : List LogEntry = h.front ++ take j m.entries in
    let x : Logged n k d s1 got v.commit cut more = log_stage n k d s1 h.front m.entries m.prev m.prev_term j v.commit st.reaches.inv st.keeps led h.place h.last w fit jm jn clash in
    let s2 : Stored = changed s1 cut more in
    let got_len : length got ≡ m.prev + j = omega (arith, length-append h.front (take j m.entries), take_length j m.entries jn, h.place) in
    let got_lead : IsPrefix got (d.leader_log t) = prefix_trans got (h.front ++ m.entries) (d.leader_log t) (prefix_join h.front (take j m.entries) m.entries (take_prefix j m.entries)) w in
    let a : Acked n k x.book s2 (length got) = ack_stage n k x.book s2 got x.reaches.inv x.keeps (prefix_trans got (d.leader_log t) (x.book.leader_log t) got_lead (x.reaches.grows.leader_log t)) x.has in
    let c : Book = a.book in
    let r : Reaches n k d c = reach_trans n k d x.book c x.reaches a.reaches in
    let led2 : 0 < c.leader t = omega (arith, r.grows.leader t led) in
    let old_len : v.commit ≤ length (full s2) = omega (arith, prefix_length (take v.commit (full s)) (full s2) x.old, take_length v.commit (full s) g.commit_in) in
    let old_back : Backed n c t (take v.commit (full s2)) =
    let u : IsPrefix (take v.commit (full s)) (take v.commit (full s2)) = prefix_take (take v.commit (full s)) (full s2) v.commit x.old (take_most v.commit (full s)) in
    subst (λ ys. Backed n c t ys) (prefix_whole (take v.commit (full s)) (take v.commit (full s2)) u (omega (arith, take_most v.commit (full s2), take_length v.commit (full s) g.commit_in)))
    (backed_grows n d c t t (take v.commit (full s)) r.grows (omega arith) f1.committed) in
    let new_back : Backed n c t (take (min m.commit (length got)) (full s2)) = taken_commit n c t m.commit got (full s2) a.reaches.inv led2 (covered_grows n b c t m.commit (reach_trans n k b d c st.reaches r).grows h.covered) (prefix_trans got (d.leader_log t) (c.leader_log t) got_lead (r.grows.leader_log t)) x.has in
    let new : ℕ = min m.commit (m.prev + j) in
    let new_is : min m.commit (length got) ≡ new = omega (arith, got_len) in
    made n k b c s s2 v list (fitted k s.held v m j)
    (ap (λ (z : Held). record { held = z; front = s.front }) (replay_changes s.held t y cut more))
    (omega arith)
    (subst HasNoBase (changes_split (vote_records s.held t y) cut more) (no_base_join (vote_records s.held t y) (with_cut [] cut ++ appended more) (no_base_votes s.held t y) (no_base_changes cut more)))
    (reach_trans n k b d c st.reaches r)
    (subst (λ rs. Torn n k b s rs) (changes_split (vote_records s.held t y) cut more)
    (torn_append n k b d s (vote_records s.held t y) (with_cut [] cut ++ appended more) (torn_votes n k b d s t y i f st.reaches st.keeps) st.reaches
    (subst (λ z. Torn n k d z (with_cut [] cut ++ appended more)) (sym (behind_votes s t y)) x.torn)))
    a.keeps
    (record {
      base_in = omega (arith, x.keeps.base, f.base, g.base_in);
      commit_in = omega (arith, old_len, prefix_length got (full s2) x.has, got_len);
      committed = either_max (λ z. Backed n c t (take z (full s2))) v.commit new old_back (subst (λ z. Backed n c t (take z (full s2))) new_is new_back);
      stands = λ e. absurd cc;
      leads = λ e. absurd cc;
    })
    (record { to = h.some; message = λ _. omega (arith, a.acked, got_len) }, tt)))
    (λ _. voted_result n k b d s t y v (following v m.from) list _ (omega arith) i f st.reaches st.keeps f1 (record { to = h.some; message = λ e. absurd cc }, tt)))
