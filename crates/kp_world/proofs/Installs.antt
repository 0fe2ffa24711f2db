-- A new base: an image that is installed (rule 9), and a snapshot.
use Rattle.std.proofs.Common.{◌≡◌, ℕ, zero, suc, ◌+◌, ◌<◌, ◌≤◌, true, ◌&&◌, refl, sym, ap, ◌∙◌, arith, List, [], ◌∷◌, ◌++◌, length, length-append, append-nil, take, drop, subst, ⊎_elim}
use Rattle.std.specs.Prelude.{nat_eq, nat_lt, nat_le}
use Rattle.std.proofs.lemmas.Bool.Decides.{nat_tests}
use mathlib.Core.List.{IsPrefix}
use Rattle.kp_model.specs.LogEntry.{LogEntry}
use Rattle.kp_model.specs.declared.read.Role.TheVariants.{Follower}
use Rattle.kp_entry.specs.declared.record.Record.{Record}
use Rattle.kp_entry.specs.declared.record.Record.TheVariants as record_
use Rattle.kp_entry.specs.Log.{Log, last_index, term_of, has_index, behind, kept_behind}
use Rattle.kp_raft.specs.declared.mail.Mail.TheVariants as mail
use Rattle.kp_entry.specs.Held.{replay, replay_one}
use Rattle.kp_raft.specs.Parts.{Running, Outcome, nothing, to, vote_records, following, vote_at}
use Rattle.kp_world.specs.Log.{last_term}
use Rattle.kp_world.specs.Book.{Book}
use Rattle.kp_world.specs.Moves.{Follow, MayFollow, after_move}
use Rattle.kp_world.proofs.Prefixes.{prefix_self, prefix_trans, prefix_append, prefix_length, prefix_shorter, take_prefix}
use Rattle.kp_world.proofs.Cases.{set_at_cases, and_true, true_and}
use Rattle.kp_world.proofs.Invariant.{Invariant}
use Rattle.kp_world.specs.Net.{Stored, full, front_behind, behind_records}
use Rattle.kp_raft.specs.Appends.{refusal, on_install, on_compact}
use Rattle.kp_world.proofs.Takes.{take_length, take_most, take_drop, prefix_is_take}
use Rattle.kp_world.proofs.Reach.{Reaches, reach_none, reach_trans, reach_follow}
use Rattle.kp_world.proofs.Link.{Backed, StoredFits, RunningFits, Stands, Leads, InstallFits, behind_plain, behind_votes, at_term, HasNoBase, no_base_front, no_base_take, no_base_votes, torn_votes, Termed, term_stage, still, voted_result, cond_cases, backed_grows}
use Rattle.kp_world.proofs.Views.{is_behind, term_view, index_view, behind_view, backed_begins, backed_lead}
use Rattle.kp_world.proofs.Appends.{same_front, Acked, ack_stage, termed_following}
use Rattle.kp_world.proofs.Owing.{NodeRuns, Owes, Heard, lift_heard, lift, image_is, image_term}

-- a base behind other records
abbrev rebased_stored : Stored → ℕ → ℕ → List LogEntry → Stored
rebased_stored s i t list = record { held = replay_one s.held (record_.Base i t); front = list }

base_last : (list : List LogEntry) (s : Stored) (rs : List Record) (i t : ℕ) → HasNoBase rs → behind_records list s (rs ++ record_.Base i t ∷ []) ≡ rebased_stored (behind_plain s rs) i t list
base_last list s [] i t p = refl
base_last list s (record_.Vote a c ∷ rs) i t p = base_last list (behind_plain s (record_.Vote a c ∷ [])) rs i t p
base_last list s (record_.Boot a ∷ rs) i t p = base_last list s rs i t p
base_last list s (record_.Append e ∷ rs) i t p = base_last list (behind_plain s (record_.Append e ∷ [])) rs i t p
base_last list s (record_.Truncate a ∷ rs) i t p = base_last list (behind_plain s (record_.Truncate a ∷ [])) rs i t p
base_last list s (record_.Base a c ∷ rs) i t p = absurd p

front_last : (list front : List LogEntry) (rs : List Record) (i t : ℕ) → front_behind list front (rs ++ record_.Base i t ∷ []) ≡ list
front_last list front [] i t = refl
front_last list front (record_.Vote a c ∷ rs) i t = front_last list front rs i t
front_last list front (record_.Boot a ∷ rs) i t = front_last list front rs i t
front_last list front (record_.Append e ∷ rs) i t = front_last list front rs i t
front_last list front (record_.Truncate a ∷ rs) i t = front_last list front rs i t
front_last list front (record_.Base a c ∷ rs) i t = front_last list list rs i t

-- a stop before or behind the last record
torn_last : (P : List Record → Type 0) (rs : List Record) (r : Record) → ((j : ℕ) → P (take j rs)) → P (rs ++ r ∷ []) → (j : ℕ) → P (take j (rs ++ r ∷ []))
torn_last P [] r t l zero = t 0
torn_last P [] r t l (suc zero) = l
torn_last P [] r t l (suc (suc j)) = l
torn_last P (x ∷ rs) r t l zero = t 0
torn_last P (x ∷ rs) r t l (suc j) = torn_last (λ qs. P (x ∷ qs)) rs r (λ i. t (suc i)) l j

record StopFits (n k : ℕ) (b : Book) (list : List LogEntry) (s : Stored) (rs : List Record) : Type 0 where
  book : Book
  reaches : Reaches n k b book
  fits : StoredFits n book k (behind_records list s rs)

-- the log behind a new base: it stays where it has the base's last entry
record Behind (n k : ℕ) (d : Book) (s : Stored) (list ys : List LogEntry) : Type 0 where
  book : Book
  reaches : Reaches n k d book
  term : book.term k ≡ s.held.term
  vote : book.voted_for k s.held.term ≡ s.held.vote
  log : book.log k ≡ list ++ ys

behind_stage : (n k : ℕ) (d : Book) (s : Stored) (i it : ℕ) (list : List LogEntry) → Invariant n d → StoredFits n d k s → 0 < d.leader s.held.term → length list ≡ i → last_term list ≡ it → IsPrefix list (d.leader_log s.held.term) → s.held.log.base ≤ i → Behind n k d s list (kept_behind s.held.log i it)
behind_stage n k d s i it list inv f led len last w low = cond_cases (Behind n k d s list) (has_index s.held.log i && nat_eq (term_of s.held.log i) it) (behind s.held.log i) []
    (λ e.
    let inside : i ≤ length xs = omega (arith, index_view s.front s.held.log view, last_test e) in
    let same : take i xs ≡ list = same_front n k d t i xs list [] inv f.log inside len (term_view s.front s.held.log i view low ∙ (term_test e ∙ sym last)) (rw append-nil w) in
    let all : xs ≡ list ++ behind s.held.log i = sym (take_drop i xs) ∙ (ap (λ ys. ys ++ drop i xs) same ∙ ap (λ ys. list ++ ys) (behind_view s.front s.held.log i view low)) in
    record { book = d; reaches = reach_none n k d inv; term = f.term; vote = f.vote; log = f.log ∙ all })
    (λ e.
    let may : MayFollow d k list = record {
      leads = rw f.term led;
      within = rw f.term w;
      keeps = rw (f.term, f.log) (λ zs p q. ⊎_elim
          (λ (short : length zs ≤ length list). prefix_shorter zs list (d.leader_log t) q w short)
          (λ (long : length list ≤ length zs).
          let in' : IsPrefix list xs = prefix_trans list zs xs (prefix_shorter list zs (d.leader_log t) w q long) p in
          let inside : i ≤ last_index s.held.log = omega (arith, index_view s.front s.held.log view, prefix_length list xs in') in
          let terms : term_of s.held.log i ≡ it = sym (term_view s.front s.held.log i view low) ∙ (ap last_term (ap (λ j. take j xs) (sym len) ∙ sym (prefix_is_take list xs in')) ∙ last) in
          absurd (cc (e, true_test inside terms)))
          (grind arith));
    } in
    record {
      book = after_move d (Follow k list);
      reaches = reach_follow n k d list inv may;
      term = f.term;
      vote = f.vote;
      log = set_at_cases (λ ys. ys ≡ list ++ []) d.log k list k (λ _. sym (append-nil list)) (λ no. absurd (no refl));
    })
  where
    t : ℕ
    t = s.held.term

    xs : List LogEntry
    xs = full s

    view : Rattle.kp_world.proofs.Views.IsBehind s.front s.held.log
    view = is_behind n d k s f

    last_test : (has_index s.held.log i && nat_eq (term_of s.held.log i) it) ≡ true → i ≤ last_index s.held.log
    last_test e =
        let x : nat_le i (last_index s.held.log) ≡ true = (and_true (nat_le s.held.log.base i) (nat_le i (last_index s.held.log)) (and_true (has_index s.held.log i) (nat_eq (term_of s.held.log i) it) e).0).1 in
        grind (arith, nat_tests)

    term_test : (has_index s.held.log i && nat_eq (term_of s.held.log i) it) ≡ true → term_of s.held.log i ≡ it
    term_test e =
        let x : nat_eq (term_of s.held.log i) it ≡ true = (and_true (has_index s.held.log i) (nat_eq (term_of s.held.log i) it) e).1 in
        grind (arith, nat_tests)

    true_test : i ≤ last_index s.held.log → term_of s.held.log i ≡ it → (has_index s.held.log i && nat_eq (term_of s.held.log i) it) ≡ true
    true_test l e =
        let x : nat_le s.held.log.base i ≡ true = grind (arith, nat_tests) in
        let y : nat_le i (last_index s.held.log) ≡ true = grind (arith, nat_tests) in
        let z : nat_eq (term_of s.held.log i) it ≡ true = grind (arith, nat_tests) in
        true_and (has_index s.held.log i) (nat_eq (term_of s.held.log i) it) (true_and (nat_le s.held.log.base i) (nat_le i (last_index s.held.log)) x y) z

-- rule 9
pub install_ok : {I : Type 0} (n k : ℕ) (b : Book) (s : Stored) (v : Running) (list done : List LogEntry) (from t i it : ℕ) → 0 < k → Invariant n b → StoredFits n b k s → NodeRuns n b k s v done → InstallFits n b from t i it list → Heard {I = I} n k b s list done (on_install k s.held v t from i it)
install_ok n k b s v list done from t i it some inv f g m = cond_cases (Heard n k b s list done) (nat_lt t s.held.term) _ _
    (λ _. lift_heard n k b s v list done _ f g (still n k b s v v list (refusal k from s.held.term s.held.log) (omega arith) inv f g.runs (record { to = m.some; message = λ e. absurd cc }, tt)))
    (λ old.
    let l : s.held.term ≤ t = grind (arith, nat_tests) in
    let st : Termed n k b s v t = term_stage n k b s v t inv f g.runs l in
    let d : Book = st.book in
    let x : ℕ = vote_at s.held t in
    let s1 : Stored = at_term s t x in
    let f1 : RunningFits n d k s1 (following v from) = termed_following n k d s v t from st.runs in
    let led : 0 < d.leader t = omega (arith, st.reaches.grows.leader t (omega (arith, m.elected, m.some)), m.elected, m.some) in
    let rs : List Record = vote_records s.held t x in
    cond_cases (Heard n k b s list done) (nat_le i v.commit) _ _
    (λ _.
    let xs : List LogEntry = take v.commit (full s) in
    let len : length xs ≡ v.commit = take_length v.commit (full s) g.runs.commit_in in
    let a : Acked n k d s1 (length xs) = ack_stage n k d s1 xs st.reaches.inv st.keeps (backed_lead n d t xs st.reaches.inv led f1.committed) (take_prefix v.commit (full s)) in
    lift_heard n k b s v list done _ f g
    (voted_result n k b a.book s t x v (following v from) list (to from (mail.InstallRep t k v.commit)) (omega arith) inv f (reach_trans n k b d a.book st.reaches a.reaches) a.keeps
    (record { base_in = g.runs.base_in; commit_in = g.runs.commit_in; committed = backed_grows n d a.book t t xs a.reaches.grows (omega arith) f1.committed; stands = λ e. absurd cc; leads = λ e. absurd cc })
    (record { to = m.some; message = omega (arith, a.acked, len) }, tt)))
    (λ e.
    let newer : v.commit < i = grind (arith, nat_tests) in
    let low : s.held.log.base ≤ i = omega (arith, g.runs.base_in, newer) in
    let back : Backed n d t list = backed_grows n b d t t list st.reaches.grows (omega arith) m.backed in
    let rest : List LogEntry = kept_behind s.held.log i it in
    let h : Behind n k d s1 list rest = behind_stage n k d s1 i it list st.reaches.inv st.keeps led m.place m.last (backed_lead n d t list st.reaches.inv led back) low in
    let s2 : Stored = rebased_stored s1 i it list in
    let led2 : 0 < h.book.leader t = omega (arith, h.reaches.grows.leader t led, led) in
    let back1 : Backed n h.book t list = backed_grows n d h.book t t list h.reaches.grows (omega arith) back in
    let fits1 : StoredFits n h.book k s2 = record { term = h.term; vote = h.vote; log = h.log; base = sym m.place; base_term = sym m.last; backed = back1 } in
    let a : Acked n k h.book s2 (length list) = ack_stage n k h.book s2 list h.reaches.inv fits1 (backed_lead n h.book t list h.reaches.inv led2 back1) (prefix_append list rest) in
    let c : Book = a.book in
    let r1 : Reaches n k d c = reach_trans n k d h.book c h.reaches a.reaches in
    let r : Reaches n k b c = reach_trans n k b d c st.reaches r1 in
    let end : behind_records list s (rs ++ record_.Base i it ∷ []) ≡ s2 = base_last list s rs i it (no_base_votes s.held t x) ∙ ap (λ (y : Stored). rebased_stored y i it list) (behind_votes s t x) in
    let back2 : Backed n c t list = backed_grows n d c t t list r1.grows (omega arith) back in
    let size : length (full s2) ≡ length list + length rest = length-append list rest in
    let begin : take i (full s2) ≡ list = subst (λ j. take j (list ++ rest) ≡ list) m.place (sym (prefix_is_take list (list ++ rest) (prefix_append list rest))) in
    let w : Running = record { role = Follower; leader = from; commit = i; votes = v.votes; matches = v.matches; nexts = v.nexts } in
    let runs2 : NodeRuns n c k s2 w list = record {
      runs = record { base_in = omega arith; commit_in = omega (arith, m.place, size); committed = rw begin back2; stands = λ y. absurd cc; leads = λ y. absurd cc };
      done_in = rw begin (prefix_self list);
    } in
    record {
      owes = record {
        book = c;
        reaches = r;
        torn = λ j.
            let z : StopFits n k b list s (take j (rs ++ record_.Base i it ∷ [])) = torn_last (StopFits n k b list s) rs (record_.Base i it)
            (λ j.
            let t' = torn_votes n k b d s t x inv f st.reaches st.keeps j in
            record { book = t'.0; reaches = t'.1; fits = subst (λ (ys : List LogEntry). StoredFits n t'.0 k (record { held = replay s.held (take j rs); front = ys })) (sym (no_base_front list s.front (take j rs) (no_base_take j rs (no_base_votes s.held t x)))) t'.2 })
            (record { book = c; reaches = r; fits = subst (λ (y : Stored). StoredFits n c k y) (sym end) a.keeps })
            j in
            (z.book, z.reaches, z.fits);
        stored = subst (λ (y : Stored). StoredFits n c k y) (sym end) a.keeps;
        runs = subst (λ (ds : List LogEntry). NodeRuns n c k (behind_records list s (rs ++ record_.Base i it ∷ [])) w ds) (sym (front_last list done rs i it)) (subst (λ (y : Stored). NodeRuns n c k y w list) (sym end) runs2);
        sends = (record { to = m.some; message = omega (arith, a.acked, m.place) }, tt);
      };
    }))

-- the same whole log behind another base
abbrev other_base : Stored → Log → List LogEntry → Stored
other_base s log front = record { held = record { term = s.held.term; vote = s.held.vote; log = log }; front = front }

running_based : (n : ℕ) (b : Book) (k : ℕ) (s : Stored) (log : Log) (front : List LogEntry) (v : Running) → full s ≡ front ++ log.entries → log.base ≤ v.commit → RunningFits n b k s v → RunningFits n b k (other_base s log front) v
running_based n b k s log front v e l f = record {
  base_in = l;
  commit_in = omega (arith, f.commit_in, ap (λ xs. length xs) e);
  committed = subst (λ xs. Backed n b s.held.term (take v.commit xs)) e f.committed;
  stands = λ r. let x : Stands b k s v = f.stands r in record { some = x.some; yet = x.yet; asked = x.asked ∙ e; votes = x.votes };
  leads = λ r. let x : Leads b k s v = f.leads r in record {
    some = x.some;
    elected = x.elected;
    lead = x.lead ∙ e;
    own = omega (arith, x.own, ap (λ xs. length xs) e);
    matches = x.matches;
    nexts = λ p. omega (arith, x.nexts p, ap (λ xs. length xs) e);
  };
}

-- a snapshot
record Snapped {I : Type 0} (n k : ℕ) (b : Book) (s : Stored) (list done : List LogEntry) (out : Outcome I) : Type 0 where
  owes : Owes n k b s (record { out = out; list = list; done = done })

compact_stage : {I : Type 0} (n k : ℕ) (b : Book) (s : Stored) (v : Running) (done : List LogEntry) (index : ℕ) → Invariant n b → StoredFits n b k s → NodeRuns n b k s v done → s.held.log.base ≤ index → index ≤ length done → Snapped {I = I} n k b s (take index done) done (on_compact s.held v index)
compact_stage n k b s v done index inv f g low high = cond_cases (Snapped n k b s list done) (nat_lt s.held.log.base index) _ _
    (λ _. record {
      owes = record {
        book = b;
        reaches = reach_none n k b inv;
        torn = λ j. stops j;
        stored = fits2;
        runs = record { runs = running_based n b k s s2.held.log list v same (omega (arith, high, done_few)) g.runs; done_in = subst (λ xs. IsPrefix done (take v.commit xs)) same g.done_in };
        sends = tt;
      };
    })
    (λ _. record { owes = lift n k b s v list done (nothing v) f g (still n k b s v v list [] (omega arith) inv f g.runs tt) })
  where
    list : List LogEntry
    list = take index done

    it : ℕ
    it = term_of s.held.log index

    s2 : Stored
    s2 = rebased_stored s index it list

    len : length list ≡ index
    len = take_length index done high

    done_few : length done ≤ v.commit
    done_few = omega (arith, prefix_length done (take v.commit (full s)) g.done_in, take_most v.commit (full s))

    rest : kept_behind s.held.log index it ≡ behind s.held.log index
    rest = cond_cases (λ xs. xs ≡ behind s.held.log index) (has_index s.held.log index && nat_eq it it) (behind s.held.log index) [] (λ _. refl)
        (λ e.
        let most : index ≤ last_index s.held.log = omega (arith, index_view s.front s.held.log (is_behind n b k s f), high, done_few, g.runs.commit_in) in
        let x : nat_le s.held.log.base index ≡ true = grind (arith, nat_tests) in
        let y : nat_le index (last_index s.held.log) ≡ true = grind (arith, nat_tests) in
        let z : nat_eq it it ≡ true = grind (arith, nat_tests) in
        absurd (cc (e, true_and (has_index s.held.log index) (nat_eq it it) (true_and (nat_le s.held.log.base index) (nat_le index (last_index s.held.log)) x y) z)))

    same : full s ≡ full s2
    same = sym (take_drop index (full s)) ∙ (ap (λ xs. xs ++ drop index (full s)) (sym (image_is n b k s v done index g high)) ∙ (ap (λ xs. list ++ xs) (behind_view s.front s.held.log index (is_behind n b k s f) low) ∙ ap (λ xs. list ++ xs) (sym rest)))

    fits2 : StoredFits n b k s2
    fits2 = record {
      term = f.term;
      vote = f.vote;
      log = f.log ∙ same;
      base = sym len;
      base_term = sym (image_term n b k s v done index f g low high);
      backed = backed_begins n b s.held.term list (take v.commit (full s)) (prefix_trans list done (take v.commit (full s)) (take_prefix index done) g.done_in) g.runs.committed;
    }

    stops : (j : ℕ) → (c : Book) × Reaches n k b c × StoredFits n c k (behind_records list s (take j (record_.Base index it ∷ [])))
    stops zero = (b, reach_none n k b inv, f)
    stops (suc zero) = (b, reach_none n k b inv, fits2)
    stops (suc (suc j)) = (b, reach_none n k b inv, fits2)

pub compact_ok : {I : Type 0} (n k : ℕ) (b : Book) (s : Stored) (v : Running) (done : List LogEntry) (index : ℕ) → Invariant n b → StoredFits n b k s → NodeRuns n b k s v done → s.held.log.base ≤ index → index ≤ length done → Owes {I = I} n k b s (record { out = on_compact s.held v index; list = take index done; done = done })
compact_ok n k b s v done index inv f g low high = (compact_stage n k b s v done index inv f g low high).owes
