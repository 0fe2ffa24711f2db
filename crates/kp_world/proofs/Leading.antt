-- What a leader commits and writes.
use Rattle.std.proofs.Common.{◌≡◌, ℕ, zero, suc, ◌+◌, ◌*◌, ◌<◌, ◌≤◌, Bool, true, false, cond, not, ◌&&◌, refl, sym, ap, ◌∙◌, arith, List, [], ◌∷◌, ◌++◌, length, length-append, append_assoc, append-nil, take, subst, inl, inr, ◌⊎◌, ⊎_elim}
use Rattle.std.specs.Prelude.{nat_eq, nat_lt, nat_le}
use Rattle.std.proofs.lemmas.Bool.Decides.{nat_tests}
use mathlib.Core.List.{IsPrefix}
use Rattle.kp_model.specs.LogEntry.{LogEntry}
use Rattle.kp_model.specs.declared.read.Role.TheVariants.{Candidate}
use Rattle.kp_entry.specs.declared.record.Record.TheVariants as record_
use Rattle.kp_entry.specs.Log.{Log, last_index, term_of, with_entries}
use Rattle.kp_raft.specs.Numbers.{greatest}
use Rattle.kp_model.specs.Majority.{count, is_majority, IsMajority}
use Rattle.kp_entry.specs.Held.{Held}
use Rattle.kp_raft.specs.Parts.{Running}
use Rattle.kp_entry.specs.Heads.{appended}
use Rattle.kp_raft.proofs.Replays.{replay_appended}
use Rattle.kp_world.specs.Book.{Book}
use Rattle.kp_world.specs.Moves.{Elect, Write, Acknowledge, MayElect, MayWrite, MayAcknowledge, after_move}
use Rattle.kp_world.proofs.Majorities.{majority_covers}
use Rattle.kp_world.proofs.Prefixes.{prefix_self, prefix_trans, prefix_length, prefix_whole, take_prefix}
use Rattle.kp_world.proofs.Cases.{set_at_cases, set_at_both_cases, and_true}
use Rattle.kp_world.proofs.Growth.{Grows}
use Rattle.kp_world.proofs.Invariant.{Invariant}
use Rattle.kp_world.specs.Net.{Stored, full}
use Rattle.kp_raft.specs.Rules.{has_up_to, may_commit, commit_of, committed}
use Rattle.kp_world.proofs.Takes.{take_length, prefix_take}
use Rattle.kp_world.proofs.Reach.{Reaches, reach_none, reach_trans, reach_elect, reach_write, reach_ack}
use Rattle.kp_world.proofs.Link.{Backed, StoredFits, RunningFits, Stands, Torn, torn_nil, torn_cons, behind_plain, backed_grows, or_true}
use Rattle.kp_world.proofs.Views.{IsBehind, is_behind, term_view, index_view}

pub majority_is : (n : ℕ) (f : ℕ → Bool) → is_majority n f ≡ true → IsMajority n f
majority_is n f e =
    let most : n < 2 * count n f = grind (arith, nat_tests) in
    record { most = most }

-- the greatest index that passes is the old one, or passes
pub greatest_is : (i : ℕ) (f : ℕ → Bool) (old : ℕ) → (greatest i f old ≡ old) ⊎ ((old < greatest i f old) × (greatest i f old ≤ i) × (f (greatest i f old) ≡ true))
greatest_is zero f old = inl refl
greatest_is (suc i) f old = here (greatest_is i f old) (nat_lt old (suc i)) (f (suc i)) refl refl
  where
    here : (greatest i f old ≡ old) ⊎ ((old < greatest i f old) × (greatest i f old ≤ i) × (f (greatest i f old) ≡ true)) → (x y : Bool) → nat_lt old (suc i) ≡ x → f (suc i) ≡ y
        → (let g : ℕ = cond (x && y) (suc i) (greatest i f old) in (g ≡ old) ⊎ ((old < g) × (g ≤ suc i) × (f g ≡ true)))
    here ih true true p q = inr (grind (arith, nat_tests), omega arith, q)
    here (inl e) true false p q = inl e
    here (inr h) true false p q = inr (h.0, omega arith, h.2)
    here (inl e) false y p q = inl e
    here (inr h) false y p q = inr (h.0, omega arith, h.2)

pub has_acked : (b : Book) (me t i : ℕ) (matches : ℕ → ℕ) → i ≤ b.acked me t → ((p : ℕ) → matches p ≤ b.acked p t) → (p : ℕ) → has_up_to me matches i p ≡ true → nat_le i (b.acked p t) ≡ true
has_acked b me t i matches own m p e = ⊎_elim
    (λ (h : nat_eq p me ≡ true).
    let is : p ≡ me = grind (arith, nat_tests) in
    let l : i ≤ b.acked p t = subst (λ x. i ≤ b.acked x t) (sym is) own in
    grind (arith, nat_tests))
    (λ (h : nat_le i (matches p) ≡ true).
    let l : i ≤ matches p = grind (arith, nat_tests) in
    let r : matches p ≤ b.acked p t = m p in
    grind (arith, nat_tests))
    (or_true (nat_eq p me) (nat_le i (matches p)) e)

-- rule 8: what a leader takes for committed is
pub record Committing (n : ℕ) (b : Book) (t : ℕ) (xs : List LogEntry) (c : ℕ) : Type 0 where
  pub within : c ≤ length xs
  pub backed : Backed n b t (take c xs)

pub commit_ok : (n me : ℕ) (b : Book) (t : ℕ) (front : List LogEntry) (log : Log) (matches : ℕ → ℕ) (old : ℕ) → IsBehind front log → b.leader_log t ≡ front ++ log.entries → length (front ++ log.entries) ≤ b.acked me t → ((p : ℕ) → matches p ≤ b.acked p t)
    → log.base ≤ old → old ≤ length (front ++ log.entries) → Backed n b t (take old (front ++ log.entries)) → Committing n b t (front ++ log.entries) (commit_of n me t log matches old)
commit_ok n me b t front log matches old view lead own m low l back = ⊎_elim
    (λ (e : c ≡ old). record { within = rw e l; backed = rw e back })
    (λ (h : (old < c) × (c ≤ last_index log) × (may_commit n me t log matches c ≡ true)).
    let both = and_true (nat_eq (term_of log c) t) (is_majority n (has_up_to me matches c)) h.2 in
    let in' : c ≤ length xs = omega (arith, h.1, index_view front log view) in
    let len : length (take c xs) ≡ c = take_length c xs in' in
    let e : nat_eq (term_of log c) t ≡ true = both.0 in
    let at : term_of log c ≡ t = grind (arith, nat_tests) in
    record {
      within = in';
      backed = inr (record {
        by = t;
        all = take c xs;
        before = omega arith;
        is = record {
          written = record { within = rw lead (take_prefix c xs); ends = term_view front log c view (omega (arith, h.0, low)) ∙ at; some = omega (arith, len, h.0) };
          stored = rw len (majority_covers n (has_up_to me matches c) (λ p. nat_le c (b.acked p t)) (λ p _ _ q. has_acked b me t c matches (omega (arith, in', own)) m p q) (majority_is n (has_up_to me matches c) both.1));
        };
        begins = prefix_self (take c xs);
      });
    })
    (greatest_is (last_index log) (may_commit n me t log matches) old)
  where
    xs : List LogEntry
    xs = front ++ log.entries

    c : ℕ
    c = commit_of n me t log matches old

pub commit_more : (n me t : ℕ) (log : Log) (matches : ℕ → ℕ) (old : ℕ) → old ≤ commit_of n me t log matches old
commit_more n me t log matches old = ⊎_elim
    (λ (e : commit_of n me t log matches old ≡ old). omega arith)
    (λ (h : (old < commit_of n me t log matches old) × (commit_of n me t log matches old ≤ last_index log) × (may_commit n me t log matches (commit_of n me t log matches old) ≡ true)). omega (arith, h.0))
    (greatest_is (last_index log) (may_commit n me t log matches) old)

-- with more entries behind
abbrev pub extended : Stored → List LogEntry → Stored
extended s es = record { held = record { term = s.held.term; vote = s.held.vote; log = with_entries s.held.log es }; front = s.front }

pub behind_appended : (s : Stored) (es : List LogEntry) → behind_plain s (appended es) ≡ extended s es
behind_appended s es = ap (λ (h : Held). record { held = h; front = s.front }) (replay_appended s.held es)

pub extended_full : (s : Stored) (es : List LogEntry) → full (extended s es) ≡ full s ++ es
extended_full s es = sym (append_assoc s.front s.held.log.entries es)

pub extended_none : (s : Stored) → extended s [] ≡ s
extended_none s = ap (λ (xs : List LogEntry). record { held = record { term = s.held.term; vote = s.held.vote; log = record { base = s.held.log.base; base_term = s.held.log.base_term; entries = xs } }; front = s.front }) (append-nil s.held.log.entries)

pub extended_both : (s : Stored) (xs ys : List LogEntry) → extended (extended s xs) ys ≡ extended s (xs ++ ys)
extended_both s xs ys = ap (λ (zs : List LogEntry). record { held = record { term = s.held.term; vote = s.held.vote; log = record { base = s.held.log.base; base_term = s.held.log.base_term; entries = zs } }; front = s.front }) (append_assoc s.held.log.entries xs ys)

-- each entry is of this term
abbrev pub AreOf : ℕ → List LogEntry → Type 0
AreOf t [] = Unit {0}
AreOf t (e ∷ es) = (e.term ≡ t) × AreOf t es

-- a leader that writes entries, and has them
pub record Written (n k : ℕ) (b : Book) (s : Stored) (es : List LogEntry) : Type 0 where
  pub book : Book
  pub reaches : Reaches n k b book
  pub torn : Torn n k b s (appended es)
  pub keeps : StoredFits n book k (extended s es)
  pub elected : book.leader s.held.term ≡ k
  pub lead : book.leader_log s.held.term ≡ full (extended s es)
  pub own : length (full (extended s es)) ≤ book.acked k s.held.term

pub write_one : (n k : ℕ) (b : Book) (s : Stored) (e : LogEntry) → 0 < k → Invariant n b → StoredFits n b k s → b.leader s.held.term ≡ k → b.leader_log s.held.term ≡ full s → e.term ≡ s.held.term → Written n k b s (e ∷ [])
write_one n k b s e some i f el le own =
    let t : ℕ = s.held.term in
    let s2 : Stored = extended s (e ∷ []) in
    let ys : List LogEntry = b.leader_log t ++ e ∷ [] in
    let is : ys ≡ full s2 = ap (λ xs. xs ++ e ∷ []) le ∙ sym (extended_full s (e ∷ [])) in
    let may : MayWrite b t e = record { leads = omega arith; now = rw el f.term; holds = rw el (f.log ∙ sym le); own = own } in
    let c : Book = after_move b (Write t e) in
    let r : Reaches n k b c = reach_write n k b t e i may el in
    let lead : c.leader_log t ≡ full s2 = set_at_cases (λ xs. xs ≡ full s2) b.leader_log t ys t (λ _. is) (λ no. absurd (no refl)) in
    let log : c.log k ≡ full s2 = set_at_cases (λ xs. xs ≡ full s2) b.log (b.leader t) ys k (λ _. is) (λ no. absurd (no (sym el))) in
    let at : c.term k ≡ t = f.term in
    let m : ℕ = length (full s2) in
    let ack : MayAcknowledge c k m = record {
      more = rw at (omega (arith, i.acked_within k t, ap (λ xs. length xs) is, length-append (b.leader_log t) (e ∷ [])));
      within = rw (at, lead) (omega arith);
      has = rw (at, lead) (λ zs w _. rw log w);
    } in
    let d : Book = after_move c (Acknowledge k m) in
    let a : Reaches n k c d = reach_ack n k c m r.inv ack in
    let all : Reaches n k b d = reach_trans n k b c d r a in
    let keeps : StoredFits n d k s2 = record { term = f.term; vote = f.vote; log = log; base = f.base; base_term = f.base_term; backed = backed_grows n b d t t s.front all.grows (omega arith) f.backed } in
    record {
      book = d;
      reaches = all;
      torn = torn_cons n k b d s (record_.Append e) [] i f all (torn_nil n k d s2 all.inv keeps);
      keeps = keeps;
      elected = el;
      lead = lead;
      own = set_at_both_cases (λ x. m ≤ x) c.acked k (c.term k) m k t (λ _ _. omega arith) (λ no. absurd (no refl (sym at)));
    }

pub write_all : (n k : ℕ) (b : Book) (s : Stored) (es : List LogEntry) → 0 < k → Invariant n b → StoredFits n b k s → b.leader s.held.term ≡ k → b.leader_log s.held.term ≡ full s → length (full s) ≤ b.acked k s.held.term → AreOf s.held.term es → Written n k b s es
write_all n k b s [] some i f el le own h = record {
  book = b;
  reaches = reach_none n k b i;
  torn = torn_nil n k b s i f;
  keeps = subst (λ x. StoredFits n b k x) (sym (extended_none s)) f;
  elected = el;
  lead = le ∙ ap full (sym (extended_none s));
  own = subst (λ x. length (full x) ≤ b.acked k s.held.term) (sym (extended_none s)) own;
}
write_all n k b s (e ∷ es) some i f el le own h =
    let x : Written n k b s (e ∷ []) = write_one n k b s e some i f el le h.0 in
    let s1 : Stored = extended s (e ∷ []) in
    let y : Written n k x.book s1 es = write_all n k x.book s1 es some x.reaches.inv x.keeps x.elected x.lead x.own h.1 in
    let both : extended s1 es ≡ extended s (e ∷ es) = extended_both s (e ∷ []) es in
    record {
      book = y.book;
      reaches = reach_trans n k b x.book y.book x.reaches y.reaches;
      torn = torn_cons n k b x.book s (record_.Append e) (appended es) i f x.reaches y.torn;
      keeps = subst (λ z. StoredFits n y.book k z) both y.keeps;
      elected = y.elected;
      lead = y.lead ∙ ap full both;
      own = subst (λ z. length (full z) ≤ y.book.acked k s.held.term) both y.own;
    }

-- rule 4: who has a majority's votes leads
pub record Won (n k : ℕ) (b : Book) (s : Stored) : Type 0 where
  pub book : Book
  pub reaches : Reaches n k b book
  pub keeps : StoredFits n book k s
  pub elected : book.leader s.held.term ≡ k
  pub lead : book.leader_log s.held.term ≡ full s

pub win_stage : (n k : ℕ) (b : Book) (s : Stored) (v : Running) → Invariant n b → StoredFits n b k s → Stands b k s v → IsMajority n v.votes → Won n k b s
win_stage n k b s v i f x q =
    let t : ℕ = s.held.term in
    let votes : IsMajority n (λ p. nat_eq (b.voted_for p t) k) = majority_covers n v.votes (λ p. nat_eq (b.voted_for p t) k) (λ p _ _ e. let is : b.voted_for p t ≡ k = x.votes p e in grind (arith, nat_tests)) q in
    let may : MayElect n b t k = record { member = x.some; new = x.yet; votes = votes } in
    let d : Book = after_move b (Elect t k) in
    let r : Reaches n k b d = reach_elect n k b t i may in
    record {
      book = d;
      reaches = r;
      keeps = record { term = f.term; vote = f.vote; log = f.log; base = f.base; base_term = f.base_term; backed = backed_grows n b d t t s.front r.grows (omega arith) f.backed };
      elected = set_at_cases (λ y. y ≡ k) b.leader t k t (λ _. refl) (λ no. absurd (no refl));
      lead = set_at_cases (λ xs. xs ≡ full s) b.leader_log t (b.candidate_log t k) t (λ _. x.asked) (λ no. absurd (no refl));
    }

-- a leader's own log and what it knows of the others
pub leader_fits : (n k : ℕ) (b : Book) (s : Stored) (v : Running) → 0 < k → StoredFits n b k s → b.leader s.held.term ≡ k → b.leader_log s.held.term ≡ full s → length (full s) ≤ b.acked k s.held.term
    → ((p : ℕ) → v.matches p ≤ b.acked p s.held.term) → ((p : ℕ) → v.nexts p ≤ length (full s) + 1) → (v.role ≡ Candidate → ⊥) → s.held.log.base ≤ v.commit → v.commit ≤ length (full s) → Backed n b s.held.term (take v.commit (full s))
    → RunningFits n b k s (committed n k s.held.term s.held.log v)
leader_fits n k b s v some f el le own m x not low l back =
    let c : Committing n b s.held.term (full s) (commit_of n k s.held.term s.held.log v.matches v.commit) = commit_ok n k b s.held.term s.front s.held.log v.matches v.commit (is_behind n b k s f) le own m low l back in
    record {
      base_in = omega (arith, low, commit_more n k s.held.term s.held.log v.matches v.commit);
      commit_in = c.within;
      committed = c.backed;
      stands = λ e. absurd (not e);
      leads = λ e. record { some = some; elected = el; lead = le; own = own; matches = m; nexts = x };
    }

-- what was committed still is, in a longer log
pub backed_longer : (n : ℕ) (b d : Book) (t c : ℕ) (xs ys : List LogEntry) → Grows b d → c ≤ length xs → IsPrefix xs ys → Backed n b t (take c xs) → Backed n d t (take c ys)
backed_longer n b d t c xs ys g l w back =
    let v : IsPrefix (take c xs) (take c ys) = prefix_take (take c xs) ys c (prefix_trans (take c xs) xs ys (take_prefix c xs) w) (omega (arith, take_length c xs l)) in
    let len : length (take c xs) ≡ length (take c ys) = take_length c xs l ∙ sym (take_length c ys (omega (arith, prefix_length xs ys w))) in
    subst (λ zs. Backed n d t zs) (prefix_whole (take c xs) (take c ys) v (omega arith)) (backed_grows n b d t t (take c xs) g (omega arith) back)
