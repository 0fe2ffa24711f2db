-- What a member takes of an append.
use Rattle.std.proofs.Common.{◌≡◌, ℕ, zero, suc, ◌+◌, ◌-◌, ◌<◌, ◌≤◌, max, min, true, false, ◌&&◌, refl, sym, ap, ◌∙◌, arith, List, [], ◌∷◌, ◌++◌, length, length-append, length-drop, append_assoc, append-nil, take, drop, subst, inl, inr, ⊎_elim, Option, None, Some}
use Rattle.std.specs.Prelude.{nat_eq, nat_lt, nat_le}
use Rattle.std.proofs.lemmas.Bool.Decides.{nat_tests}
use mathlib.Core.List.{IsPrefix}
use Rattle.kp_model.specs.LogEntry.{LogEntry}
use Rattle.kp_entry.specs.declared.record.Record.TheVariants as record_
use Rattle.kp_entry.specs.Log.{Log, last_index, term_of, behind, with_entries, truncated}
use Rattle.kp_raft.specs.Parts.{Running, following, vote_at, running_at, with_cut, cut_log}
use Rattle.kp_entry.specs.Heads.{appended}
use Rattle.kp_world.specs.Log.{last_term}
use Rattle.kp_world.specs.Book.{Book}
use Rattle.kp_world.specs.Moves.{Follow, Acknowledge, MayFollow, MayAcknowledge, after_move}
use Rattle.kp_world.proofs.Prefixes.{prefix_self, prefix_trans, prefix_append, prefix_length, prefix_shorter, prefix_whole, take_prefix}
use Rattle.kp_world.proofs.Cases.{set_at_cases, set_at_both_cases, and_true, true_and}
use Rattle.kp_world.proofs.Invariant.{Invariant}
use Rattle.kp_world.proofs.Safety.{leader_has}
use Rattle.kp_world.specs.Net.{Stored, full}
use Rattle.kp_raft.specs.Appends.{fits, agreeing, below_base, matched, conflicts, clashes, keep_of, missing}
use Rattle.kp_world.proofs.Takes.{take_length, take_most, take_drop, prefix_is_take, take_add}
use Rattle.kp_world.proofs.Agree.{last_term_append, prefix_cancel, prefix_join, agreeing_left, agreeing_right, agreeing_last, agreeing_most, agree_none}
use Rattle.kp_world.proofs.Reach.{Reaches, reach_none, reach_trans, reach_follow, reach_ack}
use Rattle.kp_world.proofs.Link.{Covered, Covering, Backed, StoredFits, RunningFits, Torn, torn_nil, torn_cons, cond_cases, at_term, backed_grows, running_at_commit, or_true}
use Rattle.kp_world.proofs.Views.{is_behind, index_view, term_view, take_view, behind_view, backed_lead, no_entries, none_left}
use Rattle.kp_world.proofs.Leading.{extended, extended_full, extended_none, extended_both}

-- the records of the entries that follow
pub record Followed (n k : ℕ) (b : Book) (s : Stored) (es : List LogEntry) : Type 0 where
  pub book : Book
  pub reaches : Reaches n k b book
  pub torn : Torn n k b s (appended es)
  pub keeps : StoredFits n book k (extended s es)

pub follow_all : (n k : ℕ) (b : Book) (s : Stored) (es : List LogEntry) → Invariant n b → StoredFits n b k s → 0 < b.leader s.held.term → IsPrefix (full s ++ es) (b.leader_log s.held.term) → Followed n k b s es
follow_all n k b s [] i f some w = record { book = b; reaches = reach_none n k b i; torn = torn_nil n k b s i f; keeps = subst (λ x. StoredFits n b k x) (sym (extended_none s)) f }
follow_all n k b s (e ∷ es) i f some w =
    let xs : List LogEntry = full s ++ e ∷ [] in
    let s1 : Stored = extended s (e ∷ []) in
    let may : MayFollow b k xs = record {
      leads = rw f.term some;
      within = rw f.term (prefix_trans xs (full s ++ e ∷ es) (b.leader_log s.held.term) (prefix_join (full s) (e ∷ []) (e ∷ es) (es, refl)) w);
      keeps = λ zs v _. prefix_trans zs (b.log k) xs v (rw f.log (prefix_append (full s) (e ∷ [])));
    } in
    let c : Book = after_move b (Follow k xs) in
    let r : Reaches n k b c = reach_follow n k b xs i may in
    let g : StoredFits n c k s1 = record {
      term = f.term;
      vote = f.vote;
      log = set_at_cases (λ ys. ys ≡ full s1) b.log k xs k (λ _. sym (extended_full s (e ∷ []))) (λ no. absurd (no refl));
      base = f.base;
      base_term = f.base_term;
      backed = backed_grows n b c s.held.term s.held.term s.front r.grows (omega arith) f.backed;
    } in
    let split : full s1 ++ es ≡ full s ++ e ∷ es = ap (λ ys. ys ++ es) (extended_full s (e ∷ [])) ∙ append_assoc (full s) (e ∷ []) es in
    let x : Followed n k c s1 es = follow_all n k c s1 es r.inv g some (rw split w) in
    record {
      book = x.book;
      reaches = reach_trans n k b c x.book r x.reaches;
      torn = torn_cons n k b c s (record_.Append e) (appended es) i f r x.torn;
      keeps = subst (λ y. StoredFits n x.book k y) (extended_both s (e ∷ []) es) x.keeps;
    }

-- the entries up to prev are those of the leader
pub same_front : (n k : ℕ) (b : Book) (t prev : ℕ) (log front es : List LogEntry) → Invariant n b → b.log k ≡ log → prev ≤ length log → length front ≡ prev → last_term (take prev log) ≡ last_term front → IsPrefix (front ++ es) (b.leader_log t) → take prev log ≡ front
same_front n k b t prev log front es i is l len last w = ⊎_elim
    (λ (some : 0 < length front).
    let p : IsPrefix (take prev log) (b.leader_log (last_term (take prev log))) = i.log_matching k (take prev log) (omega (arith, take_length prev log l)) (rw is (take_prefix prev log)) in
    let q : IsPrefix front (b.leader_log (last_term front)) = i.leader_log_matching t front some (prefix_trans front (front ++ es) (b.leader_log t) (prefix_append front es) w) in
    let p' : IsPrefix (take prev log) (b.leader_log (last_term front)) = subst (λ u. IsPrefix (take prev log) (b.leader_log u)) last p in
    prefix_whole (take prev log) front (prefix_shorter (take prev log) front (b.leader_log (last_term front)) p' q (omega (arith, take_length prev log l))) (omega (arith, take_length prev log l)))
    (λ (none : front ≡ []).
    let z : prev ≡ 0 = omega (arith, ap (λ xs. length xs) none) in
    rw (z, none) refl)
    (no_entries front)

-- the entries of an append that agree with a tail of the log stand in it, and no more of the leader's log does
pub record Agreed (log front tail es lead : List LogEntry) : Type 0 where
  pub there : IsPrefix (front ++ take (agreeing tail es) es) log
  pub most : (zs : List LogEntry) → (agreeing tail es ≡ length es → ⊥) → IsPrefix zs log → IsPrefix zs lead → length zs ≤ length front + agreeing tail es

pub agree_stage : (n k : ℕ) (b : Book) (t : ℕ) (log front tail es : List LogEntry) → Invariant n b → b.log k ≡ log → log ≡ front ++ tail → IsPrefix (front ++ es) (b.leader_log t) → Agreed log front tail es (b.leader_log t)
agree_stage n k b t log front tail es i is whole w = record { there = z_log; most = common }
  where
    m : ℕ
    m = agreeing tail es

    prev : ℕ
    prev = length front

    m_tail : m ≤ length tail
    m_tail = agreeing_left tail es

    m_es : m ≤ length es
    m_es = agreeing_right tail es

    z : List LogEntry
    z = front ++ take m es

    z_len : length z ≡ prev + m
    z_len = omega (arith, length-append front (take m es), take_length m es m_es)

    z_lead : IsPrefix z (b.leader_log t)
    z_lead = prefix_trans z (front ++ es) (b.leader_log t) (prefix_join front (take m es) es (take_prefix m es)) w

    x_log : IsPrefix (front ++ take m tail) log
    x_log = subst (λ xs. IsPrefix (front ++ take m tail) xs) (sym whole) (prefix_join front (take m tail) tail (take_prefix m tail))

    x_len : length (front ++ take m tail) ≡ prev + m
    x_len = omega (arith, length-append front (take m tail), take_length m tail m_tail)

    same : front ++ take m tail ≡ z
    same = ⊎_elim
        (λ (h : 0 < m).
        let lt : last_term (front ++ take m tail) ≡ last_term z = last_term_append front (take m tail) (omega (arith, take_length m tail m_tail)) ∙ (agreeing_last tail es ∙ sym (last_term_append front (take m es) (omega (arith, take_length m es m_es)))) in
        let p : IsPrefix (front ++ take m tail) (b.leader_log (last_term (front ++ take m tail))) = i.log_matching k (front ++ take m tail) (omega (arith, x_len)) (rw is x_log) in
        let q : IsPrefix z (b.leader_log (last_term z)) = i.leader_log_matching t z (omega (arith, z_len)) z_lead in
        let p' : IsPrefix (front ++ take m tail) (b.leader_log (last_term z)) = subst (λ u. IsPrefix (front ++ take m tail) (b.leader_log u)) lt p in
        prefix_whole (front ++ take m tail) z (prefix_shorter (front ++ take m tail) z (b.leader_log (last_term z)) p' q (omega (arith, x_len, z_len))) (omega (arith, x_len, z_len)))
        (λ (h : m ≡ 0). ap (λ j. front ++ take j tail) h ∙ ap (λ j. front ++ take j es) (sym h))
        (grind arith)

    z_log : IsPrefix z log
    z_log = subst (λ xs. IsPrefix xs log) same x_log

    common : (zs : List LogEntry) → (m ≡ length es → ⊥) → IsPrefix zs log → IsPrefix zs (b.leader_log t) → length zs ≤ prev + m
    common zs apart p q = ⊎_elim
        (λ (short : length zs ≤ length front). omega arith)
        (λ (long : length front ≤ length zs).
        let start : IsPrefix front zs = prefix_shorter front zs log (rw whole (prefix_append front tail)) p long in
        let a : List LogEntry = start.0 in
        let p' : IsPrefix (front ++ a) (front ++ tail) = rw (start.1, ← whole) p in
        let in_tail : IsPrefix a tail = prefix_cancel front a tail p' in
        let sizes : length front + length a ≡ length zs = sym (length-append front a) ∙ ap (λ xs. length xs) start.1 in
        ⊎_elim
        (λ (le : length zs ≤ length (front ++ es)).
        let v : IsPrefix (front ++ a) (front ++ es) = rw start.1 (prefix_shorter zs (front ++ es) (b.leader_log t) q w le) in
        omega (arith, agreeing_most a tail es in_tail (prefix_cancel front a es v), sizes))
        (λ (ge : length (front ++ es) ≤ length zs).
        let v : IsPrefix (front ++ es) (front ++ a) = rw start.1 (prefix_shorter (front ++ es) zs (b.leader_log t) w q ge) in
        let u : IsPrefix es a = prefix_cancel front es a v in
        absurd (apart (omega (arith, m_es, agreeing_most es tail es (prefix_trans es a tail u in_tail) (prefix_self es)))))
        (grind arith))
        (grind arith)

-- where the entries behind the base begin, the log has what the message says
pub record Aligned (xs front es : List LogEntry) (at below : ℕ) : Type 0 where
  pub inside : at ≤ length xs
  pub same : take at xs ≡ front ++ take below es

pub align : (n k : ℕ) (b : Book) (s : Stored) (prev pt : ℕ) (front es : List LogEntry) → Invariant n b → StoredFits n b k s → 0 < b.leader s.held.term → length front ≡ prev → last_term front ≡ pt → IsPrefix (front ++ es) (b.leader_log s.held.term) → fits s.held.log prev pt ≡ true
    → Aligned (full s) front es (prev + below_base s.held.log prev es) (below_base s.held.log prev es)
align n k b s prev pt front es i f some len last w fit = ⊎_elim
    (λ (low : prev ≤ s.held.log.base).
    let size : length (full s) ≡ length s.front + length s.held.log.entries = length-append s.front s.held.log.entries in
    let under : prev + below ≤ s.held.log.base = omega (arith, low) in
    let few : below ≤ length es = omega arith in
    let inside : prev + below ≤ length (full s) = omega (arith, under, f.base, size) in
    let at_len : length (take (prev + below) (full s)) ≡ prev + below = take_length (prev + below) (full s) inside in
    let in_front : IsPrefix (take (prev + below) (full s)) s.front = prefix_shorter (take (prev + below) (full s)) s.front (full s) (take_prefix (prev + below) (full s)) (prefix_append s.front s.held.log.entries) (omega (arith, at_len, under, f.base)) in
    let p : IsPrefix (take (prev + below) (full s)) lead = prefix_trans (take (prev + below) (full s)) s.front lead in_front (backed_lead n b s.held.term s.front i some f.backed) in
    let q : IsPrefix (front ++ take below es) lead = prefix_trans (front ++ take below es) (front ++ es) lead (prefix_join front (take below es) es (take_prefix below es)) w in
    let q_len : length (front ++ take below es) ≡ prev + below = omega (arith, length-append front (take below es), take_length below es few, len) in
    record {
      inside = inside;
      same = prefix_whole (take (prev + below) (full s)) (front ++ take below es) (prefix_shorter (take (prev + below) (full s)) (front ++ take below es) lead p q (omega (arith, at_len, q_len))) (omega (arith, at_len, q_len));
    })
    (λ (high : s.held.log.base < prev).
    let both = and_true (nat_le prev (last_index s.held.log)) (nat_eq (term_of s.held.log prev) pt) (not_low high) in
    let a : nat_le prev (last_index s.held.log) ≡ true = both.0 in
    let c : nat_eq (term_of s.held.log prev) pt ≡ true = both.1 in
    let in' : prev ≤ last_index s.held.log = grind (arith, nat_tests) in
    let inside : prev ≤ length (full s) = omega (arith, in', index_view s.front s.held.log (is_behind n b k s f)) in
    let terms : term_of s.held.log prev ≡ pt = grind (arith, nat_tests) in
    let none : below ≡ 0 = omega (arith, high) in
    let is_front : take prev (full s) ≡ front = same_front n k b s.held.term prev (full s) front es i f.log inside len (term_view s.front s.held.log prev (is_behind n b k s f) (omega (arith, high)) ∙ (terms ∙ sym last)) w in
    let at : prev + below ≡ prev = omega (arith, none) in
    record {
      inside = omega (arith, none, inside);
      same = ap (λ j. take j (full s)) at ∙ (is_front ∙ (sym (append-nil front) ∙ ap (λ j. front ++ take j es) (sym none)));
    })
    (grind arith)
  where
    below : ℕ
    below = below_base s.held.log prev es

    lead : List LogEntry
    lead = b.leader_log s.held.term

    not_low : s.held.log.base < prev → (nat_le prev (last_index s.held.log) && nat_eq (term_of s.held.log prev) pt) ≡ true
    not_low l = ⊎_elim
        (λ (h : nat_le prev s.held.log.base ≡ true). absurd (grind (arith, nat_tests)))
        (λ (h : (nat_le prev (last_index s.held.log) && nat_eq (term_of s.held.log prev) pt) ≡ true). h)
        (or_true (nat_le prev s.held.log.base) (nat_le prev (last_index s.held.log) && nat_eq (term_of s.held.log prev) pt) fit)

-- with the log cut and entries behind it
abbrev pub changed : Stored → Option ℕ → List LogEntry → Stored
changed s cut es = record { held = record { term = s.held.term; vote = s.held.vote; log = with_entries (cut_log s.held.log cut) es }; front = s.front }

-- what a log that takes the entries comes to
pub record Logged (n k : ℕ) (b : Book) (s : Stored) (got : List LogEntry) (c : ℕ) (cut : Option ℕ) (more : List LogEntry) : Type 0 where
  pub book : Book
  pub reaches : Reaches n k b book
  pub torn : Torn n k b s (with_cut [] cut ++ appended more)
  pub keeps : StoredFits n book k (changed s cut more)
  pub has : IsPrefix got (full (changed s cut more))
  pub old : IsPrefix (take c (full s)) (full (changed s cut more))

take_take : {A : Type 0} (i j : ℕ) (xs : List A) → i ≤ j → take i (take j xs) ≡ take i xs
take_take zero j xs l = refl
take_take (suc i) zero xs l = absurd (omega arith)
take_take (suc i) (suc j) [] l = refl
take_take (suc i) (suc j) (x ∷ xs) l = ap (λ ys. x ∷ ys) (take_take i j xs (omega arith))

pub log_stage : (n k : ℕ) (b : Book) (s : Stored) (front es : List LogEntry) (prev pt j c : ℕ) → Invariant n b → StoredFits n b k s → 0 < b.leader s.held.term → length front ≡ prev → last_term front ≡ pt → IsPrefix (front ++ es) (b.leader_log s.held.term) → fits s.held.log prev pt ≡ true
    → matched s.held.log prev es ≤ j → j ≤ length es → clashes s.held.log prev es c ≡ false → Logged n k b s (front ++ take j es) c (keep_of s.held.log prev es) (missing s.held.log prev es j)
log_stage n k b s front es prev pt j c i f some len last w fit jm jn clash = cond_cases (λ cut. Logged n k b s got c cut more) (conflicts log prev es) (Some (prev + mm)) None
    (λ e.
    let both = and_true (nat_lt mm (length es)) (nat_lt (prev + mm) (last_index log)) e in
    let t1 : nat_lt mm (length es) ≡ true = both.0 in
    let t2 : nat_lt (prev + mm) (last_index log) ≡ true = both.1 in
    let few : mm < length es = grind (arith, nat_tests) in
    let inside : prev + mm < last_index log = grind (arith, nat_tests) in
    let low : c ≤ prev + mm = not_clash e in
    let apart : m ≡ length es1 → ⊥ = λ q. omega (arith, q, few, mm_is, length-drop below es) in
    let above : log.base ≤ at = omega (arith, few, mm_is) in
    let may : MayFollow b k z = record {
      leads = rw f.term some;
      within = rw f.term z_lead;
      keeps = rw (f.term, f.log) (λ zs p q. prefix_shorter zs z xs p z_log (omega (arith, z_len, mm_is, at_len, agreed.most zs apart p q)));
    } in
    let d : Book = after_move b (Follow k z) in
    let r : Reaches n k b d = reach_follow n k b z i may in
    let s2 : Stored = record { held = record { term = s.held.term; vote = s.held.vote; log = truncated log (prev + mm) }; front = s.front } in
    let cut : full s2 ≡ z = ap (λ y. s.front ++ take (prev + mm - y) log.entries) f.base ∙ (sym (take_view s.front log.entries (prev + mm) (omega (arith, above, f.base, mm_is))) ∙ (ap (λ y. take y xs) (sym z_len) ∙ sym (prefix_is_take z xs z_log))) in
    let g : StoredFits n d k s2 = record {
      term = f.term;
      vote = f.vote;
      log = set_at_cases (λ ys. ys ≡ full s2) b.log k z k (λ _. sym cut) (λ no. absurd (no refl));
      base = f.base;
      base_term = f.base_term;
      backed = backed_grows n b d s.held.term s.held.term s.front r.grows (omega arith) f.backed;
    } in
    let joined : full s2 ++ more ≡ got = ap (λ ys. ys ++ more) cut ∙ z_more in
    let x : Followed n k d s2 more = follow_all n k d s2 more r.inv g some (rw joined got_lead) in
    record {
      book = x.book;
      reaches = reach_trans n k b d x.book r x.reaches;
      torn = torn_cons n k b d s (record_.Truncate (prev + mm)) (appended more) i f r x.torn;
      keeps = x.keeps;
      has = subst (λ ys. IsPrefix got ys) (sym (extended_full s2 more ∙ joined)) (prefix_self got);
      old = subst (λ ys. IsPrefix (take c xs) ys) (sym (extended_full s2 more))
          (prefix_trans (take c xs) (full s2) (full s2 ++ more) (rw cut (prefix_shorter (take c xs) z xs (take_prefix c xs) z_log (omega (arith, take_most c xs, z_len, low)))) (prefix_append (full s2) more));
    })
    (λ e. ⊎_elim
    (λ (few : mm < length es).
    let full_size : last_index log ≤ prev + mm = no_conflict few e in
    let all : z ≡ xs = prefix_whole z xs z_log (omega (arith, z_len, full_size, index_view s.front log (is_behind n b k s f))) in
    let joined : xs ++ more ≡ got = ap (λ ys. ys ++ more) (sym all) ∙ z_more in
    let x : Followed n k b s more = follow_all n k b s more i f some (rw joined got_lead) in
    record {
      book = x.book;
      reaches = x.reaches;
      torn = x.torn;
      keeps = x.keeps;
      has = subst (λ ys. IsPrefix got ys) (sym (extended_full s more ∙ joined)) (prefix_self got);
      old = subst (λ ys. IsPrefix (take c xs) ys) (sym (extended_full s more)) (prefix_trans (take c xs) xs (xs ++ more) (take_prefix c xs) (prefix_append xs more));
    })
    (λ (whole : length es ≤ mm).
    let none : more ≡ [] = none_left more (omega (arith, length-drop mm (take j es), take_length j es jn)) in
    let j_is : mm ≡ j = omega (arith, jm, jn) in
    let same : z ≡ got = z_is ∙ ap (λ y. front ++ take y es) j_is in
    subst (λ ys. Logged n k b s got c None ys) (sym none) (record {
      book = b;
      reaches = reach_none n k b i;
      torn = torn_nil n k b s i f;
      keeps = subst (λ y. StoredFits n b k y) (sym (extended_none s)) f;
      has = subst (λ y. IsPrefix got (full y)) (sym (extended_none s)) (subst (λ ys. IsPrefix ys xs) same z_log);
      old = subst (λ y. IsPrefix (take c xs) (full y)) (sym (extended_none s)) (take_prefix c xs);
    }))
    (grind arith))
  where
    log : Log
    log = s.held.log

    xs : List LogEntry
    xs = full s

    mm : ℕ
    mm = matched log prev es

    more : List LogEntry
    more = missing log prev es j

    got : List LogEntry
    got = front ++ take j es

    below : ℕ
    below = below_base log prev es

    at : ℕ
    at = prev + below

    es1 : List LogEntry
    es1 = drop below es

    tail : List LogEntry
    tail = drop at xs

    m : ℕ
    m = agreeing tail es1

    mm_is : mm ≡ below + m
    mm_is = ⊎_elim
        (λ (l : log.base ≤ at). ap (λ (ys : List LogEntry). below + agreeing ys es1) (sym (behind_view s.front log at (is_behind n b k s f) l)))
        (λ (l : at < log.base).
        let short : es1 ≡ [] = none_left es1 (omega (arith, length-drop below es, l)) in
        ap (λ y. below + y) (ap (λ (ys : List LogEntry). agreeing (behind log at) ys) short ∙ (agree_none (behind log at) ∙ (sym (agree_none tail) ∙ ap (λ (ys : List LogEntry). agreeing tail ys) (sym short)))))
        (grind arith)

    a : Aligned xs front es at below
    a = align n k b s prev pt front es i f some len last w fit

    at_len : length (take at xs) ≡ at
    at_len = take_length at xs a.inside

    whole : take at xs ++ es1 ≡ front ++ es
    whole = ap (λ ys. ys ++ es1) a.same ∙ (append_assoc front (take below es) es1 ∙ ap (λ ys. front ++ ys) (take_drop below es))

    agreed : Agreed xs (take at xs) tail es1 (b.leader_log s.held.term)
    agreed = agree_stage n k b s.held.term xs (take at xs) tail es1 i f.log (sym (take_drop at xs)) (rw whole w)

    z : List LogEntry
    z = take at xs ++ take m es1

    z_is : z ≡ front ++ take mm es
    z_is = ap (λ ys. ys ++ take m es1) a.same ∙ (append_assoc front (take below es) (take m es1) ∙ ap (λ ys. front ++ ys) (take_add below m mm es mm_is))

    m_es : m ≤ length es1
    m_es = agreeing_right tail es1

    z_len : length z ≡ prev + mm
    z_len = omega (arith, length-append (take at xs) (take m es1), take_length m es1 m_es, at_len, mm_is)

    z_log : IsPrefix z xs
    z_log = agreed.there

    z_more : z ++ more ≡ got
    z_more = ap (λ ys. ys ++ more) (z_is ∙ ap (λ ys. front ++ ys) (sym (take_take mm j es jm))) ∙ (append_assoc front (take mm (take j es)) more ∙ ap (λ ys. front ++ ys) (take_drop mm (take j es)))

    got_lead : IsPrefix got (b.leader_log s.held.term)
    got_lead = prefix_trans got (front ++ es) (b.leader_log s.held.term) (prefix_join front (take j es) es (take_prefix j es)) w

    z_lead : IsPrefix z (b.leader_log s.held.term)
    z_lead = prefix_trans z (take at xs ++ es1) (b.leader_log s.held.term) (prefix_join (take at xs) (take m es1) es1 (take_prefix m es1)) (rw whole w)

    no_conflict : mm < length es → conflicts log prev es ≡ false → last_index log ≤ prev + mm
    no_conflict l e =
        let t1 : nat_lt mm (length es) ≡ true = grind (arith, nat_tests) in
        let t2 : nat_lt (prev + mm) (last_index log) ≡ false = Rattle.kp_world.proofs.Cases.and_false (nat_lt mm (length es)) (nat_lt (prev + mm) (last_index log)) t1 e in
        grind (arith, nat_tests)

    not_clash : conflicts log prev es ≡ true → c ≤ prev + mm
    not_clash e =
        let t2 : nat_lt (prev + mm) c ≡ false = Rattle.kp_world.proofs.Cases.and_false (conflicts log prev es) (nat_lt (prev + mm) c) e clash in
        grind (arith, nat_tests)

-- and acknowledges them
pub record Acked (n k : ℕ) (b : Book) (s : Stored) (i : ℕ) : Type 0 where
  pub book : Book
  pub reaches : Reaches n k b book
  pub keeps : StoredFits n book k s
  pub acked : i ≤ book.acked k s.held.term

pub ack_stage : (n k : ℕ) (b : Book) (s : Stored) (xs : List LogEntry) → Invariant n b → StoredFits n b k s → IsPrefix xs (b.leader_log s.held.term) → IsPrefix xs (full s) → Acked n k b s (length xs)
ack_stage n k b s xs i f w v = ⊎_elim
    (λ (l : b.acked k s.held.term ≤ length xs).
    let at : b.term k ≡ s.held.term = f.term in
    let may : MayAcknowledge b k (length xs) = record {
      more = rw at l;
      within = rw at (prefix_length xs (b.leader_log s.held.term) w);
      has = rw (at, f.log) (λ zs p q. prefix_trans zs xs (full s) (prefix_shorter zs xs (b.leader_log s.held.term) p w q) v);
    } in
    let d : Book = after_move b (Acknowledge k (length xs)) in
    let r : Reaches n k b d = reach_ack n k b (length xs) i may in
    record {
      book = d;
      reaches = r;
      keeps = record { term = f.term; vote = f.vote; log = f.log; base = f.base; base_term = f.base_term; backed = backed_grows n b d s.held.term s.held.term s.front r.grows (omega arith) f.backed };
      acked = set_at_both_cases (λ x. length xs ≤ x) b.acked k (b.term k) (length xs) k s.held.term (λ _ _. omega arith) (λ no. absurd (no refl (sym at)));
    })
    (λ (l : length xs ≤ b.acked k s.held.term). record { book = b; reaches = reach_none n k b i; keeps = f; acked = l })
    (grind arith)

-- the commit index that an append brings is one of what is committed
pub taken_commit : (n : ℕ) (b : Book) (t c : ℕ) (xs log : List LogEntry) → Invariant n b → 0 < b.leader t → Covered n b t c → IsPrefix xs (b.leader_log t) → IsPrefix xs log → Backed n b t (take (min c (length xs)) log)
taken_commit n b t c xs log i some cov w v = ⊎_elim
    (λ (z : c ≡ 0). let j : min c (length xs) ≡ 0 = omega (arith, z) in inl (rw j refl))
    (λ (r : Covering n b t c).
    let j : ℕ = min c (length xs) in
    let p : IsPrefix r.all (b.leader_log t) = leader_has n b r.by t r.all i r.is r.before some in
    let q : IsPrefix (take j log) xs = prefix_shorter (take j log) xs log (take_prefix j log) v (omega (arith, take_most j log)) in
    inr (record {
      by = r.by;
      all = r.all;
      before = r.before;
      is = r.is;
      begins = prefix_shorter (take j log) r.all (b.leader_log t) (prefix_trans (take j log) xs (b.leader_log t) q w) p (omega (arith, take_most j log, r.more));
    }))
    cov

pub termed_following : (n k : ℕ) (b : Book) (s : Stored) (v : Running) (t leader : ℕ) → RunningFits n b k (at_term s t (vote_at s.held t)) (running_at s.held v t) → RunningFits n b k (at_term s t (vote_at s.held t)) (following v leader)
termed_following n k b s v t leader g =
    let e : (running_at s.held v t).commit ≡ v.commit = running_at_commit s.held v t in
    record {
      base_in = rw e at g.base_in;
      commit_in = rw e at g.commit_in;
      committed = rw e at g.committed;
      stands = λ x. absurd cc;
      leads = λ x. absurd cc;
    }

pub either_max : (P : ℕ → Type 0) (a c : ℕ) → P a → P c → P (max a c)
either_max P a c p q = ⊎_elim (λ (l : a ≤ c). subst P (omega arith) q) (λ (l : c ≤ a). subst P (omega arith) p) (grind arith)
