-- Every event keeps the network as some book says, so there is one log.
use Rattle.std.proofs.Common.{◌≡◌, ℕ, zero, suc, ◌<◌, ◌≤◌, max, min, true, refl, sym, ap, arith, List, [], ◌∷◌, ◌++◌, length, length-append, take, subst, inl, inr, ⊎_elim, Option, None, Some, slice_get}
use Rattle.std.specs.Prelude.{nat_lt, nat_le}
use Rattle.std.proofs.lemmas.Bool.Decides.{nat_tests}
use mathlib.Core.List.{IsPrefix}
use Rattle.kp_model.specs.LogEntry.{LogEntry}
use Rattle.kp_entry.specs.Log.{last_index}
use Rattle.kp_raft.specs.declared.mail.Mail.{Mail}
use Rattle.kp_raft.specs.declared.mail.Mail.TheVariants as mail
use Rattle.kp_entry.specs.Held.{Held}
use Rattle.kp_raft.specs.Parts.{Running, nothing, started}
use Rattle.kp_world.specs.Book.{Book, empty_book}
use Rattle.kp_world.proofs.Prefixes.{prefix_self, prefix_append}
use Rattle.kp_world.proofs.Cases.{set_at_cases, and_true}
use Rattle.kp_world.proofs.Growth.{Grows, grows_self, grows_trans}
use Rattle.kp_world.proofs.Invariant.{Invariant}
use Rattle.kp_world.specs.Net.{Stored, full, Node, Sent, Net, behind_records, Act, no_act, has_image, acts, taken_of, hears, Step, At, Comes, Event, Does, Tears, Starts, Commits, did, is_member, acted, heard_by, heard, steps, started_at, committed_at, happens, run, blank, OneLog}
use Rattle.kp_raft.specs.declared.event.RaftEvent.{RaftEvent}
use Rattle.kp_raft.specs.declared.event.RaftEvent.TheVariants as event
use Rattle.kp_raft.specs.Appends.{matched, on_append}
use Rattle.kp_raft.specs.Steps.{passes, on_mail, react}
use Rattle.kp_world.proofs.Histories.{empty_invariant}
use Rattle.kp_world.proofs.Takes.{prefix_is_take}
use Rattle.kp_world.proofs.Reach.{Reaches}
use Rattle.kp_world.proofs.Link.{Backed, StoredFits, MessageFits, MailFits, MailsFit, mails_grow, mails_join, other_stored, other_running, still, term_ok, cond_cases, backed_grows}
use Rattle.kp_world.proofs.Views.{backed_prefix, backed_begins}
use Rattle.kp_world.proofs.Requests.{request_ok}
use Rattle.kp_world.proofs.Leaders.{timeout_ok, vote_ok, append_rep_ok, propose_ok}
use Rattle.kp_world.proofs.Appending.{matched_most, append_ok}
use Rattle.kp_world.proofs.Owing.{NodeRuns, Owes, Heard, lift, lift_heard}
use Rattle.kp_world.proofs.Beats.{beat_ok}
use Rattle.kp_world.proofs.Installs.{install_ok, compact_ok}

-- one member
pub record NodeFits (n : ℕ) (b : Book) (k : ℕ) (node : Node) : Type 0 where
  pub stored : StoredFits n b k node.stored
  pub runs : (v : Running) → node.running ≡ Some v → NodeRuns n b k node.stored v node.done
  pub done_term : ℕ
  pub done_backed : Backed n b done_term node.done

-- the network is what a book says that has grown from b0
pub record NetFits {I : Type 0} (n : ℕ) (b0 : Book) (w : Net I) : Type 0 where
  pub book : Book
  pub since : Grows b0 book
  pub inv : Invariant n book
  pub nodes : (k : ℕ) → NodeFits n book k (w.nodes k)
  pub mails : MailsFit n book w.sent

other_node : (n k : ℕ) (b d : Book) (j : ℕ) (node : Node) → Reaches n k b d → (j ≡ k → ⊥) → NodeFits n b j node → NodeFits n d j node
other_node n k b d j node r o f = record {
  stored = other_stored n k b d j node.stored r o f.stored;
  runs = λ v e. let g : NodeRuns n b j node.stored v node.done = f.runs v e in record {
    runs = other_running n k b d j node.stored v r o f.stored g.runs;
    done_in = g.done_in;
  };
  done_term = f.done_term;
  done_backed = backed_grows n b d f.done_term f.done_term node.done r.grows (omega arith) f.done_backed;
}

some_same : (v w : Running) → Some v ≡ Some w → v ≡ w
some_same v w e = cc

-- a step, or a stop in the midst of it
pub did_ok : {I : Type 0} (n : ℕ) (b0 : Book) (w : Net I) (k : ℕ) (a : Act I) (stop : Option ℕ) → (f : NetFits n b0 w) → Owes n k f.book (w.nodes k).stored a → NetFits n b0 (did w k a stop)
did_ok n b0 w k a None f r =
    let node : Node = w.nodes k in
    let d : Book = r.book in
    let stored : Stored = behind_records a.list node.stored a.out.records in
    let next : Node = record { stored = stored; running = Some a.out.running; done = a.done } in
    record {
      book = d;
      since = grows_trans b0 f.book d f.since r.reaches.grows;
      inv = r.reaches.inv;
      nodes = λ j. set_at_cases (λ x. NodeFits n d j x) w.nodes k next j
          (λ at. rw at (record {
            stored = r.stored;
            runs = λ x e. subst (λ y. NodeRuns n d k stored y a.done) (some_same a.out.running x e) r.runs;
            done_term = stored.held.term;
            done_backed = backed_begins n d stored.held.term a.done (take a.out.running.commit (full stored)) r.runs.done_in r.runs.runs.committed;
          }))
          (λ o. other_node n k f.book d j (w.nodes j) r.reaches o (f.nodes j));
      mails = mails_join n d a.list a.out.mail w.sent r.sends (mails_grow n k f.book d w.sent r.reaches f.mails);
    }
did_ok n b0 w k a (Some j) f r =
    let node : Node = w.nodes k in
    let g : NodeFits n f.book k node = f.nodes k in
    let t = r.torn j in
    let d : Book = t.0 in
    record {
      book = d;
      since = grows_trans b0 f.book d f.since t.1.grows;
      inv = t.1.inv;
      nodes = λ i. set_at_cases (λ x. NodeFits n d i x) w.nodes k (record { stored = behind_records a.list node.stored (take j a.out.records); running = None; done = node.done }) i
          (λ at. rw at (record {
            stored = t.2;
            runs = λ x e. absurd cc;
            done_term = g.done_term;
            done_backed = backed_grows n f.book d g.done_term g.done_term node.done t.1.grows (omega arith) g.done_backed;
          }))
          (λ o. other_node n k f.book d i (w.nodes i) t.1 o (f.nodes i));
      mails = mails_grow n k f.book d w.sent t.1 f.mails;
    }

-- (a record, so that antt finds the act in it)
record Keeps {I : Type 0} (n k : ℕ) (b : Book) (s : Stored) (a : Act I) : Type 0 where
  keeps : Owes n k b s a

no_act_ok : {I : Type 0} (n k : ℕ) (b : Book) (s : Stored) (v : Running) (done : List LogEntry) → Invariant n b → StoredFits n b k s → NodeRuns n b k s v done → Owes {I = I} n k b s (no_act v done)
no_act_ok n k b s v done i f g = lift n k b s v [] done (nothing v) f g (still n k b s v v [] [] (omega arith) i f g.runs tt)

image_test : (h : Held) (done : List LogEntry) (index : ℕ) → has_image h done index ≡ true → (h.log.base ≤ index) × (index ≤ length done)
image_test h done index e =
    let both = and_true (nat_le h.log.base index) (nat_le index (length done)) e in
    let x : nat_le h.log.base index ≡ true = both.0 in
    let y : nat_le index (length done) ≡ true = both.1 in
    (grind (arith, nat_tests), grind (arith, nat_tests))

-- a member's own event
pub acts_ok : {I : Type 0} (n k : ℕ) (b : Book) (s : Stored) (v : Running) (done : List LogEntry) (own : RaftEvent I) → 0 < k → Invariant n b → StoredFits n b k s → NodeRuns n b k s v done → Owes n k b s (acts n k s.held v done own)
acts_ok n k b s v done event.Timeout some i f g = lift n k b s v [] done (react n k s.held v event.Timeout) f g (timeout_ok n k b s v [] some i f g.runs)
acts_ok n k b s v done (event.Beat index images) some i f g = (cond_cases (Keeps n k b s) (has_image s.held done index) (record { out = react n k s.held v (event.Beat index images); list = take index done; done = done }) (no_act v done)
    (λ e. let t = image_test s.held done index e in record { keeps = lift n k b s v (take index done) done (react n k s.held v (event.Beat index images)) f g (beat_ok n k b s v done index images i f g t.0 t.1) })
    (λ _. record { keeps = no_act_ok n k b s v done i f g })).keeps
acts_ok n k b s v done (event.Deliver m) some i f g = no_act_ok n k b s v done i f g
acts_ok n k b s v done (event.Propose time bodies) some i f g = lift n k b s v [] done (react n k s.held v (event.Propose time bodies)) f g (propose_ok n k b s v [] time bodies i f g.runs)
acts_ok n k b s v done (event.Compact index) some i f g = (cond_cases (Keeps n k b s) (has_image s.held done index) (record { out = react n k s.held v (event.Compact index); list = take index done; done = done }) (no_act v done)
    (λ e. let t = image_test s.held done index e in record { keeps = compact_ok n k b s v done index i f g t.0 t.1 })
    (λ _. record { keeps = no_act_ok n k b s v done i f g })).keeps

-- a message
mail_ok : {I : Type 0} (n k : ℕ) (b : Book) (s : Stored) (v : Running) (done list : List LogEntry) (m : Mail I) (j : ℕ) → 0 < k → Invariant n b → StoredFits n b k s → NodeRuns n b k s v done → MessageFits n b k list m → Heard n k b s list done (on_mail n k s.held v (taken_of s.held.log m j) m)
mail_ok n k b s v done list (mail.VoteReq t from last last_t) j some i f g h = lift_heard n k b s v list done _ f g (request_ok n k b s v list from t last last_t some i f g.runs h)
mail_ok n k b s v done list (mail.VoteRep t from granted) j some i f g h = lift_heard n k b s v list done _ f g (vote_ok n k b s v list from t granted some i f g.runs h)
mail_ok {I = I} n k b s v done list (mail.Append m) j some i f g h =
    let most : matched s.held.log m.prev m.entries ≤ length m.entries = matched_most s.held.log m.prev m.entries in
    let taken : ℕ = max (matched s.held.log m.prev m.entries) (min j (length m.entries)) in
    lift_heard n k b s v list done (on_append {I = I} k s.held v m taken) f g (append_ok n k b s v list m taken some i f g.runs h (omega arith) (omega (arith, most)))
mail_ok n k b s v done list (mail.AppendRep t from ok last heard) j some i f g h = lift_heard n k b s v list done _ f g (append_rep_ok n k b s v list from t ok last i f g.runs h)
mail_ok n k b s v done list (mail.Install t from index it image) j some i f g h = install_ok n k b s v list done from t index it some i f g h
mail_ok n k b s v done list (mail.InstallRep t from index) j some i f g h = lift_heard n k b s v list done _ f g (append_rep_ok n k b s v list from t true index i f g.runs (λ _. h))
mail_ok n k b s v done list (mail.Forward t from body) j some i f g h = lift_heard n k b s v list done _ f g (term_ok n k b s v list t i f g.runs)

pub hears_ok : {I : Type 0} (n k : ℕ) (b : Book) (s : Stored) (v : Running) (done list : List LogEntry) (m : Mail I) (j : ℕ) → 0 < k → Invariant n b → StoredFits n b k s → NodeRuns n b k s v done → MessageFits n b k list m → Owes n k b s (hears n k s.held v done m list j)
hears_ok n k b s v done list m j some i f g h = (cond_cases (Heard n k b s list done) (passes n k (last_index s.held.log) m) (on_mail n k s.held v (taken_of s.held.log m j) m) (nothing v)
    (λ _. mail_ok n k b s v done list m j some i f g h)
    (λ _. lift_heard n k b s v list done (nothing v) f g (still n k b s v v list [] (omega arith) i f g.runs tt))).owes

acted_ok : {I : Type 0} (n : ℕ) (b0 : Book) (w : Net I) (k : ℕ) (own : RaftEvent I) (stop : Option ℕ) (o : Option Running) → (f : NetFits n b0 w) → (w.nodes k).running ≡ o → 0 < k → NetFits n b0 (acted n w k own stop o)
acted_ok n b0 w k own stop None f is some = f
acted_ok n b0 w k own stop (Some v) f is some = did_ok n b0 w k (acts n k (w.nodes k).stored.held v (w.nodes k).done own) stop f (acts_ok n k f.book (w.nodes k).stored v (w.nodes k).done own some f.inv (f.nodes k).stored ((f.nodes k).runs v is))

heard_by_ok : {I : Type 0} (n : ℕ) (b0 : Book) (w : Net I) (m : Sent I) (j : ℕ) (stop : Option ℕ) (o : Option Running) → (f : NetFits n b0 w) → (w.nodes m.to).running ≡ o → MailFits n f.book m.list (m.to, m.message) → NetFits n b0 (heard_by n w m j stop o)
heard_by_ok n b0 w m j stop None f is h = f
heard_by_ok n b0 w m j stop (Some v) f is h = did_ok n b0 w m.to (hears n m.to (w.nodes m.to).stored.held v (w.nodes m.to).done m.message m.list j) stop f (hears_ok n m.to f.book (w.nodes m.to).stored v (w.nodes m.to).done m.list m.message j h.to f.inv (f.nodes m.to).stored ((f.nodes m.to).runs v is) h.message)

pub mail_at : {I : Type 0} (n : ℕ) (b : Book) (ms : List (Sent I)) (i : ℕ) (m : Sent I) → MailsFit n b ms → slice_get ms i ≡ Some m → MailFits n b m.list (m.to, m.message)
mail_at n b [] i m f e = absurd cc
mail_at n b (x ∷ ms) zero m f e = let is : x ≡ m = cc in subst (λ y. MailFits n b y.list (y.to, y.message)) is f.0
mail_at n b (x ∷ ms) (suc i) m f e = mail_at n b ms i m f.1 e

heard_ok : {I : Type 0} (n : ℕ) (b0 : Book) (w : Net I) (j : ℕ) (stop : Option ℕ) (o : Option (Sent I)) → (f : NetFits n b0 w) → ((m : Sent I) → o ≡ Some m → MailFits n f.book m.list (m.to, m.message)) → NetFits n b0 (heard n w j stop o)
heard_ok n b0 w j stop None f h = f
heard_ok n b0 w j stop (Some m) f h = heard_by_ok n b0 w m j stop (w.nodes m.to).running f refl (h m refl)

member_some : (n k : ℕ) → is_member n k ≡ true → 0 < k
member_some n k e = let x : nat_lt 0 k ≡ true = (and_true (nat_lt 0 k) (nat_le k n) e).0 in grind (arith, nat_tests)

steps_ok : {I : Type 0} (n : ℕ) (b0 : Book) (w : Net I) (s : Step I) (stop : Option ℕ) → NetFits n b0 w → NetFits n b0 (steps n w s stop)
steps_ok n b0 w (At k own) stop f = cond_cases (NetFits n b0) (is_member n k) (acted n w k own stop (w.nodes k).running) w (λ e. acted_ok n b0 w k own stop (w.nodes k).running f refl (member_some n k e)) (λ _. f)
steps_ok n b0 w (Comes i j) stop f = heard_ok n b0 w j stop (slice_get w.sent i) f (λ m e. mail_at n f.book w.sent i m f.mails e)

-- a start
started_ok : {I : Type 0} (n : ℕ) (b0 : Book) (w : Net I) (k : ℕ) → NetFits n b0 w → NetFits n b0 (started_at w k)
started_ok n b0 w k f =
    let s : Stored = (w.nodes k).stored in
    let g : StoredFits n f.book k s = (f.nodes k).stored in
    let base : ℕ = s.held.log.base in
    let begin : take base (full s) ≡ s.front = subst (λ j. take j (full s) ≡ s.front) (sym g.base) (sym (prefix_is_take s.front (full s) (prefix_append s.front s.held.log.entries))) in
    let runs : NodeRuns n f.book k s (started base) s.front = record {
      runs = record { base_in = omega arith; commit_in = omega (arith, g.base, length-append s.front s.held.log.entries); committed = rw begin g.backed; stands = λ y. absurd cc; leads = λ y. absurd cc };
      done_in = rw begin (prefix_self s.front);
    } in
    record {
      book = f.book;
      since = f.since;
      inv = f.inv;
      nodes = λ j. set_at_cases (λ x. NodeFits n f.book j x) w.nodes k (record { stored = s; running = Some (started base); done = s.front }) j
          (λ at. rw at (record {
            stored = g;
            runs = λ x e. subst (λ y. NodeRuns n f.book k s y s.front) (some_same (started base) x e) runs;
            done_term = s.held.term;
            done_backed = g.backed;
          }))
          (λ o. f.nodes j);
      mails = f.mails;
    }

next_prefix : (xs ys : List LogEntry) (e : LogEntry) (c : ℕ) → IsPrefix xs (take c ys) → slice_get ys (length xs) ≡ Some e → length xs < c → IsPrefix (xs ++ e ∷ []) (take c ys)
next_prefix [] [] e c w s l = absurd cc
next_prefix [] (y ∷ ys) e zero w s l = absurd (omega arith)
next_prefix [] (y ∷ ys) e (suc c) w s l = let is : y ≡ e = cc in (take c ys, ap (λ x. x ∷ take c ys) (sym is))
next_prefix (x ∷ xs) ys e zero w s l = absurd (omega arith)
next_prefix (x ∷ xs) [] e (suc c) w s l = absurd cc
next_prefix (x ∷ xs) (y ∷ ys) e (suc c) w s l =
    let r = next_prefix xs ys e c (w.0, cc (w.1)) s (omega arith) in
    (r.0, cc (w.1, r.1))

-- an entry that is applied
committed_ok : {I : Type 0} (n : ℕ) (b0 : Book) (w : Net I) (k : ℕ) (o : Option Running) (p : Option LogEntry) → NetFits n b0 w → (w.nodes k).running ≡ o → slice_get (full (w.nodes k).stored) (length (w.nodes k).done) ≡ p → NetFits n b0 (committed_at w k o p)
committed_ok n b0 w k None p f is at = f
committed_ok n b0 w k (Some v) None f is at = f
committed_ok n b0 w k (Some v) (Some e) f is at = cond_cases (NetFits n b0) (nat_lt (length (w.nodes k).done) v.commit) _ _
    (λ t.
    let node : Node = w.nodes k in
    let log : List LogEntry = full node.stored in
    let g : NodeRuns n f.book k node.stored v node.done = (f.nodes k).runs v is in
    let less : length node.done < v.commit = grind (arith, nat_tests) in
    let ys : List LogEntry = node.done ++ e ∷ [] in
    let in' : IsPrefix ys (take v.commit log) = next_prefix node.done log e v.commit g.done_in at less in
    let runs : NodeRuns n f.book k node.stored v ys = record { runs = g.runs; done_in = in' } in
    record {
      book = f.book;
      since = f.since;
      inv = f.inv;
      nodes = λ j. set_at_cases (λ x. NodeFits n f.book j x) w.nodes k (record { stored = node.stored; running = Some v; done = ys }) j
          (λ here. rw here (record {
            stored = (f.nodes k).stored;
            runs = λ x q. subst (λ y. NodeRuns n f.book k node.stored y ys) (some_same v x q) runs;
            done_term = node.stored.held.term;
            done_backed = backed_begins n f.book node.stored.held.term ys (take v.commit log) in' g.runs.committed;
          }))
          (λ o. f.nodes j);
      mails = f.mails;
    })
    (λ _. f)

pub happens_ok : {I : Type 0} (n : ℕ) (b0 : Book) (w : Net I) (e : Event I) → NetFits n b0 w → NetFits n b0 (happens n w e)
happens_ok n b0 w (Does s) f = steps_ok n b0 w s None f
happens_ok n b0 w (Tears s j) f = steps_ok n b0 w s (Some j) f
happens_ok n b0 w (Starts k) f = started_ok n b0 w k f
happens_ok n b0 w (Commits k) f = committed_ok n b0 w k (w.nodes k).running (slice_get (full (w.nodes k).stored) (length (w.nodes k).done)) f refl refl

pub run_ok : {I : Type 0} (n : ℕ) (b0 : Book) (es : List (Event I)) (w : Net I) → NetFits n b0 w → NetFits n b0 (run n es w)
run_ok n b0 [] w f = f
run_ok n b0 (e ∷ es) w f = run_ok n b0 es (happens n w e) (happens_ok n b0 w e f)

pub blank_ok : {I : Type 0} (n : ℕ) → NetFits {I = I} n empty_book blank
blank_ok {I = I} n = record {
  book = empty_book;
  since = grows_self empty_book;
  inv = empty_invariant n;
  nodes = λ k. record {
    stored = record { term = refl; vote = refl; log = refl; base = refl; base_term = refl; backed = inl refl };
    runs = λ x e. subst (λ y. NodeRuns n empty_book k ((blank {I = I}).nodes k).stored y []) (some_same (started 0) x e) (record {
      runs = record { base_in = omega arith; commit_in = omega arith; committed = inl refl; stands = λ y. absurd cc; leads = λ y. absurd cc };
      done_in = ([], refl);
    });
    done_term = 0;
    done_backed = inl refl;
  };
  mails = tt;
}

-- a network that fits, from itself on
again : {I : Type 0} (n : ℕ) (b0 : Book) (w : Net I) → (f : NetFits n b0 w) → NetFits n f.book w
again n b0 w f = record { book = f.book; since = grows_self f.book; inv = f.inv; nodes = f.nodes; mails = f.mails }

pub one_log_holds : (I : Type 0) → OneLog I
one_log_holds I n es fs j k =
    let early : Net I = run n es blank in
    let late : Net I = run n fs early in
    let f : NetFits n empty_book early = run_ok n empty_book es blank (blank_ok n) in
    let g : NetFits n f.book late = run_ok n f.book fs early (again n empty_book early f) in
    let x : NodeFits n f.book j (early.nodes j) = f.nodes j in
    let y : NodeFits n g.book k (late.nodes k) = g.nodes k in
    let x' : Backed n g.book x.done_term (early.nodes j).done = backed_grows n f.book g.book x.done_term x.done_term (early.nodes j).done g.since (omega arith) x.done_backed in
    ⊎_elim
    (λ (l : length (early.nodes j).done ≤ length (late.nodes k).done). inl (backed_prefix n g.book x.done_term y.done_term _ _ g.inv x' y.done_backed l))
    (λ (l : length (late.nodes k).done ≤ length (early.nodes j).done). inr (backed_prefix n g.book y.done_term x.done_term _ _ g.inv y.done_backed x' l))
    (grind arith)
