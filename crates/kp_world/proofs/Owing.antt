-- What a step owes to the network.
use Rattle.std.proofs.Common.{◌≡◌, ℕ, ◌≤◌, sym, ap, ◌∙◌, arith, List, length, take, subst}
use mathlib.Core.List.{IsPrefix}
use Rattle.kp_model.specs.LogEntry.{LogEntry}
use Rattle.kp_entry.specs.declared.record.Record.{Record}
use Rattle.kp_entry.specs.Log.{term_of}
use Rattle.kp_entry.specs.Held.{replay}
use Rattle.kp_raft.specs.Parts.{Running, Outcome}
use Rattle.kp_world.specs.Log.{last_term}
use Rattle.kp_world.specs.Book.{Book}
use Rattle.kp_world.proofs.Prefixes.{prefix_trans, take_prefix}
use Rattle.kp_world.specs.Net.{Stored, full, front_behind, behind_records, Act}
use Rattle.kp_world.proofs.Takes.{take_length, take_most, prefix_is_take}
use Rattle.kp_world.proofs.Reach.{Reaches}
use Rattle.kp_world.proofs.Link.{Backed, StoredFits, RunningFits, OutFits, behind_plain, HasNoBase, no_base_front, no_base_take, Result, backed_grows}
use Rattle.kp_world.proofs.Views.{backed_prefix, is_behind, term_view}

-- a running member: what it has applied begins what is committed
pub record NodeRuns (n : ℕ) (b : Book) (k : ℕ) (s : Stored) (v : Running) (done : List LogEntry) : Type 0 where
  pub runs : RunningFits n b k s v
  pub done_in : IsPrefix done (take v.commit (full s))

pub record Owes {I : Type 0} (n k : ℕ) (b : Book) (s : Stored) (a : Act I) : Type 0 where
  pub book : Book
  pub reaches : Reaches n k b book
  pub torn : (j : ℕ) → (c : Book) × Reaches n k b c × StoredFits n c k (behind_records a.list s (take j a.out.records))
  pub stored : StoredFits n book k (behind_records a.list s a.out.records)
  pub runs : NodeRuns n book k (behind_records a.list s a.out.records) a.out.running a.done
  pub sends : OutFits n book a.list a.out.mail

plain_is : (list : List LogEntry) (s : Stored) (rs : List Record) → HasNoBase rs → behind_plain s rs ≡ behind_records list s rs
plain_is list s rs p = ap (λ (xs : List LogEntry). record { held = replay s.held rs; front = xs }) (sym (no_base_front list s.front rs p))

-- a step with no new base
pub lift : {I : Type 0} (n k : ℕ) (b : Book) (s : Stored) (v : Running) (list done : List LogEntry) (out : Outcome I) → StoredFits n b k s → NodeRuns n b k s v done → Result n k b s v list out → Owes n k b s (record { out = out; list = list; done = done })
lift n k b s v list done out f g r =
    let d : Book = r.book in
    let s2 : Stored = behind_plain s out.records in
    let is : s2 ≡ behind_records list s out.records = plain_is list s out.records r.plain in
    let old : Backed n d s.held.term (take v.commit (full s)) = backed_grows n b d s.held.term s.held.term _ r.reaches.grows (omega arith) g.runs.committed in
    record {
      book = d;
      reaches = r.reaches;
      torn = λ j.
          let t = r.torn j in
          (t.0, t.1, subst (λ x. StoredFits n t.0 k x) (plain_is list s (take j out.records) (no_base_take j out.records r.plain)) t.2);
      stored = subst (λ x. StoredFits n d k x) is r.keeps;
      runs = subst (λ x. NodeRuns n d k x out.running done) is (record {
        runs = r.runs;
        done_in = prefix_trans done (take v.commit (full s)) _ g.done_in
            (backed_prefix n d s.held.term _ (take v.commit (full s)) (take out.running.commit (full s2)) r.reaches.inv old r.runs.committed
            (omega (arith, take_most v.commit (full s), take_length out.running.commit (full s2) r.runs.commit_in, r.more)));
      });
      sends = r.sends;
    }

-- what a message makes a member do
pub record Heard {I : Type 0} (n k : ℕ) (b : Book) (s : Stored) (list done : List LogEntry) (out : Outcome I) : Type 0 where
  pub owes : Owes n k b s (record { out = out; list = list; done = front_behind list done out.records })

pub lift_heard : {I : Type 0} (n k : ℕ) (b : Book) (s : Stored) (v : Running) (list done : List LogEntry) (out : Outcome I) → StoredFits n b k s → NodeRuns n b k s v done → Result n k b s v list out → Heard n k b s list done out
lift_heard n k b s v list done out f g r = record { owes = subst (λ (ds : List LogEntry). Owes n k b s (record { out = out; list = list; done = ds })) (sym (no_base_front list done out.records r.plain)) (lift n k b s v list done out f g r) }

-- what an image is of
pub image_is : (n : ℕ) (b : Book) (k : ℕ) (s : Stored) (v : Running) (done : List LogEntry) (index : ℕ) → NodeRuns n b k s v done → index ≤ length done → take index done ≡ take index (full s)
image_is n b k s v done index g l =
    let w : IsPrefix (take index done) (full s) = prefix_trans (take index done) done (full s) (take_prefix index done) (prefix_trans done (take v.commit (full s)) (full s) g.done_in (take_prefix v.commit (full s))) in
    prefix_is_take (take index done) (full s) w ∙ ap (λ j. take j (full s)) (take_length index done l)

pub image_term : (n : ℕ) (b : Book) (k : ℕ) (s : Stored) (v : Running) (done : List LogEntry) (index : ℕ) → StoredFits n b k s → NodeRuns n b k s v done → s.held.log.base ≤ index → index ≤ length done → last_term (take index done) ≡ term_of s.held.log index
image_term n b k s v done index f g low l = ap last_term (image_is n b k s v done index g l) ∙ term_view s.front s.held.log index (is_behind n b k s f) low
