-- An image that a leader sends takes the place of the own state.
use Rattle.std.proofs.Common.{◌≡◌, ℕ, ◌+◌, ◌-◌, ◌≤◌, Bool, true, false, cond, not, ◌&&◌, List, [], ◌∷◌, ◌++◌, length, take, drop, Option, Some, None, refl, ap, sym, subst, ◌∙◌, arith, append-nil}
use Rattle.std.proofs.lemmas.Bool.Decides.{nat_tests}
use Rattle.std.proofs.lemmas.List.{length-drop, take_all}
use Rattle.std.specs.Prelude.{nat_le, nat_lt, ◌==◌, slice_get, option_map, is_some, IfSome, Ok, if◌then◌else◌}
use Rattle.std.specs.Ordering.{nat_cmp}
use Rattle.std.specs.FinMap.{FinMap}
use Rattle.kp_model.specs.declared.read.Role.TheVariants.{Follower}
use Rattle.kp_model.specs.LogEntry.{LogEntry}
use Rattle.kp_entry.specs.Entries.{entries}
use Rattle.kp_entry.specs.Decoding.{IsEntryOf}
use Rattle.kp_entry.specs.Log.{Log, behind, entry_at, has_index, last_index, kept_behind, rebased}
use Rattle.kp_entry.specs.declared.record.Record.TheVariants as record_
use Rattle.kp_entry.specs.Held.{Held, replay}
use Rattle.kp_entry.proofs.Replays.{replay_append}
use Rattle.kp_model.specs.Store.{Store}
use Rattle.kp_expiry.specs.declared.heard.Heard.{Heard}
use Rattle.kp_raft.specs.declared.mail.Mail.TheVariants as mail
use Rattle.kp_raft.specs.declared.event.RaftOut.{RaftOut}
use Rattle.kp_raft.specs.Parts.{Running, Outcome, nothing, vote_records, vote_at, following, to}
use Rattle.kp_raft.specs.Appends.{refusal}
use Rattle.kp_raft.specs.Steps.{passes}
use Rattle.kp_raft.specs.Members.{Member, running_of, Steps as RaftSteps}
use Rattle.kp_raft.proofs.Replays.{replay_vote}
use Rattle.kp_snapshot.specs.Snapshots.{Snapshot}
use Rattle.kp_step.specs.Asking.{is_whole}
use Rattle.kp_step.specs.Step.{all_heard}
use Rattle.kp_node.specs.Steps.{images}
use Rattle.kp_node.specs.declared.installs.Made.{Made}
use Rattle.kp_node.specs.declared.installs.Sending.{Sending}
use Rattle.kp_node.specs.Appending.{Agrees}
use Rattle.kp_node.specs.Installing.{Installs, IsMadeIf, mail_of, reaction_to, image_by, store_in, heard_in, stored, state_behind, is_taken}
use Rattle.kp_node.proofs.Maps.{no}
use Rattle.kp_node.proofs.Appended.{get_dropped, taken_on, and_left, and_right, is_le}

-- ---- the entries behind an image

-- an entry is read back from its bytes
pub read_back : (o : Option LogEntry) (bytes : List ℕ) (d : LogEntry × ℕ) → Some bytes ≡ option_map entries.spell o → IfSome o entries.Fits → ((e : LogEntry) (more : List ℕ) → entries.Fits e → bytes ≡ entries.spell e ++ more → IsEntryOf e (length (entries.spell e)) (Ok d)) → Some d.0 ≡ o
read_back None bytes d is fits only = absurd (cc is)
read_back (Some e) bytes d is fits only = let same : bytes ≡ entries.spell e = cc is in ap Some (only e [] fits (same ∙ sym (append-nil (entries.spell e)))).0

module _ (log : Log) (i : ℕ) (there : has_index log i ≡ true) where
  low : log.base ≤ i
  low = is_le log.base i (and_left (nat_le log.base i) (nat_le i (last_index log)) there)

  high : i ≤ last_index log
  high = is_le i (last_index log) (and_right (nat_le log.base i) (nat_le i (last_index log)) there)

  len_behind : length (behind log i) ≡ last_index log - i
  len_behind = let len = length-drop (i - log.base) log.entries in let a = low in let b = high in omega (arith, len, a, b)

  entry_there : (k : ℕ) → i ≤ k → entry_at log (k + 1) ≡ slice_get (behind log i) (k - i)
  entry_there k le =
      let a = low in
      let above : nat_le (k + 1) log.base ≡ false = grind (arith, nat_tests, a, le) in
      let place : k + 1 - log.base - 1 ≡ (i - log.base) + (k - i) = omega (arith, a, le) in
      ap (λ b. cond b None (slice_get log.entries (k + 1 - log.base - 1))) above
      ∙ ap (λ n. slice_get log.entries n) place ∙ sym (get_dropped (i - log.base) (k - i) log.entries)

  one_more_of : (old new : List LogEntry) (k : ℕ) → i ≤ k → old ≡ take (k - i) (behind log i) → (o : Option LogEntry) → o ≡ slice_get (behind log i) (k - i) → Some new ≡ option_map (λ e. old ++ e ∷ []) o → new ≡ take (k + 1 - i) (behind log i)
  one_more_of old new k le so_far None is one = absurd (cc one)
  one_more_of old new k le so_far (Some e) is one =
      let next : k + 1 - i ≡ k - i + 1 = omega (arith, le) in
      let made : new ≡ old ++ e ∷ [] = cc one in
      made ∙ ap (λ ys. ys ++ e ∷ []) so_far ∙ sym (taken_on (behind log i) (k - i) e is) ∙ sym (ap (λ n. take n (behind log i)) next)

  pub one_more : (old new : List LogEntry) (k : ℕ) → i ≤ k → old ≡ take (k - i) (behind log i) → Some new ≡ option_map (λ e. old ++ e ∷ []) (entry_at log (k + 1)) → new ≡ take (k + 1 - i) (behind log i)
  one_more old new k le so_far one = one_more_of old new k le so_far (entry_at log (k + 1)) (entry_there k le) one

  pub all_there : (list : List LogEntry) (k : ℕ) → last_index log ≤ k → list ≡ take (k - i) (behind log i) → list ≡ behind log i
  all_there list k le so_far = let len = len_behind in so_far ∙ take_all (k - i) (behind log i) (omega (arith, len, le))

-- ---- what Raft does with an image, by what it tests

module _ (me : ℕ) (h : Held) (v : Running) (term from index index_term : ℕ) (image : Snapshot) where
  abbrev pub reaction_as : Bool → Bool → Bool → Outcome Snapshot
  reaction_as a b c = cond a (cond b (record { records = []; running = v; mail = refusal me from h.term h.log })
      (cond c (record { records = vote_records h term (vote_at h term); running = following v from; mail = to from (mail.InstallRep term me v.commit) })
      (record { records = vote_records h term (vote_at h term) ++ record_.Base index index_term ∷ []; running = record { role = Follower; leader = from; commit = index; votes = v.votes; matches = v.matches; nexts = v.nexts }; mail = to from (mail.InstallRep term me index) }))) (nothing v)

  abbrev pub image_as : Bool → Bool → Bool → Option Snapshot
  image_as a b c = cond a (cond b None (cond c None (Some image))) None

  pub record Stays (o : Outcome Snapshot) (i : Option Snapshot) : Type 0 where
    pub log : (replay h o.records).log ≡ h.log
    pub commit : o.running.commit ≡ v.commit
    pub no_image : i ≡ None

  pub record Moves (o : Outcome Snapshot) (i : Option Snapshot) : Type 0 where
    pub log : (replay h o.records).log ≡ rebased h.log index index_term
    pub commit : o.running.commit ≡ index
    pub image_is : i ≡ Some image

  stays : (a b c : Bool) → (a && (not b && not c)) ≡ false → Stays (reaction_as a b c) (image_as a b c)
  stays false b c is = record { log = refl; commit = refl; no_image = refl }
  stays true true c is = record { log = refl; commit = refl; no_image = refl }
  stays true false true is = record { log = ap (λ (k : Held). k.log) (replay_vote h term (vote_at h term)); commit = refl; no_image = refl }
  stays true false false is = absurd (no true is refl)

  moves : (a b c : Bool) → (a && (not b && not c)) ≡ true → Moves (reaction_as a b c) (image_as a b c)
  moves true false false is = record {
    log = ap (λ (k : Held). k.log) (replay_append h (vote_records h term (vote_at h term)) (record_.Base index index_term ∷ []) ∙ ap (λ (k : Held). replay k (record_.Base index index_term ∷ [])) (replay_vote h term (vote_at h term)));
    commit = refl;
    image_is = refl;
  }
  moves false b c is = absurd (no false refl is)
  moves true true c is = absurd (no false refl is)
  moves true false true is = absurd (no false refl is)

same_numbers : (a b : ℕ) → (a == b) ≡ true → a ≡ b
same_numbers a b e = grind (arith, nat_tests, e)

module _ (x : Member) (s : Store) (agrees : Agrees x s) (q : Sending) (whole : is_whole images q.index q.index_term q.image ≡ true) where
  at_index : q.image.state.applied ≡ q.index
  at_index = same_numbers q.image.state.applied q.index (and_left (q.image.state.applied == q.index) (q.image.term == q.index_term) whole)

  at_term : q.image.term ≡ q.index_term
  at_term = same_numbers q.image.term q.index_term (and_right (q.image.state.applied == q.index) (q.image.term == q.index_term) whole)

  untaken_so : is_taken x (mail_of q) q.term q.index ≡ false → Stays x.node x.held (running_of x) q.term q.from q.index q.index_term q.image (reaction_to x (mail_of q)) (image_by x (mail_of q))
  untaken_so is = stays x.node x.held (running_of x) q.term q.from q.index q.index_term q.image (passes x.members x.node (last_index x.held.log) (mail_of q)) (nat_lt q.term x.held.term) (nat_le q.index x.vars.commit) is

  taken_so : is_taken x (mail_of q) q.term q.index ≡ true → Moves x.node x.held (running_of x) q.term q.from q.index q.index_term q.image (reaction_to x (mail_of q)) (image_by x (mail_of q))
  taken_so is = moves x.node x.held (running_of x) q.term q.from q.index q.index_term q.image (passes x.members x.node (last_index x.held.log) (mail_of q)) (nat_lt q.term x.held.term) (nat_le q.index x.vars.commit) is

  module _ (now : ℕ) (h : FinMap nat_cmp Heard) (out : RaftOut Snapshot) (y : Member) (steps : RaftSteps x (reaction_to x (mail_of q)) out y) (image : out.image ≡ image_by x (mail_of q)) where
    left_alone : is_taken x (mail_of q) q.term q.index ≡ false → Installs now (mail_of q) x s h out y s h
    left_alone is =
        let f = untaken_so is in
        let none : out.image ≡ None = image ∙ f.no_image in
        let log : y.held.log ≡ x.held.log = ap (λ (k : Held). k.log) steps.held ∙ f.log in
        let commit : y.vars.commit ≡ x.vars.commit = ap (λ r. r.commit) steps.running ∙ f.commit in
        record {
          steps = steps;
          image = image;
          agrees = record {
            unapplied = agrees.unapplied ∙ ap (λ l. behind l s.state.applied) (sym log);
            from = subst (λ (l : Log). l.base ≤ s.state.applied) (sym log) agrees.from;
            to = subst (λ c. s.state.applied ≤ c) (sym commit) agrees.to;
          };
          state = sym (ap (state_behind s) none);
          heard = sym (ap (λ (i : Option Snapshot). if is_some i then all_heard now s.state.sessions else h) none);
        }

    replaced : is_taken x (mail_of q) q.term q.index ≡ true → Installs now (mail_of q) x s h out y (stored x.held.log q.image) (all_heard now q.image.state.sessions)
    replaced is =
        let f = taken_so is in
        let some : out.image ≡ Some q.image = image ∙ f.image_is in
        let i = q.image.state.applied in
        let log : y.held.log ≡ rebased x.held.log i q.image.term = ap (λ (k : Held). k.log) steps.held ∙ f.log ∙ ap (λ n. rebased x.held.log n q.index_term) (sym at_index) ∙ ap (λ n. rebased x.held.log i n) (sym at_term) in
        let commit : y.vars.commit ≡ q.index = ap (λ r. r.commit) steps.running ∙ f.commit in
        let base : y.held.log.base ≡ i = ap (λ (l : Log). l.base) log in
        let at = at_index in
        let z : i - i ≡ 0 = omega arith in
        record {
          steps = steps;
          image = image;
          agrees = record {
            unapplied = sym (ap (λ (l : Log). behind l i) log ∙ ap (λ n. drop n (kept_behind x.held.log i q.image.term)) z);
            from = omega (arith, base);
            to = omega (arith, commit, at);
          };
          state = sym (ap (state_behind s) some);
          heard = sym (ap (λ (o : Option Snapshot). if is_some o then all_heard now q.image.state.sessions else h) some);
        }

    installs_by : (made : Option Made) → IsMadeIf now x q made → Installs now (mail_of q) x s h out y (store_in made s) (heard_in made h)
    installs_by None is = left_alone is
    installs_by (Some made) is =
        subst (λ (t : Store). Installs now (mail_of q) x s h out y t made.expiry) (sym is.1.store)
        (subst (λ (g : FinMap nat_cmp Heard). Installs now (mail_of q) x s h out y (stored x.held.log q.image) g) (sym is.1.heard) (replaced is.0))

-- a member that was made ready before takes it as it would have been taken then
unready : (o : Outcome Snapshot) (x : Member) (out : RaftOut Snapshot) (y : Member) → RaftSteps (record x { ready = true }) o out y → RaftSteps x o out y
unready o x out y b = record { records = b.records; mail = b.mail; added = b.added; truncated = b.truncated; node = b.node; members = b.members; held = b.held; running = b.running; ready = b.ready }

pub installs_so : (x z : Member) (s : Store) (q : Sending) → Agrees x s → is_whole images q.index q.index_term q.image ≡ true → z ≡ record x { ready = true } → (now : ℕ) (made : Option Made) → IsMadeIf now x q made → (h : FinMap nat_cmp Heard) (out : RaftOut Snapshot) (y : Member)
    → RaftSteps z (reaction_to z (mail_of q)) out y → out.image ≡ image_by z (mail_of q) → (t : Store) (g : FinMap nat_cmp Heard) → t ≡ store_in made s → g ≡ heard_in made h → Installs now (mail_of q) x s h out y t g
installs_so x z s q agrees whole is now made m h out y steps image t g store heard =
    subst (λ (u : Store). Installs now (mail_of q) x s h out y u g) (sym store) (subst (λ (k : FinMap nat_cmp Heard). Installs now (mail_of q) x s h out y (store_in made s) k) (sym heard)
    (installs_by x s agrees q whole now h out y (unready (reaction_to x (mail_of q)) x out y (subst (λ (u : Member). RaftSteps u (reaction_to u (mail_of q)) out y) is steps)) (image ∙ ap (λ (u : Member). image_by u (mail_of q)) is) made m))
