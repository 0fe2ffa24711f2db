-- What the steps of a member come to.
use Rattle.std.proofs.Common.{◌≡◌, ℕ, zero, suc, ◌+◌, ◌-◌, ◌≤◌, true, false, List, [], ◌∷◌, ◌++◌, length, length-append, take, drop, get_or, append_assoc, subst, ◌<◌, refl, sym, ◌∙◌, ap, arith, append-nil, Option, Some, None, Result, Ok, Err}
use Rattle.std.specs.Prelude.{Bool, ◌||◌, ◌&&◌, min, max, nat_eq, nat_lt, nat_le, cond, IfOk}
use Rattle.std.proofs.lemmas.Bool.Decides.{nat_tests}
use Rattle.std.proofs.lemmas.List.{drop-take}
use Rattle.kp_model.specs.LogEntry.{LogEntry}
use Rattle.kp_entry.specs.declared.record.Record.{Record}
use Rattle.kp_entry.specs.declared.record.Record.TheVariants as record_
use Rattle.kp_entry.specs.Heads.{voted, cut_off, appended, part_of}
use Rattle.kp_entry.specs.Records.{is_base, has_base}
use Rattle.std.proofs.lemmas.List.{map-append}
use Rattle.std.proofs.lemmas.List.Folds.{list_any-append}
use Rattle.kp_entry.specs.Log.{Log, last_index, term_of, behind, with_entries, truncated, rebased}
use Rattle.kp_raftlog.proofs.Totals.{all_taken, len_taken, len_dropped, all_dropped}
use Rattle.kp_raft.proofs.Lists.{next_taken}
use Rattle.kp_raft.specs.declared.mail.Mail.{Mail}
use Rattle.kp_raft.specs.declared.event.RaftOut.{RaftOut}
use Rattle.kp_raft.specs.declared.vars.Vars.{Vars}
use Rattle.kp_entry.specs.Held.{Held, replay}
use Rattle.kp_raft.specs.Parts.{Running, Outcome, nothing, vote_at, vote_records, with_cut, changes, listed, cut_log, kept_to}
use Rattle.kp_raft.specs.declared.append.AppendMail.{AppendMail}
use Rattle.kp_raft.specs.declared.append.Weighed.{Weighed}
use Rattle.kp_raft.specs.declared.append.Weigh.TheVariants as weigh
use Rattle.kp_model.specs.Majority.{is_majority}
use Rattle.kp_raft.specs.Rules.{committed, leads, with_vote, on_vote}
use Rattle.kp_raft.specs.Appends.{agreeing, fits, below_base, matched, clashes, keep_of, missing, committing, acceptance, fitted}
use Rattle.kp_raft.specs.Steps.{added, cut_to, fitting}
use Rattle.kp_raft.specs.Variables.{vars_of}
use Rattle.kp_raft.specs.Members.{Member, running_of, shown, Steps}
use Rattle.kp_raft.proofs.Replays.{held_with, added_entries, replay_vote, replay_still, replay_changes, still_adds, still_cuts, changes_add, changes_cut, changes_none, vote_same}
use Rattle.kp_entry.proofs.Replays.{replay_append}

pub heads : (rs : List Record) (cut : Option ℕ) → rs ++ cut_off cut ≡ with_cut rs cut
heads rs None = append-nil rs
heads rs (Some k) = refl

pub still_steps : {I : Type 0} (old : Member) (node members term vote : ℕ) (log new : Log) (before vars : Vars) (ready : Bool) (t v : ℕ) (keep : Option ℕ) (answer : Option (ℕ × Mail I)) (ballot : Option (ℕ × ℕ)) (records : List Record) (mail : List (ℕ × Mail I))
    → shown node members term vote log before ready ≡ record old { ready = false }
    → new ≡ cut_log log keep
    → voted ballot ≡ vote_records old.held t v
    → records ≡ voted ballot ++ cut_off keep
    → mail ≡ listed answer
    → Steps old (record { records = with_cut (vote_records old.held t v) keep; running = vars_of vars; mail = listed answer }) (record { added = 0; truncated = keep; image = None; records = records; mail = mail }) (shown node members t v new vars ready)
still_steps old node members term vote log new before vars ready t v keep answer ballot records mail view cut_is ballot_is records_is mail_is = record {
  records = records_is ∙ ap (λ (rs : List Record). rs ++ cut_off keep) ballot_is ∙ heads (vote_records old.held t v) keep;
  mail = mail_is;
  added = sym (still_adds old.held t v keep);
  truncated = sym (still_cuts old.held t v keep);
  node = ap (λ (m : Member). m.node) view;
  members = ap (λ (m : Member). m.members) view;
  held = ap (λ (l : Log). held_with t v l) (cut_is ∙ ap (λ (m : Member). cut_log m.held.log keep) view) ∙ sym (replay_still old.held t v keep);
  running = refl;
  ready = ap (λ (m : Member). m.ready) view;
}

cut_is : (log : Log) (keep : Option ℕ) → truncated log (kept_to log keep) ≡ cut_log log keep
cut_is log None = ap (λ (es : List LogEntry). record { base = log.base; base_term = log.base_term; entries = es }) (all_taken (log.base + length log.entries - log.base) log.entries (omega arith))
cut_is log (Some k) = refl

pub change_steps : {I : Type 0} (old : Member) (node members term vote : ℕ) (log new : Log) (before vars : Vars) (ready : Bool) (t v from n : ℕ) (keep : Option ℕ) (ballot : Option (ℕ × ℕ)) (es : List LogEntry) (records : List Record) (mail : List (ℕ × Mail I))
    → shown node members term vote log before ready ≡ old
    → from ≡ kept_to log keep
    → new ≡ with_entries (truncated log from) es
    → voted ballot ≡ vote_records old.held t v
    → records ≡ (voted ballot ++ cut_off keep) ++ appended es
    → n ≡ length es
    → Steps old (record { records = changes old.held t v keep es; running = vars_of vars; mail = mail }) (record { added = n; truncated = keep; image = None; records = records; mail = mail }) (shown node members t v new vars false)
change_steps old node members term vote log new before vars ready t v from n keep ballot es records mail view from_is new_is ballot_is records_is count = record {
  records = records_is ∙ ap (λ (rs : List Record). rs ++ appended es) (ap (λ (rs : List Record). rs ++ cut_off keep) ballot_is ∙ heads (vote_records old.held t v) keep);
  mail = refl;
  added = count ∙ sym (changes_add old.held t v keep es);
  truncated = sym (changes_cut old.held t v keep es);
  node = ap (λ (m : Member). m.node) view;
  members = ap (λ (m : Member). m.members) view;
  held =
      ap (λ (l : Log). held_with t v l) (new_is ∙ ap (λ (i : ℕ). with_entries (truncated log i) es) from_is ∙ ap (λ (l : Log). with_entries l es) (cut_is log keep) ∙ ap (λ (m : Member). with_entries (cut_log m.held.log keep) es) view)
      ∙ sym (replay_changes old.held t v keep es);
  running = refl;
  ready = refl;
}

pub same_steps : {I : Type 0} (old new : Member) (t v : ℕ) (vars : Vars) (mail : List (ℕ × Mail I)) (out : RaftOut I) → t ≡ old.held.term → v ≡ old.held.vote
    → Steps old (record { records = vote_records old.held t v; running = vars_of vars; mail = mail }) out new
    → Steps old (record { records = []; running = vars_of vars; mail = mail }) out new
same_steps {I} old new t v vars mail out term vote s =
    let none : vote_records old.held t v ≡ [] = ap (λ (n : ℕ). vote_records old.held n v) term ∙ ap (λ (n : ℕ). vote_records old.held old.held.term n) vote ∙ vote_same old.held in
    subst (λ (rs : List Record). Steps old (record { records = rs; running = vars_of vars; mail = mail }) out new) none s

-- ---- records of entries, one behind the other

both_open : (a b : Bool) → a ≡ false → b ≡ false → (a || b) ≡ false
both_open true b p q = absurd (cc p)
both_open false b p q = q

pub stays_open : (rs : List Record) (e : LogEntry) → has_base rs ≡ false → has_base (rs ++ record_.Append e ∷ []) ≡ false
stays_open rs e none = list_any-append is_base rs (record_.Append e ∷ []) ∙ both_open (has_base rs) (has_base (record_.Append e ∷ [])) none refl

pub goes_on : (old self new : List Record) (es : List LogEntry) (i : ℕ) (e : LogEntry) → i < length es → e ≡ get_or es i e → self ≡ old ++ appended (take i es) → new ≡ self ++ record_.Append e ∷ [] → new ≡ old ++ appended (take (i + 1) es)
goes_on old self new es i e lt is so_far added =
    added ∙ ap (λ (rs : List Record). rs ++ record_.Append e ∷ []) so_far ∙ append_assoc old (appended (take i es)) (record_.Append e ∷ [])
    ∙ ap (λ (rs : List Record). old ++ rs) (sym (ap appended (next_taken es i e lt is) ∙ map-append (λ (x : LogEntry). record_.Append x) (take i es) (e ∷ [])))

-- ---- an append that is taken

-- what is weighed as taken
pub taken_is : (log : Log) (commit : ℕ) (m : AppendMail) (w : Weighed) (b : Bool) → clashes log m.prev m.entries commit ≡ b → w ≡ fitting log commit m → w.kind ≡ weigh.Taken → (w.matched ≡ matched log m.prev m.entries) × (w.keep ≡ keep_of log m.prev m.entries)
taken_is log commit m w true clash is kind =
    let dropped : fitting log commit m ≡ record { kind = weigh.Dropped; matched = 0; keep = None } = rw clash refl in
    let no : weigh.Dropped ≡ weigh.Taken = sym (ap (λ (x : Weighed). x.kind) (is ∙ dropped)) ∙ kind in
    absurd (cc no)
taken_is log commit m w false clash is kind =
    let taken : fitting log commit m ≡ record { kind = weigh.Taken; matched = matched log m.prev m.entries; keep = keep_of log m.prev m.entries } = rw clash refl in
    (ap (λ (x : Weighed). x.matched) (is ∙ taken), ap (λ (x : Weighed). x.keep) (is ∙ taken))

pub if_ok : {X E : Type 0} {P Q : X → Type 0} (r : Result X E) → ((x : X) → P x → Q x) → IfOk r P → IfOk r Q
if_ok (Ok x) f h = f x h
if_ok (Err e) f h = tt

pub fitted_is : {I : Type 0} (old : Member) (m : AppendMail) (j vote bound : ℕ) (w : Weighed) (before vars : Vars) (es : List LogEntry) (mails : List (ℕ × Mail I))
    → w ≡ fitting old.held.log old.vars.commit m → w.kind ≡ weigh.Taken → w.matched ≤ j
    → vote ≡ vote_at old.held m.term → before ≡ old.vars → vars_of vars ≡ committing (vars_of before) m.from bound → bound ≡ min m.commit (m.prev + j)
    → es ≡ drop w.matched (take j m.entries) → mails ≡ acceptance old.node m.from m.term (m.prev + j)
    → record { records = changes old.held m.term vote w.keep es; running = vars_of vars; mail = mails } ≡ fitted {I = I} old.node old.held (running_of old) m j
fitted_is {I} old m j vote bound w before vars es mails is kind le vote_is before_is vars_is bound_is es_is mails_is =
    let t = taken_is old.held.log old.vars.commit m w (clashes old.held.log m.prev m.entries old.vars.commit) refl is kind in
    let entries : es ≡ missing old.held.log m.prev m.entries j = es_is ∙ ap (λ (k : ℕ). drop k (take j m.entries)) t.0 in
    let running : vars_of vars ≡ committing (running_of old) m.from (min m.commit (m.prev + j)) = vars_is ∙ ap (λ (x : Vars). committing (vars_of x) m.from bound) before_is ∙ ap (λ (n : ℕ). committing (running_of old) m.from n) bound_is in
    ap (λ (n : ℕ). record { records = changes old.held m.term n w.keep es; running = vars_of vars; mail = mails }) vote_is
    ∙ ap (λ (k : Option ℕ). record { records = changes old.held m.term (vote_at old.held m.term) k es; running = vars_of vars; mail = mails }) t.1
    ∙ ap (λ (xs : List LogEntry). record { records = changes old.held m.term (vote_at old.held m.term) (keep_of old.held.log m.prev m.entries) xs; running = vars_of vars; mail = mails }) entries
    ∙ ap (λ (v : Running). record { records = changes old.held m.term (vote_at old.held m.term) (keep_of old.held.log m.prev m.entries) (missing old.held.log m.prev m.entries j); running = v; mail = mails }) running
    ∙ ap (λ (ms : List (ℕ × Mail I)). record { records = changes old.held m.term (vote_at old.held m.term) (keep_of old.held.log m.prev m.entries) (missing old.held.log m.prev m.entries j); running = committing (running_of old) m.from (min m.commit (m.prev + j)); mail = ms }) mails_is

pub steps_as : {I : Type 0} (old new : Member) (o p : Outcome I) (out : RaftOut I) → o ≡ p → Steps old o out new → Steps old p out new
steps_as {I} old new o p out is s = subst (λ (x : Outcome I). Steps old x out new) is s

-- what adds no entry was matched up to there
pub none_missing : (h : Held) (t v : ℕ) (cut : Option ℕ) (k j : ℕ) (es : List LogEntry) → k ≤ j → j ≤ length es → added (changes h t v cut (drop k (take j es))) ≡ 0 → k ≡ j
none_missing h t v cut k j es le within none =
    let len : length (drop k (take j es)) ≡ j - k = len_dropped k (take j es) ∙ ap (λ (n : ℕ). n - k) (len_taken j es within) in
    let sum : added (changes h t v cut (drop k (take j es))) ≡ length (drop k (take j es)) = changes_add h t v cut (drop k (take j es)) in
    omega (arith, len, sum, none, le)

pub fitted_matched : (I : Type 0) (me : ℕ) (h : Held) (v : Running) (m : AppendMail) (j : ℕ) (w : Weighed) → w ≡ fitting h.log v.commit m → w.kind ≡ weigh.Taken → w.matched ≤ j → j ≤ length m.entries → added (fitted {I = I} me h v m j).records ≡ 0 → w.matched ≡ j
fitted_matched I me h v m j w is kind le within none =
    let t = taken_is h.log v.commit m w (clashes h.log m.prev m.entries v.commit) refl is kind in
    let same : w.matched ≡ matched h.log m.prev m.entries = t.0 in
    same ∙ none_missing h m.term (vote_at h m.term) (keep_of h.log m.prev m.entries) (matched h.log m.prev m.entries) j m.entries (omega (arith, same, le)) within none

-- ---- what a leader appends

pub own_steps : {I : Type 0} (old : Member) (node members term vote : ℕ) (log new : Log) (before vars after : Vars) (ready : Bool) (t v from n : ℕ) (ballot : Option (ℕ × ℕ)) (es : List LogEntry) (records : List Record) (sent mail : List (ℕ × Mail I))
    → shown node members term vote log before ready ≡ old
    → from ≡ last_index log
    → new ≡ with_entries (truncated log from) es
    → voted ballot ≡ vote_records old.held t v
    → records ≡ (voted ballot ++ []) ++ appended es
    → n ≡ length es
    → vars_of after ≡ committed members node t new (vars_of vars)
    → sent ≡ mail
    → Steps old (record { records = changes old.held t v None es; running = committed old.members old.node t (with_entries old.held.log es) (vars_of vars); mail = mail }) (record { added = n; truncated = None; image = None; records = records; mail = sent }) (shown node members t v new after false)
own_steps old node members term vote log new before vars after ready t v from n ballot es records sent mail view from_is new_is ballot_is records_is count after_is mail_is =
    let s = change_steps old node members term vote log new before after ready t v from n None ballot es records sent view from_is new_is ballot_is records_is count in
    let whole : new ≡ with_entries old.held.log es = new_is ∙ ap (λ (i : ℕ). with_entries (truncated log i) es) from_is ∙ ap (λ (l : Log). with_entries l es) (cut_is log None) ∙ ap (λ (m : Member). with_entries m.held.log es) view in
    record {
      records = s.records;
      mail = mail_is;
      added = s.added;
      truncated = s.truncated;
      node = s.node;
      members = s.members;
      held = s.held;
      running = after_is ∙ ap (λ (l : Log). committed members node t l (vars_of vars)) whole ∙ ap (λ (m : Member). committed m.members m.node t (with_entries old.held.log es) (vars_of vars)) view;
      ready = s.ready;
    }

pub leads_same : (I : Type 0) (n me : ℕ) (h : Held) (v : Running) (t b : ℕ) → t ≡ h.term → b ≡ h.vote → leads {I = I} n me t h.log v (vote_records h t b) ≡ leads n me h.term h.log v []
leads_same I n me h v t b term vote =
    let none : vote_records h t b ≡ [] = ap (λ (x : ℕ). vote_records h x b) term ∙ ap (λ (x : ℕ). vote_records h h.term x) vote ∙ vote_same h in
    ap (λ (rs : List Record). leads {I = I} n me t h.log v rs) none ∙ ap (λ (x : ℕ). leads {I = I} n me x h.log v []) term

pub vote_test : (n k : ℕ) (v : Running) (from : ℕ) (vars : Vars) (won b : Bool) → vars_of vars ≡ with_vote v from → k ≡ n → won ≡ is_majority k (λ (j : ℕ). get_or vars.votes j false) → won ≡ b → is_majority n (with_vote v from).votes ≡ b
vote_test n k v from vars won b after members is test =
    ap (λ (r : Running). is_majority n r.votes) (sym after) ∙ ap (λ (i : ℕ). is_majority i (vars_of vars).votes) (sym members) ∙ sym is ∙ test

pub vote_lost : (I : Type 0) (n k me : ℕ) (h : Held) (v : Running) (from : ℕ) (vars : Vars) (won : Bool) → vars_of vars ≡ with_vote v from → k ≡ n → won ≡ is_majority k (λ (j : ℕ). get_or vars.votes j false) → won ≡ false → record { records = []; running = vars_of vars; mail = listed None } ≡ on_vote {I = I} n me h v from
vote_lost I n k me h v from vars won after members is test =
    ap (λ (r : Running). nothing {I = I} r) after ∙ ap (λ (b : Bool). cond b (leads {I = I} n me h.term h.log (with_vote v from) []) (nothing (with_vote v from))) (sym (vote_test n k v from vars won false after members is test))

pub vote_won : (I : Type 0) (n k me : ℕ) (h : Held) (v : Running) (from : ℕ) (vars : Vars) (won : Bool) → vars_of vars ≡ with_vote v from → k ≡ n → won ≡ is_majority k (λ (j : ℕ). get_or vars.votes j false) → won ≡ true → leads n me h.term h.log (vars_of vars) [] ≡ on_vote {I = I} n me h v from
vote_won I n k me h v from vars won after members is test =
    ap (λ (r : Running). leads {I = I} n me h.term h.log r []) after ∙ ap (λ (b : Bool). cond b (leads {I = I} n me h.term h.log (with_vote v from) []) (nothing (with_vote v from))) (sym (vote_test n k v from vars won true after members is test))

-- ---- an append's entries reach up to the end of the log or less

pub agreeing_most : (xs ys : List LogEntry) → agreeing xs ys ≤ length xs
agreeing_most [] ys = omega arith
agreeing_most (x ∷ xs) [] = omega arith
agreeing_most (x ∷ xs) (y ∷ ys) = agree_by (nat_eq x.term y.term) (agreeing xs ys) (length xs) (agreeing_most xs ys) where
  agree_by : (b : Bool) (n m : ℕ) → n ≤ m → cond b (suc n) 0 ≤ suc m
  agree_by true n m le = omega (arith, le)
  agree_by false n m le = omega arith

pub agreeing_none : (xs : List LogEntry) → agreeing xs [] ≡ 0
agreeing_none [] = refl
agreeing_none (x ∷ xs) = refl

reach_by : (log : Log) (prev below : ℕ) (es : List LogEntry) (b : Bool) → nat_lt below (length es) ≡ b → below ≡ min (length es) (log.base - prev) → prev ≤ last_index log → prev + (below + agreeing (behind log (prev + below)) (drop below es)) ≤ last_index log
reach_by log prev below es true test is le =
    let lt : below < length es = grind (arith, nat_tests) in
    let most : agreeing (behind log (prev + below)) (drop below es) ≤ length (behind log (prev + below)) = agreeing_most (behind log (prev + below)) (drop below es) in
    let len : length (behind log (prev + below)) ≡ length log.entries - (prev + below - log.base) = len_dropped (prev + below - log.base) log.entries in
    omega (arith, is, le, lt, most, len)
reach_by log prev below es false test is le =
    let ge : length es ≤ below = grind (arith, nat_tests) in
    let none : drop below es ≡ [] = all_dropped below es ge in
    let zero_ : agreeing (behind log (prev + below)) (drop below es) ≡ 0 = ap (λ (xs : List LogEntry). agreeing (behind log (prev + below)) xs) none ∙ agreeing_none (behind log (prev + below)) in
    omega (arith, is, le, ge, zero_)

-- a message that stands below the base whole matches whole, and another one no further than the log goes
pub matched_reach : (log : Log) (prev below : ℕ) (es : List LogEntry) → below ≡ min (length es) (log.base - prev) → prev ≤ last_index log → prev + (below + agreeing (behind log (prev + below)) (drop below es)) ≤ last_index log
matched_reach log prev below es is le = reach_by log prev below es (nat_lt below (length es)) refl is le

-- ---- an image that becomes the base

replay_base : (h : Held) (t v i it : ℕ) → replay h (vote_records h t v ++ record_.Base i it ∷ []) ≡ held_with t v (rebased h.log i it)
replay_base h t v i it = replay_append h (vote_records h t v) (record_.Base i it ∷ []) ∙ ap (λ (x : Held). replay x (record_.Base i it ∷ [])) (replay_vote h t v)

base_adds : (h : Held) (t v i it : ℕ) (same : Bool) → added (cond same [] (record_.Vote t v ∷ []) ++ record_.Base i it ∷ []) ≡ 0
base_adds h t v i it true = refl
base_adds h t v i it false = refl

base_cuts : (h : Held) (t v i it : ℕ) (same : Bool) → cut_to (cond same [] (record_.Vote t v ∷ []) ++ record_.Base i it ∷ []) ≡ None
base_cuts h t v i it true = refl
base_cuts h t v i it false = refl

pub settle_steps : {I : Type 0} (old : Member) (node members term vote : ℕ) (log new : Log) (before vars : Vars) (ready : Bool) (t v i it : ℕ) (answer : Option (ℕ × Mail I)) (ballot : Option (ℕ × ℕ)) (records : List Record) (mail : List (ℕ × Mail I))
    → shown node members term vote log before ready ≡ record old { ready = false }
    → new ≡ rebased log i it
    → voted ballot ≡ vote_records old.held t v
    → records ≡ voted ballot ++ record_.Base i it ∷ []
    → mail ≡ listed answer
    → Steps old (record { records = vote_records old.held t v ++ record_.Base i it ∷ []; running = vars_of vars; mail = listed answer }) (record { added = 0; truncated = None; image = None; records = records; mail = mail }) (shown node members t v new vars ready)
settle_steps old node members term vote log new before vars ready t v i it answer ballot records mail view new_is ballot_is records_is mail_is = record {
  records = records_is ∙ ap (λ (rs : List Record). rs ++ record_.Base i it ∷ []) ballot_is;
  mail = mail_is;
  added = sym (base_adds old.held t v i it (nat_eq old.held.term t && nat_eq old.held.vote v));
  truncated = sym (base_cuts old.held t v i it (nat_eq old.held.term t && nat_eq old.held.vote v));
  node = ap (λ (m : Member). m.node) view;
  members = ap (λ (m : Member). m.members) view;
  held = ap (λ (l : Log). held_with t v l) (new_is ∙ ap (λ (m : Member). rebased m.held.log i it) view) ∙ sym (replay_base old.held t v i it);
  running = refl;
  ready = ap (λ (m : Member). m.ready) view;
}

-- ---- where the log ends once an append is taken

pub record Ends (log : Log) (commit prev matched_ j : ℕ) (keep : Option ℕ) : Type 0 where
  pub commit_in : commit ≤ kept_to log keep
  pub reach : prev + j ≤ kept_to log keep + (j - matched_)
  pub within : kept_to log keep + (j - matched_) ≤ max (last_index log) (prev + j)

fits_low : (log : Log) (prev pt : ℕ) (a b c : Bool) → nat_le prev log.base ≡ a → nat_le prev (last_index log) ≡ b → (a || (b && c)) ≡ true → prev ≤ last_index log
fits_low log prev pt true b c low high is = let le : prev ≤ log.base = grind (arith, nat_tests) in omega (arith, le)
fits_low log prev pt false true c low high is = grind (arith, nat_tests)
fits_low log prev pt false false c low high is = absurd (cc is)

ends_by : (log : Log) (commit prev k n j : ℕ) (short inner low : Bool) → nat_lt k n ≡ short → nat_lt (prev + k) (last_index log) ≡ inner → nat_lt (prev + k) commit ≡ low → ((short && inner) && low) ≡ false → commit ≤ last_index log → prev + k ≤ last_index log → k ≤ j → j ≤ n → Ends log commit prev k j (cond (short && inner) (Some (prev + k)) None)
ends_by log commit prev k n j true true true s i l none c r le within = absurd (cc none)
ends_by log commit prev k n j true true false s i l none c r le within =
    let above : commit ≤ prev + k = grind (arith, nat_tests) in
    record { commit_in = above; reach = omega (arith, le); within = omega (arith, le) }
ends_by log commit prev k n j true false low s i l none c r le within =
    let end : last_index log ≤ prev + k = grind (arith, nat_tests) in
    record { commit_in = c; reach = omega (arith, le, end, r); within = omega (arith, le, end, r) }
ends_by log commit prev k n j false inner low s i l none c r le within =
    let whole : n ≤ k = grind (arith, nat_tests) in
    record { commit_in = c; reach = omega (arith, le, within, whole, r); within = omega (arith, le, within, whole) }

dropped_not : (w : Weighed) → w ≡ record { kind = weigh.Dropped; matched = 0; keep = None } → w.kind ≡ weigh.Taken → ⊥
dropped_not w is kind = let no : weigh.Dropped ≡ weigh.Taken = sym (ap (λ (x : Weighed). x.kind) is) ∙ kind in absurd (cc no)

no_clash : (log : Log) (commit : ℕ) (m : AppendMail) (w : Weighed) (b : Bool) → clashes log m.prev m.entries commit ≡ b → w ≡ fitting log commit m → w.kind ≡ weigh.Taken → clashes log m.prev m.entries commit ≡ false
no_clash log commit m w false clash is kind = clash
no_clash log commit m w true clash is kind = absurd (dropped_not w (is ∙ ap (λ (b : Bool). cond b (record { kind = weigh.Dropped; matched = 0; keep = None }) (record { kind = weigh.Taken; matched = matched log m.prev m.entries; keep = keep_of log m.prev m.entries })) clash) kind)

pub fitted_ends : (log : Log) (commit : ℕ) (m : AppendMail) (w : Weighed) (j : ℕ) → fits log m.prev m.prev_term ≡ true → w ≡ fitting log commit m → w.kind ≡ weigh.Taken → commit ≤ last_index log → w.matched ≤ j → j ≤ length m.entries → Ends log commit m.prev w.matched j w.keep
fitted_ends log commit m w j fit is kind c le within =
    let t = taken_is log commit m w (clashes log m.prev m.entries commit) refl is kind in
    let same : w.matched ≡ matched log m.prev m.entries = t.0 in
    let low : m.prev ≤ last_index log = fits_low log m.prev m.prev_term (nat_le m.prev log.base) (nat_le m.prev (last_index log)) (nat_eq (term_of log m.prev) m.prev_term) refl refl fit in
    let reach : m.prev + matched log m.prev m.entries ≤ last_index log = matched_reach log m.prev (below_base log m.prev m.entries) m.entries refl low in
    let ends : Ends log commit m.prev (matched log m.prev m.entries) j (keep_of log m.prev m.entries) =
    ends_by log commit m.prev (matched log m.prev m.entries) (length m.entries) j (nat_lt (matched log m.prev m.entries) (length m.entries)) (nat_lt (m.prev + matched log m.prev m.entries) (last_index log)) (nat_lt (m.prev + matched log m.prev m.entries) commit) refl refl refl
    (no_clash log commit m w (clashes log m.prev m.entries commit) refl is kind) c reach (omega (arith, same, le)) within in
    subst (λ (k : ℕ). Ends log commit m.prev k j w.keep) (sym same) (subst (λ (o : Option ℕ). Ends log commit m.prev (matched log m.prev m.entries) j o) (sym t.1) ends)

-- what was matched whole appends nothing
pub none_behind : (j : ℕ) (es : List LogEntry) → j ≤ length es → [] ≡ drop j (take j es)
none_behind j es le = sym (all_dropped j (take j es) (omega (arith, len_taken j es le)))

pub still_fitted : {I : Type 0} (h : Held) (t v : ℕ) (keep : Option ℕ) (r : Running) (mails : List (ℕ × Mail I)) → ◌≡◌ {A = Outcome I} (record { records = with_cut (vote_records h t v) keep; running = r; mail = mails }) (record { records = changes h t v keep []; running = r; mail = mails })
still_fitted h t v keep r mails = ap (λ (rs : List Record). record { records = rs; running = r; mail = mails }) (sym (changes_none h t v keep))

-- ---- the log once its end was replaced

pub record Replaced (new log : Log) (keep : Option ℕ) (n : ℕ) : Type 0 where
  pub base : new.base ≡ log.base
  pub last : last_index new ≡ kept_to log keep + n

pub part_len : (first until : ℕ) (es : List LogEntry) → until ≤ length es → until - first ≡ length (part_of first until es)
part_len first until es le = let len = len_dropped first (take until es) in let all = len_taken until es le in omega (arith, len, all)

pub replaced : (old log new : Log) (from n : ℕ) (keep : Option ℕ) (es : List LogEntry) → log ≡ old → from ≡ kept_to log keep → log.base ≤ from → from ≤ last_index log → n ≡ length es → new ≡ with_entries (truncated log from) es → Replaced new old keep n
replaced old log new from n keep es view from_is low high count is = record {
  base = ap (λ (l : Log). l.base) is ∙ ap (λ (l : Log). l.base) view;
  last =
      let sum : last_index new ≡ log.base + length (take (from - log.base) log.entries ++ es) = ap (λ (l : Log). last_index l) is in
      let parts : length (take (from - log.base) log.entries ++ es) ≡ length (take (from - log.base) log.entries) + length es = length-append (take (from - log.base) log.entries) es in
      let kept : length (take (from - log.base) log.entries) ≡ from - log.base = len_taken (from - log.base) log.entries (omega (arith, low, high)) in
      let end : kept_to log keep ≡ kept_to old keep = ap (λ (l : Log). kept_to l keep) view in
      omega (arith, sum, parts, kept, low, count, from_is, end);
}
