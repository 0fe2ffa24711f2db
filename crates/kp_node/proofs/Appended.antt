-- An append: Raft and the storage take equally many of its entries.
use Rattle.std.proofs.Common.{◌≡◌, ℕ, zero, suc, ◌+◌, ◌-◌, ◌≤◌, ◌<◌, ◌^◌, Bool, true, false, cond, not, ◌&&◌, List, [], ◌∷◌, ◌++◌, length, take, drop, max, min, Option, Some, None, refl, ap, sym, subst, ◌∙◌, arith, append-nil, append_assoc, length-append, length-take-le}
use Rattle.std.proofs.lemmas.Bool.Decides.{nat_tests}
use Rattle.std.proofs.lemmas.List.{drop-take, drop-append-le, take-append-le, take_all, length-drop, drop_all}
use Rattle.std.specs.Prelude.{nat_le, nat_lt, nat_eq, slice_get, option_map, IfSome, IsTrue, if◌then◌else◌}
use Rattle.kp_model.specs.LogEntry.{LogEntry}
use Rattle.kp_model.specs.Store.{Store, last as last_of, with_entry, truncated}
use Rattle.kp_entry.specs.Log.{Log, behind, last_index, with_entries}
use Rattle.kp_entry.specs.Held.{Held, replay}
use Rattle.kp_storage.specs.Kept.{with_all}
use Rattle.kp_raft.specs.declared.append.AppendMail.{AppendMail}
use Rattle.kp_raft.specs.declared.append.Weigh.TheVariants as weigh
use Rattle.kp_raft.specs.declared.append.Weighed.{Weighed}
use Rattle.kp_raft.specs.declared.event.RaftOut.{RaftOut}
use Rattle.kp_raft.specs.Parts.{Running, Outcome, nothing, vote_records, vote_at, following, cut_log, kept_to}
use Rattle.kp_raft.specs.Appends.{fits, clashes, conflicts, matched, keep_of, missing, agreeing, below_base, refusal, fitted}
use Rattle.kp_raft.specs.Steps.{added, passes_append, fitting}
use Rattle.kp_raft.specs.Members.{Member, running_of, Steps as RaftSteps}
use Rattle.kp_raft.proofs.Replays.{replay_vote, replay_changes, still_adds, changes_add}
use Rattle.kp_raft.proofs.StepFacts.{Ends, fitted_ends}
use Rattle.kp_snapshot.specs.Snapshots.{Snapshot}
use Rattle.kp_step.specs.Asking.{is_taken}
use Rattle.kp_node.specs.Appending.{Agrees, Appends, IsGiven, cut_back, weighs, takes}
use Rattle.kp_node.proofs.Maps.{no}

-- ---- entries are added one by one

pub get_dropped : (n i : ℕ) (es : List LogEntry) → slice_get (drop n es) i ≡ slice_get es (n + i)
get_dropped zero i es = let z : i ≡ 0 + i = omega arith in ap (λ n. slice_get es n) z
get_dropped (suc n) i [] = refl
get_dropped (suc n) i (e ∷ es) = let z : suc (n + i) ≡ suc n + i = omega arith in get_dropped n i es ∙ ap (λ k. slice_get (e ∷ es) k) z

pub taken_on : (es : List LogEntry) (i : ℕ) (e : LogEntry) → Some e ≡ slice_get es i → take (i + 1) es ≡ take i es ++ e ∷ []
taken_on [] i e is = absurd (cc is)
taken_on (x ∷ xs) zero e is = let same : e ≡ x = cc is in ap (λ y. y ∷ []) (sym same)
taken_on (x ∷ xs) (suc i) e is = let z : suc i + 1 ≡ suc (i + 1) = omega arith in ap (λ n. take n (x ∷ xs)) z ∙ ap (λ ys. x ∷ ys) (taken_on xs i e is)

one_added_of : (x y z : Store) (from k : ℕ) (es : List LogEntry) → from ≤ k → y ≡ with_all x (take (k - from) (drop from es)) → (o : Option LogEntry) → o ≡ slice_get es k → Some z ≡ option_map (with_entry y) o → z ≡ with_all x (take (k + 1 - from) (drop from es))
one_added_of x y z from k es le so_far None is one = absurd (cc one)
one_added_of x y z from k es le so_far (Some e) is one =
    let there : from + (k - from) ≡ k = omega (arith, le) in
    let next : k + 1 - from ≡ k - from + 1 = omega (arith, le) in
    let at : Some e ≡ slice_get (drop from es) (k - from) = is ∙ ap (λ n. slice_get es n) (sym there) ∙ sym (get_dropped from (k - from) es) in
    let made : z ≡ with_entry y e = cc one in
    made ∙ ap (λ w. with_entry w e) so_far
    ∙ ap (λ us. let w : Store = record { state = x.state; unapplied = us } in w) (append_assoc x.unapplied (take (k - from) (drop from es)) (e ∷ []) ∙ ap (λ us. x.unapplied ++ us) (sym (taken_on (drop from es) (k - from) e at)))
    ∙ ap (λ n. with_all x (take n (drop from es))) (sym next)

pub one_added : (x y z : Store) (from k : ℕ) (es : List LogEntry) → from ≤ k → y ≡ with_all x (take (k - from) (drop from es)) → Some z ≡ option_map (with_entry y) (slice_get es k) → z ≡ with_all x (take (k + 1 - from) (drop from es))
one_added x y z from k es le so_far one = one_added_of x y z from k es le so_far (slice_get es k) refl one

pub so_added : (x y : Store) (from k : ℕ) (es : List LogEntry) → from ≤ k → y ≡ with_all x (take (k - from) (drop from es)) → y ≡ with_all x (drop from (take k es))
so_added x y from k es le so_far =
    let there : from + (k - from) ≡ k = omega (arith, le) in
    so_far ∙ ap (with_all x) (sym (drop-take from (k - from) es) ∙ ap (λ n. drop from (take n es)) there)

-- ---- what Raft does with an append, by what it tests

module _ (me : ℕ) (h : Held) (v : Running) (m : AppendMail) (j : ℕ) where
  abbrev weighed_as : Bool → Bool → Bool → Bool → Weighed
  weighed_as a b c d = cond a (cond (not b && c) (cond d (record { kind = weigh.Dropped; matched = 0; keep = None }) (record { kind = weigh.Taken; matched = matched h.log m.prev m.entries; keep = keep_of h.log m.prev m.entries })) (record { kind = weigh.Refused; matched = 0; keep = None })) (record { kind = weigh.Dropped; matched = 0; keep = None })

  abbrev pub take_as : Bool → Bool → Bool → Bool → Outcome Snapshot
  take_as a b c d = cond a (cond b (record { records = []; running = v; mail = refusal me m.from h.term h.log })
      (cond c (cond d (record { records = vote_records h m.term (vote_at h m.term); running = following v m.from; mail = [] }) (fitted me h v m j))
      (record { records = vote_records h m.term (vote_at h m.term); running = following v m.from; mail = refusal me m.from m.term h.log }))) (nothing v)

  -- the log and the commit index stay
  pub record Idles (o : Outcome Snapshot) : Type 0 where
    pub adds : added o.records ≡ 0
    pub log : (replay h o.records).log ≡ h.log
    pub commit : o.running.commit ≡ v.commit

  votes_idle : (ms : List (ℕ × Rattle.kp_raft.specs.declared.mail.Mail.Mail Snapshot)) → Idles (record { records = vote_records h m.term (vote_at h m.term); running = following v m.from; mail = ms })
  votes_idle ms = record { adds = still_adds h m.term (vote_at h m.term) None; log = ap (λ (k : Held). k.log) (replay_vote h m.term (vote_at h m.term)); commit = refl }

  idles : (a b c d : Bool) → is_taken (weighed_as a b c d).kind ≡ false → Idles (take_as a b c d)
  idles false b c d is = record { adds = refl; log = refl; commit = refl }
  idles true true c d is = record { adds = refl; log = refl; commit = refl }
  idles true false false d is = votes_idle (refusal me m.from m.term h.log)
  idles true false true true is = votes_idle []
  idles true false true false is = absurd (no true is refl)

  record Fitting (a b c d : Bool) : Type 0 where
    passes : a ≡ true
    new : b ≡ false
    behind_prev : c ≡ true
    open_ : d ≡ false

  fitting_so : (a b c d : Bool) → is_taken (weighed_as a b c d).kind ≡ true → Fitting a b c d
  fitting_so true false true false is = record { passes = refl; new = refl; behind_prev = refl; open_ = refl }
  fitting_so false b c d is = absurd (no false refl is)
  fitting_so true true c d is = absurd (no false refl is)
  fitting_so true false false d is = absurd (no false refl is)
  fitting_so true false true true is = absurd (no false refl is)

  taken_so : (a b c d : Bool) → Fitting a b c d → take_as a b c d ≡ fitted me h v m j
  taken_so a b c d f = ap (λ x. take_as x b c d) f.passes ∙ ap (λ x. take_as true x c d) f.new ∙ ap (λ x. take_as true false x d) f.behind_prev ∙ ap (λ x. take_as true false true x) f.open_

  weighed_so : (a b c d : Bool) → Fitting a b c d → weighed_as a b c d ≡ record { kind = weigh.Taken; matched = matched h.log m.prev m.entries; keep = keep_of h.log m.prev m.entries }
  weighed_so a b c d f = ap (λ x. weighed_as x b c d) f.passes ∙ ap (λ x. weighed_as true x c d) f.new ∙ ap (λ x. weighed_as true false x d) f.behind_prev ∙ ap (λ x. weighed_as true false true x) f.open_

pub and_left : (a b : Bool) → (a && b) ≡ true → a ≡ true
and_left true b e = refl
and_left false b e = absurd (no false refl e)

pub and_right : (a b : Bool) → (a && b) ≡ true → b ≡ true
and_right true b e = e
and_right false b e = absurd (no false refl e)

pub is_le : (a b : ℕ) → nat_le a b ≡ true → a ≤ b
is_le a b e = grind (arith, nat_tests, e)

pub is_lt : (a b : ℕ) → nat_lt a b ≡ true → a < b
is_lt a b e = grind (arith, nat_tests, e)

-- no more match than there are
agreeing_few : (xs ys : List LogEntry) → agreeing xs ys ≤ length ys
agreeing_few [] ys = omega arith
agreeing_few (x ∷ xs) [] = omega arith
agreeing_few (x ∷ xs) (y ∷ ys) = by_term (nat_eq x.term y.term) (agreeing_few xs ys)
  where
    by_term : (b : Bool) → agreeing xs ys ≤ length ys → cond b (suc (agreeing xs ys)) 0 ≤ suc (length ys)
    by_term true le = omega (arith, le)
    by_term false le = omega arith

matched_few : (log : Log) (prev : ℕ) (es : List LogEntry) → matched log prev es ≤ length es
matched_few log prev es =
    let few = agreeing_few (behind log (prev + below_base log prev es)) (drop (below_base log prev es) es) in
    let len = length-drop (below_base log prev es) es in
    let low : below_base log prev es ≤ length es = omega arith in
    omega (arith, few, len, low)

keep_within : (last k n : ℕ) (a b : Bool) → nat_lt k last ≡ b → IfSome (cond (a && b) (Some k) None) (λ i. i ≤ last)
keep_within last k n true true e = let lt = is_lt k last e in omega (arith, lt)
keep_within last k n true false e = tt
keep_within last k n false b e = tt

-- ---- the storage without what conflicts

cut_state : (s : Store) (keep : Option ℕ) → (cut_back s keep).state ≡ s.state
cut_state s None = refl
cut_state s (Some k) = refl

cut_base : (log : Log) (keep : Option ℕ) → (cut_log log keep).base ≡ log.base
cut_base log None = refl
cut_base log (Some k) = refl

module _ (log : Log) (s : Store) (same : s.unapplied ≡ behind log s.state.applied) (from : log.base ≤ s.state.applied) where
  len_unapplied : s.state.applied ≤ last_index log → last_of s ≡ last_index log
  len_unapplied to = let len = length-drop (s.state.applied - log.base) log.entries in
      let is : length s.unapplied ≡ length (behind log s.state.applied) = ap length same in
      omega (arith, len, is, from, to)

  cut_last : (keep : Option ℕ) → s.state.applied ≤ kept_to log keep → kept_to log keep ≤ last_index log → last_of (cut_back s keep) ≡ kept_to log keep
  cut_last None low high = len_unapplied low
  cut_last (Some k) low high =
      let whole = len_unapplied (omega (arith, low, high)) in
      let len : length (take (k - s.state.applied) s.unapplied) ≡ k - s.state.applied = length-take-le (k - s.state.applied) s.unapplied (omega (arith, whole, low, high)) in
      omega (arith, len, low)

  cut_agrees : (keep : Option ℕ) (es : List LogEntry) → s.state.applied ≤ kept_to log keep → kept_to log keep ≤ last_index log → (cut_back s keep).unapplied ++ es ≡ behind (with_entries (cut_log log keep) es) s.state.applied
  cut_agrees None es low high =
      ap (λ us. us ++ es) same ∙ sym (drop-append-le (s.state.applied - log.base) log.entries es (omega (arith, low, from)))
  cut_agrees (Some k) es low high =
      let a : ℕ = s.state.applied - log.base in
      let there : a + (k - s.state.applied) ≡ k - log.base = omega (arith, low, from) in
      let len : length (take (k - log.base) log.entries) ≡ k - log.base = length-take-le (k - log.base) log.entries (omega (arith, high)) in
      ap (λ us. take (k - s.state.applied) us ++ es) same
      ∙ ap (λ us. us ++ es) (sym (drop-take a (k - s.state.applied) log.entries) ∙ ap (λ n. drop a (take n log.entries)) there)
      ∙ sym (drop-append-le a (take (k - log.base) log.entries) es (omega (arith, len, low, from)))

-- ---- an append at a member and its storage

module _ (x : Member) (m : AppendMail) where
  abbrev Taken : Type 0
  Taken = Fitting x.node x.held (running_of x) m 0 (passes_append x.members x.node m) (nat_lt m.term x.held.term) (fits x.held.log m.prev m.prev_term) (clashes x.held.log m.prev m.entries x.vars.commit)

  idle : (j : ℕ) → is_taken (weighs x m).kind ≡ false → Idles x.node x.held (running_of x) m j (takes x m j)
  idle j is = idles x.node x.held (running_of x) m j (passes_append x.members x.node m) (nat_lt m.term x.held.term) (fits x.held.log m.prev m.prev_term) (clashes x.held.log m.prev m.entries x.vars.commit) is

  none_taken_all : (s : Store) → Agrees x s → (out : RaftOut Snapshot) (y : Member) → is_taken (weighs x m).kind ≡ false → RaftSteps x (takes x m (length m.entries)) out y → out.image ≡ None → Appends m x s out (length m.entries) y s
  none_taken_all s agrees out y is steps image =
      let o = idle (length m.entries) is in
      let log : y.held.log ≡ x.held.log = ap (λ (k : Held). k.log) steps.held ∙ o.log in
      let commit : y.vars.commit ≡ x.vars.commit = ap (λ r. r.commit) steps.running ∙ o.commit in
      record {
        room = sym (ap (λ (b : Bool). if b then max (weighs x m).matched (min (length m.entries) (length m.entries)) else length m.entries) is);
        steps = steps;
        image = image;
        state = refl;
        agrees = record {
          unapplied = agrees.unapplied ∙ ap (λ l. behind l s.state.applied) (sym log);
          from = subst (λ (l : Log). l.base ≤ s.state.applied) (sym log) agrees.from;
          to = subst (λ c. s.state.applied ≤ c) (sym commit) agrees.to;
        };
      }

  pub none_taken : (s : Store) → Agrees x s → (out : RaftOut Snapshot) (y : Member) (n : ℕ) → n ≡ length m.entries → is_taken (weighs x m).kind ≡ false → RaftSteps x (takes x m n) out y → out.image ≡ None → Appends m x s out n y s
  none_taken s agrees out y n all is steps image = subst (λ i. Appends m x s out i y s) (sym all) (none_taken_all s agrees out y is (subst (λ i. RaftSteps x (takes x m i) out y) all steps) image)

  fitting_of : is_taken (weighs x m).kind ≡ true → Taken
  fitting_of is = fitting_so x.node x.held (running_of x) m 0 (passes_append x.members x.node m) (nat_lt m.term x.held.term) (fits x.held.log m.prev m.prev_term) (clashes x.held.log m.prev m.entries x.vars.commit) is

  weighed_is : Taken → weighs x m ≡ record { kind = weigh.Taken; matched = matched x.held.log m.prev m.entries; keep = keep_of x.held.log m.prev m.entries }
  weighed_is f = weighed_so x.node x.held (running_of x) m 0 (passes_append x.members x.node m) (nat_lt m.term x.held.term) (fits x.held.log m.prev m.prev_term) (clashes x.held.log m.prev m.entries x.vars.commit) f

  fitting_is : Taken → weighs x m ≡ fitting x.held.log x.vars.commit m
  fitting_is f = weighed_is f ∙ sym (ap (λ (b : Bool). cond b (record { kind = weigh.Dropped; matched = 0; keep = None }) (record { kind = weigh.Taken; matched = matched x.held.log m.prev m.entries; keep = keep_of x.held.log m.prev m.entries })) f.open_)

  takes_is : (j : ℕ) → Taken → takes x m j ≡ fitted x.node x.held (running_of x) m j
  takes_is j f = taken_so x.node x.held (running_of x) m j (passes_append x.members x.node m) (nat_lt m.term x.held.term) (fits x.held.log m.prev m.prev_term) (clashes x.held.log m.prev m.entries x.vars.commit) (record { passes = f.passes; new = f.new; behind_prev = f.behind_prev; open_ = f.open_ })

  pub few_matched : is_taken (weighs x m).kind ≡ true → (weighs x m).matched ≤ length m.entries
  few_matched is = subst (λ (w : Weighed). w.matched ≤ length m.entries) (sym (weighed_is (fitting_of is))) (matched_few x.held.log m.prev m.entries)

  pub matched_adds : is_taken (weighs x m).kind ≡ true → added (takes x m (weighs x m).matched).records ≡ 0
  matched_adds is = let f = fitting_of is in
      let k = (weighs x m).matched in
      let same : matched x.held.log m.prev m.entries ≡ k = sym (ap (λ (w : Weighed). w.matched) (weighed_is f)) in
      let all = changes_add x.held m.term (vote_at x.held m.term) (keep_of x.held.log m.prev m.entries) (missing x.held.log m.prev m.entries k) in
      let len = length-drop (matched x.held.log m.prev m.entries) (take k m.entries) in
      let part = length-take-le k m.entries (few_matched is) in
      let same_adds : added (takes x m k).records ≡ added (fitted {I = Snapshot} x.node x.held (running_of x) m k).records = ap (λ (o : Outcome Snapshot). added o.records) (takes_is k f) in
      omega (arith, all, len, part, same, same_adds)

  module _ (s : Store) (agrees : Agrees x s) (is : is_taken (weighs x m).kind ≡ true) (end : x.vars.commit ≤ last_index x.held.log) where
    ends : (j : ℕ) → (weighs x m).matched ≤ j → j ≤ length m.entries → Ends x.held.log x.vars.commit m.prev (weighs x m).matched j (weighs x m).keep
    ends j le within = let f = fitting_of is in
        fitted_ends x.held.log x.vars.commit m (weighs x m) j f.behind_prev (fitting_is f) (ap (λ (w : Weighed). w.kind) (weighed_is f)) end le within

    kept_low : x.vars.commit ≤ kept_to x.held.log (weighs x m).keep
    kept_low = (ends (weighs x m).matched (omega arith) (few_matched is)).commit_in

    kept_high : kept_to x.held.log (weighs x m).keep ≤ last_index x.held.log
    kept_high = by_keep (weighs x m).keep (subst (λ (w : Weighed). IfSome w.keep (λ i. i ≤ last_index x.held.log)) (sym (weighed_is (fitting_of is))) (keep_within (last_index x.held.log) (m.prev + matched x.held.log m.prev m.entries) (length m.entries) (nat_lt (matched x.held.log m.prev m.entries) (length m.entries)) (nat_lt (m.prev + matched x.held.log m.prev m.entries) (last_index x.held.log)) refl))
      where
        by_keep : (keep : Option ℕ) → IfSome keep (λ i. i ≤ last_index x.held.log) → kept_to x.held.log keep ≤ last_index x.held.log
        by_keep None h = omega arith
        by_keep (Some k) h = h

    within_max : m.prev + length m.entries ≤ 2 ^ 62
    within_max = let f = fitting_of is in
        is_le (m.prev + length m.entries) (2 ^ 62) (and_right (nat_le m.commit (2 ^ 62)) _ (and_right (nat_le m.term (2 ^ 62) && nat_le m.prev_term (2 ^ 62)) _ (and_right (Rattle.kp_raft.specs.Numbers.is_peer x.members x.node m.from) _ f.passes)))

    whole_last : last_of s ≡ last_index x.held.log
    whole_last = let to = agrees.to in len_unapplied x.held.log s agrees.unapplied agrees.from (omega (arith, to, end))

    low_end : s.state.applied ≤ kept_to x.held.log (weighs x m).keep
    low_end = let to = agrees.to in let low = kept_low in omega (arith, to, low)

    pub may_add : last_index x.held.log ≤ 2 ^ 62 → (t : Store) → t ≡ cut_back s (weighs x m).keep → last_of t + (length m.entries - (weighs x m).matched) ≤ 2 ^ 62
    may_add fits_ t are =
        let few = few_matched is in
        let within = (ends (length m.entries) few (omega arith)).within in
        let last : last_of t ≡ kept_to x.held.log (weighs x m).keep = ap last_of are ∙ cut_last x.held.log s agrees.unapplied agrees.from (weighs x m).keep low_end kept_high in
        let max_ = within_max in
        omega (arith, within, last, max_, fits_)

    log_is : (j : ℕ) (out : RaftOut Snapshot) (y : Member) → RaftSteps x (takes x m j) out y → y.held.log ≡ with_entries (cut_log x.held.log (weighs x m).keep) (drop (weighs x m).matched (take j m.entries))
    log_is j out y steps = let f = fitting_of is in
        ap (λ (k : Held). k.log) (steps.held ∙ ap (λ (o : Outcome Snapshot). replay x.held o.records) (takes_is j f) ∙ replay_changes x.held m.term (vote_at x.held m.term) (keep_of x.held.log m.prev m.entries) (missing x.held.log m.prev m.entries j))
        ∙ ap (λ (w : Weighed). with_entries (cut_log x.held.log w.keep) (drop w.matched (take j m.entries))) (sym (weighed_is f))

    commit_is : (j : ℕ) (out : RaftOut Snapshot) (y : Member) → RaftSteps x (takes x m j) out y → x.vars.commit ≤ y.vars.commit
    commit_is j out y steps = let f = fitting_of is in
        let same : y.vars.commit ≡ max x.vars.commit (min m.commit (m.prev + j)) = ap (λ r. r.commit) (steps.running ∙ ap (λ (o : Outcome Snapshot). o.running) (takes_is j f)) in
        omega (arith, same)

    pub some_taken : (j : ℕ) (out : RaftOut Snapshot) (y : Member) (t : Store) → (weighs x m).matched ≤ j → j ≤ length m.entries → t ≡ with_all (cut_back s (weighs x m).keep) (drop (weighs x m).matched (take j m.entries)) → RaftSteps x (takes x m j) out y → out.image ≡ None → Appends m x s out j y t
    some_taken j out y t le within given steps image =
        let keep = (weighs x m).keep in
        let es = drop (weighs x m).matched (take j m.entries) in
        let log = log_is j out y steps in
        let state : t.state ≡ s.state = ap (λ (u : Store). u.state) given ∙ cut_state s keep in
        let more = commit_is j out y steps in
        let to = agrees.to in
        let room_ : max (weighs x m).matched (min j (length m.entries)) ≡ j = omega (arith, le, within) in
        record {
          room = sym (ap (λ (b : Bool). if b then max (weighs x m).matched (min j (length m.entries)) else length m.entries) is ∙ room_);
          steps = steps;
          image = image;
          state = state;
          agrees = record {
            unapplied = ap (λ (u : Store). u.unapplied) given ∙ cut_agrees x.held.log s agrees.unapplied agrees.from keep es low_end kept_high ∙ ap (λ (l : Log). behind l s.state.applied) (sym log) ∙ ap (λ u. behind y.held.log u.applied) (sym state);
            from = let base : y.held.log.base ≡ x.held.log.base = ap (λ (l : Log). l.base) log ∙ cut_base x.held.log keep in let low = agrees.from in let applied : t.state.applied ≡ s.state.applied = ap (λ u. u.applied) state in omega (arith, base, low, applied);
            to = let applied : t.state.applied ≡ s.state.applied = ap (λ u. u.applied) state in omega (arith, applied, to, more);
          };
        }

    -- what was added is taken back
    pub taken_back : (j n : ℕ) (t u : Store) → (weighs x m).matched ≤ j → j ≤ length m.entries → t ≡ with_all (cut_back s (weighs x m).keep) (drop (weighs x m).matched (take j m.entries)) → n ≡ last_of t → u ≡ truncated t (n - (j - (weighs x m).matched)) → u ≡ with_all (cut_back s (weighs x m).keep) (drop (weighs x m).matched (take (weighs x m).matched m.entries))
    taken_back j n t u le within given last back =
        let k = (weighs x m).matched in
        let c = cut_back s (weighs x m).keep in
        let es = drop k (take j m.entries) in
        let part = length-take-le j m.entries within in
        let len : length es ≡ j - k = length-drop k (take j m.entries) ∙ ap (λ i. i - k) part in
        let all = length-append c.unapplied es in
        let last_ : n ≡ c.state.applied + length (c.unapplied ++ es) = last ∙ ap last_of given in
        let at : n - (j - k) - c.state.applied ≡ length c.unapplied = omega (arith, last_, all, len) in
        let none : drop k (take k m.entries) ≡ [] = drop_all k (take k m.entries) (let short = length-take-le k m.entries (few_matched is) in omega (arith, short)) in
        back ∙ ap (λ (w : Store). truncated w (n - (j - k))) given
        ∙ ap (λ (us : List LogEntry). let w : Store = record { state = c.state; unapplied = us } in w) (ap (λ i. take i (c.unapplied ++ es)) at ∙ take-append-le (length c.unapplied) c.unapplied es (omega arith) ∙ take_all (length c.unapplied) c.unapplied (omega arith) ∙ sym (append-nil c.unapplied) ∙ ap (λ ys. c.unapplied ++ ys) (sym none))

-- ---- where the log finds no memory

-- what was matched alone is taken for certain
pub never : {A : Type 0} (x z : Member) (m : AppendMail) (k : ℕ) → z ≡ x → IsTrue x.ready → is_taken (weighs x m).kind ≡ true → (weighs x m).matched ≡ k → (IsTrue z.ready → added (takes z m k).records ≡ 0 → false ≡ true) → A
never x z m k same ready is at fails =
    let none : added (takes z m k).records ≡ 0 = ap (λ (u : Member). added (takes u m k).records) same ∙ ap (λ i. added (takes x m i).records) (sym at) ∙ matched_adds x m is in
    no false refl (fails (subst (λ (u : Member). IsTrue u.ready) (sym same) ready) none)

fewer : (x z : Member) (m : AppendMail) (s : Store) → Agrees x s → is_taken (weighs x m).kind ≡ true → x.vars.commit ≤ last_index x.held.log → (j n : ℕ) (t u : Store) → (weighs x m).matched ≤ j → j ≤ length m.entries → IsGiven s (weighs x m) j m t → n ≡ last_of t
    → z ≡ x → (out : RaftOut Snapshot) (y : Member) → out.image ≡ None → u ≡ truncated t (n - (j - (weighs x m).matched)) → RaftSteps z (takes z m (weighs x m).matched) out y → Appends m x s out (weighs x m).matched y u
fewer x z m s agrees is end j n t u le within given last same out y image back steps =
    some_taken x m s agrees is end (weighs x m).matched out y u (omega arith) (few_matched x m is) (taken_back x m s agrees is end j n t u le within given last back) (subst (λ (w : Member). RaftSteps w (takes w m (weighs x m).matched) out y) same steps) image

pub fewer_taken : (x z : Member) (m : AppendMail) (s : Store) → Agrees x s → is_taken (weighs x m).kind ≡ true → x.vars.commit ≤ last_index x.held.log → (k : ℕ) → (weighs x m).matched ≡ k → (j n : ℕ) (t u : Store) → k ≤ j → j ≤ length m.entries → IsGiven s (weighs x m) j m t → n ≡ last_of t
    → z ≡ x → (out : RaftOut Snapshot) (y : Member) → out.image ≡ None → u ≡ truncated t (n - (j - k)) → RaftSteps z (takes z m k) out y → Appends m x s out k y u
fewer_taken x z m s agrees is end k at j n t u le within given last same out y image =
    subst (λ i. u ≡ truncated t (n - (j - i)) → RaftSteps z (takes z m i) out y → Appends m x s out i y u) at (fewer x z m s agrees is end j n t u (subst (λ i. i ≤ j) (sym at) le) within given last same out y image)

pub so_taken : (x : Member) (m : AppendMail) (s : Store) → Agrees x s → is_taken (weighs x m).kind ≡ true → x.vars.commit ≤ last_index x.held.log → (k : ℕ) → (weighs x m).matched ≡ k → (j : ℕ) → k ≤ j → j ≤ length m.entries → (t : Store) → IsGiven s (weighs x m) j m t
    → (out : RaftOut Snapshot) (y : Member) → RaftSteps x (takes x m j) out y → out.image ≡ None → Appends m x s out j y t
so_taken x m s agrees is end k at j le within t given out y steps image = some_taken x m s agrees is end j out y t (subst (λ i. i ≤ j) (sym at) le) within given steps image

pub agrees_ready : (x z : Member) (s : Store) → z ≡ record x { ready = true } → Agrees x s → Agrees z s
agrees_ready x z s is a = subst (λ (u : Member). Agrees u s) (sym is) (record { unapplied = a.unapplied; from = a.from; to = a.to })

pub end_of : (x : Member) (n : ℕ) → n ≡ x.vars.commit → n ≤ last_index x.held.log → x.vars.commit ≤ last_index x.held.log
end_of x n is le = subst (λ i. i ≤ last_index x.held.log) is le

pub given_by : (s t u : Store) (m : AppendMail) (j : ℕ) (w v : Weighed) → w ≡ v → t ≡ cut_back s w.keep → u ≡ with_all t (drop w.matched (take j m.entries)) → IsGiven s v j m u
given_by s t u m j w v same cut more = subst (λ (i : Weighed). IsGiven s i j m u) same (more ∙ ap (λ (y : Store). with_all y (drop w.matched (take j m.entries))) cut)

pub kind_of : (w v : Weighed) (b : Bool) → w ≡ v → is_taken w.kind ≡ b → is_taken v.kind ≡ b
kind_of w v b same is = subst (λ (i : Weighed). is_taken i.kind ≡ b) same is

pub few_by : (x z : Member) (m : AppendMail) (w : Weighed) → w ≡ weighs z m → is_taken w.kind ≡ true → w.matched ≤ length m.entries
few_by x z m w same is = subst (λ (i : Weighed). i.matched ≤ length m.entries) (sym same) (few_matched z m (kind_of w (weighs z m) true same is))

pub add_by : (x z : Member) (m : AppendMail) (w : Weighed) (s t : Store) (n last : ℕ) → z ≡ record x { ready = true } → Agrees x s → w ≡ weighs z m → is_taken w.kind ≡ true → n ≡ x.vars.commit → n ≤ last_index x.held.log → last ≡ last_index x.held.log → last ≤ 2 ^ 62 → t ≡ cut_back s w.keep → last_of t + (length m.entries - w.matched) ≤ 2 ^ 62
add_by x z m w s t n last made a same is commit le at fits_ cut =
    let end = end_of z n (commit ∙ ap (λ (u : Member). u.vars.commit) (sym made)) (subst (λ (u : Member). n ≤ last_index u.held.log) (sym made) le) in
    let high : last_index z.held.log ≤ 2 ^ 62 = subst (λ i. i ≤ 2 ^ 62) (at ∙ ap (λ (u : Member). last_index u.held.log) (sym made)) fits_ in
    subst (λ (i : Weighed). t ≡ cut_back s i.keep → last_of t + (length m.entries - i.matched) ≤ 2 ^ 62) (sym same) (may_add z m s (agrees_ready x z s made a) (kind_of w (weighs z m) true same is) end high t) cut
