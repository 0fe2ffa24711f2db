-- What each rule of Raft leaves: no base among its records, but for images; a leader that has come to the term; and no body in its mail.
use Rattle.std.proofs.Common.{◌≡◌, ℕ, zero, suc, ◌+◌, ◌-◌, ◌≤◌, ◌<◌, Bool, true, false, cond, ◌&&◌, List, [], ◌∷◌, ◌++◌, length, refl, ap, ◌∙◌, arith, Option, Some, None, slice_get}
use Rattle.std.proofs.lemmas.Bool.Decides.{nat_tests}
use Rattle.std.specs.Prelude.{nat_lt, nat_le, nat_eq}
use Rattle.kp_model.specs.LogEntry.{LogEntry}
use Rattle.kp_model.specs.declared.entry.Body.{Body}
use Rattle.kp_model.specs.Majority.{count, is_majority}
use Rattle.kp_entry.specs.declared.record.Record.{Record}
use Rattle.kp_entry.specs.declared.record.Record.TheVariants as record_
use Rattle.kp_entry.specs.Heads.{appended}
use Rattle.kp_entry.specs.Held.{Held, replay}
use Rattle.kp_entry.specs.Log.{last_index, term_of, with_entries}
use Rattle.kp_entry.proofs.Replays.{replay_append}
use Rattle.kp_raft.specs.declared.append.AppendMail.{AppendMail}
use Rattle.kp_raft.specs.declared.mail.Mail.{Mail}
use Rattle.kp_raft.specs.declared.mail.Mail.TheVariants as mail
use Rattle.kp_raft.specs.Numbers.{MAX, for_peers}
use Rattle.kp_raft.specs.Parts.{Running, Outcome, nothing, to, following, running_at, vote_at, vote_records, with_cut, changes, is_leader}
use Rattle.kp_raft.specs.Rules.{leads, may_stand, candidate, own_vote, vote_request, on_timeout, grants, on_vote_req, on_term, with_vote, counts, on_vote_rep, with_match, with_next, on_append_rep, proposed, on_propose}
use Rattle.kp_raft.specs.Appends.{lags, append_for, install_with, beat_for, on_beat, fits, clashes, keep_of, missing, on_append, on_install, on_compact}
use Rattle.kp_raft.proofs.Replays.{replay_vote, replay_appended, replay_changes}
use Rattle.kp_world.proofs.Link.{HasNoBase, no_base_join, no_base_appended, no_base_votes, cond_cases}

-- ---- mail

-- what Raft sends of its own: no bodies, and images of this kind
abbrev pub Sends : {I : Type 0} → (I → Type 0) → Mail I → Type 0
Sends Q (mail.Install t from i it image) = Q image
Sends Q (mail.Forward t from b) = ⊥
Sends Q m = Unit {0}

abbrev pub AllSends : {I : Type 0} → (I → Type 0) → List (ℕ × Mail I) → Type 0
AllSends Q [] = Unit {0}
AllSends Q (m ∷ ms) = Sends Q m.1 × AllSends Q ms

pub sends_join : {I : Type 0} (Q : I → Type 0) (ms ns : List (ℕ × Mail I)) → AllSends Q ms → AllSends Q ns → AllSends Q (ms ++ ns)
sends_join Q [] ns f g = g
sends_join Q (m ∷ ms) ns f g = (f.0, sends_join Q ms ns f.1 g)

pub sends_peers : {I : Type 0} (Q : I → Type 0) (n me : ℕ) (f : ℕ → List (ℕ × Mail I)) → ((p : ℕ) → AllSends Q (f p)) → AllSends Q (for_peers n me f)
sends_peers Q zero me f h = tt
sends_peers Q (suc n) me f h = sends_join Q (for_peers n me f) (cond (nat_eq (suc n) me) [] (f (suc n))) (sends_peers Q n me f h)
    (cond_cases (AllSends Q) (nat_eq (suc n) me) [] (f (suc n)) (λ _. tt) (λ _. h (suc n)))

-- ---- the leader

-- where the member has come to the term behind the step, so has the leader that it knows
abbrev pub Knows : {I : Type 0} → (ℕ → ℕ) → ℕ → Held → Outcome I → Type 0
Knows T me h o = (replay h o.records).term ≤ T me → 0 < o.running.leader → (replay h o.records).term ≤ T o.running.leader

pub record Fair {I : Type 0} (Q : I → Type 0) (T : ℕ → ℕ) (me : ℕ) (h : Held) (o : Outcome I) : Type 0 where
  pub plain : HasNoBase o.records
  pub knows : Knows T me h o
  pub sends : AllSends Q o.mail

no_base_cut : (rs : List Record) (cut : Option ℕ) → HasNoBase rs → HasNoBase (with_cut rs cut)
no_base_cut rs None f = f
no_base_cut rs (Some k) f = no_base_join rs (record_.Truncate k ∷ []) f tt

no_base_changes : (h : Held) (t v : ℕ) (cut : Option ℕ) (es : List LogEntry) → HasNoBase (changes h t v cut es)
no_base_changes h t v cut es = no_base_join (with_cut (vote_records h t v) cut) (appended es) (no_base_cut (vote_records h t v) cut (no_base_votes h t v)) (no_base_appended es)

module _ {I : Type 0} (Q : I → Type 0) (T : ℕ → ℕ) (n me : ℕ) (h : Held) (v : Running) (old : 0 < v.leader → h.term ≤ T v.leader) where
  abbrev IsFair : Outcome I → Type 0
  IsFair o = Fair Q T me h o

  voted_term : (t x : ℕ) → (replay h (vote_records h t x)).term ≡ t
  voted_term t x = ap (λ (z : Held). z.term) (replay_vote h t x)

  -- nothing is written, and the leader is the old one
  still_fair : (w : Running) (ms : List (ℕ × Mail I)) → w.leader ≡ v.leader → AllSends Q ms → IsFair (record { records = []; running = w; mail = ms })
  still_fair w ms e s = record { plain = tt; knows = λ own pos. by_old w.leader e pos; sends = s }
    where
      by_old : (l : ℕ) → l ≡ v.leader → 0 < l → h.term ≤ T l
      by_old l e pos = rw e (old (omega arith))

  -- no leader is known
  lost_fair : (rs : List Record) (w : Running) (ms : List (ℕ × Mail I)) → w.leader ≡ 0 → HasNoBase rs → AllSends Q ms → IsFair (record { records = rs; running = w; mail = ms })
  lost_fair rs w ms e p s = record { plain = p; knows = λ own pos. absurd (omega (arith, e, pos)); sends = s }

  -- a sender that has come to the term behind the step is the leader
  from_knows : (rs : List Record) (t from : ℕ) → (replay h rs).term ≡ t → t ≤ T from → (replay h rs).term ≤ T from
  from_knows rs t from e l = omega (arith, e, l)

  -- a vote, or none
  at_knows : (t x : ℕ) (b : Bool) → nat_lt h.term t ≡ b → nat_lt t h.term ≡ false → 0 < (cond b (following v 0) v).leader → (replay h (vote_records h t x)).term ≤ T (cond b (following v 0) v).leader
  at_knows t x true e f pos = absurd (omega (arith, pos))
  at_knows t x false e f pos = let same : h.term ≡ t = grind (arith, nat_tests) in omega (arith, same, voted_term t x, old pos)

  at_fair : (t x : ℕ) (ms : List (ℕ × Mail I)) → nat_lt t h.term ≡ false → AllSends Q ms → IsFair (record { records = vote_records h t x; running = running_at h v t; mail = ms })
  at_fair t x ms f s = record { plain = no_base_votes h t x; knows = λ own pos. at_knows t x (nat_lt h.term t) refl f pos; sends = s }

  lead_fair : (term : ℕ) (log : Rattle.kp_entry.specs.Log.Log) (w : Running) (rs : List Record) → HasNoBase rs → IsFair (leads n me term log w rs)
  lead_fair term log w rs p = record { plain = no_base_join rs _ p tt; knows = λ own pos. own; sends = tt }

  term_fair : (t : ℕ) → IsFair (on_term h v t)
  term_fair t = cond_cases IsFair (nat_lt h.term t) (record { records = vote_records h t 0; running = following v 0; mail = [] }) (nothing v)
      (λ _. lost_fair (vote_records h t 0) (following v 0) [] refl (no_base_votes h t 0) tt)
      (λ _. still_fair v [] refl tt)

  pub timeout_fair : IsFair (on_timeout n me h v)
  timeout_fair = cond_cases IsFair (may_stand h v) _ (nothing v)
      (λ _. cond_cases IsFair (is_majority n (own_vote me)) (leads n me (h.term + 1) h.log (candidate me v) (vote_records h (h.term + 1) me)) (record { records = vote_records h (h.term + 1) me; running = candidate me v; mail = for_peers n me (vote_request me h) })
      (λ _. lead_fair (h.term + 1) h.log (candidate me v) (vote_records h (h.term + 1) me) (no_base_votes h (h.term + 1) me))
      (λ _. lost_fair (vote_records h (h.term + 1) me) (candidate me v) (for_peers n me (vote_request me h)) refl (no_base_votes h (h.term + 1) me) (sends_peers Q n me (vote_request me h) (λ p. (tt, tt)))))
      (λ _. still_fair v [] refl tt)

  pub request_fair : (t from end end_term : ℕ) → IsFair (on_vote_req me h v t from end end_term)
  request_fair t from end end_term = cond_cases IsFair (nat_lt t h.term) _ _
      (λ _. still_fair v _ refl (tt, tt))
      (λ f. cond_cases IsFair (grants (vote_at h t) from end_term end h.log) _ _
      (λ _. at_fair t from _ f (tt, tt))
      (λ _. at_fair t (vote_at h t) _ f (tt, tt)))

  pub vote_fair : (t from : ℕ) (granted : Bool) → IsFair (on_vote_rep n me h v t from granted)
  vote_fair t from granted = cond_cases IsFair (counts t h v granted) _ _
      (λ _. cond_cases IsFair (is_majority n (with_vote v from).votes) _ _
      (λ _. lead_fair h.term h.log (with_vote v from) [] tt)
      (λ _. still_fair (with_vote v from) [] refl tt))
      (λ _. term_fair t)

  pub rep_fair : (t from : ℕ) (ok : Bool) (end : ℕ) → IsFair (on_append_rep n me h v t from ok end)
  rep_fair t from ok end = cond_cases IsFair (nat_eq t h.term && is_leader v.role) _ _
      (λ _. cond_cases IsFair ok _ _
      (λ _. still_fair (with_match n me h v from end) [] refl tt)
      (λ _. still_fair (with_next v from end) [] refl tt))
      (λ _. term_fair t)

  -- an append of a sender that has come to its term
  pub append_fair : (m : AppendMail) (j : ℕ) → m.term ≤ T m.from → IsFair (on_append me h v m j)
  append_fair m j sent = cond_cases IsFair (nat_lt m.term h.term) _ _
      (λ _. still_fair v _ refl (tt, tt))
      (λ _. cond_cases IsFair (fits h.log m.prev m.prev_term) _ _
      (λ _. cond_cases IsFair (clashes h.log m.prev m.entries v.commit) _ _
      (λ _. record { plain = no_base_votes h m.term (vote_at h m.term); knows = λ own pos. from_knows (vote_records h m.term (vote_at h m.term)) m.term m.from (voted_term m.term (vote_at h m.term)) sent; sends = tt })
      (λ _. record {
        plain = no_base_changes h m.term (vote_at h m.term) (keep_of h.log m.prev m.entries) (missing h.log m.prev m.entries j);
        knows = λ own pos. from_knows (changes h m.term (vote_at h m.term) (keep_of h.log m.prev m.entries) (missing h.log m.prev m.entries j)) m.term m.from (ap (λ (z : Held). z.term) (replay_changes h m.term (vote_at h m.term) (keep_of h.log m.prev m.entries) (missing h.log m.prev m.entries j))) sent;
        sends = (tt, tt);
      }))
      (λ _. record { plain = no_base_votes h m.term (vote_at h m.term); knows = λ own pos. from_knows (vote_records h m.term (vote_at h m.term)) m.term m.from (voted_term m.term (vote_at h m.term)) sent; sends = (tt, tt) }))

  wrote_knows : (rs : List Record) (b : Bool) → (replay h rs).term ≡ h.term → 0 < (cond b v (following v 0)).leader → (replay h rs).term ≤ T (cond b v (following v 0)).leader
  wrote_knows rs true e pos = omega (arith, e, old pos)
  wrote_knows rs false e pos = absurd (omega (arith, pos))

  pub propose_fair : (time : ℕ) (bodies : List Body) → IsFair (on_propose n me h v time bodies)
  propose_fair time bodies = cond_cases IsFair (is_leader v.role) _ _
      (λ _. record {
        plain = no_base_appended (proposed h time bodies);
        knows = λ own pos. wrote_knows (appended (proposed h time bodies)) (nat_lt (last_index h.log + length (proposed h time bodies)) MAX) (ap (λ (z : Held). z.term) (replay_appended h (proposed h time bodies))) pos;
        sends = tt;
      })
      (λ _. still_fair v [] refl tt)

  -- ---- images

  pub compact_knows : (i : ℕ) → Knows {I = I} T me h (on_compact h v i)
  compact_knows i = cond_cases (Knows T me h) (nat_lt h.log.base i) (record { records = record_.Base i (term_of h.log i) ∷ []; running = v; mail = [] }) (nothing v) (λ _ own pos. old pos) (λ _ own pos. old pos)

  based_term : (t x i it : ℕ) → (replay h (vote_records h t x ++ record_.Base i it ∷ [])).term ≡ t
  based_term t x i it = ap (λ (z : Held). z.term) (replay_append h (vote_records h t x) (record_.Base i it ∷ [])) ∙ voted_term t x

  pub install_knows : (t from i it : ℕ) → t ≤ T from → Knows {I = I} T me h (on_install me h v t from i it)
  install_knows t from i it sent = cond_cases (Knows T me h) (nat_lt t h.term) _ _
      (λ _ own pos. old pos)
      (λ _. cond_cases (Knows T me h) (nat_le i v.commit) _ _
      (λ _ own pos. from_knows (vote_records h t (vote_at h t)) t from (voted_term t (vote_at h t)) sent)
      (λ _ own pos. from_knows (vote_records h t (vote_at h t) ++ record_.Base i it ∷ []) t from (based_term t (vote_at h t) i it) sent))

  pub install_sends : (t from i it : ℕ) → AllSends Q (on_install me h v t from i it).mail
  install_sends t from i it = cond_cases (λ (o : Outcome I). AllSends Q o.mail) (nat_lt t h.term) _ _
      (λ _. (tt, tt))
      (λ _. cond_cases (λ (o : Outcome I). AllSends Q o.mail) (nat_le i v.commit) _ _ (λ _. (tt, tt)) (λ _. (tt, tt)))

  pub nothing_fair : IsFair (nothing v)
  nothing_fair = still_fair v [] refl tt

  -- ---- beats

  images_send : (p index : ℕ) (o : Option I) → ((image : I) → o ≡ Some image → Q image) → AllSends Q (install_with me h p index o)
  images_send p index None f = tt
  images_send p index (Some image) f = (f image refl, tt)

  pub beat_sends : (index : ℕ) (images : List I) → ((i : ℕ) (image : I) → slice_get images i ≡ Some image → Q image) → AllSends Q (on_beat n me h v index images).mail
  beat_sends index images f = cond_cases (AllSends Q) (is_leader v.role) (for_peers n me (beat_for me h v index images)) []
      (λ _. sends_peers Q n me (beat_for me h v index images) (λ p. cond_cases (AllSends Q) (lags me h v p) (install_with me h p index (slice_get images (count (p - 1) (lags me h v)))) (to p (mail.Append (append_for me h v p)))
      (λ _. images_send p index (slice_get images (count (p - 1) (lags me h v))) (f (count (p - 1) (lags me h v))))
      (λ _. (tt, tt))))
      (λ _. tt)
