-- What each rule of Raft wants kept: plain records, or a base with the index and the term of the image that it takes.
use Rattle.std.proofs.Common.{◌≡◌, ℕ, ◌+◌, ◌-◌, ◌≤◌, ◌<◌, Bool, true, false, cond, List, [], ◌∷◌, ◌++◌, length, drop, Option, Some, None, refl, ap, sym, ◌∙◌, arith}
use Rattle.std.specs.Prelude.{◌&&◌, min, nat_lt, nat_le, nat_eq}
use Rattle.std.proofs.lemmas.Bool.Decides.{nat_tests}
use Rattle.kp_model.specs.declared.entry.Body.{Body}
use Rattle.kp_model.specs.LogEntry.{LogEntry}
use Rattle.kp_entry.specs.declared.record.Record.TheVariants as record_
use Rattle.kp_entry.specs.Heads.{voted}
use Rattle.kp_entry.specs.Held.{Held}
use Rattle.kp_entry.specs.Log.{Log, last_index, behind}
use Rattle.kp_model.specs.Majority.{is_majority}
use Rattle.kp_raft.specs.declared.append.AppendMail.{AppendMail}
use Rattle.kp_raft.specs.declared.event.RaftEvent.{RaftEvent}
use Rattle.kp_raft.specs.declared.event.RaftEvent.TheVariants as raft
use Rattle.kp_raft.specs.declared.mail.Mail.{Mail}
use Rattle.kp_raft.specs.declared.mail.Mail.TheVariants as mail
use Rattle.kp_raft.specs.Parts.{Running, Outcome, vote_at, is_leader}
use Rattle.kp_raft.specs.Rules.{noop, may_stand, own_vote, grants, with_vote, counts, on_timeout, on_vote_req, on_term, on_vote_rep, on_append_rep, proposed, on_propose}
use Rattle.kp_raft.specs.Appends.{fits, clashes, below_base, agreeing, matched, conflicts, keep_of, missing, on_append, on_install}
use Rattle.kp_raft.specs.Steps.{passes, passes_append, on_mail, take, all_of, react, image_in, image_of}
use Rattle.kp_kept.proofs.Shapes.{IsPlain, IsBased, CutFits, pick, pick_by, none, entries_plain, vote_plain, vote_based, vote_and, change_plain}

-- ---- a truncation is at an index of the log

cut_within : (base last prev len agreed : ℕ) → nat_lt (min len (base - prev) + agreed) len ≡ true → nat_lt (prev + (min len (base - prev) + agreed)) last ≡ true
    → (nat_le base (prev + (min len (base - prev) + agreed)) && nat_le (prev + (min len (base - prev) + agreed)) last) ≡ true
cut_within base last prev len agreed some below =
    let lt : min len (base - prev) + agreed < len = grind (arith, nat_tests) in
    let under : prev + (min len (base - prev) + agreed) < last = grind (arith, nat_tests) in
    let from : base ≤ prev + (min len (base - prev) + agreed) = omega (arith, lt) in
    let to : prev + (min len (base - prev) + agreed) ≤ last = omega (arith, under) in
    both _ _ (le_true _ _ from) (le_true _ _ to)
  where
    both : (a b : Bool) → a ≡ true → b ≡ true → (a && b) ≡ true
    both true b e f = f
    both false b e f = absurd (cc e)

    le_true : (m n : ℕ) → m ≤ n → nat_le m n ≡ true
    le_true m n le = grind (arith, nat_tests)

left : (a b : Bool) → (a && b) ≡ true → a ≡ true
left true b e = refl
left false b e = absurd (cc e)

right : (a b : Bool) → (a && b) ≡ true → b ≡ true
right true b e = e
right false b e = absurd (cc e)

keep_fits : (log : Log) (prev : ℕ) (es : List LogEntry) → CutFits log (keep_of log prev es)
keep_fits log prev es = pick_by (CutFits log) (conflicts log prev es) (Some (prev + matched log prev es)) None (conflicts log prev es) refl
    (λ e. cut_within log.base (last_index log) prev (length es) (agreeing (behind log (prev + below_base log prev es)) (drop (below_base log prev es) es)) (left _ _ e) (right _ _ e)) (λ e. tt)

-- ---- rule by rule

module _ (I : Type 0) (n me : ℕ) (h : Held) (v : Running) where
  abbrev pub Plain : Outcome I → Type 0
  Plain o = IsPlain h o.records

  timeout_plain : Plain (on_timeout n me h v)
  timeout_plain = pick Plain (may_stand h v) _ _ (pick Plain (is_majority n (own_vote me)) _ _ (vote_and h (h.term + 1) me (noop (h.term + 1) ∷ [])) (vote_plain h (h.term + 1) me)) (none h)

  vote_req_plain : (t from end end_term : ℕ) → Plain (on_vote_req me h v t from end end_term)
  vote_req_plain t from end end_term = pick Plain (nat_lt t h.term) _ _ (none h) (pick Plain (grants (vote_at h t) from end_term end h.log) _ _ (vote_plain h t from) (vote_plain h t (vote_at h t)))

  term_plain : (t : ℕ) → Plain (on_term h v t)
  term_plain t = pick Plain (nat_lt h.term t) _ _ (vote_plain h t 0) (none h)

  vote_rep_plain : (t from : ℕ) (granted : Bool) → Plain (on_vote_rep n me h v t from granted)
  vote_rep_plain t from granted = pick Plain (counts t h v granted) _ _ (pick Plain (is_majority n (with_vote v from).votes) _ _ (entries_plain h (noop h.term ∷ [])) (none h)) (term_plain t)

  append_plain : (m : AppendMail) (j : ℕ) → Plain (on_append me h v m j)
  append_plain m j = pick Plain (nat_lt m.term h.term) _ _ (none h)
      (pick Plain (fits h.log m.prev m.prev_term) _ _
      (pick Plain (clashes h.log m.prev m.entries v.commit) _ _ (vote_plain h m.term (vote_at h m.term)) (change_plain h m.term (vote_at h m.term) (keep_of h.log m.prev m.entries) (missing h.log m.prev m.entries j) (keep_fits h.log m.prev m.entries)))
      (vote_plain h m.term (vote_at h m.term)))

  rep_plain : (t from : ℕ) (ok : Bool) (end : ℕ) → Plain (on_append_rep n me h v t from ok end)
  rep_plain t from ok end = pick Plain (nat_eq t h.term && is_leader v.role) _ _ (pick Plain ok _ _ (none h) (none h)) (term_plain t)

  propose_plain : (time : ℕ) (bodies : List Body) → Plain (on_propose n me h v time bodies)
  propose_plain time bodies = pick Plain (is_leader v.role) _ _ (entries_plain h (proposed h time bodies)) (none h)

  pub take_plain : (m : AppendMail) (j : ℕ) → Plain (take n me h v m j)
  take_plain m j = pick Plain (passes_append n me m) _ _ (append_plain m j) (none h)

  -- ---- where an image is taken

  module _ (index term : I → ℕ) where
    -- what is kept where this image is taken
    abbrev pub Wants : Outcome I → Option I → Type 0
    Wants o None = Plain o
    Wants o (Some i) = IsBased o.records (index i) (term i)

    install_by : (i it : ℕ) (image : I) (a b : Bool) (x y z : Outcome I) → Plain x → Plain y → IsBased z.records i it → index image ≡ i → term image ≡ it → Wants (cond a x (cond b y z)) (cond a None (cond b None (Some image)))
    install_by i it image true b x y z p q w e f = p
    install_by i it image false true x y z p q w e f = q
    install_by i it image false false x y z p q w e f = record { ballot = w.ballot; is = w.is ∙ ap (λ (k : ℕ). voted w.ballot ++ record_.Base k it ∷ []) (sym e) ∙ ap (λ (k : ℕ). voted w.ballot ++ record_.Base (index image) k ∷ []) (sym f) }

    install_wants : (t from i it : ℕ) (image : I) → index image ≡ i → term image ≡ it → Wants (on_install me h v t from i it) (cond (nat_lt t h.term) None (cond (nat_le i v.commit) None (Some image)))
    install_wants t from i it image e f = install_by i it image (nat_lt t h.term) (nat_le i v.commit) _ _ _ (none h) (vote_plain h t (vote_at h t)) (vote_based h t (vote_at h t) i it) e f

    -- an image is of the index and of the term that its message names
    abbrev pub IsNamed : Mail I → Type 0
    IsNamed (mail.Install t from i it image) = (index image ≡ i) × (term image ≡ it)
    IsNamed m = Unit {0}

    mail_wants : (m : Mail I) → IsNamed m → Wants (on_mail n me h v (all_of m) m) (image_in h v m)
    mail_wants (mail.VoteReq t from end end_term) e = vote_req_plain t from end end_term
    mail_wants (mail.VoteRep t from granted) e = vote_rep_plain t from granted
    mail_wants (mail.Append m) e = append_plain m (length m.entries)
    mail_wants (mail.AppendRep t from ok end heard) e = rep_plain t from ok end
    mail_wants (mail.Install t from i it image) e = install_wants t from i it image e.0 e.1
    mail_wants (mail.InstallRep t from i) e = rep_plain t from true i
    mail_wants (mail.Forward t from b) e = term_plain t

    both_want : (b : Bool) (x y : Outcome I) (i j : Option I) → Wants x i → Wants y j → Wants (cond b x y) (cond b i j)
    both_want true x y i j p q = p
    both_want false x y i j p q = q

    -- an event that is not an image of the own
    abbrev pub IsNoImage : RaftEvent I → Type 0
    IsNoImage (raft.Deliver m) = IsNamed m
    IsNoImage (raft.Compact i) = ⊥
    IsNoImage e = Unit {0}

    pub react_wants : (e : RaftEvent I) → IsNoImage e → Wants (react n me h v e) (image_of n me h v e)
    react_wants raft.Timeout e = timeout_plain
    react_wants (raft.Beat i images) e = none h
    react_wants (raft.Deliver m) e = both_want (passes n me (last_index h.log) m) _ _ _ _ (mail_wants m e) (none h)
    react_wants (raft.Propose time bodies) e = propose_plain time bodies
    react_wants (raft.Compact i) e = elim e [ ]
