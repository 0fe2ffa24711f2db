-- No step lowers the commit index, and an image that is taken is of an index above it.
use Rattle.std.proofs.Common.{◌≡◌, ℕ, zero, suc, ◌+◌, ◌≤◌, ◌<◌, Bool, true, false, cond, ◌&&◌, List, [], ◌∷◌, length, Option, Some, None, refl, subst, arith}
use Rattle.std.proofs.lemmas.Bool.Decides.{nat_tests}
use Rattle.std.specs.Prelude.{nat_lt, nat_le, nat_eq, ◌==◌}
use Rattle.std.specs.FinMap as map
use Rattle.kp_model.specs.declared.entry.Body.{Body}
use Rattle.kp_model.specs.Majority.{is_majority}
use Rattle.kp_model.specs.LogEntry.{LogEntry}
use Rattle.kp_entry.specs.declared.record.Record.{Record}
use Rattle.kp_entry.specs.Held.{Held}
use Rattle.kp_entry.specs.Log.{Log, last_index, with_entries}
use Rattle.kp_raft.specs.declared.append.AppendMail.{AppendMail}
use Rattle.kp_raft.specs.declared.event.RaftEvent.{RaftEvent}
use Rattle.kp_raft.specs.declared.event.RaftEvent.TheVariants as raft
use Rattle.kp_raft.specs.declared.mail.Mail.{Mail}
use Rattle.kp_raft.specs.declared.mail.Mail.TheVariants as mail
use Rattle.kp_raft.specs.Numbers.{MAX, greatest}
use Rattle.kp_raft.specs.Parts.{Running, Outcome, following, running_at, vote_at, vote_records, is_leader}
use Rattle.kp_raft.specs.Rules.{committed, leads, may_stand, candidate, own_vote, on_timeout, grants, on_vote_req, on_term, with_vote, counts, on_vote_rep, on_append_rep, proposed, on_propose}
use Rattle.kp_raft.specs.Appends.{fits, clashes, on_append, on_install, on_compact}
use Rattle.kp_raft.specs.Steps.{passes, passes_append, on_mail, take, all_of, react, image_in, image_of}
use Rattle.kp_event.specs.declared.event.NodeEventKind.{NodeEventKind}
use Rattle.kp_event.specs.declared.event.NodeEventKind.TheVariants as kind
use Rattle.kp_conn.specs.Connection.{is_over}
use Rattle.kp_step.specs.declared.seat.Seat.{Seat}
use Rattle.kp_step.specs.Choices.{Choices}
use Rattle.kp_step.specs.Node.{Node, Images}
use Rattle.kp_step.specs.Applying.{upcoming}
use Rattle.kp_step.specs.Committing.{committed as committed_greeting}
use Rattle.kp_step.specs.Asking.{Words, Input, idle, asks, appends, reacted, installed, propose_if, taken_by, client_input, client_served, fed_end, is_csnp, may_propose, mail_as, commit_input, expiries, asked}

pick : {A : Type 0} (P : A → Type 0) (b : Bool) (x y : A) → P x → P y → P (cond b x y)
pick P true x y p q = p
pick P false x y p q = q

up_by : (i old g : ℕ) (a : Bool) → nat_lt old (suc i) ≡ a → (b : Bool) → old ≤ g → old ≤ cond (a && b) (suc i) g
up_by i old g true e true h = let lt : old < suc i = grind (arith, nat_tests) in omega (arith, lt)
up_by i old g true e false h = h
up_by i old g false e b h = h

greatest_up : (i : ℕ) (f : ℕ → Bool) (old : ℕ) → old ≤ greatest i f old
greatest_up zero f old = omega arith
greatest_up (suc i) f old = up_by i old (greatest i f old) (nat_lt old (suc i)) refl (f (suc i)) (greatest_up i f old)

-- ---- rule by rule

module _ (I : Type 0) (n me : ℕ) (h : Held) (v : Running) where
  abbrev pub Keeps : Outcome I → Type 0
  Keeps o = v.commit ≤ o.running.commit

  abbrev pub KeepsIt : Running → Type 0
  KeepsIt w = v.commit ≤ w.commit

  lead_keeps : (term : ℕ) (log : Log) (w : Running) (rs : List Record) → w.commit ≡ v.commit → Keeps (leads n me term log w rs)
  lead_keeps term log w rs e = subst (λ z. z ≤ (leads {I = I} n me term log w rs).running.commit) e (greatest_up _ _ w.commit)

  at_term : (t : ℕ) → KeepsIt (running_at h v t)
  at_term t = pick KeepsIt (nat_lt h.term t) (following v 0) v (omega arith) (omega arith)

  timeout_keeps : Keeps (on_timeout n me h v)
  timeout_keeps = pick Keeps (may_stand h v) _ _ (pick Keeps (is_majority n (own_vote me)) _ _ (lead_keeps (h.term + 1) h.log (candidate me v) (vote_records h (h.term + 1) me) refl) (omega arith)) (omega arith)

  wrote_by : (es : List LogEntry) (w : Running) → w.commit ≡ v.commit → KeepsIt (committed n me h.term (with_entries h.log es) w)
  wrote_by es w e = subst (λ z. z ≤ (committed n me h.term (with_entries h.log es) w).commit) e (greatest_up _ _ w.commit)

  wrote_keeps : (last : ℕ) (es : List LogEntry) (b : Bool) → KeepsIt (committed n me h.term (with_entries h.log es) (cond b v (following v 0)))
  wrote_keeps last es true = wrote_by es v refl
  wrote_keeps last es false = wrote_by es (following v 0) refl

  vote_req_keeps : (t from end end_term : ℕ) → Keeps (on_vote_req me h v t from end end_term)
  vote_req_keeps t from end end_term = pick Keeps (nat_lt t h.term) _ _ (omega arith) (pick Keeps (grants (vote_at h t) from end_term end h.log) _ _ (at_term t) (at_term t))

  term_keeps : (t : ℕ) → Keeps (on_term h v t)
  term_keeps t = pick Keeps (nat_lt h.term t) _ _ (omega arith) (omega arith)

  vote_rep_keeps : (t from : ℕ) (granted : Bool) → Keeps (on_vote_rep n me h v t from granted)
  vote_rep_keeps t from granted = pick Keeps (counts t h v granted) _ _ (pick Keeps (is_majority n (with_vote v from).votes) _ _ (lead_keeps h.term h.log (with_vote v from) [] refl) (omega arith)) (term_keeps t)

  append_keeps : (m : AppendMail) (j : ℕ) → Keeps (on_append me h v m j)
  append_keeps m j = pick Keeps (nat_lt m.term h.term) _ _ (omega arith) (pick Keeps (fits h.log m.prev m.prev_term) _ _ (pick Keeps (clashes h.log m.prev m.entries v.commit) _ _ (omega arith) (omega arith)) (omega arith))

  rep_keeps : (t from : ℕ) (ok : Bool) (end : ℕ) → Keeps (on_append_rep n me h v t from ok end)
  rep_keeps t from ok end = pick Keeps (nat_eq t h.term && is_leader v.role) _ _ (pick Keeps ok _ _ (greatest_up _ _ v.commit) (omega arith)) (term_keeps t)

  abbrev pub TakenBy : (I → ℕ) → Outcome I → Option I → Type 0
  TakenBy index o None = Unit {0}
  TakenBy index o (Some i) = (v.commit < index i) × (index i ≤ o.running.commit)

  -- the commit index stays or rises, and an image that is taken lies above the old one and not above the new one
  abbrev pub Advances : (I → ℕ) → Outcome I → Option I → Type 0
  Advances index o image = Keeps o × TakenBy index o image

  install_by : (index : I → ℕ) (i : ℕ) (image : I) (a b : Bool) → nat_le i v.commit ≡ b → (x y z : Outcome I) → Keeps x → Keeps y → z.running.commit ≡ i → index image ≡ i
      → Advances index (cond a x (cond b y z)) (cond a None (cond b None (Some image)))
  install_by index i image true b f x y z p q e g = (p, tt)
  install_by index i image false true f x y z p q e g = (q, tt)
  install_by index i image false false f x y z p q e g = let above : v.commit < i = grind (arith, nat_tests) in
      (omega (arith, above, e), (omega (arith, above, g), omega (arith, e, g)))

  install_advances : (index : I → ℕ) (t from i it : ℕ) (image : I) → index image ≡ i → Advances index (on_install me h v t from i it) (cond (nat_lt t h.term) None (cond (nat_le i v.commit) None (Some image)))
  install_advances index t from i it image e = install_by index i image (nat_lt t h.term) (nat_le i v.commit) refl _ _ _ (omega arith) (omega arith) refl e

  propose_keeps : (time : ℕ) (bodies : List Body) → Keeps (on_propose n me h v time bodies)
  propose_keeps time bodies = pick Keeps (is_leader v.role) _ _
      (wrote_keeps (last_index h.log + length (proposed h time bodies)) (proposed h time bodies) (nat_lt (last_index h.log + length (proposed h time bodies)) MAX)) (omega arith)

  compact_keeps : (i : ℕ) → Keeps (on_compact h v i)
  compact_keeps i = pick Keeps (nat_lt h.log.base i) _ _ (omega arith) (omega arith)

  -- ---- mail and events

  -- an image is of the index that its message names
  abbrev pub IsOfIndex : (I → ℕ) → Mail I → Type 0
  IsOfIndex index (mail.Install t from i it image) = index image ≡ i
  IsOfIndex index m = Unit {0}

  mail_advances : (index : I → ℕ) (m : Mail I) → IsOfIndex index m → Advances index (on_mail n me h v (all_of m) m) (image_in h v m)
  mail_advances index (mail.VoteReq t from end end_term) e = (vote_req_keeps t from end end_term, tt)
  mail_advances index (mail.VoteRep t from granted) e = (vote_rep_keeps t from granted, tt)
  mail_advances index (mail.Append m) e = (append_keeps m (length m.entries), tt)
  mail_advances index (mail.AppendRep t from ok end heard) e = (rep_keeps t from ok end, tt)
  mail_advances index (mail.Install t from i it image) e = install_advances index t from i it image e
  mail_advances index (mail.InstallRep t from i) e = (rep_keeps t from true i, tt)
  mail_advances index (mail.Forward t from b) e = (term_keeps t, tt)

  both_advance : (index : I → ℕ) (b : Bool) (x y : Outcome I) (i j : Option I) → Advances index x i → Advances index y j → Advances index (cond b x y) (cond b i j)
  both_advance index true x y i j p q = p
  both_advance index false x y i j p q = q

  abbrev pub IsOfItsIndex : (I → ℕ) → RaftEvent I → Type 0
  IsOfItsIndex index (raft.Deliver m) = IsOfIndex index m
  IsOfItsIndex index e = Unit {0}

  pub react_advances : (index : I → ℕ) (e : RaftEvent I) → IsOfItsIndex index e → Advances index (react n me h v e) (image_of n me h v e)
  react_advances index raft.Timeout e = (timeout_keeps, tt)
  react_advances index (raft.Beat i images) e = (omega arith, tt)
  react_advances index (raft.Deliver m) e = both_advance index (passes n me (last_index h.log) m) _ _ _ _ (mail_advances index m e) (omega arith, tt)
  react_advances index (raft.Propose time bodies) e = (propose_keeps time bodies, tt)
  react_advances index (raft.Compact i) e = (compact_keeps i, tt)

  pub take_keeps : (m : AppendMail) (j : ℕ) → Keeps (take n me h v m j)
  take_keeps m j = pick Keeps (passes_append n me m) _ _ (append_keeps m j) (omega arith)

-- ---- what the node asks

abbrev pub index_of : {I : Type 0} → Images I → I → ℕ
index_of im i = (im.shows i).applied

module _ {I : Type 0} (im : Images I) (x : Node) where
  abbrev pub IsFit : Input I → Type 0
  IsFit idle = Unit {0}
  IsFit (asks e) = IsOfItsIndex I x.members x.me x.held x.running (index_of im) e
  IsFit (appends m j) = Unit {0}

  abbrev pub AdvancesBy : Input I → Type 0
  AdvancesBy input = Advances I x.members x.me x.held x.running (index_of im) (reacted x input) (installed x input)

  fit_advances : (input : Input I) → IsFit input → AdvancesBy input
  unfolding reacted installed
  fit_advances idle e = (omega arith, tt)
  fit_advances (asks v) e = react_advances I x.members x.me x.held x.running (index_of im) v e
  fit_advances (appends m j) e = (take_keeps I x.members x.me x.held x.running m j, tt)

  propose_fits : (now : ℕ) (bs : List Body) → IsFit (propose_if now bs)
  propose_fits now [] = tt
  propose_fits now (b ∷ bs) = tt

  client_fits : (words : Words) (ch : Choices) (now k : ℕ) (bytes : List ℕ) (o : Option Seat) → IsFit (client_input words ch x now k bytes o)
  client_fits words ch now k bytes None = tt
  client_fits words ch now k bytes (Some s) = pick IsFit (is_over s.connection.phase) idle _ tt (pick IsFit (is_csnp (fed_end s bytes)) (asks (raft.Compact x.state.applied)) _ tt (propose_fits now (client_served words ch x now k bytes s).desk.bodies))

  whole_fits : (m : Mail I) (a i b it : ℕ) (w : Bool) → (a == i) ≡ w → (c : Bool) → (w ≡ true → IsFit (asks (raft.Deliver m))) → IsFit (cond (w && c) (asks (raft.Deliver m)) idle)
  whole_fits m a i b it true e true h = h refl
  whole_fits m a i b it true e false h = tt
  whole_fits m a i b it false e c h = tt

  same_index : (a i : ℕ) → (a == i) ≡ true → a ≡ i
  same_index a i e = grind (arith, nat_tests)

  mail_fits : (room : Option ℕ) (now : ℕ) (m : Mail I) → IsFit (mail_as im room x now m m)
  mail_fits room now (mail.VoteReq t from end end_term) = tt
  mail_fits room now (mail.VoteRep t from granted) = tt
  mail_fits room now (mail.Append m) = tt
  mail_fits room now (mail.AppendRep t from ok end heard) = tt
  mail_fits room now (mail.Install t from i it image) = whole_fits (mail.Install t from i it image) (im.shows image).applied i (im.term image) it ((im.shows image).applied == i) refl (im.term image == it) (λ e. same_index (im.shows image).applied i e)
  mail_fits room now (mail.InstallRep t from i) = tt
  mail_fits room now (mail.Forward t from b) = pick IsFit (may_propose {I = I} x (mail.Forward t from b) t) _ _ (propose_fits now (taken_by x now (b ∷ []))) tt

  commit_fits : (ch : Choices) (now : ℕ) (o : Option LogEntry) → IsFit (commit_input ch x now o)
  commit_fits ch now None = tt
  commit_fits ch now (Some e) = propose_fits now (committed_greeting ch x now e).desk.bodies

  asked_fits : (words : Words) (ch : Choices) (now : ℕ) (v : NodeEventKind (Mail I)) → IsFit (asked words im ch x now v)
  unfolding asked
  asked_fits words ch now (kind.Accept draw) = tt
  asked_fits words ch now (kind.Client k bytes) = client_fits words ch now k bytes (map.get x.seats k)
  asked_fits words ch now (kind.Hangup k) = tt
  asked_fits words ch now (kind.Drain k) = tt
  asked_fits words ch now (kind.Deliver m) = mail_fits ch.room now m
  asked_fits words ch now kind.Timeout = tt
  asked_fits words ch now kind.Beat = tt
  asked_fits words ch now kind.CommitOne = commit_fits ch now (upcoming x)
  asked_fits words ch now kind.ExpireDue = propose_fits now (taken_by x now (expiries x now))
  asked_fits words ch now kind.Snapshot = tt

  pub asked_advances : (words : Words) (ch : Choices) (now : ℕ) (v : NodeEventKind (Mail I)) → AdvancesBy (asked words im ch x now v)
  asked_advances words ch now v = fit_advances (asked words im ch x now v) (asked_fits words ch now v)

  -- ---- only mail brings an image

  abbrev pub TakesNone : Input I → Type 0
  TakesNone input = installed x input ≡ None

  propose_none : (now : ℕ) (bs : List Body) → TakesNone (propose_if now bs)
  unfolding installed
  propose_none now [] = refl
  propose_none now (b ∷ bs) = refl

  client_none : (words : Words) (ch : Choices) (now k : ℕ) (bytes : List ℕ) (o : Option Seat) → TakesNone (client_input words ch x now k bytes o)
  unfolding installed
  client_none words ch now k bytes None = refl
  client_none words ch now k bytes (Some s) = pick TakesNone (is_over s.connection.phase) idle _ refl (pick TakesNone (is_csnp (fed_end s bytes)) (asks (raft.Compact x.state.applied)) _ refl (propose_none now (client_served words ch x now k bytes s).desk.bodies))

  commit_none : (ch : Choices) (now : ℕ) (o : Option LogEntry) → TakesNone (commit_input ch x now o)
  unfolding installed
  commit_none ch now None = refl
  commit_none ch now (Some e) = propose_none now (committed_greeting ch x now e).desk.bodies

  abbrev pub NoneUnlessMail : Words → Choices → ℕ → NodeEventKind (Mail I) → Type 0
  NoneUnlessMail words ch now (kind.Deliver m) = Unit {0}
  NoneUnlessMail words ch now v = TakesNone (asked words im ch x now v)

  pub asked_none : (words : Words) (ch : Choices) (now : ℕ) (v : NodeEventKind (Mail I)) → NoneUnlessMail words ch now v
  unfolding asked installed
  asked_none words ch now (kind.Accept draw) = refl
  asked_none words ch now (kind.Client k bytes) = client_none words ch now k bytes (map.get x.seats k)
  asked_none words ch now (kind.Hangup k) = refl
  asked_none words ch now (kind.Drain k) = refl
  asked_none words ch now (kind.Deliver m) = tt
  asked_none words ch now kind.Timeout = refl
  asked_none words ch now kind.Beat = refl
  asked_none words ch now kind.CommitOne = commit_none ch now (upcoming x)
  asked_none words ch now kind.ExpireDue = propose_none now (taken_by x now (expiries x now))
  asked_none words ch now kind.Snapshot = refl
