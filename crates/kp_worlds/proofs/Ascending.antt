-- Raft goes through the peers in order, and answers one member; and what is sent on goes to one leader.
use Rattle.std.proofs.Common.{◌≡◌, ◌⊎◌, inl, inr, ℕ, zero, suc, ◌-◌, ◌≤◌, Bool, true, cond, List, [], ◌∷◌, ◌++◌, map, slice_get, Option, Some, None, refl, sym, subst, arith, append-nil}
use Rattle.std.specs.Prelude.{nat_lt, nat_eq, nat_le, ◌&&◌}
use Rattle.std.specs.FinMap as map
use Rattle.kp_model.specs.declared.entry.Body.{Body}
use Rattle.kp_model.specs.LogEntry.{LogEntry}
use Rattle.kp_model.specs.Majority.{count, is_majority}
use Rattle.kp_entry.specs.Held.{Held}
use Rattle.kp_entry.specs.Log.{last_index}
use Rattle.kp_raft.specs.declared.append.AppendMail.{AppendMail}
use Rattle.kp_raft.specs.declared.event.RaftEvent.{RaftEvent}
use Rattle.kp_raft.specs.declared.event.RaftEvent.TheVariants as raft
use Rattle.kp_raft.specs.declared.mail.Mail.{Mail}
use Rattle.kp_raft.specs.declared.mail.Mail.TheVariants as mail
use Rattle.kp_raft.specs.Numbers.{for_peers}
use Rattle.kp_raft.specs.Parts.{Running, Outcome, to, vote_at, is_leader}
use Rattle.kp_raft.specs.Rules.{may_stand, own_vote, vote_request, grants, with_vote, counts, on_timeout, on_vote_req, on_term, on_vote_rep, on_append_rep, on_propose}
use Rattle.kp_raft.specs.Appends.{lags, append_for, install_with, beat_for, on_beat, fits, clashes, on_append, on_install, on_compact}
use Rattle.kp_raft.specs.Steps.{passes, passes_append, on_mail, all_of, take, react}
use Rattle.kp_event.specs.declared.event.NodeEventKind.{NodeEventKind}
use Rattle.kp_event.specs.declared.event.NodeEventKind.TheVariants as kind
use Rattle.kp_conn.specs.Connection.{is_over}
use Rattle.kp_step.specs.declared.seat.Seat.{Seat}
use Rattle.kp_step.specs.Choices.{Choices}
use Rattle.kp_step.specs.Node.{Node, Images}
use Rattle.kp_step.specs.Applying.{upcoming}
use Rattle.kp_step.specs.Committing.{committed}
use Rattle.kp_step.specs.Asking.{Words, Input, idle, asks, appends, reacted, installed, propose_if, client_input, client_served, fed_end, is_csnp, commit_input, asked}
use Rattle.kp_step.specs.Step.{filled, forwarded, mail_of, drain_turn, turned, together, step}
use Rattle.kp_worlds.specs.Order.{IsAscending, MessagesAscend}
use Rattle.kp_worlds.proofs.Lists.{pick}

to_leader : (I : Type 0) (x : Node) (bs : List Body) (least : ℕ) → least ≤ x.running.leader → IsAscending least (map (forwarded {I = I} x) bs)
to_leader I x [] least le = tt
to_leader I x (b ∷ bs) least le = (le, to_leader I x bs x.running.leader (omega arith))

drain_sends : (x : Node) (k : ℕ) (o : Option Seat) → (drain_turn x k o).forwards ≡ []
drain_sends x k None = refl
drain_sends x k (Some s) = refl

module _ {I : Type 0} where
  -- ascending from one receiver to another
  abbrev Spans : ℕ → ℕ → List (ℕ × Mail I) → Type 0
  Spans lo hi [] = lo ≤ hi
  Spans lo hi (m ∷ ms) = (lo ≤ m.0) × Spans m.0 hi ms

  record Ascends (ms : List (ℕ × Mail I)) : Type 0 where
    top : ℕ
    spans : Spans 0 top ms

  below : (lower lo hi : ℕ) (ms : List (ℕ × Mail I)) → lower ≤ lo → Spans lo hi ms → Spans lower hi ms
  below lower lo hi [] le s = omega (arith, le, s)
  below lower lo hi (m ∷ ms) le s = (let a = s.0 in omega (arith, le, a), s.1)

  join : (lo mid hi : ℕ) (ms ns : List (ℕ × Mail I)) → Spans lo mid ms → Spans mid hi ns → Spans lo hi (ms ++ ns)
  join lo mid hi [] ns s t = below lo mid hi ns s t
  join lo mid hi (m ∷ ms) ns s t = (s.0, join m.0 mid hi ms ns s.1 t)

  peers : (me : ℕ) (f : ℕ → List (ℕ × Mail I)) → ((p : ℕ) → Spans p p (f p)) → (n : ℕ) → Spans 0 n (for_peers n me f)
  peers me f each zero = omega arith
  peers me f each (suc n) = join 0 n (suc n) (for_peers n me f) (cond (nat_eq (suc n) me) [] (f (suc n))) (peers me f each n)
      (pick (Spans n (suc n)) (nat_eq (suc n) me) [] (f (suc n)) (λ _. omega arith) (λ _. below n (suc n) (suc n) (f (suc n)) (omega arith) (each (suc n))))

  none : Ascends []
  none = record { top = 0; spans = omega arith }

  one : (k : ℕ) (m : Mail I) → Ascends (to k m)
  one k m = record { top = k; spans = (omega arith, omega arith) }

  -- ---- rule by rule

  module _ (n me : ℕ) (h : Held) (v : Running) where
    abbrev Up : Outcome I → Type 0
    Up o = Ascends o.mail

    timeout_up : Up (on_timeout n me h v)
    timeout_up = pick Up (may_stand h v) _ _ (λ _. pick Up (is_majority n (own_vote me)) _ _ (λ _. none) (λ _. record { top = n; spans = peers me (vote_request me h) (λ p. (omega arith, omega arith)) n })) (λ _. none)

    request_up : (t from end end_term : ℕ) → Up (on_vote_req me h v t from end end_term)
    request_up t from end end_term = pick Up (nat_lt t h.term) _ _ (λ _. one from _) (λ _. pick Up (grants (vote_at h t) from end_term end h.log) _ _ (λ _. one from _) (λ _. one from _))

    term_up : (t : ℕ) → Up (on_term h v t)
    term_up t = pick Up (nat_lt h.term t) _ _ (λ _. none) (λ _. none)

    vote_up : (t from : ℕ) (granted : Bool) → Up (on_vote_rep n me h v t from granted)
    vote_up t from granted = pick Up (counts t h v granted) _ _ (λ _. pick Up (is_majority n (with_vote v from).votes) _ _ (λ _. none) (λ _. none)) (λ _. term_up t)

    append_up : (m : AppendMail) (j : ℕ) → Up (on_append me h v m j)
    append_up m j = pick Up (nat_lt m.term h.term) _ _ (λ _. one m.from _)
        (λ _. pick Up (fits h.log m.prev m.prev_term) _ _ (λ _. pick Up (clashes h.log m.prev m.entries v.commit) _ _ (λ _. none) (λ _. one m.from _)) (λ _. one m.from _))

    rep_up : (t from : ℕ) (ok : Bool) (end : ℕ) → Up (on_append_rep n me h v t from ok end)
    rep_up t from ok end = pick Up (nat_eq t h.term && is_leader v.role) _ _ (λ _. pick Up ok _ _ (λ _. none) (λ _. none)) (λ _. term_up t)

    install_up : (t from i it : ℕ) → Up (on_install me h v t from i it)
    install_up t from i it = pick Up (nat_lt t h.term) _ _ (λ _. one from _) (λ _. pick Up (nat_le i v.commit) _ _ (λ _. one from _) (λ _. one from _))

    mail_up : (j : ℕ) (m : Mail I) → Up (on_mail n me h v j m)
    mail_up j (mail.VoteReq t from end end_term) = request_up t from end end_term
    mail_up j (mail.VoteRep t from granted) = vote_up t from granted
    mail_up j (mail.Append m) = append_up m j
    mail_up j (mail.AppendRep t from ok end heard) = rep_up t from ok end
    mail_up j (mail.Install t from i it image) = install_up t from i it
    mail_up j (mail.InstallRep t from i) = rep_up t from true i
    mail_up j (mail.Forward t from b) = term_up t

    images_up : (p index : ℕ) (o : Option I) → Spans p p (install_with me h p index o)
    images_up p index None = omega arith
    images_up p index (Some image) = (omega arith, omega arith)

    beat_up : (index : ℕ) (images : List I) → Up (on_beat n me h v index images)
    beat_up index images = pick Ascends (is_leader v.role) (for_peers n me (beat_for me h v index images)) []
        (λ _. record {
          top = n;
          spans = peers me (beat_for me h v index images) (λ p. pick (Spans p p) (lags me h v p) (install_with me h p index (slice_get images (count (p - 1) (lags me h v)))) (to p (mail.Append (append_for me h v p)))
              (λ _. images_up p index (slice_get images (count (p - 1) (lags me h v)))) (λ _. (omega arith, omega arith))) n;
        })
        (λ _. none)

    compact_up : (i : ℕ) → Up (on_compact h v i)
    compact_up i = pick Up (nat_lt h.log.base i) _ _ (λ _. none) (λ _. none)

    propose_up : (time : ℕ) (bodies : List Body) → Up (on_propose n me h v time bodies)
    propose_up time bodies = pick Up (is_leader v.role) _ _ (λ _. none) (λ _. none)

    react_up : (e : RaftEvent I) → Up (react n me h v e)
    react_up raft.Timeout = timeout_up
    react_up (raft.Beat i images) = beat_up i images
    react_up (raft.Deliver m) = pick Up (passes n me (last_index h.log) m) _ _ (λ _. mail_up (all_of m) m) (λ _. none)
    react_up (raft.Propose time bodies) = propose_up time bodies
    react_up (raft.Compact i) = compact_up i

    take_up : (m : AppendMail) (j : ℕ) → Up (take n me h v m j)
    take_up m j = pick Up (passes_append n me m) _ _ (λ _. append_up m j) (λ _. none)

    -- a snapshot and bodies send nothing
    record Quiet (o : Outcome I) : Type 0 where
      quiet : o.mail ≡ []

    compact_quiet : (i : ℕ) → Quiet (on_compact h v i)
    compact_quiet i = pick Quiet (nat_lt h.log.base i) _ _ (λ _. record { quiet = refl }) (λ _. record { quiet = refl })

    propose_quiet : (time : ℕ) (bodies : List Body) → Quiet (on_propose n me h v time bodies)
    propose_quiet time bodies = pick Quiet (is_leader v.role) _ _ (λ _. record { quiet = refl }) (λ _. record { quiet = refl })

  -- ---- a node

  reacted_up : (x : Node) (input : Input I) → Ascends (reacted x input).mail
  unfolding reacted
  reacted_up x idle = none
  reacted_up x (asks e) = react_up x.members x.me x.held x.running e
  reacted_up x (appends m j) = take_up x.members x.me x.held x.running m j

  -- what asks for bodies or a snapshot, if for anything
  record Still (x : Node) (input : Input I) : Type 0 where
    still : (reacted x input).mail ≡ []

  idle_still : (x : Node) → Still x idle
  unfolding reacted
  idle_still x = record { still = refl }

  compact_still : (x : Node) (i : ℕ) → Still x (asks (raft.Compact i))
  unfolding reacted
  compact_still x i = record { still = (compact_quiet x.members x.me x.held x.running i).quiet }

  bodies_still : (x : Node) (now : ℕ) (bs : List Body) → Still x (propose_if now bs)
  unfolding reacted
  bodies_still x now [] = record { still = refl }
  bodies_still x now (b ∷ bs) = record { still = (propose_quiet x.members x.me x.held x.running now (b ∷ bs)).quiet }

  client_still : (words : Words) (ch : Choices) (x : Node) (now k : ℕ) (bytes : List ℕ) (o : Option Seat) → Still x (client_input words ch x now k bytes o)
  client_still words ch x now k bytes None = idle_still x
  client_still words ch x now k bytes (Some s) = pick (Still x) (is_over s.connection.phase) _ _ (λ _. idle_still x)
      (λ _. pick (Still x) (is_csnp (fed_end s bytes)) _ _ (λ _. compact_still x x.state.applied) (λ _. bodies_still x now (client_served words ch x now k bytes s).desk.bodies))

  commit_still : (ch : Choices) (x : Node) (now : ℕ) (o : Option LogEntry) → Still x (commit_input ch x now o)
  commit_still ch x now None = idle_still x
  commit_still ch x now (Some e) = bodies_still x now (committed ch x now e).desk.bodies

  -- ---- what a step sends

  filled_up : (ids : List ℕ) (lo hi : ℕ) (ms : List (ℕ × Mail I)) → Spans lo hi ms → IsAscending lo (map (filled ids) ms)
  filled_up ids lo hi [] s = tt
  filled_up ids lo hi (m ∷ ms) s = (s.0, filled_up ids m.0 hi ms s.1)

  sent_up : (x : Node) (ms : List (ℕ × Mail I)) (bs : List Body) → Ascends ms → (ms ≡ []) ⊎ (bs ≡ []) → IsAscending 0 (mail_of x ms bs)
  sent_up x ms bs a (inl e) = subst (λ (z : List (ℕ × Mail I)). IsAscending 0 (mail_of x z bs)) (sym e) (to_leader I x bs 0 (omega arith))
  sent_up x ms bs a (inr e) = subst (λ (z : List Body). IsAscending 0 (mail_of x ms z)) (sym e) (subst (IsAscending 0) (sym (append-nil (map (filled x.spoken) ms))) (filled_up x.spoken 0 a.top ms a.spans))

  module _ (words : Words) (im : Images I) (ch : Choices) (x : Node) (now : ℕ) where
    abbrev Out : NodeEventKind (Mail I) → Outcome I
    Out v = reacted x (asked words im ch x now v)

    -- nothing is sent by Raft, or nothing is sent on
    either : (v : NodeEventKind (Mail I)) → ((Out v).mail ≡ []) ⊎ ((turned words im ch x now (Out v) (installed x (asked words im ch x now v)) v).forwards ≡ [])
    unfolding turned asked
    either (kind.Accept draw) = inr refl
    either (kind.Client k bytes) = inl (client_still words ch x now k bytes (map.get x.seats k)).still
    either (kind.Hangup k) = inr refl
    either (kind.Drain k) = inr (drain_sends x k (map.get x.seats k))
    either (kind.Deliver m) = inr refl
    either kind.Timeout = inr refl
    either kind.Beat = inr refl
    either kind.CommitOne = inl (commit_still ch x now (upcoming x)).still
    either kind.ExpireDue = inr refl
    either kind.Snapshot = inr refl

pub messages_ascend : (I : Type 0) → MessagesAscend I
unfolding step together
messages_ascend I words im ch x v =
    sent_up x (reacted x (asked words im ch x v.now v.kind)).mail (turned words im ch x v.now (reacted x (asked words im ch x v.now v.kind)) (installed x (asked words im ch x v.now v.kind)) v.kind).forwards
    (reacted_up x (asked words im ch x v.now v.kind)) (either words im ch x v.now v.kind)
