-- What a step of a node wants kept: plain records, or a base that is the image's.
use Rattle.std.proofs.Common.{◌≡◌, ℕ, Bool, true, false, cond, List, [], ◌∷◌, Option, Some, None, refl, ap, sym, ◌∙◌, arith}
use Rattle.std.specs.Prelude.{◌==◌, ◌&&◌, nat_lt}
use Rattle.std.proofs.lemmas.Bool.Decides.{nat_tests}
use Rattle.std.specs.FinMap as map
use Rattle.kp_model.specs.declared.entry.Body.{Body}
use Rattle.kp_model.specs.LogEntry.{LogEntry}
use Rattle.kp_model.specs.State.{State}
use Rattle.kp_entry.specs.declared.record.Record.{Record}
use Rattle.kp_entry.specs.declared.record.Record.TheVariants as record_
use Rattle.kp_entry.specs.Log.{term_of}
use Rattle.kp_raft.specs.declared.event.RaftEvent.TheVariants as raft
use Rattle.kp_raft.specs.declared.mail.Mail.{Mail}
use Rattle.kp_raft.specs.declared.mail.Mail.TheVariants as mail
use Rattle.kp_raft.specs.Parts.{Outcome, nothing}
use Rattle.kp_raft.specs.Steps.{take, react, image_of}
use Rattle.kp_event.specs.declared.event.NodeEventKind.{NodeEventKind}
use Rattle.kp_event.specs.declared.event.NodeEventKind.TheVariants as kind
use Rattle.kp_conn.specs.Connection.{is_over}
use Rattle.kp_step.specs.declared.seat.Seat.{Seat}
use Rattle.kp_step.specs.Choices.{Choices}
use Rattle.kp_step.specs.Node.{Node, Images}
use Rattle.kp_step.specs.Applying.{upcoming}
use Rattle.kp_step.specs.Committing.{committed}
use Rattle.kp_step.specs.Asking.{Words, Input, idle, asks, appends, reacted, installed, propose_if, taken_by, client_input, client_served, fed_end, is_csnp, may_propose, mail_as, own_image, commit_input, expiries, asked}
use Rattle.kp_step.specs.Step.{base_image, ends_in_base}
use Rattle.kp_kept.proofs.Shapes.{IsPlain, IsBased, pick, none, ends_in_none}
use Rattle.kp_kept.proofs.Rules.{Wants, IsNoImage, react_wants, take_plain}

-- an image that is made of a state shows it, with its term
pub record ShowsMade {I : Type 0} (im : Images I) : Type 0 where
  pub state : (s : State) (t : ℕ) → im.shows (im.made s t) ≡ s
  pub term : (s : State) (t : ℕ) → im.term (im.made s t) ≡ t

module _ (I : Type 0) (im : Images I) (shows : ShowsMade im) (x : Node) where
  abbrev pub index : I → ℕ
  index i = (im.shows i).applied

  -- plain records without an image, or a base that is the image's
  abbrev pub Keeps : List Record → Option I → Type 0
  Keeps rs None = IsPlain x.held rs
  Keeps rs (Some i) = IsBased rs (index i) (im.term i)

  abbrev pub KeepsBy : Input I → Type 0
  KeepsBy input = Keeps (reacted x input).records (base_image im x (reacted x input).records (installed x input))

  -- ---- an image is the own, or it is taken

  none_made : (rs : List Record) → IsPlain x.held rs → (b : Bool) → ends_in_base rs ≡ b → Keeps rs (cond b (Some (own_image im x)) None)
  none_made rs p true e = absurd (clash (sym (ends_in_none x.held rs p) ∙ e))
    where
      clash : false ≡ true → ⊥
      clash f = absurd (cc f)
  none_made rs p false e = p

  by_wants : (rs : List Record) (taken : Option I) → Keeps rs taken → Keeps rs (base_image im x rs taken)
  by_wants rs None p = none_made rs p (ends_in_base rs) refl
  by_wants rs (Some i) b = b

  wants_keeps : (o : Outcome I) (taken : Option I) → Wants I x.members x.me x.held x.running index (λ i. im.term i) o taken → Keeps o.records taken
  wants_keeps o None p = p
  wants_keeps o (Some i) b = b

  -- what is asked of Raft but an image of the own
  abbrev pub IsFit : Input I → Type 0
  IsFit idle = Unit {0}
  IsFit (asks e) = IsNoImage I x.members x.me x.held x.running index (λ i. im.term i) e
  IsFit (appends m j) = Unit {0}

  fit_keeps : (input : Input I) → IsFit input → KeepsBy input
  unfolding reacted installed
  fit_keeps idle e = none x.held
  fit_keeps (asks v) e = by_wants (react x.members x.me x.held x.running v).records (image_of x.members x.me x.held x.running v)
      (wants_keeps (react x.members x.me x.held x.running v) (image_of x.members x.me x.held x.running v) (react_wants I x.members x.me x.held x.running index (λ i. im.term i) v e))
  fit_keeps (appends m j) e = by_wants (take {I = I} x.members x.me x.held x.running m j).records None (take_plain I x.members x.me x.held x.running m j)

  -- ---- the own image

  compact_if : (b : Bool) → (let o : Outcome I = cond b (record { records = record_.Base x.state.applied (term_of x.held.log x.state.applied) ∷ []; running = x.running; mail = [] }) (nothing x.running) in Keeps o.records (base_image im x o.records None))
  compact_if true = record { ballot = None; is = ap (λ (k : ℕ). record_.Base k (term_of x.held.log x.state.applied) ∷ []) (sym (ap (λ (s : State). s.applied) (shows.state x.state (term_of x.held.log x.state.applied)))) ∙ ap (λ (k : ℕ). record_.Base (index (own_image im x)) k ∷ []) (sym (shows.term x.state (term_of x.held.log x.state.applied))) }
  compact_if false = none x.held

  compact_keeps : KeepsBy (asks (raft.Compact x.state.applied))
  unfolding reacted installed
  compact_keeps = compact_if (nat_lt x.held.log.base x.state.applied)

  -- ---- by the kind of the event

  propose_keeps : (now : ℕ) (bs : List Body) → KeepsBy (propose_if now bs)
  propose_keeps now [] = fit_keeps idle tt
  propose_keeps now (b ∷ bs) = fit_keeps (asks (raft.Propose now (b ∷ bs))) tt

  client_keeps : (words : Words) (ch : Choices) (now k : ℕ) (bytes : List ℕ) (o : Option Seat) → KeepsBy (client_input words ch x now k bytes o)
  client_keeps words ch now k bytes None = fit_keeps idle tt
  client_keeps words ch now k bytes (Some s) = pick KeepsBy (is_over s.connection.phase) idle _ (fit_keeps idle tt)
      (pick KeepsBy (is_csnp (fed_end s bytes)) (asks (raft.Compact x.state.applied)) _ compact_keeps (propose_keeps now (client_served words ch x now k bytes s).desk.bodies))

  same : (a i : ℕ) → (a == i) ≡ true → a ≡ i
  same a i e = grind (arith, nat_tests)

  whole_keeps : (m : Mail I) (a i b it : ℕ) (w u : Bool) → (a == i) ≡ w → (b == it) ≡ u → ((a ≡ i) × (b ≡ it) → KeepsBy (asks (raft.Deliver m))) → KeepsBy (cond (w && u) (asks (raft.Deliver m)) idle)
  whole_keeps m a i b it true true e f h = h (same a i e, same b it f)
  whole_keeps m a i b it true false e f h = fit_keeps idle tt
  whole_keeps m a i b it false u e f h = fit_keeps idle tt

  mail_keeps : (room : Option ℕ) (now : ℕ) (m : Mail I) → KeepsBy (mail_as im room x now m m)
  mail_keeps room now (mail.VoteReq t from end end_term) = fit_keeps (asks (raft.Deliver (mail.VoteReq t from end end_term))) tt
  mail_keeps room now (mail.VoteRep t from granted) = fit_keeps (asks (raft.Deliver (mail.VoteRep t from granted))) tt
  mail_keeps room now (mail.Append m) = fit_keeps (appends m _) tt
  mail_keeps room now (mail.AppendRep t from ok end heard) = fit_keeps (asks (raft.Deliver (mail.AppendRep t from ok end heard))) tt
  mail_keeps room now (mail.Install t from i it image) = whole_keeps (mail.Install t from i it image) (index image) i (im.term image) it (index image == i) (im.term image == it) refl refl (λ e. fit_keeps (asks (raft.Deliver (mail.Install t from i it image))) e)
  mail_keeps room now (mail.InstallRep t from i) = fit_keeps (asks (raft.Deliver (mail.InstallRep t from i))) tt
  mail_keeps room now (mail.Forward t from b) = pick KeepsBy (may_propose {I = I} x (mail.Forward t from b) t) _ _ (propose_keeps now (taken_by x now (b ∷ []))) (fit_keeps (asks (raft.Deliver (mail.Forward t from b))) tt)

  commit_keeps : (ch : Choices) (now : ℕ) (o : Option LogEntry) → KeepsBy (commit_input ch x now o)
  commit_keeps ch now None = fit_keeps idle tt
  commit_keeps ch now (Some e) = propose_keeps now (committed ch x now e).desk.bodies

  pub asked_keeps : (words : Words) (ch : Choices) (now : ℕ) (v : NodeEventKind (Mail I)) → KeepsBy (asked words im ch x now v)
  unfolding asked
  asked_keeps words ch now (kind.Accept draw) = fit_keeps idle tt
  asked_keeps words ch now (kind.Client k bytes) = client_keeps words ch now k bytes (map.get x.seats k)
  asked_keeps words ch now (kind.Hangup k) = fit_keeps idle tt
  asked_keeps words ch now (kind.Drain k) = fit_keeps idle tt
  asked_keeps words ch now (kind.Deliver m) = mail_keeps ch.room now m
  asked_keeps words ch now kind.Timeout = fit_keeps (asks raft.Timeout) tt
  asked_keeps words ch now kind.Beat = fit_keeps (asks (raft.Beat x.state.applied _)) tt
  asked_keeps words ch now kind.CommitOne = commit_keeps ch now (upcoming x)
  asked_keeps words ch now kind.ExpireDue = propose_keeps now (taken_by x now (expiries x now))
  asked_keeps words ch now kind.Snapshot = compact_keeps
