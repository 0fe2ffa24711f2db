-- The step of a message is the one of its kind.
use Rattle.std.proofs.Common.{◌≡◌, ℕ, Bool, true, false, List, [], ◌∷◌, None, refl, ap, sym, subst, ◌∙◌}
use Rattle.std.specs.Prelude.{if◌then◌else◌, Result, IfOk}
use Rattle.kp_event.specs.declared.event.NodeEventKind.TheVariants as kind
use Rattle.kp_model.specs.declared.entry.Body.{Body}
use Rattle.kp_model.specs.declared.memory.NoMemory.{NoMemory}
use Rattle.kp_raft.specs.declared.append.AppendMail.{AppendMail}
use Rattle.kp_raft.specs.declared.event.RaftEvent.TheVariants as asked
use Rattle.kp_raft.specs.declared.mail.Mail.{Mail}
use Rattle.kp_raft.specs.declared.mail.Mail.TheVariants as mail
use Rattle.kp_snapshot.specs.Snapshots.{Snapshot}
use Rattle.kp_step.specs.Asking.{Words, Input, asks, asked as asked_at, reacted, installed, may_propose, propose_if, taken_by}
use Rattle.kp_step.specs.Choices.{Choices}
use Rattle.kp_step.specs.Node.{Node}
use Rattle.kp_step.specs.Step.{Stepped, together, raft_turn, step, turned}
use Rattle.kp_node.specs.declared.installs.Sending.{Sending}
use Rattle.kp_node.specs.declared.named.Answer.{Answer}
use Rattle.kp_node.specs.declared.outcome.Outcome.{Outcome}
use Rattle.kp_node.specs.Delivering.{mail_with, mail_step}
use Rattle.kp_node.specs.Foreseen.{IsUsual, NamesNone, reaction}
use Rattle.kp_node.specs.Installing as sending
use Rattle.kp_node.specs.Naming as naming
use Rattle.kp_node.specs.Parts.{Parts, node_of}
use Rattle.kp_node.specs.Proposing.{forward_step, proposed_by}
use Rattle.kp_node.specs.Reactions.{raft_step}
use Rattle.kp_node.specs.Replacing.{install_step}
use Rattle.kp_node.specs.Steps.{images, Steps}
use Rattle.kp_node.specs.Taking.{append_step}
use Rattle.kp_node.proofs.Mild.{no_image}
use Rattle.kp_node.proofs.Writes.{if_ok}

pub at_deliver : (words : Words) (ch : Choices) (x : Node) (now : ℕ) (m : Mail Snapshot) → step words images ch x (record { now = now; kind = kind.Deliver m }) ≡ mail_step ch x now m
unfolding step asked_at turned
at_deliver words ch x now m = refl

-- ---- where Raft is asked to take the message

module _ (ch : Choices) (x : Parts) (now : ℕ) (m : Mail Snapshot) where
  -- the step where Raft took it
  abbrev taken : Stepped Snapshot
  taken = raft_step ch (node_of x) now (kind.Deliver m) (reaction x.member (asked.Deliver m))

  taken_is : IsUsual m → taken ≡ mail_with ch (node_of x) now m (asks (asked.Deliver m))
  unfolding reacted installed
  taken_is usual = ap (λ image. together images ch (node_of x) (kind.Deliver m) (reaction x.member (asked.Deliver m)) image (raft_turn images ch (node_of x) now (kind.Deliver m) (reaction x.member (asked.Deliver m)) image)) (sym (no_image x.member m usual))

none_installed : (x : Node) (now : ℕ) (bs : List Body) → installed {I = Snapshot} x (propose_if now bs) ≡ None
unfolding installed
none_installed x now [] = refl
none_installed x now (b ∷ bs) = refl

-- ---- each kind

module _ (ch : Choices) (x : Parts) (now : ℕ) where
  append_is : (m : AppendMail) → append_step ch (node_of x) now m ≡ mail_step ch (node_of x) now (mail.Append m)
  unfolding reacted installed
  append_is m = refl

  answer_is : (a : Answer) → taken ch x now (naming.mail_of a) ≡ mail_step ch (node_of x) now (naming.mail_of a)
  answer_is a = taken_is ch x now (naming.mail_of a) tt

  install_is : (q : Sending) → install_step ch (node_of x) now q ≡ mail_step ch (node_of x) now (sending.mail_of q)
  install_is q = refl

  abbrev body_with : ℕ → ℕ → Body → Bool → Input Snapshot
  body_with term from b c = if c then propose_if now (taken_by (node_of x) now (b ∷ [])) else asks (asked.Deliver (mail.Forward term from b))

  proposes_is : (term from : ℕ) (b : Body) → may_propose {I = Snapshot} (node_of x) (mail.Forward term from b) term ≡ true → forward_step ch (node_of x) now term from b ≡ mail_step ch (node_of x) now (mail.Forward term from b)
  proposes_is term from b may =
      ap (λ image. together images ch (node_of x) (kind.Deliver (mail.Forward term from b)) (proposed_by (node_of x) now (b ∷ [])) image (raft_turn images ch (node_of x) now (kind.Deliver (mail.Forward term from b)) (proposed_by (node_of x) now (b ∷ [])) image)) (sym (none_installed (node_of x) now (taken_by (node_of x) now (b ∷ []))))
      ∙ sym (ap (λ c. mail_with ch (node_of x) now (mail.Forward term from b) (body_with term from b c)) may)

  passes_is : (term from : ℕ) (b : Body) → may_propose {I = Snapshot} (node_of x) (mail.Forward term from b) term ≡ false → taken ch x now (mail.Forward term from b) ≡ mail_step ch (node_of x) now (mail.Forward term from b)
  passes_is term from b may = taken_is ch x now (mail.Forward term from b) tt
      ∙ sym (ap (λ c. mail_with ch (node_of x) now (mail.Forward term from b) (body_with term from b c)) may)

-- ---- messages of no other kind

-- a vote, that one is wanted, or that an image was taken
abbrev IsVote : Mail Snapshot → Type 0
IsVote (mail.VoteReq term from last last_term) = Unit {0}
IsVote (mail.VoteRep term from granted) = Unit {0}
IsVote (mail.Append m) = ⊥
IsVote (mail.AppendRep term from ok last heard) = ⊥
IsVote (mail.Install term from index index_term image) = ⊥
IsVote (mail.InstallRep term from index) = Unit {0}
IsVote (mail.Forward term from body) = ⊥

names_none : (m : Mail Snapshot) → IsVote m → NamesNone m
names_none (mail.VoteReq term from last last_term) h = h
names_none (mail.VoteRep term from granted) h = h
names_none (mail.Append m) h = h
names_none (mail.AppendRep term from ok last heard) h = h
names_none (mail.Install term from index index_term image) h = h
names_none (mail.InstallRep term from index) h = h
names_none (mail.Forward term from body) h = absurd h

vote_is : (ch : Choices) (x : Parts) (now : ℕ) (m : Mail Snapshot) → IsVote m → taken ch x now m ≡ mail_step ch (node_of x) now m
vote_is ch x now (mail.VoteReq term from last last_term) h = taken_is ch x now (mail.VoteReq term from last last_term) h
vote_is ch x now (mail.VoteRep term from granted) h = taken_is ch x now (mail.VoteRep term from granted) h
vote_is ch x now (mail.Append m) h = absurd h
vote_is ch x now (mail.AppendRep term from ok last heard) h = absurd h
vote_is ch x now (mail.Install term from index index_term image) h = absurd h
vote_is ch x now (mail.InstallRep term from index) h = taken_is ch x now (mail.InstallRep term from index) h
vote_is ch x now (mail.Forward term from body) h = absurd h

module _ (m : Mail Snapshot) (append : (a : AppendMail) → m ≡ mail.Append a → ⊥) (answer : (term from : ℕ) (ok : Bool) (last : ℕ) (heard : List ℕ) → m ≡ mail.AppendRep term from ok last heard → ⊥)
    (image : (term from index index_term : ℕ) (i : Snapshot) → m ≡ mail.Install term from index index_term i → ⊥) (body : (term from : ℕ) (b : Body) → m ≡ mail.Forward term from b → ⊥) where
  left_by : (n : Mail Snapshot) → m ≡ n → IsVote n
  left_by (mail.VoteReq term from last last_term) e = tt
  left_by (mail.VoteRep term from granted) e = tt
  left_by (mail.Append a) e = absurd (append a e)
  left_by (mail.AppendRep term from ok last heard) e = absurd (answer term from ok last heard e)
  left_by (mail.Install term from index index_term i) e = absurd (image term from index index_term i e)
  left_by (mail.InstallRep term from index) e = tt
  left_by (mail.Forward term from b) e = absurd (body term from b e)

  pub left_plain : NamesNone m
  left_plain = names_none m (left_by m refl)

  left_is : (ch : Choices) (x : Parts) (now : ℕ) → taken ch x now m ≡ mail_step ch (node_of x) now m
  left_is ch x now = vote_is ch x now m (left_by m refl)

-- ---- as the code has it

any : Choices
any = record { room = None; luck = λ q. record { events = None; requests = None; answers = None } }

module _ (now : ℕ) (x y : Parts) (r : Result Outcome NoMemory) where
  -- a step of the message
  abbrev Delivered : Mail Snapshot → Outcome → Type 0
  Delivered m o = (ch : Choices) × Steps (mail_step ch (node_of x) now m) x y o

  pub in_kind : (m n : Mail Snapshot) → m ≡ n → IfOk r (Delivered n) → IfOk r (Delivered m)
  in_kind m n e = subst (λ q. IfOk r (Delivered q)) (sym e)

  moved : (m : Mail Snapshot) (s : Choices → Stepped Snapshot) → ((ch : Choices) → s ch ≡ mail_step ch (node_of x) now m) → IfOk r (λ o. (ch : Choices) × Steps (s ch) x y o) → IfOk r (Delivered m)
  moved m s e = if_ok (λ o. (ch : Choices) × Steps (s ch) x y o) (Delivered m) r (λ o z. (z.0, subst (λ t. Steps t x y o) (e z.0) z.1))

  pub append_so : (m : AppendMail) → IfOk r (λ o. (ch : Choices) × Steps (append_step ch (node_of x) now m) x y o) → IfOk r (Delivered (mail.Append m))
  append_so m = moved (mail.Append m) (λ ch. append_step ch (node_of x) now m) (λ ch. append_is ch x now m)

  pub answer_so : (a : Answer) → IfOk r (λ o. (ch : Choices) × Steps (taken ch x now (naming.mail_of a)) x y o) → IfOk r (Delivered (naming.mail_of a))
  answer_so a = moved (naming.mail_of a) (λ ch. taken ch x now (naming.mail_of a)) (λ ch. answer_is ch x now a)

  pub image_so : (q : Sending) → IfOk r (λ o. (ch : Choices) × Steps (install_step ch (node_of x) now q) x y o) → IfOk r (Delivered (sending.mail_of q))
  image_so q = moved (sending.mail_of q) (λ ch. install_step ch (node_of x) now q) (λ ch. install_is ch x now q)

  pub body_so : (term from : ℕ) (b : Body) → may_propose {I = Snapshot} (node_of x) (mail.Forward term from b) term ≡ true → IfOk r (λ o. (ch : Choices) → Steps (forward_step ch (node_of x) now term from b) x y o) → IfOk r (Delivered (mail.Forward term from b))
  body_so term from b may = if_ok (λ o. (ch : Choices) → Steps (forward_step ch (node_of x) now term from b) x y o) (Delivered (mail.Forward term from b)) r (λ o z. (any, subst (λ t. Steps t x y o) (proposes_is any x now term from b may) (z any)))

  pub body_plain_so : (term from : ℕ) (b : Body) → may_propose {I = Snapshot} (node_of x) (mail.Forward term from b) term ≡ false → IfOk r (λ o. (ch : Choices) × Steps (taken ch x now (mail.Forward term from b)) x y o) → IfOk r (Delivered (mail.Forward term from b))
  body_plain_so term from b may = moved (mail.Forward term from b) (λ ch. taken ch x now (mail.Forward term from b)) (λ ch. passes_is ch x now term from b may)

  pub plain_so : (m : Mail Snapshot) → ((a : AppendMail) → m ≡ mail.Append a → ⊥) → ((term from : ℕ) (ok : Bool) (last : ℕ) (heard : List ℕ) → m ≡ mail.AppendRep term from ok last heard → ⊥)
      → ((term from index index_term : ℕ) (i : Snapshot) → m ≡ mail.Install term from index index_term i → ⊥) → ((term from : ℕ) (b : Body) → m ≡ mail.Forward term from b → ⊥)
      → IfOk r (λ o. (ch : Choices) × Steps (taken ch x now m) x y o) → IfOk r (Delivered m)
  plain_so m append answer image body = moved m (λ ch. taken ch x now m) (λ ch. left_is m append answer image body ch x now)
