-- What a message is to the network, at the node to which it comes.
use Rattle.std.proofs.Common.{◌≡◌, ℕ, ◌≤◌, ◌<◌, Bool, true, false, cond, ◌⊎◌, inl, inr, ⊎_elim, List, [], ◌∷◌, length, refl, sym, ap, ◌∙◌, subst, arith, le_trans, Option, Some, None}
use Rattle.std.specs.Prelude.{nat_lt, nat_le}
use Rattle.std.proofs.lemmas.Bool.Decides.{nat_tests}
use Rattle.kp_model.specs.LogEntry.{LogEntry}
use Rattle.kp_model.specs.State.{empty}
use Rattle.kp_model.specs.Store.{after}
use Rattle.kp_model.specs.declared.entry.Body.{Body}
use Rattle.kp_entry.specs.Log.{last_index}
use Rattle.kp_entry.specs.Held.{Held}
use Rattle.kp_raft.specs.declared.event.RaftEvent.TheVariants as raft
use Rattle.kp_raft.specs.declared.mail.Mail.{Mail}
use Rattle.kp_raft.specs.declared.mail.Mail.TheVariants as mail
use Rattle.kp_raft.specs.Parts.{Outcome, nothing, vote_records, vote_at}
use Rattle.kp_raft.specs.Rules.{on_term}
use Rattle.kp_raft.specs.Appends.{on_install}
use Rattle.kp_raft.specs.Steps.{passes, passes_append, on_delivery, take as take_append, image_of, weighed}
use Rattle.kp_step.specs.Node.{Node, Images}
use Rattle.kp_step.specs.Asking.{Input, idle, asks, reacted, installed, propose_if, taken_by, append_taken, is_whole, may_propose, mail_as}
use Rattle.kp_step.specs.Step.{state_of, base_image}
use Rattle.kp_world.specs.Net.{Stored, full, Sent, front_behind, behind_records, is_member, has_image, no_act, taken_of, At, Comes, Does, Tears, Commits}
use Rattle.kp_world.specs.Net as net
use Rattle.kp_world.proofs.Cases.{and_true}
use Rattle.kp_world.proofs.Link.{HasNoBase, no_base_front, no_base_votes, cond_cases}
use Rattle.kp_world.proofs.Worlds.{mail_at}
use Rattle.kp_cluster.specs.World.{Member, World, done_after}
use Rattle.kp_cluster.specs.Laws.{AreFaithful}
use Rattle.kp_cluster.proofs.Rules.{Sends, AllSends, Knows, Fair, request_fair, vote_fair, rep_fair, append_fair, install_knows, install_sends, nothing_fair}
use Rattle.kp_cluster.proofs.Steps.{IsBodies, bodies_if}
use Rattle.kp_cluster.proofs.Mails.{IsInstall, Place, place_of, Known, IsOf}
use Rattle.kp_cluster.proofs.Laid.{running_of, below, terms, NodeFits, Laid}
use Rattle.kp_cluster.proofs.Facts.{one, one_is, front_below, base_front, no_image, HasCome, come_at, come_filled, filled_same, room_taken, weighed_taken, taken_by_room}
use Rattle.kp_cluster.proofs.Links.{Link, plain_plays, idle_link, bodies_link}

module _ {I : Type 0} (n : ℕ) (im : Images I) (faithful : AreFaithful im) (w : World I) (l : Laid n im w) (s : Sent I) (x : Node) (runs : (w.members s.to).node ≡ Some x) (member : is_member n s.to ≡ true) where
  abbrev M : Member
  M = w.members s.to

  abbrev K : ℕ
  K = s.to

  abbrev V : net.Net I
  V = below w l.sent

  abbrev U0 : ℕ → ℕ
  U0 = terms w

  at_node : NodeFits n K U0 M x
  at_node = (l.members K).node x runs

  abbrev IsHeard : Outcome I → Option I → Type 0
  IsHeard out taken = Link n im w l K x s.list None out taken

  -- how the network hears it
  abbrev heard_act : Sent I → ℕ → net.Act I
  heard_act m0 j = net.hears n K M.stored.held x.running M.done m0.message m0.list j

  heard_steps : (p : Place l.sent s) (j : ℕ) (stop : Option ℕ) → net.run n (one (Comes p.index j) stop) V ≡ net.did V K (heard_act p.there j) stop
  heard_steps p j stop = one_is n V (Comes p.index j) stop
      ∙ (ap (λ z. net.heard n V j stop z) p.at
      ∙ (ap (λ to. net.heard_by n V (record { to = to; message = p.there.message; list = p.there.list }) j stop (running_of (w.members to).node)) p.same.to
      ∙ ap (λ z. net.heard_by n V (record { to = K; message = p.there.message; list = p.there.list }) j stop (running_of z)) runs))

  heard_out : (p : Place l.sent s) (j : ℕ) → (heard_act p.there j).out ≡ on_delivery x.members x.me x.held x.running (taken_of x.held.log s.message j) s.message
  heard_out p j = filled_same n K M.stored.held x.running j p.same.ids p.there.message
      ∙ (ap (λ z. on_delivery n K M.stored.held x.running (taken_of M.stored.held.log z j) z) (sym p.same.message)
      ∙ (λ i. on_delivery (sym at_node.members i) (sym at_node.me i) (sym at_node.held i) x.running (taken_of (sym at_node.held i).log s.message j) s.message))

  -- its sender has come to the term of the entries that it brings
  sender : (p : Place l.sent s) → HasCome U0 s.message
  sender p =
      let f = mail_at n l.fits.book l.sent p.index p.there l.fits.mails p.at in
      subst (λ z. HasCome U0 z) (sym p.same.message) (come_filled U0 p.same.ids p.there.message (come_at n l.fits.book U0 p.there.to p.there.list p.there.message l.fits.inv (λ j. (l.fits.nodes j).stored.term) f.message))

  grown : (T U : ℕ → ℕ) → ((j : ℕ) → T j ≤ U j) → (m : Mail I) → HasCome T m → HasCome U m
  grown T U more (mail.VoteReq t from end end_term) h = tt
  grown T U more (mail.VoteRep t from granted) h = tt
  grown T U more (mail.Append m) h = le_trans h (more m.from)
  grown T U more (mail.AppendRep t from ok end heard) h = tt
  grown T U more (mail.Install t from i it image) h = le_trans h (more from)
  grown T U more (mail.InstallRep t from i) h = tt
  grown T U more (mail.Forward t from b) h = tt

  abbrev Delivered : ℕ → Mail I → Outcome I
  Delivered j m = on_delivery x.members x.me x.held x.running j m

  -- the leader that it knows has come to its term, and goes on to have
  known : (U : ℕ → ℕ) → ((j : ℕ) → U0 j ≤ U j) → 0 < x.running.leader → x.held.term ≤ U x.running.leader
  known U more pos = le_trans (at_node.knows pos) (more x.running.leader)

  -- no rule but that on images makes a base
  abbrev IsFair : (ℕ → ℕ) → Outcome I → Type 0
  IsFair U o = Fair (λ _. ⊥) U x.me x.held o

  by_pass : (U : ℕ → ℕ) → ((j : ℕ) → U0 j ≤ U j) → (b : Bool) (o : Outcome I) → IsFair U o → IsFair U (cond b o (nothing x.running))
  by_pass U more b o f = cond_cases (IsFair U) b o (nothing x.running) (λ _. f) (λ _. nothing_fair (λ _. ⊥) U x.members x.me x.held x.running (known U more))

  weak : (U : ℕ → ℕ) (alist list : List LogEntry) (o : Outcome I) → IsFair U o → Fair (IsOf im alist list) U x.me x.held o
  weak U alist list o f = record { plain = f.plain; knows = f.knows; sends = sends_weak o.mail f.sends }
    where
      sends_one : (m : Mail I) → Sends (λ _. ⊥) m → Sends (IsOf im alist list) m
      sends_one (mail.VoteReq t from end end_term) h = tt
      sends_one (mail.VoteRep t from granted) h = tt
      sends_one (mail.Append m) h = tt
      sends_one (mail.AppendRep t from ok end heard) h = tt
      sends_one (mail.Install t from i it image) h = absurd h
      sends_one (mail.InstallRep t from i) h = tt
      sends_one (mail.Forward t from b) h = absurd h

      sends_weak : (ms : List (ℕ × Mail I)) → AllSends (λ _. ⊥) ms → AllSends (IsOf im alist list) ms
      sends_weak [] h = tt
      sends_weak (m ∷ ms) h = (sends_one m.1 h.0, sends_weak ms h.1)

  -- a message that brings no image
  plain_link : (p : Place l.sent s) (j : ℕ) (out : Outcome I) (taken : Option I) → Delivered (taken_of x.held.log s.message j) s.message ≡ out → taken ≡ None → ((U : ℕ → ℕ) → ((q : ℕ) → U0 q ≤ U q) → IsFair U out) → IsHeard out taken
  plain_link p j out taken is none f =
      let a = heard_act p.there j in
      let out_is : a.out ≡ out = heard_out p j ∙ is in
      let plain : HasNoBase a.out.records = subst (λ (o : Outcome I). HasNoBase o.records) (sym out_is) (f U0 (λ q. omega arith)).plain in
      subst (λ z. IsHeard out z) (sym none) (record {
        act = a;
        events = one (Comes p.index j);
        is = heard_steps p j;
        plays = plain_plays n im faithful w l K x runs member s.list p.there.list None out a out_is refl (no_base_front p.there.list M.done a.out.records plain) (λ U more. weak U p.there.list s.list out (f U more));
        shown = λ image e. absurd cc;
      })

  -- an image
  record Installs (image : I) (list done : List LogEntry) (o : Outcome I) (taken : Option I) : Type 0 where
    done_is : front_behind list done o.records ≡ done_after list taken None done
    base : HasNoBase o.records ⊎ (taken ≡ Some image)
    shown : (y : I) → taken ≡ Some y → y ≡ image

  no_install : (image : I) (list done : List LogEntry) (o : Outcome I) → HasNoBase o.records → Installs image list done o None
  no_install image list done o p = record { done_is = no_base_front list done o.records p; base = inl p; shown = λ y e. absurd cc }

  both_cases : (P : Outcome I → Option I → Type 0) (b : Bool) (o q : Outcome I) (i j : Option I) → (b ≡ true → P o i) → (b ≡ false → P q j) → P (cond b o q) (cond b i j)
  both_cases P true o q i j f g = f refl
  both_cases P false o q i j f g = g refl

  installs : (t from i it : ℕ) (image : I) (list done : List LogEntry) → Installs image list done (Delivered 0 (mail.Install t from i it image)) (image_of x.members x.me x.held x.running (raft.Deliver (mail.Install t from i it image)))
  installs t from i it image list done = both_cases (Installs image list done) (passes x.members x.me (last_index x.held.log) (mail.Install t from i it image)) (on_install x.me x.held x.running t from i it) (nothing x.running) _ None
      (λ _. both_cases (Installs image list done) (nat_lt t x.held.term) _ _ None _
      (λ _. no_install image list done _ tt)
      (λ _. both_cases (Installs image list done) (nat_le i x.running.commit) _ _ None (Some image)
      (λ _. no_install image list done _ (no_base_votes x.held t (vote_at x.held t)))
      (λ _. record { done_is = base_front (vote_records x.held t (vote_at x.held t)) list done i it; base = inr refl; shown = λ y e. let is : image ≡ y = cc in sym is })))
      (λ _. no_install image list done (nothing x.running) tt)

  install_link : (t from i it : ℕ) (image : I) → s.message ≡ mail.Install t from i it image → (p : Place l.sent s) → im.shows image ≡ after empty s.list
      → IsHeard (Delivered 0 (mail.Install t from i it image)) (image_of x.members x.me x.held x.running (raft.Deliver (mail.Install t from i it image)))
  install_link t from i it image is p shows =
      let out = Delivered 0 (mail.Install t from i it image) in
      let taken = image_of x.members x.me x.held x.running (raft.Deliver (mail.Install t from i it image)) in
      let a = heard_act p.there 0 in
      let out_is : a.out ≡ out = heard_out p 0 ∙ ap (λ z. Delivered (taken_of x.held.log z 0) z) is in
      let same : p.there.list ≡ s.list = p.same.list (subst (λ z. IsInstall z) (sym is) tt) in
      let r = installs t from i it image s.list M.done in
      let come : t ≤ U0 from = subst (λ z. HasCome U0 z) is (sender p) in
      record {
        act = a;
        events = one (Comes p.index 0);
        is = heard_steps p 0;
        plays = record {
          out_is = out_is;
          done_is = (λ q. front_behind (same q) M.done (out_is q).records) ∙ r.done_is;
          bases = ⊎_elim
              (λ (h : HasNoBase out.records). inl h)
              (λ (h : taken ≡ Some image). inr (same, subst (λ z. state_of im M.image (base_image im x out.records z) ≡ after empty s.list) (sym h) shows))
              r.base;
          front = subst (λ xs. length (front_behind s.list M.stored.front out.records) ≤ length xs) r.done_is (front_below out.records s.list M.stored.front M.done at_node.front);
          knows = λ U more. subst (λ q. Knows U q x.held out) at_node.me (cond_cases (Knows U x.me x.held) (passes x.members x.me (last_index x.held.log) (mail.Install t from i it image)) (on_install x.me x.held x.running t from i it) (nothing x.running)
              (λ _. install_knows (λ _. ⊥) U x.members x.me x.held x.running (known U more) t from i it (le_trans come (more from)))
              (λ _ own pos. known U more pos));
          sends = cond_cases (λ (o : Outcome I). AllSends (IsOf im a.list s.list) o.mail) (passes x.members x.me (last_index x.held.log) (mail.Install t from i it image)) (on_install x.me x.held x.running t from i it) (nothing x.running)
              (λ _. install_sends (IsOf im a.list s.list) U0 x.members x.me x.held x.running (known U0 (λ q. omega arith)) t from i it)
              (λ _. tt);
        };
        shown = λ y e. ap im.shows (r.shown y e) ∙ shows;
      }

  -- the body of a Forward: the leader takes it, or it is of no greater term
  forward_nothing : (t from : ℕ) (b : Body) → t ≤ x.held.term → Delivered 0 (mail.Forward t from b) ≡ nothing x.running
  forward_nothing t from b le = cond_cases (λ (o : Outcome I). o ≡ nothing x.running) (passes {I = I} x.members x.me (last_index x.held.log) (mail.Forward t from b)) (on_term x.held x.running t) (nothing x.running)
      (λ _. cond_cases (λ (o : Outcome I). o ≡ nothing x.running) (nat_lt x.held.term t) _ (nothing x.running) (λ e. absurd (grind (arith, nat_tests))) (λ _. refl))
      (λ _. refl)

  abbrev LinkBy : Input I → Type 0
  LinkBy input = IsHeard (reacted x input) (installed x input)

  bodies : (input : Input I) → IsBodies input → LinkBy input
  bodies input b = bodies_link n im faithful w l K x runs member s.list input b

  abbrev passing : Mail I → Bool
  passing m = passes x.members x.me (last_index x.held.log) m

  come_now : (U : ℕ → ℕ) → ((q : ℕ) → U0 q ≤ U q) → (p : Place l.sent s) → HasCome U s.message
  come_now U more p = grown U0 U more s.message (sender p)

  pub mail_link : (room : Option ℕ) (now : ℕ) (m : Mail I) → s.message ≡ m → Known U0 im l.sent s m → LinkBy (mail_as im room x now m m)
  unfolding reacted installed
  mail_link room now (mail.VoteReq t from end end_term) is h =
      plain_link (place_of l.sent s h) 0 _ _ (ap (λ z. Delivered (taken_of x.held.log z 0) z) is) (no_image (passing (mail.VoteReq t from end end_term)) None refl)
      (λ U more. by_pass U more (passing (mail.VoteReq t from end end_term)) _ (request_fair (λ _. ⊥) U x.members x.me x.held x.running (known U more) t from end end_term))
  mail_link room now (mail.VoteRep t from granted) is h =
      plain_link (place_of l.sent s h) 0 _ _ (ap (λ z. Delivered (taken_of x.held.log z 0) z) is) (no_image (passing (mail.VoteRep t from granted)) None refl)
      (λ U more. by_pass U more (passing (mail.VoteRep t from granted)) _ (vote_fair (λ _. ⊥) U x.members x.me x.held x.running (known U more) t from granted))
  mail_link room now (mail.Append a) is h =
      let p = place_of l.sent s h in
      let weight = weighed x.members x.me x.held x.running a in
      let j = room_taken room (length a.entries) weight in
      let count : append_taken room x a ≡ taken_of {I = I} x.held.log (mail.Append a) j = taken_by_room x.held.log a room weight (weighed_taken x.members x.me x.held x.running a) in
      plain_link p j _ None (ap (λ z. Delivered (taken_of x.held.log z j) z) is ∙ ap (λ c. take_append {I = I} x.members x.me x.held x.running a c) (sym count)) refl
      (λ U more. by_pass U more (passes_append x.members x.me a) _ (append_fair (λ _. ⊥) U x.members x.me x.held x.running (known U more) a (append_taken room x a) (subst (λ z. HasCome U z) is (come_now U more p))))
  mail_link room now (mail.AppendRep t from ok end heard) is h =
      plain_link (place_of l.sent s h) 0 _ _ (ap (λ z. Delivered (taken_of x.held.log z 0) z) is) (no_image (passing (mail.AppendRep t from ok end heard)) None refl)
      (λ U more. by_pass U more (passing (mail.AppendRep t from ok end heard)) _ (rep_fair (λ _. ⊥) U x.members x.me x.held x.running (known U more) t from ok end))
  mail_link room now (mail.Install t from i it image) is h = cond_cases LinkBy (is_whole im i it image) (asks (raft.Deliver (mail.Install t from i it image))) idle
      (λ _. install_link t from i it image is (place_of l.sent s h.0) h.1)
      (λ _. bodies idle tt)
  mail_link room now (mail.InstallRep t from i) is h =
      plain_link (place_of l.sent s h) 0 _ _ (ap (λ z. Delivered (taken_of x.held.log z 0) z) is) (no_image (passing (mail.InstallRep t from i)) None refl)
      (λ U more. by_pass U more (passing (mail.InstallRep t from i)) _ (rep_fair (λ _. ⊥) U x.members x.me x.held x.running (known U more) t from true i))
  mail_link room now (mail.Forward t from b) is h = cond_cases LinkBy (may_propose {I = I} x (mail.Forward t from b) t) (propose_if now (taken_by x now (b ∷ []))) (asks (raft.Deliver (mail.Forward t from b)))
      (λ _. bodies (propose_if now (taken_by x now (b ∷ []))) (bodies_if I now (taken_by x now (b ∷ []))))
      (λ _. idle_link n im faithful w l K x runs member s.list _ _ (forward_nothing t from b low) (no_image (passing (mail.Forward t from b)) None refl))
    where
      low : t ≤ x.held.term
      low =
          let some : nat_lt 0 K ≡ true = (and_true (nat_lt 0 K) (nat_le K n) member).0 in
          let pos : 0 < K = grind (arith, nat_tests) in
          omega (arith, h pos, ap (λ (z : Held). z.term) at_node.held)
