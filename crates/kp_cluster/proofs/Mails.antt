-- Each message of the world that Raft hears is one of the network's.
use Rattle.std.proofs.Common.{◌≡◌, ℕ, zero, suc, ◌≤◌, ◌<◌, ◌⊎◌, inl, inr, List, [], ◌∷◌, ◌++◌, map, refl, subst, arith, le_trans, Some, slice_get}
use Rattle.kp_model.specs.declared.entry.Body.{Body}
use Rattle.kp_model.specs.LogEntry.{LogEntry}
use Rattle.kp_model.specs.State.{empty}
use Rattle.kp_model.specs.Store.{after}
use Rattle.kp_raft.specs.declared.mail.Mail.{Mail}
use Rattle.kp_raft.specs.declared.mail.Mail.TheVariants as mail
use Rattle.kp_step.specs.Node.{Node, Images}
use Rattle.kp_step.specs.Step.{heard_filled, filled, forwarded, mail_of}
use Rattle.kp_world.specs.Net.{Sent, sent_with}
use Rattle.kp_cluster.proofs.Rules.{Sends, AllSends}

abbrev pub IsInstall : {I : Type 0} → Mail I → Type 0
IsInstall (mail.Install t from i it image) = Unit {0}
IsInstall m = ⊥

-- a message of the network is one of the world but for the sessions that were heard; an image stands for the same list
pub record Same {I : Type 0} (s0 s : Sent I) : Type 0 where
  pub to : s0.to ≡ s.to
  pub ids : List ℕ
  pub message : s.message ≡ heard_filled ids s0.message
  pub list : IsInstall s.message → s0.list ≡ s.list

abbrev pub Has : {I : Type 0} → List (Sent I) → Sent I → Type 0
Has [] s = ⊥
Has (s0 ∷ ss) s = Same s0 s ⊎ Has ss s

-- its place
pub record Place {I : Type 0} (ss : List (Sent I)) (s : Sent I) : Type 0 where
  pub index : ℕ
  pub there : Sent I
  pub at : slice_get ss index ≡ Some there
  pub same : Same there s

pub place_of : {I : Type 0} (ss : List (Sent I)) (s : Sent I) → Has ss s → Place ss s
place_of [] s h = absurd h
place_of (s0 ∷ ss) s (inl h) = record { index = 0; there = s0; at = refl; same = h }
place_of (s0 ∷ ss) s (inr h) = let p = place_of ss s h in record { index = suc p.index; there = p.there; at = p.at; same = p.same }

pub has_more : {I : Type 0} (rs ss : List (Sent I)) (s : Sent I) → Has ss s → Has (rs ++ ss) s
has_more [] ss s h = h
has_more (r ∷ rs) ss s h = inr (has_more rs ss s h)

-- what is known of a message: a body is for a member that has come to its term, an image is of the state behind its list, and Raft's messages are the network's
abbrev pub Known : {I : Type 0} → (ℕ → ℕ) → Images I → List (Sent I) → Sent I → Mail I → Type 0
Known T im ss s (mail.Forward t from b) = 0 < s.to → t ≤ T s.to
Known T im ss s (mail.Install t from i it image) = Has ss s × (im.shows image ≡ after empty s.list)
Known T im ss s m = Has ss s

abbrev pub AllKnown : {I : Type 0} → (ℕ → ℕ) → Images I → List (Sent I) → List (Sent I) → Type 0
AllKnown T im ss [] = Unit {0}
AllKnown T im ss (s ∷ rest) = Known T im ss s s.message × AllKnown T im ss rest

module _ {I : Type 0} (im : Images I) (T U : ℕ → ℕ) (more : (k : ℕ) → T k ≤ U k) (rs ss : List (Sent I)) where
  known_grows : (s : Sent I) (m : Mail I) → Known T im ss s m → Known U im (rs ++ ss) s m
  known_grows s (mail.VoteReq t from end end_term) h = has_more rs ss s h
  known_grows s (mail.VoteRep t from granted) h = has_more rs ss s h
  known_grows s (mail.Append m) h = has_more rs ss s h
  known_grows s (mail.AppendRep t from ok end heard) h = has_more rs ss s h
  known_grows s (mail.Install t from i it image) h = (has_more rs ss s h.0, h.1)
  known_grows s (mail.InstallRep t from i) h = has_more rs ss s h
  known_grows s (mail.Forward t from b) h = λ pos. le_trans (h pos) (more s.to)

  pub all_grow : (rest : List (Sent I)) → AllKnown T im ss rest → AllKnown U im (rs ++ ss) rest
  all_grow [] h = tt
  all_grow (s ∷ rest) h = (known_grows s s.message h.0, all_grow rest h.1)

pub known_at : {I : Type 0} (T : ℕ → ℕ) (im : Images I) (ss rest : List (Sent I)) (i : ℕ) (s : Sent I) → AllKnown T im ss rest → slice_get rest i ≡ Some s → Known T im ss s s.message
known_at T im ss [] i s h e = absurd cc
known_at T im ss (x ∷ rest) zero s h e = let is : x ≡ s = cc in subst (λ y. Known T im ss y y.message) is h.0
known_at T im ss (x ∷ rest) (suc i) s h e = known_at T im ss rest i s h.1 e

-- ---- what a step sends

-- an image that is sent is of the state behind the list that goes with it
abbrev pub IsOf : {I : Type 0} → Images I → List LogEntry → List LogEntry → I → Type 0
IsOf im alist list image = (alist ≡ list) × (im.shows image ≡ after empty list)

module _ {I : Type 0} (im : Images I) (T : ℕ → ℕ) (alist list : List LogEntry) (ids : List ℕ) where
  sent_known : (to : ℕ) (m : Mail I) (ss : List (Sent I)) → Sends (IsOf im alist list) m
      → Known T im (record { to = to; message = m; list = alist } ∷ ss) (record { to = to; message = heard_filled ids m; list = list }) (heard_filled ids m)
  sent_known to (mail.VoteReq t from end end_term) ss f = inl (record { to = refl; ids = ids; message = refl; list = λ e. absurd e })
  sent_known to (mail.VoteRep t from granted) ss f = inl (record { to = refl; ids = ids; message = refl; list = λ e. absurd e })
  sent_known to (mail.Append m) ss f = inl (record { to = refl; ids = ids; message = refl; list = λ e. absurd e })
  sent_known to (mail.AppendRep t from ok end heard) ss f = inl (record { to = refl; ids = ids; message = refl; list = λ e. absurd e })
  sent_known to (mail.Install t from i it image) ss f = (inl (record { to = refl; ids = ids; message = refl; list = λ e. f.0 }), f.1)
  sent_known to (mail.InstallRep t from i) ss f = inl (record { to = refl; ids = ids; message = refl; list = λ e. absurd e })
  sent_known to (mail.Forward t from b) ss f = absurd f

  raft_known : (ms : List (ℕ × Mail I)) (ss : List (Sent I)) → AllSends (IsOf im alist list) ms → AllKnown T im (sent_with alist ms ++ ss) (sent_with list (map (filled ids) ms))
  raft_known [] ss f = tt
  raft_known (m ∷ ms) ss f = (
    sent_known m.0 m.1 (sent_with alist ms ++ ss) f.0,
    all_grow im T T (λ k. omega arith) (record { to = m.0; message = m.1; list = alist } ∷ []) (sent_with alist ms ++ ss) (sent_with list (map (filled ids) ms)) (raft_known ms ss f.1),
  )

  bodies_known : (x : Node) (ss : List (Sent I)) (bs : List Body) → (0 < x.running.leader → x.held.term ≤ T x.running.leader) → AllKnown T im ss (sent_with list (map (forwarded {I = I} x) bs))
  bodies_known x ss [] f = tt
  bodies_known x ss (b ∷ bs) f = (f, bodies_known x ss bs f)

  known_join : (ss : List (Sent I)) (ms ns : List (ℕ × Mail I)) (rest : List (Sent I)) → AllKnown T im ss (sent_with list ms) → AllKnown T im ss (sent_with list ns) → AllKnown T im ss rest → AllKnown T im ss (sent_with list (ms ++ ns) ++ rest)
  known_join ss [] [] rest f g h = h
  known_join ss [] (n ∷ ns) rest f g h = (g.0, known_join ss [] ns rest f g.1 h)
  known_join ss (m ∷ ms) ns rest f g h = (f.0, known_join ss ms ns rest f.1 g h)

-- the messages of a step, before those of old
pub all_known : {I : Type 0} (im : Images I) (T : ℕ → ℕ) (alist list : List LogEntry) (x : Node) (ms : List (ℕ × Mail I)) (bs : List Body) (ss rest : List (Sent I))
    → AllSends (IsOf im alist list) ms → (0 < x.running.leader → x.held.term ≤ T x.running.leader) → AllKnown T im (sent_with alist ms ++ ss) rest
    → AllKnown T im (sent_with alist ms ++ ss) (sent_with list (mail_of x ms bs) ++ rest)
all_known im T alist list x ms bs ss rest f g h = known_join im T alist list x.spoken (sent_with alist ms ++ ss) (map (filled x.spoken) ms) (map (forwarded x) bs) rest
    (raft_known im T alist list x.spoken ms ss f)
    (bodies_known im T alist list x.spoken x (sent_with alist ms ++ ss) bs g)
    h
