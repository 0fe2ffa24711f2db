-- The world is laid on the network: what is forgotten, what is kept of it, and a step of one member.
use Rattle.std.proofs.Common.{◌≡◌, ℕ, ◌≤◌, ◌<◌, ◌⊎◌, inl, inr, List, [], ◌∷◌, ◌++◌, length, take, refl, sym, ap, ◌∙◌, subst, arith, le_trans, Option, Some, None}
use Rattle.kp_model.specs.LogEntry.{LogEntry}
use Rattle.kp_model.specs.State.{State, empty}
use Rattle.kp_model.specs.Store.{after}
use Rattle.kp_entry.specs.declared.record.Record.{Record}
use Rattle.kp_entry.specs.declared.record.Record.TheVariants as record_
use Rattle.kp_entry.specs.Held.{replay}
use Rattle.kp_raft.specs.Numbers.{set_at}
use Rattle.kp_raft.specs.Parts.{Running, Outcome}
use Rattle.kp_step.specs.Node.{Node, Images}
use Rattle.kp_step.specs.Step.{Stepped, state_of, base_image, mail_of}
use Rattle.kp_step.specs.Runs.{base_behind, done_behind}
use Rattle.kp_world.specs.Net.{Stored, Sent, front_behind, behind_records, sent_with}
use Rattle.kp_world.specs.Net as net
use Rattle.kp_world.specs.Book.{empty_book}
use Rattle.kp_world.proofs.Cases.{set_at_cases}
use Rattle.kp_world.proofs.Growth.{grows_self}
use Rattle.kp_world.proofs.Laid.{seen_change}
use Rattle.kp_world.proofs.Link.{HasNoBase, no_base_front, no_base_take}
use Rattle.kp_world.proofs.Worlds.{NetFits, run_ok}
use Rattle.kp_cluster.specs.World.{Member, World, image_behind, done_after, stored_behind, did}
use Rattle.kp_cluster.proofs.Rules.{AllSends, Knows}
use Rattle.kp_cluster.proofs.Steps.{Made}
use Rattle.kp_cluster.proofs.Mails.{AllKnown, IsOf, all_grow, all_known}

-- ---- what is forgotten

abbrev pub running_of : Option Node → Option Running
running_of None = None
running_of (Some x) = Some x.running

abbrev pub seen : Member → net.Node
seen m = record { stored = m.stored; running = running_of m.node; done = m.done }

abbrev pub below : {I : Type 0} → World I → List (Sent I) → net.Net I
below w sent = record { nodes = λ k. seen (w.members k); sent = sent }

-- the terms that the members have come to
abbrev pub terms : {I : Type 0} → World I → ℕ → ℕ
terms w k = (w.members k).stored.held.term

-- ---- what is kept

-- a node that runs
pub record NodeFits (n k : ℕ) (T : ℕ → ℕ) (m : Member) (x : Node) : Type 0 where
  pub me : x.me ≡ k
  pub members : x.members ≡ n
  pub held : x.held ≡ m.stored.held
  pub state : x.state ≡ after empty m.done
  pub front : length m.stored.front ≤ length m.done
  pub knows : 0 < x.running.leader → x.held.term ≤ T x.running.leader

pub record MemberFits (n k : ℕ) (T : ℕ → ℕ) (m : Member) : Type 0 where
  pub image : m.image ≡ after empty m.stored.front
  pub node : (x : Node) → m.node ≡ Some x → NodeFits n k T m x

pub record Laid {I : Type 0} (n : ℕ) (im : Images I) (w : World I) : Type 0 where
  pub sent : List (Sent I)
  pub fits : NetFits n empty_book (below w sent)
  pub members : (k : ℕ) → MemberFits n k (terms w) (w.members k)
  pub mails : AllKnown (terms w) im sent w.sent

-- the world goes on, and events of the network bring that on
pub record Goes {I : Type 0} (n : ℕ) (im : Images I) (w : World I) (l : Laid n im w) (v : World I) : Type 0 where
  pub laid : Laid n im v
  pub events : List (net.Event I)
  pub is : net.run n events (below w l.sent) ≡ below v laid.sent

-- ---- images

pub image_front : (rs : List Record) (new old : State) (list front : List LogEntry) → new ≡ after empty list → old ≡ after empty front → image_behind new old rs ≡ after empty (front_behind list front rs)
image_front [] new old list front e f = f
image_front (record_.Vote t v ∷ rs) new old list front e f = image_front rs new old list front e f
image_front (record_.Boot b ∷ rs) new old list front e f = image_front rs new old list front e f
image_front (record_.Append a ∷ rs) new old list front e f = image_front rs new old list front e f
image_front (record_.Truncate i ∷ rs) new old list front e f = image_front rs new old list front e f
image_front (record_.Base i t ∷ rs) new old list front e f = image_front rs new new list list e e

plain_image : (rs : List Record) (new old : State) → HasNoBase rs → image_behind new old rs ≡ old
plain_image [] new old f = refl
plain_image (record_.Vote t v ∷ rs) new old f = plain_image rs new old f
plain_image (record_.Boot b ∷ rs) new old f = plain_image rs new old f
plain_image (record_.Append a ∷ rs) new old f = plain_image rs new old f
plain_image (record_.Truncate i ∷ rs) new old f = plain_image rs new old f
plain_image (record_.Base i t ∷ rs) new old f = absurd f

-- ---- what a step is to the network

-- no base, or one with the image of the state behind the list
abbrev pub Bases : List LogEntry → List LogEntry → State → List Record → Type 0
Bases alist list new rs = HasNoBase rs ⊎ ((alist ≡ list) × (new ≡ after empty list))

pub record Plays {I : Type 0} (im : Images I) (T : ℕ → ℕ) (k : ℕ) (m : Member) (x : Node) (list : List LogEntry) (e : Option LogEntry) (out : Outcome I) (taken : Option I) (a : net.Act I) : Type 0 where
  pub out_is : a.out ≡ out
  pub done_is : a.done ≡ done_after list taken e m.done
  pub bases : Bases a.list list (state_of im m.image (base_image im x out.records taken)) out.records
  pub front : length (front_behind list m.stored.front out.records) ≤ length (done_after list taken e m.done)
  pub knows : (U : ℕ → ℕ) → ((j : ℕ) → T j ≤ U j) → Knows U k x.held out
  pub sends : AllSends (IsOf im a.list list) out.mail

front_is : (rs : List Record) (alist list front : List LogEntry) (new : State) → Bases alist list new rs → front_behind alist front rs ≡ front_behind list front rs
front_is rs alist list front new (inl p) = no_base_front alist front rs p ∙ sym (no_base_front list front rs p)
front_is rs alist list front new (inr b) = ap (λ xs. front_behind xs front rs) b.0

image_is : (rs : List Record) (alist list front : List LogEntry) (new old : State) → Bases alist list new rs → old ≡ after empty front → image_behind new old rs ≡ after empty (front_behind list front rs)
image_is rs alist list front new old (inl p) e = plain_image rs new old p ∙ (e ∙ ap (λ xs. after empty xs) (sym (no_base_front list front rs p)))
image_is rs alist list front new old (inr b) e = image_front rs new old list front b.1 e

bases_take : (j : ℕ) (rs : List Record) (alist list : List LogEntry) (new : State) → Bases alist list new rs → Bases alist list new (take j rs)
bases_take j rs alist list new (inl p) = inl (no_base_take j rs p)
bases_take j rs alist list new (inr b) = inr b

-- the state behind a step is that behind what is applied
state_is : {I : Type 0} (im : Images I) (taken : Option I) (e : Option LogEntry) (list done : List LogEntry) (s : State) → s ≡ after (base_behind im taken empty) (done_behind taken e done)
    → ((image : I) → taken ≡ Some image → im.shows image ≡ after empty list) → s ≡ after empty (done_after list taken e done)
unfolding after
state_is im None e list done s h t = h
state_is im (Some image) e list done s h t = h ∙ t image refl

some_same : (x y : Node) → Some x ≡ Some y → x ≡ y
some_same x y e = cc

pub member_grows : (n k : ℕ) (T U : ℕ → ℕ) (m : Member) → ((j : ℕ) → T j ≤ U j) → MemberFits n k T m → MemberFits n k U m
member_grows n k T U m more f = record {
  image = f.image;
  node = λ x e. let g : NodeFits n k T m x = f.node x e in record { me = g.me; members = g.members; held = g.held; state = g.state; front = g.front; knows = λ pos. le_trans (g.knows pos) (more x.running.leader) };
}

-- ---- a step

module _ {I : Type 0} (n : ℕ) (im : Images I) (w : World I) (l : Laid n im w) (k : ℕ) (x : Node) (runs : (w.members k).node ≡ Some x) (list : List LogEntry)
    (e : Option LogEntry) (out : Outcome I) (taken : Option I) (o : Stepped I) (made : Made im x e out taken o) (a : net.Act I) (p : Plays im (terms w) k (w.members k) x list e out taken a)
    (shown : (image : I) → taken ≡ Some image → im.shows image ≡ after empty list) where
  abbrev m : Member
  m = w.members k

  abbrev Behind : World I → Type 0
  Behind v = (j : ℕ) → terms w j ≤ terms v j

  -- terms never fall
  rises : (v : World I) (sent : List (Sent I)) → NetFits n l.fits.book (below v sent) → Behind v
  rises v sent g j = omega (arith, (l.fits.nodes j).stored.term, (g.nodes j).stored.term, g.since.term j)

  again : NetFits n l.fits.book (below w l.sent)
  again = record { book = l.fits.book; since = grows_self l.fits.book; inv = l.fits.inv; nodes = l.fits.nodes; mails = l.fits.mails }

  records_is : a.out.records ≡ o.records
  records_is = ap (λ (z : Outcome I). z.records) p.out_is ∙ sym made.records

  bases_o : Bases a.list list (state_of im m.image o.image) o.records
  bases_o = subst (λ (z : Option I). Bases a.list list (state_of im m.image z) o.records) (sym made.image) (subst (λ rs. Bases a.list list (state_of im m.image (base_image im x out.records taken)) rs) (sym made.records) p.bases)

  abbrev done' : List LogEntry
  done' = done_after list o.installed o.applied m.done

  done_same : done_after list taken e m.done ≡ done'
  done_same = λ i. done_after list (sym made.installed i) (sym made.applied i) m.done

  abbrev whole : Member
  whole = stored_behind im m list o o.records (Some o.node) done'

  abbrev part : ℕ → Member
  part j = stored_behind im m list o (take j o.records) None m.done

  node_is : seen whole ≡ record { stored = behind_records a.list m.stored a.out.records; running = Some a.out.running; done = a.done }
  node_is = sym (λ i. record {
    stored = record { held = replay m.stored.held (records_is i); front = (ap (λ rs. front_behind a.list m.stored.front rs) records_is ∙ front_is o.records a.list list m.stored.front (state_of im m.image o.image) bases_o) i };
    running = Some ((ap (λ (z : Outcome I). z.running) p.out_is ∙ sym made.running) i);
    done = (p.done_is ∙ done_same) i;
  })

  part_is : (j : ℕ) → seen (part j) ≡ record { stored = behind_records a.list m.stored (take j a.out.records); running = None; done = m.done }
  part_is j = sym (λ i. record {
    stored = record {
      held = replay m.stored.held (take j (records_is i));
      front = (ap (λ rs. front_behind a.list m.stored.front (take j rs)) records_is ∙ front_is (take j o.records) a.list list m.stored.front (state_of im m.image o.image) (bases_take j o.records a.list list (state_of im m.image o.image) bases_o)) i;
    };
    running = None;
    done = m.done;
  })

  abbrev sent' : List (Sent I)
  sent' = sent_with a.list a.out.mail ++ l.sent

  whole_is : net.did (below w l.sent) k a None ≡ below (did im w k list o None) sent'
  whole_is = λ i. record {
    nodes = (ap (λ (z : net.Node). set_at (λ j. seen (w.members j)) k z) (sym node_is) ∙ sym (seen_change seen w.members k whole)) i;
    sent = sent';
  }

  torn_is : (j : ℕ) → net.did (below w l.sent) k a (Some j) ≡ below (did im w k list o (Some j)) l.sent
  torn_is j = λ i. record {
    nodes = (ap (λ (z : net.Node). set_at (λ q. seen (w.members q)) k z) (sym (part_is j)) ∙ sym (seen_change seen w.members k (part j))) i;
    sent = l.sent;
  }

  fit : NodeFits n k (terms w) m x
  fit = (l.members k).node x runs

  -- the member behind the step
  whole_fits : (U : ℕ → ℕ) → ((j : ℕ) → terms w j ≤ U j) → whole.stored.held.term ≤ U k → MemberFits n k U whole
  whole_fits U more own = record {
    image = image_is o.records a.list list m.stored.front (state_of im m.image o.image) m.image bases_o (l.members k).image;
    node = λ y is. subst (λ z. NodeFits n k U whole z) (some_same o.node y is) (record {
      me = made.stays.me ∙ fit.me;
      members = made.stays.members ∙ fit.members;
      held = held_is;
      state = state_is im taken e list m.done o.node.state (made.state m.done fit.state) shown ∙ ap (λ xs. after empty xs) done_same;
      front = subst (λ xs. length (front_behind list m.stored.front o.records) ≤ length xs) done_same (subst (λ rs. length (front_behind list m.stored.front rs) ≤ length (done_after list taken e m.done)) (sym made.records) p.front);
      knows = knows_now;
    });
  }
    where
      held_is : o.node.held ≡ whole.stored.held
      held_is = made.held ∙ (λ i. replay (fit.held i) (sym made.records i))

      term_is : (replay x.held out.records).term ≡ whole.stored.held.term
      term_is = ap (λ z. z.term) (sym made.held ∙ held_is)

      knows_now : 0 < o.node.running.leader → o.node.held.term ≤ U o.node.running.leader
      knows_now pos =
          let lead : o.node.running.leader ≡ out.running.leader = ap (λ (z : Running). z.leader) made.running in
          let up : (replay x.held out.records).term ≤ U out.running.leader = p.knows U more (omega (arith, term_is, own)) (omega (arith, lead, pos)) in
          let now : o.node.held.term ≡ (replay x.held out.records).term = ap (λ z. z.term) made.held in
          subst (λ z. o.node.held.term ≤ U z) (sym lead) (omega (arith, now, up))

  part_fits : (U : ℕ → ℕ) (j : ℕ) → MemberFits n k U (part j)
  part_fits U j = record {
    image = image_is (take j o.records) a.list list m.stored.front (state_of im m.image o.image) m.image (bases_take j o.records a.list list (state_of im m.image o.image) bases_o) (l.members k).image;
    node = λ y is. absurd cc;
  }

  here : (y : Member) → (set_at w.members k y) k ≡ y
  here y = set_at_cases (λ z. z ≡ y) w.members k y k (λ _. refl) (λ no. absurd (no refl))

  all_fit : (U : ℕ → ℕ) (y : Member) → ((j : ℕ) → terms w j ≤ U j) → MemberFits n k U y → (j : ℕ) → MemberFits n j U (set_at w.members k y j)
  all_fit U y more f j = set_at_cases (λ z. MemberFits n j U z) w.members k y j
      (λ at. subst (λ i. MemberFits n i U y) (sym at) f)
      (λ _. member_grows n j (terms w) U (w.members j) more (l.members j))

  -- the network's events that make the step
  module _ (events : List (net.Event I)) where
    pub whole_goes : net.run n events (below w l.sent) ≡ net.did (below w l.sent) k a None → Goes n im w l (did im w k list o None)
    whole_goes is =
        let v : World I = did im w k list o None in
        let path : net.run n events (below w l.sent) ≡ below v sent' = is ∙ whole_is in
        let more : Behind v = rises v sent' (subst (λ z. NetFits n l.fits.book z) path (run_ok n l.fits.book events (below w l.sent) again)) in
        let own : whole.stored.held.term ≤ terms v k = subst (λ (z : Member). whole.stored.held.term ≤ z.stored.held.term) (sym (here whole)) (omega arith) in
        record {
          laid = record {
            sent = sent';
            fits = subst (λ z. NetFits n empty_book z) path (run_ok n empty_book events (below w l.sent) l.fits);
            members = all_fit (terms v) whole more (whole_fits (terms v) more own);
            mails = subst (λ ms. AllKnown (terms v) im sent' (sent_with list ms ++ w.sent)) (sym made.mail) (mails_now v more);
          };
          events = events;
          is = path;
        }
      where
        mails_now : (v : World I) → Behind v → AllKnown (terms v) im sent' (sent_with list (mail_of x out.mail made.forwards) ++ w.sent)
        mails_now v more = subst (λ (z : Outcome I). AllKnown (terms v) im sent' (sent_with list (mail_of x z.mail made.forwards) ++ w.sent)) p.out_is
            (all_known im (terms v) a.list list x a.out.mail made.forwards l.sent w.sent
            (subst (λ (z : Outcome I). AllSends (IsOf im a.list list) z.mail) (sym p.out_is) p.sends)
            (λ pos. le_trans (fit.knows pos) (more x.running.leader))
            (all_grow im (terms w) (terms v) more (sent_with a.list a.out.mail) l.sent w.sent l.mails))

    pub torn_goes : (j : ℕ) → net.run n events (below w l.sent) ≡ net.did (below w l.sent) k a (Some j) → Goes n im w l (did im w k list o (Some j))
    torn_goes j is =
        let v : World I = did im w k list o (Some j) in
        let path : net.run n events (below w l.sent) ≡ below v l.sent = is ∙ torn_is j in
        let more : Behind v = rises v l.sent (subst (λ z. NetFits n l.fits.book z) path (run_ok n l.fits.book events (below w l.sent) again)) in
        record {
          laid = record {
            sent = l.sent;
            fits = subst (λ z. NetFits n empty_book z) path (run_ok n empty_book events (below w l.sent) l.fits);
            members = all_fit (terms v) (part j) more (part_fits (terms v) j);
            mails = all_grow im (terms w) (terms v) more [] l.sent w.sent l.mails;
          };
          events = events;
          is = path;
        }
