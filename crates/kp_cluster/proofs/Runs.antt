-- Every event keeps the world laid on the network, so its laws are the network's.
use Rattle.std.proofs.Common.{◌≡◌, ℕ, ◌≤◌, true, cond, List, [], ◌∷◌, ◌++◌, take, refl, sym, ap, ◌∙◌, subst, arith, Option, Some, None, slice_get}
use Rattle.kp_model.specs.LogEntry.{LogEntry}
use Rattle.kp_model.specs.State.{State, empty}
use Rattle.kp_model.specs.Store.{after}
use Rattle.kp_raft.specs.declared.mail.Mail.{Mail}
use Rattle.kp_raft.specs.Numbers.{set_at}
use Rattle.kp_event.specs.declared.event.NodeEvent.{NodeEvent}
use Rattle.kp_event.specs.declared.event.NodeEventKind.{NodeEventKind}
use Rattle.kp_event.specs.declared.event.NodeEventKind.TheVariants as kind
use Rattle.kp_step.specs.Choices.{Choices}
use Rattle.kp_step.specs.Node.{Node, Images, unapplied}
use Rattle.kp_step.specs.Applying.{upcoming}
use Rattle.kp_step.specs.Asking.{Words, Input, reacted, installed, commit_input, asked}
use Rattle.kp_step.specs.Step.{applies, step}
use Rattle.kp_step.proofs.Turning.{after_all, after_none}
use Rattle.kp_world.specs.Acted.{WritesAreCounted}
use Rattle.kp_world.specs.Net.{Sent, is_member, Starts}
use Rattle.kp_world.specs.Net as net
use Rattle.kp_world.specs.Book.{empty_book}
use Rattle.kp_world.proofs.Cases.{set_at_cases}
use Rattle.kp_world.proofs.Laid.{seen_change}
use Rattle.kp_world.proofs.Link.{cond_cases}
use Rattle.kp_world.proofs.Longest.{run_append}
use Rattle.kp_world.proofs.Worlds.{NetFits, run_ok, blank_ok, one_log_holds}
use Rattle.kp_cluster.specs.World.{Member, World, is_own, acted, heard_by, Act, At, Comes, Event, Does, Tears, Starts as Starts_, heard, acts, started, happens, run, blank, world_after}
use Rattle.kp_cluster.specs.Laws.{AreFaithful, HaveOneList, OneList, Folds, StatesFold, WritesCount}
use Rattle.kp_cluster.proofs.Steps.{step_made, own_asked, commit_bodies}
use Rattle.kp_cluster.proofs.Mails.{Known, known_at, all_grow}
use Rattle.kp_cluster.proofs.Laid.{seen, below, terms, NodeFits, MemberFits, Laid, Goes, member_grows}
use Rattle.kp_cluster.proofs.Links.{Link, link_goes, own_link, commit_link, bodies_link}
use Rattle.kp_cluster.proofs.Hears.{mail_link}

module _ {I : Type 0} (words : Words) (im : Images I) (faithful : AreFaithful im) (n : ℕ) where
  -- nothing happens
  stays : (w : World I) (l : Laid n im w) → Goes n im w l w
  stays w l = record { laid = l; events = []; is = refl }

  -- ---- events of a member's own

  module _ (w : World I) (l : Laid n im w) (k : ℕ) (ch : Choices) (member : is_member n k ≡ true) where
    abbrev IsLink : Node → Option LogEntry → Input I → Type 0
    IsLink x e input = Link n im w l k x (take x.state.applied (w.members k).done) e (reacted x input) (installed x input)

    by_upcoming : (x : Node) (now : ℕ) (o : Option LogEntry) → (w.members k).node ≡ Some x → upcoming x ≡ o → IsLink x o (commit_input ch x now o)
    by_upcoming x now None runs is = bodies_link n im faithful w l k x runs member (take x.state.applied (w.members k).done) (commit_input ch x now None) (commit_bodies im x ch now None)
    by_upcoming x now (Some e) runs is = commit_link n im faithful w l k x runs member e is (take x.state.applied (w.members k).done) (commit_input ch x now (Some e)) (commit_bodies im x ch now (Some e))

    own_by : (x : Node) (now : ℕ) (v : NodeEventKind (Mail I)) → (w.members k).node ≡ Some x → is_own v ≡ true → IsLink x (applies x v) (asked words im ch x now v)
    unfolding asked
    own_by x now (kind.Accept draw) runs own = own_link n im faithful w l k x runs member _ (own_asked im x words ch now (kind.Accept draw) own)
    own_by x now (kind.Client c bytes) runs own = own_link n im faithful w l k x runs member _ (own_asked im x words ch now (kind.Client c bytes) own)
    own_by x now (kind.Hangup c) runs own = own_link n im faithful w l k x runs member _ (own_asked im x words ch now (kind.Hangup c) own)
    own_by x now (kind.Drain c) runs own = own_link n im faithful w l k x runs member _ (own_asked im x words ch now (kind.Drain c) own)
    own_by x now (kind.Deliver m) runs own = absurd cc
    own_by x now kind.Timeout runs own = own_link n im faithful w l k x runs member _ (own_asked im x words ch now kind.Timeout own)
    own_by x now kind.Beat runs own = own_link n im faithful w l k x runs member _ (own_asked im x words ch now kind.Beat own)
    own_by x now kind.CommitOne runs own = by_upcoming x now (upcoming x) runs refl
    own_by x now kind.ExpireDue runs own = own_link n im faithful w l k x runs member _ (own_asked im x words ch now kind.ExpireDue own)
    own_by x now kind.Snapshot runs own = own_link n im faithful w l k x runs member _ (own_asked im x words ch now kind.Snapshot own)

    acted_goes : (v : NodeEvent (Mail I)) (stop : Option ℕ) (o : Option Node) → (w.members k).node ≡ o → is_own v.kind ≡ true → Goes n im w l (acted words im w k ch v stop o)
    acted_goes v stop None is own = stays w l
    acted_goes v stop (Some x) is own = link_goes n im w l k x is (take x.state.applied (w.members k).done) (applies x v.kind) (reacted x (asked words im ch x v.now v.kind)) (installed x (asked words im ch x v.now v.kind)) (step words im ch x v) (step_made words im ch x v) (own_by x v.now v.kind is own) stop

  -- ---- messages

  module _ (w : World I) (l : Laid n im w) (s : Sent I) (ch : Choices) (now : ℕ) (member : is_member n s.to ≡ true) (h : Known (terms w) im l.sent s s.message) where
    abbrev come : NodeEvent (Mail I)
    come = record { now = now; kind = kind.Deliver s.message }

    mail_by : (x : Node) → (w.members s.to).node ≡ Some x → Link n im w l s.to x s.list None (reacted x (asked words im ch x now (kind.Deliver s.message))) (installed x (asked words im ch x now (kind.Deliver s.message)))
    unfolding asked
    mail_by x runs = mail_link n im faithful w l s x runs member ch.room now s.message refl h

    heard_by_goes : (stop : Option ℕ) (o : Option Node) → (w.members s.to).node ≡ o → Goes n im w l (heard_by words im w s ch now stop o)
    heard_by_goes stop None is = stays w l
    heard_by_goes stop (Some x) is = link_goes n im w l s.to x is s.list None (reacted x (asked words im ch x now (kind.Deliver s.message))) (installed x (asked words im ch x now (kind.Deliver s.message))) (step words im ch x come) (step_made words im ch x come) (mail_by x is) stop

  heard_goes : (w : World I) (l : Laid n im w) (ch : Choices) (now : ℕ) (stop : Option ℕ) (o : Option (Sent I)) → ((s : Sent I) → o ≡ Some s → Known (terms w) im l.sent s s.message) → Goes n im w l (heard words im n w ch now stop o)
  heard_goes w l ch now stop None h = stays w l
  heard_goes w l ch now stop (Some s) h = cond_cases (Goes n im w l) (is_member n s.to) (heard_by words im w s ch now stop (w.members s.to).node) w
      (λ member. heard_by_goes w l s ch now member (h s refl) stop (w.members s.to).node refl)
      (λ _. stays w l)

  acts_goes : (w : World I) (l : Laid n im w) (ch : Choices) (a : Act I) (stop : Option ℕ) → Goes n im w l (acts words im n w ch a stop)
  acts_goes w l ch (At k v) stop = cond_cases (Goes n im w l) (is_member n k) (cond (is_own v.kind) (acted words im w k ch v stop (w.members k).node) w) w
      (λ member. cond_cases (Goes n im w l) (is_own v.kind) (acted words im w k ch v stop (w.members k).node) w (λ own. acted_goes w l k ch member v stop (w.members k).node refl own) (λ _. stays w l))
      (λ _. stays w l)
  acts_goes w l ch (Comes i now) stop = heard_goes w l ch now stop (slice_get w.sent i) (λ s e. known_at (terms w) im l.sent w.sent i s l.mails e)

  -- ---- starts

  module _ (w : World I) (l : Laid n im w) (k now : ℕ) where
    abbrev next : Member
    next = started n k (w.members k) now

    abbrev v : World I
    v = record { members = set_at w.members k next; sent = w.sent }

    path : net.started_at (below w l.sent) k ≡ below v l.sent
    path = λ i. record { nodes = sym (seen_change seen w.members k next) i; sent = l.sent }

    more : (j : ℕ) → terms w j ≤ terms v j
    more j = set_at_cases (λ z. terms w j ≤ z.stored.held.term) w.members k next j (λ at. subst (λ i. terms w i ≤ (w.members k).stored.held.term) (sym at) (omega arith)) (λ _. omega arith)

    next_fits : MemberFits n k (terms v) next
    next_fits = record {
      image = (l.members k).image;
      node = λ x e. subst (λ z. NodeFits n k (terms v) next z) (same x e) (record {
        me = refl;
        members = refl;
        held = refl;
        state = (l.members k).image;
        front = omega arith;
        knows = λ pos. absurd (omega (arith, pos));
      });
    }
      where
        begins : Option Node → Node → Node
        begins None y = y
        begins (Some x) y = x

        same : (x : Node) → next.node ≡ Some x → begins next.node x ≡ x
        same x e = ap (λ z. begins z x) e

    starts_goes : Goes n im w l v
    starts_goes = record {
      laid = record {
        sent = l.sent;
        fits = subst (λ z. NetFits n empty_book z) path (run_ok n empty_book (Starts k ∷ []) (below w l.sent) l.fits);
        members = λ j. set_at_cases (λ z. MemberFits n j (terms v) z) w.members k next j
            (λ at. subst (λ i. MemberFits n i (terms v) next) (sym at) next_fits)
            (λ _. member_grows n j (terms w) (terms v) (w.members j) more (l.members j));
        mails = all_grow im (terms w) (terms v) more [] l.sent w.sent l.mails;
      };
      events = Starts k ∷ [];
      is = path;
    }

  -- ---- runs

  happens_goes : (w : World I) (l : Laid n im w) (e : Event I) → Goes n im w l (happens words im n w e)
  happens_goes w l (Does ch a) = acts_goes w l ch a None
  happens_goes w l (Tears ch a j) = acts_goes w l ch a (Some j)
  happens_goes w l (Starts_ k now) = starts_goes w l k now

  then_goes : (w v u : World I) (l : Laid n im w) (g : Goes n im w l v) → Goes n im v g.laid u → Goes n im w l u
  then_goes w v u l g h = record {
    laid = h.laid;
    events = g.events ++ h.events;
    is = run_append n g.events h.events (below w l.sent) ∙ (ap (λ z. net.run n h.events z) g.is ∙ h.is);
  }

  run_goes : (es : List (Event I)) (w : World I) (l : Laid n im w) → Goes n im w l (run words im n es w)
  run_goes [] w l = stays w l
  run_goes (e ∷ es) w l = let g = happens_goes w l e in then_goes w (happens words im n w e) (run words im n es (happens words im n w e)) l g (run_goes es (happens words im n w e) g.laid)

  blank_laid : Laid n im (blank n)
  blank_laid = record {
    sent = [];
    fits = blank_ok n;
    members = λ k. record {
      image = after_none empty;
      node = λ x e. subst (λ z. NodeFits n k (terms (blank {I = I} n)) ((blank {I = I} n).members k) z) (same k x e) (record {
        me = refl;
        members = refl;
        held = refl;
        state = after_none empty;
        front = omega arith;
        knows = λ pos. absurd (omega (arith, pos));
      });
    };
    mails = tt;
  }
    where
      begins : Option Node → Node → Node
      begins None y = y
      begins (Some x) y = x

      same : (k : ℕ) (x : Node) → ((blank {I = I} n).members k).node ≡ Some x → begins ((blank {I = I} n).members k).node x ≡ x
      same k x e = ap (λ z. begins z x) e

  world_goes : (es : List (Event I)) → Goes n im (blank n) blank_laid (world_after words im n es)
  world_goes es = run_goes es (blank n) blank_laid

  one_list : (events later : List (Event I)) → HaveOneList (world_after words im n events) (run words im n later (world_after words im n events))
  unfolding blank_laid
  one_list events later j k =
      let v = world_after words im n events in
      let g = world_goes events in
      let h = run_goes later v g.laid in
      subst (λ z. net.HaveOneLog (below v g.laid.sent) z) h.is (subst (λ z. net.HaveOneLog z (net.run n h.events z)) g.is (one_log_holds I n g.events h.events)) j k

  folds : (events : List (Event I)) (k : ℕ) (x : Node) → ((world_after words im n events).members k).node ≡ Some x → Folds ((world_after words im n events).members k) x
  folds events k x runs =
      let f = ((world_goes events).laid.members k).node x runs in
      let done = ((world_after words im n events).members k).done in
      record {
        committed = f.state;
        uncommitted = ap (λ (s : State). after s (unapplied x)) f.state ∙ sym (after_all empty done (unapplied x));
      }

-- ---- the laws

pub one_list_holds : (I : Type 0) → OneList I
one_list_holds I words im faithful n events later = one_list words im faithful n events later

pub states_fold : (I : Type 0) → StatesFold I
states_fold I words im faithful n events = folds words im faithful n events

pub writes_count : (I : Type 0) → WritesAreCounted → WritesCount I
writes_count I counted words im faithful n events k session epoch = counted ((world_after words im n events).members k).done session epoch
