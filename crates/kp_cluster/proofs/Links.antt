-- What each thing that Raft is asked by a member's own event is to the network.
use Rattle.std.proofs.Common.{◌≡◌, ℕ, ◌-◌, ◌≤◌, ◌<◌, Bool, true, false, cond, inl, inr, List, [], ◌∷◌, ◌++◌, length, take, drop, refl, sym, ap, ◌∙◌, subst, arith, le_trans, Option, Some, None, slice_get}
use Rattle.std.specs.Prelude.{nat_lt, nat_le, replicate, if◌then◌else◌}
use Rattle.std.proofs.lemmas.Bool.Decides.{nat_tests}
use Rattle.kp_model.specs.LogEntry.{LogEntry}
use Rattle.kp_model.specs.State.{State, empty}
use Rattle.kp_model.specs.Store.{after}
use Rattle.kp_model.specs.declared.entry.Body.{Body}
use Rattle.kp_model.proofs.Applied.{applied-after}
use Rattle.kp_entry.specs.declared.record.Record.TheVariants as record_
use Rattle.kp_entry.specs.Log.{term_of}
use Rattle.kp_raft.specs.declared.event.RaftEvent.{RaftEvent}
use Rattle.kp_raft.specs.declared.event.RaftEvent.TheVariants as raft
use Rattle.kp_raft.specs.declared.mail.Mail.TheVariants as mail
use Rattle.kp_raft.specs.Numbers.{set_at}
use Rattle.kp_raft.specs.Parts.{Outcome, nothing}
use Rattle.kp_raft.specs.Appends.{on_compact}
use Rattle.kp_raft.specs.Steps.{react}
use Rattle.kp_step.specs.Node.{Node, Images, unapplied}
use Rattle.kp_step.specs.Applying.{upcoming}
use Rattle.kp_step.specs.Asking.{Input, idle, asks, appends, reacted, installed, own_image}
use Rattle.kp_step.specs.Step.{Stepped, state_of, base_image}
use Rattle.kp_step.specs.Runs.{done_by}
use Rattle.kp_world.specs.Net.{Stored, full, Sent, front_behind, behind_records, is_member, has_image, no_act, taken_of, At, Comes, Does, Tears, Commits}
use Rattle.kp_world.specs.Net as net
use Rattle.kp_world.proofs.Cases.{set_at_cases, true_and}
use Rattle.kp_world.proofs.Takes.{take_whole}
use Rattle.kp_world.proofs.Views.{drop_view}
use Rattle.kp_world.proofs.Link.{no_base_front, cond_cases}
use Rattle.kp_cluster.specs.World.{Member, World, did}
use Rattle.kp_cluster.specs.Laws.{AreFaithful}
use Rattle.kp_cluster.proofs.Rules.{AllSends, Knows, Fair, timeout_fair, propose_fair, compact_knows, nothing_fair, beat_sends}
use Rattle.kp_cluster.proofs.Steps.{Made, IsOwn, IsBodies}
use Rattle.kp_cluster.proofs.Mails.{IsOf}
use Rattle.kp_cluster.proofs.Laid.{running_of, below, terms, NodeFits, Laid, Goes, Bases, Plays, whole_goes, torn_goes}
use Rattle.kp_cluster.proofs.Facts.{one, one_is, none_applied, done_most, front_most, same_image, get_at, set_twice}

-- an act of the network that a step is, and the events that make it
pub record Link {I : Type 0} (n : ℕ) (im : Images I) (w : World I) (l : Laid n im w) (k : ℕ) (x : Node) (list : List LogEntry) (e : Option LogEntry) (out : Outcome I) (taken : Option I) : Type 0 where
  pub act : net.Act I
  pub events : Option ℕ → List (net.Event I)
  pub is : (stop : Option ℕ) → net.run n (events stop) (below w l.sent) ≡ net.did (below w l.sent) k act stop
  pub plays : Plays im (terms w) k (w.members k) x list e out taken act
  pub shown : (image : I) → taken ≡ Some image → im.shows image ≡ after empty list

pub link_goes : {I : Type 0} (n : ℕ) (im : Images I) (w : World I) (l : Laid n im w) (k : ℕ) (x : Node) (runs : (w.members k).node ≡ Some x) (list : List LogEntry) (e : Option LogEntry) (out : Outcome I) (taken : Option I) (o : Stepped I)
    → Made im x e out taken o → Link n im w l k x list e out taken → (stop : Option ℕ) → Goes n im w l (did im w k list o stop)
link_goes n im w l k x runs list e out taken o made f None = whole_goes n im w l k x runs list e out taken o made f.act f.plays f.shown (f.events None) (f.is None)
link_goes n im w l k x runs list e out taken o made f (Some j) = torn_goes n im w l k x runs list e out taken o made f.act f.plays f.shown (f.events (Some j)) j (f.is (Some j))

module _ {I : Type 0} (n : ℕ) (im : Images I) (faithful : AreFaithful im) (w : World I) (l : Laid n im w) (k : ℕ) (x : Node) (runs : (w.members k).node ≡ Some x) (member : is_member n k ≡ true) where
  abbrev T : ℕ → ℕ
  T = terms w

  abbrev m : Member
  m = w.members k

  abbrev v : net.Net I
  v = below w l.sent

  abbrev IsLink : List LogEntry → Option LogEntry → Outcome I → Option I → Type 0
  IsLink list e out taken = Link n im w l k x list e out taken

  fit : NodeFits n k T m x
  fit = (l.members k).node x runs

  applied_is : x.state.applied ≡ length m.done
  applied_is = omega (arith, ap (λ (s : State). s.applied) fit.state, applied-after empty m.done, none_applied)

  base_is : m.stored.held.log.base ≡ length m.stored.front
  base_is = (l.fits.nodes k).stored.base

  react_is : (e : RaftEvent I) → react n k m.stored.held x.running e ≡ react x.members x.me x.held x.running e
  react_is e = λ i. react (sym fit.members i) (sym fit.me i) (sym fit.held i) x.running e

  old : (U : ℕ → ℕ) → ((j : ℕ) → T j ≤ U j) → 0 < x.running.leader → x.held.term ≤ U x.running.leader
  old U more pos = le_trans (fit.knows pos) (more x.running.leader)

  -- a step without a base
  pub plain_plays : (list alist : List LogEntry) (e : Option LogEntry) (out : Outcome I) (a : net.Act I) → a.out ≡ out → a.list ≡ alist → a.done ≡ done_by e m.done
      → ((U : ℕ → ℕ) → ((j : ℕ) → T j ≤ U j) → Fair (IsOf im alist list) U x.me x.held out) → Plays im T k m x list e out None a
  plain_plays list alist e out a is same done f =
      let fair : Fair (IsOf im alist list) T x.me x.held out = f T (λ j. omega arith) in
      record {
        out_is = is;
        done_is = done;
        bases = inl fair.plain;
        front = omega (arith, ap (λ (xs : List LogEntry). length xs) (no_base_front list m.stored.front out.records fair.plain), fit.front, done_most e m.done);
        knows = λ U more. subst (λ q. Knows U q x.held out) fit.me (f U more).knows;
        sends = subst (λ xs. AllSends (IsOf im xs list) out.mail) (sym same) fair.sends;
      }

  -- an event of its own
  own_steps : (own : RaftEvent I) (a : net.Act I) → net.acts n k m.stored.held x.running m.done own ≡ a → (stop : Option ℕ) → net.run n (one (At k own) stop) v ≡ net.did v k a stop
  own_steps own a e stop = one_is n v (At k own) stop
      ∙ (ap (λ b. cond b (net.acted n v k own stop (running_of m.node)) v) member
      ∙ (ap (λ z. net.acted n v k own stop (running_of z)) runs
      ∙ ap (λ z. net.did v k z stop) e))

  -- no message is made up, so this one does nothing
  abbrev quiet : RaftEvent I
  quiet = raft.Deliver (mail.InstallRep 0 0 0)

  abbrev act_of : Outcome I → List LogEntry → List LogEntry → net.Act I
  act_of out list done = record { out = out; list = list; done = done }

  none_shown : (list : List LogEntry) (taken : Option I) → taken ≡ None → (image : I) → taken ≡ Some image → im.shows image ≡ after empty list
  none_shown list taken none image e = absurd (cc (none, e))

  -- nothing is asked, or what is asked is nothing
  pub idle_link : (list : List LogEntry) (out : Outcome I) (taken : Option I) → out ≡ nothing x.running → taken ≡ None → IsLink list None out taken
  idle_link list out taken is none = subst (λ z. IsLink list None z taken) (sym is) (subst (λ z. IsLink list None (nothing x.running) z) (sym none) (record {
    act = act_of (nothing x.running) [] m.done;
    events = one (At k quiet);
    is = own_steps quiet (act_of (nothing x.running) [] m.done) refl;
    plays = plain_plays list [] None (nothing x.running) (act_of (nothing x.running) [] m.done) refl refl refl (λ U more. nothing_fair (IsOf im [] list) U x.members x.me x.held x.running (old U more));
    shown = none_shown list None refl;
  }))

  propose_link : (list : List LogEntry) (now : ℕ) (bs : List Body) → IsLink list None (react x.members x.me x.held x.running (raft.Propose now bs)) None
  propose_link list now bs =
      let a = act_of (react n k m.stored.held x.running (raft.Propose now bs)) [] m.done in
      record {
        act = a;
        events = one (At k (raft.Propose now bs));
        is = own_steps (raft.Propose now bs) a refl;
        plays = plain_plays list [] None (react x.members x.me x.held x.running (raft.Propose now bs)) a (react_is (raft.Propose now bs)) refl refl (λ U more. propose_fair (IsOf im [] list) U x.members x.me x.held x.running (old U more) now bs);
        shown = none_shown list None refl;
      }

  abbrev LinkOf : List LogEntry → Option LogEntry → Input I → Type 0
  LinkOf list e input = IsLink list e (reacted x input) (installed x input)

  -- bodies that are asked for, or none
  pub bodies_link : (list : List LogEntry) (input : Input I) → IsBodies input → LinkOf list None input
  unfolding reacted installed
  bodies_link list idle b = idle_link list (nothing x.running) None refl refl
  bodies_link list (asks raft.Timeout) b = absurd b
  bodies_link list (asks (raft.Beat i images)) b = absurd b
  bodies_link list (asks (raft.Deliver d)) b = absurd b
  bodies_link list (asks (raft.Propose now bs)) b = propose_link list now bs
  bodies_link list (asks (raft.Compact i)) b = absurd b
  bodies_link list (appends d j) b = absurd b

  -- ---- images of its own

  abbrev own_list : List LogEntry
  own_list = take x.state.applied m.done

  own_whole : own_list ≡ m.done
  own_whole = take_whole x.state.applied m.done (omega (arith, applied_is))

  own_shows : im.shows (own_image im x) ≡ after empty own_list
  own_shows = faithful.shows x.state (term_of x.held.log x.state.applied) ∙ (fit.state ∙ ap (λ xs. after empty xs) (sym own_whole))

  has : (i : ℕ) → i ≡ x.state.applied → has_image m.stored.held m.done i ≡ true
  has i e =
      let low : nat_le m.stored.held.log.base i ≡ true = let le : m.stored.held.log.base ≤ i = omega (arith, base_is, fit.front, applied_is, e) in grind (arith, nat_tests) in
      let high : nat_le i (length m.done) ≡ true = let le : i ≤ length m.done = omega (arith, applied_is, e) in grind (arith, nat_tests) in
      true_and (nat_le m.stored.held.log.base i) (nat_le i (length m.done)) low high

  timeout_link : (list : List LogEntry) → IsLink list None (react x.members x.me x.held x.running raft.Timeout) None
  timeout_link list =
      let a = act_of (react n k m.stored.held x.running raft.Timeout) [] m.done in
      record {
        act = a;
        events = one (At k raft.Timeout);
        is = own_steps raft.Timeout a refl;
        plays = plain_plays list [] None (react x.members x.me x.held x.running raft.Timeout) a (react_is raft.Timeout) refl refl (λ U more. timeout_fair (IsOf im [] list) U x.members x.me x.held x.running (old U more));
        shown = none_shown list None refl;
      }

  beat_link : (i : ℕ) (images : List I) → i ≡ x.state.applied → (c : ℕ) → images ≡ replicate c (own_image im x) → IsLink own_list None (react x.members x.me x.held x.running (raft.Beat i images)) None
  beat_link i images e c f =
      let out = react n k m.stored.held x.running (raft.Beat i images) in
      let a = act_of out (take i m.done) m.done in
      let same : take i m.done ≡ own_list = ap (λ j. take j m.done) e in
      record {
        act = a;
        events = one (At k (raft.Beat i images));
        is = own_steps (raft.Beat i images) a (ap (λ b. cond b a (no_act x.running m.done)) (has i e));
        plays = plain_plays own_list (take i m.done) None (react x.members x.me x.held x.running (raft.Beat i images)) a (react_is (raft.Beat i images)) refl refl (λ U more. record {
          plain = tt;
          knows = λ own pos. old U more pos;
          sends = beat_sends (IsOf im (take i m.done) own_list) U x.members x.me x.held x.running (old U more) i images (λ j image at.
              let is : image ≡ own_image im x = same_image c (own_image im x) image j (subst (λ z. slice_get z j ≡ Some image) f at) in
              (same, ap im.shows is ∙ own_shows));
        });
        shown = none_shown own_list None refl;
      }

  compact_link : (i : ℕ) → i ≡ x.state.applied → IsLink own_list None (react x.members x.me x.held x.running (raft.Compact i)) None
  compact_link i e =
      let out = react n k m.stored.held x.running (raft.Compact i) in
      let a = act_of out (take i m.done) m.done in
      let same : take i m.done ≡ own_list = ap (λ j. take j m.done) e in
      record {
        act = a;
        events = one (At k (raft.Compact i));
        is = own_steps (raft.Compact i) a (ap (λ b. cond b a (no_act x.running m.done)) (has i e));
        plays = record {
          out_is = react_is (raft.Compact i);
          done_is = refl;
          bases = cond_cases (λ (o : Outcome I). Bases (take i m.done) own_list (state_of im m.image (base_image im x o.records None)) o.records) (nat_lt x.held.log.base i)
              (record { records = record_.Base i (term_of x.held.log i) ∷ []; running = x.running; mail = [] }) (nothing x.running)
              (λ _. inr (same, own_shows))
              (λ _. inl tt);
          front = front_most (on_compact {I = I} x.held x.running i).records own_list m.stored.front (length m.done) (omega (arith, ap (λ (xs : List LogEntry). length xs) own_whole)) fit.front;
          knows = λ U more. subst (λ q. Knows U q x.held (on_compact {I = I} x.held x.running i)) fit.me (compact_knows (λ _. ⊥) U x.members x.me x.held x.running (old U more) i);
          sends = cond_cases (λ (o : Outcome I). AllSends (IsOf im (take i m.done) own_list) o.mail) (nat_lt x.held.log.base i)
              (record { records = record_.Base i (term_of x.held.log i) ∷ []; running = x.running; mail = [] }) (nothing x.running) (λ _. tt) (λ _. tt);
        };
        shown = none_shown own_list None refl;
      }

  pub own_link : (input : Input I) → IsOwn im x input → LinkOf own_list None input
  unfolding reacted installed
  own_link idle b = idle_link own_list (nothing x.running) None refl refl
  own_link (asks raft.Timeout) b = timeout_link own_list
  own_link (asks (raft.Beat i images)) b = beat_link i images b.0 b.1 b.2
  own_link (asks (raft.Deliver d)) b = absurd b
  own_link (asks (raft.Propose now bs)) b = propose_link own_list now bs
  own_link (asks (raft.Compact i)) b = compact_link i b
  own_link (appends d j) b = absurd b

  -- ---- an entry is applied, and bodies are asked for

  module _ (e : LogEntry) (next : upcoming x ≡ Some e) where
    abbrev more_done : List LogEntry
    more_done = m.done ++ e ∷ []

    abbrev N : net.Node
    N = record { stored = m.stored; running = Some x.running; done = more_done }

    abbrev v1 : net.Net I
    v1 = record { nodes = set_at v.nodes k N; sent = l.sent }

    below_commit : nat_lt (length m.done) x.running.commit ≡ true
    below_commit = subst (λ z. nat_lt z x.running.commit ≡ true) applied_is (tested (nat_lt x.state.applied x.running.commit) (slice_get (unapplied x) 0) next)
      where
        tested : (b : Bool) (o : Option LogEntry) → (if b then o else None) ≡ Some e → b ≡ true
        tested true o h = refl
        tested false o h = absurd cc

    entry_at : slice_get (full m.stored) (length m.done) ≡ Some e
    entry_at =
        let low : length m.stored.front ≤ length m.done = fit.front in
        get_at (full m.stored) (length m.done)
        ∙ (ap (λ z. slice_get z 0) (drop_view m.stored.front m.stored.held.log.entries (length m.done) low)
        ∙ (placed ∙ found (nat_lt x.state.applied x.running.commit) (slice_get (unapplied x) 0) next))
      where
        found : (b : Bool) (o : Option LogEntry) → (if b then o else None) ≡ Some e → o ≡ Some e
        found true o h = h
        found false o h = absurd cc

        placed : slice_get (drop (length m.done - length m.stored.front) m.stored.held.log.entries) 0 ≡ slice_get (unapplied x) 0
        placed = (λ i. slice_get (drop (sym applied_is i - sym base_is i) m.stored.held.log.entries) 0) ∙ (λ i. slice_get (drop (x.state.applied - (sym fit.held i).log.base) (sym fit.held i).log.entries) 0)

    commits : net.happens n v (Commits k) ≡ v1
    commits = ap (λ z. net.committed_at v k (running_of z) (slice_get (full m.stored) (length m.done))) runs
        ∙ (ap (λ z. net.committed_at v k (Some x.running) z) entry_at
        ∙ ap (λ b. cond b v1 v) below_commit)

    at_k : v1.nodes k ≡ N
    at_k = set_at_cases (λ z. z ≡ N) v.nodes k N k (λ _. refl) (λ no. absurd (no refl))

    committed_link : (list : List LogEntry) (own : RaftEvent I) (out0 out : Outcome I) → ((done : List LogEntry) → net.acts n k m.stored.held x.running done own ≡ act_of out0 [] done) → out0 ≡ out
        → ((U : ℕ → ℕ) → ((j : ℕ) → T j ≤ U j) → Fair (IsOf im [] list) U x.me x.held out) → IsLink list (Some e) out None
    committed_link list own out0 out is same f =
        let a = act_of out0 [] more_done in
        record {
          act = a;
          events = both;
          is = both_is;
          plays = plain_plays list [] (Some e) out a same refl refl f;
          shown = none_shown list None refl;
        }
      where
        both : Option ℕ → List (net.Event I)
        both None = Commits k ∷ Does (At k own) ∷ []
        both (Some j) = Tears (At k own) j ∷ []

        goes_to : net.steps n v1 (At k own) None ≡ net.did v1 k (act_of out0 [] more_done) None
        goes_to = ap (λ b. cond b (net.acted n v1 k own None (v1.nodes k).running) v1) member
            ∙ (ap (λ (z : net.Node). net.acted n v1 k own None z.running) at_k
            ∙ (ap (λ (z : net.Node). net.did v1 k (net.acts n k z.stored.held x.running z.done own) None) at_k
            ∙ ap (λ z. net.did v1 k z None) (is more_done)))

        twice : net.did v1 k (act_of out0 [] more_done) None ≡ net.did v k (act_of out0 [] more_done) None
        twice = λ i. record {
          nodes = (ap (λ (z : net.Node). set_at (set_at v.nodes k N) k (record { stored = behind_records [] z.stored out0.records; running = Some out0.running; done = more_done })) at_k
              ∙ set_twice v.nodes k N (record { stored = behind_records [] m.stored out0.records; running = Some out0.running; done = more_done })) i;
          sent = net.sent_with [] out0.mail ++ l.sent;
        }

        both_is : (stop : Option ℕ) → net.run n (both stop) v ≡ net.did v k (act_of out0 [] more_done) stop
        both_is None = ap (λ z. net.steps n z (At k own) None) commits ∙ (goes_to ∙ twice)
        both_is (Some j) = own_steps own (act_of out0 [] m.done) (is m.done) (Some j)

    pub commit_link : (list : List LogEntry) (input : Input I) → IsBodies input → LinkOf list (Some e) input
    unfolding reacted installed
    commit_link list idle b = committed_link list quiet (nothing x.running) (nothing x.running) (λ done. refl) refl (λ U more. nothing_fair (IsOf im [] list) U x.members x.me x.held x.running (old U more))
    commit_link list (asks raft.Timeout) b = absurd b
    commit_link list (asks (raft.Beat i images)) b = absurd b
    commit_link list (asks (raft.Deliver d)) b = absurd b
    commit_link list (asks (raft.Propose now bs)) b = committed_link list (raft.Propose now bs) (react n k m.stored.held x.running (raft.Propose now bs)) (react x.members x.me x.held x.running (raft.Propose now bs)) (λ done. refl) (react_is (raft.Propose now bs)) (λ U more. propose_fair (IsOf im [] list) U x.members x.me x.held x.running (old U more) now bs)
    commit_link list (asks (raft.Compact i)) b = absurd b
    commit_link list (appends d j) b = absurd b
