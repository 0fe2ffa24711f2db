-- Whole turns, one behind the other, and the end of a call.
use Rattle.std.proofs.Common.{◌≡◌, inl, inr, ℕ, true, List, [], ◌∷◌, ◌++◌, sym, refl, ap, ◌∙◌, subst, ⊎_elim}
use Rattle.std.specs.Prelude.{Option, Result, Ok, Err}
use Rattle.kp_turn.specs.TurnSeats.{view}
use Rattle.kp_turn.specs.StopSeats.{stop_view}
use Rattle.kp_turn.specs.StopRule.{with_read}
use Rattle.kp_links.specs.declared.link.LinkSeat.{LinkSeat}
use Rattle.kp_io.specs.Faults.{one_more}
use Rattle.kp_event.specs.declared.event.NodeEventKind.{NodeEventKind}
use Rattle.kp_shared.specs.Letters.{Letter}
use Rattle.kp_shared.specs.declared.peers.Peers.{Peers}
use Rattle.kp_shared.specs.declared.refusal.Refusal.{Refusal}
use Rattle.kp_shared.specs.Posts.{Posts}
use Rattle.kp_shared.specs.Nodes.{Does, ViewIn}
use Rattle.kp_shared.specs.Tasks.{Did, Each, InTime}
use Rattle.kp_shared.specs.Sharing.{NodeSeatIn}
use Rattle.kp_shared.proofs.Lists.{append_nil, does_both, does_none, each_both}
use Rattle.kp_shared.proofs.Mailing.{posts_more, posts_none}
use Rattle.kp_worker.specs.declared.ends.NodeEnd.{NodeEnd}
use Rattle.kp_worker.specs.declared.ends.NodeEnd.TheVariants as end
use Rattle.kp_worker.specs.declared.heard.Heard.{Heard}
use Rattle.kp_worker.specs.declared.heard.LineState.{LineState}
use Rattle.kp_worker.specs.declared.note.Note.{Note}
use Rattle.kp_worker.specs.Ends.{end_for}
use Rattle.kp_worker.specs.Outside.{Outside, Tells}
use Rattle.kp_worker.specs.Notes.{mail_of, mails, note_at, notes, piece_of, pieces}
use Rattle.kp_worker.specs.Events.{Passes, asked, asked_by, delivered, fed, fed_in, kind_in, kinds, mail_alone, mail_in}
use Rattle.kp_worker.specs.Turns.{Harmless, IsTurn, KeptTells, Refused}
use Rattle.kp_worker.specs.Calls.{CallTells, Cuts, EndsSo, Gathers, LeaveTells, Lives, Releases, TurnTells, Works, flat}
use Rattle.kp_worker.proofs.Lists.{joined_both, lives_both, passes_both, receives_both, receives_none, tells_both, tells_none, tells_still}

module _ {M : Type 0} where
  fed_more : (o : Outside) (ks more : List (NodeEventKind M)) → Harmless o more → fed (ks ++ more) ≡ fed ks
  fed_more o ks more h = joined_both fed_in ks more ∙ ap (λ (l : List (NodeEventKind M)). fed ks ++ l) h.feeds ∙ append_nil (fed ks)

  mail_more : (o : Outside) (ks more : List (NodeEventKind M)) → Harmless o more → delivered (ks ++ more) ≡ delivered ks
  mail_more o ks more h = joined_both mail_in ks more ∙ ap (λ (l : List M). delivered ks ++ l) h.delivers ∙ append_nil (delivered ks)

  kinds_both : (xs ys : List (Did M)) → kinds (xs ++ ys) ≡ kinds xs ++ kinds ys
  kinds_both xs ys = joined_both (λ (d : Did M). kind_in d.0) xs ys

module _ {S M : Type 0} where
  ends_so : (e : NodeEnd) (r : Refusal) (w : ViewIn S M) (last : List (Did M)) (f f' : ℕ) → e ≡ end_for r → Refused r w last → EndsSo e w last f f'
  ends_so e r w last f f' same why = ⊎_elim
      (λ x. inl (x.0, x.1, x.2, x.4, same ∙ ap end_for x.3))
      (λ y. inr (y.0, ⊎_elim (λ x. inl (same ∙ ap end_for x.0, x.1)) (λ x. inr (inl (same ∙ ap end_for x))) y.1))
      why

module _ {S M : Type 0} (may : ℕ → Type 0) where
  works_turn : (o0 o1 o2 : Outside) (b0 b1 : ℕ → Option (List M)) (s s' : NodeSeatIn S M) (n : ℕ) (ks : List (NodeEventKind M)) → Gathers o0 o1 b0 b1 n ks
      → LeaveTells o1 o2 may s s' ks (Ok tt) → TurnTells o0 o2 b0 b1 may s s' (Ok tt)
  works_turn o0 o1 o2 b0 b1 s s' n ks g w = let t = w.0 in let more = w.1 in let r = w.8 in let h = w.4 in let whole : t ++ [] ≡ t = append_nil t in (
    t,
    record {
      does = subst (λ (l : List (Did M)). Does (view s.turn) (view s'.turn) l) (sym whole) w.5;
      times = subst (λ (l : List (Did M)). Each (InTime may) l) (sym whole) w.6;
      whole = (w.2, tt);
      takes = (
        g.takes.0,
        subst (λ (l : List (Did M)). Tells o0 o2 g.takes.0 (pieces (notes l))) (sym whole)
            (subst (λ (l : List (ℕ × Heard)). Tells o0 o2 l (pieces (notes t))) (append_nil g.takes.0) (tells_both o0 o1 o2 g.takes.0 [] [] (pieces (notes t)) g.takes.1 r.tells)),
        ap (λ (l : List (Did M)). fed (kinds l)) whole ∙ ap fed w.3 ∙ fed_more o1 ks more h ∙ g.takes.2,
      );
      receives = (g.receives.0, g.receives.1, ap (λ (l : List (Did M)). delivered (kinds l)) whole ∙ ap delivered w.3 ∙ mail_more o1 ks more h ∙ g.receives.2);
      posts = subst (λ (l : List (Did M)). Posts (mails (notes l)) s.links s'.links) (sym whole) w.7;
      lives = λ c. (o1.state c, subst (λ (l : List (NodeEventKind M)). Passes c (o0.state c) l (o1.state c)) (sym w.3) (passes_both c (o0.state c) (o1.state c) (o1.state c) ks more (g.lives c) (h.lives c)), r.lives c);
      stop = ap stop_view w.9;
      faults = r.faults ∙ g.faults;
    },
  )

  cuts_turn : (o0 o1 o2 : Outside) (b0 b1 : ℕ → Option (List M)) (s s' : NodeSeatIn S M) (n : ℕ) (ks : List (NodeEventKind M)) (e : NodeEnd) → Gathers o0 o1 b0 b1 n ks
      → LeaveTells o1 o2 may s s' ks (Err e) → Cuts o0 o2 b0 b1 may s s' e
  cuts_turn o0 o1 o2 b0 b1 s s' n ks e g w = let cut = w.2 in let h = cut.3 in let more = cut.2 in subst (λ (o : Outside). Cuts o0 o b0 b1 may s s' e) (sym w.3) (record {
    cut = cut.0;
    last = cut.1;
    does = cut.5.does;
    times = cut.5.times;
    done = cut.5.done;
    planned = ks ++ more;
    begun = cut.4;
    takes = (g.takes.0, g.takes.1, fed_more o1 ks more h ∙ g.takes.2);
    receives = (g.receives.0, g.receives.1, mail_more o1 ks more h ∙ g.receives.2);
    lives = λ c. passes_both c (o0.state c) (o1.state c) (o1.state c) ks more (g.lives c) (h.lives c);
    why = ends_so e w.0 (view s'.turn) cut.1 o0.faults o1.faults w.1 cut.5.why;
    unsent = w.4;
    stop = w.5;
  })

  pub turn_ends : (o0 o1 o2 : Outside) (b0 b1 : ℕ → Option (List M)) (s s' : NodeSeatIn S M) (n : ℕ) (ks : List (NodeEventKind M)) (r : Result (Unit {0}) NodeEnd) → Gathers o0 o1 b0 b1 n ks
      → LeaveTells o1 o2 may s s' ks r → TurnTells o0 o2 b0 b1 may s s' r
  turn_ends o0 o1 o2 b0 b1 s s' n ks (Ok u) g w = works_turn o0 o1 o2 b0 b1 s s' n ks g w
  turn_ends o0 o1 o2 b0 b1 s s' n ks (Err e) g w = cuts_turn o0 o1 o2 b0 b1 s s' n ks e g w

  -- waiting failed
  pub cuts_fault : (o0 o1 : Outside) (b : ℕ → Option (List M)) (s : NodeSeatIn S M) → Tells o0 o1 [] [] → ((c : ℕ) → o1.state c ≡ o0.state c) → o1.faults ≡ one_more o0.faults → Cuts o0 o1 b b may s s end.NetFault
  cuts_fault o0 o1 b s t st f = record {
    cut = [];
    last = [];
    does = does_none (view s.turn);
    times = tt;
    done = tt;
    planned = [];
    begun = ([], refl);
    takes = ([], t, refl);
    receives = ([], receives_none b, refl);
    lives = st;
    why = inr (refl, inr (inr (refl, f)));
    unsent = refl;
    stop = refl;
  }

  pub works_none : (o : Outside) (b : ℕ → Option (List M)) (s : NodeSeatIn S M) → Works o o b b may s s []
  works_none o b s = record {
    does = does_none (view s.turn);
    times = tt;
    whole = tt;
    takes = ([], tells_none o, refl);
    receives = ([], receives_none b, refl);
    posts = posts_none s.links;
    lives = λ c. refl;
    stop = refl;
    faults = refl;
  }

  pub works_both : (o0 o1 o2 : Outside) (b0 b1 b2 : ℕ → Option (List M)) (s m s' : NodeSeatIn S M) (xs ys : List (List (Did M))) → Works o0 o1 b0 b1 may s m xs → Works o1 o2 b1 b2 may m s' ys
      → Works o0 o2 b0 b2 may s s' (xs ++ ys)
  works_both o0 o1 o2 b0 b1 b2 s m s' xs ys a b = let ds = flat xs in let es = flat ys in let all : flat (xs ++ ys) ≡ ds ++ es = joined_both (λ (t : List (Did M)). t) xs ys in
      let ns : notes (flat (xs ++ ys)) ≡ notes ds ++ notes es = ap notes all ∙ joined_both note_at ds es in
      let ks : kinds (flat (xs ++ ys)) ≡ kinds ds ++ kinds es = ap kinds all ∙ kinds_both ds es in record {
        does = subst (λ (l : List (Did M)). Does (view s.turn) (view s'.turn) l) (sym all) (does_both (view s.turn) (view m.turn) (view s'.turn) ds es a.does b.does);
        times = subst (λ (l : List (Did M)). Each (InTime may) l) (sym all) (each_both (InTime may) ds es a.times b.times);
        whole = each_both IsTurn xs ys a.whole b.whole;
        takes = (
          a.takes.0 ++ b.takes.0,
          subst (λ (l : List (ℕ × List ℕ)). Tells o0 o2 (a.takes.0 ++ b.takes.0) l) (sym (ap pieces ns ∙ joined_both (λ (n : Note M). piece_of n.mark n.thought) (notes ds) (notes es)))
              (tells_both o0 o1 o2 a.takes.0 b.takes.0 (pieces (notes ds)) (pieces (notes es)) a.takes.1 b.takes.1),
          ap fed ks ∙ joined_both fed_in (kinds ds) (kinds es) ∙ ap (λ (l : List (NodeEventKind M)). l ++ fed (kinds es)) a.takes.2 ∙ ap (λ (l : List (NodeEventKind M)). asked a.takes.0 ++ l) b.takes.2
              ∙ sym (joined_both (λ (h : ℕ × Heard). asked_by h.0 h.1) a.takes.0 b.takes.0),
        );
        receives = (
          a.receives.0 ++ b.receives.0,
          receives_both b0 b1 b2 a.receives.0 b.receives.0 a.receives.1 b.receives.1,
          ap delivered ks ∙ joined_both mail_in (kinds ds) (kinds es) ∙ ap (λ (l : List M). l ++ delivered (kinds es)) a.receives.2 ∙ ap (λ (l : List M). mail_alone a.receives.0 ++ l) b.receives.2
              ∙ sym (joined_both (λ (h : ℕ × M). h.1 ∷ []) a.receives.0 b.receives.0),
        );
        posts = subst (λ (l : List (Letter M)). Posts l s.links s'.links) (sym (ap mails ns ∙ joined_both (λ (n : Note M). mail_of n.thought) (notes ds) (notes es)))
            (posts_more (mails (notes ds)) (mails (notes es)) s.links m.links s'.links a.posts b.posts);
        lives = λ c. lives_both c (o0.state c) (o1.state c) (o2.state c) xs ys (a.lives c) (b.lives c);
        stop = b.stop ∙ a.stop;
        faults = b.faults ∙ a.faults;
      }

  -- a look at the stop word, and maybe a wait, between turns
  pub works_still : (o0 o1 o2 : Outside) (b0 b1 : ℕ → Option (List M)) (s m s' : NodeSeatIn S M) (xs : List (List (Did M))) → Works o0 o1 b0 b1 may s m xs
      → Tells o1 o2 [] [] → ((c : ℕ) → o2.state c ≡ o1.state c) → o2.faults ≡ o1.faults → s'.turn ≡ m.turn → s'.links ≡ m.links → stop_view s'.stop ≡ stop_view m.stop → Works o0 o2 b0 b1 may s s' xs
  works_still o0 o1 o2 b0 b1 s m s' xs a t st f turn links stop = record {
    does = subst (λ x. Does (view s.turn) (view x) (flat xs)) (sym turn) a.does;
    times = a.times;
    whole = a.whole;
    takes = (a.takes.0, tells_still o0 o1 o2 a.takes.0 (pieces (notes (flat xs))) a.takes.1 t, a.takes.2);
    receives = a.receives;
    posts = subst (λ (x : Peers (LinkSeat M)). Posts (mails (notes (flat xs))) s.links x) (sym links) a.posts;
    lives = λ c. subst (λ (x : LineState). Lives c (o0.state c) xs x) (sym (st c)) (a.lives c);
    stop = stop ∙ a.stop;
    faults = f ∙ a.faults;
  }

  -- what may leave of a turn that was kept has left
  pub leave_ok : {A : Type 0} (items : A → List (Note M)) (o o' : Outside) (s s' : NodeSeatIn S M) (ks : List (NodeEventKind M)) (v : A) → KeptTells may s.turn s'.turn items o ks (Ok v)
      → Posts (mails (items v)) s.links s'.links → Releases o o' (items v) → s'.stop ≡ s.stop → LeaveTells o o' may s s' ks (Ok tt)
  leave_ok items o o' s s' ks v k p r stop = (k.0, k.1, k.2, k.3, k.4, k.6, k.7, subst (λ (l : List (Note M)). Posts (mails l) s.links s'.links) k.5 p, subst (λ (l : List (Note M)). Releases o o' l) k.5 r, stop)

  pub call_stopped : (o o1 : Outside) (b b1 : ℕ → Option (List M)) (s m s' : NodeSeatIn S M) (xs : List (List (Did M))) → Works o o1 b b1 may s m xs → s'.turn ≡ m.turn → s'.links ≡ m.links
      → stop_view s'.stop ≡ with_read true (stop_view m.stop) → CallTells o o1 b b1 may s s' end.Stopped
  call_stopped o o1 b b1 s m s' xs w turn links stop = (xs, m, o1, b1, w, inl (refl, refl, refl, turn, links, stop))

  pub call_cut : (o o1 o' : Outside) (b b1 b' : ℕ → Option (List M)) (s m s' : NodeSeatIn S M) (xs : List (List (Did M))) (e : NodeEnd) → Works o o1 b b1 may s m xs → Cuts o1 o' b1 b' may m s' e
      → CallTells o o' b b' may s s' e
  call_cut o o1 o' b b1 b' s m s' xs e w cut = (xs, m, o1, b1, w, inr cut)
