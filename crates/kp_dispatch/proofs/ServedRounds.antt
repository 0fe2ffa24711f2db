-- Turns behind turns, and the end of a connection.
use Rattle.std.proofs.Common.{◌≡◌, inl, inr, ℕ, List, [], ◌∷◌, ◌++◌, sym, refl, ap, ◌∙◌, subst, ⊎_elim, append_assoc}
use Rattle.std.specs.Prelude.{◌+◌, Bool, true, Option, Some, None, Result, Ok, Err}
use Rattle.kp_turn.specs.declared.stop.StopView.{StopView}
use Rattle.kp_turn.specs.TurnSeats.{view}
use Rattle.kp_turn.specs.StopSeats.{stop_view}
use Rattle.kp_turn.specs.StopRule.{with_read}
use Rattle.kp_event.specs.declared.event.NodeEventKind.TheVariants as kind
use Rattle.kp_event.specs.declared.thought.Thought.{Thought}
use Rattle.kp_shared.specs.Letters.{Letter}
use Rattle.kp_io.specs.Faults.{one_more}
use Rattle.kp_io.specs.Streams.{Piece, Tells}
use Rattle.kp_io.specs.Streams as piece
use Rattle.kp_shared.specs.declared.plan.Step.{Step}
use Rattle.kp_shared.specs.declared.refusal.Refusal.{Refusal}
use Rattle.kp_shared.specs.declared.task.Task.TheVariants as task
use Rattle.kp_shared.specs.declared.task.Answer.TheVariants as answer
use Rattle.kp_shared.specs.Tasks.{Did, Each, InTime, Went, bad_of, bytes_of, flushed, mails_of, waiting}
use Rattle.kp_shared.specs.Plans.{IsCut, IsTurn}
use Rattle.kp_shared.specs.Nodes.{Causes, Does, ThinkAsks, TurnSeatIn, ViewIn, Whole}
use Rattle.kp_shared.specs.Posts.{Posts}
use Rattle.kp_shared.specs.Sharing.{NodeSeatIn}
use Rattle.kp_shared.proofs.Lists.{append_nil, bytes_both, does_both, does_none, each_both, flushed_after, mails_both, waiting_both}
use Rattle.kp_shared.proofs.Mailing.{posts_more, posts_none}
use Rattle.kp_dispatch.specs.declared.ends.ConnEnd.{ConnEnd}
use Rattle.kp_dispatch.specs.declared.ends.ConnEnd.TheVariants as end
use Rattle.kp_dispatch.specs.declared.rounds.Round.{Round}
use Rattle.kp_dispatch.specs.Ends.{end_for}
use Rattle.kp_dispatch.specs.Output.{WroteAll, WrotePart}
use Rattle.kp_dispatch.specs.Plans.{plan_for, round_plan}
use Rattle.kp_dispatch.specs.Rounds.{LeaveTells, RoundCut, RoundDone, RoundTells, SaysBad, SaysNoneBad, SaysOver, TurnTells, thoughts_of}
use Rattle.kp_dispatch.specs.Serving.{EndsCut, EndsWhole, Goes, ServedSo, ServedWhole, TakeTells, Turns, WroteAt, piece_at}

wrote_none : (a : Option (List ℕ)) → WroteAll a a []
wrote_none None = tt
wrote_none (Some xs) = refl

wrote_both : (a b c : Option (List ℕ)) (xs ys : List ℕ) → WroteAll a b xs → WroteAll b c ys → WroteAll a c (xs ++ ys)
wrote_both None b c xs ys u v = tt
wrote_both (Some as0) None c xs ys u v = absurd u
wrote_both (Some as0) (Some bs) None xs ys u v = absurd v
wrote_both (Some as0) (Some bs) (Some cs) xs ys u v = v ∙ ap (λ (l : List ℕ). l ++ ys) (sym (append_nil bs) ∙ u) ∙ append_assoc as0 xs ys

wrote_part : (a b c : Option (List ℕ)) (xs ys : List ℕ) → WroteAll a b xs → WrotePart b c ys → WrotePart a c (xs ++ ys)
wrote_part None b c xs ys u v = ([], tt)
wrote_part (Some as0) None c xs ys u v = absurd u
wrote_part (Some as0) (Some bs) None xs ys u v = absurd v.1
wrote_part (Some as0) (Some bs) (Some cs) xs ys u v = (v.0, v.1 ∙ ap (λ (l : List ℕ). l ++ ys) (sym (append_nil bs) ∙ u) ∙ append_assoc as0 xs ys)

tells_none : (a : Option (List Piece)) → Tells a a []
tells_none None = tt
tells_none (Some xs) = sym (append_nil xs)

tells_both : (a b c : Option (List Piece)) (xs ys : List Piece) → Tells a b xs → Tells b c ys → Tells a c (xs ++ ys)
tells_both None b c xs ys u v = tt
tells_both (Some as0) None c xs ys u v = absurd u
tells_both (Some as0) (Some bs) None xs ys u v = absurd v
tells_both (Some as0) (Some bs) (Some cs) xs ys u v = v ∙ ap (λ (l : List Piece). l ++ ys) u ∙ append_assoc as0 xs ys

wrote_at : (e : ConnEnd) (a b : Option (List ℕ)) (all : List ℕ) → WroteAll a b all → WroteAt e a b all
wrote_at end.WriteFault a b all w = ([], w)
wrote_at end.Ended a b all w = w
wrote_at (end.BadFrame at) a b all w = w
wrote_at end.ReadFault a b all w = w
wrote_at end.Stopped a b all w = w
wrote_at end.DiskFault a b all w = w
wrote_at (end.Full k n) a b all w = w
wrote_at end.Worn a b all w = w
wrote_at end.NoMemory a b all w = w

module _ {M : Type 0} where
  over_behind : (ts us : List (Thought (Letter M))) → SaysOver us → SaysOver (ts ++ us)
  over_behind ts us s = (ts ++ s.0, s.1, s.2, ap (λ (l : List (Thought (Letter M))). ts ++ l) s.3 ∙ sym (append_assoc ts s.0 (s.1 ∷ s.2)), s.4)

  bad_behind : (at : ℕ) (ts us : List (Thought (Letter M))) → SaysBad at us → SaysBad at (ts ++ us)
  bad_behind at ts us s = (ts ++ s.0, s.1, s.2, ap (λ (l : List (Thought (Letter M))). ts ++ l) s.3 ∙ sym (append_assoc ts s.0 (s.1 ∷ s.2)), s.4)

  turns_more : (conn : ℕ) (ps : List Piece) (p : Piece) (ds es : List (Did M)) → Turns conn ps ds → IsTurn (plan_for conn p) es → Turns conn (ps ++ p ∷ []) (ds ++ es)
  turns_more conn [] p ds es t u = (es, [], ap (λ (l : List (Did M)). l ++ es) t ∙ sym (append_nil es), u, refl)
  turns_more conn (q ∷ qs) p ds es t u = (t.0, t.1 ++ es, ap (λ (l : List (Did M)). l ++ es) t.2 ∙ append_assoc t.0 t.1 es, t.3, turns_more conn qs p t.1 es t.4 u)

  plan_at : (conn : ℕ) (p : Option (List ℕ)) → round_plan {M = M} conn p ≡ plan_for conn (piece_at p)
  plan_at conn None = refl
  plan_at conn (Some bytes) = refl

module _ {S M : Type 0} (may : ℕ → Type 0) where
  whole_none : (v : ViewIn S M) → Whole may v v [] []
  whole_none v = record { does = does_none v; times = tt; went = tt; leaves = refl; settled = refl }

  leaves_both : (u v w : ViewIn S M) (ts us : List (Thought (Letter M))) (ds es : List (Did M)) → Whole may u v ts ds → Whole may v w us es → flushed [] (ds ++ es) ≡ flushed [] ds ++ us
  leaves_both u v w ts us ds es a b = flushed_after ds es a.settled ∙ ap (λ (l : List (Thought (Letter M))). flushed [] ds ++ l) b.leaves

  whole_both : (u v w : ViewIn S M) (ts us : List (Thought (Letter M))) (ds es : List (Did M)) → Whole may u v ts ds → Whole may v w us es → Whole may u w (flushed [] (ds ++ es)) (ds ++ es)
  whole_both u v w ts us ds es a b = record {
    does = does_both u v w ds es a.does b.does;
    times = each_both (InTime may) ds es a.times b.times;
    went = each_both Went ds es a.went b.went;
    leaves = refl;
    settled = waiting_both [] ds es ∙ ap (λ (l : List (Thought (Letter M))). waiting l es) a.settled ∙ b.settled;
  }

  -- why a turn was cut is why the connection ends
  ends_cut : (r : Refusal) (e : ConnEnd) (w : ViewIn S M) (ds : List (Did M)) → e ≡ end_for r → Causes r w ds → EndsCut e w ds
  ends_cut r e w ds is c = ⊎_elim
      (λ x. inl (x.0, x.1, x.2, x.3, x.4, is ∙ ap end_for x.5))
      (λ y. inr (⊎_elim (λ x. inl (is ∙ ap end_for x.0, x.1, x.2)) (λ x. inr (is ∙ ap end_for x.0, x.1)) y))
      c

  module _ (conn : ℕ) (held held' : Option (List ℕ)) (faults faults' : ℕ) (s s' : NodeSeatIn S M) where
    turned : (p : Option (List ℕ)) (r : Result (Unit {0}) ConnEnd) → RoundDone may conn held held' faults faults' s s' p r → TurnTells may conn held held' faults faults' s s' p r
    turned p (Ok u) d = d
    turned p (Err e) d = inl d

    pub round_left : (p : Option (List ℕ)) (round : Round M) (r : Result (Unit {0}) ConnEnd) → RoundTells may conn p (Ok round) s.turn s'.turn → Posts (mails_of (thoughts_of round)) s.links s'.links
        → LeaveTells held held' faults faults' (thoughts_of round) r → s'.stop ≡ s.stop → TurnTells may conn held held' faults faults' s s' p r
    round_left p round r t posts left stop = turned p r (thoughts_of round, t.1, t.2, posts, left, stop)

  -- from the beginning of the call
  module _ (conn : ℕ) (told : Option (List Piece)) (ended : Bool) (reads : ℕ) (held : Option (List ℕ)) (writes : ℕ) (s : NodeSeatIn S M) where
    pub goes_none : Goes may conn told told ended ended reads reads held held writes writes s s [] []
    goes_none = record {
      tells = tells_none told;
      turns = refl;
      did = whole_none (view s.turn);
      posts = posts_none s.links;
      wrote = wrote_none held;
      none_bad = tt;
      stop = refl;
      no_read_fault = refl;
      no_write_fault = refl;
    }

    -- at a moment of the call
    module _ (told1 : Option (List Piece)) (ended1 : Bool) (reads1 : ℕ) (held1 : Option (List ℕ)) (writes1 : ℕ) (s1 : NodeSeatIn S M) (taken : List Piece) (ds : List (Did M)) where
      abbrev pub GoesNow : Type 0
      GoesNow = Goes may conn told told1 ended ended1 reads reads1 held held1 writes writes1 s s1 taken ds

      -- the stop word was looked at
      pub goes_read : GoesNow → (s2 : NodeSeatIn S M) → s2.turn ≡ s1.turn → s2.links ≡ s1.links → stop_view s2.stop ≡ stop_view s1.stop
          → Goes may conn told told1 ended ended1 reads reads1 held held1 writes writes1 s s2 taken ds
      goes_read h s2 turn links stop = record {
        tells = h.tells;
        turns = h.turns;
        did = subst (λ (t : TurnSeatIn S M). Whole may (view s.turn) (view t) (flushed [] ds) ds) (sym turn) h.did;
        posts = subst (λ l. Posts (mails_of (flushed [] ds)) s.links l) (sym links) h.posts;
        wrote = h.wrote;
        none_bad = h.none_bad;
        stop = stop ∙ h.stop;
        no_read_fault = h.no_read_fault;
        no_write_fault = h.no_write_fault;
      }

      -- all turns are whole, and the connection ends so
      ends_whole : GoesNow → (e : ConnEnd) (last : List Piece) (told2 : Option (List Piece)) (ended2 : Bool) (reads2 : ℕ) (s2 : NodeSeatIn S M) → Tells told1 told2 last
          → view s2.turn ≡ view s1.turn → s2.links ≡ s1.links → (stop_view s2.stop).sets ≡ (stop_view s1.stop).sets → (stop_view s2.stop).splits ≡ (stop_view s1.stop).splits
          → EndsWhole e last (flushed [] ds) ended2 reads reads2 writes writes1 (stop_view s.stop).reads (stop_view s2.stop).reads
          → ServedSo may conn told told2 ended ended2 reads reads2 held held1 writes writes1 s s2 e
      ends_whole h e last told2 ended2 reads2 s2 tells turn links sets splits why = (
        taken,
        last,
        ds,
        [],
        record {
          tells = tells_both told told1 told2 taken last h.tells tells;
          turns = h.turns;
          does = subst (λ (v : ViewIn S M). Does (view s.turn) v (ds ++ [])) (sym turn) (subst (λ (l : List (Did M)). Does (view s.turn) (view s1.turn) l) (sym (append_nil ds)) h.did.does);
          times = subst (λ (l : List (Did M)). Each (InTime may) l) (sym (append_nil ds)) h.did.times;
          went = h.did.went;
          posts = subst (λ l. Posts (mails_of (flushed [] ds)) s.links l) (sym links) h.posts;
          wrote = wrote_at e held held1 (bytes_of (flushed [] ds)) h.wrote;
          stop = (sets ∙ ap (λ (v : StopView). v.sets) h.stop, splits ∙ ap (λ (v : StopView). v.splits) h.stop);
          ends = inl (refl, why);
        },
      )

      pub serves_stopped : GoesNow → (s2 : NodeSeatIn S M) → s2.turn ≡ s1.turn → s2.links ≡ s1.links → stop_view s2.stop ≡ with_read true (stop_view s1.stop)
          → ServedSo may conn told told1 ended ended1 reads reads1 held held1 writes writes1 s s2 end.Stopped
      serves_stopped h s2 turn links stop = ends_whole h end.Stopped [] told1 ended1 reads1 s2 (tells_none told1) (ap view turn) links (ap (λ (v : StopView). v.sets) stop) (ap (λ (v : StopView). v.splits) stop)
          (refl, ap (λ (v : StopView). v.reads) stop ∙ ap (λ (v : StopView). v.reads + 1) h.stop)

      -- the stream ended or failed, or its piece found no memory
      pub serves_took : GoesNow → (told2 : Option (List Piece)) (ended2 : Bool) (reads2 : ℕ) (e : ConnEnd) → TakeTells told1 told2 ended1 ended2 reads1 reads2 (Err e)
          → ServedSo may conn told told2 ended ended2 reads reads2 held held1 writes writes1 s s1 e
      serves_took h told2 ended2 reads2 end.Ended t = ends_whole h end.Ended (piece.End ∷ []) told2 ended2 reads2 s1 t.0 refl refl refl refl (h.none_bad, inl (refl, t.1))
      serves_took h told2 ended2 reads2 end.NoMemory t = ends_whole h end.NoMemory (piece.Bytes t.0.0 ∷ []) told2 ended2 reads2 s1 t.0.1 refl refl refl refl (inr (t.0.0, refl))
      serves_took h told2 ended2 reads2 end.ReadFault t = ends_whole h end.ReadFault [] told2 ended2 reads2 s1 t.0 refl refl refl refl (refl, t.1 ∙ ap one_more h.no_read_fault)
      serves_took h told2 ended2 reads2 (end.BadFrame at) t = absurd t
      serves_took h told2 ended2 reads2 end.WriteFault t = absurd t
      serves_took h told2 ended2 reads2 end.Stopped t = absurd t
      serves_took h told2 ended2 reads2 end.DiskFault t = absurd t
      serves_took h told2 ended2 reads2 (end.Full k n) t = absurd t
      serves_took h told2 ended2 reads2 end.Worn t = absurd t

      -- one answer more of the stream, and one turn more
      module _ (told2 : Option (List Piece)) (ended2 : Bool) (reads2 : ℕ) (held2 : Option (List ℕ)) (writes2 : ℕ) (s2 : NodeSeatIn S M) (p : Option (List ℕ)) where
        pub goes_round : GoesNow → Tells told1 told2 (piece_at p ∷ []) → reads2 ≡ reads1 → RoundDone may conn held1 held2 writes1 writes2 s1 s2 p (Ok tt)
            → (all : List Piece) × (es : List (Did M)) × Goes may conn told told2 ended ended2 reads reads2 held held2 writes writes2 s s2 all es
        goes_round h tells quiet d =
            let ts = d.0 in let es = d.1 in let w = d.2.1 in
            let out = leaves_both (view s.turn) (view s1.turn) (view s2.turn) (flushed [] ds) ts ds es h.did w in (
              taken ++ piece_at p ∷ [],
              ds ++ es,
              record {
                tells = tells_both told told1 told2 taken (piece_at p ∷ []) h.tells tells;
                turns = turns_more conn taken (piece_at p) ds es h.turns (subst (λ (l : List (Step M)). IsTurn l es) (plan_at conn p) d.2.0);
                did = whole_both (view s.turn) (view s1.turn) (view s2.turn) (flushed [] ds) ts ds es h.did w;
                posts = subst (λ (l : List (Letter M)). Posts l s.links s2.links) (sym (ap mails_of out ∙ mails_both (flushed [] ds) ts)) (posts_more (mails_of (flushed [] ds)) (mails_of ts) s.links s1.links s2.links h.posts d.3);
                wrote = subst (λ (l : List ℕ). WroteAll held held2 l) (sym (ap bytes_of out ∙ bytes_both (flushed [] ds) ts)) (wrote_both held held1 held2 (bytes_of (flushed [] ds)) (bytes_of ts) h.wrote d.4.0);
                none_bad = subst (λ (l : List (Thought (Letter M))). SaysNoneBad l) (sym out) (each_both (λ (t : Thought (Letter M)). bad_of t.said ≡ None) (flushed [] ds) ts h.none_bad d.4.2);
                stop = ap stop_view d.5 ∙ h.stop;
                no_read_fault = quiet ∙ h.no_read_fault;
                no_write_fault = d.4.1 ∙ h.no_write_fault;
              },
            )

        -- the turn is whole, and the connection ends for what it said or for its output
        ends_round : GoesNow → Tells told1 told2 (piece_at p ∷ []) → (e : ConnEnd) (ts : List (Thought (Letter M))) (es : List (Did M)) → IsTurn (round_plan conn p) es → Whole may (view s1.turn) (view s2.turn) ts es
            → Posts (mails_of ts) s1.links s2.links → WroteAt e held held2 (bytes_of (flushed [] ds) ++ bytes_of ts) → s2.stop ≡ s1.stop
            → EndsWhole e [] (flushed [] ds ++ ts) ended2 reads reads2 writes writes2 (stop_view s.stop).reads (stop_view s2.stop).reads
            → ServedSo may conn told told2 ended ended2 reads reads2 held held2 writes writes2 s s2 e
        ends_round h tells e ts es turn w posts wrote stop why =
            let out = leaves_both (view s.turn) (view s1.turn) (view s2.turn) (flushed [] ds) ts ds es h.did w in
            let whole = whole_both (view s.turn) (view s1.turn) (view s2.turn) (flushed [] ds) ts ds es h.did w in
            let all : List Piece = taken ++ piece_at p ∷ [] in (
              all,
              [],
              ds ++ es,
              [],
              record {
                tells = subst (λ (l : List Piece). Tells told told2 l) (sym (append_nil all)) (tells_both told told1 told2 taken (piece_at p ∷ []) h.tells tells);
                turns = turns_more conn taken (piece_at p) ds es h.turns (subst (λ (l : List (Step M)). IsTurn l es) (plan_at conn p) turn);
                does = subst (λ (l : List (Did M)). Does (view s.turn) (view s2.turn) l) (sym (append_nil (ds ++ es))) whole.does;
                times = subst (λ (l : List (Did M)). Each (InTime may) l) (sym (append_nil (ds ++ es))) whole.times;
                went = whole.went;
                posts = subst (λ (l : List (Letter M)). Posts l s.links s2.links) (sym (ap mails_of out ∙ mails_both (flushed [] ds) ts)) (posts_more (mails_of (flushed [] ds)) (mails_of ts) s.links s1.links s2.links h.posts posts);
                wrote = subst (λ (l : List ℕ). WroteAt e held held2 l) (sym (ap bytes_of out ∙ bytes_both (flushed [] ds) ts)) wrote;
                stop = (ap (λ (v : StopView). v.sets) (ap stop_view stop ∙ h.stop), ap (λ (v : StopView). v.splits) (ap stop_view stop ∙ h.stop));
                ends = inl (refl, subst (λ (l : List (Thought (Letter M))). EndsWhole e [] l ended2 reads reads2 writes writes2 (stop_view s.stop).reads (stop_view s2.stop).reads) (sym out) why);
              },
            )

        done_round : GoesNow → Tells told1 told2 (piece_at p ∷ []) → (e : ConnEnd) → RoundDone may conn held1 held2 writes1 writes2 s1 s2 p (Err e)
            → ServedSo may conn told told2 ended ended2 reads reads2 held held2 writes writes2 s s2 e
        done_round h tells end.Ended d = ends_round h tells end.Ended d.0 d.1 d.2.0 d.2.1 d.3 (wrote_both held held1 held2 (bytes_of (flushed [] ds)) (bytes_of d.0) h.wrote d.4.0) d.5
            (each_both (λ (t : Thought (Letter M)). bad_of t.said ≡ None) (flushed [] ds) d.0 h.none_bad d.4.2, inr (refl, over_behind (flushed [] ds) d.0 d.4.3))
        done_round h tells (end.BadFrame at) d = ends_round h tells (end.BadFrame at) d.0 d.1 d.2.0 d.2.1 d.3 (wrote_both held held1 held2 (bytes_of (flushed [] ds)) (bytes_of d.0) h.wrote d.4.0) d.5
            (refl, bad_behind at (flushed [] ds) d.0 d.4.2)
        done_round h tells end.NoMemory d = ends_round h tells end.NoMemory d.0 d.1 d.2.0 d.2.1 d.3 (wrote_both held held1 held2 (bytes_of (flushed [] ds)) (bytes_of d.0) h.wrote d.4.0) d.5 (inl refl)
        done_round h tells end.WriteFault d = ends_round h tells end.WriteFault d.0 d.1 d.2.0 d.2.1 d.3 (wrote_part held held1 held2 (bytes_of (flushed [] ds)) (bytes_of d.0) h.wrote d.4.0) d.5
            (refl, d.4.1 ∙ ap one_more h.no_write_fault)
        done_round h tells end.ReadFault d = absurd d.4
        done_round h tells end.Stopped d = absurd d.4
        done_round h tells end.DiskFault d = absurd d.4
        done_round h tells (end.Full k n) d = absurd d.4
        done_round h tells end.Worn d = absurd d.4

        cut_round : GoesNow → Tells told1 told2 (piece_at p ∷ []) → (e : ConnEnd) → RoundCut may conn held1 held2 writes1 writes2 s1 s2 p e
            → ServedSo may conn told told2 ended ended2 reads reads2 held held2 writes writes2 s s2 e
        cut_round h tells e d = let es = d.2.0 in let b = d.2.1.1 in (
          taken,
          piece_at p ∷ [],
          ds,
          es,
          record {
            tells = tells_both told told1 told2 taken (piece_at p ∷ []) h.tells tells;
            turns = h.turns;
            does = does_both (view s.turn) (view s1.turn) (view s2.turn) ds es h.did.does b.does;
            times = each_both (InTime may) ds es h.did.times b.times;
            went = h.did.went;
            posts = subst (λ l. Posts (mails_of (flushed [] ds)) s.links l) (sym d.3) h.posts;
            wrote = wrote_at e held held2 (bytes_of (flushed [] ds)) (subst (λ (o : Option (List ℕ)). WroteAll held o (bytes_of (flushed [] ds))) (sym d.4) h.wrote);
            stop = (ap (λ (v : StopView). v.sets) (ap stop_view d.6 ∙ h.stop), ap (λ (v : StopView). v.splits) (ap stop_view d.6 ∙ h.stop));
            ends = inr (piece_at p, refl, subst (λ (l : List (Step M)). IsCut l es) (plan_at conn p) d.2.1.0, ends_cut d.0 e (view s2.turn) es d.1 b.cause);
          },
        )

        pub serves_round : GoesNow → Tells told1 told2 (piece_at p ∷ []) → (e : ConnEnd) → TurnTells may conn held1 held2 writes1 writes2 s1 s2 p (Err e)
            → ServedSo may conn told told2 ended ended2 reads reads2 held held2 writes writes2 s s2 e
        serves_round h tells e t = ⊎_elim (λ d. done_round h tells e d) (λ d. cut_round h tells e d) t

    -- the end was fixed, and then the connection was hung up
    module _ (told1 : Option (List Piece)) (ended1 : Bool) (reads1 : ℕ) (held1 : Option (List ℕ)) (writes1 : ℕ) (s1 : NodeSeatIn S M) (t : TurnSeatIn S M) where
      abbrev hung_up : NodeSeatIn S M
      hung_up = record { turn = t; stop = s1.stop; links = s1.links; told = s1.told }

      pub served_whole : (e : ConnEnd) (r : Result (Thought (Letter M)) Refusal) → ServedSo may conn told told1 ended ended1 reads reads1 held held1 writes writes1 s s1 e → ThinkAsks may (kind.Hangup conn) r s1.turn t
          → ServedWhole may conn told told1 ended ended1 reads reads1 held held1 writes writes1 s hung_up e
      served_whole e (Ok u) h k = let x = h.4 in record {
        taken = h.0;
        last = h.1;
        done = h.2;
        cut = h.3;
        fixed = view s1.turn;
        serves = record { tells = x.tells; turns = x.turns; does = x.does; times = x.times; went = x.went; posts = x.posts; wrote = x.wrote; stop = x.stop; ends = x.ends };
        hung = (task.Think record { now = k.0; kind = kind.Hangup conn }, Ok (answer.Thought u)) ∷ [];
        hangs_up = k.3;
        hangs = inl (k.0, Ok (answer.Thought u), refl, k.1);
      }
      served_whole e (Err f) h k = let x = h.4 in ⊎_elim
          (λ y. record {
            taken = h.0;
            last = h.1;
            done = h.2;
            cut = h.3;
            fixed = view s1.turn;
            serves = record { tells = x.tells; turns = x.turns; does = x.does; times = x.times; went = x.went; posts = x.posts; wrote = x.wrote; stop = x.stop; ends = x.ends };
            hung = (task.Think record { now = y.0; kind = kind.Hangup conn }, Err y.1) ∷ [];
            hangs_up = y.5;
            hangs = inl (y.0, Err y.1, refl, y.2);
          })
          (λ y. record {
            taken = h.0;
            last = h.1;
            done = h.2;
            cut = h.3;
            fixed = view s1.turn;
            serves = record { tells = x.tells; turns = x.turns; does = x.does; times = x.times; went = x.went; posts = x.posts; wrote = x.wrote; stop = x.stop; ends = x.ends };
            hung = [];
            hangs_up = y.2;
            hangs = inr (refl, y.1);
          })
          k
