-- The tasks of a turn, one behind the other.
use Rattle.std.proofs.Common.{◌≡◌, inl, inr, ℕ, Bool, true, false, List, [], ◌∷◌, ◌++◌, sym, refl, ap, ◌∙◌, subst, ⊎_elim, append_assoc}
use Rattle.std.specs.Prelude.{Option, Some, None, Result, Ok, Err}
use Rattle.kp_turn.specs.TurnSeats.{view}
use Rattle.kp_event.specs.declared.event.NodeEventKind.{NodeEventKind}
use Rattle.kp_event.specs.declared.event.NodeEventKind.TheVariants as kind
use Rattle.kp_event.specs.declared.fail.KeptFail.{KeptFail}
use Rattle.kp_event.specs.declared.fail.KeptFail.TheVariants as fail
use Rattle.kp_event.specs.declared.thought.Thought.{Thought}
use Rattle.kp_shared.specs.Letters.{Letter}
use Rattle.kp_shared.specs.declared.refusal.Refusal.{Refusal}
use Rattle.kp_shared.specs.declared.refusal.Refusal.TheVariants as refusal
use Rattle.kp_shared.specs.declared.task.Task.{Task}
use Rattle.kp_shared.specs.declared.task.Task.TheVariants as task
use Rattle.kp_shared.specs.declared.task.Answer.TheVariants as answer
use Rattle.kp_shared.specs.Tasks.{Did, Each, InTime, IsThink, kind_of}
use Rattle.kp_shared.specs.Nodes.{Does, FlushTells, ThinkAsks, TurnSeatIn, ViewIn}
use Rattle.kp_shared.specs.Turns.{KeepTells}
use Rattle.kp_shared.proofs.Lists.{append_nil, does_both, does_none, each_both}
use Rattle.kp_worker.specs.declared.note.Mark.{Mark}
use Rattle.kp_worker.specs.declared.note.Note.{Note}
use Rattle.kp_worker.specs.Lists.{Begins}
use Rattle.kp_worker.specs.Outside.{Outside}
use Rattle.kp_worker.specs.Events.{kind_in, kinds}
use Rattle.kp_worker.specs.Notes.{is_end, mark_of, note_at, notes}
use Rattle.kp_worker.specs.Turns.{AllTells, BehindTells, Breaks, CommitTells, CutTells, FitsKind, FrontTells, Harmless, IsCommits, IsDone, IsMore, IsTurn, KeptTells, MoreTells, OneTells, OpenTells, Thinks, answer_of, ends_commits}
use Rattle.kp_worker.proofs.Lists.{begins_behind, begins_early, joined_both}
use Rattle.kp_worker.proofs.Gathered.{harmless_both, harmless_none, own_harmless}

abbrev list_of : {A : Type 0} → Option A → List A
list_of None = []
list_of (Some a) = a ∷ []

abbrev fail_of : Refusal → KeptFail
fail_of (refusal.Failed f) = f
fail_of refusal.Worn = fail.DiskFault

abbrev HasFailed : Refusal → Type 0
HasFailed (refusal.Failed f) = Unit {0}
HasFailed refusal.Worn = ⊥

module _ {M : Type 0} where
  kind_list : (t : Task M) → kind_in t ≡ list_of (kind_of t)
  kind_list (task.Think e) = refl
  kind_list task.Flush = refl

  kind_is : (k : NodeEventKind M) (d : Did M) → IsThink k d → kind_in d.0 ≡ k ∷ []
  kind_is k d e = kind_list d.0 ∙ ap (λ (o : Option (NodeEventKind M)). list_of o) e

  kinds_both : (xs ys : List (Did M)) → kinds (xs ++ ys) ≡ kinds xs ++ kinds ys
  kinds_both xs ys = joined_both (λ (d : Did M). kind_in d.0) xs ys

  pub notes_both : (xs ys : List (Did M)) → notes (xs ++ ys) ≡ notes xs ++ notes ys
  notes_both xs ys = joined_both note_at xs ys

  kinds_one : (xs : List (Did M)) (d : Did M) (k : NodeEventKind M) → kind_in d.0 ≡ k ∷ [] → kinds (xs ++ d ∷ []) ≡ kinds xs ++ k ∷ []
  kinds_one xs d k e = kinds_both xs (d ∷ []) ∙ ap (λ (l : List (NodeEventKind M)). kinds xs ++ l) (append_nil (kind_in d.0) ∙ e)

  notes_one : (xs : List (Did M)) (d : Did M) (n : Note M) → note_at d ≡ n ∷ [] → notes (xs ++ d ∷ []) ≡ notes xs ++ n ∷ []
  notes_one xs d n e = notes_both xs (d ∷ []) ∙ ap (λ (l : List (Note M)). notes xs ++ l) (append_nil (note_at d) ∙ e)

  notes_more : (b b1 b2 : List (Note M)) (xs : List (Did M)) (d : Did M) (n : Note M) → note_at d ≡ n ∷ [] → b1 ≡ b ++ notes xs → b2 ≡ b1 ++ n ∷ [] → b2 ≡ b ++ notes (xs ++ d ∷ [])
  notes_more b b1 b2 xs d n e p q = q ∙ ap (λ (l : List (Note M)). l ++ n ∷ []) p ∙ append_assoc b (notes xs) (n ∷ []) ∙ ap (λ (l : List (Note M)). b ++ l) (sym (notes_one xs d n e))

  did_done : (now : ℕ) (k : NodeEventKind M) (o : Option (Thought (Letter M))) → FitsKind k o → IsDone (task.Think record { now = now; kind = k }, answer_of o)
  did_done now k None f = tt
  did_done now k (Some t) f = f

  did_note : (now : ℕ) (k : NodeEventKind M) (o : Option (Thought (Letter M))) → note_at (task.Think record { now = now; kind = k }, answer_of o) ≡ record { mark = mark_of k; thought = o } ∷ []
  did_note now k None = refl
  did_note now k (Some t) = refl

  did_end : (now : ℕ) (k : NodeEventKind M) (o : Option (Thought (Letter M))) → ends_commits {M = M} (task.Think record { now = now; kind = k }, answer_of o) ≡ is_end o
  did_end now k None = refl
  did_end now k (Some t) = refl

  more_think : (ds : List (Did M)) → Each IsMore ds → Each (IsThink kind.CommitOne) ds
  more_think [] e = tt
  more_think (d ∷ ds) e = (e.0.0, more_think ds e.1)

  commits_think : (ds : List (Did M)) → IsCommits ds → Each (IsThink kind.CommitOne) ds
  commits_think ds c = subst (λ (l : List (Did M)). Each (IsThink kind.CommitOne) l) (sym c.2) (each_both (IsThink kind.CommitOne) c.0 (c.1 ∷ []) (more_think c.0 c.3) (c.4, tt))

  commits_harmless : (o : Outside) (ds : List (Did M)) → Each (IsThink kind.CommitOne) ds → Harmless o (kinds ds)
  commits_harmless o [] e = harmless_none o
  commits_harmless o (d ∷ ds) e = harmless_both o (kind_in d.0) (kinds ds) (subst (λ (l : List (NodeEventKind M)). Harmless o l) (sym (kind_is kind.CommitOne d e.0)) (own_harmless o kind.CommitOne tt)) (commits_harmless o ds e.1)

  whole_kinds : (front cs ds : List (Did M)) (ks : List (NodeEventKind M)) → kinds front ≡ ks → kinds (front ++ (cs ++ ds)) ≡ ks ++ (kinds cs ++ kinds ds)
  whole_kinds front cs ds ks e = kinds_both front (cs ++ ds) ∙ ap (λ (l : List (NodeEventKind M)). l ++ kinds (cs ++ ds)) e ∙ ap (λ (l : List (NodeEventKind M)). ks ++ l) (kinds_both cs ds)

module _ {S M : Type 0} (may : ℕ → Type 0) where
  thinks_none : (v : ViewIn S M) → Thinks may v v []
  thinks_none v = record { does = does_none v; times = tt; done = tt }

  thinks_both : (u v w : ViewIn S M) (xs ys : List (Did M)) → Thinks may u v xs → Thinks may v w ys → Thinks may u w (xs ++ ys)
  thinks_both u v w xs ys a b = record { does = does_both u v w xs ys a.does b.does; times = each_both (InTime may) xs ys a.times b.times; done = each_both IsDone xs ys a.done b.done }

  breaks_behind : (u v w : ViewIn S M) (r : Refusal) (xs ds last : List (Did M)) → Thinks may u v xs → Breaks may v w r ds last → Breaks may u w r (xs ++ ds) last
  breaks_behind u v w r xs ds last a b = let e : (xs ++ ds) ++ last ≡ xs ++ (ds ++ last) = append_assoc xs ds last in record {
    does = subst (λ (l : List (Did M)). Does u w l) (sym e) (does_both u v w xs (ds ++ last) a.does b.does);
    times = subst (λ (l : List (Did M)). Each (InTime may) l) (sym e) (each_both (InTime may) xs (ds ++ last) a.times b.times);
    done = each_both IsDone xs ds a.done b.done;
    why = b.why;
  }

  breaks_one : (u v w : ViewIn S M) (r : Refusal) (xs last : List (Did M)) → Thinks may u v xs → Breaks may v w r [] last → Breaks may u w r xs last
  breaks_one u v w r xs last a b = record { does = does_both u v w xs last a.does b.does; times = each_both (InTime may) xs last a.times b.times; done = a.done; why = b.why }

  -- the node had no memory for an event
  pub one_lacks : (s s' : TurnSeatIn S M) (k : NodeEventKind M) (m : Mark) → m ≡ mark_of k → ThinkAsks may k (Err (refusal.Failed fail.NoMemory)) s s' → OneTells may s s' k (Ok record { mark = m; thought = None })
  one_lacks s s' k m e h = ⊎_elim
      (λ x. (x.0, x.2, e, tt, subst (λ (f : KeptFail). Does (view s) (view s') ((task.Think record { now = x.0; kind = k }, Err f) ∷ [])) (sym (ap fail_of x.3)) x.5))
      (λ x. absurd (subst HasFailed x.0 tt))
      h

  pub one_refused : (s s' : TurnSeatIn S M) (k : NodeEventKind M) (r : Refusal) → ThinkAsks may k (Err r) s s' → OneTells may s s' k (Err r)
  one_refused s s' k r h = ⊎_elim
      (λ x. (
        (task.Think record { now = x.0; kind = k }, Err x.1) ∷ [],
        (refl, tt),
        ([], refl),
        record { does = x.5; times = (x.2, tt); done = tt; why = inl (task.Think record { now = x.0; kind = k }, x.1, refl, x.3, x.4) },
      ))
      (λ x. ([], tt, (k ∷ [], refl), record { does = x.2; times = tt; done = tt; why = inr (refl, inl (x.0, x.1)) }))
      h

  pub one_none : (s : TurnSeatIn S M) (k : NodeEventKind M) → OneTells may s s k (Err (refusal.Failed fail.NoMemory))
  one_none s k = ([], tt, (k ∷ [], refl), record { does = does_none (view s); times = tt; done = tt; why = inr (refl, inr refl) })

  one_thinks : (s s' : TurnSeatIn S M) (k : NodeEventKind M) (n : Note M) → OneTells may s s' k (Ok n)
      → (d : Did M) × IsThink k d × (kind_in d.0 ≡ k ∷ []) × (note_at d ≡ n ∷ []) × (ends_commits d ≡ is_end n.thought) × Thinks may (view s) (view s') (d ∷ [])
  one_thinks s s' k n h = (
    (task.Think record { now = h.0; kind = k }, answer_of n.thought),
    refl,
    refl,
    did_note h.0 k n.thought ∙ ap (λ (m : Mark). record { mark = m; thought = n.thought } ∷ []) (sym h.2),
    did_end h.0 k n.thought,
    record { does = h.4; times = (h.1, tt); done = (did_done h.0 k n.thought h.3, tt) },
  )

  pub all_none : (s : TurnSeatIn S M) (b : List (Note M)) → AllTells may s s b b [] (Ok tt)
  all_none s b = ([], refl, sym (append_nil b), thinks_none (view s))

  pub all_go : (s m s' : TurnSeatIn S M) (b b1 b2 : List (Note M)) (done : List (NodeEventKind M)) (k : NodeEventKind M) (e : Bool) → AllTells may s m b b1 done (Ok tt) → MoreTells may m s' b1 b2 k (Ok e)
      → AllTells may s s' b b2 (done ++ k ∷ []) (Ok tt)
  all_go s m s' b b1 b2 done k e a h = let t = one_thinks m s' k h.0 h.3 in (
    a.0 ++ t.0 ∷ [],
    kinds_one a.0 t.0 k t.2 ∙ ap (λ (l : List (NodeEventKind M)). l ++ k ∷ []) a.1,
    notes_more b b1 b2 a.0 t.0 h.0 t.3 a.2 h.1,
    thinks_both (view s) (view m) (view s') a.0 (t.0 ∷ []) a.3 t.5,
  )

  pub all_halt : (s m s' : TurnSeatIn S M) (b b1 b2 b3 : List (Note M)) (done rest ks : List (NodeEventKind M)) (k : NodeEventKind M) (r : Refusal) → done ++ k ∷ rest ≡ ks
      → AllTells may s m b b1 done (Ok tt) → MoreTells may m s' b1 b2 k (Err r) → AllTells may s s' b b3 ks (Err r)
  all_halt s m s' b b1 b2 b3 done rest ks k r e a h = let more = h.2.0 in
      let first : (k ∷ []) ++ rest ≡ kinds h.0 ++ (more ++ rest) = ap (λ (l : List (NodeEventKind M)). l ++ rest) h.2.1 ∙ append_assoc (kinds h.0) more rest in
      let all : kinds (a.0 ++ h.0) ≡ done ++ kinds h.0 = kinds_both a.0 h.0 ∙ ap (λ (l : List (NodeEventKind M)). l ++ kinds h.0) a.1 in (
        a.0,
        h.0,
        (more ++ rest, sym e ∙ ap (λ (l : List (NodeEventKind M)). done ++ l) first ∙ sym (append_assoc done (kinds h.0) (more ++ rest)) ∙ ap (λ (l : List (NodeEventKind M)). l ++ (more ++ rest)) (sym all)),
        breaks_one (view s) (view m) (view s') r a.0 h.0 a.3 h.3,
      )

  -- commits of which none was the last
  abbrev pub SoFar : TurnSeatIn S M → TurnSeatIn S M → List (Note M) → List (Note M) → Type 0
  SoFar s s' b b' = (ds : List (Did M)) × Each IsMore ds × (b' ≡ b ++ notes ds) × Thinks may (view s) (view s') ds

  pub commits_none : (s : TurnSeatIn S M) (b : List (Note M)) → SoFar s s b b
  commits_none s b = ([], tt, sym (append_nil b), thinks_none (view s))

  pub commits_go : (s m s' : TurnSeatIn S M) (b b1 b2 : List (Note M)) (e : Bool) → SoFar s m b b1 → MoreTells may m s' b1 b2 kind.CommitOne (Ok e) → e ≡ false → SoFar s s' b b2
  commits_go s m s' b b1 b2 e a h none = let t = one_thinks m s' kind.CommitOne h.0 h.3 in (
    a.0 ++ t.0 ∷ [],
    each_both IsMore a.0 (t.0 ∷ []) a.1 ((t.1, t.4 ∙ sym h.2 ∙ none), tt),
    notes_more b b1 b2 a.0 t.0 h.0 t.3 a.2 h.1,
    thinks_both (view s) (view m) (view s') a.0 (t.0 ∷ []) a.3 t.5,
  )

  pub commits_end : (s m s' : TurnSeatIn S M) (b b1 b2 : List (Note M)) (e : Bool) → SoFar s m b b1 → MoreTells may m s' b1 b2 kind.CommitOne (Ok e) → e ≡ true → CommitTells may s s' b b2 (Ok tt)
  commits_end s m s' b b1 b2 e a h all = let t = one_thinks m s' kind.CommitOne h.0 h.3 in (
    a.0 ++ t.0 ∷ [],
    (a.0, t.0, refl, a.1, t.1, t.4 ∙ sym h.2 ∙ all),
    notes_more b b1 b2 a.0 t.0 h.0 t.3 a.2 h.1,
    thinks_both (view s) (view m) (view s') a.0 (t.0 ∷ []) a.3 t.5,
  )

  pub commits_halt : (s m s' : TurnSeatIn S M) (b b1 b2 b3 : List (Note M)) (r : Refusal) → SoFar s m b b1 → MoreTells may m s' b1 b2 kind.CommitOne (Err r) → CommitTells may s s' b b3 (Err r)
  commits_halt s m s' b b1 b2 b3 r a h = (a.0, h.0, each_both (IsThink kind.CommitOne) a.0 h.0 (more_think a.0 a.1) h.1, breaks_one (view s) (view m) (view s') r a.0 h.0 a.3 h.3)

  pub front_cut : (s s' : TurnSeatIn S M) (o : Outside) (b b1 : List (Note M)) (ks : List (NodeEventKind M)) (r : Refusal) → AllTells may s s' b b1 ks (Err r) → CutTells may s s' o ks r
  front_cut s s' o b b1 ks r a = (a.0, a.1, [], harmless_none o, begins_early (kinds (a.0 ++ a.1)) ks [] a.2, a.3)

  pub front_ends : (s m s' : TurnSeatIn S M) (o : Outside) (b b1 b2 : List (Note M)) (ks : List (NodeEventKind M)) (r : Result (Unit {0}) Refusal) → b ≡ [] → AllTells may s m b b1 ks (Ok tt) → CommitTells may m s' b1 b2 r
      → FrontTells may s s' o ks b2 r
  front_ends s m s' o b b1 b2 ks (Ok u) none a c = (
    a.0,
    c.0,
    a.1,
    c.1,
    c.2 ∙ ap (λ (l : List (Note M)). l ++ notes c.0) (a.2 ∙ ap (λ (l : List (Note M)). l ++ notes a.0) none) ∙ sym (notes_both a.0 c.0),
    thinks_both (view s) (view m) (view s') a.0 c.0 a.3 c.3,
  )
  front_ends s m s' o b b1 b2 ks (Err r) none a c = let cs = kinds (c.0 ++ c.1) in (
    a.0 ++ c.0,
    c.1,
    cs,
    commits_harmless o (c.0 ++ c.1) c.2,
    ([], sym (append_nil (kinds ((a.0 ++ c.0) ++ c.1)) ∙ ap kinds (append_assoc a.0 c.0 c.1) ∙ kinds_both a.0 (c.0 ++ c.1) ∙ ap (λ (l : List (NodeEventKind M)). l ++ cs) a.1)),
    breaks_behind (view s) (view m) (view s') r a.0 c.0 c.1 a.3 c.3,
  )

  pub behind_ends : (s s' : TurnSeatIn S M) (o : Outside) (b b' : List (Note M)) (ks : List (NodeEventKind M)) (r : Result (Unit {0}) Refusal) → Harmless o ks → AllTells may s s' b b' ks r → BehindTells may s s' o b b' r
  behind_ends s s' o b b' ks (Ok u) h a = (a.0, subst (λ (l : List (NodeEventKind M)). Harmless o l) (sym a.1) h, a.2, a.3)
  behind_ends s s' o b b' ks (Err r) h a = (a.0, a.1, ks, h, a.2, a.3)

  pub open_ends : (s m s' : TurnSeatIn S M) (o : Outside) (b b' : List (Note M)) (ks : List (NodeEventKind M)) (r : Result (Unit {0}) Refusal) → FrontTells may s m o ks b (Ok tt) → BehindTells may m s' o b b' r
      → OpenTells may s s' o ks b' r
  open_ends s m s' o b b' ks (Ok u) a h = let front = a.0 in let cs = a.1 in let ds = h.0 in let e : (front ++ cs) ++ ds ≡ front ++ (cs ++ ds) = append_assoc front cs ds in (
    front,
    cs,
    ds,
    a.2,
    a.3,
    h.1,
    h.2 ∙ ap (λ (l : List (Note M)). l ++ notes ds) a.4 ∙ sym (notes_both (front ++ cs) ds) ∙ ap notes e,
    subst (λ (l : List (Did M)). Thinks may (view s) (view s') l) e (thinks_both (view s) (view m) (view s') (front ++ cs) ds a.5 h.3),
  )
  open_ends s m s' o b b' ks (Err r) a h = let front = a.0 in let cs = a.1 in let ds = h.0 in let last = h.1 in let more = h.2 in
      let all : kinds (((front ++ cs) ++ ds) ++ last) ≡ ks ++ (kinds cs ++ kinds (ds ++ last)) = ap kinds (append_assoc (front ++ cs) ds last ∙ append_assoc front cs (ds ++ last))
      ∙ kinds_both front (cs ++ (ds ++ last)) ∙ ap (λ (l : List (NodeEventKind M)). l ++ kinds (cs ++ (ds ++ last))) a.2 ∙ ap (λ (l : List (NodeEventKind M)). ks ++ l) (kinds_both cs (ds ++ last)) in (
        (front ++ cs) ++ ds,
        last,
        kinds cs ++ more,
        harmless_both o (kinds cs) more (commits_harmless o cs (commits_think cs a.3)) h.3,
        subst (λ (l : List (NodeEventKind M)). Begins l (ks ++ (kinds cs ++ more))) (sym all) (begins_behind ks (kinds cs ++ kinds (ds ++ last)) (kinds cs ++ more) (begins_behind (kinds cs) (kinds (ds ++ last)) more h.4)),
        breaks_behind (view s) (view m) (view s') r (front ++ cs) ds last a.5 h.5,
      )

  kept_whole : (s m s' : TurnSeatIn S M) (o : Outside) (b : List (Note M)) (ks : List (NodeEventKind M)) (n : ℕ) → OpenTells may s m o ks b (Ok tt) → FlushTells (Ok n) m s'
      → (t : List (Did M)) × (more : List (NodeEventKind M)) × IsTurn t × (kinds t ≡ ks ++ more) × Harmless o more × (b ≡ notes t) × Does (view s) (view s') t × Each (InTime may) t
  kept_whole s m s' o b ks n a f = let front = a.0 in let cs = a.1 in let ds = a.2 in let xs = front ++ (cs ++ ds) in let end_ : List (Did M) = (task.Flush, Ok (answer.Kept n)) ∷ [] in (
    xs ++ end_,
    kinds cs ++ kinds ds,
    record { front = front; commits = cs; behind = ds; number = n; parts = refl; done = a.7.done; committed = a.4 },
    kinds_both xs end_ ∙ append_nil (kinds xs) ∙ whole_kinds front cs ds ks a.3,
    harmless_both o (kinds cs) (kinds ds) (commits_harmless o cs (commits_think cs a.4)) a.5,
    a.6 ∙ sym (notes_both xs end_ ∙ append_nil (notes xs)),
    does_both (view s) (view m) (view s') xs end_ a.7.does f,
    each_both (InTime may) xs end_ a.7.times (tt, tt),
  )

  kept_cut : (s m s' : TurnSeatIn S M) (o : Outside) (b : List (Note M)) (ks : List (NodeEventKind M)) (r : Refusal) → OpenTells may s m o ks b (Ok tt) → FlushTells (Err r) m s' → CutTells may s s' o ks r
  kept_cut s m s' o b ks r a f = let front = a.0 in let cs = a.1 in let ds = a.2 in let xs = front ++ (cs ++ ds) in let more = kinds cs ++ kinds ds in
      let h = harmless_both o (kinds cs) (kinds ds) (commits_harmless o cs (commits_think cs a.4)) a.5 in
      let all : kinds xs ≡ ks ++ more = whole_kinds front cs ds ks a.3 in
      let none : kinds (xs ++ []) ≡ kinds xs = ap kinds (append_nil xs) in
      let quiet : Begins (kinds (xs ++ [])) (ks ++ more) = ([], sym (append_nil (kinds (xs ++ [])) ∙ none ∙ all)) in
      ⊎_elim
      (λ x. let last : List (Did M) = (task.Flush, Err x.1) ∷ [] in (
        xs,
        last,
        more,
        h,
        ([], sym (append_nil (kinds (xs ++ last)) ∙ kinds_both xs last ∙ append_nil (kinds xs) ∙ all)),
        breaks_one (view s) (view m) (view s') r xs last a.7 record { does = x.5; times = (tt, tt); done = tt; why = inl (task.Flush, x.1, refl, x.3, x.4) },
      ))
      (λ y. ⊎_elim
      (λ x. (xs, [], more, h, quiet, breaks_one (view s) (view m) (view s') r xs [] a.7 record { does = x.2; times = tt; done = tt; why = inr (refl, inl (x.0, x.1)) }))
      (λ x. (xs, [], more, h, quiet, breaks_one (view s) (view m) (view s') r xs [] a.7 record { does = x.1; times = tt; done = tt; why = inr (refl, inr x.0) }))
      y)
      f

  pub turn_kept : {A : Type 0} (items : A → List (Note M)) (s m s' : TurnSeatIn S M) (o : Outside) (v : A) (ks : List (NodeEventKind M)) (r : Result A Refusal) → OpenTells may s m o ks (items v) (Ok tt) → KeepTells v r m s'
      → KeptTells may s s' items o ks r
  turn_kept items s m s' o v ks (Ok kept) a f = subst (λ x. KeptTells may s s' items o ks (Ok x)) (sym f.0) (kept_whole s m s' o (items v) ks f.1 a f.2)
  turn_kept items s m s' o v ks (Err r) a f = kept_cut s m s' o (items v) ks r a f
