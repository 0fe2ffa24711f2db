-- What leaves of a turn, one thought behind the other.
use Rattle.std.proofs.Common.{◌≡◌, ◌+◌, ◌≤◌, ℕ, zero, suc, List, [], ◌∷◌, ◌++◌, length, refl, sym, ap, ◌∙◌, subst, arith}
use Rattle.std.proofs.lemmas.List.{length-append}
use Rattle.std.specs.Prelude.{Option, None, Ok, Err}
use Rattle.kp_links.specs.declared.link.LinkSeat.{LinkSeat}
use Rattle.kp_event.specs.declared.event.NodeEventKind.{NodeEventKind}
use Rattle.kp_event.specs.declared.event.NodeEventKind.TheVariants as kind
use Rattle.kp_event.specs.declared.fail.KeptFail.TheVariants as fail
use Rattle.kp_event.specs.declared.said.Said.{Said}
use Rattle.kp_event.specs.declared.said.Said.TheVariants as said
use Rattle.kp_event.specs.Kinds.{row_of_kind, row_of_said}
use Rattle.kp_shared.specs.Letters.{Letter}
use Rattle.kp_shared.specs.declared.peers.Peers.{Peers}
use Rattle.kp_shared.specs.declared.task.Task.TheVariants as task
use Rattle.kp_shared.specs.declared.task.Answer.TheVariants as answer
use Rattle.kp_shared.specs.Posts.{Posts}
use Rattle.kp_shared.specs.Tasks.{Did, Each}
use Rattle.kp_shared.proofs.Lists.{append_nil}
use Rattle.kp_shared.proofs.Mailing.{posts_more}
use Rattle.kp_worker.specs.declared.heard.LineState.{LineState}
use Rattle.kp_worker.specs.declared.note.Note.{Note}
use Rattle.kp_worker.specs.Outside.{Outside, Stays, Tells}
use Rattle.kp_worker.specs.Events.{draw_in, draws, kind_in, kinds}
use Rattle.kp_worker.specs.Notes.{after_note, ending, ends, mail_of, mails, note_at, notes, one_where, opened_by, opening, openings, opens, piece_of, pieces}
use Rattle.kp_worker.specs.Turns.{IsDone, IsTurn}
use Rattle.kp_worker.specs.Calls.{Releases, ReleasesOne}
use Rattle.kp_worker.proofs.Lists.{joined_both, none_more, openings_both, reached_both, tells_both, tells_none, tells_still}

pub plus_none : (a b : ℕ) → a ≡ b → a + 0 ≡ b
plus_none a b e = omega arith

pub releases_said : (o0 o1 o2 o3 : Outside) (ps : List (ℕ × List ℕ)) (new over : Option ℕ) → Tells o0 o1 [] [] → ((c : ℕ) → o1.state c ≡ opens c (o0.state c) new) → o1.waits + one_where new ≡ o0.waits → o1.faults ≡ o0.faults
    → Tells o1 o2 [] ps → Stays o1 o2 → Tells o2 o3 [] [] → ((c : ℕ) → o3.state c ≡ ends c (o2.state c) over) → o3.waits ≡ o2.waits → o3.faults ≡ o2.faults → ReleasesOne o0 o3 ps new over
releases_said o0 o1 o2 o3 ps new over t1 s1 w1 f1 t2 s2 t3 s3 w3 f3 = record {
  tells = tells_still o0 o2 o3 [] ps (tells_both o0 o1 o2 [] [] [] ps t1 t2) t3;
  lives = λ c. s3 c ∙ ap (λ (s : LineState). ends c s over) (s2.state c ∙ s1 c);
  waits = ap (λ (w : ℕ). w + one_where new) (w3 ∙ s2.waits) ∙ w1;
  faults = f3 ∙ s2.faults ∙ f1;
}

pub releases_starved : (o0 o1 : Outside) (over : Option ℕ) → Tells o0 o1 [] [] → ((c : ℕ) → o1.state c ≡ ends c (o0.state c) over) → o1.waits ≡ o0.waits → o1.faults ≡ o0.faults → ReleasesOne o0 o1 [] None over
releases_starved o0 o1 over t s w f = record { tells = t; lives = s; waits = plus_none o1.waits o0.waits w; faults = f }

abbrev is_zero : ℕ → Type 0
is_zero zero = Unit {0}
is_zero (suc n) = ⊥

one_one : 1 ≤ 1
one_one = omega arith

both_few : (x y m n : ℕ) → x ≤ m → y ≤ n → x + y ≤ m + n
both_few x y m n a b = omega arith

at_most : (a m n : ℕ) → a ≤ m → m ≤ n → a ≤ n
at_most a m n p q = omega arith

left_over : (a b c x y z : ℕ) → z ≡ x + (y + 0) → b + x ≡ a → c + y ≡ b → c + z ≡ a
left_over a b c x y z e f h = omega arith

left_for : (w w0 x y z all : ℕ) → w + x ≡ w0 → all ≡ x + (y + z) → all ≤ w0 → y ≤ w
left_for w w0 x y z all e f h = omega arith

module _ {M : Type 0} where
  pub releases_none : (o : Outside) → Releases {M = M} o o []
  releases_none o = record { tells = tells_none o; lives = λ c. refl; waits = plus_none o.waits o.waits refl; faults = refl }

  pub releases_more : (o0 o1 o2 : Outside) (ns : List (Note M)) (n : Note M) → Releases o0 o1 ns → ReleasesOne o1 o2 (piece_of n.mark n.thought) (opening n.thought) (ending n.mark n.thought) → Releases o0 o2 (ns ++ n ∷ [])
  releases_more o0 o1 o2 ns n a b = let one = piece_of n.mark n.thought in record {
    tells = subst (λ (l : List (ℕ × List ℕ)). Tells o0 o2 [] l) (ap (λ (l : List (ℕ × List ℕ)). pieces ns ++ l) (sym (append_nil one)) ∙ sym (joined_both (λ (x : Note M). piece_of x.mark x.thought) ns (n ∷ [])))
        (tells_both o0 o1 o2 [] [] (pieces ns) one a.tells b.tells);
    lives = λ c. b.lives c ∙ ap (λ (s : LineState). after_note c s n) (a.lives c) ∙ sym (reached_both c (o0.state c) ns (n ∷ []));
    waits = left_over o0.waits o1.waits o2.waits (openings ns) (one_where (opening n.thought)) (openings (ns ++ n ∷ [])) (openings_both ns (n ∷ [])) a.waits b.waits;
    faults = b.faults ∙ a.faults;
  }

  pub posts_note : (ns : List (Note M)) (n : Note M) (a b c : Peers (LinkSeat M)) → Posts (mails ns) a b → Posts (mail_of n.thought) b c → Posts (mails (ns ++ n ∷ [])) a c
  posts_note ns n a b c p q = subst (λ (l : List (Letter M)). Posts l a c) (ap (λ (l : List (Letter M)). mails ns ++ l) (sym (append_nil (mail_of n.thought))) ∙ sym (joined_both (λ (x : Note M). mail_of x.thought) ns (n ∷ [])))
      (posts_more (mails ns) (mail_of n.thought) a b c p q)

  -- a new connection waits for each number that is left to give
  pub waits_left : (o0 o1 : Outside) (done rest all : List (Note M)) (n : Note M) → done ++ n ∷ rest ≡ all → Releases o0 o1 done → openings all ≤ o0.waits → one_where (opening n.thought) ≤ o1.waits
  waits_left o0 o1 done rest all n e a few = left_for o1.waits o0.waits (openings done) (one_where (opening n.thought)) (openings rest) (openings all) a.waits (sym (ap openings e) ∙ openings_both done (n ∷ rest)) few

  -- a thought opens a connection only where its event is an Accept
  opened_few : (s : Said) (k : NodeEventKind M) → row_of_said s ≡ row_of_kind k → one_where (opened_by s) ≤ length (draw_in k)
  opened_few (said.Conn n) (kind.Accept d) e = one_one
  opened_few (said.Conn n) (kind.Client c b) e = absurd (subst is_zero e tt)
  opened_few (said.Conn n) (kind.Hangup c) e = absurd (subst is_zero e tt)
  opened_few (said.Conn n) (kind.Drain c) e = absurd (subst is_zero e tt)
  opened_few (said.Conn n) (kind.Deliver m) e = absurd (subst is_zero e tt)
  opened_few (said.Conn n) kind.Timeout e = absurd (subst is_zero e tt)
  opened_few (said.Conn n) kind.Beat e = absurd (subst is_zero e tt)
  opened_few (said.Conn n) kind.CommitOne e = absurd (subst is_zero e tt)
  opened_few (said.Conn n) kind.ExpireDue e = absurd (subst is_zero e tt)
  opened_few (said.Conn n) kind.Snapshot e = absurd (subst is_zero e tt)
  opened_few (said.Fed f) k e = none_more (length (draw_in k))
  opened_few (said.Hung b) k e = none_more (length (draw_in k))
  opened_few (said.Out p) k e = none_more (length (draw_in k))
  opened_few said.Raft k e = none_more (length (draw_in k))
  opened_few (said.Beat n) k e = none_more (length (draw_in k))
  opened_few (said.Done n) k e = none_more (length (draw_in k))
  opened_few (said.Expired n) k e = none_more (length (draw_in k))
  opened_few (said.Snapped n) k e = none_more (length (draw_in k))

  more_few : (k : NodeEventKind M) (ks : List (NodeEventKind M)) (x y : ℕ) → x ≤ length (draw_in k) → y ≤ length (draws ks) → x + y ≤ length (draws (k ∷ ks))
  more_few k ks x y a b = subst (λ (n : ℕ). x + y ≤ n) (sym (length-append (draw_in k) (draws ks))) (both_few x y (length (draw_in k)) (length (draws ks)) a b)

  none_few : (k : NodeEventKind M) (ks : List (NodeEventKind M)) (y : ℕ) → y ≤ length (draws ks) → 0 + y ≤ length (draws (k ∷ ks))
  none_few k ks y b = more_few k ks 0 y (none_more (length (draw_in k))) b

  openings_few : (ds : List (Did M)) → Each IsDone ds → openings (notes ds) ≤ length (draws (kinds ds))
  openings_few [] e = none_more 0
  openings_few ((task.Think e, Ok (answer.Thought t)) ∷ ds) h = more_few e.kind (kinds ds) (one_where (opened_by t.said)) (openings (notes ds)) (opened_few t.said e.kind h.0) (openings_few ds h.1)
  openings_few ((task.Think e, Ok (answer.Kept n)) ∷ ds) h = absurd h.0
  openings_few ((task.Think e, Err fail.NoMemory) ∷ ds) h = none_few e.kind (kinds ds) (openings (notes ds)) (openings_few ds h.1)
  openings_few ((task.Think e, Err fail.DiskFault) ∷ ds) h = absurd h.0
  openings_few ((task.Think e, Err (fail.Full s n)) ∷ ds) h = absurd h.0
  openings_few ((task.Think e, Err (fail.Dead w)) ∷ ds) h = absurd h.0
  openings_few ((task.Flush, a) ∷ ds) h = absurd h.0

  -- a turn opens no more connections than came, where nobody is accepted behind these events
  pub turn_few : (t : List (Did M)) (ks more : List (NodeEventKind M)) (ns : List (Note M)) (n : ℕ) → IsTurn t → kinds t ≡ ks ++ more → draws more ≡ [] → ns ≡ notes t → length (draws ks) ≤ n → openings ns ≤ n
  turn_few t ks more ns n turn ke none ne few = let xs = turn.front ++ (turn.commits ++ turn.behind) in let end_ : List (Did M) = (task.Flush, Ok (answer.Kept turn.number)) ∷ [] in
      let quiet : notes t ≡ notes xs = ap notes turn.parts ∙ joined_both note_at xs end_ ∙ append_nil (notes xs) in
      let all : kinds xs ≡ ks ++ more = sym (append_nil (kinds xs)) ∙ sym (joined_both (λ (d : Did M). kind_in d.0) xs end_) ∙ sym (ap kinds turn.parts) ∙ ke in
      let same : draws (ks ++ more) ≡ draws ks = joined_both draw_in ks more ∙ ap (λ (l : List (List ℕ)). draws ks ++ l) none ∙ append_nil (draws ks) in
      at_most (openings ns) (length (draws ks)) n (subst (λ (k : ℕ). k ≤ length (draws ks)) (sym (ap openings (ne ∙ quiet)))
      (subst (λ (l : List (List ℕ)). openings (notes xs) ≤ length l) (ap draws all ∙ same) (openings_few xs turn.done))) few
