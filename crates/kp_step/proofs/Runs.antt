-- What holds of each run from its start on.
use Rattle.std.proofs.Common.{◌≡◌, ℕ, ◌+◌, ◌≤◌, Bool, true, false, cond, List, [], ◌∷◌, ◌++◌, Option, Some, None, is_some, refl, ap, sym, subst, ◌∙◌, append-nil, arith}
use Rattle.std.specs.List.{AllByRecursion}
use Rattle.std.specs.Ordering.{nat_cmp, eq_by_cmp}
use Rattle.std.specs.FinMap as map
use Rattle.kp_model.specs.LogEntry.{LogEntry}
use Rattle.kp_model.specs.State.{State}
use Rattle.kp_model.specs.Store.{after}
use Rattle.kp_entry.specs.Held.{Held}
use Rattle.kp_raft.specs.declared.mail.Mail.{Mail}
use Rattle.kp_raft.specs.Parts as raft
use Rattle.kp_event.specs.declared.event.NodeEvent.{NodeEvent}
use Rattle.kp_event.specs.declared.event.NodeEventKind.{NodeEventKind}
use Rattle.kp_event.specs.declared.event.NodeEventKind.TheVariants as kind
use Rattle.kp_wire.specs.declared.request.Request.{Request}
use Rattle.kp_conn.specs.Connection.{Connection, blank, is_over}
use Rattle.kp_step.specs.declared.seat.Seat.{Seat}
use Rattle.kp_step.specs.Choices.{Choices}
use Rattle.kp_step.specs.Node.{Node, Seats, Images, unapplied}
use Rattle.kp_step.specs.Settling.{Told, is_at_rest}
use Rattle.kp_step.specs.Applying.{upcoming}
use Rattle.kp_step.specs.Asking.{Words, reacted, installed, asked}
use Rattle.kp_step.specs.Step.{Turn, Stepped, accept_turn, commit_turn, turned, applies, node_behind, together, step}
use Rattle.kp_step.specs.Runs.{Run, begun, at_start, with_step, run, requests_of, answered_of, IsPart, NeverFall, InOrder, IsToldOn, AreToldOn, answering, IsReplay, IsResting}
use Rattle.kp_step.proofs.Tables.{no, tied, get-insert}
use Rattle.kp_step.proofs.Parts.{part_none, part_same, part_append, part_trans, ShowsIndex, falls_append, falls_at}
use Rattle.kp_step.proofs.Moving.{is_live, is_ending, is_bound, IsProper, MovesTo, Moves, still, then_moves}
use Rattle.kp_step.proofs.Serves.{unbound}
use Rattle.kp_step.proofs.Resting.{AllQuiet}
use Rattle.kp_step.proofs.Steps.{MovesOn, GoesOn, state_at, turned_on, turned_quiet, rest_ending}
use Rattle.kp_step.proofs.Advances.{asked_advances, asked_none, NoneUnlessMail}
use Rattle.kp_step.proofs.Turning.{UpBy, after_all, after_none, by_kind, turned_next, turned_up, NoneOf, replayed}

-- ---- a place of the table, since the start

-- nothing is asked of an answer
abbrev Any : Told → Type 0
Any t = Unit {0}

abbrev pub PlaceHolds : Option Seat → List Told → List Request → Type 0
PlaceHolds None told took = IsPart (answered_of told) took
PlaceHolds (Some s) told took = MovesTo Any blank told took s.connection

any_of : (P : Told → Type 0) (ts : List Told) → AllByRecursion P ts → AllByRecursion Any ts
any_of P [] h = tt
any_of P (t ∷ ts) h = (tt, any_of P ts h.1)

any_moves : (P : Told → Type 0) (a b : Connection) (ts : List Told) (us : List Request) → Moves P a ts us b → Moves Any a ts us b
any_moves P a b ts us f proper = let x = f proper in record { proper = x.proper; part = x.part; all = x.all; bound = x.bound; tells = any_of P ts x.tells }

part_front : (xs ys zs : List Request) → IsPart (xs ++ ys) zs → IsPart xs zs
part_front xs ys zs h = part_trans xs (xs ++ ys) zs (subst (λ z. IsPart z (xs ++ ys)) (append-nil xs) (part_append xs xs [] ys (part_same xs) (part_none ys))) h

nothing_more : (xs ys : List Request) (told : List Told) (ts : List Told) (us : List Request) → ts ≡ [] → us ≡ [] → IsPart (answered_of told) ys → IsPart (answered_of (told ++ ts)) (ys ++ us)
nothing_more xs ys told ts us e f h = subst (λ z. IsPart (answered_of (told ++ z)) (ys ++ us)) (sym e) (subst (λ z. IsPart (answered_of (told ++ [])) (ys ++ z)) (sym f)
    (subst (λ z. IsPart (answered_of z) (ys ++ [])) (sym (append-nil told)) (subst (IsPart (answered_of told)) (sym (append-nil ys)) h)))

place_on : (P : Told → Type 0) (o n : Option Seat) (told ts : List Told) (took us : List Request) → PlaceHolds o told took → MovesOn P o ts us n → PlaceHolds n (told ++ ts) (took ++ us)
place_on P None None told ts took us h m = nothing_more [] took told ts us m.0 m.1 h
place_on P None (Some b) told ts took us h m = absurd m
place_on P (Some a) None told ts took us h m = nothing_more [] took told ts us m.0 m.1 (part_front (answered_of told) (requests_of a.connection.queue) took h.part)
place_on P (Some a) (Some b) told ts took us h m = then_moves blank a.connection b.connection told ts took us (λ proper. h) (any_moves P a.connection b.connection ts us m) (λ e. refl)

-- ---- what holds throughout a run

pub record Holds (r : Run) : Type 0 where
  pub fits : r.node.state.applied ≤ r.node.running.commit
  pub fresh : (k : ℕ) → r.node.next ≤ k → (map.get r.node.seats k ≡ None) × ((r.told k ≡ []) × (r.took k ≡ []))
  pub places : (k : ℕ) → PlaceHolds (map.get r.node.seats k) (r.told k) (r.took k)
  pub rise : (k : ℕ) → NeverFall 0 (r.told k) r.node.state.applied
  pub quiet : AllQuiet r.node.seats
  pub replay : r.node.state ≡ after r.base r.done

-- ---- connections that aren't there yet

fresh_on : (P : Told → Type 0) (o n : Option Seat) (ts : List Told) (us : List Request) → MovesOn P o ts us n → o ≡ None → (n ≡ None) × ((ts ≡ []) × (us ≡ []))
fresh_on P None None ts us m e = (refl, m)
fresh_on P None (Some b) ts us m e = absurd m
fresh_on P (Some a) n ts us m e = no false refl (sym (ap is_some e))

nil_on : {A : Type 0} (xs ys : List A) → xs ≡ [] → ys ≡ [] → xs ++ ys ≡ []
nil_on xs ys e f = λ i. e i ++ f i

abbrev FreshAfter : Run → Turn → Type 0
FreshAfter r t = (k : ℕ) → t.node.next ≤ k → (map.get t.node.seats k ≡ None) × ((r.told k ++ t.told k ≡ []) × (r.took k ++ t.took k ≡ []))

abbrev PlacesAfter : Run → Turn → Type 0
PlacesAfter r t = (k : ℕ) → PlaceHolds (map.get t.node.seats k) (r.told k ++ t.told k) (r.took k ++ t.took k)

old_fresh : (s : State) (r : Run) (t : Turn) → Holds r → t.node.next ≡ r.node.next → GoesOn s r.node.seats t → FreshAfter r t
old_fresh s r t h e g k le = let was = h.fresh k (subst (λ z. z ≤ k) e le) in let is = fresh_on (λ u. IsToldOn s k u) (map.get r.node.seats k) (map.get t.node.seats k) (t.told k) (t.took k) (g k) was.0 in
    (is.0, (nil_on (r.told k) (t.told k) was.1.0 is.1.0, nil_on (r.took k) (t.took k) was.1.1 is.1.1))

old_places : (s : State) (r : Run) (t : Turn) → Holds r → GoesOn s r.node.seats t → PlacesAfter r t
old_places s r t h g k = place_on (λ u. IsToldOn s k u) (map.get r.node.seats k) (map.get t.node.seats k) (r.told k) (t.told k) (r.took k) (t.took k) (h.places k) (g k)

past_none : (b : Bool) (k next : ℕ) (o : Option Seat) (s : Seat) → eq_by_cmp nat_cmp k next ≡ b → next + 1 ≤ k → o ≡ None → cond b (Some s) o ≡ None
past_none true k next o s e le h = let same : k ≡ next = tied k next e in absurd (omega (arith, same, le))
past_none false k next o s e le h = h

accept_fresh : (r : Run) (draw : List ℕ) → Holds r → FreshAfter r (accept_turn r.node draw)
accept_fresh r draw h k le = let was = h.fresh k (omega (arith, le)) in (
  get-insert r.node.seats r.node.next (record { draw = draw; connection = blank }) k ∙ past_none (eq_by_cmp nat_cmp k r.node.next) k r.node.next (map.get r.node.seats k) (record { draw = draw; connection = blank }) refl le was.0,
  (nil_on (r.told k) [] was.1.0 refl, nil_on (r.took k) [] was.1.1 refl),
)

first_place : (s : Seat) (told : List Told) (took : List Request) → s.connection ≡ blank → told ≡ [] → took ≡ [] → PlaceHolds (Some s) told took
first_place s told took c e f = subst (λ z. MovesTo Any blank z took s.connection) (sym e) (subst (λ z. MovesTo Any blank [] z s.connection) (sym f) (subst (λ z. MovesTo Any blank [] [] z) (sym c) (still blank (λ h. refl))))

place_new : (b : Bool) (r : Run) (draw : List ℕ) (k : ℕ) → Holds r → eq_by_cmp nat_cmp k r.node.next ≡ b → PlaceHolds (cond b (Some (record { draw = draw; connection = blank })) (map.get r.node.seats k)) (r.told k ++ []) (r.took k ++ [])
place_new true r draw k h e = let same : k ≡ r.node.next = tied k r.node.next e in let was = h.fresh k (omega (arith, same)) in
    first_place (record { draw = draw; connection = blank }) (r.told k ++ []) (r.took k ++ []) refl (nil_on (r.told k) [] was.1.0 refl) (nil_on (r.took k) [] was.1.1 refl)
place_new false r draw k h e = subst (λ z. PlaceHolds (map.get r.node.seats k) z (r.took k ++ [])) (sym (append-nil (r.told k))) (subst (λ z. PlaceHolds (map.get r.node.seats k) (r.told k) z) (sym (append-nil (r.took k))) (h.places k))

accept_places : (r : Run) (draw : List ℕ) → Holds r → PlacesAfter r (accept_turn r.node draw)
accept_places r draw h k = subst (λ z. PlaceHolds z (r.told k ++ []) (r.took k ++ [])) (sym (get-insert r.node.seats r.node.next (record { draw = draw; connection = blank }) k)) (place_new (eq_by_cmp nat_cmp k r.node.next) r draw k h refl)

-- ---- the indexes

index_told : (s : State) (k : ℕ) (ts : List Told) → AllByRecursion (λ t. IsToldOn s k t) ts → ShowsIndex s.applied ts
index_told s k [] h = tt
index_told s k (t ∷ ts) h = (h.0.0, index_told s k ts h.1)

told_on : (s : State) (k : ℕ) (o n : Option Seat) (ts : List Told) (us : List Request) → (proper : (c : Seat) → o ≡ Some c → IsProper c.connection) → MovesOn (λ u. IsToldOn s k u) o ts us n → AreToldOn s k ts
told_on s k None None ts us p m = subst (AreToldOn s k) (sym m.0) tt
told_on s k None (Some b) ts us p m = absurd m
told_on s k (Some a) None ts us p m = subst (AreToldOn s k) (sym m.0) tt
told_on s k (Some a) (Some b) ts us p m = (m (p a refl)).tells

abbrev ProperAt : Option Seat → Type 0
ProperAt None = Unit {0}
ProperAt (Some s) = IsProper s.connection

seat_proper : (o : Option Seat) (told : List Told) (took : List Request) → PlaceHolds o told took → (s : Seat) → o ≡ Some s → IsProper s.connection
seat_proper None told took h s e = no false refl (sym (ap is_some (sym e)))
seat_proper (Some a) told took h s e = subst ProperAt e h.proper

-- ---- one event more

module _ {I : Type 0} (words : Words) (im : Images I) (ch : Choices) (r : Run) (now : ℕ) (o : raft.Outcome I) (image : Option I) (h : Holds r) where
  abbrev Turned : NodeEventKind (Mail I) → Turn
  Turned v = turned words im ch r.node now o image v

  turned_fresh : (v : NodeEventKind (Mail I)) → FreshAfter r (Turned v)
  unfolding turned
  turned_fresh v = by_kind (λ w. FreshAfter r (Turned w)) (λ draw. accept_fresh r draw h)
      (λ w old. old_fresh (state_at r.node (applies r.node w)) r (Turned w) h (turned_next words im ch r.node now o image w old) (turned_on words im ch r.node now o image w old h.quiet)) v

  turned_places : (v : NodeEventKind (Mail I)) → PlacesAfter r (Turned v)
  unfolding turned
  turned_places v = by_kind (λ w. PlacesAfter r (Turned w)) (λ draw. accept_places r draw h)
      (λ w old. old_places (state_at r.node (applies r.node w)) r (Turned w) h (turned_on words im ch r.node now o image w old h.quiet)) v

  abbrev TellsOn : NodeEventKind (Mail I) → Type 0
  TellsOn v = (k : ℕ) → AreToldOn (state_at r.node (applies r.node v)) k ((Turned v).told k)

  turned_tells : (v : NodeEventKind (Mail I)) → TellsOn v
  unfolding turned
  turned_tells v = by_kind TellsOn (λ draw k. tt)
      (λ w old k. told_on (state_at r.node (applies r.node w)) k (map.get r.node.seats k) (map.get (Turned w).node.seats k) ((Turned w).told k) ((Turned w).took k) (seat_proper (map.get r.node.seats k) (r.told k) (r.took k) (h.places k)) (turned_on words im ch r.node now o image w old h.quiet k)) v

  turned_rise : (v : NodeEventKind (Mail I)) → UpBy r.node (applies r.node v) o.running.commit (Turned v) → (k : ℕ) → NeverFall 0 (r.told k ++ (Turned v).told k) (Turned v).node.state.applied
  turned_rise v up k = falls_append 0 r.node.state.applied (Turned v).node.state.applied (r.told k) ((Turned v).told k) (h.rise k)
      (falls_at r.node.state.applied (state_at r.node (applies r.node v)).applied (Turned v).node.state.applied ((Turned v).told k) up.from up.to (index_told (state_at r.node (applies r.node v)) k ((Turned v).told k) (turned_tells v k)))

pub none_of : {I : Type 0} (words : Words) (im : Images I) (ch : Choices) (x : Node) (now : ℕ) (v : NodeEventKind (Mail I)) → NoneUnlessMail im x words ch now v → NoneOf v (installed x (asked words im ch x now v))
none_of words im ch x now (kind.Accept draw) n = n
none_of words im ch x now (kind.Client k bytes) n = n
none_of words im ch x now (kind.Hangup k) n = n
none_of words im ch x now (kind.Drain k) n = n
none_of words im ch x now (kind.Deliver m) n = tt
none_of words im ch x now kind.Timeout n = n
none_of words im ch x now kind.Beat n = n
none_of words im ch x now kind.CommitOne n = n
none_of words im ch x now kind.ExpireDue n = n
none_of words im ch x now kind.Snapshot n = n

module _ {I : Type 0} (words : Words) (im : Images I) where
  pub step_holds : (r : Run) (ch : Choices) (v : NodeEvent (Mail I)) → Holds r → Holds (with_step im r (step words im ch r.node v))
  unfolding step together
  step_holds r ch v h = let input = asked words im ch r.node v.now v.kind in let o = reacted r.node input in let image = installed r.node input in
      let a = asked_advances im r.node words ch v.now v.kind in
      let up = turned_up words im ch r.node v.now o image h.fits a.0 a.1 v.kind in record {
        fits = up.fits;
        fresh = turned_fresh words im ch r v.now o image h v.kind;
        places = turned_places words im ch r v.now o image h v.kind;
        rise = turned_rise words im ch r v.now o image h v.kind up;
        quiet = turned_quiet words im ch r.node v.now o image v.kind h.quiet;
        replay = replayed words im ch r.node v.now o r.base r.done h.replay v.kind image (none_of words im ch r.node v.now v.kind (asked_none im r.node words ch v.now v.kind));
      }

  pub run_holds : (r : Run) (es : List (Choices × NodeEvent (Mail I))) → Holds r → Holds (run words im r es)
  unfolding run
  run_holds r [] h = h
  run_holds r (e ∷ es) h = run_holds (with_step im r (step words im e.0 r.node e.1)) es (step_holds r e.0 e.1 h)

-- ---- at the start

abbrev no_seats : Seats
no_seats = map.empty

seat_none : (k : ℕ) → map.get no_seats k ≡ None
seat_none k = map.get-empty nat_cmp k

pub start_holds : (me members boot now : ℕ) (held : Held) (s : State) → s.applied ≡ held.log.base → Holds (at_start (begun me members boot now held s))
start_holds me members boot now held s e = record {
  fits = omega (arith, e);
  fresh = λ k le. (seat_none k, (refl, refl));
  places = λ k. subst (λ z. PlaceHolds z [] []) (sym (seat_none k)) refl;
  rise = λ k. omega arith;
  quiet = λ k. subst IsResting (sym (seat_none k)) tt;
  replay = after_none s;
}

-- ---- what that means

by_seat : (told : List Told) (took : List Request) (s : Seat) → MovesTo Any blank told took s.connection → is_at_rest s.connection.queue ≡ true → is_over s.connection.phase ≡ false → took ≡ answered_of told ++ requests_of s.connection.queue
unfolding is_bound
by_seat told took s h q f = h.all (unbound (is_over s.connection.phase) (is_live s.connection.phase) (is_ending s.connection.queue) f (rest_ending s.connection.queue q))

place_part : (o : Option Seat) (told : List Told) (took : List Request) → PlaceHolds o told took → IsPart (answered_of told) took
place_part None told took h = h
place_part (Some s) told took h = part_front (answered_of told) (requests_of s.connection.queue) took h.part

open_seat : (o : Option Seat) (told : List Told) (took : List Request) (s : Seat) → PlaceHolds o told took → IsResting o → o ≡ Some s → is_over s.connection.phase ≡ false → took ≡ answered_of told ++ requests_of s.connection.queue
open_seat None told took s h q e f = no false refl (sym (ap is_some (sym e)))
open_seat (Some a) told took s h q e f = by_seat told took s (subst (λ z. PlaceHolds z told took) e h) (subst IsResting e q) f

pub in_order : (r : Run) → Holds r → InOrder r
in_order r h = record {
  each = λ k s e f. open_seat (map.get r.node.seats k) (r.told k) (r.took k) s (h.places k) (h.quiet k) e f;
  part = λ k. place_part (map.get r.node.seats k) (r.told k) (r.took k) (h.places k);
  rise = h.rise;
}

pub is_replay : (r : Run) → Holds r → IsReplay r
is_replay r h = record { committed = h.replay; uncommitted = ap (λ s. after s (unapplied r.node)) h.replay ∙ sym (after_all r.base r.done (unapplied r.node)) }

-- ---- the state on which a step answers

commit_answering : {I : Type 0} (ch : Choices) (x : Node) (now : ℕ) (out : raft.Outcome I) (o : Option LogEntry) → state_at x o ≡ answering x (node_behind x out (commit_turn ch x now o).node) o
commit_answering ch x now out None = refl
commit_answering ch x now out (Some e) = refl

module _ {I : Type 0} (words : Words) (im : Images I) (ch : Choices) (x : Node) (now : ℕ) (o : raft.Outcome I) (image : Option I) where
  answering_is : (v : NodeEventKind (Mail I)) → state_at x (applies x v) ≡ answering x (node_behind x o (turned words im ch x now o image v).node) (applies x v)
  unfolding turned
  answering_is (kind.Accept draw) = refl
  answering_is (kind.Client k bytes) = refl
  answering_is (kind.Hangup k) = refl
  answering_is (kind.Drain k) = refl
  answering_is (kind.Deliver m) = refl
  answering_is kind.Timeout = refl
  answering_is kind.Beat = refl
  answering_is kind.CommitOne = commit_answering ch x now o (upcoming x)
  answering_is kind.ExpireDue = refl
  answering_is kind.Snapshot = refl

abbrev pub OneState : {I : Type 0} → Node → Stepped I → Type 0
OneState x p = (k : ℕ) → AreToldOn (answering x p.node p.applied) k (p.told k)

pub one_state : {I : Type 0} (words : Words) (im : Images I) (r : Run) (ch : Choices) (v : NodeEvent (Mail I)) → Holds r → OneState r.node (step words im ch r.node v)
unfolding step together
one_state words im r ch v h = let input = asked words im ch r.node v.now v.kind in let o = reacted r.node input in let image = installed r.node input in
    λ k. subst (λ s. AreToldOn s k ((turned words im ch r.node v.now o image v.kind).told k)) (answering_is words im ch r.node v.now o image v.kind) (turned_tells words im ch r v.now o image h v.kind k)
