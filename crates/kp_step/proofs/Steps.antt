-- What a step does to each connection, by the kind of its event.
use Rattle.std.proofs.Common.{◌≡◌, ℕ, Bool, true, false, cond, ◌&&◌, not, List, [], ◌∷◌, Option, Some, None, is_some, refl, ap, sym, subst, ◌∙◌}
use Rattle.std.proofs.lemmas.Cmp.{nat_cmp_total}
use Rattle.std.specs.Ordering.{nat_cmp, eq_by_cmp}
use Rattle.std.specs.FinMap as map
use Rattle.kp_model.specs.State.{State}
use Rattle.kp_model.specs.LogEntry.{LogEntry}
use Rattle.kp_model.specs.Step.{apply}
use Rattle.kp_raft.specs.declared.mail.Mail.{Mail}
use Rattle.kp_raft.specs.Parts as raft
use Rattle.kp_event.specs.declared.event.NodeEventKind.{NodeEventKind}
use Rattle.kp_event.specs.declared.event.NodeEventKind.TheVariants as kind
use Rattle.kp_wire.specs.declared.request.Request.{Request}
use Rattle.kp_wire.specs.declared.reply.WireReply.{WireReply}
use Rattle.kp_conn.specs.declared.waiting.Mark.{Mark}
use Rattle.kp_conn.specs.declared.waiting.Waiting.{Waiting}
use Rattle.kp_conn.specs.Queue.{is_close}
use Rattle.kp_conn.specs.Connection.{Connection, blank, drained, is_over}
use Rattle.kp_step.specs.declared.seat.Seat.{Seat}
use Rattle.kp_step.specs.Choices.{Choices}
use Rattle.kp_step.specs.Node.{Node, Seats, Images}
use Rattle.kp_step.specs.Settling.{Told, is_at_rest}
use Rattle.kp_step.specs.Handing.{ground, desk}
use Rattle.kp_step.specs.Tables.{Table, tabled, seated, with_row}
use Rattle.kp_step.specs.Applying.{upcoming}
use Rattle.kp_step.specs.Committing.{committed}
use Rattle.kp_step.specs.Asking.{Words, client_served, fed_end}
use Rattle.kp_step.specs.Step.{Turn, client_turn, client_table, fed_turn, drain_turn, commit_turn, raft_turn, raft_table, risen, ended, rose, with_row_if, turned, applies}
use Rattle.kp_step.specs.Runs.{IsToldOn, IsResting}
use Rattle.kp_step.proofs.Tables.{no, tied, get-insert}
use Rattle.kp_step.proofs.Moving.{is_ending, Moves, MovesAt, Goes, kept, still, row_goes, served_goes}
use Rattle.kp_step.proofs.Serves.{choose, serves-moves}
use Rattle.kp_step.proofs.Commits.{tabled_goes, committed_goes, risen_moves, ended_moves}
use Rattle.kp_step.proofs.Resting.{AllQuiet, IsQuiet, insert_quiet, raft_quiet, serves_quiet, committed_quiet}

-- what is done at a place, where no connection comes; one that goes is answered nothing
abbrev pub MovesOn : (Told → Type 0) → Option Seat → List Told → List Request → Option Seat → Type 0
MovesOn P None told took None = (told ≡ []) × (took ≡ [])
MovesOn P None told took (Some b) = ⊥
MovesOn P (Some a) told took None = (told ≡ []) × (took ≡ [])
MovesOn P (Some a) told took (Some b) = Moves P a.connection told took b.connection

stay_on : (P : Told → Type 0) (x y : Option Seat) (ts : List Told) (us : List Request) → MovesAt P x ts us y → MovesOn P x ts us y
stay_on P None None ts us h = h
stay_on P None (Some b) ts us h = h
stay_on P (Some a) None ts us h = absurd h
stay_on P (Some a) (Some b) ts us h = h

still_on : (P : Told → Type 0) (o : Option Seat) → MovesOn P o [] [] o
still_on P None = (refl, refl)
still_on P (Some s) = still s.connection

-- the state on which the step answers
abbrev pub state_at : Node → Option LogEntry → State
state_at x None = x.state
state_at x (Some e) = (apply x.state e).state

abbrev pub GoesOn : State → Seats → Turn → Type 0
GoesOn s m t = (k : ℕ) → MovesOn (λ u. IsToldOn s k u) (map.get m k) (t.told k) (t.took k) (map.get t.node.seats k)

table_on : (s : State) (m : Seats) (t : Table) → Goes (λ k u. IsToldOn s k u) m t → (k : ℕ) → MovesOn (λ u. IsToldOn s k u) (map.get m k) (t.told k) (t.took k) (map.get t.seats k)
table_on s m t g k = stay_on (λ u. IsToldOn s k u) (map.get m k) (map.get t.seats k) (t.told k) (t.took k) (g k)

-- ---- connections go

gone_at : (P : Told → Type 0) (b : Bool) (o : Option Seat) → MovesOn P o [] [] (cond b None o)
gone_at P true None = (refl, refl)
gone_at P true (Some s) = (refl, refl)
gone_at P false o = still_on P o

removed_on : (s : State) (m : Seats) (k j : ℕ) → MovesOn (λ u. IsToldOn s j u) (map.get m j) [] [] (map.get (map.remove m k) j)
removed_on s m k j = subst (MovesOn (λ u. IsToldOn s j u) (map.get m j) [] []) (sym (map.get-remove nat_cmp_total m k j)) (gone_at (λ u. IsToldOn s j u) (eq_by_cmp nat_cmp j k) (map.get m j))

set_at : (P : Told → Type 0) (b : Bool) (o : Option Seat) (s : Seat) (c : Connection) → (b ≡ true → o ≡ Some s) → Moves P s.connection [] [] c → MovesOn P o [] [] (cond b (Some (seated s c)) o)
set_at P true o s c e h = subst (λ z. MovesOn P z [] [] (Some (seated s c))) (sym (e refl)) h
set_at P false o s c e h = still_on P o

set_on : (st : State) (m : Seats) (k j : ℕ) (s : Seat) → map.get m k ≡ Some s → MovesOn (λ u. IsToldOn st j u) (map.get m j) [] [] (map.get (map.insert m k (seated s (drained s.connection))) j)
set_on st m k j s there = subst (MovesOn (λ u. IsToldOn st j u) (map.get m j) [] []) (sym (get-insert m k (seated s (drained s.connection)) j))
    (set_at (λ u. IsToldOn st j u) (eq_by_cmp nat_cmp j k) (map.get m j) s (drained s.connection) (λ e. ap (map.get m) (tied j k e) ∙ there) (kept s.connection (drained s.connection) refl refl refl))

drain_on : (x : Node) (k : ℕ) (o : Option Seat) → map.get x.seats k ≡ o → GoesOn x.state x.seats (drain_turn x k o)
drain_on x k None e j = still_on (λ u. IsToldOn x.state j u) (map.get x.seats j)
drain_on x k (Some s) e j = choose (λ m. MovesOn (λ u. IsToldOn x.state j u) (map.get x.seats j) [] [] (map.get m j)) (is_over s.connection.phase) (map.remove x.seats k) (map.insert x.seats k (seated s (drained s.connection)))
    (removed_on x.state x.seats k j) (set_on x.state x.seats k j s e)

-- ---- bytes of a client

no_end : (close : Bool) (m : Option Mark) (r : Option WireReply) → (is_some m && not (is_some r)) ≡ true → (close && is_some r) ≡ false
no_end close None r h = no false refl h
no_end true (Some m) None h = refl
no_end false (Some m) None h = refl
no_end close (Some m) (Some r) h = no false refl h

pub rest_ending : (q : List Waiting) → is_at_rest q ≡ true → is_ending q ≡ false
rest_ending [] h = refl
rest_ending (w ∷ []) h = no_end (is_close w.request.ask) w.mark w.reply h
rest_ending (w ∷ v ∷ q) h = refl

fed_on : (words : Words) (ch : Choices) (x : Node) (now k : ℕ) (bytes : List ℕ) (s : Seat) → map.get x.seats k ≡ Some s → IsQuiet s.connection → GoesOn x.state x.seats (fed_turn x now k s (fed_end s bytes) (client_served words ch x now k bytes s))
unfolding client_served
fed_on words ch x now k bytes s there h = table_on x.state x.seats (client_table x k s (client_served words ch x now k bytes s))
    (served_goes (λ j u. IsToldOn x.state j u) x.seats (tabled x.seats x.watches) k s (client_served words ch x now k bytes s) (tabled_goes (λ j u. IsToldOn x.state j u) x.seats x.watches) there
    (serves-moves (ground now x.state x) (ch.luck k) k s.draw (words x) (desk x) x.watches s.connection bytes (rest_ending s.connection.queue h)))

client_on : (words : Words) (ch : Choices) (x : Node) (now k : ℕ) (bytes : List ℕ) (o : Option Seat) → map.get x.seats k ≡ o → IsResting o → GoesOn x.state x.seats (client_turn words ch x now k bytes o)
client_on words ch x now k bytes None there h = λ j. still_on (λ u. IsToldOn x.state j u) (map.get x.seats j)
client_on words ch x now k bytes (Some s) there h = choose (GoesOn x.state x.seats) (is_over s.connection.phase) _ _ (λ j. still_on (λ u. IsToldOn x.state j u) (map.get x.seats j)) (fed_on words ch x now k bytes s there h)

-- ---- a commit, a step of Raft

commit_on : (ch : Choices) (x : Node) (now : ℕ) (o : Option LogEntry) → GoesOn (state_at x o) x.seats (commit_turn ch x now o)
commit_on ch x now None = λ j. still_on (λ u. IsToldOn x.state j u) (map.get x.seats j)
commit_on ch x now (Some e) = table_on (apply x.state e).state x.seats (committed ch x now e).table (committed_goes ch x now e)

abbrev TableGoes : State → Seats → Table → Type 0
TableGoes s m t = Goes (λ k u. IsToldOn s k u) m t

raft_on : {I : Type 0} (ch : Choices) (x : Node) (o : raft.Outcome I) (image : Option I) → TableGoes x.state x.seats (raft_table ch x o image)
unfolding raft_table
raft_on ch x o image = let t = with_row_if (rose x o) (risen ch x.state.applied) (tabled x.seats x.watches) in
    let h = choose (TableGoes x.state x.seats) (rose x o) _ _ (row_goes (λ k u. IsToldOn x.state k u) (risen ch x.state.applied) (risen_moves x.state ch) x.seats (tabled x.seats x.watches) (tabled_goes (λ k u. IsToldOn x.state k u) x.seats x.watches)) (tabled_goes (λ k u. IsToldOn x.state k u) x.seats x.watches) in
    choose (TableGoes x.state x.seats) (is_some image) (with_row ended t) t (row_goes (λ k u. IsToldOn x.state k u) ended (ended_moves (λ k u. IsToldOn x.state k u)) x.seats t h) h

-- ---- all kinds

-- where the event is no accept
abbrev pub IsOld : {M : Type 0} → NodeEventKind M → Type 0
IsOld (kind.Accept draw) = ⊥
IsOld v = Unit {0}

module _ {I : Type 0} (words : Words) (im : Images I) (ch : Choices) (x : Node) (now : ℕ) (o : raft.Outcome I) (image : Option I) where
  raft_turn_on : (v : NodeEventKind (Mail I)) → GoesOn x.state x.seats (raft_turn im ch x now v o image)
  raft_turn_on v = table_on x.state x.seats (raft_table ch x o image) (raft_on ch x o image)

  pub turned_on : (v : NodeEventKind (Mail I)) → IsOld v → AllQuiet x.seats → GoesOn (state_at x (applies x v)) x.seats (turned words im ch x now o image v)
  unfolding turned
  turned_on (kind.Accept draw) old all = absurd old
  turned_on (kind.Client k bytes) old all = client_on words ch x now k bytes (map.get x.seats k) refl (all k)
  turned_on (kind.Hangup k) old all = λ j. removed_on x.state x.seats k j
  turned_on (kind.Drain k) old all = drain_on x k (map.get x.seats k) refl
  turned_on (kind.Deliver m) old all = raft_turn_on (kind.Deliver m)
  turned_on kind.Timeout old all = raft_turn_on kind.Timeout
  turned_on kind.Beat old all = λ j. still_on (λ u. IsToldOn x.state j u) (map.get x.seats j)
  turned_on kind.CommitOne old all = commit_on ch x now (upcoming x)
  turned_on kind.ExpireDue old all = λ j. still_on (λ u. IsToldOn x.state j u) (map.get x.seats j)
  turned_on kind.Snapshot old all = λ j. still_on (λ u. IsToldOn x.state j u) (map.get x.seats j)

-- ---- at rest

abbrev TurnQuiet : Turn → Type 0
TurnQuiet t = AllQuiet t.node.seats

gone_quiet : (b : Bool) (o : Option Seat) → IsResting o → IsResting (cond b None o)
gone_quiet true o h = tt
gone_quiet false o h = h

remove_quiet : (m : Seats) (k : ℕ) → AllQuiet m → AllQuiet (map.remove m k)
remove_quiet m k all j = subst IsResting (sym (map.get-remove nat_cmp_total m k j)) (gone_quiet (eq_by_cmp nat_cmp j k) (map.get m j) (all j))

drain_quiet : (x : Node) (k : ℕ) (o : Option Seat) → IsResting o → AllQuiet x.seats → TurnQuiet (drain_turn x k o)
drain_quiet x k None h all = all
drain_quiet x k (Some s) h all = choose AllQuiet (is_over s.connection.phase) _ _ (remove_quiet x.seats k all) (insert_quiet x.seats k (seated s (drained s.connection)) all h)

client_quiet : (words : Words) (ch : Choices) (x : Node) (now k : ℕ) (bytes : List ℕ) (o : Option Seat) → IsResting o → AllQuiet x.seats → TurnQuiet (client_turn words ch x now k bytes o)
unfolding client_served
client_quiet words ch x now k bytes None h all = all
client_quiet words ch x now k bytes (Some s) h all = choose TurnQuiet (is_over s.connection.phase) _ _ all
    (insert_quiet x.seats k (seated s (client_served words ch x now k bytes s).connection) all (serves_quiet (ground now x.state x) (ch.luck k) k s.draw (words x) (desk x) x.watches s.connection bytes h))

commit_quiet : (ch : Choices) (x : Node) (now : ℕ) (o : Option LogEntry) → AllQuiet x.seats → TurnQuiet (commit_turn ch x now o)
commit_quiet ch x now None all = all
commit_quiet ch x now (Some e) all = committed_quiet ch x now e

module _ {I : Type 0} (words : Words) (im : Images I) (ch : Choices) (x : Node) (now : ℕ) (o : raft.Outcome I) (image : Option I) where
  pub turned_quiet : (v : NodeEventKind (Mail I)) → AllQuiet x.seats → TurnQuiet (turned words im ch x now o image v)
  unfolding turned
  turned_quiet (kind.Accept draw) all = insert_quiet x.seats x.next (record { draw = draw; connection = blank }) all refl
  turned_quiet (kind.Client k bytes) all = client_quiet words ch x now k bytes (map.get x.seats k) (all k) all
  turned_quiet (kind.Hangup k) all = remove_quiet x.seats k all
  turned_quiet (kind.Drain k) all = drain_quiet x k (map.get x.seats k) (all k) all
  turned_quiet (kind.Deliver m) all = raft_quiet ch x o image all
  turned_quiet kind.Timeout all = raft_quiet ch x o image all
  turned_quiet kind.Beat all = all
  turned_quiet kind.CommitOne all = commit_quiet ch x now (upcoming x) all
  turned_quiet kind.ExpireDue all = all
  turned_quiet kind.Snapshot all = all
