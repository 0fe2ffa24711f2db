-- What each event makes of a node but for Raft, by some choices and where nothing runs out.
use Rattle.std.proofs.Common.{◌≡◌, ℕ, Bool, true, false, cond, List, [], Option, Some, None, is_some, refl, ap, sym, subst, ◌∙◌}
use Rattle.std.specs.Prelude.{if◌then◌else◌}
use Rattle.std.specs.Ordering.{nat_cmp, eq_by_cmp}
use Rattle.std.specs.Cmp.{nat_cmp_total}
use Rattle.std.specs.FinMap as map
use Rattle.kp_model.specs.declared.entry.Body.{Body}
use Rattle.kp_model.specs.declared.reply.Reply.{Reply}
use Rattle.kp_model.specs.LogEntry.{LogEntry}
use Rattle.kp_model.specs.State.{State}
use Rattle.kp_model.specs.Step.{Outcome, apply}
use Rattle.kp_model.specs.Taken.{is_stale}
use Rattle.kp_raft.specs.declared.event.RaftEvent.TheVariants as raft_event
use Rattle.kp_raft.specs.declared.mail.Mail.{Mail}
use Rattle.kp_raft.specs.Parts as raft
use Rattle.kp_event.specs.declared.event.NodeEventKind.{NodeEventKind}
use Rattle.kp_event.specs.declared.event.NodeEventKind.TheVariants as kind
use Rattle.kp_event.specs.declared.said.FedWord.TheVariants as fed
use Rattle.kp_event.specs.declared.said.Said.TheVariants as says
use Rattle.kp_watch.specs.Watching.{Firing, fired}
use Rattle.kp_conn.specs.declared.fed.FedEnd.{FedEnd}
use Rattle.kp_conn.specs.declared.phase.Phase.{Phase}
use Rattle.kp_conn.specs.declared.phase.Phase.TheVariants as phase
use Rattle.kp_conn.specs.Connection.{drained, is_over}
use Rattle.kp_step.specs.Choices.{Choices}
use Rattle.kp_step.specs.declared.seat.Seat.{Seat}
use Rattle.kp_step.specs.Node.{Node, Seats, Images}
use Rattle.kp_step.specs.Applying.{upcoming}
use Rattle.kp_step.specs.Handing.{Ground, Desk, Served, ground, desk, greeted_as}
use Rattle.kp_step.specs.Tables.{Table, tabled, with_row, with_served, seated, settled_all}
use Rattle.kp_step.specs.Committing.{Greeting, hears, meaning, newcomer, session_of, session_at, number_in, greeted_in, greeted_at, greeted_by, greeted, informed, committed_by, settled_behind, committed}
use Rattle.kp_step.specs.Asking.{Words, Input, idle, asks, client_served, client_input, commit_input, fed_end, is_csnp, propose_if}
use Rattle.kp_step.specs.Step.{Turn, turn, behind as node_with, accept_turn, hangup_turn, drain_turn, client_turn, fed_turn, applied_turn, commit_turn, risen, ended, with_row_if, rose, raft_table, heard_after, state_of, answers_append, raft_turn, turned}
use Rattle.kp_ample.specs.Ample.{ample}
use Rattle.kp_ample.proofs.Gone.{given_up, gone_as, is_gone, RowFits, hears_fits, meaning_fits, risen_fits, ended_fits}
use Rattle.kp_ample.proofs.Counts.{test_at, NoneAre}
use Rattle.kp_ample.proofs.Tables.{TableFits, table_still, table_then, row_fits, all_fits, here, before, behind, was_safe}
use Rattle.kp_ample.proofs.Serves.{serves_up, serves_alike, greeted_up, greeted_alike}

-- ---- an applied entry

pub record GreetFits (t : Table) (r a : Greeting) : Type 0 where
  pub keeps : NoneAre is_gone r.table.seats → NoneAre is_gone t.seats
  pub alike : NoneAre is_gone r.table.seats → r ≡ a
  pub safe : NoneAre given_up t.seats → NoneAre given_up a.table.seats

greet_still : (t : Table) (d : Desk) → GreetFits t (record { table = t; desk = d }) (record { table = t; desk = d })
greet_still t d = record { keeps = λ h. h; alike = λ h. refl; safe = λ h. h }

greet_in : (ch : Choices) (g : Ground) (d : Desk) (t : Table) (id : Option ℕ) (k : ℕ) (x : Seat) (p : Phase) → x.connection.phase ≡ p → map.get t.seats k ≡ Some x → GreetFits t (greeted_in ch g d t id k x p) (greeted_in ample g d t id k x p)
greet_in ch g d t id k x phase.Fresh e there = greet_still t d
greet_in ch g d t id k x (phase.Connecting ro) e there = record {
  keeps = λ h. before is_gone t.seats k (seated x (greeted_as g (ch.luck k) k t.watches d x.connection ro (number_in id) (session_at g.state id)).connection) x there (ap (λ p. gone_as p x.connection.queue) e) h;
  alike = λ h. ap (λ (w : Served). record { table = with_served k x w t; desk = w.desk }) (greeted_alike g (ch.luck k) k t.watches d x.connection ro (number_in id) (session_at g.state id) (here is_gone t.seats k _ h));
  safe = λ h. behind given_up t.seats k _ (greeted_up g k t.watches d x.connection ro (number_in id) (session_at g.state id)) h;
}
greet_in ch g d t id k x (phase.Live s f n) e there = greet_still t d
greet_in ch g d t id k x (phase.Closing lost) e there = greet_still t d

greet_at : (ch : Choices) (g : Ground) (d : Desk) (t : Table) (id : Option ℕ) (k : ℕ) (o : Option Seat) → map.get t.seats k ≡ o → GreetFits t (greeted_at ch g d t id k o) (greeted_at ample g d t id k o)
greet_at ch g d t id k None there = greet_still t d
greet_at ch g d t id k (Some x) there = greet_in ch g d t id k x x.connection.phase refl there

greet_by : (ch : Choices) (g : Ground) (d : Desk) (t : Table) (id o : Option ℕ) → GreetFits t (greeted_by ch g d t id o) (greeted_by ample g d t id o)
greet_by ch g d t id None = greet_still t d
greet_by ch g d t id (Some k) = greet_at ch g d t id k (map.get t.seats k) refl

greet_fits : (ch : Choices) (g : Ground) (d : Desk) (me boot : ℕ) (b : Body) (r : Reply) (t : Table) → GreetFits t (greeted ch g d t me boot b r) (greeted ample g d t me boot b r)
unfolding greeted
greet_fits ch g d me boot b r t = greet_by ch g d t (session_of b r) (if is_stale r then None else newcomer me boot b)

greet_then : (F G : Table → Greeting) (t r a : Table) → TableFits t r a → ((u : Table) → GreetFits u (F u) (G u)) → GreetFits t (F r) (G a)
greet_then F G t r a p q = record {
  keeps = λ h. p.keeps ((q r).keeps h);
  alike = λ h. (q r).alike h ∙ ap G (p.alike ((q r).keeps h));
  safe = λ h. (q a).safe (p.safe h);
}

settle_fits : (ch : Choices) (s : State) (t : Table) (r a : Greeting) → GreetFits t r a → GreetFits t (settled_behind ch s r) (settled_behind ample s a)
settle_fits ch s t r a p = let all : TableFits r.table (settled_all ch s r.table (map.keys r.table.seats)) (settled_all ample s r.table (map.keys r.table.seats)) = all_fits ch s (map.keys r.table.seats) r.table in record {
  keeps = λ h. p.keeps (all.keeps h);
  alike = λ h. ap (λ (z : Table). record r { table = z }) (all.alike h) ∙ ap (settled_behind ample s) (p.alike (all.keeps h));
  safe = λ h. (all_fits ample s (map.keys a.table.seats) a.table).safe (p.safe h);
}

informed_fits : (ch : Choices) (x : Node) (b : Body) (o : Outcome) → TableFits (tabled x.seats (fired x.watches o.events).left) (informed ch x b o) (informed ample x b o)
unfolding informed
informed_fits ch x b o = let f : Firing = fired x.watches o.events in let t : Table = tabled x.seats f.left in
    table_then (with_row (meaning ch x.me x.boot o.state.applied b o.reply)) (with_row (meaning ample x.me x.boot o.state.applied b o.reply)) t (with_row (hears ch f.pairs) t) (with_row (hears ample f.pairs) t)
    (row_fits (hears ch f.pairs) (hears ample f.pairs) (hears_fits ch f.pairs) t)
    (row_fits (meaning ch x.me x.boot o.state.applied b o.reply) (meaning ample x.me x.boot o.state.applied b o.reply) (meaning_fits ch x.me x.boot o.state.applied b o.reply))

commit_by : (ch : Choices) (x : Node) (now : ℕ) (b : Body) (o : Outcome) → GreetFits (tabled x.seats (fired x.watches o.events).left) (committed_by ch x now b o) (committed_by ample x now b o)
commit_by ch x now b o = greet_then (λ t. greeted ch (ground now o.state x) (desk x) t x.me x.boot b o.reply) (λ t. greeted ample (ground now o.state x) (desk x) t x.me x.boot b o.reply)
    (tabled x.seats (fired x.watches o.events).left) (informed ch x b o) (informed ample x b o) (informed_fits ch x b o) (greet_fits ch (ground now o.state x) (desk x) x.me x.boot b o.reply)

commit_fits : (ch : Choices) (x : Node) (now : ℕ) (e : LogEntry) → GreetFits (tabled x.seats (fired x.watches (apply x.state e).events).left) (committed ch x now e) (committed ample x now e)
unfolding committed
commit_fits ch x now e = let o : Outcome = apply x.state e in settle_fits ch o.state (tabled x.seats (fired x.watches o.events).left) (committed_by ch x now e.body o) (committed_by ample x now e.body o) (commit_by ch x now e.body o)

-- ---- turns

pub record TurnFits (x : Node) (t a : Turn) : Type 0 where
  pub alike : NoneAre is_gone t.node.seats → t ≡ a
  pub safe : NoneAre given_up x.seats → NoneAre given_up a.node.seats

-- one that looks at no choices
plain : (x : Node) (t : Turn) → (NoneAre given_up x.seats → NoneAre given_up t.node.seats) → TurnFits x t t
plain x t f = record { alike = λ h. refl; safe = f }

commit_turns : (ch : Choices) (x : Node) (now : ℕ) (o : Option LogEntry) → TurnFits x (commit_turn ch x now o) (commit_turn ample x now o)
commit_turns ch x now None = plain x (turn x (says.Done None)) (λ h. h)
commit_turns ch x now (Some e) = record {
  alike = λ h. ap (applied_turn ample x now e (apply x.state e)) ((commit_fits ch x now e).alike h);
  safe = λ h. (commit_fits ch x now e).safe h;
}

-- ---- bytes of a client

client_alike : {A : Type 0} (x : Node) (now k : ℕ) (s : Seat) (end : FedEnd) (b : Bool) (w v : Served) → (is_gone w.connection ≡ false → w ≡ v) → (f : Served → A) (y : A)
    → NoneAre is_gone (if b then turn x (says.Fed fed.Unknown) else fed_turn x now k s end w).node.seats → (if b then y else f w) ≡ (if b then y else f v)
client_alike x now k s end true w v e f y h = refl
client_alike x now k s end false w v e f y h = ap f (e (here is_gone x.seats k (seated s w.connection) h))

client_safe : (x : Node) (now k : ℕ) (s : Seat) (end : FedEnd) (b : Bool) (w : Served) → given_up w.connection ≡ false → NoneAre given_up x.seats → NoneAre given_up (if b then turn x (says.Fed fed.Unknown) else fed_turn x now k s end w).node.seats
client_safe x now k s end true w u h = h
client_safe x now k s end false w u h = behind given_up x.seats k (seated s w.connection) u h

module _ (words : Words) (ch : Choices) (x : Node) (now k : ℕ) (bytes : List ℕ) where
  requests_alike : (s : Seat) → is_gone (client_served words ch x now k bytes s).connection ≡ false → client_served words ch x now k bytes s ≡ client_served words ample x now k bytes s
  unfolding client_served
  requests_alike s h = serves_alike (ground now x.state x) (ch.luck k) k s.draw (words x) (desk x) x.watches s.connection bytes h

  requests_up : (s : Seat) → given_up s.connection ≡ false → given_up (client_served words ample x now k bytes s).connection ≡ false
  unfolding client_served
  requests_up s h = serves_up (ground now x.state x) k s.draw (words x) (desk x) x.watches s.connection bytes h

  client_turns : (o : Option Seat) → map.get x.seats k ≡ o → TurnFits x (client_turn words ch x now k bytes o) (client_turn words ample x now k bytes o)
  client_turns None there = plain x (turn x (says.Fed fed.Unknown)) (λ h. h)
  client_turns (Some s) there = record {
    alike = client_alike x now k s (fed_end s bytes) (is_over s.connection.phase) (client_served words ch x now k bytes s) (client_served words ample x now k bytes s) (requests_alike s) (fed_turn x now k s (fed_end s bytes)) (turn x (says.Fed fed.Unknown));
    safe = λ h. client_safe x now k s (fed_end s bytes) (is_over s.connection.phase) (client_served words ample x now k bytes s) (requests_up s (was_safe x.seats k s there h)) h;
  }

  pub client_inputs : {I : Type 0} (o : Option Seat) → NoneAre is_gone (client_turn words ch x now k bytes o).node.seats → client_input {I = I} words ch x now k bytes o ≡ client_input words ample x now k bytes o
  client_inputs None h = refl
  client_inputs {I = I} (Some s) h = client_alike {A = Input I} x now k s (fed_end s bytes) (is_over s.connection.phase) (client_served words ch x now k bytes s) (client_served words ample x now k bytes s) (requests_alike s)
      (λ w. if is_csnp (fed_end s bytes) then asks (raft_event.Compact x.state.applied) else propose_if now w.desk.bodies) idle h

pub commit_inputs : {I : Type 0} (ch : Choices) (x : Node) (now : ℕ) (o : Option LogEntry) → NoneAre is_gone (commit_turn ch x now o).node.seats → commit_input {I = I} ch x now o ≡ commit_input ample x now o
commit_inputs ch x now None h = refl
commit_inputs ch x now (Some e) h = ap (λ (g : Greeting). propose_if now g.desk.bodies) ((commit_fits ch x now e).alike h)

-- ---- connections come, go and take

hangup_at : (k j : ℕ) (o : Option Seat) (b : Bool) → test_at given_up o ≡ false → test_at given_up (cond b None o) ≡ false
hangup_at k j o true h = refl
hangup_at k j o false h = h

removed : (m : Seats) (k : ℕ) → NoneAre given_up m → NoneAre given_up (map.remove m k)
removed m k h j = subst (λ o. test_at given_up o ≡ false) (sym (map.get-remove nat_cmp_total m k j)) (hangup_at k j (map.get m j) (eq_by_cmp nat_cmp j k) (h j))

drained_by : (m : Seats) (k : ℕ) (s : Seat) (b : Bool) → given_up s.connection ≡ false → NoneAre given_up m → NoneAre given_up (if b then map.remove m k else map.insert m k (seated s (drained s.connection)))
drained_by m k s true u h = removed m k h
drained_by m k s false u h = behind given_up m k (seated s (drained s.connection)) u h

drain_turns : (x : Node) (k : ℕ) (o : Option Seat) → map.get x.seats k ≡ o → TurnFits x (drain_turn x k o) (drain_turn x k o)
drain_turns x k None there = plain x (turn x (says.Out None)) (λ h. h)
drain_turns x k (Some s) there = plain x (drain_turn x k (Some s)) (λ h. drained_by x.seats k s (is_over s.connection.phase) (was_safe x.seats k s there h) h)

-- ---- a step of Raft

if_row : (b : Bool) (f g : _) → RowFits f g → (t : Table) → TableFits t (with_row_if b f t) (with_row_if b g t)
if_row true f g h t = row_fits f g h t
if_row false f g h t = table_still t

module _ {I : Type 0} (ch : Choices) (x : Node) (o : raft.Outcome I) (image : Option I) where
  raft_tables : TableFits (tabled x.seats x.watches) (raft_table ch x o image) (raft_table ample x o image)
  unfolding raft_table
  raft_tables = let t : Table = tabled x.seats x.watches in
      table_then (with_row_if (is_some image) ended) (with_row_if (is_some image) ended) t (with_row_if (rose x o) (risen ch x.state.applied) t) (with_row_if (rose x o) (risen ample x.state.applied) t)
      (if_row (rose x o) (risen ch x.state.applied) (risen ample x.state.applied) (risen_fits ch x.state.applied) t)
      (if_row (is_some image) ended ended ended_fits)

  raft_with : Images I → ℕ → NodeEventKind (Mail I) → Table → Turn
  raft_with im now v t = record {
    node = node_with (record x {
      state = state_of im x.state image;
      heard = heard_after x now v o image (state_of im x.state image);
      spoken = if answers_append o then [] else x.spoken;
    }) t;
    said = says.Raft;
    forwards = [];
    told = t.told;
    took = t.took;
  }

  raft_turns : (im : Images I) (now : ℕ) (v : NodeEventKind (Mail I)) → TurnFits x (raft_turn im ch x now v o image) (raft_turn im ample x now v o image)
  unfolding raft_with
  raft_turns im now v = record { alike = λ h. ap (raft_with im now v) (raft_tables.alike h); safe = λ h. raft_tables.safe h }

-- ---- all of them

pub turned_fits : {I : Type 0} (words : Words) (im : Images I) (ch : Choices) (x : Node) (now : ℕ) (o : raft.Outcome I) (image : Option I) (v : NodeEventKind (Mail I)) → TurnFits x (turned words im ch x now o image v) (turned words im ample x now o image v)
unfolding turned
turned_fits words im ch x now o image (kind.Accept draw) = plain x (accept_turn x draw) (λ h. behind given_up x.seats x.next _ refl h)
turned_fits words im ch x now o image (kind.Client k bytes) = client_turns words ch x now k bytes (map.get x.seats k) refl
turned_fits words im ch x now o image (kind.Hangup k) = plain x (hangup_turn x k) (removed x.seats k)
turned_fits words im ch x now o image (kind.Drain k) = drain_turns x k (map.get x.seats k) refl
turned_fits words im ch x now o image (kind.Deliver m) = raft_turns ch x o image im now (kind.Deliver m)
turned_fits words im ch x now o image kind.Timeout = raft_turns ch x o image im now kind.Timeout
turned_fits words im ch x now o image kind.Beat = plain x _ (λ h. h)
turned_fits words im ch x now o image kind.CommitOne = commit_turns ch x now (upcoming x)
turned_fits words im ch x now o image kind.ExpireDue = plain x _ (λ h. h)
turned_fits words im ch x now o image kind.Snapshot = plain x _ (λ h. h)
