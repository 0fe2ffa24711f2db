-- What is handed in is a client's, all the way through a step.
use Rattle.std.proofs.Common.{◌≡◌, ℕ, zero, suc, ℤ, pos, negsuc, Bool, false, cond, List, [], ◌∷◌, Option, Some, None}
use Rattle.std.specs.Prelude.{nat_lt, nat_le, ◌&&◌}
use Rattle.std.specs.List.{AllByRecursion}
use Rattle.std.specs.FinMap as map
use Rattle.kp_model.specs.declared.command.Cmd.{Cmd}
use Rattle.kp_model.specs.declared.entry.Body.{Body}
use Rattle.kp_model.specs.declared.entry.Body.TheVariants as body
use Rattle.kp_model.specs.declared.reply.Reply.{Reply}
use Rattle.kp_model.specs.declared.session.Session.{Session}
use Rattle.kp_model.specs.declared.session.Origin.{Origin}
use Rattle.kp_model.specs.Limits.{last_number}
use Rattle.kp_model.specs.LogEntry.{LogEntry}
use Rattle.kp_model.specs.Taken.{is_stale, would_take}
use Rattle.kp_event.specs.declared.event.NodeEventKind.TheVariants as kind
use Rattle.kp_ask.specs.Asks.{command}
use Rattle.kp_wire.specs.declared.connect.ConnectRequest.{ConnectRequest}
use Rattle.kp_wire.specs.declared.request.Request.{Request}
use Rattle.kp_watch.specs.declared.watch.Watch.{Watch}
use Rattle.kp_conn.specs.declared.fed.FedEnd.{FedEnd}
use Rattle.kp_conn.specs.declared.fed.FedEnd.TheVariants as ends
use Rattle.kp_conn.specs.declared.phase.Phase.{Phase}
use Rattle.kp_conn.specs.declared.phase.Phase.TheVariants as phase
use Rattle.kp_conn.specs.Connection.{Connection, is_over}
use Rattle.kp_conn.specs.declared.fed.Fed.{Fed}
use Rattle.kp_conn.specs.Fed.{fed}
use Rattle.kp_step.specs.declared.seat.Seat.{Seat}
use Rattle.kp_step.specs.Choices.{Choices, Luck, is_out, less}
use Rattle.kp_step.specs.Node.{Node}
use Rattle.kp_step.specs.Applying.{upcoming}
use Rattle.kp_step.specs.Handing.{Ground, Desk, Joined, Served, proposed, handed, is_led, joined_write, joined_as, joined_one, joined_all, served, is_refused, is_refused_number, opening_of, opening, origin, connects, first_served, served_as, serves, greeted_as, ground, desk}
use Rattle.kp_step.specs.Tables.{Table}
use Rattle.kp_step.specs.Committing.{greeted_in, greeted_at, greeted_by, greeted, session_of, newcomer, committed}
use Rattle.kp_step.specs.Asking.{Words, client_served}
use Rattle.kp_step.specs.Step.{Turn, client_turn, drain_turn, commit_turn, turned}
use Rattle.kp_worlds.specs.Forwards.{IsOfClient, ForwardsAreOfClients}
use Rattle.kp_worlds.proofs.Lists.{pick, all_join}

record Fair (d : Desk) : Type 0 where
  all : AllByRecursion IsOfClient d.forwards

proposed_fair : (term now : ℕ) (d : Desk) (b : Body) → Fair d → Fair (proposed term now d b)
unfolding proposed
proposed_fair term now d b f = pick Fair (nat_lt 0 d.room && would_take d.latest b) _ _ (λ _. record { all = f.all }) (λ _. f)

handed_fair : (g : Ground) (d : Desk) (b : Body) → IsOfClient b → Fair d → Fair (handed g d b)
unfolding handed
handed_fair g d b c f = pick Fair g.leads _ _ (λ _. proposed_fair g.term g.now d b f) (λ _. record { all = all_join IsOfClient d.forwards (b ∷ []) f.all (c, tt) })

-- ---- requests

write_fair : (g : Ground) (c : Connection) (d : Desk) (q : Request) (w : Cmd) (p : Phase) → Fair d → Fair (joined_write g c d q w p).desk
write_fair g c d q w (phase.Live s e n) f = pick (λ (j : Joined). Fair j.desk) (is_led g d && nat_le n last_number) _ _ (λ _. handed_fair g d (body.Write s e n w) tt f) (λ _. f)
write_fair g c d q w phase.Fresh f = f
write_fair g c d q w (phase.Connecting ro) f = f
write_fair g c d q w (phase.Closing lost) f = f

as_fair : (g : Ground) (c : Connection) (d : Desk) (q : Request) (o : Option Cmd) → Fair d → Fair (joined_as g c d q o).desk
as_fair g c d q None f = f
as_fair g c d q (Some w) f = write_fair g c d q w c.phase f

one_fair : (g : Ground) (c : Connection) (d : Desk) (q : Request) → Fair d → Fair (joined_one g c d q).desk
unfolding joined_one
one_fair g c d q f = as_fair g c d q (command q.ask) f

joined_fair : (g : Ground) (qs : List Request) (n : Option ℕ) (c : Connection) (d : Desk) → Fair d → Fair (joined_all g n c d qs).desk
unfolding joined_all
joined_fair g [] n c d f = f
joined_fair g (q ∷ qs) n c d f = pick (λ (j : Joined). Fair j.desk) (is_out n) _ _ (λ _. f) (λ _. joined_fair g qs (less n) (joined_one g c d q).connection (joined_one g c d q).desk (one_fair g c d q f))

served_fair : (g : Ground) (luck : Luck) (k : ℕ) (ws : List Watch) (c : Connection) (d : Desk) (r : Fed) → Fair d → Fair (served g luck k ws c d r).desk
unfolding served
served_fair g luck k ws c d r f = joined_fair g r.requests luck.requests c d f

-- ---- connect requests

opening_client : (o : Origin) (draw : List ℕ) (q : ConnectRequest) (z : ℤ) → is_refused_number q.passwd z ≡ false → IsOfClient (opening_of o draw q z)
opening_client o draw q (pos zero) e = tt
opening_client o draw q (pos (suc n)) e = tt
opening_client o draw q (negsuc n) e = absurd (cc e)

connects_fair : (g : Ground) (k : ℕ) (draw : List ℕ) (c : Connection) (d : Desk) (ws : List Watch) (q : ConnectRequest) → Fair d → Fair (connects g k draw c d ws q).desk
connects_fair g k draw c d ws q f = pick (λ (s : Served). Fair s.desk) (is_refused q) _ _ (λ _. f)
    (λ e. pick (λ (s : Served). Fair s.desk) (is_led g d) _ _ (λ _. handed_fair g d (opening (origin g k) draw q) (opening_client (origin g k) draw q q.session e) f) (λ _. f))

first_fair : (g : Ground) (k : ℕ) (draw : List ℕ) (text : List ℕ → List ℕ) (c : Connection) (d : Desk) (ws : List Watch) (o : Option ConnectRequest) (end : FedEnd) → Fair d → Fair (first_served g k draw text c d ws o end).desk
first_fair g k draw text c d ws (Some q) end f = connects_fair g k draw c d ws q f
first_fair g k draw text c d ws None ends.Ok f = f
first_fair g k draw text c d ws None (ends.Bad at) f = f
first_fair g k draw text c d ws None (ends.Word w) f = f

served_as_fair : (g : Ground) (luck : Luck) (k : ℕ) (draw : List ℕ) (text : List ℕ → List ℕ) (d : Desk) (ws : List Watch) (p : Phase) (c : Connection) (r : Fed) → Fair d → Fair (served_as g luck k draw text d ws p c r).desk
served_as_fair g luck k draw text d ws (phase.Live s e n) c r f = served_fair g luck k ws c d r f
served_as_fair g luck k draw text d ws phase.Fresh c r f = first_fair g k draw text c d ws r.connect r.end f
served_as_fair g luck k draw text d ws (phase.Connecting ro) c r f = first_fair g k draw text c d ws r.connect r.end f
served_as_fair g luck k draw text d ws (phase.Closing lost) c r f = first_fair g k draw text c d ws r.connect r.end f

serves_fair : (g : Ground) (luck : Luck) (k : ℕ) (draw : List ℕ) (text : List ℕ → List ℕ) (d : Desk) (ws : List Watch) (c : Connection) (bytes : List ℕ) → Fair d → Fair (serves g luck k draw text d ws c bytes).desk
unfolding serves
serves_fair g luck k draw text d ws c bytes f = served_as_fair g luck k draw text d ws c.phase (fed c bytes).0 (fed c bytes).1 f

-- ---- a connection whose session was opened or taken over

greeted_as_fair : (g : Ground) (luck : Luck) (k : ℕ) (ws : List Watch) (d : Desk) (c : Connection) (ro : Bool) (id : ℕ) (o : Option Session) → Fair d → Fair (greeted_as g luck k ws d c ro id o).desk
greeted_as_fair g luck k ws d c ro id None f = f
greeted_as_fair g luck k ws d c ro id (Some x) f = served_fair g luck k ws _ d _ f

module _ (ch : Choices) (g : Ground) (d : Desk) (t : Table) (f : Fair d) where
  in_fair : (id : Option ℕ) (k : ℕ) (x : Seat) (p : Phase) → Fair (greeted_in ch g d t id k x p).desk
  in_fair id k x (phase.Connecting ro) = greeted_as_fair g (ch.luck k) k t.watches d x.connection ro _ _ f
  in_fair id k x phase.Fresh = f
  in_fair id k x (phase.Live s e n) = f
  in_fair id k x (phase.Closing lost) = f

  at_fair : (id : Option ℕ) (k : ℕ) (o : Option Seat) → Fair (greeted_at ch g d t id k o).desk
  at_fair id k None = f
  at_fair id k (Some x) = in_fair id k x x.connection.phase

  by_fair : (id o : Option ℕ) → Fair (greeted_by ch g d t id o).desk
  by_fair id None = f
  by_fair id (Some k) = at_fair id k (map.get t.seats k)

  greeted_fair : (me boot : ℕ) (b : Body) (r : Reply) → Fair (greeted ch g d t me boot b r).desk
  unfolding greeted
  greeted_fair me boot b r = by_fair (session_of b r) (cond (is_stale r) None (newcomer me boot b))

none_fair : (x : Node) → Fair (desk x)
none_fair x = record { all = tt }

committed_fair : (ch : Choices) (x : Node) (now : ℕ) (e : LogEntry) → Fair (committed ch x now e).desk
unfolding committed
committed_fair ch x now e = greeted_fair ch _ (desk x) _ (none_fair x) _ _ _ _

-- ---- a step

client_forwards : (words : Words) (ch : Choices) (x : Node) (now k : ℕ) (bytes : List ℕ) (o : Option Seat) → AllByRecursion IsOfClient (client_turn words ch x now k bytes o).forwards
unfolding client_served
client_forwards words ch x now k bytes None = tt
client_forwards words ch x now k bytes (Some s) = pick (λ (t : Turn). AllByRecursion IsOfClient t.forwards) (is_over s.connection.phase) _ _ (λ _. tt)
    (λ _. (serves_fair (ground now x.state x) (ch.luck k) k s.draw (words x) (desk x) x.watches s.connection bytes (none_fair x)).all)

drain_forwards : (x : Node) (k : ℕ) (o : Option Seat) → AllByRecursion IsOfClient (drain_turn x k o).forwards
drain_forwards x k None = tt
drain_forwards x k (Some s) = tt

commit_forwards : (ch : Choices) (x : Node) (now : ℕ) (o : Option LogEntry) → AllByRecursion IsOfClient (commit_turn ch x now o).forwards
commit_forwards ch x now None = tt
commit_forwards ch x now (Some e) = (committed_fair ch x now e).all

pub forwards_are_of_clients : (I : Type 0) → ForwardsAreOfClients I
unfolding turned
forwards_are_of_clients I words im ch x now o image (kind.Accept draw) = tt
forwards_are_of_clients I words im ch x now o image (kind.Client k bytes) = client_forwards words ch x now k bytes (map.get x.seats k)
forwards_are_of_clients I words im ch x now o image (kind.Hangup k) = tt
forwards_are_of_clients I words im ch x now o image (kind.Drain k) = drain_forwards x k (map.get x.seats k)
forwards_are_of_clients I words im ch x now o image (kind.Deliver m) = tt
forwards_are_of_clients I words im ch x now o image kind.Timeout = tt
forwards_are_of_clients I words im ch x now o image kind.Beat = tt
forwards_are_of_clients I words im ch x now o image kind.CommitOne = commit_forwards ch x now (upcoming x)
forwards_are_of_clients I words im ch x now o image kind.ExpireDue = tt
forwards_are_of_clients I words im ch x now o image kind.Snapshot = tt
