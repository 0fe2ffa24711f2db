-- The parts of a step keep the phase of a connection, or end the connection.
use Rattle.std.proofs.Common.{◌≡◌, ℕ, true, false, List, [], ◌∷◌, Option, Some, None, refl, ◌∙◌}
use Rattle.kp_model.specs.declared.command.Cmd.{Cmd}
use Rattle.kp_ask.specs.Asks.{command}
use Rattle.kp_wire.specs.declared.connect.ConnectRequest.{ConnectRequest}
use Rattle.kp_wire.specs.declared.request.Request.{Request}
use Rattle.kp_watch.specs.declared.watch.Watch.{Watch}
use Rattle.kp_conn.specs.declared.fed.FedEnd.{FedEnd}
use Rattle.kp_conn.specs.declared.fed.FedEnd.TheVariants as ends
use Rattle.kp_conn.specs.declared.first.First.{First}
use Rattle.kp_conn.specs.declared.first.First.TheVariants as firsts
use Rattle.kp_conn.specs.declared.phase.Phase.{Phase}
use Rattle.kp_conn.specs.declared.phase.Phase.TheVariants as phase
use Rattle.kp_conn.specs.declared.waiting.Mark.{Mark}
use Rattle.kp_conn.specs.Connection.{Connection, closed, numbered as renumbered, put, is_over}
use Rattle.kp_conn.specs.Fed.{fed, fed_as, fed_first, with_piece}
use Rattle.kp_step.specs.Choices.{is_out, less}
use Rattle.kp_step.specs.Settling.{given_out}
use Rattle.kp_step.specs.Handing.{Ground, Desk, Joined, joined_so, joined_write, joined_as, joined_one, joined_all, taking, numbered, ended_by, Served, first_served, is_refused, is_led}
use Rattle.kp_step.proofs.Serves.{choose}

-- the phase is that of a live connection with this session and epoch
abbrev pub IsIn : ℕ → ℕ → Phase → Type 0
IsIn s e (phase.Live t f n) = (t ≡ s) × (f ≡ e)
IsIn s e p = ⊥

-- a connection that is live served the same session in the same epoch before
abbrev pub Keeps : Phase → Phase → Type 0
Keeps p phase.Fresh = Unit {0}
Keeps p (phase.Connecting ro) = Unit {0}
Keeps p (phase.Live s e n) = IsIn s e p
Keeps p (phase.Closing lost) = Unit {0}

pub same_keeps : (p : Phase) → Keeps p p
same_keeps phase.Fresh = tt
same_keeps (phase.Connecting ro) = tt
same_keeps (phase.Live s e n) = (refl, refl)
same_keeps (phase.Closing lost) = tt

still_in : (p : Phase) (s t e f : ℕ) → IsIn t f p → t ≡ s → f ≡ e → IsIn s e p
still_in phase.Fresh s t e f h x y = absurd h
still_in (phase.Connecting ro) s t e f h x y = absurd h
still_in (phase.Live u g n) s t e f h x y = (h.0 ∙ x, h.1 ∙ y)
still_in (phase.Closing lost) s t e f h x y = absurd h

in_keeps : (p q : Phase) (s e : ℕ) → Keeps p q → IsIn s e q → IsIn s e p
in_keeps p phase.Fresh s e h k = absurd k
in_keeps p (phase.Connecting ro) s e h k = absurd k
in_keeps p (phase.Live t f n) s e h k = still_in p s t e f h k.0 k.1
in_keeps p (phase.Closing lost) s e h k = absurd k

pub then_keeps : (p q r : Phase) → Keeps p q → Keeps q r → Keeps p r
then_keeps p q phase.Fresh f g = tt
then_keeps p q (phase.Connecting ro) f g = tt
then_keeps p q (phase.Live s e n) f g = in_keeps p q s e f g
then_keeps p q (phase.Closing lost) f g = tt

abbrev pub ConnKeeps : Connection → Connection → Type 0
ConnKeeps c b = Keeps c.phase b.phase

-- ---- events go out

pub given_keeps : (n : Option ℕ) (ps : List (List ℕ)) (c : Connection) → ConnKeeps c (given_out n ps c)
unfolding given_out
given_keeps n [] c = same_keeps c.phase
given_keeps n (p ∷ ps) c = choose (ConnKeeps c) (is_out n) (closed true c) (given_out (less n) ps (put p c)) tt (given_keeps (less n) ps (put p c))

-- ---- requests join

number_keeps : (p : Phase) (m : Option Mark) → Keeps p (renumbered p m)
number_keeps phase.Fresh m = tt
number_keeps (phase.Connecting ro) m = tt
number_keeps (phase.Live s e n) None = (refl, refl)
number_keeps (phase.Live s e n) (Some m) = (refl, refl)
number_keeps (phase.Closing lost) m = tt

abbrev JoinKeeps : Connection → Joined → Type 0
JoinKeeps c j = ConnKeeps c j.connection

write_keeps : (g : Ground) (c : Connection) (d : Desk) (q : Request) (w : Cmd) (p : Phase) → JoinKeeps c (joined_write g c d q w p)
write_keeps g c d q w phase.Fresh = number_keeps c.phase None
write_keeps g c d q w (phase.Connecting ro) = number_keeps c.phase None
write_keeps g c d q w (phase.Live s e n) = choose (JoinKeeps c) _ _ _ (number_keeps c.phase (numbered q n g.term).mark) (number_keeps c.phase None)
write_keeps g c d q w (phase.Closing lost) = number_keeps c.phase None

as_keeps : (g : Ground) (c : Connection) (d : Desk) (q : Request) (o : Option Cmd) → JoinKeeps c (joined_as g c d q o)
as_keeps g c d q None = number_keeps c.phase None
as_keeps g c d q (Some w) = write_keeps g c d q w c.phase

one_keeps : (g : Ground) (c : Connection) (d : Desk) (q : Request) → JoinKeeps c (joined_one g c d q)
unfolding joined_one
one_keeps g c d q = as_keeps g c d q (command q.ask)

pub join_keeps : (g : Ground) (n : Option ℕ) (c : Connection) (d : Desk) (qs : List Request) → JoinKeeps c (joined_all g n c d qs)
unfolding joined_all
join_keeps g n c d [] = same_keeps c.phase
join_keeps g n c d (q ∷ qs) = let j = joined_one g c d q in
    choose (JoinKeeps c) (is_out n) (joined_so (closed true c) d) (taking q (joined_all g (less n) j.connection j.desk qs)) tt
    (then_keeps c.phase j.connection.phase (joined_all g (less n) j.connection j.desk qs).connection.phase (one_keeps g c d q) (join_keeps g (less n) j.connection j.desk qs))

pub end_keeps : (e : FedEnd) (c : Connection) → ConnKeeps c (ended_by e c)
end_keeps ends.Ok c = same_keeps c.phase
end_keeps (ends.Word w) c = same_keeps c.phase
end_keeps (ends.Bad at) c = choose (ConnKeeps c) (is_over c.phase) c (closed false c) (same_keeps c.phase) tt

-- ---- bytes come

first_fed_keeps : (c : Connection) (f : First) → ConnKeeps c (fed_first c f).0
first_fed_keeps c firsts.Part = same_keeps c.phase
first_fed_keeps c firsts.Wrong = same_keeps c.phase
first_fed_keeps c (firsts.Word t) = same_keeps c.phase
first_fed_keeps c (firsts.Connect r n) = tt

fed_as_keeps : (p : Phase) (c : Connection) (piece : List ℕ) → ConnKeeps c (fed_as p c piece).0
fed_as_keeps phase.Fresh c piece = first_fed_keeps (with_piece c piece) _
fed_as_keeps (phase.Connecting ro) c piece = same_keeps c.phase
fed_as_keeps (phase.Live s f n) c piece = same_keeps c.phase
fed_as_keeps (phase.Closing lost) c piece = same_keeps c.phase

pub fed_keeps : (c : Connection) (piece : List ℕ) → ConnKeeps c (fed c piece).0
unfolding fed
fed_keeps c piece = fed_as_keeps c.phase c piece

abbrev ServedKeeps : Connection → Served → Type 0
ServedKeeps c w = ConnKeeps c w.connection

pub first_keeps : (g : Ground) (k : ℕ) (draw : List ℕ) (text : List ℕ → List ℕ) (c : Connection) (d : Desk) (ws : List Watch) (o : Option ConnectRequest) (e : FedEnd) → ServedKeeps c (first_served g k draw text c d ws o e)
first_keeps g k draw text c d ws (Some q) e = choose (ServedKeeps c) (is_refused q) _ _ tt (choose (ServedKeeps c) (is_led g d) _ _ (same_keeps c.phase) tt)
first_keeps g k draw text c d ws None ends.Ok = same_keeps c.phase
first_keeps g k draw text c d ws None (ends.Bad at) = tt
first_keeps g k draw text c d ws None (ends.Word w) = tt
