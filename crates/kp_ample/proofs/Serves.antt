-- What the bytes of a connection make, by some choices and where nothing runs out.
use Rattle.std.proofs.Common.{◌≡◌, ℕ, zero, suc, Bool, true, false, List, [], ◌∷◌, Option, Some, None, refl, ap, ◌∙◌}
use Rattle.std.specs.Prelude.{◌==◌, ◌&&◌, nat_le, if◌then◌else◌}
use Rattle.kp_model.specs.declared.entry.Body.TheVariants as body
use Rattle.kp_model.specs.Limits.{last_number}
use Rattle.kp_ask.specs.Asks.{command}
use Rattle.kp_model.specs.declared.command.Cmd.{Cmd}
use Rattle.kp_model.specs.declared.session.Session.{Session}
use Rattle.kp_wire.specs.declared.connect.ConnectRequest.{ConnectRequest}
use Rattle.kp_wire.specs.declared.connect.ConnectReply.{ConnectReply}
use Rattle.kp_wire.specs.declared.request.Request.{Request}
use Rattle.kp_watch.specs.declared.watch.Watch.{Watch}
use Rattle.kp_conn.specs.declared.fed.Fed.{Fed}
use Rattle.kp_conn.specs.declared.fed.FedEnd.{FedEnd}
use Rattle.kp_conn.specs.declared.fed.FedEnd.TheVariants as ends
use Rattle.kp_conn.specs.declared.first.First.{First}
use Rattle.kp_conn.specs.declared.first.First.TheVariants as firsts
use Rattle.kp_conn.specs.declared.phase.Phase.{Phase}
use Rattle.kp_conn.specs.declared.phase.Phase.TheVariants as phase
use Rattle.kp_conn.specs.declared.waiting.Mark.{Mark}
use Rattle.kp_conn.specs.declared.waiting.Waiting.{Waiting}
use Rattle.kp_conn.specs.Connection.{Connection, closed, joined, numbered as renumbered, opened, is_over, is_lost}
use Rattle.kp_conn.specs.Fed.{fed, fed_as, fed_first, with_piece}
use Rattle.kp_step.specs.Choices.{Luck}
use Rattle.kp_step.specs.Settling.{Settled}
use Rattle.kp_step.specs.Handing.{Ground, Desk, Joined, Served, joined_so, joined_write, joined_as, joined_one, joined_all, taking, handed, unnumbered, numbered, served, ended_by, behind_join, join_answers, is_refused, is_led, connects, first_served, served_as, serves, greeting, greeted_as}
use Rattle.kp_step.proofs.Tables.{no}
use Rattle.kp_step.proofs.Serves.{choose}
use Rattle.kp_ample.specs.Ample.{ample}
use Rattle.kp_ample.proofs.Gone.{given_up, is_gone, gone_over, settled_fits}
use Rattle.kp_ample.proofs.Tables.{back}

abbrev IsUp : Connection → Type 0
IsUp c = given_up c ≡ false

-- ---- requests join

renumbered_up : (p : Phase) (m : Option Mark) → is_lost p ≡ false → is_lost (renumbered p m) ≡ false
renumbered_up phase.Fresh m h = refl
renumbered_up (phase.Connecting ro) m h = refl
renumbered_up (phase.Live s e n) None h = refl
renumbered_up (phase.Live s e n) (Some m) h = refl
renumbered_up (phase.Closing lost) m h = h

abbrev JoinedUp : Joined → Type 0
JoinedUp j = IsUp j.connection

join_up : (w : Waiting) (c : Connection) → IsUp c → IsUp (joined w c)
join_up w c h = renumbered_up c.phase w.mark h

write_up : (g : Ground) (c : Connection) (d : Desk) (q : Request) (w : Cmd) (p : Phase) → IsUp c → JoinedUp (joined_write g c d q w p)
write_up g c d q w phase.Fresh h = join_up (unnumbered q) c h
write_up g c d q w (phase.Connecting ro) h = join_up (unnumbered q) c h
write_up g c d q w (phase.Live s e n) h = choose JoinedUp (is_led g d && nat_le n last_number) (joined_so (joined (numbered q n g.term) c) (handed g d (body.Write s e n w))) (joined_so (joined (unnumbered q) c) d) (join_up (numbered q n g.term) c h) (join_up (unnumbered q) c h)
write_up g c d q w (phase.Closing lost) h = join_up (unnumbered q) c h

as_up : (g : Ground) (c : Connection) (d : Desk) (q : Request) (o : Option Cmd) → IsUp c → JoinedUp (joined_as g c d q o)
as_up g c d q None h = join_up (unnumbered q) c h
as_up g c d q (Some w) h = write_up g c d q w c.phase h

one_up : (g : Ground) (c : Connection) (d : Desk) (q : Request) → IsUp c → JoinedUp (joined_one g c d q)
unfolding joined_one
one_up g c d q h = as_up g c d q (command q.ask) h

joined_up : (g : Ground) (c : Connection) (d : Desk) (qs : List Request) → IsUp c → JoinedUp (joined_all g None c d qs)
unfolding joined_all
joined_up g c d [] h = h
joined_up g c d (q ∷ qs) h = joined_up g (joined_one g c d q).connection (joined_one g c d q).desk qs (one_up g c d q h)

joined_alike : (g : Ground) (n : Option ℕ) (c : Connection) (d : Desk) (qs : List Request) → is_gone (joined_all g n c d qs).connection ≡ false → joined_all g n c d qs ≡ joined_all g None c d qs
unfolding joined_all
joined_alike g None c d qs h = refl
joined_alike g (Some n) c d [] h = refl
joined_alike g (Some zero) c d (q ∷ qs) h = no true h refl
joined_alike g (Some (suc n)) c d (q ∷ qs) h = ap (taking q) (joined_alike g (Some n) (joined_one g c d q).connection (joined_one g c d q).desk qs h)

-- ---- a frame that is none

bad_gone : (c : Connection) (b : Bool) → is_over c.phase ≡ b → is_gone c ≡ true → is_gone (if b then c else closed false c) ≡ true
bad_gone c true e h = h
bad_gone c false e h = no (is_over c.phase) e (gone_over c h)

end_gone : (e : FedEnd) (c : Connection) → is_gone c ≡ true → is_gone (ended_by e c) ≡ true
end_gone ends.Ok c h = h
end_gone (ends.Word w) c h = h
end_gone (ends.Bad at) c h = bad_gone c (is_over c.phase) refl h

end_up : (e : FedEnd) (c : Connection) → IsUp c → IsUp (ended_by e c)
end_up ends.Ok c h = h
end_up (ends.Word w) c h = h
end_up (ends.Bad at) c h = choose IsUp (is_over c.phase) c (closed false c) h refl

-- ---- what was read of a live connection

abbrev ServedUp : Served → Type 0
ServedUp w = IsUp w.connection

served_up : (g : Ground) (k : ℕ) (ws : List Watch) (c : Connection) (d : Desk) (f : Fed) → IsUp c → ServedUp (served g (ample.luck k) k ws c d f)
unfolding served
served_up g k ws c d f h = let j : Joined = joined_all g None c d f.requests in
    end_up f.end (join_answers g None k ws j).connection ((settled_fits g.state k None ws j.connection).safe (joined_up g c d f.requests h))

served_alike : (g : Ground) (luck : Luck) (k : ℕ) (ws : List Watch) (c : Connection) (d : Desk) (f : Fed) → is_gone (served g luck k ws c d f).connection ≡ false → served g luck k ws c d f ≡ served g (ample.luck k) k ws c d f
unfolding served
served_alike g luck k ws c d f h =
    let j : Joined = joined_all g luck.requests c d f.requests in
    let s : Settled = join_answers g luck.answers k ws j in
    let answered : is_gone s.connection ≡ false = back (is_gone s.connection) (is_gone (ended_by f.end s.connection)) (end_gone f.end s.connection) h in
    let asked : is_gone j.connection ≡ false = back (is_gone j.connection) (is_gone s.connection) (settled_fits g.state k luck.answers ws j.connection).keeps answered in
    ap (behind_join j f.end) ((settled_fits g.state k luck.answers ws j.connection).same answered)
    ∙ ap (λ (z : Joined). behind_join z f.end (join_answers g None k ws z)) (joined_alike g luck.requests c d f.requests asked)

-- ---- any connection

connects_up : (g : Ground) (k : ℕ) (draw : List ℕ) (c : Connection) (d : Desk) (ws : List Watch) (q : ConnectRequest) → IsUp c → ServedUp (connects g k draw c d ws q)
connects_up g k draw c d ws q h = choose ServedUp (is_refused q) _ _ refl (choose ServedUp (is_led g d) _ _ h refl)

first_up : (g : Ground) (k : ℕ) (draw : List ℕ) (text : List ℕ → List ℕ) (c : Connection) (d : Desk) (ws : List Watch) (o : Option ConnectRequest) (e : FedEnd) → IsUp c → ServedUp (first_served g k draw text c d ws o e)
first_up g k draw text c d ws (Some q) e h = connects_up g k draw c d ws q h
first_up g k draw text c d ws None ends.Ok h = h
first_up g k draw text c d ws None (ends.Bad at) h = refl
first_up g k draw text c d ws None (ends.Word w) h = refl

read_up : (g : Ground) (k : ℕ) (draw : List ℕ) (text : List ℕ → List ℕ) (d : Desk) (ws : List Watch) (p : Phase) (c : Connection) (f : Fed) → IsUp c → ServedUp (served_as g (ample.luck k) k draw text d ws p c f)
read_up g k draw text d ws phase.Fresh c f h = first_up g k draw text c d ws f.connect f.end h
read_up g k draw text d ws (phase.Connecting ro) c f h = first_up g k draw text c d ws f.connect f.end h
read_up g k draw text d ws (phase.Live s e n) c f h = served_up g k ws c d f h
read_up g k draw text d ws (phase.Closing lost) c f h = first_up g k draw text c d ws f.connect f.end h

read_alike : (g : Ground) (luck : Luck) (k : ℕ) (draw : List ℕ) (text : List ℕ → List ℕ) (d : Desk) (ws : List Watch) (p : Phase) (c : Connection) (f : Fed) → is_gone (served_as g luck k draw text d ws p c f).connection ≡ false
    → served_as g luck k draw text d ws p c f ≡ served_as g (ample.luck k) k draw text d ws p c f
read_alike g luck k draw text d ws phase.Fresh c f h = refl
read_alike g luck k draw text d ws (phase.Connecting ro) c f h = refl
read_alike g luck k draw text d ws (phase.Live s e n) c f h = served_alike g luck k ws c d f h
read_alike g luck k draw text d ws (phase.Closing lost) c f h = refl

first_fed_up : (c : Connection) (f : First) → IsUp c → IsUp (fed_first c f).0
first_fed_up c firsts.Part h = h
first_fed_up c firsts.Wrong h = h
first_fed_up c (firsts.Word w) h = h
first_fed_up c (firsts.Connect q n) h = refl

fed_as_up : (p : Phase) (c : Connection) (piece : List ℕ) → IsUp c → IsUp (fed_as p c piece).0
fed_as_up phase.Fresh c piece h = first_fed_up (with_piece c piece) _ h
fed_as_up (phase.Connecting ro) c piece h = h
fed_as_up (phase.Live s e n) c piece h = h
fed_as_up (phase.Closing lost) c piece h = h

fed_up : (c : Connection) (piece : List ℕ) → IsUp c → IsUp (fed c piece).0
unfolding fed
fed_up c piece h = fed_as_up c.phase c piece h

pub serves_up : (g : Ground) (k : ℕ) (draw : List ℕ) (text : List ℕ → List ℕ) (d : Desk) (ws : List Watch) (c : Connection) (bytes : List ℕ) → IsUp c → ServedUp (serves g (ample.luck k) k draw text d ws c bytes)
unfolding serves
serves_up g k draw text d ws c bytes h = read_up g k draw text d ws c.phase (fed c bytes).0 (fed c bytes).1 (fed_up c bytes h)

pub serves_alike : (g : Ground) (luck : Luck) (k : ℕ) (draw : List ℕ) (text : List ℕ → List ℕ) (d : Desk) (ws : List Watch) (c : Connection) (bytes : List ℕ) → is_gone (serves g luck k draw text d ws c bytes).connection ≡ false
    → serves g luck k draw text d ws c bytes ≡ serves g (ample.luck k) k draw text d ws c bytes
unfolding serves
serves_alike g luck k draw text d ws c bytes h = read_alike g luck k draw text d ws c.phase (fed c bytes).0 (fed c bytes).1 h

-- ---- the reply to a connect request

opened_up : (r : ConnectReply) (epoch : ℕ) (c : Connection) → IsUp (opened r epoch c)
opened_up r epoch c = choose IsUp (r.session == 0) _ _ refl refl

pub greeted_up : (g : Ground) (k : ℕ) (ws : List Watch) (d : Desk) (c : Connection) (ro : Bool) (id : ℕ) (o : Option Session) → ServedUp (greeted_as g (ample.luck k) k ws d c ro id o)
greeted_up g k ws d c ro id None = refl
greeted_up g k ws d c ro id (Some x) = let b : Connection = opened (greeting ro id x) x.epoch c in served_up g k ws (fed b []).0 d (fed b []).1 (fed_up b [] (opened_up (greeting ro id x) x.epoch c))

pub greeted_alike : (g : Ground) (luck : Luck) (k : ℕ) (ws : List Watch) (d : Desk) (c : Connection) (ro : Bool) (id : ℕ) (o : Option Session) → is_gone (greeted_as g luck k ws d c ro id o).connection ≡ false
    → greeted_as g luck k ws d c ro id o ≡ greeted_as g (ample.luck k) k ws d c ro id o
greeted_alike g luck k ws d c ro id None h = refl
greeted_alike g luck k ws d c ro id (Some x) h = let b : Connection = opened (greeting ro id x) x.epoch c in served_alike g luck k ws (fed b []).0 d (fed b []).1 h
