-- A connection of a client: what it holds, and what each call makes of it.
use Rattle.std.specs.Prelude.{◌==◌, ◌+◌, ◌-◌, ℕ, List, [], ◌∷◌, ◌++◌, length, take, Bool, true, false, Option, Some, None, if◌then◌else◌}
use Rattle.std.specs.List.{flat_map}
use Rattle.kp_wire.specs.declared.connect.ConnectReply.{ConnectReply}
use Rattle.kp_wire.specs.declared.reply.WireReply.{WireReply}
use Rattle.kp_conn.specs.declared.phase.Phase.{Phase}
use Rattle.kp_conn.specs.declared.phase.Phase.TheVariants as phase
use Rattle.kp_conn.specs.declared.waiting.Mark.{Mark}
use Rattle.kp_conn.specs.declared.waiting.Waiting.{Waiting}
use Rattle.kp_conn.specs.declared.fed.OutPiece.{OutPiece}
use Rattle.kp_conn.specs.Packets.{reply_packet, connect_packet}
use Rattle.kp_conn.specs.Queue.{reply_kept, settled_queue}

pub record Connection : Type 0 where
  pub phase : Phase
  -- the bytes that came and were not taken yet: they are no whole frame, or wait for the connection to be live
  pub kept : List ℕ
  -- the place in the stream of the first of them, or of the next one to come
  pub place : ℕ
  -- the requests that wait, the first at the front
  pub queue : List Waiting
  -- the packets that go out, the first to go at the front
  pub outbox : List (List ℕ)

-- nothing came yet
abbrev pub blank : Connection
blank = record { phase = phase.Fresh; kept = []; place = 0; queue = []; outbox = [] }

-- with one packet more to go out
abbrev pub put : List ℕ → Connection → Connection
put packet c = record c { outbox = c.outbox ++ packet ∷ [] }

-- without the last of them
abbrev pub taken_back : Connection → Connection
taken_back c = record c { outbox = take (length c.outbox - 1) c.outbox }

-- what waits and what was kept goes; what is to go out stays
abbrev pub closed : Bool → Connection → Connection
closed lost c = record c { phase = phase.Closing lost; kept = []; queue = [] }

-- ---- requests and answers

-- the phase behind a request with this mark, which was given a number
abbrev pub numbered : Phase → Option Mark → Phase
numbered (phase.Live s e n) (Some m) = phase.Live s e (m.seq + 1)
numbered p m = p

-- one more waits
abbrev pub joined : Waiting → Connection → Connection
joined w c = record c { phase = numbered c.phase w.mark; queue = c.queue ++ w ∷ [] }

-- the first one's answer goes out, and the others wait
abbrev pub answered_of : ℕ → WireReply → Connection → List Waiting → Connection
answered_of zxid r c [] = c
answered_of zxid r c (w ∷ queue) = record c { queue = queue; outbox = c.outbox ++ reply_packet w.request.xid zxid r ∷ [] }

abbrev pub answered : ℕ → WireReply → Connection → Connection
answered zxid r c = answered_of zxid r c c.queue

-- the same with the reply that it keeps
abbrev pub answered_if : ℕ → Connection → Option WireReply → Connection
answered_if zxid c None = c
answered_if zxid c (Some r) = answered zxid r c

abbrev pub answered_kept : ℕ → Connection → Connection
answered_kept zxid c = answered_if zxid c (reply_kept c.queue)

-- the first request with the number keeps the reply
abbrev pub settled : ℕ → WireReply → Connection → Connection
settled seq r c = record c { queue = settled_queue seq r c.queue }

-- ---- the connect reply

-- the connection serves the session
abbrev pub serving : ℕ → ℕ → Connection → Connection
serving session epoch c = record c { phase = phase.Live session epoch 1 }

-- the packet goes out, and the connection is live; session 0 refuses it
abbrev pub opened : ConnectReply → ℕ → Connection → Connection
opened r epoch c = if r.session == 0 then closed false (put (connect_packet r) c) else serving r.session epoch (put (connect_packet r) c)

-- it is new, with these bytes kept, the first of them at this place
abbrev pub begun_again : List ℕ × ℕ → Connection → Connection
begun_again b c = record c { phase = phase.Fresh; kept = b.0; place = b.1 }

-- session, epoch and next number of a live connection
abbrev pub live_as : Phase → Option (ℕ × (ℕ × ℕ))
live_as (phase.Live s e n) = Some (s, (e, n))
live_as p = None

-- ---- going out

abbrev pub is_over : Phase → Bool
is_over (phase.Closing lost) = true
is_over p = false

abbrev pub is_lost : Phase → Bool
is_lost (phase.Closing lost) = lost
is_lost p = false

-- nothing is left to go out
abbrev pub drained : Connection → Connection
drained c = record c { outbox = [] }

-- all packets, one behind the other, and whether the connection is over
abbrev pub out_piece : Connection → OutPiece
out_piece c = record { bytes = flat_map (λ packet. packet) c.outbox; over = is_over c.phase; lost = is_lost c.phase }
