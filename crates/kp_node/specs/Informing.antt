-- All connections hear of what fired and learn what the entry means for them, by some luck.
use Rattle.std.specs.Prelude.{◌≡◌, ℕ, Bool, true, false, List, Option, Some, None}
use Rattle.std.specs.Option.{option_map}
use Rattle.std.specs.FinMap as map
use Rattle.kp_model.specs.declared.entry.Body.{Body}
use Rattle.kp_model.specs.declared.entry.Body.TheVariants as body
use Rattle.kp_model.specs.declared.reply.Event.{Event}
use Rattle.kp_model.specs.declared.reply.Reply.{Reply}
use Rattle.kp_model.specs.declared.reply.Reply.TheVariants as reply
use Rattle.kp_wire.specs.declared.reply.WireReply.{WireReply}
use Rattle.kp_conn.specs.Queue.{awaited}
use Rattle.kp_step.specs.declared.seat.Seat.{Seat}
use Rattle.kp_step.specs.Choices.{Choices}
use Rattle.kp_step.specs.Node.{Seats}
use Rattle.kp_step.specs.Tables.{row_at, mapped}
use Rattle.kp_step.specs.Committing.{is_in, hears, meaning}
use Rattle.kp_node.specs.Telling.{answer_for}

-- whether an attach was told that it took its session over
abbrev pub is_epoch : Reply → Bool
is_epoch (reply.Epoch epoch) = true
is_epoch r = false

-- the answer is that of the write, if it waits at a connection of its session and epoch
abbrev pub IsAnswerIn : Body → Reply → Option WireReply → Seats → Type 0
IsAnswerIn (body.Write session epoch seq c) r answer seats = (k : ℕ) (s : Seat) → map.get seats k ≡ Some s → is_in session epoch s.connection.phase ≡ true → answer ≡ answer_for r (awaited seq s.connection.queue)
IsAnswerIn b r answer seats = Unit {0}

-- by some luck each connection learns what the entry means for it
abbrev pub AreMeant : ℕ → ℕ → ℕ → Body → Reply → Seats → Seats → Type 0
AreMeant me boot zxid b r old new = (k : ℕ) → (n : Option ℕ) × ((ch : Choices) → (ch.luck k).answers ≡ n → map.get new k ≡ option_map (row_at (meaning ch me boot zxid b r) k) (map.get old k))

-- and by some luck it has heard of its events before
abbrev pub AreInformed : ℕ → ℕ → ℕ → Body → Reply → List (ℕ × Event) → Seats → Seats → Type 0
AreInformed me boot zxid b r pairs old new = (k : ℕ) → (n m : Option ℕ) × ((ch : Choices) → (ch.luck k).events ≡ n → (ch.luck k).answers ≡ m
    → map.get new k ≡ option_map (λ s. row_at (meaning ch me boot zxid b r) k (row_at (hears ch pairs) k s)) (map.get old k))

-- so what all of them make by their luck is what the definition makes of them by these choices
abbrev pub InformedIsDefined : Type 0
InformedIsDefined = (me boot zxid : ℕ) (b : Body) (r : Reply) (pairs : List (ℕ × Event)) (old new : Seats) (told : AreInformed me boot zxid b r pairs old new) (ch : Choices)
    → ((k : ℕ) → ((ch.luck k).events ≡ (told k).0) × ((ch.luck k).answers ≡ (told k).1)) → mapped (row_at (meaning ch me boot zxid b r)) (mapped (row_at (hears ch pairs)) old) ≡ new
