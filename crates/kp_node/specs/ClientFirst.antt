-- Bytes come of a connection that isn't live.
use Rattle.std.specs.Prelude.{◌≡◌, ℕ, false, List, [], ◌∷◌, length, Option, None}
use Rattle.kp_seats.specs.Seating.{left}
use Rattle.kp_raft.specs.declared.event.RaftOut.{RaftOut}
use Rattle.kp_conn.specs.declared.fed.FedEnd.TheVariants as ends
use Rattle.kp_conn.specs.Connection.{closed, put, taken_back}
use Rattle.kp_snapshot.specs.Snapshots.{Snapshot}
use Rattle.kp_event.specs.declared.said.FedWord.TheVariants as fed
use Rattle.kp_event.specs.declared.said.Said.TheVariants as says
use Rattle.kp_event.specs.declared.thought.Standing.{Standing}
use Rattle.kp_node.specs.declared.client_events.Read.{Read}
use Rattle.kp_node.specs.declared.client_first.Start.{Start}
use Rattle.kp_node.specs.declared.client_first.Start.TheVariants as start
use Rattle.kp_node.specs.declared.outcome.Outcome.{Outcome}
use Rattle.kp_step.specs.Node.{Seats}
use Rattle.kp_node.specs.Changing.{ready_among, lost_among}
use Rattle.kp_node.specs.Clients.{IsFed}
use Rattle.kp_node.specs.Early.{IsWordAt, conn_changed}
use Rattle.kp_node.specs.FirstBytes.{is_word}
use Rattle.kp_node.specs.Parts.{Parts}

-- the bytes are a word, and nothing has changed, or the connection took them
abbrev pub Starts : ℕ → ℕ → List ℕ → Parts → Start → Parts → Type 0
Starts now k bytes x (start.Word w) y = IsWordAt x.seating k bytes w × (y ≡ x)
Starts now k bytes x (start.Read r) y = (is_word r.taken.end ≡ false) × ((text : List ℕ → List ℕ) → IsFed now k text bytes x r y)

-- the parts with connection k as f makes it
abbrev pub with_put : List ℕ → Parts → ℕ → Parts
with_put text p k = record p { seating = conn_changed (put text) p.seating k }

abbrev pub with_unput : Parts → ℕ → Parts
with_unput p k = record p { seating = conn_changed taken_back p.seating k }

-- it is over, and one event more was taken
abbrev pub with_closed : Parts → ℕ → Parts
with_closed p k = record p { seating = left (conn_changed (closed false) p.seating k) k }

-- what is given of a word that asks for an image
abbrev pub given_image : Read → RaftOut Snapshot → Option Snapshot → Standing → Outcome
given_image r out image standing = record { said = says.Fed fed.Taken; records = out.records; image = image; mail = out.mail; cut = None; lost = r.lost; standing = standing; ready = r.ready }

-- what came of a word, where these were idle before
abbrev pub word_read : Seats → ℕ → List ℕ → List ℕ → Read
word_read seats k idle w = record { taken = record { handed = record { records = []; mail = [] }; end = ends.Word w }; ready = ready_among seats idle; lost = length (lost_among seats (k ∷ [])) }
