-- The runs of changed rules: what comes out is computed.
use Rattle.std.proofs.Common.{◌≡◌, ℕ, refl, ap, ◌∙◌, [], ◌∷◌, Option, None, Some}
use Rattle.std.specs.Prelude.{slice_get}
use Rattle.kp_jute.specs.Jute.{unsigned}
use Rattle.kp_raft.specs.Parts.{Running}
use Rattle.kp_raft.specs.Steps.{on_delivery}
use Rattle.kp_world.specs.Net.{Net, Sent, Step, At, Comes, Event, Does, Tears, Starts, Commits, happens, heard, heard_by, steps, run}
use Rattle.kp_world.specs.ChangedRuns.{ChangeAlone, delivered_by, came_by, steps_by, happens_by, LogsAreCompared, VotesAreSingle, VotesAreRecorded, TermsAreLookedAt, TailsAreDropped}

delivered_same : (n : ℕ) (w : Net ℕ) (m : Sent ℕ) (j : ℕ) (stop : Option ℕ) (v : Option Running) → delivered_by (on_delivery {I = ℕ}) n w m j stop v ≡ heard_by n w m j stop v
delivered_same n w m j stop None = refl
delivered_same n w m j stop (Some v) = refl

came_same : (n : ℕ) (w : Net ℕ) (j : ℕ) (stop : Option ℕ) (m : Option (Sent ℕ)) → came_by (on_delivery {I = ℕ}) n w j stop m ≡ heard n w j stop m
came_same n w j stop None = refl
came_same n w j stop (Some m) = delivered_same n w m j stop (w.nodes m.to).running

steps_same : (n : ℕ) (w : Net ℕ) (s : Step ℕ) (stop : Option ℕ) → steps_by (on_delivery {I = ℕ}) n w s stop ≡ steps n w s stop
steps_same n w (At k own) stop = refl
steps_same n w (Comes i j) stop = came_same n w j stop (slice_get w.sent i)

happens_same : (n : ℕ) (w : Net ℕ) (e : Event ℕ) → happens_by (on_delivery {I = ℕ}) n w e ≡ happens n w e
happens_same n w (Does s) = steps_same n w s None
happens_same n w (Tears s j) = steps_same n w s (Some j)
happens_same n w (Starts k) = refl
happens_same n w (Commits k) = refl

pub change_alone : ChangeAlone
change_alone n [] w = refl
change_alone n (e ∷ es) w = change_alone n es (happens_by (on_delivery {I = ℕ}) n w e) ∙ ap (run n es) (happens_same n w e)

pub logs_are_compared : LogsAreCompared
unfolding unsigned
logs_are_compared = record { one = refl; three = refl }

pub votes_are_single : VotesAreSingle
unfolding unsigned
votes_are_single = record { one = refl; three = refl }

pub votes_are_recorded : VotesAreRecorded
unfolding unsigned
votes_are_recorded = record { one = refl; three = refl }

pub terms_are_looked_at : TermsAreLookedAt
unfolding unsigned
terms_are_looked_at = record { one = refl; two = refl }

pub tails_are_dropped : TailsAreDropped
unfolding unsigned
tails_are_dropped = record { one = refl; two = refl }
