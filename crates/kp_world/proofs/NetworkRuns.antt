-- The runs of networks of three members: what comes out is computed.
use Rattle.std.proofs.Common.{refl}
use Rattle.kp_jute.specs.Jute.{unsigned}
use Rattle.kp_world.specs.NetworkRuns.{LeaderIsElected, EntriesAreApplied, EntriesAreDropped, StepIsTorn, ImageIsTaken}

pub leader_is_elected : LeaderIsElected
unfolding unsigned
leader_is_elected = refl

pub entries_are_applied : EntriesAreApplied
unfolding unsigned
entries_are_applied = refl

pub entries_are_dropped : EntriesAreDropped
unfolding unsigned
entries_are_dropped = record { kept = refl; one = refl; two = refl }

pub step_is_torn : StepIsTorn
unfolding unsigned
step_is_torn = record { none = refl; term = refl; cut = refl; all = refl }

pub image_is_taken : ImageIsTaken
unfolding unsigned
image_is_taken = record { done = refl; kept = refl }
