-- Runs of a world of three members: what comes out is computed.
use Rattle.std.proofs.Common.{refl}
use Rattle.kp_jute.specs.Jute.{unsigned}
use Rattle.kp_model.specs.State.{empty}
use Rattle.kp_model.specs.Step.{take_body, apply}
use Rattle.kp_step.specs.Asking.{reacted, installed, asked}
use Rattle.kp_step.specs.Committing.{greeted, committed}
use Rattle.kp_step.specs.Step.{turned, together, step}
use Rattle.kp_cluster.specs.WorldRuns.{EntryIsApplied, ImageIsTaken}

pub entry_is_applied : EntryIsApplied
unfolding step together reacted installed asked turned empty apply take_body unsigned committed greeted
entry_is_applied = record { one = refl; two = refl; three = refl }

pub image_is_taken : ImageIsTaken
unfolding step together reacted installed asked turned empty apply take_body unsigned committed greeted
image_is_taken = record { taken = refl; kept = refl; base = refl; boot = refl }
