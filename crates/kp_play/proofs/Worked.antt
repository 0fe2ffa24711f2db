-- Scripts of three members: what is printed is computed.
use Rattle.std.proofs.Common.{refl}
use Rattle.kp_jute.specs.Jute.{unsigned}
use Rattle.kp_model.specs.State.{empty}
use Rattle.kp_model.specs.Step.{take_body, apply}
use Rattle.kp_step.specs.Asking.{reacted, installed, asked}
use Rattle.kp_step.specs.Committing.{greeted, committed}
use Rattle.kp_step.specs.Step.{turned, together, step}
use Rattle.kp_script.specs.Messages.{said_text}
use Rattle.kp_play.specs.Texts as texts
use Rattle.kp_play.specs.Texts.{state_text, up_text, letters_text, look_text}
use Rattle.kp_play.specs.Keeping.{put, put_image, replayed, kept, torn}
use Rattle.kp_play.specs.Playing.{event_of, line_turn, plays}
use Rattle.kp_entry.specs.Records.{spelled}
use Rattle.kp_play.specs.Worked.{ScriptsAreAsWorked}

pub as_worked : ScriptsAreAsWorked
unfolding step together reacted installed asked turned empty apply take_body unsigned committed greeted texts.said_text said_text state_text up_text letters_text look_text put put_image replayed kept torn event_of line_turn plays spelled
as_worked = record { elected = refl; committed = refl; restarted = refl; held = refl }
