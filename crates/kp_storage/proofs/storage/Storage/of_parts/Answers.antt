use Rattle.std.proofs.Common.{length, ap, ◌∙◌}
use Rattle.kp_model.specs.Store.{Store}
use Rattle.kp_storage.specs.Kept.{with_all}
use Rattle.kp_storage.proofs.Adding.{room_behind}
use Rattle.kp_storage.proofs.storage.Storage.of_parts.Goals as goal

pub add_all-requires : goal.add_all-requires
add_all-requires c = record { room = room_behind c.in_ok-made.made c.args.image.now.state (length c.args.rest.now) c.in_ok-made.ensures c.requires.room }

pub returns-in-Ok : goal.returns-in-Ok
returns-in-Ok c = c.in-Ok.ensures ∙ ap (λ (x : Store). with_all x c.args.rest.now) c.in_ok-made.ensures
