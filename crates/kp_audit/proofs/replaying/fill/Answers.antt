use Rattle.std.proofs.lemmas.Result.{on_ok_weaker}
use Rattle.kp_audit.proofs.Adding.{room_behind, all_behind}
use Rattle.kp_audit.proofs.replaying.fill.Goals as goal

pub add_all-requires : goal.add_all-requires
add_all-requires c = record { room = room_behind c.take_base.new.store c.args.image.now c.args.rest.now c.in_ok-take_base.ensures.value c.requires.room }

pub returns-clause-value : goal.returns-clause-value
returns-clause-value c = on_ok_weaker c.add_all.result (λ e. all_behind c.take_base.new.store c.add_all.new.store c.args.image.now c.args.rest.now c.in_ok-take_base.ensures.value e) c.add_all.ensures
