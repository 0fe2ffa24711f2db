use Rattle.std.proofs.Common.{◌∙◌, ap}
use Rattle.std.specs.FinMap as map
use Rattle.kp_node.specs.Guests.{swapped, conn_in}
use Rattle.kp_node.proofs.Asides.{aside_so}
use Rattle.kp_node.proofs.guests.set_aside.Goals as goal

pub returns-clause-ok : goal.returns-clause-ok
returns-clause-ok c = aside_so c.args.welcome.now c.args.number c.args.seats.now c.greet_at.new.seats c.swap_conn-conn.new.seats c.in_ok-fed.fed c.swap_conn-conn.result c.in_ok-fed.ensures.ok
    (c.swap_conn-conn.ensures.seats ∙ ap (λ z. swapped c.greet_at.new.seats c.args.number z (map.get c.greet_at.new.seats.seats c.args.number)) c.new.ensures)
    (c.swap_conn-conn.ensures.conn ∙ ap (λ z. conn_in z (map.get c.greet_at.new.seats.seats c.args.number)) c.new.ensures)
