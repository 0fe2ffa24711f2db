use Rattle.kp_act.proofs.Seen.{find_malformed}
use Rattle.kp_act.proofs.checks.find.Goals as goal

pub returns-in-Err : goal.returns-in-Err
returns-in-Err g c = find_malformed (g.L.Look.nodes c.args.look.now) c.args.ids.now c.args.path.now c.args.perm c.args.version c.in-Err.ensures
