use Rattle.kp_snapshot.proofs.Filling.{where_ok}
use Rattle.kp_snapshot.proofs.pour_sessions.pour_session.Goals as goal

pub returns-in-Ok-clause-set : goal.returns-in-Ok-clause-set
returns-in-Ok-clause-set g c = ((c.in_ok-id.id, c.in_ok-id.session), c.in_ok-id.ensures.read, (c.in-Ok.ensures, where_ok c.session-put.result c.if-is_err.ensures.value c.session-put.ensures.set))
