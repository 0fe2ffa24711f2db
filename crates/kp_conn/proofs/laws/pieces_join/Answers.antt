use Rattle.kp_conn.proofs.Pieces.{pieces_join}
use Rattle.kp_conn.proofs.laws.pieces_join.Goals as goal

pub returns : goal.returns
returns c = pieces_join
