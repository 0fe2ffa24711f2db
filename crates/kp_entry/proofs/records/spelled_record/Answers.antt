use Rattle.kp_entry.proofs.Runs.{read_is}
use Rattle.kp_entry.proofs.records.spelled_record.Goals as goal

pub returns-in-Ok : goal.returns-in-Ok
returns-in-Ok c = read_is c.args.bytes.now c.new.result c.in-Ok.found _ c.new.ensures c.in-Ok.ensures
