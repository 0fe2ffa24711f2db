use Rattle.kp_entry.proofs.CommandWrites.{op_put}
use Rattle.kp_entry.proofs.put_command.put_op.Goals as goal

pub returns-in_ok-put_byte-in-Create : goal.returns-in_ok-put_byte-in-Create
returns-in_ok-put_byte-in-Create c = op_put _ _ c.in-Create.is _ _ _ _ c.in_ok-put_byte-in-Create.ensures c.put_creation.ensures

pub returns-in_ok-put_byte-in-Delete : goal.returns-in_ok-put_byte-in-Delete
returns-in_ok-put_byte-in-Delete c = op_put _ _ c.in-Delete.is _ _ _ _ c.in_ok-put_byte-in-Delete.ensures c.put_versioned.ensures

pub returns-in_ok-put_byte-in-SetData : goal.returns-in_ok-put_byte-in-SetData
returns-in_ok-put_byte-in-SetData c = op_put _ _ c.in-SetData.is _ _ _ _ c.in_ok-put_byte-in-SetData.ensures c.put_setting.ensures

pub returns-in_ok-put_byte-in-Check : goal.returns-in_ok-put_byte-in-Check
returns-in_ok-put_byte-in-Check c = op_put _ _ c.in-Check.is _ _ _ _ c.in_ok-put_byte-in-Check.ensures c.put_versioned-in-Check.ensures
