use Rattle.kp_entry.proofs.CommandWrites.{cmd_put}
use Rattle.kp_entry.proofs.put_command.put_cmd.Goals as goal

pub returns-in_ok-put_byte-in-Create : goal.returns-in_ok-put_byte-in-Create
returns-in_ok-put_byte-in-Create c = cmd_put _ _ c.in-Create.is _ _ _ _ c.in_ok-put_byte-in-Create.ensures c.put_creation.ensures

pub returns-in_ok-put_byte-in-Delete : goal.returns-in_ok-put_byte-in-Delete
returns-in_ok-put_byte-in-Delete c = cmd_put _ _ c.in-Delete.is _ _ _ _ c.in_ok-put_byte-in-Delete.ensures c.put_versioned.ensures

pub returns-in_ok-put_byte-in-SetData : goal.returns-in_ok-put_byte-in-SetData
returns-in_ok-put_byte-in-SetData c = cmd_put _ _ c.in-SetData.is _ _ _ _ c.in_ok-put_byte-in-SetData.ensures c.put_setting.ensures

pub returns-in_ok-put_byte-in-SetAcl : goal.returns-in_ok-put_byte-in-SetAcl
returns-in_ok-put_byte-in-SetAcl c = cmd_put _ _ c.in-SetAcl.is _ _ _ _ c.in_ok-put_byte-in-SetAcl.ensures c.put_acl_setting.ensures

pub returns-in_ok-put_byte-in-Check : goal.returns-in_ok-put_byte-in-Check
returns-in_ok-put_byte-in-Check c = cmd_put _ _ c.in-Check.is _ _ _ _ c.in_ok-put_byte-in-Check.ensures c.put_versioned-in-Check.ensures

pub returns-in_ok-put_byte-in-Auth : goal.returns-in_ok-put_byte-in-Auth
returns-in_ok-put_byte-in-Auth c = cmd_put _ _ c.in-Auth.is _ _ _ _ c.in_ok-put_byte-in-Auth.ensures c.put_auth.ensures

pub returns-in_ok-put_byte-in-Multi : goal.returns-in_ok-put_byte-in-Multi
returns-in_ok-put_byte-in-Multi c = cmd_put _ _ c.in-Multi.is _ _ _ _ c.in_ok-put_byte-in-Multi.ensures c.put_list.ensures

pub returns-in_ok-put_byte-in-Sync : goal.returns-in_ok-put_byte-in-Sync
returns-in_ok-put_byte-in-Sync c = cmd_put _ _ c.in-Sync.is _ _ _ _ c.in_ok-put_byte-in-Sync.ensures c.put_text.ensures
