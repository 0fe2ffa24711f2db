use Rattle.kp_entry.specs.Fields.{acls}
use Rattle.kp_entry.proofs.FieldLaws.{numbers_lawful, timeouts_lawful, blobs_lawful, strings_lawful, passwords_lawful, origins_lawful, acls_lawful, lists_lawful}
use Rattle.kp_entry.proofs.EntryLaws.{cmds_lawful, entries_lawful}
use Rattle.kp_entry.proofs.RecordLaws.{records_lawful}
use Rattle.kp_entry.proofs.promises.laws.Goals as goal

pub returns-clause-number : goal.returns-clause-number
returns-clause-number c = numbers_lawful

pub returns-clause-timeout : goal.returns-clause-timeout
returns-clause-timeout c = timeouts_lawful

pub returns-clause-bytes : goal.returns-clause-bytes
returns-clause-bytes c = blobs_lawful

pub returns-clause-text : goal.returns-clause-text
returns-clause-text c = strings_lawful

pub returns-clause-password : goal.returns-clause-password
returns-clause-password c = passwords_lawful

pub returns-clause-origin : goal.returns-clause-origin
returns-clause-origin c = origins_lawful

pub returns-clause-acl : goal.returns-clause-acl
returns-clause-acl c = lists_lawful acls acls_lawful

pub returns-clause-command : goal.returns-clause-command
returns-clause-command c = cmds_lawful

pub returns-clause-entry : goal.returns-clause-entry
returns-clause-entry c = entries_lawful

pub returns-clause-step : goal.returns-clause-step
returns-clause-step c = records_lawful
