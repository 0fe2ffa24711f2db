use Rattle.kp_entry.specs.declared.kinds.RecordKind.TheVariants as record_kind
use Rattle.kp_entry.proofs.RecordWrites.{record_put}
use Rattle.kp_entry.proofs.record.put_record.Goals as goal

pub returns-in_ok-put_byte-in-Vote : goal.returns-in_ok-put_byte-in-Vote
returns-in_ok-put_byte-in-Vote c = record_put record_kind.Vote (c.in-Vote.term, c.in-Vote.vote) _ c.in-Vote.is _ _ _ _ c.in_ok-put_byte-in-Vote.ensures c.put_ballot.ensures

pub returns-in_ok-put_byte-in-Boot : goal.returns-in_ok-put_byte-in-Boot
returns-in_ok-put_byte-in-Boot c = record_put record_kind.Boot c.in-Boot.boot _ c.in-Boot.is _ _ _ _ c.in_ok-put_byte-in-Boot.ensures c.put_number.ensures

pub returns-in_ok-put_byte-in-Append : goal.returns-in_ok-put_byte-in-Append
returns-in_ok-put_byte-in-Append c = record_put record_kind.Append c.in-Append.entry _ c.in-Append.is _ _ _ _ c.in_ok-put_byte-in-Append.ensures c.put_entry.ensures

pub returns-in_ok-put_byte-in-Truncate : goal.returns-in_ok-put_byte-in-Truncate
returns-in_ok-put_byte-in-Truncate c = record_put record_kind.Truncate c.in-Truncate.last _ c.in-Truncate.is _ _ _ _ c.in_ok-put_byte-in-Truncate.ensures c.put_number-in-Truncate.ensures
