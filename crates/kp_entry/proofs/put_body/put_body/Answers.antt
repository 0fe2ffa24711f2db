use Rattle.kp_entry.proofs.BodyWrites.{body_put}
use Rattle.kp_entry.proofs.put_body.put_body.Goals as goal

pub returns-in_ok-put_byte-in-OpenSession : goal.returns-in_ok-put_byte-in-OpenSession
returns-in_ok-put_byte-in-OpenSession c = body_put _ _ c.in-OpenSession.is _ _ _ _ c.in_ok-put_byte-in-OpenSession.ensures c.put_opening.ensures

pub returns-in_ok-put_byte-in-Attach : goal.returns-in_ok-put_byte-in-Attach
returns-in_ok-put_byte-in-Attach c = body_put _ _ c.in-Attach.is _ _ _ _ c.in_ok-put_byte-in-Attach.ensures c.put_attachment.ensures

pub returns-in_ok-put_byte-in-Expire : goal.returns-in_ok-put_byte-in-Expire
returns-in_ok-put_byte-in-Expire c = body_put _ _ c.in-Expire.is _ _ _ _ c.in_ok-put_byte-in-Expire.ensures c.put_number.ensures

pub returns-in_ok-put_byte-in-Write : goal.returns-in_ok-put_byte-in-Write
returns-in_ok-put_byte-in-Write c = body_put _ _ c.in-Write.is _ _ _ _ c.in_ok-put_byte-in-Write.ensures c.put_write.ensures
