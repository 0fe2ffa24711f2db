use Rattle.kp_wire.proofs.CommonLaws.{stats_lawful, wire_acls_lawful}
use Rattle.kp_wire.proofs.ConnectLaws.{connect_packets_lawful, connect_answer_packets_lawful}
use Rattle.kp_wire.proofs.PacketLaws.{server_packets_lawful}
use Rattle.kp_wire.proofs.RequestLaws.{request_packets_lawful}
use Rattle.kp_wire.proofs.promises.laws.Goals as goal

pub returns-clause-request : goal.returns-clause-request
returns-clause-request c = request_packets_lawful

pub returns-clause-stat : goal.returns-clause-stat
returns-clause-stat c = stats_lawful

pub returns-clause-acl : goal.returns-clause-acl
returns-clause-acl c = wire_acls_lawful

pub returns-clause-answer : goal.returns-clause-answer
returns-clause-answer c = server_packets_lawful

pub returns-clause-connect : goal.returns-clause-connect
returns-clause-connect c = connect_packets_lawful

pub returns-clause-connect_reply : goal.returns-clause-connect_reply
returns-clause-connect_reply c = connect_answer_packets_lawful
