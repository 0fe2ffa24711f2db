use Rattle.kp_audit.proofs.Telling.{found_audits, refuses, complete_found, complete_refused}
use Rattle.kp_audit.proofs.auditing.audit.Goals as goal

pub returns-in-Ok-clause-text : goal.returns-in-Ok-clause-text
returns-in-Ok-clause-text g c b holds = found_audits c.args.node b c.in-Ok.live c.print_found.result c.args.out.now.items c.print_found.new.out.items (c.in-Ok.ensures.found b holds) c.print_found.ensures.ok c.print_found.ensures.only

pub returns-in-Err-clause-text : goal.returns-in-Err-clause-text
returns-in-Err-clause-text g c b holds = refuses c.args.node b c.args.out.now.items c.args.out.now.items c.in-Err.fail c.fail_of.result c.fail_of.ensures (c.in-Err.ensures.found b holds)

pub returns-in-Ok-clause-complete : goal.returns-in-Ok-clause-complete
returns-in-Ok-clause-complete g c b t holds is quiet = complete_found c.print_found.result c.print_found.ensures.only

pub returns-in-Err-clause-complete : goal.returns-in-Err-clause-complete
returns-in-Err-clause-complete g c b t holds is quiet = complete_refused c.args.node b t c.in-Err.fail c.fail_of.result c.fail_of.ensures (c.in-Err.ensures.found b holds) is c.in-Err.ensures.fault quiet
