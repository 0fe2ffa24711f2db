use Rattle.std.proofs.Common.{◌≡◌, subst, Ok}
use Rattle.std.proofs.lemmas.Result.{err_from_is_err_and}
use Rattle.kp_wire.specs.OpResults.{lead_forms}
use Rattle.kp_wire.proofs.ResultSteps.{listed_mark, closing_ok, closing_fails}
use Rattle.kp_wire.proofs.result.read_mark.Goals as goal

pub returns-in_err-is_last-in-Closing : goal.returns-in_err-is_last-in-Closing
returns-in_err-is_last-in-Closing c =
    let p = err_from_is_err_and c.from_residual-in_err-is_last-in-Closing.result c.from_residual-in_err-is_last-in-Closing.ensures.1 in
    rw (p.1, p.2) (closing_fails c.args.reader.now c.read_lead.new.reader c.in_err-is_last-in-Closing.field-0.0 (subst (λ l. lead_forms.read c.args.reader.now ≡ Ok (l, c.read_lead.new.reader)) c.in-Closing.is c.in_ok-lead.ensures) c.in_err-is_last-in-Closing.ensures.read)

pub returns-in-Listed : goal.returns-in-Listed
returns-in-Listed c = listed_mark c.args.reader.now c.read_lead.new.reader c.in-Listed.kind (subst (λ l. lead_forms.read c.args.reader.now ≡ Ok (l, c.read_lead.new.reader)) c.in-Listed.is c.in_ok-lead.ensures)

pub returns-in_ok-is_last-in-Closing : goal.returns-in_ok-is_last-in-Closing
returns-in_ok-is_last-in-Closing c = rw c.closing_mark.ensures (closing_ok c.args.reader.now c.read_lead.new.reader c.boolean.new.self c.in_ok-is_last-in-Closing.is_last (subst (λ l. lead_forms.read c.args.reader.now ≡ Ok (l, c.read_lead.new.reader)) c.in-Closing.is c.in_ok-lead.ensures) c.in_ok-is_last-in-Closing.ensures.read)
