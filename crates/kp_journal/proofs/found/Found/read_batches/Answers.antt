use Rattle.std.proofs.Common.{Bool, Ok, drop, subst}
use Rattle.std.proofs.lemmas.Result.{err_from_is_err_and}
use Rattle.kp_journal.specs.Answers.{TellsGate}
use Rattle.kp_journal.proofs.Batches.{frames_go_on, batch_fails, gate_fails, frames_end}
use Rattle.kp_journal.proofs.found.Found.read_batches.Goals as goal

pub returns-in_err-is_gate_open-clause-read : goal.returns-in_err-is_gate_open-clause-read
returns-in_err-is_gate_open-clause-read c =
    let p = err_from_is_err_and c.from_residual.result c.from_residual.ensures.1 in
    rw (p.1, p.2) (gate_fails c.loop-self.self c.loop-self.gate c.args.bytes.now c.in_err-is_gate_open.field-0.0 _ c.loop-self.invariant c.in_err-is_gate_open.ensures)

pub returns-in_err-gate-clause-read : goal.returns-in_err-gate-clause-read
returns-in_err-gate-clause-read c =
    let p = err_from_is_err_and c.from_residual-in_err-gate.result c.from_residual-in_err-gate.ensures.1 in
    let tells = subst (λ (b : Bool). TellsGate (Ok b) c.loop-self.gate (drop c.loop-self.gate c.args.bytes.now)) c.if-branch.true c.in_ok-is_gate_open.ensures in
    rw (p.1, p.2) (batch_fails c.loop-self.self c.loop-self.gate c.args.bytes.now c.in_err-gate.field-0.0 _ c.loop-self.invariant tells c.in_err-gate.ensures)

pub loop-self-preserved : goal.loop-self-preserved
loop-self-preserved c =
    let tells = subst (λ (b : Bool). TellsGate (Ok b) c.loop-self.gate (drop c.loop-self.gate c.args.bytes.now)) c.if-branch.true c.in_ok-is_gate_open.ensures in
    frames_go_on c.loop-self.self c.read_batch.new.self c.loop-self.gate c.in_ok-gate.gate c.args.bytes.now _ c.loop-self.invariant tells c.in_ok-gate.ensures

pub returns-clause-read : goal.returns-clause-read
returns-clause-read c =
    let tells = subst (λ (b : Bool). TellsGate (Ok b) c.loop-self.gate (drop c.loop-self.gate c.args.bytes.now)) c.if-branch.false c.in_ok-is_gate_open.ensures in
    (frames_end c.loop-self.self c.loop-self.gate c.args.bytes.now _ c.loop-self.invariant tells).0
