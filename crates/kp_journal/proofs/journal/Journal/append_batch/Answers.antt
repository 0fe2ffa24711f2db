use Rattle.std.proofs.Common.{◌≡◌, inl, sym, ◌∙◌, ap}
use Rattle.kp_journal.specs.Gates.{Appended}
use Rattle.kp_journal.specs.Journals.{Journaled, IsWithOrWithout}
use Rattle.kp_journal.proofs.Standing.{left_at, gate_in, done_at}
use Rattle.kp_journal.proofs.Staging.{still, wider}
use Rattle.kp_journal.proofs.journal.Journal.append_batch.Goals as goal

pub returns-then-len-gt-MOST-clause-crash : goal.returns-then-len-gt-MOST-clause-crash
returns-then-len-gt-MOST-clause-crash g c xs v held e is settled room = still _ (IsWithOrWithout c.args.self.now.head.node v c.args.records.now) xs _ settled (inl e)

pub append-requires-clause-there : goal.append-requires-clause-there
append-requires-clause-there g c = gate_in c.args.self.now c.self.inside.gate _ (ap (λ (j : Journaled). j.gate) c.self.view_is) c.requires.stands

pub returns-in_err-append-clause-crash : goal.returns-in_err-append-clause-crash
returns-in_err-append-clause-crash g c xs v held e is settled room =
    let gate_is : c.self.inside.gate ≡ c.args.self.now.gate = ap (λ (j : Journaled). j.gate) c.self.view_is in
    wider _ _ (Appended c.self.inside.gate c.bytes-body.result.now xs) (IsWithOrWithout c.args.self.now.head.node v c.args.records.now) _ _ (c.append.ensures.crash xs held settled room)
    (λ d left. left_at c.args.self.now.head.node c.self.inside.gate xs d c.bytes-body.result.now v c.args.records.now e (is ∙ sym gate_is) c.bytes-body.ensures.spelled c.bytes-body.ensures.run c.requires.no_base c.bytes-body.ensures.small left)

pub returns-clause-done : goal.returns-clause-done
returns-clause-done g c xs v held e is =
    let gate_is : c.self.inside.gate ≡ c.args.self.now.gate = ap (λ (j : Journaled). j.gate) c.self.view_is in
    done_at c.args.self.now.head.node c.self.inside.gate xs c.bytes-body.result.now v c.args.records.now _ _ held e (is ∙ sym gate_is) c.bytes-body.ensures.spelled c.bytes-body.ensures.run c.requires.no_base c.bytes-body.ensures.small c.in_ok-append.ensures.held

pub returns-clause-crash : goal.returns-clause-crash
returns-clause-crash g c xs v held e is settled room =
    let gate_is : c.self.inside.gate ≡ c.args.self.now.gate = ap (λ (j : Journaled). j.gate) c.self.view_is in
    wider _ _ (Appended c.self.inside.gate c.bytes-body.result.now xs) (IsWithOrWithout c.args.self.now.head.node v c.args.records.now) _ _ (c.append.ensures.crash xs held settled room)
    (λ d left. left_at c.args.self.now.head.node c.self.inside.gate xs d c.bytes-body.result.now v c.args.records.now e (is ∙ sym gate_is) c.bytes-body.ensures.spelled c.bytes-body.ensures.run c.requires.no_base c.bytes-body.ensures.small left)
