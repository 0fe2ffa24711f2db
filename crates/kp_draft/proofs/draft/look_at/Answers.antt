use Rattle.kp_draft.proofs.Drafted.{exact_kids}
use Rattle.kp_draft.proofs.draft.look_at.Goals as goal

pub returns-then-meta-lt-LAST_COUNT : goal.returns-then-meta-lt-LAST_COUNT
returns-then-meta-lt-LAST_COUNT g c = record { meta = c.requires; kids = exact_kids (g.V.View.state c.args.view.now).nodes c.args.path.now c.args.meta c.requires c.if-meta-lt-LAST_COUNT.true }
