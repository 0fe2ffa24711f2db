use Rattle.std.proofs.Common.{◌≡◌, sym, subst, IfOk}
use Rattle.std.specs.Option.{option_copied}
use Rattle.kp_watch.specs.Watching.{owed}
use Rattle.kp_watch.proofs.again.owed.Goals as goal

pub returns-in-Exist : goal.returns-in-Exist
returns-in-Exist c = subst (λ l. IfOk c.owed_exist.result (λ e. e ≡ owed l c.args.since c.args.path.now (option_copied c.args.meta))) (sym c.in-Exist.is) (c.owed_exist.ensures c.args.since)
