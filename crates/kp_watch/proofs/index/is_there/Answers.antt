use Rattle.std.proofs.Common.{◌∙◌, ap, is_some}
use Rattle.kp_watch.proofs.Cleared.{there}
use Rattle.kp_watch.proofs.index.is_there.Goals as goal

pub returns : goal.returns
returns c =
    c.is_some.ensures ∙ ap is_some c.find_watch.ensures
    ∙ there c.args.book.now.entries c.args.sides.now (record { path = c.args.path.now; kind = c.args.kind; conn = c.args.conn }) c.requires.ordered c.requires.beside
