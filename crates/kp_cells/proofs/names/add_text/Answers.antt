use Rattle.std.proofs.Common.{◌<◌, arith}
use Rattle.std.specs.HashMap.{spare}
use Rattle.kp_cells.proofs.Named.{texts_put, on_ok}
use Rattle.kp_cells.proofs.names.add_text.Goals as goal

pub returns : goal.returns
returns c =
    let room : 0 < spare c.args.texts.now = omega (arith, c.requires) in
    texts_put _ _ c.args.number c.args.path (on_ok _ (c.insert.ensures.succeeds room) c.insert.ensures.updates).0
