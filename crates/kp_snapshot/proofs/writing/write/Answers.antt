use Rattle.std.proofs.Common.{◌∙◌}
use Rattle.kp_snapshot.specs.Snapshots.{snapshot_at}
use Rattle.kp_snapshot.proofs.Spelled.{stands_for}
use Rattle.kp_snapshot.proofs.PartWrites.{spelled_by, is_image_of}
use Rattle.kp_snapshot.proofs.writing.write.Goals as goal

pub of_spelling-requires : goal.of_spelling-requires
of_spelling-requires g c = is_image_of (snapshot_at (g.V.View.state c.args.view.now) c.args.index c.args.term) c.new-bytes.result.items c.put_parts.new.out.items c.new-bytes.ensures.items c.in-Ok.ensures

pub returns-in-Ok : goal.returns-in-Ok
returns-in-Ok g c =
    let s = snapshot_at (g.V.View.state c.args.view.now) c.args.index c.args.term in
    c.of_spelling.ensures ∙ stands_for s c.put_parts.new.out.items c.in-Ok.ensures.fits (spelled_by s c.new-bytes.result.items c.put_parts.new.out.items c.new-bytes.ensures.items c.in-Ok.ensures)
