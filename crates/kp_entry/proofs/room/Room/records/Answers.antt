use Rattle.kp_entry.proofs.Runs.{heads_hold}
use Rattle.std.proofs.Common.{◌∙◌}
use Rattle.kp_entry.proofs.room.Room.records.Goals as goal

pub from_parts-requires : goal.from_parts-requires
from_parts-requires c = (heads_hold c.args.self.pieces.strings c.add_vote.new.pieces.strings c.add_cut.new.pieces.strings c.args.vote c.args.cut c.args.self.empty c.add_vote.ensures.added c.add_cut.ensures.added c.requires.vote c.requires.cut c.add_vote.ensures.len c.add_cut.ensures.len).0

pub returns : goal.returns
returns c = c.from_parts.ensures ∙ (heads_hold c.args.self.pieces.strings c.add_vote.new.pieces.strings c.add_cut.new.pieces.strings c.args.vote c.args.cut c.args.self.empty c.add_vote.ensures.added c.add_cut.ensures.added c.requires.vote c.requires.cut c.add_vote.ensures.len c.add_cut.ensures.len).1
