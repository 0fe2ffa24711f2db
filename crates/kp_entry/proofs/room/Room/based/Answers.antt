use Rattle.std.proofs.Common.{◌∙◌}
use Rattle.kp_entry.proofs.Runs.{base_holds}
use Rattle.kp_entry.proofs.room.Room.based.Goals as goal

pub from_parts-requires : goal.from_parts-requires
from_parts-requires c = (base_holds c.args.self.pieces.strings c.add_vote.new.pieces.strings c.args.vote (record { index = c.args.index; term = c.args.term }) c.args.self.empty c.add_vote.ensures.added c.requires.vote c.add_vote.ensures.len c.requires.index c.requires.term).0

pub returns : goal.returns
returns c = c.from_parts.ensures ∙ (base_holds c.args.self.pieces.strings c.add_vote.new.pieces.strings c.args.vote (record { index = c.args.index; term = c.args.term }) c.args.self.empty c.add_vote.ensures.added c.requires.vote c.add_vote.ensures.len c.requires.index c.requires.term).1
