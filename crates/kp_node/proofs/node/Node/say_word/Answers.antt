use Rattle.std.proofs.Common.{◌≤◌, refl, sym, subst}
use Rattle.std.specs.FinMap as map
use Rattle.kp_entry.specs.Log.{last_index}
use Rattle.kp_conn.specs.Connection.{put}
use Rattle.kp_node.specs.Early.{IsFirstAt}
use Rattle.kp_node.specs.Facts.{words}
use Rattle.kp_node.specs.Parts.{Parts}
use Rattle.kp_node.proofs.FirstFed.{say_given, still_early, word_first}
use Rattle.kp_node.proofs.node.Node.say_word.Goals as goal

pub close_word-requires : goal.close_word-requires
close_word-requires c = subst (λ (z : Parts). IsFirstAt (map.get z.seating.seats c.args.conn)) (sym c.in-Ok.ensures.ok)
    (still_early (put c.args.text.now) (λ d. refl) c.args.self.now.seating c.args.conn (word_first c.args.self.now c.args.conn c.args.bytes.now c.args.word c.args.text.now c.requires.word))

pub returns-in-Ok-clause-ok : goal.returns-in-Ok-clause-ok
returns-in-Ok-clause-ok c = say_given words c.args.now c.args.conn c.args.bytes.now c.args.word c.args.text.now _ _ _ _ _ _ _ _ _ c.self.view_is c.self.invariant
    (subst (λ i. i ≤ last_index c.self.inside.raft.held.log) c.commit-commit.ensures.index c.commit-commit.ensures.to)
    c.last-last.ensures.index c.last-last.ensures.limit c.requires.word c.requires.plain c.requires.text c.in_ok-idle.ensures c.in-Ok.ensures.ok c.close_word.ensures c.count_event.ensures c.read_word-read.ensures c.give_read.ensures
