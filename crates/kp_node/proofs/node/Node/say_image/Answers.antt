use Rattle.kp_node.specs.Facts.{words}
use Rattle.kp_node.proofs.FirstFed.{image_first, image_given, word_first}
use Rattle.kp_node.proofs.node.Node.say_image.Goals as goal

pub close_word-requires : goal.close_word-requires
close_word-requires c = image_first c.args.text.now c.args.self.now c.compact_behind.new.self c.args.conn c.in-Ok-compact_behind.out (word_first c.args.self.now c.args.conn c.args.bytes.now c.args.word c.args.text.now c.requires.word) c.in-Ok-compact_behind.ensures.ok

pub returns-in-Ok-compact_behind-clause-ok : goal.returns-in-Ok-compact_behind-clause-ok
returns-in-Ok-compact_behind-clause-ok c = image_given words c.args.now c.args.conn c.args.bytes.now c.args.word c.args.text.now _ _ c.args.self.now c.compact_behind.new.self c.close_word.new.self c.in-Ok-compact_behind.out c.in-Ok.image _ _ c.self.view_is c.self.invariant c.requires.word c.requires.image c.requires.text
    c.in_ok-idle.ensures c.in-Ok.ensures c.in-Ok-compact_behind.ensures.ok c.close_word.ensures c.read_word-read.ensures c.give_image.ensures
