use Rattle.std.proofs.Common.{sym, ap, ◌∙◌}
use Rattle.kp_words.specs.Answers.{known_word, text_of}
use Rattle.kp_facts.proofs.Asked.{tells, told_by}
use Rattle.kp_node.specs.Parts.{node_of}
use Rattle.kp_node.proofs.node.Node.known_text.Goals as goal

pub returns-in-Some : goal.returns-in-Some
returns-in-Some c =
    told_by c.args.known (known_word c.args.word) c.in_ok-facts.facts c.in-Some.text (sym c.in_ok-told.ensures ∙ c.in-Some.is) c.requires
    ∙ ap (text_of c.args.known) c.in_ok-facts.ensures.facts
    ∙ tells c.args.known (node_of c.args.self.now)
