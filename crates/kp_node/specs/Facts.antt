-- What a node answers to a word.
use Rattle.std.specs.Prelude.{[], unwrap_or}
use Rattle.kp_words.specs.Answers.{answer_of, known_word}
use Rattle.kp_facts.specs.Facts.{facts_of}
use Rattle.kp_step.specs.Asking.{Words}

-- what the four-letter words tell of the node's facts; nothing where the bytes are none of them
abbrev pub words : Words
words x word = unwrap_or (answer_of (known_word word) (facts_of x)) []
