use Rattle.std.proofs.Common.{lit<, not, rules, tests}
use Rattle.std.proofs.lemmas.Iterator.Search.{all_from_yields_List}
use Rattle.std.proofs.lemmas.Iterator.Splits.{YieldsList-from_str_split}
use Rattle.kp_model.specs.Path.{is_empty}
use Rattle.kp_text.specs.Words.{words_of}
use Rattle.kp_text.proofs.shape.has_no_empty_word.Goals as goal

pub returns : goal.returns
unfolding words_of
returns c =
    all_from_yields_List (λ w. not (is_empty w)) _ _ c.all.result c.all.ensures.ran
    (YieldsList-from_str_split {s = c.split.result} 32 c.args.line.now (lit< tt) c.split.ensures.text c.split.ensures.has_more c.split.ensures.pattern) (λ x b q k. search (rules, tests))
