use Rattle.std.proofs.Common.{lit<}
use Rattle.std.proofs.lemmas.Str.Pattern.{split_parts}
use Rattle.kp_text.proofs.AclTexts.{cut_gives}
use Rattle.kp_text.proofs.acl.cut_at_colon.Goals as goal

pub returns : goal.returns
returns c = cut_gives c.args.word.now c.split_once.result (split_parts 58 c.args.word.now c.split_once.result c.split_once.ensures.cases (lit< tt))
