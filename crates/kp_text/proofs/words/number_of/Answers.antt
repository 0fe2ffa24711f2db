use Rattle.std.proofs.Common.{sym, ◌∙◌, arith}
use Rattle.kp_text.proofs.Numerals.{too_large}
use Rattle.kp_text.proofs.words.number_of.Goals as goal

pub returns-in-Err-clause-value : goal.returns-in-Err-clause-value
returns-in-Err-clause-value c = sym (too_large c.args.most c.args.word.now c.in-Err.field-0 (omega arith) c.in-Err.ensures.value.0 (sym c.is_numeral.ensures ∙ c.if-not-is_numeral.false))
