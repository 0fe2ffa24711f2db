-- A word tells of no more than is made for it.
use Rattle.std.proofs.Common.{◌≡◌, ℕ, List, [], Option, Some, refl, ap, sym, ◌∙◌}
use Rattle.std.specs.Prelude.{unwrap_or}
use Rattle.kp_words.specs.declared.facts.Facts.{Facts}
use Rattle.kp_words.specs.declared.word.Word.{Word}
use Rattle.kp_words.specs.Answers.{text_of, answer_of}
use Rattle.kp_words.specs.declared.word.Word.TheVariants as word
use Rattle.kp_words.specs.Texts.{server_text, stat_text, monitor_text, watch_sums, dump_text, count_lines, monitored}
use Rattle.kp_facts.specs.Asked.{AskedTell}

pub tells : AskedTell
unfolding server_text stat_text monitor_text watch_sums dump_text count_lines monitored
tells word.Runs x = refl
tells word.Writes x = refl
tells word.Server x = refl
tells word.Connections x = refl
tells word.Stat x = refl
tells word.Monitor x = refl
tells word.WatchSums x = refl
tells word.WatchesByConnection x = refl
tells word.WatchesByPath x = refl
tells word.Dump x = refl
tells word.Log x = refl
tells word.Snapshot x = refl

-- the text that is told of a word
pub told_by : (w : Word) (k : Option Word) (f : Facts) (text : List ℕ) → answer_of k f ≡ Some text → k ≡ Some w → text ≡ text_of w f
told_by w k f text h is = ap (λ o. unwrap_or o []) (sym h ∙ ap (λ r. answer_of r f) is)
