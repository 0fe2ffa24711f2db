-- Which bytes are a word, and what it is answered.
use Rattle.std.specs.Prelude.{ℕ, List, Option, Some, None, if◌then◌else◌, max}
use Rattle.std.specs.List.{flat_map}
use Rattle.std.specs.Str.{bytes_eq}
use Rattle.std.specs.Fmt.{decimal}
use Rattle.kp_words.specs.declared.facts.Facts.{Facts}
use Rattle.kp_words.specs.declared.word.Word.{Word}
use Rattle.kp_words.specs.declared.word.Word.TheVariants as word
use Rattle.kp_words.specs.Texts.{conn_line, session_paths, watched_path, server_text, stat_text, monitor_text, watch_sums, dump_text, log_text}
use lib.Chars.{codes}

-- the word that four bytes are
unfoldable pub known_word : List ℕ → Option Word
known_word b =
    if bytes_eq b (codes "ruok") then Some word.Runs else
    (if bytes_eq b (codes "isro") then Some word.Writes else
    (if bytes_eq b (codes "srvr") then Some word.Server else
    (if bytes_eq b (codes "cons") then Some word.Connections else
    (if bytes_eq b (codes "stat") then Some word.Stat else
    (if bytes_eq b (codes "mntr") then Some word.Monitor else
    (if bytes_eq b (codes "wchs") then Some word.WatchSums else
    (if bytes_eq b (codes "wchc") then Some word.WatchesByConnection else
    (if bytes_eq b (codes "wchp") then Some word.WatchesByPath else
    (if bytes_eq b (codes "dump") then Some word.Dump else
    (if bytes_eq b (codes "lgif") then Some word.Log else
    (if bytes_eq b (codes "csnp") then Some word.Snapshot else
    None)))))))))))

-- what a word is answered; the image of `csnp` is made in the same step, so it goes up to the last applied entry
abbrev pub text_of : Word → Facts → List ℕ
text_of word.Runs f = codes "imok"
text_of word.Writes f = codes "rw"
text_of word.Server f = server_text f
text_of word.Connections f = flat_map conn_line f.conns
text_of word.Stat f = stat_text f
text_of word.Monitor f = monitor_text f
text_of word.WatchSums f = watch_sums f.counts
text_of word.WatchesByConnection f = flat_map session_paths f.watchers
text_of word.WatchesByPath f = flat_map watched_path f.watched
text_of word.Dump f = dump_text f
text_of word.Log f = log_text f.log
text_of word.Snapshot f = decimal (max f.log.base f.log.applied)

abbrev pub answer_of : Option Word → Facts → Option (List ℕ)
answer_of None f = None
answer_of (Some w) f = Some (text_of w f)
