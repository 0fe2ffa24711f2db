-- The texts of replies, and of the parts of a node.
use Rattle.std.specs.Prelude.{ℕ, ℤ, List, [], ◌∷◌, ◌++◌, length, map, if◌then◌else◌}
use Rattle.std.specs.Fmt.{decimal, signed_decimal}
use Rattle.hex.specs.Hex.{encode_lower}
use Rattle.kp_model.specs.declared.node.Acl.{Acl}
use Rattle.kp_model.specs.declared.node.Meta.{Meta}
use Rattle.kp_model.specs.declared.reply.OpReply.{OpReply}
use Rattle.kp_model.specs.declared.reply.OpReply.TheVariants as opreply
use Rattle.kp_model.specs.declared.reply.Reply.{Reply}
use Rattle.kp_model.specs.declared.reply.Reply.TheVariants as reply
use Rattle.kp_model.specs.declared.session.Session.{Session}
use Rattle.kp_model.specs.Path.{is_empty}
use Rattle.kp_text.specs.Spelling.{spelled_acl}
use lib.Chars.{codes}

-- bytes in lower-case hexadecimal, `-` for none
unfoldable pub data_text : List ℕ → List ℕ
data_text bytes = if is_empty bytes then codes "-" else encode_lower bytes

abbrev pub indexes_text : ℕ → ℕ → ℕ → List ℕ
indexes_text cz mz pz = codes "cz=" ++ (decimal cz ++ (codes " mz=" ++ (decimal mz ++ (codes " pz=" ++ decimal pz))))

abbrev pub times_text : ℕ → ℕ → List ℕ
times_text ct mt = codes " ct=" ++ (decimal ct ++ (codes " mt=" ++ decimal mt))

abbrev pub versions_text : ℕ → ℕ → ℕ → List ℕ
versions_text v cv av = codes " v=" ++ (decimal v ++ (codes " cv=" ++ (decimal cv ++ (codes " av=" ++ decimal av))))

abbrev pub sizes_text : ℕ → ℕ → ℕ → List ℕ
sizes_text own len kids = codes " own=" ++ (decimal own ++ (codes " len=" ++ (decimal len ++ (codes " kids=" ++ decimal kids))))

-- the numbers of a node
unfoldable pub stat_text : Meta → List ℕ
stat_text m = indexes_text m.czxid m.mzxid m.pzxid ++ (times_text m.ctime m.mtime ++ (versions_text m.version m.cversion m.aversion ++ sizes_text m.owner m.len m.kids))

-- what an operation of a multi was answered, as the reply of the same command alone
abbrev pub op_reply_text : OpReply → List ℕ
op_reply_text opreply.Done = codes "ok"
op_reply_text (opreply.Path path) = codes "ok path=" ++ path
op_reply_text (opreply.PathStat path m) = codes "ok path=" ++ path
op_reply_text (opreply.Stat m) = codes "ok " ++ stat_text m

abbrev pub error_text : ℤ → List ℕ
error_text code = codes "err=" ++ signed_decimal code

-- texts, each behind ` | `
abbrev pub further_text : List (List ℕ) → List ℕ
further_text [] = []
further_text (part ∷ parts) = codes " | " ++ (part ++ further_text parts)

-- texts with ` | ` between two, behind a space; nothing where there is none
abbrev pub parts_text : List (List ℕ) → List ℕ
parts_text [] = []
parts_text (part ∷ parts) = codes " " ++ (part ++ further_text parts)

-- the replies of further operations, and further errors
abbrev pub replies_text : List OpReply → List ℕ
replies_text replies = further_text (map op_reply_text replies)

abbrev pub errors_text : List ℤ → List ℕ
errors_text errors = further_text (map error_text errors)

-- a reply
unfoldable pub reply_text : Reply → List ℕ
reply_text reply.Stale = codes "stale"
reply_text (reply.Err code) = error_text code
reply_text reply.Done = codes "ok"
reply_text (reply.Session id) = codes "ok session=" ++ decimal id
reply_text (reply.Epoch epoch) = codes "ok epoch=" ++ decimal epoch
reply_text (reply.Path path) = codes "ok path=" ++ path
reply_text (reply.PathStat path m) = codes "ok path=" ++ path
reply_text (reply.Stat m) = codes "ok " ++ stat_text m
reply_text (reply.Multi replies) = codes "multi " ++ (decimal (length replies) ++ (codes ":" ++ parts_text (map op_reply_text replies)))
reply_text (reply.Failed errors) = codes "fail " ++ (decimal (length errors) ++ (codes ":" ++ parts_text (map error_text errors)))

-- names, each behind a space
abbrev pub names_text : List (List ℕ) → List ℕ
names_text [] = []
names_text (name ∷ names) = codes " " ++ (name ++ names_text names)

-- the lines of an access list, each behind a space
abbrev pub acls_text : List Acl → List ℕ
acls_text [] = []
acls_text (a ∷ more) = codes " " ++ (spelled_acl a ++ acls_text more)

-- the numbers of a session, and how many ids it has shown
unfoldable pub session_text : Session → List ℕ
session_text x = codes "timeout=" ++ (decimal x.timeout ++ (codes " epoch=" ++ (decimal x.epoch ++ (codes " seq=" ++ (decimal x.seq ++ (codes " ids=" ++ decimal (length x.ids)))))))
