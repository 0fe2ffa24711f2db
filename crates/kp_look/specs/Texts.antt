-- What looks at a storage print.
use Rattle.std.specs.Prelude.{ℕ, List, ◌++◌, length, Option, Some, None}
use Rattle.std.specs.Fmt.{decimal}
use Rattle.std.specs.Option.{option_map}
use Rattle.std.specs.FinMap as map
use Rattle.kp_model.specs.declared.node.Acl.{Acl}
use Rattle.kp_model.specs.declared.node.Meta.{Meta}
use Rattle.kp_model.specs.declared.node.Seen.{Seen}
use Rattle.kp_model.specs.declared.session.Session.{Session}
use Rattle.kp_model.specs.State.{Nodes, kids}
use Rattle.kp_text.specs.Texts.{data_text, stat_text, names_text, acls_text, session_text}
use lib.Chars.{codes}

-- the names of the children of the node at a path, ascending, where there is one
unfoldable pub kids_at : Nodes → List ℕ → Option (List (List ℕ))
kids_at nodes path = option_map (λ _. kids nodes path) (map.get nodes path)

-- the data and the numbers of a node, where there are both
abbrev pub shown : Option (List ℕ) → Option Meta → Option Seen
shown (Some bytes) (Some meta) = Some (record { bytes = bytes; meta = meta })
shown _ _ = None

-- a node, or none
unfoldable pub seen_text : List ℕ → Option Seen → List ℕ
seen_text word None = word ++ codes " none"
seen_text word (Some x) = word ++ (codes " " ++ (data_text x.bytes ++ (codes " " ++ stat_text x.meta)))

-- the names of a node's children behind their number, or none
unfoldable pub kids_text : List ℕ → Option (List (List ℕ)) → List ℕ
kids_text word None = word ++ codes " none"
kids_text word (Some names) = word ++ (codes " " ++ (decimal (length names) ++ names_text names))

-- the lines of an access list behind their number, or none
unfoldable pub acl_text : Option (List Acl) → List ℕ
acl_text None = codes "acl none"
acl_text (Some acl) = codes "acl " ++ (decimal (length acl) ++ acls_text acl)

-- a session, or none
unfoldable pub who_text : Option Session → List ℕ
who_text None = codes "who none"
who_text (Some x) = codes "who " ++ session_text x
