-- The events of a script, as a function that reads their words.
use Rattle.std.specs.Prelude.{ℕ, List, [], ◌∷◌, Option, Some, None, if◌then◌else◌}
use Rattle.std.specs.Str.{bytes_eq}
use Rattle.kp_model.specs.Limits.{last_number}
use Rattle.kp_text.specs.Words.{◌>>=◌, number_of, passwd_of, data_of}
use Rattle.kp_text.specs.Lines.{one_number, at_least}
use Rattle.kp_script.specs.declared.event.EventLine.{EventLine}
use Rattle.kp_script.specs.declared.event.EventLine.TheVariants.{Accept, In, Hangup, Drain, Timeout, Deliver, Beat, Commit, Expire, Snap}
use lib.Chars.{codes}

-- the number of a node, from 1 on
abbrev pub node_of : ℕ → List ℕ → Option ℕ
node_of nodes word = number_of nodes word >>= λ n. at_least 1 n

-- one node, and no other word
abbrev pub one_node : ℕ → List (List ℕ) → Option ℕ
one_node nodes (a ∷ []) = node_of nodes a
one_node nodes _ = None

-- `accept n PASS`
unfoldable pub accept_line : ℕ → List (List ℕ) → Option EventLine
accept_line nodes (a ∷ b ∷ []) = do
  node ← node_of nodes a
  draw ← passwd_of b
  Some (Accept node draw)
accept_line nodes _ = None

-- `in n c HEX`
unfoldable pub in_line : ℕ → List (List ℕ) → Option EventLine
in_line nodes (a ∷ b ∷ c ∷ []) = do
  node ← node_of nodes a
  conn ← number_of last_number b
  bytes ← data_of c
  Some (In node conn bytes)
in_line nodes _ = None

-- `hangup n c`
unfoldable pub hangup_line : ℕ → List (List ℕ) → Option EventLine
hangup_line nodes (a ∷ b ∷ []) = do
  node ← node_of nodes a
  conn ← number_of last_number b
  Some (Hangup node conn)
hangup_line nodes _ = None

-- `drain n c`
unfoldable pub drain_line : ℕ → List (List ℕ) → Option EventLine
drain_line nodes (a ∷ b ∷ []) = do
  node ← node_of nodes a
  conn ← number_of last_number b
  Some (Drain node conn)
drain_line nodes _ = None

-- `deliver m`
unfoldable pub deliver_line : List (List ℕ) → Option EventLine
deliver_line ws = one_number ws >>= λ m. Some (Deliver m)

-- `timeout n`, `beat n`, `commit n`, `expire n`, `snap n`
unfoldable pub plain_event : List ℕ → ℕ → Option EventLine
plain_event name n =
    if bytes_eq name (codes "timeout") then Some (Timeout n)
    else (if bytes_eq name (codes "beat") then Some (Beat n)
    else (if bytes_eq name (codes "commit") then Some (Commit n)
    else (if bytes_eq name (codes "expire") then Some (Expire n)
    else (if bytes_eq name (codes "snap") then Some (Snap n) else None))))

unfoldable pub plain_line : ℕ → List ℕ → List (List ℕ) → Option EventLine
plain_line nodes name ws = one_node nodes ws >>= λ n. plain_event name n

-- the event that a name and the words behind it are
unfoldable pub event_of : ℕ → List ℕ → List (List ℕ) → Option EventLine
event_of nodes name ws =
    if bytes_eq name (codes "accept") then accept_line nodes ws
    else (if bytes_eq name (codes "in") then in_line nodes ws
    else (if bytes_eq name (codes "hangup") then hangup_line nodes ws
    else (if bytes_eq name (codes "drain") then drain_line nodes ws
    else (if bytes_eq name (codes "deliver") then deliver_line ws else plain_line nodes name ws))))
