-- An image as bytes: its mark, index, term, next session number, sessions and nodes. The format is this project's own.
use Rattle.std.specs.Prelude.{ℕ, Bool, true, false, nat_le, List, [], ◌∷◌}
use Rattle.std.specs.Str.{bytes_eq}
use Rattle.kp_model.specs.declared.node.Acl.{Acl}
use Rattle.kp_model.specs.declared.session.Origin.{Origin}
use Rattle.kp_model.specs.Path.{root}
use Rattle.kp_jute.specs.Form.{Form, ◌⊗◌, seen, tagged}
use Rattle.kp_jute.specs.Jute.{raws}
use Rattle.kp_entry.specs.Fields.{u32s, limited, numbers, timeouts, passwords, blobs, strings, lists, origins}
use Rattle.kp_snapshot.specs.Rows.{rows}
use Rattle.kp_snapshot.specs.Rules.{Numbered, Placed, numbers_of, holders_of, may_be_number, is_new_holder, may_be_path, may_own}
use lib.Chars.{codes}

-- ---- fields

-- at least one
abbrev pub is_positive : ℕ → Bool
is_positive n = nat_le 1 n

abbrev pub nexts : Form ℕ
nexts = limited is_positive numbers

-- an index of an entry that the image has taken in
abbrev pub taken : ℕ → Form ℕ
taken index = limited (λ i. nat_le i index) numbers

-- a count of 31 bits
abbrev pub is_small : ℕ → Bool
is_small n = nat_le n 2147483647

abbrev pub smalls : Form ℕ
smalls = limited is_small u32s

-- a sum of the five rights
abbrev pub is_right : ℕ → Bool
is_right n = nat_le n 31

-- a line of an access list with no other right than the five
abbrev pub lines : Form Acl
lines = seen (λ t. record { perms = t.0; scheme = t.1.0; id = t.1.1 }) (λ a. (a.perms, (a.scheme, a.id))) (limited is_right u32s ⊗ (strings ⊗ strings))

-- ---- a session: number; timeout, password, epoch and running number; holder and ids

abbrev pub Claims : Type 0
Claims = ℕ × (List ℕ × (ℕ × ℕ))

abbrev pub claims : Form Claims
claims = timeouts ⊗ (passwords ⊗ (numbers ⊗ numbers))

abbrev pub SessionFields : Type 0
SessionFields = ℕ × (Claims × (Origin × List (List ℕ)))

abbrev pub session_with : SessionFields → Numbered
session_with t = (t.0, record { timeout = t.1.0.0; passwd = t.1.0.1.0; epoch = t.1.0.1.1.0; seq = t.1.0.1.1.1; ids = t.1.1.1; holder = t.1.1.0 })

abbrev pub session_from : Numbered → SessionFields
session_from s = (s.0, ((s.1.timeout, (s.1.passwd, (s.1.epoch, s.1.seq))), (s.1.holder, s.1.ids)))

-- with tests of the number and of the holder
abbrev pub session_tested : (ℕ → Bool) → (Origin → Bool) → Form Numbered
session_tested number holder = seen session_with session_from (limited number numbers ⊗ (claims ⊗ (limited holder origins ⊗ lists strings)))

-- behind sessions of these numbers and these holders
abbrev pub session_behind : ℕ → List ℕ → List Origin → Form Numbered
session_behind next ids holders = session_tested (may_be_number next ids) (is_new_holder holders)

unfoldable pub spell_session : Numbered → List ℕ
spell_session = (session_tested (λ _. true) (λ _. true)).spell

abbrev pub sessions : ℕ → Form (List Numbered)
sessions next = rows spell_session (λ before. session_behind next (numbers_of before) (holders_of before))

-- ---- a node: path, data and access list; czxid, mzxid and pzxid; ctime and mtime; version, cversion and aversion; owner,
-- and the number of children ever made

abbrev pub indexes : ℕ → Form (ℕ × (ℕ × ℕ))
indexes index = taken index ⊗ (taken index ⊗ taken index)

abbrev pub times : Form (ℕ × ℕ)
times = numbers ⊗ numbers

abbrev pub versions : Form (ℕ × (ℕ × ℕ))
versions = smalls ⊗ (smalls ⊗ smalls)

abbrev pub Figures : Type 0
Figures = (ℕ × (ℕ × ℕ)) × ((ℕ × ℕ) × ((ℕ × (ℕ × ℕ)) × (ℕ × ℕ)))

-- with a test of the owner
abbrev pub figures : ℕ → (ℕ → Bool) → Form Figures
figures index owner = indexes index ⊗ (times ⊗ (versions ⊗ (limited owner numbers ⊗ smalls)))

abbrev pub NodeFields : Type 0
NodeFields = List ℕ × (List Acl × Figures)

abbrev pub node_fields : ℕ → (ℕ → Bool) → Form NodeFields
node_fields index owner = blobs ⊗ (lists lines ⊗ figures index owner)

abbrev pub node_with : List ℕ × NodeFields → Placed
node_with t = (
  t.0,
  record {
    bytes = t.1.0;
    acl = t.1.1.0;
    czxid = t.1.1.1.0.0;
    mzxid = t.1.1.1.0.1.0;
    pzxid = t.1.1.1.0.1.1;
    ctime = t.1.1.1.1.0.0;
    mtime = t.1.1.1.1.0.1;
    version = t.1.1.1.1.1.0.0;
    cversion = t.1.1.1.1.1.0.1.0;
    aversion = t.1.1.1.1.1.0.1.1;
    owner = t.1.1.1.1.1.1.0;
    created = t.1.1.1.1.1.1.1;
  },
)

abbrev pub node_from : Placed → List ℕ × NodeFields
node_from x = (x.0, (x.1.bytes, (x.1.acl, ((x.1.czxid, (x.1.mzxid, x.1.pzxid)), ((x.1.ctime, x.1.mtime), ((x.1.version, (x.1.cversion, x.1.aversion)), (x.1.owner, x.1.created)))))))

-- with tests of the path, and of the owner at a path
abbrev pub node_tested : ℕ → (List ℕ → Bool) → (List ℕ → ℕ → Bool) → Form Placed
node_tested index path owner = seen node_with node_from (tagged (limited path strings) (λ p. node_fields index (owner p)))

-- behind these nodes, in an image with sessions of these numbers
abbrev pub node_behind : ℕ → List ℕ → List Placed → Form Placed
node_behind index ids before = node_tested index (may_be_path before) (λ p. may_own ids (bytes_eq p root))

unfoldable pub spell_node : Placed → List ℕ
spell_node = (node_tested 0 (λ _. true) (λ _ _. true)).spell

abbrev pub is_some_node : List Placed → Bool
is_some_node [] = false
is_some_node (x ∷ xs) = true

-- no nodes are refused at their number
abbrev pub nodes : ℕ → List ℕ → Form (List Placed)
nodes index ids = limited is_some_node (rows spell_node (node_behind index ids))

-- ---- an image

abbrev pub mark : List ℕ
mark = codes "KPI1"

abbrev pub marks : Form (List ℕ)
marks = limited (λ m. bytes_eq m mark) (raws 4)

-- the sessions, and the nodes that they may own
abbrev pub tables : ℕ → ℕ → Form (List Numbered × List Placed)
tables index next = tagged (sessions next) (λ ss. nodes index (numbers_of ss))

-- mark, index, term, next session number, sessions and nodes
abbrev pub Parts : Type 0
Parts = List ℕ × (ℕ × (ℕ × (ℕ × (List Numbered × List Placed))))

abbrev pub parts : Form Parts
parts = marks ⊗ tagged numbers (λ index. numbers ⊗ tagged nexts (tables index))
