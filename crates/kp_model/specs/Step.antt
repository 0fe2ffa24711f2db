-- What one entry does: the state after it, its reply and its events.
use Rattle.std.specs.Prelude.{ℕ, ℤ, Bool, false, not, ◌&&◌, ◌||◌, ◌+◌, ◌==◌, nat_le, List, [], ◌∷◌, ◌++◌, length, Option, Some, None, is_some, unwrap_or, replicate, pos, negsuc, if◌then◌else◌}
use Rattle.std.specs.List.{list_any, flat_map}
use Rattle.std.specs.Option.{option_map_or}
use Rattle.std.specs.Str.{bytes_eq}
use Rattle.std.specs.FinMap as map
use Rattle.kp_model.specs.declared.node.Acl.{Acl}
use Rattle.kp_model.specs.declared.node.Node.{Node}
use Rattle.kp_model.specs.declared.session.Session.{Session}
use Rattle.kp_model.specs.declared.session.Origin.{Origin}
use Rattle.kp_model.specs.LogEntry.{LogEntry}
use Rattle.kp_model.specs.declared.entry.Body.{Body}
use Rattle.kp_model.specs.declared.entry.Body.TheVariants as body
use Rattle.kp_model.specs.declared.reply.Event.{Event}
use Rattle.kp_model.specs.declared.reply.Event.TheVariants as event
use Rattle.kp_model.specs.declared.reply.Reply.{Reply}
use Rattle.kp_model.specs.declared.reply.Reply.TheVariants as reply
use Rattle.kp_model.specs.declared.reply.OpReply.{OpReply}
use Rattle.kp_model.specs.declared.reply.OpReply.TheVariants as done
use Rattle.kp_model.specs.declared.command.Op.{Op}
use Rattle.kp_model.specs.declared.command.Op.TheVariants as op
use Rattle.kp_model.specs.declared.command.Cmd.{Cmd}
use Rattle.kp_model.specs.declared.command.Cmd.TheVariants as cmd
use Rattle.kp_model.specs.Errors.{bad_arguments, no_node, no_auth, bad_version, no_children_for_ephemerals, node_exists, not_empty, session_expired, invalid_acl, auth_failed}
use Rattle.kp_model.specs.Path.{root, parent, is_well_formed}
use Rattle.kp_model.specs.State.{State, Nodes, Sessions, stat, children, owned, is_held}
use Rattle.kp_model.specs.Rights as right
use Rattle.kp_model.specs.Rights.{is_allowed}
use Rattle.kp_model.specs.Fixed.{fixed}
use Rattle.kp_model.specs.Digest.{digest_id}
use Rattle.kp_model.specs.Sequenced.{sequenced}
use lib.Chars.{codes}

-- what an entry or a command gives
pub record Outcome : Type 0 where
  pub state : State
  pub reply : Reply
  pub events : List Event

-- a reply, and nothing that changes
abbrev pub replies : State → Reply → Outcome
replies s r = record { state = s; reply = r; events = [] }

-- the error, and nothing that changes, or else the outcome
abbrev pub unless : Option ℤ → State → Outcome → Outcome
unless None s o = o
unless (Some e) s o = replies s (reply.Err e)

-- the next value of a count of 31 bits, which goes from its limit to 0
abbrev pub rises : ℕ → ℕ
rises n = if nat_le 2147483647 n then 0 else n + 1

-- whether a node of this version is one that was asked for; -1 asks for any
abbrev pub is_version : ℕ → ℕ → Bool
is_version asked version = asked == 4294967295 || asked == version

-- flags of a creation: 1 asks for an ephemeral node, 2 for a running number, 3 for both
abbrev pub is_ephemeral : ℕ → Bool
is_ephemeral flags = flags == 1 || flags == 3

abbrev pub is_sequential : ℕ → Bool
is_sequential flags = flags == 2 || flags == 3

-- the owner of a node that a session makes, 0 for a persistent one
abbrev pub owner_of : ℕ → ℕ → ℕ
owner_of session flags = if is_ephemeral flags then session else 0

-- a node that an entry of index i and time t makes
abbrev pub new_node : ℕ → ℕ → List ℕ → List Acl → ℕ → Node
new_node i t bytes acl owner = record { bytes = bytes; acl = acl; czxid = i; mzxid = i; pzxid = i; ctime = t; mtime = t; version = 0; cversion = 0; aversion = 0; owner = owner; created = 0 }

-- the parent of a node that was made, and of one that was removed
abbrev pub with_child : ℕ → Node → Node
with_child i up = record up { pzxid = i; cversion = rises up.cversion; created = rises up.created }

abbrev pub without_child : ℕ → Node → Node
without_child i up = record up { pzxid = i; cversion = rises up.cversion }

-- the nodes with the one at this path changed, where there is one
abbrev pub changed : (Node → Node) → List ℕ → Option Node → Nodes → Nodes
changed f p None nodes = nodes
changed f p (Some n) nodes = map.insert nodes p (f n)

-- Create: the first check that fails, in the order in which they are made
abbrev pub parent_fails : List (List ℕ) → Option Node → Option Node → Option ℤ
parent_fails ids None there = Some no_node
parent_fails ids (Some up) there =
    if not (is_allowed ids up.acl right.create) then Some no_auth
    else (if not (up.owner == 0) then Some no_children_for_ephemerals
    else (if is_some there then Some node_exists else None))

abbrev pub place_fails : Nodes → List (List ℕ) → List ℕ → Option ℤ
place_fails nodes ids path = if bytes_eq path root then Some node_exists else parent_fails ids (map.get nodes (parent path)) (map.get nodes path)

-- a list is refused, or else the next checks are made
abbrev pub list_fails : Option (List Acl) → Option ℤ → Option ℤ
list_fails None next = Some invalid_acl
list_fails (Some kept) next = next

unfoldable pub create_fails : Nodes → List (List ℕ) → List ℕ → ℕ → List Acl → Option ℤ
create_fails nodes ids path flags acl =
    if not (is_well_formed path) then Some bad_arguments
    else (if not (nat_le flags 3) then Some bad_arguments
    else list_fails (fixed ids acl) (place_fails nodes ids path))

-- how many children a node ever had, 0 where there is no node
abbrev pub ever_had : Option Node → ℕ
ever_had o = option_map_or (λ (n : Node). n.created) o 0

-- the path of a node that is made: the given one, and where it is asked for with the number of children that its parent ever had behind it
unfoldable pub made_path : Nodes → List ℕ → ℕ → List ℕ
made_path nodes path flags = if is_sequential flags then sequenced path (ever_had (map.get nodes (parent (sequenced path 0)))) else path

-- the nodes with one more, and its parent as it is then
unfoldable pub grown : Nodes → ℕ → ℕ → List ℕ → List ℕ → List Acl → ℕ → Nodes
grown nodes i t path bytes acl owner =
    map.insert (changed (with_child i) (parent path) (map.get nodes (parent path)) nodes) path (new_node i t bytes acl owner)

-- the reply of a creation: the path, and the new node's numbers where they are asked for
abbrev pub made_reply : Nodes → List ℕ → Node → Bool → Reply
made_reply nodes path n with_stat = if with_stat then reply.PathStat path (stat nodes path n) else reply.Path path

unfoldable pub created : State → ℕ → ℕ → List ℕ → List ℕ → List Acl → ℕ → Bool → Outcome
created s i t path bytes acl owner with_stat = let nodes = grown s.nodes i t path bytes acl owner in record {
  state = record s { nodes = nodes };
  reply = made_reply nodes path (new_node i t bytes acl owner) with_stat;
  events = event.Created path ∷ event.ChildrenChanged (parent path) ∷ [];
}

-- the list that is kept for a node is the given one as it is fixed
abbrev pub made : State → ℕ → List (List ℕ) → ℕ → ℕ → List ℕ → List ℕ → List Acl → ℕ → Bool → Outcome
made s session ids i t path bytes acl flags with_stat =
    unless (create_fails s.nodes ids path flags acl) s (created s i t path bytes (unwrap_or (fixed ids acl) []) (owner_of session flags) with_stat)

-- Delete: the first check that fails
abbrev pub may_delete : Option Node → List (List ℕ) → Bool
may_delete up ids = option_map_or (λ (n : Node). is_allowed ids n.acl right.delete) up false

abbrev pub removal_fails : Nodes → List (List ℕ) → List ℕ → ℕ → Option Node → Option ℤ
removal_fails nodes ids path version None = Some no_node
removal_fails nodes ids path version (Some n) =
    if not (may_delete (map.get nodes (parent path)) ids) then Some no_auth
    else (if not (is_version version n.version) then Some bad_version
    else (if length (children nodes path) == 0 then None else Some not_empty))

unfoldable pub delete_fails : Nodes → List (List ℕ) → List ℕ → ℕ → Option ℤ
delete_fails nodes ids path version =
    if not (is_well_formed path) then Some bad_arguments
    else (if bytes_eq path root then Some bad_arguments
    else removal_fails nodes ids path version (map.get nodes path))

-- the nodes without this one, and its parent as it is then
unfoldable pub shrunk : Nodes → ℕ → List ℕ → Nodes
shrunk nodes i path = map.remove (changed (without_child i) (parent path) (map.get nodes (parent path)) nodes) path

unfoldable pub deleted : State → ℕ → List ℕ → Outcome
deleted s i path = record {
  state = record s { nodes = shrunk s.nodes i path };
  reply = reply.Done;
  events = event.Deleted path ∷ event.ChildrenChanged (parent path) ∷ [];
}

-- SetData and Check: the first check that fails, where this right is needed
abbrev pub node_fails : List (List ℕ) → ℕ → ℕ → Option Node → Option ℤ
node_fails ids perm version None = Some no_node
node_fails ids perm version (Some n) =
    if not (is_allowed ids n.acl perm) then Some no_auth
    else (if not (is_version version n.version) then Some bad_version else None)

unfoldable pub version_fails : Nodes → List (List ℕ) → ℕ → List ℕ → ℕ → Option ℤ
version_fails nodes ids perm path version =
    if not (is_well_formed path) then Some bad_arguments
    else node_fails ids perm version (map.get nodes path)

-- a node with its data set by an entry of index i and time t
abbrev pub with_data : ℕ → ℕ → List ℕ → Node → Node
with_data i t bytes n = record n { bytes = bytes; version = rises n.version; mzxid = i; mtime = t }

-- the reply of a change: the numbers of the node as it is then
abbrev pub changed_reply : Nodes → List ℕ → Option Node → Reply
changed_reply nodes path None = reply.Done
changed_reply nodes path (Some n) = reply.Stat (stat nodes path n)

unfoldable pub set : State → ℕ → ℕ → List ℕ → List ℕ → Outcome
set s i t path bytes = let nodes = changed (with_data i t bytes) path (map.get s.nodes path) s.nodes in record {
  state = record s { nodes = nodes };
  reply = changed_reply nodes path (map.get nodes path);
  events = event.DataChanged path ∷ [];
}

-- SetAcl: the first check that fails; the version that is asked for is that of the list
abbrev pub owner_fails : List (List ℕ) → ℕ → Option Node → Option ℤ
owner_fails ids version None = Some no_node
owner_fails ids version (Some n) =
    if not (is_allowed ids n.acl right.admin) then Some no_auth
    else (if not (is_version version n.aversion) then Some bad_version else None)

unfoldable pub set_acl_fails : Nodes → List (List ℕ) → List ℕ → List Acl → ℕ → Option ℤ
set_acl_fails nodes ids path acl version =
    if not (is_well_formed path) then Some bad_arguments
    else list_fails (fixed ids acl) (owner_fails ids version (map.get nodes path))

-- a node with another access list
abbrev pub with_acl : List Acl → Node → Node
with_acl acl n = record n { acl = acl; aversion = rises n.aversion }

unfoldable pub set_acl : State → List ℕ → List Acl → Outcome
set_acl s path acl = let nodes = changed (with_acl acl) path (map.get s.nodes path) s.nodes in record {
  state = record s { nodes = nodes };
  reply = changed_reply nodes path (map.get nodes path);
  events = [];
}

-- Auth: the id that is shown, where it is one
abbrev pub shown_id : List ℕ → List ℕ → Option (List ℕ)
shown_id scheme auth = if bytes_eq scheme (codes "digest") then digest_id auth else None

-- a session that has shown an id, which is kept once
abbrev pub with_id : List ℕ → Session → Session
with_id id x = if list_any (bytes_eq id) x.ids then x else record x { ids = x.ids ++ id ∷ [] }

-- the sessions with the one of a number changed, where there is one
abbrev pub renewed : (Session → Session) → ℕ → Option Session → Sessions → Sessions
renewed f id None sessions = sessions
renewed f id (Some x) sessions = map.insert sessions id (f x)

abbrev pub shows : State → ℕ → Option (List ℕ) → Outcome
shows s session None = replies s (reply.Err auth_failed)
shows s session (Some id) = replies (record s { sessions = renewed (with_id id) session (map.get s.sessions session) s.sessions }) reply.Done

-- Sync: the path, where it is well formed
abbrev pub synced : State → List ℕ → Outcome
synced s path = if is_well_formed path then replies s (reply.Path path) else replies s (reply.Err bad_arguments)

-- the nodes without those at these paths, each removed in its turn
unfoldable pub shrunk_by : Nodes → ℕ → List (List ℕ) → Nodes
shrunk_by nodes i [] = nodes
shrunk_by nodes i (p ∷ ps) = shrunk_by (shrunk nodes i p) i ps

-- the events of a removal
abbrev pub removal_events : List ℕ → List Event
removal_events path = event.Deleted path ∷ event.ChildrenChanged (parent path) ∷ []

-- a session ends: the nodes that it owns are removed in ascending order of their paths, and then it goes
unfoldable pub closed : State → ℕ → ℕ → Outcome
closed s i session = let paths = owned s.nodes session in record {
  state = record s { nodes = shrunk_by s.nodes i paths; sessions = map.remove s.sessions session };
  reply = reply.Done;
  events = flat_map removal_events paths;
}

-- an operation, which is a command on one node: of a session with these ids, at index i and time t
abbrev pub act_on : State → ℕ → List (List ℕ) → ℕ → ℕ → Op → Outcome
act_on s session ids i t (op.Create path bytes acl flags with_stat) = made s session ids i t (made_path s.nodes path flags) bytes acl flags with_stat
act_on s session ids i t (op.Delete path version) = unless (delete_fails s.nodes ids path version) s (deleted s i path)
act_on s session ids i t (op.SetData path bytes version) = unless (version_fails s.nodes ids right.write path version) s (set s i t path bytes)
act_on s session ids i t (op.Check path version) = unless (version_fails s.nodes ids right.read path version) s (replies s reply.Done)

-- the code of an error
abbrev pub error_of : Reply → Option ℤ
error_of (reply.Err code) = Some code
error_of _ = None

-- what an operation is answered within a multi
abbrev pub op_reply : Reply → OpReply
op_reply (reply.Path path) = done.Path path
op_reply (reply.PathStat path m) = done.PathStat path m
op_reply (reply.Stat m) = done.Stat m
op_reply _ = done.Done

-- a multi that failed: 0 for each operation before, the code, and -2 for each behind
abbrev pub failure : ℕ → ℤ → ℕ → Reply
failure before code behind = reply.Failed (replicate before (pos 0) ++ code ∷ replicate behind (negsuc 1))

-- what an error makes, or else the outcome
abbrev pub stop_at : Option ℤ → (ℤ → Outcome) → Outcome → Outcome
stop_at None failed o = o
stop_at (Some code) failed o = failed code

-- the operations from left to right, each on the state behind those before it, whose answers and events are given; at the first error the state is the old one
unfoldable pub multi : State → State → ℕ → List (List ℕ) → ℕ → ℕ → List OpReply → List Event → List Op → Outcome
multi old s session ids i t answers events [] = record { state = s; reply = reply.Multi answers; events = events }
multi old s session ids i t answers events (op ∷ ops) = let o = act_on s session ids i t op in
    stop_at (error_of o.reply) (λ code. replies old (failure (length answers) code (length ops)))
    (multi old o.state session ids i t (answers ++ op_reply o.reply ∷ []) (events ++ o.events) ops)

-- a command of a session with these ids, at index i and time t
unfoldable pub act : State → ℕ → List (List ℕ) → ℕ → ℕ → Cmd → Outcome
act s session ids i t (cmd.Create path bytes acl flags with_stat) = act_on s session ids i t (op.Create path bytes acl flags with_stat)
act s session ids i t (cmd.Delete path version) = act_on s session ids i t (op.Delete path version)
act s session ids i t (cmd.SetData path bytes version) = act_on s session ids i t (op.SetData path bytes version)
act s session ids i t (cmd.SetAcl path acl version) = unless (set_acl_fails s.nodes ids path acl version) s (set_acl s path (unwrap_or (fixed ids acl) []))
act s session ids i t (cmd.Check path version) = act_on s session ids i t (op.Check path version)
act s session ids i t (cmd.Auth scheme auth) = shows s session (shown_id scheme auth)
act s session ids i t (cmd.Multi ops) = multi s s session ids i t [] [] ops
act s session ids i t (cmd.Sync path) = synced s path
act s session ids i t cmd.CloseSession = closed s i session

-- a session that was just opened
abbrev pub new_session : ℕ → List ℕ → Origin → Session
new_session timeout passwd origin = record { timeout = timeout; passwd = passwd; epoch = 1; seq = 0; ids = []; holder = origin }

-- the next session number is given out, once for an origin
unfoldable pub opened : State → ℕ → List ℕ → Origin → Outcome
opened s timeout passwd origin =
    if is_held s.sessions origin || nat_le 4611686018427387904 s.next then replies s reply.Stale
    else replies (record s { sessions = map.insert s.sessions s.next (new_session timeout passwd origin); next = s.next + 1 }) (reply.Session s.next)

-- a session of a number that another origin holds from here on
abbrev pub taken_over : Origin → Session → Session
taken_over origin x = record x { epoch = x.epoch + 1; seq = 0; holder = origin }

-- a session is taken over once for an origin
abbrev pub joined : Session → State → ℕ → Origin → Outcome
joined x s session origin =
    if is_held s.sessions origin || nat_le 4611686018427387904 x.epoch then replies s reply.Stale
    else replies (record s { sessions = map.insert s.sessions session (taken_over origin x) }) (reply.Epoch (x.epoch + 1))

-- and only by its password
abbrev pub attached_to : Option Session → State → ℕ → List ℕ → Origin → Outcome
attached_to None s session passwd origin = replies s (reply.Err session_expired)
attached_to (Some x) s session passwd origin = if not (bytes_eq x.passwd passwd) then replies s (reply.Err session_expired) else joined x s session origin

-- a session that was not heard ends, where it lives
abbrev pub expired : Option Session → State → ℕ → ℕ → Outcome
expired None s i session = replies s reply.Stale
expired (Some x) s i session = closed s i session

-- a session whose running number has risen
abbrev pub with_seq : ℕ → Session → Session
with_seq seq x = record x { seq = seq }

-- a write of a live session acts where it is of the session's epoch and the next by its number, also where it ends in an error
abbrev pub written_by : Option Session → State → ℕ → ℕ → ℕ → ℕ → ℕ → Cmd → Outcome
written_by None s i t session epoch seq c = replies s (reply.Err session_expired)
written_by (Some x) s i t session epoch seq c =
    if not (epoch == x.epoch && seq == x.seq + 1) then replies s reply.Stale
    else act (record s { sessions = map.insert s.sessions session (with_seq seq x) }) session x.ids i t c

-- a body at index i and time t
unfoldable pub take_body : State → ℕ → ℕ → Body → Outcome
take_body s i t body.Noop = replies s reply.Done
take_body s i t (body.OpenSession timeout passwd origin) = opened s timeout passwd origin
take_body s i t (body.Attach session passwd origin) = attached_to (map.get s.sessions session) s session passwd origin
take_body s i t (body.Expire session) = expired (map.get s.sessions session) s i session
take_body s i t (body.Write session epoch seq c) = written_by (map.get s.sessions session) s i t session epoch seq c

-- an entry is taken at the index behind the applied one, which is applied then
unfoldable pub apply : State → LogEntry → Outcome
apply s e = take_body (record s { applied = s.applied + 1 }) (s.applied + 1) e.time e.body
