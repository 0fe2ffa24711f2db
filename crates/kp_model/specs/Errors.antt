-- The error codes of the ZooKeeper protocol.
use Rattle.std.specs.Prelude.{ℤ, negsuc}

-- -8: a malformed path, flags that are none, or a deletion of the root
abbrev pub bad_arguments : ℤ
bad_arguments = negsuc 7

-- -101
abbrev pub no_node : ℤ
no_node = negsuc 100

-- -102: the session lacks the right
abbrev pub no_auth : ℤ
no_auth = negsuc 101

-- -103
abbrev pub bad_version : ℤ
bad_version = negsuc 102

-- -108: an ephemeral node has no children
abbrev pub no_children_for_ephemerals : ℤ
no_children_for_ephemerals = negsuc 107

-- -110
abbrev pub node_exists : ℤ
node_exists = negsuc 109

-- -111: the node has children
abbrev pub not_empty : ℤ
not_empty = negsuc 110

-- -112: the session is dead, or it has another password
abbrev pub session_expired : ℤ
session_expired = negsuc 111

-- -114: an access list that can't be given
abbrev pub invalid_acl : ℤ
invalid_acl = negsuc 113

-- -115: no id is made of what was shown
abbrev pub auth_failed : ℤ
auth_failed = negsuc 114
