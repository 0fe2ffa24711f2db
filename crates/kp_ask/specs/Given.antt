-- What a field of a request gives: null counts as empty, within a multi too.
use Rattle.std.specs.Prelude.{ℕ, ℤ, pos, negsuc, List, [], map, Option, Some, None}
use Rattle.kp_model.specs.declared.node.Acl.{Acl}
use Rattle.kp_wire.specs.declared.acl.WireAcl.{WireAcl}

-- a path, data, a scheme or an id
abbrev pub given : Option (List ℕ) → List ℕ
given None = []
given (Some bytes) = bytes

-- a line of an access list
abbrev pub given_acl : WireAcl → Acl
given_acl a = record { perms = a.perms; scheme = given a.scheme; id = given a.id }

-- an access list
abbrev pub given_acls : Option (List WireAcl) → List Acl
given_acls None = []
given_acls (Some lines) = map given_acl lines

-- a list of paths
abbrev pub given_paths : Option (List (Option (List ℕ))) → List (List ℕ)
given_paths None = []
given_paths (Some paths) = map given paths

-- an index; a negative one counts as 0
abbrev pub given_index : ℤ → ℕ
given_index (pos n) = n
given_index (negsuc n) = 0
