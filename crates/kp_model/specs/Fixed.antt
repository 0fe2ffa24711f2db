-- Access lists as they are given, and the lists that are kept for them.
use Rattle.std.specs.Prelude.{ℕ, Bool, ◌&&◌, ◌||◌, ◌==◌, nat_lt, nat_le, List, [], ◌∷◌, length, map, Option, Some, None, if◌then◌else◌}
use Rattle.std.specs.List.{list_all, flat_map, count_by}
use Rattle.std.specs.Str.{bytes_eq}
use Rattle.kp_model.specs.declared.node.Acl.{Acl}
use Rattle.kp_model.specs.Colon.{is_colon}
use lib.Chars.{codes}

-- the line for one id
abbrev pub digest_line : ℕ → List ℕ → Acl
digest_line perms id = record { perms = perms; scheme = codes "digest"; id = id }

-- `world` names everyone, `digest` an id with exactly one colon, and `auth` one who has shown an id
abbrev pub names_somebody : List (List ℕ) → Acl → Bool
names_somebody ids a = bytes_eq a.scheme (codes "world") && bytes_eq a.id (codes "anyone")
    || (bytes_eq a.scheme (codes "digest") && count_by is_colon a.id == 1
    || bytes_eq a.scheme (codes "auth") && nat_lt 0 (length ids))

-- one who has shown these ids may give the line: it names somebody, and no other right than the five
unfoldable pub may_be_given : List (List ℕ) → Acl → Bool
may_be_given ids a = nat_le a.perms 31 && names_somebody ids a

-- a line that says `auth` stands for a digest line for each of the ids, and every other line for itself
unfoldable pub meant_by : List (List ℕ) → Acl → List Acl
meant_by ids a = if bytes_eq a.scheme (codes "auth") then map (digest_line a.perms) ids else a ∷ []

-- the list that is kept where one who has shown these ids gives this one, and None where it is refused
unfoldable pub fixed : List (List ℕ) → List Acl → Option (List Acl)
fixed ids acl = if nat_lt 0 (length acl) && list_all (may_be_given ids) acl then Some (flat_map (meant_by ids) acl) else None
