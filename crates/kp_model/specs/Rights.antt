-- Who may do what.
use Rattle.std.specs.Prelude.{ℕ, Bool, not, ◌&&◌, ◌||◌, ◌==◌, bit_and, List}
use Rattle.std.specs.List.{list_any}
use Rattle.std.specs.Str.{bytes_eq}
use Rattle.kp_model.specs.declared.node.Acl.{Acl}
use lib.Chars.{codes}

-- the rights
abbrev pub read : ℕ
read = 1

abbrev pub write : ℕ
write = 2

abbrev pub create : ℕ
create = 4

abbrev pub delete : ℕ
delete = 8

abbrev pub admin : ℕ
admin = 16

-- whether the line is for one who has these ids
abbrev pub is_for : List (List ℕ) → Acl → Bool
is_for ids a = bytes_eq a.scheme (codes "world") && bytes_eq a.id (codes "anyone")
    || bytes_eq a.scheme (codes "digest") && list_any (bytes_eq a.id) ids

-- whether the line gives the right to one who has these ids
unfoldable pub gives : List (List ℕ) → ℕ → Acl → Bool
gives ids perm a = not (bit_and a.perms perm == 0) && is_for ids a

-- some line gives the right
unfoldable pub is_allowed : List (List ℕ) → List Acl → ℕ → Bool
is_allowed ids acl perm = list_any (gives ids perm) acl
