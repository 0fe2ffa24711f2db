-- Access lists, as words.
use Rattle.std.specs.Prelude.{ℕ, Bool, ◌==◌, List, [], ◌∷◌, Option, Some, None, if◌then◌else◌}
use Rattle.std.specs.Str.{bytes_eq}
use Rattle.kp_model.specs.declared.node.Acl.{Acl}
use Rattle.kp_model.specs.Limits.{last_count}
use Rattle.kp_text.specs.Words.{◌>>=◌, number_of}
use Rattle.kp_model.specs.Colon.{is_colon}
use lib.Chars.{codes}

-- a byte before what was cut
abbrev pub behind : ℕ → Option (List ℕ × List ℕ) → Option (List ℕ × List ℕ)
behind b None = None
behind b (Some x) = Some (b ∷ x.0, x.1)

-- what stands before the first colon of a word and behind it, where it has one
unfoldable pub cut_at_colon : List ℕ → Option (List ℕ × List ℕ)
cut_at_colon [] = None
cut_at_colon (b ∷ bs) = if is_colon b then Some ([], bs) else behind b (cut_at_colon bs)

-- `PERMS:SCHEME:ID`: the id is all behind the second colon
unfoldable pub acl_of : List ℕ → Option Acl
acl_of word = do
  outer ← cut_at_colon word
  inner ← cut_at_colon outer.1
  perms ← number_of last_count outer.0
  Some (record { perms = perms; scheme = inner.0; id = inner.1 })

unfoldable pub acls_of : List (List ℕ) → Option (List Acl)
acls_of [] = Some []
acls_of (w ∷ ws) = do
  a ← acl_of w
  more ← acls_of ws
  Some (a ∷ more)

-- one word or more, or the single word `noacl` for the empty list
abbrev pub acl_list_of : List (List ℕ) → Option (List Acl)
acl_list_of [] = None
acl_list_of (w ∷ []) = if bytes_eq w (codes "noacl") then Some [] else acls_of (w ∷ [])
acl_list_of (w ∷ v ∷ ws) = acls_of (w ∷ v ∷ ws)

-- the same, where there is a word
abbrev pub acl_given_by : List (List ℕ) → Option (Option (List Acl))
acl_given_by [] = Some None
acl_given_by (w ∷ ws) = acl_list_of (w ∷ ws) >>= λ acl. Some (Some acl)
