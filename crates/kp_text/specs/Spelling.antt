-- The lines of the store language, as they are spelled.
use Rattle.std.specs.Prelude.{ℕ, Bool, true, not, ◌&&◌, ◌||◌, ◌==◌, nat_le, List, [], ◌∷◌, ◌++◌, length, map, Option, Some, None, if◌then◌else◌}
use Rattle.std.specs.List.{list_all, join_with_byte}
use Rattle.std.specs.Str.{is_utf8}
use Rattle.std.specs.Fmt.{decimal}
use Rattle.hex.specs.Hex.{encode_lower}
use Rattle.kp_model.specs.declared.node.Acl.{Acl as AclLine}
use Rattle.kp_model.specs.Grammar.{is_number, is_timeout}
use Rattle.kp_model.specs.Limits.{last_count}
use Rattle.kp_model.specs.Path.{is_empty}
use Rattle.kp_text.specs.Words.{is_space, any_version}
use Rattle.kp_model.specs.Colon.{is_colon}
use Rattle.kp_text.specs.Commands.{is_separator}
use Rattle.kp_text.specs.declared.command.Operation.{Operation}
use Rattle.kp_text.specs.declared.command.Operation.TheVariants as op
use Rattle.kp_text.specs.declared.command.Command.{Command}
use Rattle.kp_text.specs.declared.command.Command.TheVariants as command
use Rattle.kp_text.specs.declared.line.StoreLine.{StoreLine}
use Rattle.kp_text.specs.declared.line.StoreLine.TheVariants.{Time, Open, Attach, Expire, Noop, Write, Raw, Commit, Truncate, Peek, See, Kids, Ls, Acl, Who}
use lib.Chars.{codes}

-- no byte is a space
abbrev pub is_plain : List ℕ → Bool
is_plain w = list_all (λ b. not (is_space b)) w

-- a text in UTF-8 without a space; it may be empty
abbrev pub is_part : List ℕ → Bool
is_part w = is_plain w && is_utf8 w

-- a word: such a text of one character or more
abbrev pub is_word : List ℕ → Bool
is_word w = not (is_empty w) && is_part w

-- bytes: each is below 256
abbrev pub are_bytes : List ℕ → Bool
are_bytes bytes = list_all (λ b. nat_le b 255) bytes

-- a password: 16 bytes
abbrev pub is_passwd : List ℕ → Bool
is_passwd bytes = are_bytes bytes && length bytes == 16

-- flags or rights
abbrev pub is_int : ℕ → Bool
is_int n = nat_le n last_count

-- a version within its limit, or the one that matches any
abbrev pub is_asked : ℕ → Bool
is_asked version = is_int version || version == any_version

abbrev pub has_no_colon : List ℕ → Bool
has_no_colon w = list_all (λ b. not (is_colon b)) w

-- the id may have colons, the scheme none
abbrev pub is_acl : AclLine → Bool
is_acl a = is_int a.perms && ((has_no_colon a.scheme && is_part a.scheme) && is_part a.id)

abbrev pub are_acls : List AclLine → Bool
are_acls acl = list_all is_acl acl

abbrev pub are_given_acls : Option (List AclLine) → Bool
are_given_acls None = true
are_given_acls (Some acl) = are_acls acl

-- bytes in lower-case hexadecimal, and `-` for none
abbrev pub spelled_data : List ℕ → List ℕ
spelled_data [] = codes "-"
spelled_data (b ∷ bs) = encode_lower (b ∷ bs)

-- a version, and `-1` for any
abbrev pub spelled_version : ℕ → List ℕ
spelled_version version = if version == any_version then codes "-1" else decimal version

-- `PERMS:SCHEME:ID`
abbrev pub spelled_acl : AclLine → List ℕ
spelled_acl a = decimal a.perms ++ (codes ":" ++ (a.scheme ++ (codes ":" ++ a.id)))

-- an access list as words: one for each of its lines, and `noacl` for the empty one
abbrev pub acl_words : List AclLine → List (List ℕ)
acl_words [] = codes "noacl" ∷ []
acl_words (a ∷ more) = map spelled_acl (a ∷ more)

-- no word where no list is given
abbrev pub given_words : Option (List AclLine) → List (List ℕ)
given_words None = []
given_words (Some acl) = acl_words acl

-- an operation's name, and the words behind it
abbrev pub operation_name : Operation → List ℕ
operation_name (op.Create path flags bytes acl) = codes "create"
operation_name (op.Delete path version) = codes "delete"
operation_name (op.Set path bytes version) = codes "set"
operation_name (op.Check path version) = codes "check"

abbrev pub operation_words : Operation → List (List ℕ)
operation_words (op.Create path flags bytes acl) = path ∷ decimal flags ∷ spelled_data bytes ∷ given_words acl
operation_words (op.Delete path version) = path ∷ spelled_version version ∷ []
operation_words (op.Set path bytes version) = path ∷ spelled_data bytes ∷ spelled_version version ∷ []
operation_words (op.Check path version) = path ∷ spelled_version version ∷ []

abbrev pub operation_line : Operation → List (List ℕ)
operation_line o = operation_name o ∷ operation_words o

-- the words of each, with the word `;` between two
abbrev pub separated : List (List (List ℕ)) → List (List ℕ)
separated [] = []
separated (part ∷ []) = part
separated (part ∷ next ∷ parts) = part ++ codes ";" ∷ separated (next ∷ parts)

-- numbers within their limits, paths that are words
abbrev pub is_operation : Operation → Bool
is_operation (op.Create path flags bytes acl) = is_word path && (is_int flags && (are_bytes bytes && are_given_acls acl))
is_operation (op.Delete path version) = is_word path && is_asked version
is_operation (op.Set path bytes version) = is_word path && (are_bytes bytes && is_asked version)
is_operation (op.Check path version) = is_word path && is_asked version

-- an operation of a multi: none of its words is `;`
abbrev pub is_nested : Operation → Bool
is_nested o = is_operation o && list_all (λ w. not (is_separator w)) (operation_name o ∷ operation_words o)

abbrev pub is_command : Command → Bool
is_command (command.Operation o) = is_operation o
is_command (command.SetAcl path version acl) = is_word path && (is_asked version && are_acls acl)
is_command (command.Auth scheme auth) = is_word scheme && are_bytes auth
is_command (command.Multi operations) = list_all is_nested operations
is_command (command.Sync path) = is_word path
is_command command.Close = true

-- numbers within their limits, paths that are words, passwords of 16 bytes
abbrev pub is_line : StoreLine → Bool
is_line (Time t) = is_number t
is_line (Open timeout passwd) = is_timeout timeout && is_passwd passwd
is_line (Attach session passwd) = is_number session && is_passwd passwd
is_line (Expire session) = is_number session
is_line Noop = true
is_line (Write session c) = is_number session && is_command c
is_line (Raw session epoch seq c) = is_number session && (is_number epoch && (is_number seq && is_command c))
is_line Commit = true
is_line (Truncate k) = is_number k
is_line (Peek path) = is_word path
is_line (See path) = is_word path
is_line (Kids path) = is_word path
is_line (Ls path) = is_word path
is_line (Acl path) = is_word path
is_line (Who session) = is_number session

-- a command's name, and the words behind it
abbrev pub command_name : Command → List ℕ
command_name (command.Operation o) = operation_name o
command_name (command.SetAcl path version acl) = codes "setacl"
command_name (command.Auth scheme auth) = codes "auth"
command_name (command.Multi operations) = codes "multi"
command_name (command.Sync path) = codes "sync"
command_name command.Close = codes "close"

abbrev pub command_words : Command → List (List ℕ)
command_words (command.Operation o) = operation_words o
command_words (command.SetAcl path version acl) = path ∷ spelled_version version ∷ acl_words acl
command_words (command.Auth scheme auth) = scheme ∷ spelled_data auth ∷ []
command_words (command.Multi operations) = separated (map operation_line operations)
command_words (command.Sync path) = path ∷ []
command_words command.Close = []

-- the words of a line
abbrev pub line_words : StoreLine → List (List ℕ)
line_words (Time t) = codes "time" ∷ decimal t ∷ []
line_words (Open timeout passwd) = codes "open" ∷ decimal timeout ∷ encode_lower passwd ∷ []
line_words (Attach session passwd) = codes "attach" ∷ decimal session ∷ encode_lower passwd ∷ []
line_words (Expire session) = codes "expire" ∷ decimal session ∷ []
line_words Noop = codes "noop" ∷ []
line_words (Write session c) = command_name c ∷ decimal session ∷ command_words c
line_words (Raw session epoch seq c) = codes "raw" ∷ decimal session ∷ decimal epoch ∷ decimal seq ∷ command_name c ∷ command_words c
line_words Commit = codes "commit" ∷ []
line_words (Truncate k) = codes "truncate" ∷ decimal k ∷ []
line_words (Peek path) = codes "peek" ∷ path ∷ []
line_words (See path) = codes "see" ∷ path ∷ []
line_words (Kids path) = codes "kids" ∷ path ∷ []
line_words (Ls path) = codes "ls" ∷ path ∷ []
line_words (Acl path) = codes "acl" ∷ path ∷ []
line_words (Who session) = codes "who" ∷ decimal session ∷ []

-- the text of a line, without its line feed: its words, parted by single spaces
unfoldable pub spelled : StoreLine → List ℕ
spelled l = join_with_byte 32 (line_words l)
