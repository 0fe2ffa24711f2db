-- Each line has the shape of one: no word of it is empty, and more than a few words are only there where it has a list.
use Rattle.std.proofs.Common.{◌≡◌, ◌<◌, ◌^◌, ℕ, Bool, true, false, cond, not, ◌&&◌, ◌||◌, ◌==◌, List, [], ◌∷◌, ◌++◌, map, Option, Some, None, arith, refl, sym, ap, subst, ◌∙◌}
use Rattle.std.specs.List.{list_all}
use Rattle.std.specs.Str.{is_utf8}
use Rattle.std.specs.Fmt.{decimal}
use Rattle.hex.specs.Hex.{encode_with, encode_lower}
use Rattle.kp_model.specs.declared.node.Acl.{Acl as AclLine}
use Rattle.kp_model.specs.Grammar.{is_number, is_timeout}
use Rattle.kp_model.specs.Path.{is_empty}
use Rattle.kp_text.specs.Words.{words_of, any_version}
use Rattle.kp_text.specs.Lines.{line_of, of_words}
use Rattle.kp_text.specs.Shape.{are_written, are_few, have_list, may_be_line}
use Rattle.kp_text.specs.Spelling.{is_part, is_word, is_int, are_bytes, is_passwd, is_asked, are_acls, are_given_acls, is_operation, is_nested, is_command, is_line, spelled_data, spelled_version, spelled_acl, acl_words, given_words, operation_name, operation_words, operation_line, separated, command_name, command_words, line_words}
use Rattle.kp_text.specs.Commands.{is_separator}
use Rattle.kp_text.specs.declared.command.Operation.{Operation}
use Rattle.kp_text.specs.declared.command.Operation.TheVariants as op
use Rattle.kp_text.specs.declared.command.Command.{Command}
use Rattle.kp_text.specs.declared.command.Command.TheVariants as command
use Rattle.kp_text.specs.declared.line.StoreLine.{StoreLine}
use Rattle.kp_text.specs.declared.line.StoreLine.TheVariants.{Time, Open, Attach, Expire, Noop, Write, Raw, Commit, Truncate, Peek, See, Kids, Ls, Acl, Who}
use Rattle.std.proofs.lemmas.Fmt.{decimal_nonempty}
use Rattle.kp_text.proofs.Numerals.{left, right}
use Rattle.kp_text.proofs.Spelled.{not_empty, both}
use Rattle.kp_text.proofs.Hexadecimal.{first_way}
use Rattle.kp_text.proofs.Versions.{within}
use Rattle.kp_text.proofs.AclTexts.{small_int}
use Rattle.kp_text.proofs.Parted.{words_are_parts}
use Rattle.kp_text.proofs.LineTexts.{number_small, timeout_small, words_read}
use lib.Chars.{codes}

abbrev is_written : List ℕ → Bool
is_written w = not (is_empty w)

-- ---- single words

decimal_written : (n : ℕ) → n < 2 ^ 64 → is_written (decimal n) ≡ true
decimal_written n small = not_empty (decimal n) (decimal_nonempty n small)

int_written : (n : ℕ) → is_int n ≡ true → is_written (decimal n) ≡ true
int_written n h = decimal_written n (small_int n h)

number_written : (n : ℕ) → is_number n ≡ true → is_written (decimal n) ≡ true
number_written n h = let small = number_small n h in decimal_written n (omega (arith, small))

timeout_written : (n : ℕ) → is_timeout n ≡ true → is_written (decimal n) ≡ true
timeout_written n h = let small = timeout_small n h in decimal_written n (omega (arith, small))

version_case : (v : ℕ) (b : Bool) → is_asked v ≡ true → (v == any_version) ≡ b → is_written (cond b (codes "-1") (decimal v)) ≡ true
version_case v true h t = refl
version_case v false h t = let small = within v h t in decimal_written v (omega (arith, small))

version_written : (v : ℕ) → is_asked v ≡ true → is_written (spelled_version v) ≡ true
version_written v h = version_case v (v == any_version) h refl

path_written : (p : List ℕ) → is_word p ≡ true → is_written p ≡ true
path_written p h = left (not (is_empty p)) (is_part p) h

data_written : (bytes : List ℕ) → is_written (spelled_data bytes) ≡ true
unfolding encode_with
data_written [] = refl
data_written (b ∷ bytes) = refl

passwd_written : (p : List ℕ) → is_passwd p ≡ true → is_written (encode_lower p) ≡ true
unfolding encode_with
passwd_written [] h = absurd (cc)
passwd_written (b ∷ p) h = refl

appended_written : (w v : List ℕ) → is_written w ≡ true → is_written (w ++ v) ≡ true
appended_written [] v h = absurd (cc)
appended_written (b ∷ w) v h = refl

acl_written : (a : AclLine) → is_int a.perms ≡ true → is_written (spelled_acl a) ≡ true
acl_written a h = appended_written (decimal a.perms) (codes ":" ++ (a.scheme ++ (codes ":" ++ a.id))) (int_written a.perms h)

-- ---- lists of words

before : (w : List ℕ) (ws : List (List ℕ)) → is_written w ≡ true → are_written ws ≡ true → are_written (w ∷ ws) ≡ true
before w ws h more = both (is_written w) (are_written ws) h more

alone : (w : List ℕ) → is_written w ≡ true → are_written (w ∷ []) ≡ true
alone w h = before w [] h refl

appended : (a b : List (List ℕ)) → are_written a ≡ true → are_written b ≡ true → are_written (a ++ b) ≡ true
appended [] b h more = more
appended (w ∷ a) b h more = before w (a ++ b) (left (is_written w) (are_written a) h) (appended a b (right (is_written w) (are_written a) h) more)

acls_written : (acl : List AclLine) → are_acls acl ≡ true → are_written (map spelled_acl acl) ≡ true
acls_written [] h = refl
acls_written (a ∷ acl) h =
    before (spelled_acl a) (map spelled_acl acl) (acl_written a (left (is_int a.perms) _ (left _ (are_acls acl) h))) (acls_written acl (right _ (are_acls acl) h))

acl_words_written : (acl : List AclLine) → are_acls acl ≡ true → are_written (acl_words acl) ≡ true
acl_words_written [] h = refl
acl_words_written (a ∷ acl) h = acls_written (a ∷ acl) h

given_written : (o : Option (List AclLine)) → are_given_acls o ≡ true → are_written (given_words o) ≡ true
given_written None h = refl
given_written (Some acl) h = acl_words_written acl h

-- a path and a version
asked_written : (path : List ℕ) (version : ℕ) → (is_word path && is_asked version) ≡ true → are_written (path ∷ spelled_version version ∷ []) ≡ true
asked_written path version h =
    before path (spelled_version version ∷ []) (path_written path (left (is_word path) (is_asked version) h)) (alone (spelled_version version) (version_written version (right (is_word path) (is_asked version) h)))

operation_written : (o : Operation) → is_operation o ≡ true → are_written (operation_words o) ≡ true
operation_written (op.Create path flags bytes acl) h =
    let h1 = right (is_word path) (is_int flags && (are_bytes bytes && are_given_acls acl)) h in
    let h2 = right (is_int flags) (are_bytes bytes && are_given_acls acl) h1 in
    let content = before (spelled_data bytes) (given_words acl) (data_written bytes) (given_written acl (right (are_bytes bytes) (are_given_acls acl) h2)) in
    let rest = before (decimal flags) (spelled_data bytes ∷ given_words acl) (int_written flags (left (is_int flags) (are_bytes bytes && are_given_acls acl) h1)) content in
    before path (decimal flags ∷ spelled_data bytes ∷ given_words acl) (path_written path (left (is_word path) (is_int flags && (are_bytes bytes && are_given_acls acl)) h)) rest
operation_written (op.Delete path version) h = asked_written path version h
operation_written (op.Set path bytes version) h =
    let h1 = right (is_word path) (are_bytes bytes && is_asked version) h in
    let rest = before (spelled_data bytes) (spelled_version version ∷ []) (data_written bytes) (alone (spelled_version version) (version_written version (right (are_bytes bytes) (is_asked version) h1))) in
    before path (spelled_data bytes ∷ spelled_version version ∷ []) (path_written path (left (is_word path) (are_bytes bytes && is_asked version) h)) rest
operation_written (op.Check path version) h = asked_written path version h

operation_named : (o : Operation) → is_written (operation_name o) ≡ true
operation_named (op.Create path flags bytes acl) = refl
operation_named (op.Delete path version) = refl
operation_named (op.Set path bytes version) = refl
operation_named (op.Check path version) = refl

nested_written : (o : Operation) → is_nested o ≡ true → are_written (operation_line o) ≡ true
nested_written o h = before (operation_name o) (operation_words o) (operation_named o) (operation_written o (left (is_operation o) (list_all (λ w. not (is_separator w)) (operation_line o)) h))

multi_written : (os : List Operation) → list_all is_nested os ≡ true → are_written (separated (map operation_line os)) ≡ true
multi_written [] h = refl
multi_written (o ∷ []) h = nested_written o (left (is_nested o) true h)
multi_written (o ∷ p ∷ os) h =
    appended (operation_line o) (codes ";" ∷ separated (map operation_line (p ∷ os))) (nested_written o (left (is_nested o) (list_all is_nested (p ∷ os)) h))
    (before (codes ";") (separated (map operation_line (p ∷ os))) refl (multi_written (p ∷ os) (right (is_nested o) (list_all is_nested (p ∷ os)) h)))

command_written : (c : Command) → is_command c ≡ true → are_written (command_words c) ≡ true
command_written (command.Operation o) h = operation_written o h
command_written (command.SetAcl path version acl) h =
    let h1 = right (is_word path) (is_asked version && are_acls acl) h in
    let rest = before (spelled_version version) (acl_words acl) (version_written version (left (is_asked version) (are_acls acl) h1)) (acl_words_written acl (right (is_asked version) (are_acls acl) h1)) in
    before path (spelled_version version ∷ acl_words acl) (path_written path (left (is_word path) (is_asked version && are_acls acl) h)) rest
command_written (command.Auth scheme auth) h = before scheme (spelled_data auth ∷ []) (path_written scheme (left (is_word scheme) (are_bytes auth) h)) (alone (spelled_data auth) (data_written auth))
command_written (command.Multi operations) h = multi_written operations h
command_written (command.Sync path) h = alone path (path_written path h)
command_written command.Close h = refl

command_named : (c : Command) → is_written (command_name c) ≡ true
command_named (command.Operation o) = operation_named o
command_named (command.SetAcl path version acl) = refl
command_named (command.Auth scheme auth) = refl
command_named (command.Multi operations) = refl
command_named (command.Sync path) = refl
command_named command.Close = refl

-- ---- lines

-- no word of a line is empty
line_written : (l : StoreLine) → is_line l ≡ true → are_written (line_words l) ≡ true
line_written (Time t) h = alone (decimal t) (number_written t h)
line_written (Open timeout passwd) h =
    before (decimal timeout) (encode_lower passwd ∷ []) (timeout_written timeout (left (is_timeout timeout) (is_passwd passwd) h)) (alone (encode_lower passwd) (passwd_written passwd (right (is_timeout timeout) (is_passwd passwd) h)))
line_written (Attach session passwd) h =
    before (decimal session) (encode_lower passwd ∷ []) (number_written session (left (is_number session) (is_passwd passwd) h)) (alone (encode_lower passwd) (passwd_written passwd (right (is_number session) (is_passwd passwd) h)))
line_written (Expire session) h = alone (decimal session) (number_written session h)
line_written Noop h = refl
line_written (Write s c) h =
    before (command_name c) (decimal s ∷ command_words c) (command_named c)
    (before (decimal s) (command_words c) (number_written s (left (is_number s) (is_command c) h)) (command_written c (right (is_number s) (is_command c) h)))
line_written (Raw s e q c) h =
    let h1 = right (is_number s) (is_number e && (is_number q && is_command c)) h in
    let h2 = right (is_number e) (is_number q && is_command c) h1 in
    let cmd = before (command_name c) (command_words c) (command_named c) (command_written c (right (is_number q) (is_command c) h2)) in
    let seq = before (decimal q) (command_name c ∷ command_words c) (number_written q (left (is_number q) (is_command c) h2)) cmd in
    let epoch = before (decimal e) (decimal q ∷ command_name c ∷ command_words c) (number_written e (left (is_number e) (is_number q && is_command c) h1)) seq in
    before (decimal s) (decimal e ∷ decimal q ∷ command_name c ∷ command_words c) (number_written s (left (is_number s) (is_number e && (is_number q && is_command c)) h)) epoch
line_written Commit h = refl
line_written (Truncate k) h = alone (decimal k) (number_written k h)
line_written (Peek path) h = alone path (path_written path h)
line_written (See path) h = alone path (path_written path h)
line_written (Kids path) h = alone path (path_written path h)
line_written (Ls path) h = alone path (path_written path h)
line_written (Acl path) h = alone path (path_written path h)
line_written (Who session) h = alone (decimal session) (number_written session h)

-- a line that has no list has a few words
abbrev HasRoom : List (List ℕ) → Type 0
HasRoom ws = (have_list ws || are_few ws) ≡ true

written_bounded : (s : ℕ) (c : Command) → HasRoom (line_words (Write s c))
written_bounded s (command.Operation (op.Create path flags bytes acl)) = refl
written_bounded s (command.Operation (op.Delete path version)) = refl
written_bounded s (command.Operation (op.Set path bytes version)) = refl
written_bounded s (command.Operation (op.Check path version)) = refl
written_bounded s (command.SetAcl path version acl) = refl
written_bounded s (command.Auth scheme auth) = refl
written_bounded s (command.Multi operations) = refl
written_bounded s (command.Sync path) = refl
written_bounded s command.Close = refl

raw_bounded : (s e q : ℕ) (c : Command) → HasRoom (line_words (Raw s e q c))
raw_bounded s e q (command.Operation (op.Create path flags bytes acl)) = refl
raw_bounded s e q (command.Operation (op.Delete path version)) = refl
raw_bounded s e q (command.Operation (op.Set path bytes version)) = refl
raw_bounded s e q (command.Operation (op.Check path version)) = refl
raw_bounded s e q (command.SetAcl path version acl) = refl
raw_bounded s e q (command.Auth scheme auth) = refl
raw_bounded s e q (command.Multi operations) = refl
raw_bounded s e q (command.Sync path) = refl
raw_bounded s e q command.Close = refl

line_bounded : (l : StoreLine) → HasRoom (line_words l)
line_bounded (Time t) = refl
line_bounded (Open timeout passwd) = refl
line_bounded (Attach session passwd) = refl
line_bounded (Expire session) = refl
line_bounded Noop = refl
line_bounded (Write s c) = written_bounded s c
line_bounded (Raw s e q c) = raw_bounded s e q c
line_bounded Commit = refl
line_bounded (Truncate k) = refl
line_bounded (Peek path) = refl
line_bounded (See path) = refl
line_bounded (Kids path) = refl
line_bounded (Ls path) = refl
line_bounded (Acl path) = refl
line_bounded (Who session) = refl

-- the words of a line may be one
line_shaped : (text : List ℕ) (l : StoreLine) → line_of text ≡ Some l → may_be_line (words_of text) ≡ true
unfolding line_of
line_shaped text l e =
    let c = first_way (is_utf8 text) (of_words (words_of text)) l e in
    let h = words_read (words_of text) l (words_are_parts text c.0) c.1 in
    subst (λ ws. may_be_line ws ≡ true) (sym h.0) (both (have_list (line_words l) || are_few (line_words l)) (are_written (line_words l)) (line_bounded l) (line_written l h.1))

none_of : (text : List ℕ) (o : Option StoreLine) → line_of text ≡ o → may_be_line (words_of text) ≡ false → o ≡ None
none_of text None e h = refl
none_of text (Some l) e h = let t = line_shaped text l e in absurd (cc)

-- a text whose words can't be a line is none
no_shape : (text : List ℕ) → may_be_line (words_of text) ≡ false → line_of text ≡ None
no_shape text h = none_of text (line_of text) refl h

-- the same of a text that was looked over
pub refused : (text line : List ℕ) (b : Bool) → line ≡ text → b ≡ may_be_line (words_of line) → b ≡ false → None ≡ line_of text
refused text line b same e h = sym (no_shape text (ap (λ t. may_be_line (words_of t)) (sym same) ∙ sym e ∙ h))
