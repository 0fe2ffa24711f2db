-- Commands and their words.
use Rattle.std.proofs.Common.{◌≡◌, ℕ, true, ◌&&◌, inl, inr, List, [], ◌∷◌, Some, refl, sym, ap, subst, ◌∙◌}
use Rattle.std.specs.List.{list_all}
use Rattle.kp_text.specs.Words.{◌>>=◌, version_of, data_of, path_of}
use Rattle.kp_text.specs.AclWords.{acl_list_of}
use Rattle.kp_text.specs.Commands.{operation_of, setacl_of, auth_of, sync_of, close_of, multi_of, single_of, command_of}
use Rattle.kp_text.specs.Spelling.{is_part, is_word, are_bytes, is_asked, are_acls, is_operation, is_command, spelled_data, spelled_version, acl_words, operation_name, operation_words, command_name, command_words}
use Rattle.kp_text.specs.declared.command.Operation.{Operation}
use Rattle.kp_text.specs.declared.command.Operation.TheVariants as op
use Rattle.kp_text.specs.declared.command.Command.{Command}
use Rattle.kp_text.specs.declared.command.Command.TheVariants as command
use Rattle.kp_text.proofs.Numerals.{left, right}
use Rattle.kp_text.proofs.Spelled.{both}
use Rattle.kp_text.proofs.Visible.{visible_part}
use Rattle.kp_text.proofs.Hexadecimal.{data_is_spelled, data_is_read, data_word}
use Rattle.kp_text.proofs.Versions.{version_is_spelled, version_is_read, version_word}
use Rattle.kp_text.proofs.Choices.{bound, got, chosen_word}
use Rattle.kp_text.proofs.AclTexts.{acl_list_read, acl_list_back, acl_list_parts}
use Rattle.kp_text.proofs.OperationTexts.{path_is_spelled, path_is_read, path_part, alone, before, head_part, tail_parts, operation_read, operation_back, operation_parts, operation_name_part}
use Rattle.kp_text.proofs.MultiTexts.{multi_read, multi_back, multi_parts}
use lib.Chars.{codes}

-- ---- what is read as a command is spelled so

abbrev pub IsCommand : List ℕ → List (List ℕ) → Command → Type 0
IsCommand name ws c = (name ≡ command_name c) × (ws ≡ command_words c) × (is_command c ≡ true)

setacl_read : (ws : List (List ℕ)) (c : Command) → list_all is_part ws ≡ true → setacl_of ws ≡ Some c → IsCommand (codes "setacl") ws c
unfolding setacl_of
setacl_read [] c p e = absurd (cc)
setacl_read (a ∷ []) c p e = absurd (cc)
setacl_read (a ∷ b ∷ ws) c p e =
    let p1 = bound (path_of a) _ c e in
    let p2 = bound (version_of b) _ c p1.2 in
    let p3 = bound (acl_list_of ws) _ c p2.2 in
    let path = path_is_spelled a p1.0 (head_part a (b ∷ ws) p) p1.1 in
    let version = version_is_spelled b p2.0 p2.1 in
    let acl = acl_list_read ws p3.0 (tail_parts b ws (tail_parts a (b ∷ ws) p)) p3.1 in
    subst (IsCommand (codes "setacl") (a ∷ b ∷ ws)) (got (command.SetAcl p1.0 p2.0 p3.0) c p3.2) (
      refl,
      ap (λ x. x ∷ b ∷ ws) path.0 ∙ ap (λ x. p1.0 ∷ x ∷ ws) version.0 ∙ ap (λ x. p1.0 ∷ spelled_version p2.0 ∷ x) acl.0,
      both (is_word p1.0) (is_asked p2.0 && are_acls p3.0) path.1 (both (is_asked p2.0) (are_acls p3.0) version.1 acl.1),
    )

auth_read : (ws : List (List ℕ)) (c : Command) → list_all is_part ws ≡ true → auth_of ws ≡ Some c → IsCommand (codes "auth") ws c
unfolding auth_of
auth_read [] c p e = absurd (cc)
auth_read (a ∷ []) c p e = absurd (cc)
auth_read (a ∷ b ∷ []) c p e =
    let p1 = bound (path_of a) _ c e in
    let p2 = bound (data_of b) _ c p1.2 in
    let scheme = path_is_spelled a p1.0 (head_part a (b ∷ []) p) p1.1 in
    let auth = data_is_spelled b p2.0 p2.1 in
    subst (IsCommand (codes "auth") (a ∷ b ∷ [])) (got (command.Auth p1.0 p2.0) c p2.2)
    (refl, ap (λ x. x ∷ b ∷ []) scheme.0 ∙ ap (λ x. p1.0 ∷ x ∷ []) auth.0, both (is_word p1.0) (are_bytes p2.0) scheme.1 auth.1)
auth_read (a ∷ b ∷ d ∷ ws) c p e = absurd (cc)

sync_read : (ws : List (List ℕ)) (c : Command) → list_all is_part ws ≡ true → sync_of ws ≡ Some c → IsCommand (codes "sync") ws c
unfolding sync_of
sync_read [] c p e = absurd (cc)
sync_read (a ∷ []) c p e =
    let p1 = bound (path_of a) _ c e in
    let path = path_is_spelled a p1.0 (head_part a [] p) p1.1 in
    subst (IsCommand (codes "sync") (a ∷ [])) (got (command.Sync p1.0) c p1.2) (refl, ap (λ x. x ∷ []) path.0, path.1)
sync_read (a ∷ b ∷ ws) c p e = absurd (cc)

multi_command : (ws : List (List ℕ)) (c : Command) → list_all is_part ws ≡ true → multi_of ws ≡ Some c → IsCommand (codes "multi") ws c
multi_command ws c p e = let h = multi_read ws c p e in subst (IsCommand (codes "multi") ws) (sym h.1) (refl, h.2, h.3)

close_read : (ws : List (List ℕ)) (c : Command) → close_of ws ≡ Some c → IsCommand (codes "close") ws c
unfolding close_of
close_read [] c e = subst (IsCommand (codes "close") []) (got command.Close c e) (refl, refl, refl)
close_read (w ∷ ws) c e = absurd (cc)

single_read : (name : List ℕ) (ws : List (List ℕ)) (c : Command) → list_all is_part ws ≡ true → single_of name ws ≡ Some c → IsCommand name ws c
unfolding single_of
single_read name ws c p e =
    let b = bound (operation_of name ws) _ c e in
    subst (IsCommand name ws) (got (command.Operation b.0) c b.2) (operation_read name ws b.0 p b.1)

pub command_read : (name : List ℕ) (ws : List (List ℕ)) (c : Command) → list_all is_part ws ≡ true → command_of name ws ≡ Some c → IsCommand name ws c
unfolding command_of
command_read name ws c p e = elim (chosen_word name (codes "setacl") (setacl_of ws) _ c e) [
  | inl d ↦ let h = setacl_read ws c p d.1 in (d.0 ∙ h.0, h.1, h.2)
  | inr e1 ↦ elim (chosen_word name (codes "auth") (auth_of ws) _ c e1) [
    | inl d ↦ let h = auth_read ws c p d.1 in (d.0 ∙ h.0, h.1, h.2)
    | inr e2 ↦ elim (chosen_word name (codes "multi") (multi_of ws) _ c e2) [
      | inl d ↦ let h = multi_command ws c p d.1 in (d.0 ∙ h.0, h.1, h.2)
      | inr e3 ↦ elim (chosen_word name (codes "sync") (sync_of ws) _ c e3) [
        | inl d ↦ let h = sync_read ws c p d.1 in (d.0 ∙ h.0, h.1, h.2)
        | inr e4 ↦ elim (chosen_word name (codes "close") (close_of ws) _ c e4) [
          | inl d ↦ let h = close_read ws c d.1 in (d.0 ∙ h.0, h.1, h.2)
          | inr e5 ↦ single_read name ws c p e5
        ]
      ]
    ]
  ]
]

-- ---- what is spelled so is read

-- an operation's name is that of no other command
by_operation : (o : Operation) (ws : List (List ℕ)) → command_of (operation_name o) ws ≡ single_of (operation_name o) ws
unfolding command_of
by_operation (op.Create path flags bytes acl) ws = refl
by_operation (op.Delete path version) ws = refl
by_operation (op.Set path bytes version) ws = refl
by_operation (op.Check path version) ws = refl

single_back : (o : Operation) → is_operation o ≡ true → single_of (operation_name o) (operation_words o) ≡ Some (command.Operation o)
unfolding single_of
single_back o h = ap (λ r. r >>= λ x. Some (command.Operation x)) (operation_back o h)

pub command_back : (c : Command) → is_command c ≡ true → command_of (command_name c) (command_words c) ≡ Some c
unfolding command_of setacl_of auth_of sync_of close_of
command_back (command.Operation o) h = by_operation o (operation_words o) ∙ single_back o h
command_back (command.SetAcl path version acl) h =
    let h1 = right (is_word path) (is_asked version && are_acls acl) h in
    ap (λ o. o >>= λ p. version_of (spelled_version version) >>= λ v. acl_list_of (acl_words acl) >>= λ a. Some (command.SetAcl p v a)) (path_is_read path (left (is_word path) (is_asked version && are_acls acl) h))
    ∙ ap (λ o. o >>= λ v. acl_list_of (acl_words acl) >>= λ a. Some (command.SetAcl path v a)) (version_is_read version (left (is_asked version) (are_acls acl) h1))
    ∙ ap (λ o. o >>= λ a. Some (command.SetAcl path version a)) (acl_list_back acl (right (is_asked version) (are_acls acl) h1))
command_back (command.Auth scheme auth) h =
    ap (λ o. o >>= λ s. data_of (spelled_data auth) >>= λ a. Some (command.Auth s a)) (path_is_read scheme (left (is_word scheme) (are_bytes auth) h))
    ∙ ap (λ o. o >>= λ a. Some (command.Auth scheme a)) (data_is_read auth (right (is_word scheme) (are_bytes auth) h))
command_back (command.Multi operations) h = multi_back operations h
command_back (command.Sync path) h = ap (λ o. o >>= λ p. Some (command.Sync p)) (path_is_read path h)
command_back command.Close h = refl

pub command_parts : (c : Command) → is_command c ≡ true → list_all is_part (command_words c) ≡ true
command_parts (command.Operation o) h = operation_parts o h
command_parts (command.SetAcl path version acl) h =
    let h1 = right (is_word path) (is_asked version && are_acls acl) h in
    let rest = before (spelled_version version) (acl_words acl) (version_word version (left (is_asked version) (are_acls acl) h1)) (acl_list_parts acl (right (is_asked version) (are_acls acl) h1)) in
    before path (spelled_version version ∷ acl_words acl) (path_part path (left (is_word path) (is_asked version && are_acls acl) h)) rest
command_parts (command.Auth scheme auth) h =
    before scheme (spelled_data auth ∷ []) (path_part scheme (left (is_word scheme) (are_bytes auth) h)) (alone (spelled_data auth) (data_word auth (right (is_word scheme) (are_bytes auth) h)))
command_parts (command.Multi operations) h = multi_parts operations h
command_parts (command.Sync path) h = alone path (path_part path h)
command_parts command.Close h = refl

pub name_part : (c : Command) → is_part (command_name c) ≡ true
name_part (command.Operation o) = operation_name_part o
name_part (command.SetAcl path version acl) = visible_part (codes "setacl") refl
name_part (command.Auth scheme auth) = visible_part (codes "auth") refl
name_part (command.Multi operations) = visible_part (codes "multi") refl
name_part (command.Sync path) = visible_part (codes "sync") refl
name_part command.Close = visible_part (codes "close") refl
