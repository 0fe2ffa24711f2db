-- Operations and their words.
use Rattle.std.proofs.Common.{◌≡◌, ℕ, true, not, ◌&&◌, inl, inr, List, [], ◌∷◌, Some, arith, refl, ap, subst, ◌∙◌}
use Rattle.std.specs.List.{list_all}
use Rattle.std.specs.Fmt.{decimal}
use Rattle.kp_model.specs.Limits.{last_count}
use Rattle.kp_model.specs.Path.{is_empty}
use Rattle.kp_text.specs.Words.{◌>>=◌, number_of, version_of, data_of, path_of}
use Rattle.kp_text.specs.AclWords.{acl_given_by}
use Rattle.kp_text.specs.Commands.{create_of, delete_of, set_of, check_of, operation_of}
use Rattle.kp_text.specs.Spelling.{is_part, is_word, is_int, are_bytes, is_asked, are_given_acls, is_operation, spelled_data, spelled_version, given_words, operation_name, operation_words}
use Rattle.kp_text.specs.declared.command.Operation.{Operation}
use Rattle.kp_text.specs.declared.command.Operation.TheVariants as op
use Rattle.kp_text.proofs.Numerals.{left, right}
use Rattle.kp_text.proofs.Spelled.{both, number_is_spelled, spelled_is_read}
use Rattle.kp_text.proofs.Visible.{visible_part, decimal_part}
use Rattle.kp_text.proofs.Hexadecimal.{data_is_spelled, data_is_read, data_word}
use Rattle.kp_text.proofs.Versions.{version_is_spelled, version_is_read, version_word}
use Rattle.kp_text.proofs.Choices.{bound, got, chosen_word, only_word}
use Rattle.kp_text.proofs.AclTexts.{int_within, within_int, given_read, given_back, given_parts}
use lib.Chars.{codes}

-- ---- paths and small numbers

pub path_is_spelled : (a p : List ℕ) → is_part a ≡ true → path_of a ≡ Some p → (a ≡ p) × (is_word p ≡ true)
path_is_spelled [] p part e = absurd (cc)
path_is_spelled (b ∷ a) p part e = let same = got (b ∷ a) p e in (same, subst (λ q. is_word q ≡ true) same part)

pub path_is_read : (p : List ℕ) → is_word p ≡ true → path_of p ≡ Some p
path_is_read [] h = absurd (cc)
path_is_read (b ∷ p) h = refl

pub path_part : (p : List ℕ) → is_word p ≡ true → is_part p ≡ true
path_part p h = right (not (is_empty p)) (is_part p) h

int_is_spelled : (a : List ℕ) (n : ℕ) → number_of last_count a ≡ Some n → (a ≡ decimal n) × (is_int n ≡ true)
int_is_spelled a n e = let h = number_is_spelled last_count n a (omega arith) e in (h.0, int_within n h.1)

int_is_read : (n : ℕ) → is_int n ≡ true → number_of last_count (decimal n) ≡ Some n
int_is_read n h = spelled_is_read last_count n (within_int n h) (omega arith)

int_part : (n : ℕ) → is_int n ≡ true → is_part (decimal n) ≡ true
int_part n h = let le = within_int n h in decimal_part n (omega (arith, le))

pub alone : (w : List ℕ) → is_part w ≡ true → list_all is_part (w ∷ []) ≡ true
alone w h = both (is_part w) true h refl

pub before : (w : List ℕ) (ws : List (List ℕ)) → is_part w ≡ true → list_all is_part ws ≡ true → list_all is_part (w ∷ ws) ≡ true
before w ws h more = both (is_part w) (list_all is_part ws) h more

pub head_part : (w : List ℕ) (ws : List (List ℕ)) → list_all is_part (w ∷ ws) ≡ true → is_part w ≡ true
head_part w ws h = left (is_part w) (list_all is_part ws) h

pub tail_parts : (w : List ℕ) (ws : List (List ℕ)) → list_all is_part (w ∷ ws) ≡ true → list_all is_part ws ≡ true
tail_parts w ws h = right (is_part w) (list_all is_part ws) h

-- ---- what is read as an operation is spelled so

-- the name and the words are an operation's
abbrev pub IsOperation : List ℕ → List (List ℕ) → Operation → Type 0
IsOperation name ws o = (name ≡ operation_name o) × (ws ≡ operation_words o) × (is_operation o ≡ true)

create_read : (ws : List (List ℕ)) (o : Operation) → list_all is_part ws ≡ true → create_of ws ≡ Some o → IsOperation (codes "create") ws o
unfolding create_of
create_read [] o p e = absurd (cc)
create_read (a ∷ []) o p e = absurd (cc)
create_read (a ∷ b ∷ []) o p e = absurd (cc)
create_read (a ∷ b ∷ c ∷ ws) o p e =
    let p1 = bound (path_of a) _ o e in
    let p2 = bound (number_of last_count b) _ o p1.2 in
    let p3 = bound (data_of c) _ o p2.2 in
    let p4 = bound (acl_given_by ws) _ o p3.2 in
    let path = path_is_spelled a p1.0 (head_part a (b ∷ c ∷ ws) p) p1.1 in
    let flags = int_is_spelled b p2.0 p2.1 in
    let bytes = data_is_spelled c p3.0 p3.1 in
    let acl = given_read ws p4.0 (tail_parts c ws (tail_parts b (c ∷ ws) (tail_parts a (b ∷ c ∷ ws) p))) p4.1 in
    subst (IsOperation (codes "create") (a ∷ b ∷ c ∷ ws)) (got (op.Create p1.0 p2.0 p3.0 p4.0) o p4.2) (
      refl,
      ap (λ x. x ∷ b ∷ c ∷ ws) path.0 ∙ ap (λ x. p1.0 ∷ x ∷ c ∷ ws) flags.0 ∙ ap (λ x. p1.0 ∷ decimal p2.0 ∷ x ∷ ws) bytes.0 ∙ ap (λ x. p1.0 ∷ decimal p2.0 ∷ spelled_data p3.0 ∷ x) acl.0,
      both (is_word p1.0) (is_int p2.0 && (are_bytes p3.0 && are_given_acls p4.0)) path.1
          (both (is_int p2.0) (are_bytes p3.0 && are_given_acls p4.0) flags.1 (both (are_bytes p3.0) (are_given_acls p4.0) bytes.1 acl.1)),
    )

delete_read : (ws : List (List ℕ)) (o : Operation) → list_all is_part ws ≡ true → delete_of ws ≡ Some o → IsOperation (codes "delete") ws o
unfolding delete_of
delete_read [] o p e = absurd (cc)
delete_read (a ∷ []) o p e = absurd (cc)
delete_read (a ∷ b ∷ []) o p e =
    let p1 = bound (path_of a) _ o e in
    let p2 = bound (version_of b) _ o p1.2 in
    let path = path_is_spelled a p1.0 (head_part a (b ∷ []) p) p1.1 in
    let version = version_is_spelled b p2.0 p2.1 in
    subst (IsOperation (codes "delete") (a ∷ b ∷ [])) (got (op.Delete p1.0 p2.0) o p2.2)
    (refl, ap (λ x. x ∷ b ∷ []) path.0 ∙ ap (λ x. p1.0 ∷ x ∷ []) version.0, both (is_word p1.0) (is_asked p2.0) path.1 version.1)
delete_read (a ∷ b ∷ c ∷ ws) o p e = absurd (cc)

set_read : (ws : List (List ℕ)) (o : Operation) → list_all is_part ws ≡ true → set_of ws ≡ Some o → IsOperation (codes "set") ws o
unfolding set_of
set_read [] o p e = absurd (cc)
set_read (a ∷ []) o p e = absurd (cc)
set_read (a ∷ b ∷ []) o p e = absurd (cc)
set_read (a ∷ b ∷ c ∷ []) o p e =
    let p1 = bound (path_of a) _ o e in
    let p2 = bound (data_of b) _ o p1.2 in
    let p3 = bound (version_of c) _ o p2.2 in
    let path = path_is_spelled a p1.0 (head_part a (b ∷ c ∷ []) p) p1.1 in
    let bytes = data_is_spelled b p2.0 p2.1 in
    let version = version_is_spelled c p3.0 p3.1 in
    subst (IsOperation (codes "set") (a ∷ b ∷ c ∷ [])) (got (op.Set p1.0 p2.0 p3.0) o p3.2) (
      refl,
      ap (λ x. x ∷ b ∷ c ∷ []) path.0 ∙ ap (λ x. p1.0 ∷ x ∷ c ∷ []) bytes.0 ∙ ap (λ x. p1.0 ∷ spelled_data p2.0 ∷ x ∷ []) version.0,
      both (is_word p1.0) (are_bytes p2.0 && is_asked p3.0) path.1 (both (are_bytes p2.0) (is_asked p3.0) bytes.1 version.1),
    )
set_read (a ∷ b ∷ c ∷ d ∷ ws) o p e = absurd (cc)

check_read : (ws : List (List ℕ)) (o : Operation) → list_all is_part ws ≡ true → check_of ws ≡ Some o → IsOperation (codes "check") ws o
unfolding check_of
check_read [] o p e = absurd (cc)
check_read (a ∷ []) o p e = absurd (cc)
check_read (a ∷ b ∷ []) o p e =
    let p1 = bound (path_of a) _ o e in
    let p2 = bound (version_of b) _ o p1.2 in
    let path = path_is_spelled a p1.0 (head_part a (b ∷ []) p) p1.1 in
    let version = version_is_spelled b p2.0 p2.1 in
    subst (IsOperation (codes "check") (a ∷ b ∷ [])) (got (op.Check p1.0 p2.0) o p2.2)
    (refl, ap (λ x. x ∷ b ∷ []) path.0 ∙ ap (λ x. p1.0 ∷ x ∷ []) version.0, both (is_word p1.0) (is_asked p2.0) path.1 version.1)
check_read (a ∷ b ∷ c ∷ ws) o p e = absurd (cc)

pub operation_read : (name : List ℕ) (ws : List (List ℕ)) (o : Operation) → list_all is_part ws ≡ true → operation_of name ws ≡ Some o → IsOperation name ws o
unfolding operation_of
operation_read name ws o p e = elim (chosen_word name (codes "create") (create_of ws) _ o e) [
  | inl c ↦ let h = create_read ws o p c.1 in (c.0 ∙ h.0, h.1, h.2)
  | inr e1 ↦ elim (chosen_word name (codes "delete") (delete_of ws) _ o e1) [
    | inl c ↦ let h = delete_read ws o p c.1 in (c.0 ∙ h.0, h.1, h.2)
    | inr e2 ↦ elim (chosen_word name (codes "set") (set_of ws) _ o e2) [
      | inl c ↦ let h = set_read ws o p c.1 in (c.0 ∙ h.0, h.1, h.2)
      | inr e3 ↦ let c = only_word name (codes "check") (check_of ws) o e3 in let h = check_read ws o p c.1 in (c.0 ∙ h.0, h.1, h.2)
    ]
  ]
]

-- ---- what is spelled so is read

pub operation_back : (o : Operation) → is_operation o ≡ true → operation_of (operation_name o) (operation_words o) ≡ Some o
unfolding operation_of create_of delete_of set_of check_of
operation_back (op.Create path flags bytes acl) h =
    let h1 = right (is_word path) (is_int flags && (are_bytes bytes && are_given_acls acl)) h in
    let h2 = right (is_int flags) (are_bytes bytes && are_given_acls acl) h1 in
    ap (λ o. o >>= λ p. number_of last_count (decimal flags) >>= λ f. data_of (spelled_data bytes) >>= λ d. acl_given_by (given_words acl) >>= λ a. Some (op.Create p f d a)) (path_is_read path (left (is_word path) (is_int flags && (are_bytes bytes && are_given_acls acl)) h))
    ∙ ap (λ o. o >>= λ f. data_of (spelled_data bytes) >>= λ d. acl_given_by (given_words acl) >>= λ a. Some (op.Create path f d a)) (int_is_read flags (left (is_int flags) (are_bytes bytes && are_given_acls acl) h1))
    ∙ ap (λ o. o >>= λ d. acl_given_by (given_words acl) >>= λ a. Some (op.Create path flags d a)) (data_is_read bytes (left (are_bytes bytes) (are_given_acls acl) h2))
    ∙ ap (λ o. o >>= λ a. Some (op.Create path flags bytes a)) (given_back acl (right (are_bytes bytes) (are_given_acls acl) h2))
operation_back (op.Delete path version) h =
    ap (λ o. o >>= λ p. version_of (spelled_version version) >>= λ v. Some (op.Delete p v)) (path_is_read path (left (is_word path) (is_asked version) h))
    ∙ ap (λ o. o >>= λ v. Some (op.Delete path v)) (version_is_read version (right (is_word path) (is_asked version) h))
operation_back (op.Set path bytes version) h =
    let h1 = right (is_word path) (are_bytes bytes && is_asked version) h in
    ap (λ o. o >>= λ p. data_of (spelled_data bytes) >>= λ d. version_of (spelled_version version) >>= λ v. Some (op.Set p d v)) (path_is_read path (left (is_word path) (are_bytes bytes && is_asked version) h))
    ∙ ap (λ o. o >>= λ d. version_of (spelled_version version) >>= λ v. Some (op.Set path d v)) (data_is_read bytes (left (are_bytes bytes) (is_asked version) h1))
    ∙ ap (λ o. o >>= λ v. Some (op.Set path bytes v)) (version_is_read version (right (are_bytes bytes) (is_asked version) h1))
operation_back (op.Check path version) h =
    ap (λ o. o >>= λ p. version_of (spelled_version version) >>= λ v. Some (op.Check p v)) (path_is_read path (left (is_word path) (is_asked version) h))
    ∙ ap (λ o. o >>= λ v. Some (op.Check path v)) (version_is_read version (right (is_word path) (is_asked version) h))

pub operation_parts : (o : Operation) → is_operation o ≡ true → list_all is_part (operation_words o) ≡ true
operation_parts (op.Create path flags bytes acl) h =
    let h1 = right (is_word path) (is_int flags && (are_bytes bytes && are_given_acls acl)) h in
    let h2 = right (is_int flags) (are_bytes bytes && are_given_acls acl) h1 in
    let content = before (spelled_data bytes) (given_words acl) (data_word bytes (left (are_bytes bytes) (are_given_acls acl) h2)) (given_parts acl (right (are_bytes bytes) (are_given_acls acl) h2)) in
    let rest = before (decimal flags) (spelled_data bytes ∷ given_words acl) (int_part flags (left (is_int flags) (are_bytes bytes && are_given_acls acl) h1)) content in
    before path (decimal flags ∷ spelled_data bytes ∷ given_words acl) (path_part path (left (is_word path) (is_int flags && (are_bytes bytes && are_given_acls acl)) h)) rest
operation_parts (op.Delete path version) h =
    before path (spelled_version version ∷ []) (path_part path (left (is_word path) (is_asked version) h)) (alone (spelled_version version) (version_word version (right (is_word path) (is_asked version) h)))
operation_parts (op.Set path bytes version) h =
    let h1 = right (is_word path) (are_bytes bytes && is_asked version) h in
    let rest = before (spelled_data bytes) (spelled_version version ∷ []) (data_word bytes (left (are_bytes bytes) (is_asked version) h1)) (alone (spelled_version version) (version_word version (right (are_bytes bytes) (is_asked version) h1))) in
    before path (spelled_data bytes ∷ spelled_version version ∷ []) (path_part path (left (is_word path) (are_bytes bytes && is_asked version) h)) rest
operation_parts (op.Check path version) h =
    before path (spelled_version version ∷ []) (path_part path (left (is_word path) (is_asked version) h)) (alone (spelled_version version) (version_word version (right (is_word path) (is_asked version) h)))

pub operation_name_part : (o : Operation) → is_part (operation_name o) ≡ true
operation_name_part (op.Create path flags bytes acl) = visible_part (codes "create") refl
operation_name_part (op.Delete path version) = visible_part (codes "delete") refl
operation_name_part (op.Set path bytes version) = visible_part (codes "set") refl
operation_name_part (op.Check path version) = visible_part (codes "check") refl
