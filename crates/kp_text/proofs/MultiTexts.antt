-- The words of a multi and its operations.
use Rattle.std.proofs.Common.{◌≡◌, ℕ, Bool, true, false, cond, not, ◌&&◌, List, [], ◌∷◌, ◌++◌, map, Some, refl, sym, ap, subst, ◌∙◌}
use Rattle.std.specs.List.{list_all, slice_split, onto_first, All}
use Rattle.std.proofs.lemmas.List.Elements.{All-cons, All-nil}
use Rattle.std.proofs.lemmas.List.Splits.{slice_split_none, slice_split_at}
use Rattle.std.proofs.lemmas.Slice.Eq.{bytes_eq-Decides}
use Rattle.kp_text.specs.Words.{◌>>=◌}
use Rattle.kp_text.specs.Commands.{is_separator, operation_in, operations_of, multi_of}
use Rattle.kp_text.specs.Spelling.{is_part, is_operation, is_nested, operation_name, operation_words, operation_line, separated}
use Rattle.kp_text.specs.declared.command.Operation.{Operation}
use Rattle.kp_text.specs.declared.command.Command.{Command}
use Rattle.kp_text.specs.declared.command.Command.TheVariants as command
use Rattle.kp_text.proofs.Numerals.{left, right}
use Rattle.kp_text.proofs.Spelled.{both}
use Rattle.kp_text.proofs.Parted.{no_space}
use Rattle.kp_text.proofs.Visible.{visible_part}
use Rattle.kp_text.proofs.Choices.{bound, got}
use Rattle.kp_text.proofs.OperationTexts.{before, operation_read, operation_back, operation_parts, operation_name_part}
use lib.Chars.{codes}

abbrev pub parts : List (List ℕ) → List (List (List ℕ))
parts ws = slice_split is_separator ws

abbrev not_separator : List ℕ → Bool
not_separator w = not (is_separator w)

-- ---- what holds of all words holds of those of each part

onto_parts : (p : List ℕ → Bool) (w : List ℕ) (ps : List (List (List ℕ))) → p w ≡ true → list_all (list_all p) ps ≡ true → list_all (list_all p) (onto_first w ps) ≡ true
onto_parts p w [] h more = both (p w && true) true (both (p w) true h refl) refl
onto_parts p w (part ∷ ps) h more =
    both (p w && list_all p part) (list_all (list_all p) ps) (both (p w) (list_all p part) h (left (list_all p part) (list_all (list_all p) ps) more)) (right (list_all p part) (list_all (list_all p) ps) more)

either_parts : (p : List ℕ → Bool) (w : List ℕ) (ps : List (List (List ℕ))) (t : Bool) → p w ≡ true → list_all (list_all p) ps ≡ true → list_all (list_all p) (cond t ([] ∷ ps) (onto_first w ps)) ≡ true
either_parts p w ps true h more = more
either_parts p w ps false h more = onto_parts p w ps h more

all_in_parts : (p : List ℕ → Bool) (ws : List (List ℕ)) → list_all p ws ≡ true → list_all (list_all p) (parts ws) ≡ true
all_in_parts p [] h = refl
all_in_parts p (w ∷ ws) h = either_parts p w (parts ws) (is_separator w) (left (p w) (list_all p ws) h) (all_in_parts p ws (right (p w) (list_all p ws) h))

plain_case : (w : List ℕ) (ps : List (List (List ℕ))) (t : Bool) → is_separator w ≡ t → list_all (list_all not_separator) ps ≡ true → list_all (list_all not_separator) (cond t ([] ∷ ps) (onto_first w ps)) ≡ true
plain_case w ps true e more = more
plain_case w ps false e more = onto_parts not_separator w ps (ap not e) more

-- no part has a separator
plain_parts : (ws : List (List ℕ)) → list_all (list_all not_separator) (parts ws) ≡ true
plain_parts [] = refl
plain_parts (w ∷ ws) = plain_case w (parts ws) (is_separator w) refl (plain_parts ws)

-- ---- the parts, with a separator between two, are the words again

some_part : (ws : List (List ℕ)) → (part : List (List ℕ)) × (more : List (List (List ℕ))) × (parts ws ≡ part ∷ more)
some_part [] = ([], [], refl)
some_part (w ∷ ws) =
    let h = some_part ws in
    elim (is_separator w) as (λ v. (part : List (List ℕ)) × (more : List (List (List ℕ))) × (cond v ([] ∷ parts ws) (onto_first w (parts ws)) ≡ part ∷ more)) [
      | true ↦ ([], parts ws, refl)
      | false ↦ (w ∷ h.0, h.1, ap (onto_first w) h.2)
    ]

onto_separated : (w : List ℕ) (part : List (List ℕ)) (more : List (List (List ℕ))) → separated (onto_first w (part ∷ more)) ≡ w ∷ separated (part ∷ more)
onto_separated w part [] = refl
onto_separated w part (next ∷ more) = refl

joined_case : (w : List ℕ) (ws part : List (List ℕ)) (more : List (List (List ℕ))) (t : Bool) → is_separator w ≡ t → parts ws ≡ part ∷ more → separated (parts ws) ≡ ws → separated (cond t ([] ∷ parts ws) (onto_first w (parts ws))) ≡ w ∷ ws
joined_case w ws part more true e s ih =
    ap (λ l. separated ([] ∷ l)) s ∙ ap (λ l. codes ";" ∷ separated l) (sym s) ∙ ap (λ l. codes ";" ∷ l) ih ∙ ap (λ x. x ∷ ws) (sym ((bytes_eq-Decides w (codes ";")).0 e))
joined_case w ws part more false e s ih =
    ap (λ l. separated (onto_first w l)) s ∙ onto_separated w part more ∙ ap (λ l. w ∷ separated l) (sym s) ∙ ap (λ l. w ∷ l) ih

joined_again : (ws : List (List ℕ)) → separated (parts ws) ≡ ws
joined_again [] = refl
joined_again (w ∷ ws) = let h = some_part ws in joined_case w ws h.0 h.1 (is_separator w) refl h.2 (joined_again ws)

-- ---- what is read as a multi is spelled so

part_read : (part : List (List ℕ)) (o : Operation) → list_all is_part part ≡ true → list_all not_separator part ≡ true → operation_in part ≡ Some o → (part ≡ operation_line o) × (is_nested o ≡ true)
part_read [] o p n e = absurd (cc)
part_read (name ∷ ws) o p n e =
    let h = operation_read name ws o (right (is_part name) (list_all is_part ws) p) e in
    let same : name ∷ ws ≡ operation_line o = ap (λ x. x ∷ ws) h.0 ∙ ap (λ x. operation_name o ∷ x) h.1 in
    (same, both (is_operation o) (list_all not_separator (operation_line o)) h.2 (subst (λ x. list_all not_separator x ≡ true) same n))

operations_read : (ps : List (List (List ℕ))) (os : List Operation) → list_all (list_all is_part) ps ≡ true → list_all (list_all not_separator) ps ≡ true → operations_of ps ≡ Some os
    → (ps ≡ map operation_line os) × (list_all is_nested os ≡ true)
unfolding operations_of
operations_read [] os p n e = subst (λ x. ([] ≡ map operation_line x) × (list_all is_nested x ≡ true)) (got [] os e) (refl, refl)
operations_read (part ∷ ps) os p n e =
    let o = bound (operation_in part) _ os e in
    let m = bound (operations_of ps) _ os o.2 in
    let one = part_read part o.0 (left (list_all is_part part) (list_all (list_all is_part) ps) p) (left (list_all not_separator part) (list_all (list_all not_separator) ps) n) o.1 in
    let more = operations_read ps m.0 (right (list_all is_part part) (list_all (list_all is_part) ps) p) (right (list_all not_separator part) (list_all (list_all not_separator) ps) n) m.1 in
    subst (λ x. (part ∷ ps ≡ map operation_line x) × (list_all is_nested x ≡ true)) (got (o.0 ∷ m.0) os m.2)
    (ap (λ x. x ∷ ps) one.0 ∙ ap (λ x. operation_line o.0 ∷ x) more.0, both (is_nested o.0) (list_all is_nested m.0) one.1 more.1)

-- the words are a multi's
abbrev IsMulti : List (List ℕ) → Command → Type 0
IsMulti ws c = (os : List Operation) × (c ≡ command.Multi os) × (ws ≡ separated (map operation_line os)) × (list_all is_nested os ≡ true)

pub multi_read : (ws : List (List ℕ)) (c : Command) → list_all is_part ws ≡ true → multi_of ws ≡ Some c → IsMulti ws c
unfolding multi_of
multi_read [] c p e = ([], sym (got (command.Multi []) c e), refl, refl)
multi_read (w ∷ ws) c p e =
    let b = bound (operations_of (parts (w ∷ ws))) _ c e in
    let h = operations_read (parts (w ∷ ws)) b.0 (all_in_parts is_part (w ∷ ws) p) (plain_parts (w ∷ ws)) b.1 in
    (b.0, sym (got (command.Multi b.0) c b.2), sym (joined_again (w ∷ ws)) ∙ ap separated h.0, h.1)

-- ---- what is spelled so is read

no_separators : (ws : List (List ℕ)) → list_all not_separator ws ≡ true → All (λ w. is_separator w ≡ false) ws
no_separators [] h = All-nil (λ w. is_separator w ≡ false)
no_separators (w ∷ ws) h = All-cons (λ w. is_separator w ≡ false) w ws (no_space (is_separator w) (left (not_separator w) (list_all not_separator ws) h)) (no_separators ws (right (not_separator w) (list_all not_separator ws) h))

parted_again : (part : List (List ℕ)) (more : List (List (List ℕ))) → list_all (list_all not_separator) (part ∷ more) ≡ true → parts (separated (part ∷ more)) ≡ part ∷ more
parted_again part [] h = slice_split_none is_separator part (no_separators part (left (list_all not_separator part) true h))
parted_again part (next ∷ more) h =
    slice_split_at is_separator part (codes ";") (separated (next ∷ more)) (no_separators part (left (list_all not_separator part) (list_all (list_all not_separator) (next ∷ more)) h)) refl
    ∙ ap (λ l. part ∷ l) (parted_again next more (right (list_all not_separator part) (list_all (list_all not_separator) (next ∷ more)) h))

nested_plain : (os : List Operation) → list_all is_nested os ≡ true → list_all (list_all not_separator) (map operation_line os) ≡ true
nested_plain [] h = refl
nested_plain (o ∷ os) h =
    both (list_all not_separator (operation_line o)) (list_all (list_all not_separator) (map operation_line os))
    (right (is_operation o) (list_all not_separator (operation_line o)) (left (is_nested o) (list_all is_nested os) h)) (nested_plain os (right (is_nested o) (list_all is_nested os) h))

operations_back : (os : List Operation) → list_all is_nested os ≡ true → operations_of (map operation_line os) ≡ Some os
unfolding operations_of
operations_back [] h = refl
operations_back (o ∷ os) h =
    ap (λ r. r >>= λ x. operations_of (map operation_line os) >>= λ more. Some (x ∷ more)) (operation_back o (left (is_operation o) (list_all not_separator (operation_line o)) (left (is_nested o) (list_all is_nested os) h)))
    ∙ ap (λ r. r >>= λ more. Some (o ∷ more)) (operations_back os (right (is_nested o) (list_all is_nested os) h))

some_back : (o : Operation) (os : List Operation) → list_all is_nested (o ∷ os) ≡ true
    → (operations_of (parts (separated (map operation_line (o ∷ os)))) >>= λ x. Some (command.Multi x)) ≡ Some (command.Multi (o ∷ os))
some_back o os h =
    ap (λ l. operations_of l >>= λ x. Some (command.Multi x)) (parted_again (operation_line o) (map operation_line os) (nested_plain (o ∷ os) h))
    ∙ ap (λ r. r >>= λ x. Some (command.Multi x)) (operations_back (o ∷ os) h)

pub multi_back : (os : List Operation) → list_all is_nested os ≡ true → multi_of (separated (map operation_line os)) ≡ Some (command.Multi os)
unfolding multi_of
multi_back [] h = refl
multi_back (o ∷ []) h = some_back o [] h
multi_back (o ∷ p ∷ os) h = some_back o (p ∷ os) h

appended_parts : (a b : List (List ℕ)) → list_all is_part a ≡ true → list_all is_part b ≡ true → list_all is_part (a ++ b) ≡ true
appended_parts [] b h more = more
appended_parts (w ∷ a) b h more = both (is_part w) (list_all is_part (a ++ b)) (left (is_part w) (list_all is_part a) h) (appended_parts a b (right (is_part w) (list_all is_part a) h) more)

line_part : (o : Operation) → is_nested o ≡ true → list_all is_part (operation_line o) ≡ true
line_part o h = before (operation_name o) (operation_words o) (operation_name_part o) (operation_parts o (left (is_operation o) (list_all not_separator (operation_line o)) h))

pub multi_parts : (os : List Operation) → list_all is_nested os ≡ true → list_all is_part (separated (map operation_line os)) ≡ true
multi_parts [] h = refl
multi_parts (o ∷ []) h = line_part o (left (is_nested o) true h)
multi_parts (o ∷ p ∷ os) h =
    appended_parts (operation_line o) (codes ";" ∷ separated (map operation_line (p ∷ os))) (line_part o (left (is_nested o) (list_all is_nested (p ∷ os)) h))
    (before (codes ";") (separated (map operation_line (p ∷ os))) (visible_part (codes ";") refl) (multi_parts (p ∷ os) (right (is_nested o) (list_all is_nested (p ∷ os)) h)))
