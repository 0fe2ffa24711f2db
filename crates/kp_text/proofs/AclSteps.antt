-- An access list, read word by word.
use Rattle.std.proofs.Common.{◌≡◌, ◌<◌, ◌≤◌, ◌+◌, ℕ, List, [], ◌∷◌, ◌++◌, length, drop, get_or, map, Option, Some, None, refl, sym, ap, ◌∙◌, append_assoc, append-nil, add-one, drop_of_length-le}
use Rattle.std.proofs.Math.Seq.{drop-cons}
use Rattle.std.specs.Option.{option_map}
use Rattle.kp_model.specs.declared.node.Acl.{Acl}
use Rattle.kp_text.specs.Words.{◌>>=◌}
use Rattle.kp_text.specs.AclWords.{acl_of, acls_of}
use denote.Ref.{Bor}

-- the texts of words
abbrev pub texts : List (Bor (List ℕ)) → List (List ℕ)
texts ws = map (λ x. x.now) ws

cons_acls : (w : List ℕ) (ws : List (List ℕ)) → acls_of (w ∷ ws) ≡ (acl_of w >>= λ a. acls_of ws >>= λ more. Some (a ∷ more))
unfolding acls_of
cons_acls w ws = refl

no_acls : acls_of [] ≡ Some []
unfolding acls_of
no_acls = refl

-- one word further
next_acls : (ws : List (Bor (List ℕ))) (i : ℕ) (d : Bor (List ℕ)) → i < length ws → acls_of (texts (drop i ws)) ≡ (acl_of (get_or ws i d).now >>= λ a. acls_of (texts (drop (i + 1) ws)) >>= λ more. Some (a ∷ more))
next_acls ws i d lt =
    ap (λ l. acls_of (texts l)) (drop-cons ws i d lt ∙ ap (λ n. get_or ws i d ∷ drop n ws) (sym (add-one i)))
    ∙ cons_acls (get_or ws i d).now (texts (drop (i + 1) ws))

pushed : (acl : List Acl) (a : Acl) (o : Option (List Acl)) → option_map (λ more. (acl ++ a ∷ []) ++ more) o ≡ option_map (λ more. acl ++ more) (o >>= λ more. Some (a ∷ more))
pushed acl a None = refl
pushed acl a (Some more) = ap Some (append_assoc acl (a ∷ []) more)

-- the list so far and what is still to come, behind one line more
pub acls_more : (old new : List Acl) (a : Acl) (all : Option (List Acl)) (ws : List (Bor (List ℕ))) (i : ℕ) (d : Bor (List ℕ))
    → i < length ws → Some a ≡ acl_of (get_or ws i d).now → new ≡ old ++ a ∷ [] → option_map (λ more. old ++ more) (acls_of (texts (drop i ws))) ≡ all
    → option_map (λ more. new ++ more) (acls_of (texts (drop (i + 1) ws))) ≡ all
acls_more old new a all ws i d lt is push so_far =
    let rest = acls_of (texts (drop (i + 1) ws)) in
    ap (λ (l : List Acl). option_map (λ more. l ++ more) rest) push ∙ pushed old a rest
    ∙ ap (option_map (λ more. old ++ more)) (ap (λ o. o >>= λ x. rest >>= λ more. Some (x ∷ more)) is ∙ sym (next_acls ws i d lt)) ∙ so_far

-- a word that is no line of a list leaves none
pub acls_stop : (old : List Acl) (all : Option (List Acl)) (ws : List (Bor (List ℕ))) (i : ℕ) (d : Bor (List ℕ))
    → i < length ws → None ≡ acl_of (get_or ws i d).now → option_map (λ more. old ++ more) (acls_of (texts (drop i ws))) ≡ all → None ≡ all
acls_stop old all ws i d lt is so_far =
    ap (option_map (λ more. old ++ more)) (ap (λ o. o >>= λ x. acls_of (texts (drop (i + 1) ws)) >>= λ more. Some (x ∷ more)) is ∙ sym (next_acls ws i d lt)) ∙ so_far

-- nothing is to come behind the last word
pub acls_end : (acl : List Acl) (all : Option (List Acl)) (ws : List (Bor (List ℕ))) (i : ℕ) → length ws ≤ i → option_map (λ more. acl ++ more) (acls_of (texts (drop i ws))) ≡ all → Some acl ≡ all
acls_end acl all ws i le so_far =
    ap Some (sym (append-nil acl)) ∙ sym (ap (option_map (λ more. acl ++ more)) (ap (λ l. acls_of (texts l)) (drop_of_length-le ws le) ∙ no_acls)) ∙ so_far
