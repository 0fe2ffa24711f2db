-- The words of a multi, read part by part.
use Rattle.std.proofs.Common.{◌≡◌, ◌<◌, ◌≤◌, ◌+◌, ◌-◌, ℕ, suc, Bool, true, false, cond, not, List, [], ◌∷◌, ◌++◌, length, take, drop, map, Option, Some, None, arith, refl, sym, ap, subst, ◌∙◌, append_assoc, append-nil, ltb-true, ltb-false, length-drop}
use Rattle.std.specs.Prelude.{nat_lt}
use Rattle.std.specs.Option.{option_map}
use Rattle.std.specs.List.{slice_split, onto_first, position, position_or_len, prefix_len, before_first, after_first}
use Rattle.std.proofs.lemmas.List.Splits.{slice_split_first}
use Rattle.std.proofs.lemmas.Grind.{common_steps}
use Rattle.kp_text.specs.Words.{◌>>=◌}
use Rattle.kp_text.specs.Commands.{is_separator, operation_in, operations_of}
use Rattle.kp_text.specs.declared.command.Operation.{Operation}
use Rattle.kp_text.proofs.AclSteps.{texts}
use denote.Ref.{Bor}

-- a word that is a separator
abbrev pub separates : Bor (List ℕ) → Bool
separates w = is_separator w.now

-- ---- parts of words, and of their texts

onto_texts : (w : Bor (List ℕ)) (ps : List (List (Bor (List ℕ)))) → onto_first w.now (map texts ps) ≡ map texts (onto_first w ps)
onto_texts w [] = refl
onto_texts w (part ∷ ps) = refl

texts_case : (w : Bor (List ℕ)) (ts : List (List (List ℕ))) (ps : List (List (Bor (List ℕ)))) (t : Bool) → ts ≡ map texts ps → cond t ([] ∷ ts) (onto_first w.now ts) ≡ map texts (cond t ([] ∷ ps) (onto_first w ps))
texts_case w ts ps true e = ap (λ l. [] ∷ l) e
texts_case w ts ps false e = ap (onto_first w.now) e ∙ onto_texts w ps

split_texts : (ws : List (Bor (List ℕ))) → slice_split is_separator (texts ws) ≡ map texts (slice_split separates ws)
split_texts [] = refl
split_texts (w ∷ ws) = texts_case w (slice_split is_separator (texts ws)) (slice_split separates ws) (separates w) (split_texts ws)

one_part : (ws : List (Bor (List ℕ))) → length ws ≤ position_or_len separates ws → slice_split separates ws ≡ ws ∷ []
one_part [] h = refl
one_part (w ∷ ws) h =
    elim (separates w) as (λ v. suc (length ws) ≤ cond (not v) (1 + prefix_len (λ x. not (separates x)) ws) 0 → cond v ([] ∷ slice_split separates ws) (onto_first w (slice_split separates ws)) ≡ (w ∷ ws) ∷ []) [
      | true ↦ λ (k : suc (length ws) ≤ 0). absurd (omega (arith, k))
      | false ↦ λ (k : suc (length ws) ≤ 1 + prefix_len (λ x. not (separates x)) ws). ap (onto_first w) (one_part ws (omega (arith, k)))
    ] h

found_at : (ws : List (Bor (List ℕ))) (at : ℕ) → position separates ws ≡ Some at → (position_or_len separates ws ≡ at) × (at < length ws)
found_at ws at e = elim (nat_lt (position_or_len separates ws) (length ws)) as (λ b. nat_lt (position_or_len separates ws) (length ws) ≡ b → cond b (Some (position_or_len separates ws)) None ≡ Some at → (position_or_len separates ws ≡ at) × (at < length ws)) [
  | true ↦ λ t q. let same : position_or_len separates ws ≡ at = cc in (same, subst (λ n. n < length ws) same (ltb-true _ _ t))
  | false ↦ λ t q. absurd (cc)
] refl e

found_none : (ws : List (Bor (List ℕ))) → position separates ws ≡ None → length ws ≤ position_or_len separates ws
found_none ws e = elim (nat_lt (position_or_len separates ws) (length ws)) as (λ b. nat_lt (position_or_len separates ws) (length ws) ≡ b → cond b (Some (position_or_len separates ws)) None ≡ None → length ws ≤ position_or_len separates ws) [
  | true ↦ λ t q. absurd (cc)
  | false ↦ λ t q. ltb-false _ _ t
] refl e

-- no separator: the words are one part
pub no_more_parts : (ws : List (Bor (List ℕ))) → position separates ws ≡ None → slice_split is_separator (texts ws) ≡ texts ws ∷ []
no_more_parts ws e = split_texts ws ∙ ap (map texts) (one_part ws (found_none ws e))

rest_whole : (ws : List (Bor (List ℕ))) (k : ℕ) → take (length ws - k) (drop k ws) ≡ drop k ws
rest_whole ws k = grind (arith, common_steps)

split_at : (ws : List (Bor (List ℕ))) → position_or_len separates ws < length ws
    → slice_split is_separator (texts ws) ≡ texts (take (position_or_len separates ws) ws) ∷ slice_split is_separator (texts (drop (position_or_len separates ws + 1) ws))
split_at [] lt = absurd (omega arith)
split_at (w ∷ ws) lt =
    split_texts (w ∷ ws) ∙ ap (map texts) (slice_split_first separates (w ∷ ws) w lt)
    ∙ ap (λ l. texts (before_first separates (w ∷ ws)) ∷ l) (sym (split_texts (after_first separates (w ∷ ws))))

-- a separator: what stands before it is the first part
pub next_parts : (ws : List (Bor (List ℕ))) (at : ℕ) → position separates ws ≡ Some at
    → slice_split is_separator (texts ws) ≡ texts (take at ws) ∷ slice_split is_separator (texts (take (length ws - (at + 1)) (drop (at + 1) ws)))
next_parts ws at e =
    let f = found_at ws at e in
    let lt : position_or_len separates ws < length ws = subst (λ n. n < length ws) (sym f.0) f.1 in
    split_at ws lt ∙ ap (λ n. texts (take n ws) ∷ slice_split is_separator (texts (drop (n + 1) ws))) f.0
    ∙ ap (λ r. texts (take at ws) ∷ slice_split is_separator (texts r)) (sym (rest_whole ws (at + 1)))

pub rest_shorter : (ws : List (Bor (List ℕ))) (at : ℕ) → position separates ws ≡ Some at → length (take (length ws - (at + 1)) (drop (at + 1) ws)) + 1 < length ws + 1
rest_shorter ws at e =
    let f = found_at ws at e in
    subst (λ r. length r + 1 < length ws + 1) (sym (rest_whole ws (at + 1))) (omega (arith, length-drop (at + 1) ws, f.1))

-- ---- the operations so far, and what is still to come

cons_operations : (part : List (List ℕ)) (ps : List (List (List ℕ))) → operations_of (part ∷ ps) ≡ (operation_in part >>= λ o. operations_of ps >>= λ more. Some (o ∷ more))
unfolding operations_of
cons_operations part ps = refl

no_operations : operations_of [] ≡ Some []
unfolding operations_of
no_operations = refl

pushed : (os : List Operation) (o : Operation) (r : Option (List Operation)) → option_map (λ more. (os ++ o ∷ []) ++ more) r ≡ option_map (λ more. os ++ more) (r >>= λ more. Some (o ∷ more))
pushed os o None = refl
pushed os o (Some more) = ap Some (append_assoc os (o ∷ []) more)

pub operations_more : (old new : List Operation) (o : Operation) (all : Option (List Operation)) (part : List (List ℕ)) (ps here : List (List (List ℕ)))
    → here ≡ part ∷ ps → Some o ≡ operation_in part → new ≡ old ++ o ∷ [] → option_map (λ more. old ++ more) (operations_of here) ≡ all → option_map (λ more. new ++ more) (operations_of ps) ≡ all
operations_more old new o all part ps here cut is push so_far =
    ap (λ (l : List Operation). option_map (λ more. l ++ more) (operations_of ps)) push ∙ pushed old o (operations_of ps)
    ∙ ap (option_map (λ more. old ++ more)) (ap (λ r. r >>= λ x. operations_of ps >>= λ more. Some (x ∷ more)) is ∙ sym (cons_operations part ps) ∙ ap operations_of (sym cut)) ∙ so_far

pub operations_stop : (old : List Operation) (all : Option (List Operation)) (part : List (List ℕ)) (ps here : List (List (List ℕ)))
    → here ≡ part ∷ ps → None ≡ operation_in part → option_map (λ more. old ++ more) (operations_of here) ≡ all → None ≡ all
operations_stop old all part ps here cut is so_far =
    ap (option_map (λ more. old ++ more)) (ap (λ r. r >>= λ x. operations_of ps >>= λ more. Some (x ∷ more)) is ∙ sym (cons_operations part ps) ∙ ap operations_of (sym cut)) ∙ so_far

pub operations_end : (os : List Operation) (all : Option (List Operation)) → option_map (λ more. os ++ more) (operations_of []) ≡ all → Some os ≡ all
operations_end os all so_far = ap Some (sym (append-nil os)) ∙ sym (ap (option_map (λ more. os ++ more)) no_operations) ∙ so_far

pub operations_begin : (r : Option (List Operation)) → option_map (λ more. [] ++ more) r ≡ r
operations_begin None = refl
operations_begin (Some os) = refl
