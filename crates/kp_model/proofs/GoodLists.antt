-- The lists that are kept give no other right than the five.
use Rattle.std.proofs.Common.{◌≡◌, ℕ, Bool, true, false, ◌&&◌, cond, List, [], ◌∷◌, length, map, Some, None, refl, sym, ap, ◌∙◌, true≢false}
use Rattle.std.specs.Prelude.{nat_le, nat_lt, unwrap_or}
use Rattle.std.specs.List.{list_all, flat_map}
use Rattle.std.proofs.lemmas.List.Folds.{list_all-append}
use Rattle.kp_model.specs.declared.node.Acl.{Acl}
use Rattle.kp_model.specs.Fixed.{digest_line, names_somebody, may_be_given, meant_by, fixed}
use Rattle.kp_model.specs.Good.{has_perms}

pub both : (a b : Bool) → (a && b) ≡ true → (a ≡ true) × (b ≡ true)
both true b e = (refl, e)
both false b e = absurd (true≢false (sym e))

and_true : (a b : Bool) → a ≡ true → b ≡ true → (a && b) ≡ true
and_true a b p q = ap (λ x. x && b) p ∙ q

lines_within : (perms : ℕ) (ids : List (List ℕ)) → nat_le perms 31 ≡ true → list_all has_perms (map (digest_line perms) ids) ≡ true
lines_within perms [] e = refl
lines_within perms (id ∷ ids) e = and_true (nat_le perms 31) _ e (lines_within perms ids e)

line_within : (ids : List (List ℕ)) (a : Acl) (b : Bool) → nat_le a.perms 31 ≡ true → list_all has_perms (cond b (map (digest_line a.perms) ids) (a ∷ [])) ≡ true
line_within ids a true e = lines_within a.perms ids e
line_within ids a false e = and_true (nat_le a.perms 31) true e refl

kept_within : (ids : List (List ℕ)) (acl : List Acl) → list_all (may_be_given ids) acl ≡ true → list_all has_perms (flat_map (meant_by ids) acl) ≡ true
unfolding may_be_given meant_by
kept_within ids [] e = refl
kept_within ids (a ∷ acl) e =
    let parts = both (may_be_given ids a) (list_all (may_be_given ids) acl) e in
    list_all-append has_perms (meant_by ids a) (flat_map (meant_by ids) acl)
    ∙ and_true _ _ (line_within ids a _ (both (nat_le a.perms 31) (names_somebody ids a) parts.0).0) (kept_within ids acl parts.1)

chosen_within : (b : Bool) (kept : List Acl) → (b ≡ true → list_all has_perms kept ≡ true) → list_all has_perms (unwrap_or (cond b (Some kept) None) []) ≡ true
chosen_within true kept h = h refl
chosen_within false kept h = refl

-- the list that is kept, or no list where the given one is refused
pub fixed_within : (ids : List (List ℕ)) (acl : List Acl) → list_all has_perms (unwrap_or (fixed ids acl) []) ≡ true
unfolding fixed
fixed_within ids acl = chosen_within (nat_lt 0 (length acl) && list_all (may_be_given ids) acl) _ (λ e. kept_within ids acl (both (nat_lt 0 (length acl)) _ e).1)
