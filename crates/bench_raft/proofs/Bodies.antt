-- Bodies whose numbers are within their limits.
use Rattle.std.proofs.Common.{◌≡◌, refl, ◌∙◌, ◌++◌, ◌∷◌, [], List, true, ap}
use Rattle.std.specs.Prelude.{Bool, ◌&&◌}
use Rattle.std.specs.List.{list_all}
use Rattle.std.proofs.lemmas.List.Folds.{list_all-append}
use Rattle.kp_model.specs.declared.entry.Body.{Body}
use Rattle.kp_model.specs.Grammar.{is_body}

both : (a b : Bool) → a ≡ true → b ≡ true → (a && b) ≡ true
both a b p q = rw (p, q) refl

-- one more
pub all_push : (bodies new : List Body) (b : Body) → new ≡ bodies ++ b ∷ [] → list_all is_body bodies ≡ true → is_body b ≡ true → list_all is_body new ≡ true
all_push bodies new b is all one = ap (list_all is_body) is ∙ list_all-append is_body bodies (b ∷ []) ∙ both (list_all is_body bodies) (list_all is_body (b ∷ [])) all (both (is_body b) true one refl)
