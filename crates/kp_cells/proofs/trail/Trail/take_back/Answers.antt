use Rattle.std.proofs.Common.{◌≡◌, List, [], ◌∷◌, ◌++◌, refl, ap, sym, ◌∙◌}
use Rattle.std.specs.Prelude.{map}
use Rattle.std.proofs.lemmas.List.{map-append}
use Rattle.kp_layers.specs.Used.{last_layer}
use Rattle.kp_cells.proofs.trail.Trail.take_back.Goals as goal

last_pushed : {A : Type 0} (xs : List (List A)) (y : List A) → last_layer (xs ++ y ∷ []) ≡ y
last_pushed [] y = refl
last_pushed (x ∷ []) y = refl
last_pushed (x ∷ (z ∷ xs)) y = last_pushed (z ∷ xs) y

pub returns-in-Some-clause-numbers : goal.returns-in-Some-clause-numbers
returns-in-Some-clause-numbers c =
    sym (last_pushed (map (λ ns. ns.items) c.pop_back.new.self.items) c.in-Some.numbers.items)
    ∙ sym (ap last_layer (ap (map (λ ns. ns.items)) c.in-Some.ensures.items ∙ map-append (λ ns. ns.items) c.pop_back.new.self.items (c.in-Some.numbers ∷ [])))
    ∙ ap (λ t. last_layer t.layers) c.self.view_is
