-- Watches that were added behind others.
use Rattle.std.proofs.Common.{◌≡◌, ℕ, Bool, true, false, List, [], ◌∷◌, ◌++◌, append_assoc, append-nil, take, length, refl, ap, sym, ◌∙◌, arith}
use Rattle.std.specs.Prelude.{OnOk, OnErr, Result, Ok, Err, if◌then◌else◌}
use Rattle.std.specs.List.{list_any}
use Rattle.std.proofs.lemmas.List.{take-append-le, take_all}
use Rattle.kp_watch.specs.declared.watch.Watch.{Watch}
use Rattle.kp_model.specs.State.{Nodes, meta_at}
use Rattle.kp_watch.specs.declared.again.Line.{Line}
use Rattle.kp_watch.specs.Watching.{same_watch, added, owed, set_one, set_line, Firing, Grown}

pub grown_same : (old new : List Watch) → new ≡ old → Grown old new
grown_same old new h = ([], h ∙ sym (append-nil old))

grown_if : (b : Bool) (old new : List Watch) (w : Watch) → new ≡ (if b then old else old ++ w ∷ []) → Grown old new
grown_if true old new w h = grown_same old new h
grown_if false old new w h = (w ∷ [], h)

grown_added : (old new : List Watch) (w : Watch) → new ≡ added old w → Grown old new
unfolding added
grown_added old new w h = grown_if (list_any (same_watch w) old) old new w h

pub grown_by_one : {T E : Type 0} (r : Result T E) (old new : List Watch) (w : Watch) → OnOk r (new ≡ added old w) → OnErr r (new ≡ old) → Grown old new
grown_by_one (Ok x) old new w ok err = grown_added old new w ok
grown_by_one (Err x) old new w ok err = grown_same old new err

pub grown_more : (a b c : List Watch) → Grown a b → Grown b c → Grown a c
grown_more a b c h g = (h.0 ++ g.0, g.1 ∙ ap (λ l. l ++ g.0) h.1 ∙ append_assoc a h.0 g.0)

-- the watches before are the first ones
pub grown_take : (a b : List Watch) → Grown a b → take (length a) b ≡ a
grown_take a b h = ap (take (length a)) h.1 ∙ take-append-le (length a) a h.0 (omega arith) ∙ take_all (length a) a (omega arith)

-- ---- one path more, and none
pub set_line_next : (nodes : Nodes) (c since : ℕ) (l : Line) (p : List ℕ) (ps : List (List ℕ)) (f : Firing) → set_line nodes c since l (p ∷ ps) f ≡ set_line nodes c since l ps (set_one c l p (owed l since p (meta_at nodes p)) f)
unfolding set_line
set_line_next nodes c since l p ps f = refl

pub set_line_none : (nodes : Nodes) (c since : ℕ) (l : Line) (f : Firing) → set_line nodes c since l [] f ≡ f
unfolding set_line
set_line_none nodes c since l f = refl
