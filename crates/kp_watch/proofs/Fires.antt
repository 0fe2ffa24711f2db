-- Events that fire one after another, seen from the watches before them.
use Rattle.std.proofs.Common.{◌≡◌, ℕ, Bool, true, false, cond, not, ◌&&◌, List, [], ◌∷◌, ◌++◌, append_assoc, append-nil, Some, refl, ap, sym, ◌∙◌}
use Rattle.std.specs.Prelude.{map, slice_get}
use Rattle.std.specs.List.{filter}
use Rattle.std.specs.Str.{bytes_eq}
use Rattle.kp_model.specs.declared.reply.Event.{Event}
use Rattle.kp_watch.specs.declared.watch.Watch.{Watch}
use Rattle.kp_watch.specs.declared.watch.Fired.{Fired}
use Rattle.kp_watch.specs.declared.kind.Kind.{Kind}
use Rattle.kp_watch.specs.declared.kind.Kind.TheVariants as kind
use Rattle.kp_watch.specs.declared.gone.Gone.{Gone}
use Rattle.kp_watch.specs.Watching.{same_kind, is_at, watching, hearing, unfired, pairs_of, fired, heard_at, shown, somes}
use Rattle.kp_watch.specs.Gone.{has_gone, Leaves}
use Rattle.kp_watch.proofs.Beside.{no, left, same_path, same_kinds}

-- ---- without the watches of one path and kind
abbrev is_there : List ℕ → Kind → List ℕ → Kind → Bool
is_there path kind p k = same_kind kind k && bytes_eq path p

abbrev apart_from : List ℕ → Kind → List Watch → List Watch
apart_from path kind ws = filter (λ w. not (is_at path kind w)) ws

none_either : (b : Bool) → cond {A = List ℕ} b [] [] ≡ []
none_either true = refl
none_either false = refl

module _ (path : List ℕ) (kind : Kind) (p : List ℕ) (k : Kind) where
  pub watching_without : (ws : List Watch) → watching (apart_from path kind ws) p k ≡ cond (is_there path kind p k) [] (watching ws p k)
  watching_without [] = sym (none_either (is_there path kind p k))
  watching_without (w ∷ ws) = by (is_at path kind w) (is_there path kind p k) (is_at p k w) refl refl refl (watching_without ws) where
    by : (d same a : Bool) → is_at path kind w ≡ d → is_there path kind p k ≡ same → is_at p k w ≡ a → watching (apart_from path kind ws) p k ≡ cond same [] (watching ws p k)
        → map (λ (w : Watch). w.conn) (filter (is_at p k) (cond (not d) (w ∷ apart_from path kind ws) (apart_from path kind ws))) ≡ cond same [] (map (λ (w : Watch). w.conn) (cond a (w ∷ filter (is_at p k) ws) (filter (is_at p k) ws)))
    by true true a d e f h = h
    by true false true d e f h = no (is_there path kind p k) e ((λ i. same_kind (sym (same_kinds path kind w d) i) k && bytes_eq (sym (same_path path kind w d) i) p) ∙ f)
    by true false false d e f h = h
    by false true true d e f h = no (is_at path kind w) d ((λ i. same_kind w.kind (same_kinds p k (record { path = path; kind = kind; conn = 0 }) e i) && bytes_eq w.path (same_path p k (record { path = path; kind = kind; conn = 0 }) e i)) ∙ f)
    by false true false d e f h = ap (λ b. map (λ (w : Watch). w.conn) (cond b (w ∷ filter (is_at p k) (apart_from path kind ws)) (filter (is_at p k) (apart_from path kind ws)))) f ∙ h
    by false false true d e f h = ap (λ b. map (λ (w : Watch). w.conn) (cond b (w ∷ filter (is_at p k) (apart_from path kind ws)) (filter (is_at p k) (apart_from path kind ws)))) f ∙ ap (λ l. w.conn ∷ l) h
    by false false false d e f h = ap (λ b. map (λ (w : Watch). w.conn) (cond b (w ∷ filter (is_at p k) (apart_from path kind ws)) (filter (is_at p k) (apart_from path kind ws)))) f ∙ h

-- ---- one path and kind fires
module _ (ws : List Watch) (g g' : Gone) (path : List ℕ) (kind : Kind) where
  -- where nobody watches it
  pub hears_none : watching ws path kind ≡ [] → (left : List Watch) → Leaves ws g left → ([] ≡ watching left path kind) × Leaves ws g (apart_from path kind left)
  hears_none none left h = (sym (h kind path ∙ ap (cond (has_gone g kind path) []) none ∙ none_either (has_gone g kind path)), λ k p. watching_without path kind p k left ∙ by p k (is_there path kind p k) refl) where
    by : (p : List ℕ) (k : Kind) (b : Bool) → is_there path kind p k ≡ b → cond b [] (watching left p k) ≡ cond (has_gone g k p) [] (watching ws p k)
    by p k true e =
        let at : Watch = record { path = path; kind = kind; conn = 0 } in
        sym (ap (cond (has_gone g k p) []) ((λ i. watching ws (sym (same_path p k at e) i) (sym (same_kinds p k at e) i)) ∙ none) ∙ none_either (has_gone g k p))
    by p k false e = h k p

  module _ (marked : (k : Kind) (p : List ℕ) → has_gone g' k p ≡ cond (is_there path kind p k) true (has_gone g k p)) where
    leaves_marked : (left : List Watch) → Leaves ws g left → Leaves ws g' (apart_from path kind left)
    leaves_marked left h k p = watching_without path kind p k left ∙ by (is_there path kind p k) ∙ sym (ap (λ b. cond b [] (watching ws p k)) (marked k p)) where
      by : (b : Bool) → cond b [] (watching left p k) ≡ cond (cond b true (has_gone g k p)) [] (watching ws p k)
      by true = refl
      by false = h k p

    -- where it has fired before
    pub hears_again : has_gone g kind path ≡ true → (left : List Watch) → Leaves ws g left → ([] ≡ watching left path kind) × Leaves ws g' (apart_from path kind left)
    hears_again again left h = (sym (h kind path ∙ ap (λ b. cond b [] (watching ws path kind)) again), leaves_marked left h)

    -- where it fires first
    pub hears_first : has_gone g kind path ≡ false → (left : List Watch) → Leaves ws g left → (watching ws path kind ≡ watching left path kind) × Leaves ws g' (apart_from path kind left)
    hears_first first left h = (sym (h kind path ∙ ap (λ b. cond b [] (watching ws path kind)) first), leaves_marked left h)

-- at first nothing is gone
pub leaves_all : (ws : List Watch) (g : Gone) → ((k : Kind) (p : List ℕ) → has_gone g k p ≡ false) → Leaves ws g ws
leaves_all ws g none k p = sym (ap (λ b. cond b [] (watching ws p k)) (none k p))

-- the child watches stay where the data watches of a path fire
pub child_watches_stay : (path : List ℕ) (left : List Watch) → watching (apart_from path kind.Data left) path kind.Child ≡ watching left path kind.Child
child_watches_stay path left = watching_without path kind.Data path kind.Child left

-- ---- one event more
pub fired_more : (ws : List Watch) (es : List Event) (e : Event) → (fired ws (es ++ e ∷ [])).left ≡ unfired (fired ws es).left e
unfolding fired
fired_more ws [] e = refl
fired_more ws (x ∷ xs) e = fired_more (unfired ws x) xs e

pub pairs_more : (ws : List Watch) (es : List Event) (e : Event) → (fired ws (es ++ e ∷ [])).pairs ≡ (fired ws es).pairs ++ pairs_of (fired ws es).left e
unfolding fired
pairs_more ws [] e = append-nil (pairs_of ws e)
pairs_more ws (x ∷ xs) e = ap (λ l. pairs_of ws x ++ l) (pairs_more (unfired ws x) xs e) ∙ sym (append_assoc (pairs_of ws x) (fired (unfired ws x) xs).pairs (pairs_of (fired (unfired ws x) xs).left e))

map_append : {X Y : Type 0} (f : X → Y) (xs ys : List X) → map f (xs ++ ys) ≡ map f xs ++ map f ys
map_append f [] ys = refl
map_append f (x ∷ xs) ys = ap (λ l. f x ∷ l) (map_append f xs ys)

shown_one : (events : List Event) (at : ℕ) (e : Event) → slice_get events at ≡ Some e → (cs : List ℕ) → shown events (map (heard_at at) cs) ≡ somes (map (λ c. (c, e)) cs)
unfolding heard_at
shown_one events at e is [] = refl
shown_one events at e is (c ∷ cs) = (λ i. (c, is i) ∷ shown_one events at e is cs i)

pub shown_more : (ws : List Watch) (events es : List Event) (at : ℕ) (e : Event) (fs : List Fired) (conns : List ℕ) → slice_get events at ≡ Some e → shown events fs ≡ somes (fired ws es).pairs → conns ≡ hearing (fired ws es).left e
    → shown events (fs ++ map (heard_at at) conns) ≡ somes (fired ws (es ++ e ∷ [])).pairs
shown_more ws events es at e fs conns is so hear =
    map_append _ fs (map (heard_at at) conns)
    ∙ (λ i. so i ++ shown_one events at e is (hear i) i)
    ∙ sym (map_append _ (fired ws es).pairs (pairs_of (fired ws es).left e))
    ∙ ap somes (sym (pairs_more ws es e))

-- the events from the first on
pub fired_next : (ws : List Watch) (e : Event) (es : List Event) → (fired ws (e ∷ es)).left ≡ (fired (unfired ws e) es).left
unfolding fired
fired_next ws e es = refl

pub not_true : (b : Bool) → not b ≡ true → b ≡ false
not_true true h = no false refl h
not_true false h = refl

pub not_false : (b : Bool) → not b ≡ false → b ≡ true
not_false true h = refl
not_false false h = no true h refl

pub nothing_fired : (ws : List Watch) (g : Gone) (events : List Event) → ((k : Kind) (p : List ℕ) → has_gone g k p ≡ false) → Leaves ws g (fired ws []).left × (shown events [] ≡ somes (fired ws []).pairs)
unfolding fired
nothing_fired ws g events none = (leaves_all ws g none, refl)

pub none_left : (ws : List Watch) → (fired ws []).left ≡ ws
unfolding fired
none_left ws = refl
