-- A session of a holder is found among the keys of its group.
use Rattle.std.proofs.Common.{◌≡◌, Bool, true, false, cond, ◌&&◌, ◌||◌, List, [], ◌∷◌, Option, Some, None, refl, ap, ◌∙◌}
use Rattle.std.specs.Prelude.{map, T}
use Rattle.std.specs.List.{list_any}
use Rattle.std.specs.Option.{option_map_or}
use Rattle.std.specs.declared.cmp.Ordering.{Ordering}
use Rattle.std.specs.declared.cmp.Ordering.TheVariants.{Less, Equal, Greater}
use Rattle.std.specs.Ordering.{eq_by_cmp, is_lt, is_eq}
use Rattle.std.specs.Cmp.{IsTotalOrder, nat_cmp_total, eq_by_cmp_equiv, tied_itself}
use Rattle.std.specs.FinMap as fin
use Rattle.std.specs.FinMap.{FinMap, find, is_sorted}
use Rattle.std.specs.FinMap.Entries.{below_all}
use Rattle.kp_layers.specs.Grouped.{is_in, is_of}
use Rattle.kp_model.specs.declared.session.Session.{Session}
use Rattle.kp_model.specs.declared.session.Origin.{Origin}
use Rattle.kp_model.specs.State.{Sessions, same_origin, is_held}
use Rattle.kp_cells.specs.declared.groups.Holder.{Holder}

module _ {K X : Type 0} {R : K → K → Ordering} (o : IsTotalOrder R) (p : X → Bool) where
  first : (a b : Bool) → T (a && b) → T a
  first true b h = tt
  first false b h = h

  second : (a b : Bool) → T (a && b) → T b
  second true b h = h
  second false b h = absurd h

  not_tied : (r : Ordering) → T (is_lt r) → is_eq r ≡ false
  not_tied Less h = refl
  not_tied Equal h = absurd h
  not_tied Greater h = refl

  apart : (k x : K) → T (is_lt (R k x)) → eq_by_cmp R x k ≡ false
  apart k x h = (eq_by_cmp_equiv o).symm x k ∙ not_tied (R k x) h

  passes_at : List (K × X) → K → Bool
  passes_at es q = option_map_or p (find R q es) false

  later : (k : K) (v : X) (es xs : List (K × X)) → T (below_all R k xs) → list_any (passes_at ((k, v) ∷ es)) (map (λ e. e.0) xs) ≡ list_any (passes_at es) (map (λ e. e.0) xs)
  unfolding passes_at
  later k v es [] h = refl
  later k v es (x ∷ xs) h = λ i. option_map_or p (cond (apart k x.0 (first _ _ h) i) (Some v) (find R x.0 es)) false || later k v es xs (second _ _ h) i

  values_in : (es : List (K × X)) → T (is_sorted R es) → list_any (passes_at es) (map (λ e. e.0) es) ≡ list_any p (map (λ e. e.1) es)
  unfolding passes_at
  values_in [] h = refl
  values_in (e ∷ es) h =
      ap (λ b. option_map_or p (cond b (Some e.1) (find R e.0 es)) false || list_any (passes_at (e ∷ es)) (map (λ e. e.0) es)) (ap is_eq (tied_itself o e.0))
      ∙ ap (λ b. p e.1 || b) (later e.0 e.1 es es (first _ _ h) ∙ values_in es (second _ _ h))

  -- a test of the values is one of what is at the keys
  pub values_at : (m : FinMap R X) → list_any (λ q. option_map_or p (fin.get m q) false) (fin.keys m) ≡ list_any p (fin.values m)
  unfolding passes_at
  values_at m = ap (λ g. list_any g (fin.keys m)) (λ i q. option_map_or p (fin.get-entries m q i) false) ∙ values_in (fin.entries m) (fin.entries_sorted m)

-- the group of what is held by an origin
abbrev pub holder_of : Origin → Holder
holder_of origin = record { node = origin.node; boot = origin.boot; conn = origin.conn }

-- a session of the group is held by the origin
pub held_in : (eq : Holder → Holder → Bool) (m : Sessions) (origin : Origin) (group : Holder) → group ≡ holder_of origin → ((a : Origin) → eq (holder_of a) (holder_of origin) ≡ same_origin a origin) → list_any (is_in eq (λ (x : Session). Some (holder_of x.holder)) m group) (fin.keys m) ≡ is_held m origin
unfolding is_held
held_in eq m origin group is same =
    ap (λ f. list_any f (fin.keys m)) (λ i k. at (fin.get m k) i)
    ∙ values_at nat_cmp_total (λ (x : Session). same_origin x.holder origin) m where
      at : (r : Option Session) → is_of eq (λ (x : Session). Some (holder_of x.holder)) group r ≡ option_map_or (λ (x : Session). same_origin x.holder origin) r false
      at None = refl
      at (Some x) = ap (eq (holder_of x.holder)) is ∙ same x.holder
