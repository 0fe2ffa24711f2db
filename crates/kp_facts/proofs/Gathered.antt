-- Groups are gathered from items, one after another.
use Rattle.std.proofs.Common.{◌≡◌, ◌||◌, Bool, true, false, List, [], ◌∷◌, ◌++◌, refl, ap, sym, ◌∙◌}
use Rattle.std.specs.Prelude.{map}
use Rattle.std.proofs.lemmas.List.{map-append}
use Rattle.std.specs.List.{list_any}
use Rattle.std.specs.declared.cmp.Ordering.{Ordering}
use Rattle.std.specs.BTreeSet.{BTreeSet}
use Rattle.kp_facts.specs.Groups.{has_group, is_in, has_key, has_both, Gathers, GathersWith}

turned : (a b c : Bool) → ((a || b) || c) ≡ (b || (c || a))
turned true true c = refl
turned true false true = refl
turned true false false = refl
turned false true c = refl
turned false false true = refl
turned false false false = refl

nothing_more : (b : Bool) → (b || false) ≡ b
nothing_more true = refl
nothing_more false = refl

grouped : (a b c : Bool) → (a || (b || c)) ≡ ((a || b) || c)
grouped true b c = refl
grouped false b c = refl

pub popped : {B A : Type 0} (f : B → A) (old new : List B) (x : B) → old ≡ new ++ x ∷ [] → map f old ≡ map f new ++ f x ∷ []
popped f old new x h = ap (map f) h ∙ map-append f new (x ∷ [])

module _ {A : Type 0} (t : A → Bool) where
  any_push : (xs : List A) (w : A) → list_any t (xs ++ w ∷ []) ≡ (list_any t xs || t w)
  any_push [] w = nothing_more (t w)
  any_push (x ∷ xs) w = ap (λ b. t x || b) (any_push xs w) ∙ grouped (t x) (list_any t xs) (t w)

  taken_over : (old new all : Bool) (xs rest : List A) (w : A) → (old || list_any t xs) ≡ all → xs ≡ rest ++ w ∷ [] → new ≡ (t w || old) → (new || list_any t rest) ≡ all
  taken_over old new all xs rest w h is n =
      ap (λ b. b || list_any t rest) n ∙ turned (t w) old (list_any t rest) ∙ ap (λ b. old || b) (sym (any_push rest w)) ∙ ap (λ ys. old || list_any t ys) (sym is) ∙ h

  all_over : (b all : Bool) (left : List A) → (b || list_any t left) ≡ all → left ≡ [] → b ≡ all
  all_over b all left h is = sym (nothing_more b) ∙ ap (λ ys. b || list_any t ys) (sym is) ∙ h

module _ {A K V : Type 0} (R : K → K → Ordering) (S : V → V → Ordering) (key : A → K) (value : A → V) where
  pub gathers_none : (xs left : List A) (groups : List (K × BTreeSet V)) → groups ≡ [] → left ≡ xs → GathersWith R S key value xs left groups
  gathers_none xs left groups none all = record {
    keys = λ k. ap (λ g. has_group R g k || list_any (has_key R S key value k) left) none ∙ ap (list_any (has_key R S key value k)) all;
    values = λ k v. ap (λ g. is_in R S g k v || list_any (has_both R S key value k v) left) none ∙ ap (list_any (has_both R S key value k v)) all;
  }

  pub gathers_one : (xs left rest : List A) (w : A) (old new : List (K × BTreeSet V)) → GathersWith R S key value xs left old → left ≡ rest ++ w ∷ []
      → ((k : K) → has_group R new k ≡ (has_key R S key value k w || has_group R old k)) → ((k : K) (v : V) → is_in R S new k v ≡ (has_both R S key value k v w || is_in R S old k v)) → GathersWith R S key value xs rest new
  gathers_one xs left rest w old new g is keys values = record {
    keys = λ k. taken_over (has_key R S key value k) (has_group R old k) (has_group R new k) (list_any (has_key R S key value k) xs) left rest w (g.keys k) is (keys k);
    values = λ k v. taken_over (has_both R S key value k v) (is_in R S old k v) (is_in R S new k v) (list_any (has_both R S key value k v) xs) left rest w (g.values k v) is (values k v);
  }

  pub gathers_all : (xs left : List A) (groups : List (K × BTreeSet V)) → GathersWith R S key value xs left groups → left ≡ [] → Gathers R S key value xs groups
  gathers_all xs left groups g is = record {
    keys = λ k. all_over (has_key R S key value k) (has_group R groups k) (list_any (has_key R S key value k) xs) left (g.keys k) is;
    values = λ k v. all_over (has_both R S key value k v) (is_in R S groups k v) (list_any (has_both R S key value k v) xs) left (g.values k v) is;
  }
