-- The keys of the entries that are chosen.
use Rattle.std.proofs.Common.{◌≡◌, Bool, true, false, ◌&&◌, List, [], ◌∷◌, Option, Some, None, is_some, refl, ap, sym, ◌∙◌}
use Rattle.std.specs.List.{filter}
use Rattle.std.specs.Option.{option_map_or}
use Rattle.std.specs.declared.cmp.Ordering.{Ordering}
use Rattle.std.specs.Cmp.{IsTotalOrder}
use Rattle.std.specs.FinMap as fin
use Rattle.std.specs.FinMap.{FinMap}
use Rattle.kp_layers.specs.Listed.{Lists}
use Rattle.kp_layers.proofs.Listed.{and-implied, same_lists, filter_lists, keys_listed}
use Rattle.kp_cells.specs.Mapped.{chosen}
use Rattle.kp_cells.proofs.Maps.{picked, get-chosen}

-- what passes and is there is picked
there_picked : {X : Type 0} (b : Bool) (r : Option X) → (b && is_some r) ≡ is_some (picked (λ _. b) r)
there_picked true None = refl
there_picked true (Some x) = refl
there_picked false None = refl
there_picked false (Some x) = refl

-- the keys of the entries that are chosen
pub keys-chosen : {K X : Type 0} {R : K → K → Ordering} → IsTotalOrder R → fin.IsAntisymmetric R → (f : K → Bool) (m : FinMap R X) → fin.keys (chosen (λ q _. f q) m) ≡ filter f (fin.keys m)
keys-chosen {R = R} o a f m = sym (keys_listed R o a (chosen (λ q _. f q) m) (λ q. f q && fin.contains_key m q) (filter f (fin.keys m)) (filter_lists R o a m f) (λ q.
    there_picked (f q) (fin.get m q) ∙ sym (ap is_some (get-chosen o a (λ q _. f q) m q))))

module _ {K X : Type 0} {R : K → K → Ordering} (o : IsTotalOrder R) (a : fin.IsAntisymmetric R) where
  there : (f : X → Bool) (g : Bool) (r : Option X) → g ≡ option_map_or f r false → g ≡ true → is_some r ≡ true
  there f g None h e = sym h ∙ e
  there f g (Some x) h e = refl

  -- a list in the keys' order of the entries that pass a test is that of the keys that pass
  pub listed : (f : K → X → Bool) (m : FinMap R X) (g : K → Bool) (ks : List K) → Lists R g ks → ((q : K) → g q ≡ option_map_or (f q) (fin.get m q) false) → ks ≡ filter g (fin.keys m)
  listed f m g ks h is = same_lists R o a g ks (filter g (fin.keys m)) h record {
    sorted = (filter_lists R o a m g).sorted;
    members = λ q. (filter_lists R o a m g).members q ∙ and-implied (g q) _ (there (f q) (g q) (fin.get m q) (is q));
  }

  -- keys that pass a test in one map, and those that pass another in another map
  module _ {Y : Type 0} where
    pub same_filter : (m : FinMap R X) (n : FinMap R Y) (g h : K → Bool) → ((q : K) → picked (λ _. g q) (fin.get m q) ≡ picked (λ _. h q) (fin.get n q)) → filter g (fin.keys m) ≡ filter h (fin.keys n)
    same_filter m n g h same =
        sym (keys-chosen o a g m)
        ∙ ap fin.keys (fin.same_map o a (chosen (λ q _. g q) m) (chosen (λ q _. h q) n) (λ q.
        get-chosen o a (λ q _. g q) m q ∙ same q ∙ sym (get-chosen o a (λ q _. h q) n q)))
        ∙ keys-chosen o a h n

pub filter-all : {K : Type 0} (xs : List K) → filter (λ _. true) xs ≡ xs
filter-all [] = refl
filter-all (x ∷ xs) = ap (◌∷◌ x) (filter-all xs)
