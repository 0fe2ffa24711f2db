-- The spots after a watch more or less.
use Rattle.std.proofs.Common.{◌≡◌, ℕ, Bool, true, false, cond, nat_eq, ◌&&◌, List, [], ◌∷◌, Option, None, refl, ap, sym, ◌∙◌}
use Rattle.std.specs.Prelude.{String}
use Rattle.std.specs.Str.{bytes_eq}
use Rattle.std.proofs.lemmas.Slice.Eq.{bytes_eq-Decides}
use Rattle.indexmap.specs.IndexMap.{IndexMap}
use Rattle.kp_watch.specs.Spots.{Pairs, AreApart, number_in, spot_at, number_at}
use Rattle.std.specs.List.{IsDistinct}
use Rattle.std.proofs.lemmas.Bool.{false≢true}

module _ {Z S : Type 0} (old new : List (String Z × IndexMap ℕ ℕ S)) (path : List ℕ) (w : Option (IndexMap ℕ ℕ S)) (spots : (p : List ℕ) → spot_at new p ≡ cond (bytes_eq path p) w (spot_at old p)) where
  -- one number of the path is another
  pub number_set : (conn : ℕ) (v : Option ℕ) → ((c : ℕ) → number_in w c ≡ cond (nat_eq conn c) v (number_in (spot_at old path) c)) → (p : List ℕ) (c : ℕ) → number_at new p c ≡ cond (bytes_eq path p && nat_eq conn c) v (number_at old p c)
  number_set conn v f p c = ap (λ r. number_in r c) (spots p) ∙ here (bytes_eq path p) (bytes_eq-Decides path p).0 where
    here : (b : Bool) → (b ≡ true → path ≡ p) → number_in (cond b w (spot_at old p)) c ≡ cond (b && nat_eq conn c) v (number_at old p c)
    here true same = f c ∙ ap (λ q. cond (nat_eq conn c) v (number_at old q c)) (same refl)
    here false same = refl

  -- the numbers of the path stay
  pub numbers_same : ((c : ℕ) → number_in w c ≡ number_in (spot_at old path) c) → (p : List ℕ) (c : ℕ) → number_at new p c ≡ number_at old p c
  numbers_same f p c = ap (λ r. number_in r c) (spots p) ∙ here (bytes_eq path p) (bytes_eq-Decides path p).0 where
    here : (b : Bool) → (b ≡ true → path ≡ p) → number_in (cond b w (spot_at old p)) c ≡ number_at old p c
    here true same = f c ∙ ap (λ q. number_at old q c) (same refl)
    here false same = refl

  -- the path has no numbers
  pub numbers_gone : ((c : ℕ) → number_in w c ≡ None) → (p : List ℕ) (c : ℕ) → number_at new p c ≡ cond (bytes_eq path p) None (number_at old p c)
  numbers_gone f p c = ap (λ r. number_in r c) (spots p) ∙ here (bytes_eq path p) where
    here : (b : Bool) → number_in (cond b w (spot_at old p)) c ≡ cond b None (number_at old p c)
    here true = f c
    here false = refl

-- a spot that is empty once the number is taken, and goes
pub number_and_spot : {Z S : Type 0} (old mid new : List (String Z × IndexMap ℕ ℕ S)) (path : List ℕ) (conn : ℕ) → ((p : List ℕ) (c : ℕ) → number_at mid p c ≡ cond (bytes_eq path p && nat_eq conn c) None (number_at old p c)) → ((c : ℕ) → number_at mid path c ≡ None)
    → ((p : List ℕ) (c : ℕ) → number_at new p c ≡ cond (bytes_eq path p) None (number_at mid p c)) → (p : List ℕ) (c : ℕ) → number_at new p c ≡ cond (bytes_eq path p && nat_eq conn c) None (number_at old p c)
number_and_spot old mid new path conn taken none gone p c = gone p c ∙ here (bytes_eq path p) (bytes_eq-Decides path p).0 (taken p c) where
  here : (b : Bool) → (b ≡ true → path ≡ p) → number_at mid p c ≡ cond (b && nat_eq conn c) None (number_at old p c) → cond b None (number_at mid p c) ≡ cond (b && nat_eq conn c) None (number_at old p c)
  here true same h = sym (sym h ∙ ap (λ q. number_at mid q c) (sym (same refl)) ∙ none c)
  here false same h = h

-- no connections
pub none_apart : (ps : Pairs) → ps ≡ [] → AreApart ps
unfolding IsDistinct
none_apart [] h = tt
none_apart (e ∷ es) h = absurd (T-of (ap is_none h)) where
  is_none : Pairs → Bool
  is_none [] = true
  is_none (x ∷ xs) = false

  T-of : false ≡ true → ⊥
  T-of e = false≢true e
