-- Lists of which some elements are left out, and indexes that never fall.
use Rattle.std.proofs.Common.{◌≡◌, ℕ, Bool, true, false, ◌≤◌, inl, inr, List, [], ◌∷◌, ◌++◌, refl, ap, sym, subst, ◌∙◌, arith}
use Rattle.std.specs.List.{AllByRecursion}
use Rattle.kp_step.specs.Settling.{Told}
use Rattle.kp_step.specs.Runs.{IsPart, NeverFall}
use Rattle.kp_step.proofs.Tables.{no}

abbrev has_some : {A : Type 0} → List A → Bool
has_some [] = false
has_some (x ∷ xs) = true

no_cons : {A B : Type 0} (x : A) (xs : List A) → x ∷ xs ≡ [] → B
no_cons x xs e = no false refl (sym (ap has_some e))

module _ {A : Type 0} where
  pub part_none : (ys : List A) → IsPart [] ys
  part_none [] = refl
  part_none (y ∷ ys) = tt

  pub part_same : (xs : List A) → IsPart xs xs
  part_same [] = refl
  part_same (x ∷ xs) = inl (refl, part_same xs)

  pub part_of : (xs ys : List A) → xs ≡ ys → IsPart xs ys
  part_of xs ys e = subst (λ zs. IsPart xs zs) e (part_same xs)

  -- one element more at the front of both
  pub part_both : (x : A) (xs ys : List A) → IsPart xs ys → IsPart (x ∷ xs) (x ∷ ys)
  part_both x xs ys h = inl (refl, h)

  -- one element more at the front of the longer
  pub part_skip : (y : A) (xs ys : List A) → IsPart xs ys → IsPart xs (y ∷ ys)
  part_skip y [] ys h = tt
  part_skip y (x ∷ xs) ys h = inr h

  pub part_behind : (ys us zs : List A) → IsPart us zs → IsPart us (ys ++ zs)
  part_behind [] us zs h = h
  part_behind (y ∷ ys) us zs h = part_skip y us (ys ++ zs) (part_behind ys us zs h)

  -- one behind the other
  pub part_append : (xs ys us vs : List A) → IsPart xs ys → IsPart us vs → IsPart (xs ++ us) (ys ++ vs)
  part_append xs [] us vs h k = subst (λ z. IsPart (z ++ us) vs) (sym h) k
  part_append [] (y ∷ ys) us vs h k = part_behind (y ∷ ys) us vs k
  part_append (x ∷ xs) (y ∷ ys) us vs (inl h) k = inl (h.0, part_append xs ys us vs h.1 k)
  part_append (x ∷ xs) (y ∷ ys) us vs (inr h) k = inr (part_append (x ∷ xs) ys us vs h k)

-- a part of a part
module _ {A : Type 0} where
  pub part_trans : (xs ys zs : List A) → IsPart xs ys → IsPart ys zs → IsPart xs zs
  part_trans xs ys [] h k = subst (IsPart xs) k h
  part_trans [] ys (z ∷ zs) h k = tt
  part_trans (x ∷ xs) [] (z ∷ zs) h k = no_cons x xs h
  part_trans (x ∷ xs) (y ∷ ys) (z ∷ zs) (inl h) (inl k) = inl (h.0 ∙ k.0, part_trans xs ys zs h.1 k.1)
  part_trans (x ∷ xs) (y ∷ ys) (z ∷ zs) (inr h) (inl k) = inr (part_trans (x ∷ xs) ys zs h k.1)
  part_trans (x ∷ xs) (y ∷ ys) (z ∷ zs) h (inr k) = inr (part_trans (x ∷ xs) (y ∷ ys) zs h k)

-- each answer shows this index
abbrev pub ShowsIndex : ℕ → List Told → Type 0
ShowsIndex i ts = AllByRecursion (λ (t : Told). t.zxid ≡ i) ts

pub shows_append : (i : ℕ) (ts us : List Told) → ShowsIndex i ts → ShowsIndex i us → ShowsIndex i (ts ++ us)
shows_append i [] us h k = k
shows_append i (t ∷ ts) us h k = (h.0, shows_append i ts us h.1 k)

-- indexes that begin later
pub falls_from : (i j : ℕ) (ts : List Told) (k : ℕ) → i ≤ j → NeverFall j ts k → NeverFall i ts k
falls_from i j [] k below h = omega arith
falls_from i j (t ∷ ts) k below h = (omega arith, h.1)

-- indexes behind others
pub falls_append : (i j k : ℕ) (ts us : List Told) → NeverFall i ts j → NeverFall j us k → NeverFall i (ts ++ us) k
falls_append i j k [] us h g = falls_from i j us k h g
falls_append i j k (t ∷ ts) us h g = (h.0, falls_append t.zxid j k ts us h.1 g)

-- answers that all show one index
pub falls_at : (i m k : ℕ) (ts : List Told) → i ≤ m → m ≤ k → ShowsIndex m ts → NeverFall i ts k
falls_at i m k [] p q h = omega arith
falls_at i m k (t ∷ ts) p q h = (subst (λ z. i ≤ z) (sym h.0) p, subst (λ z. NeverFall z ts k) (sym h.0) (falls_at m m k ts (omega arith) q h.1))
