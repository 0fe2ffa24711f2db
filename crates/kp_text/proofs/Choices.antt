-- Values that may be none, and choices by a word.
use Rattle.std.proofs.Common.{◌≡◌, ℕ, Bool, true, false, cond, ◌⊎◌, inl, inr, List, Option, Some, None, refl}
use Rattle.std.specs.Str.{bytes_eq}
use Rattle.std.proofs.lemmas.Slice.Eq.{bytes_eq-Decides}
use Rattle.kp_text.specs.Words.{◌>>=◌}
use Rattle.kp_text.proofs.Hexadecimal.{first_way}

pub bound : {A B : Type 0} (o : Option A) (f : A → Option B) (y : B) → (o >>= f) ≡ Some y → (x : A) × (o ≡ Some x) × (f x ≡ Some y)
bound (Some x) f y h = (x, refl, h)
bound None f y h = absurd (cc)

pub got : {A : Type 0} (x y : A) → Some x ≡ Some y → x ≡ y
got x y h = cc

-- a choice that gave a value gave one of the two
pub either_way : {A : Type 0} (b : Bool) (x y : Option A) (z : A) → cond b x y ≡ Some z → (x ≡ Some z) ⊎ (y ≡ Some z)
either_way true x y z e = inl e
either_way false x y z e = inr e

by_test : {A : Type 0} (w v : List ℕ) (x y : Option A) (z : A) (b : Bool) → bytes_eq w v ≡ b → cond b x y ≡ Some z → ((w ≡ v) × (x ≡ Some z)) ⊎ (y ≡ Some z)
by_test w v x y z true t e = inl ((bytes_eq-Decides w v).0 t, e)
by_test w v x y z false t e = inr e

-- a choice by a word: the word is that one, or the rest gave the value
pub chosen_word : {A : Type 0} (w v : List ℕ) (x y : Option A) (z : A) → cond (bytes_eq w v) x y ≡ Some z → ((w ≡ v) × (x ≡ Some z)) ⊎ (y ≡ Some z)
chosen_word w v x y z h = by_test w v x y z (bytes_eq w v) refl h

-- the same where the rest gives none
pub only_word : {A : Type 0} (w v : List ℕ) (x : Option A) (z : A) → cond (bytes_eq w v) x None ≡ Some z → (w ≡ v) × (x ≡ Some z)
only_word w v x z h = let c = first_way (bytes_eq w v) x z h in ((bytes_eq-Decides w v).0 c.0, c.1)
