-- A path that loses its number.
use Rattle.std.proofs.Common.{◌≡◌, ℕ, Bool, true, false, cond, nat_eq, List, Option, Some, None, refl, ap, sym, ◌∙◌}
use Rattle.std.specs.Str.{bytes_eq}
use Rattle.std.specs.Cmp.{nat_eq_equiv}
use Rattle.std.specs.FinMap.{get}
use Rattle.std.proofs.lemmas.Bool.{eqb-true}
use Rattle.std.proofs.lemmas.Slice.Eq.{bytes_eq-Decides}
use Rattle.kp_cells.specs.Naming.{Naming, IsNaming, AreBelow, without}
use Rattle.kp_cells.proofs.Named.{no_number}

pub nothing_is : {A : Type 0} {x : A} → ◌≡◌ {A = Option A} None (Some x) → ⊥
nothing_is e = (cc)

-- what is there without k was there, and isn't k
pub without_some : (k n : ℕ) (r : Option ℕ) → without k r ≡ Some n → (r ≡ Some n) × (nat_eq k n ≡ false)
without_some k n None e = absurd (nothing_is e)
without_some k n (Some m) e = here (nat_eq k m) refl e where
  here : (b : Bool) → nat_eq k m ≡ b → cond b None (Some m) ≡ Some n → (Some m ≡ Some n) × (nat_eq k n ≡ false)
  here true is f = absurd (nothing_is f)
  here false is f = let same : m ≡ n = cc in (f, ap (nat_eq k) (sym same) ∙ is)

pub without_other : (k n : ℕ) (r : Option ℕ) → r ≡ Some n → nat_eq k n ≡ false → without k r ≡ Some n
without_other k n r e apart = ap (without k) e ∙ ap (λ b. cond b None (Some n)) apart

module _ (old new : Naming) (number : ℕ) (h : IsNaming old) where
  -- no path has the number
  module _ (free : get old.texts number ≡ None) where
    pub forgot_nothing : (p : List ℕ) → get old.numbers p ≡ without number (get old.numbers p)
    forgot_nothing p = here (get old.numbers p) refl where
      there : (n : ℕ) (b : Bool) → nat_eq number n ≡ b → get old.numbers p ≡ Some n → Some n ≡ cond b None (Some n)
      there n false is e = refl
      there n true is e =
          let same : number ≡ n = eqb-true number n is in
          absurd (nothing_is (sym free ∙ ap (get old.texts) same ∙ h.there p n e))

      here : (r : Option ℕ) → get old.numbers p ≡ r → r ≡ without number r
      here None e = refl
      here (Some n) e = there n (nat_eq number n) refl e

  -- the path of the number loses it
  module _ (path : List ℕ) (is : get old.texts number ≡ Some path)
      (numbers : (p : List ℕ) → get new.numbers p ≡ cond (bytes_eq path p) None (get old.numbers p))
      (texts : (n : ℕ) → get new.texts n ≡ cond (nat_eq number n) None (get old.texts n)) where
    pub forgot_one : (p : List ℕ) → get new.numbers p ≡ without number (get old.numbers p)
    forgot_one p = numbers p ∙ here (bytes_eq path p) refl where
      apart : (n : ℕ) → bytes_eq path p ≡ false → get old.numbers p ≡ Some n → (b : Bool) → nat_eq number n ≡ b → Some n ≡ cond b None (Some n)
      apart n other e false i = refl
      apart n other e true i =
          let same : number ≡ n = eqb-true number n i in
          let texts_are : Some path ≡ Some p = sym is ∙ ap (get old.texts) same ∙ h.there p n e in
          let paths : path ≡ p = cc in
          absurd (no_number (bytes_eq path p) ((bytes_eq-Decides path p).1 paths) other)

      kept : bytes_eq path p ≡ false → (r : Option ℕ) → get old.numbers p ≡ r → r ≡ without number r
      kept other None e = refl
      kept other (Some n) e = apart n other e (nat_eq number n) refl

      here : (b : Bool) → bytes_eq path p ≡ b → cond b None (get old.numbers p) ≡ without number (get old.numbers p)
      here true i =
          let paths : path ≡ p = (bytes_eq-Decides path p).0 i in
          let at : get old.numbers p ≡ Some number = ap (get old.numbers) (sym paths) ∙ h.back path number is in
          sym (ap (without number) at ∙ ap (λ b. cond b None (Some number)) (nat_eq_equiv.refl number))
      here false i = kept i (get old.numbers p) refl

    text_kept : (n : ℕ) (p : List ℕ) (b : Bool) → cond b None (get old.texts n) ≡ Some p → (b ≡ false) × (get old.texts n ≡ Some p)
    text_kept n p true e = absurd (nothing_is e)
    text_kept n p false e = (refl, e)

    pub naming_forgot : IsNaming new
    naming_forgot = record {
      there = λ p n e.
          let was : (get old.numbers p ≡ Some n) × (nat_eq number n ≡ false) = without_some number n (get old.numbers p) (sym (forgot_one p) ∙ e) in
          texts n ∙ ap (λ b. cond b None (get old.texts n)) was.1 ∙ h.there p n was.0;
      back = λ p n e.
          let was : (nat_eq number n ≡ false) × (get old.texts n ≡ Some p) = text_kept n p (nat_eq number n) (sym (texts n) ∙ e) in
          forgot_one p ∙ without_other number n (get old.numbers p) (h.back p n was.1) was.0;
    }

    pub below_forgot : (next : ℕ) → AreBelow next old → AreBelow next new
    below_forgot next below p n e = below p n (without_some number n (get old.numbers p) (sym (forgot_one p) ∙ e)).0
