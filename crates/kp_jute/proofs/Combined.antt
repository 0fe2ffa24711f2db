-- Forms that are put together of lawful forms are lawful.
use Rattle.std.proofs.Common.{◌≡◌, ℕ, ◌+◌, Bool, true, false, cond, List, ◌++◌, length, take, drop, Option, Some, Result, Ok, Err, refl, sym, ap, subst, ◌∙◌, append_assoc, arith, inl, inr, length-append}
use Rattle.std.proofs.lemmas.Bool.{cases_lt}
use Rattle.std.proofs.lemmas.List.{length-take, get_or-drop, get_or-take, get_or_past}
use Rattle.kp_jute.specs.declared.fault.JuteFail.{JuteFail}
use Rattle.kp_jute.specs.Form.{IsBytes, Takes, front, Lawful, Place, ◌>>=◌, Form, ◌⊗◌, seen, part, spelled_if, chosen}

-- ---- parts of bytes, and successes

pub IsBytes-drop : (n : ℕ) (bytes : List ℕ) → IsBytes bytes → IsBytes (drop n bytes)
IsBytes-drop n bytes h i = rw get_or-drop (h (n + i))

pub IsBytes-take : (n : ℕ) (bytes : List ℕ) → IsBytes bytes → IsBytes (take n bytes)
IsBytes-take n bytes h i =
    elim (cases_lt i n) [
      | inl lt ↦ rw (get_or-take n bytes i 0 lt) (h i)
      | inr le ↦ rw (get_or_past (take n bytes) i 0 (omega (arith, length-take n bytes))) (omega arith)
    ]

pub bind_ok : {A B : Type 0} (r : Result A JuteFail) (f : A → Result B JuteFail) (y : B) → (r >>= f) ≡ Ok y → (x : A) × (r ≡ Ok x) × (f x ≡ Ok y)
bind_ok (Ok x) f y e = (x, refl, e)
bind_ok (Err d) f y e = absurd cc

pub guard_ok : {A : Type 0} (b : Bool) (d : JuteFail) (x y : A) → cond b (Err d) (Ok x) ≡ Ok y → (b ≡ false) × (x ≡ y)
guard_ok true d x y e = absurd cc
guard_ok false d x y e = (refl, cc)

pub guard_in : {A : Type 0} (b : Bool) (d : JuteFail) (x y : A) → cond b (Ok x) (Err d) ≡ Ok y → (b ≡ true) × (x ≡ y)
guard_in true d x y e = (refl, cc)
guard_in false d x y e = absurd cc

abbrev done : {A : Type 0} → A → Result A JuteFail
done x = Ok x

pub ok_is : {A : Type 0} (x y : A) → done x ≡ done y → x ≡ y
ok_is x y e = cc

pub Takes-then : (p : Place) (x : List ℕ) (q : Place) (y : List ℕ) (r : Place) → Takes p x q → Takes q y r → Takes p (x ++ y) r
Takes-then p x q y r s t = record {
  parts = s.parts ∙ ap (λ (u : List ℕ). x ++ u) t.parts ∙ sym (append_assoc x y r.rest);
  moved = omega (arith, s.moved, t.moved, length-append x y);
  rest_fits = t.rest_fits;
}

-- ---- combinators

pub both_lawful : {A B : Type 0} (f : Form A) (g : Form B) → Lawful f → Lawful g → Lawful (f ⊗ g)
both_lawful {A} {B} f g lf lg = record {
  takes = λ p v q fits e.
      let a = bind_ok (f.read p) (λ x. g.read x.1 >>= λ y. Ok ((x.0, y.0), y.1)) (v, q) e in
      let b = bind_ok (g.read a.0.1) (λ y. Ok ((a.0.0, y.0), y.1)) (v, q) a.2 in
      let s = lf.takes p a.0.0 a.0.1 fits a.1 in
      let t = lg.takes a.0.1 b.0.0 b.0.1 s.0.rest_fits b.1 in
      subst (λ (x : (A × B) × Place). Takes p (f.spell x.0.0 ++ g.spell x.0.1) x.1 × (f.Fits x.0.0 × g.Fits x.0.1)) (ok_is ((a.0.0, b.0.0), b.0.1) (v, q) b.2) (Takes-then p (f.spell a.0.0) a.0.1 (g.spell b.0.0) b.0.1 s.0 t.0, (s.1, t.1));
  again = λ v at rest fits.
      let regrouped : (f.spell v.0 ++ g.spell v.1) ++ rest ≡ f.spell v.0 ++ (g.spell v.1 ++ rest) = append_assoc (f.spell v.0) (g.spell v.1) rest in
      let len : at + length (f.spell v.0) + length (g.spell v.1) ≡ at + length (f.spell v.0 ++ g.spell v.1) = omega (arith, length-append (f.spell v.0) (g.spell v.1)) in
      ap (λ (r : List ℕ). (f ⊗ g).read (front at r)) regrouped ∙ rw (lf.again v.0 at (g.spell v.1 ++ rest) fits.0, lg.again v.1 (at + length (f.spell v.0)) rest fits.1) (ap (λ (n : ℕ). Ok (v, front n rest)) len);
}

pub seen_lawful : {A B : Type 0} (to : A → B) (from : B → A) (f : Form A) → ((a : A) → from (to a) ≡ a) → ((b : B) → to (from b) ≡ b) → Lawful f → Lawful (seen to from f)
seen_lawful {A} {B} to from f there back lf = record {
  takes = λ p v q fits e.
      let a = bind_ok (f.read p) (λ x. Ok (to x.0, x.1)) (v, q) e in
      let s = lf.takes p a.0.0 a.0.1 fits a.1 in
      subst (λ (x : B × Place). Takes p (f.spell (from x.0)) x.1 × f.Fits (from x.0)) (ok_is (to a.0.0, a.0.1) (v, q) a.2) (subst (λ (x : A). Takes p (f.spell x) a.0.1 × f.Fits x) (sym (there a.0.0)) s);
  again = λ v at rest fits. rw (lf.again (from v) at rest fits, back v) refl;
}

infixr 20 ◌&◌
abbrev pub ◌&◌ : {A B : Type 0} {f : Form A} {g : Form B} → Lawful f → Lawful g → Lawful (f ⊗ g)
◌&◌ {A} {B} {f} {g} lf lg = both_lawful f g lf lg

pub part_lawful : {A B : Type 0} (to : A → B) (from : B → Option A) (f : Form A) → ((a : A) → from (to a) ≡ Some a) → ((v : B) (a : A) → from v ≡ Some a → to a ≡ v) → Lawful f → Lawful (part to from f)
part_lawful {A} {B} to from f there back lf = record {
  takes = λ p v q fits e.
      let a = bind_ok (f.read p) (λ x. Ok (to x.0, x.1)) (v, q) e in
      let s = lf.takes p a.0.0 a.0.1 fits a.1 in
      let spelled : spelled_if f (from (to a.0.0)) ≡ f.spell a.0.0 = ap (spelled_if f) (there a.0.0) in
      subst (λ (x : B × Place). Takes p (spelled_if f (from x.0)) x.1 × ((a : A) × (from x.0 ≡ Some a) × f.Fits a)) (ok_is (to a.0.0, a.0.1) (v, q) a.2) (subst (λ (u : List ℕ). Takes p u a.0.1) (sym spelled) s.0, (a.0.0, there a.0.0, s.1));
  again = λ v at rest fits.
      let e = fits.1 in
      ap (λ (o : Option A). (part to from f).read (front at (spelled_if f o ++ rest))) e ∙ rw (lf.again fits.0 at rest fits.2, back v fits.0 e) (ap (λ (o : Option A). Ok (v, front (at + length (spelled_if f o)) rest)) (sym e));
}

pub chosen_lawful : {A B : Type 0} (tag : B → A) (f : Form A) (g : A → Form B) → ((a : A) (v : B) → (g a).Fits v → tag v ≡ a) → Lawful f → ((a : A) → Lawful (g a)) → Lawful (chosen tag f g)
chosen_lawful {A} {B} tag f g tagged lf lg = record {
  takes = λ p v q fits e.
      let a = bind_ok (f.read p) (λ x. (g x.0).read x.1) (v, q) e in
      let s = lf.takes p a.0.0 a.0.1 fits a.1 in
      let t = (lg a.0.0).takes a.0.1 v q s.0.rest_fits a.2 in
      subst (λ (x : A). Takes p (f.spell x ++ (g x).spell v) q × (f.Fits x × (g x).Fits v)) (sym (tagged a.0.0 v t.1)) (Takes-then p (f.spell a.0.0) a.0.1 ((g a.0.0).spell v) q s.0 t.0, (s.1, t.1));
  again = λ v at rest fits.
      let x = tag v in
      let len : at + length (f.spell x) + length ((g x).spell v) ≡ at + length (f.spell x ++ (g x).spell v) = omega (arith, length-append (f.spell x) ((g x).spell v)) in
      ap (λ (r : List ℕ). (chosen tag f g).read (front at r)) (append_assoc (f.spell x) ((g x).spell v) rest) ∙ rw (lf.again x at ((g x).spell v ++ rest) fits.0, (lg x).again v (at + length (f.spell x)) rest fits.1) (ap (λ (n : ℕ). Ok (v, front n rest)) len);
}
