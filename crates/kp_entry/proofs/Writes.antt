-- What one value after another adds.
use Rattle.std.proofs.Common.{◌≡◌, ℕ, List, [], ◌∷◌, ◌++◌, ◌∙◌, ap, sym, append_assoc, Some, Result, Ok, Err}
use Rattle.std.specs.Prelude.{OnOk}
use Rattle.std.specs.Int.{w8}
use Rattle.std.specs.List.{flat_map, AllByRecursion}
use Rattle.std.proofs.lemmas.List.{append-nil}
use Rattle.std.proofs.lemmas.List.Concat.{flat_map-cons}
use Rattle.kp_jute.specs.Form.{Form, WroteAll, Wrote, tagged}
use Rattle.kp_jute.specs.Jute.{unsigned}
use Rattle.kp_model.specs.declared.memory.NoMemory.{NoMemory}
use Rattle.kp_entry.specs.Fields.{u8s, kind_in, kinds, units}

pub all_push : {A : Type 0} (P : A → Type 0) (xs : List A) (x : A) → AllByRecursion P xs → P x → AllByRecursion P (xs ++ x ∷ [])
all_push P [] x h p = (p, tt)
all_push P (y ∷ ys) x h p = (h.0, all_push P ys x h.1 p)

pub flat_push : {A : Type 0} (f : A → List ℕ) (xs : List A) (x : A) → flat_map f (xs ++ x ∷ []) ≡ flat_map f xs ++ f x
flat_push f [] x = flat_map-cons f x [] ∙ append-nil (f x)
flat_push f (y ∷ ys) x = flat_map-cons f y (ys ++ x ∷ []) ∙ ap (λ (u : List ℕ). f y ++ u) (flat_push f ys x) ∙ sym (append_assoc (f y) (flat_map f ys) (f x)) ∙ ap (λ (u : List ℕ). u ++ f x) (sym (flat_map-cons f y ys))

pub all_written : {A : Type 0} (f : Form A) (xs : List A) (x : A) (a b c : List ℕ) → WroteAll f xs a b → Wrote f x b c → WroteAll f (xs ++ x ∷ []) a c
all_written f xs x a b c p q = record {
  fits = all_push f.Fits xs x p.fits q.fits;
  added = q.added ∙ ap (λ (u : List ℕ). u ++ f.spell x) p.added ∙ append_assoc a (flat_map f.spell xs) (f.spell x) ∙ ap (λ (u : List ℕ). a ++ u) (sym (flat_push f.spell xs x));
}

pub none_written : {A : Type 0} (f : Form A) (a : List ℕ) → WroteAll f [] a a
none_written f a = record { fits = tt; added = sym (append-nil a) }

-- a kind and its fields
pub kind_written : {K : Type 0} {F : K → Type 0} (all : List K) (number : K → ℕ) (fields : (k : K) → Form (F k)) (v : (k : K) × F k) (r : Result (Unit {0}) NoMemory) (a b c : List ℕ) → kind_in all number (number v.0) ≡ Some v.0 → Wrote u8s (number v.0) a b → OnOk r (Wrote (fields v.0) v.1 b c) → OnOk r (Wrote (tagged (kinds all number) fields) v a c)
kind_written all number fields v (Ok u) a b c known p q = record {
  fits = ((p.fits, known), q.fits);
  added = q.added ∙ ap (λ (u : List ℕ). u ++ (fields v.0).spell v.1) p.added ∙ append_assoc a (unsigned w8 (number v.0)) ((fields v.0).spell v.1);
}
kind_written all number fields v (Err e) a b c known p q = tt

-- a kind without fields
pub unit_written : (b : List ℕ) → Wrote units tt b b
unit_written b = record { fits = tt; added = sym (append-nil b) }
