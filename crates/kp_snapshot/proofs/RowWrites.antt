-- Rows written one behind the other.
use Rattle.std.proofs.Common.{◌≡◌, ℕ, ◌^◌, ◌<◌, List, [], ◌∷◌, ◌++◌, length, sym, ap, subst, ◌∙◌, append_assoc}
use Rattle.std.specs.Int.{w32}
use Rattle.std.specs.List.{flat_map}
use Rattle.std.proofs.lemmas.List.{append-nil}
use Rattle.kp_jute.specs.Form.{Form, Wrote}
use Rattle.kp_jute.specs.Jute.{unsigned}
use Rattle.kp_entry.specs.Fields.{u32s}
use Rattle.kp_entry.proofs.Writes.{flat_push}
use Rattle.kp_snapshot.specs.Rows.{AreRows, rows}
use Rattle.kp_snapshot.specs.Written.{WroteRows}

rows_push : {A : Type 0} (Fits : List A → A → Type 0) (pre xs : List A) (x : A) → AreRows Fits pre xs → Fits (pre ++ xs) x → AreRows Fits pre (xs ++ x ∷ [])
rows_push Fits pre [] x all fits = (subst (λ before. Fits before x) (append-nil pre) fits, tt)
rows_push Fits pre (y ∷ ys) x all fits = (all.0, rows_push Fits (pre ++ y ∷ []) ys x all.1 (subst (λ before. Fits before x) (sym (append_assoc pre (y ∷ []) ys)) fits))

module _ {A : Type 0} (spell : A → List ℕ) (row : List A → Form A) where
  pub none_written : (a : List ℕ) → WroteRows spell row [] a a
  none_written a = record { fits = tt; added = sym (append-nil a) }

  pub row_written : ((before : List A) → (row before).spell ≡ spell) → (xs : List A) (x : A) (a b c : List ℕ) → WroteRows spell row xs a b → Wrote (row xs) x b c → WroteRows spell row (xs ++ x ∷ []) a c
  row_written alike xs x a b c p q = record {
    fits = rows_push (λ before. (row before).Fits) [] xs x p.fits q.fits;
    added = q.added ∙ ap (λ (f : A → List ℕ). b ++ f x) (alike xs) ∙ ap (λ (u : List ℕ). u ++ spell x) p.added ∙ append_assoc a (flat_map spell xs) (spell x) ∙ ap (λ (u : List ℕ). a ++ u) (sym (flat_push spell xs x));
  }

  -- the count, and the rows behind it
  pub rows_written : (xs : List A) (n : ℕ) (a b c : List ℕ) → n ≡ length xs → Wrote u32s n a b → WroteRows spell row xs b c → Wrote (rows spell row) xs a c
  rows_written xs n a b c len p q = record {
    fits = (subst (λ (k : ℕ). k < 2 ^ 32) len p.fits, q.fits);
    added = q.added ∙ ap (λ (u : List ℕ). u ++ flat_map spell xs) (p.added ∙ ap (λ (k : ℕ). a ++ unsigned w32 k) len) ∙ append_assoc a (unsigned w32 (length xs)) (flat_map spell xs);
  }
