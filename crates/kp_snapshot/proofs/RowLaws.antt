-- Rows: the form of a list is lawful where that of each item is.
use Rattle.std.proofs.Common.{◌≡◌, ℕ, zero, suc, ◌+◌, ◌^◌, ◌<◌, List, [], ◌∷◌, ◌++◌, length, Ok, refl, sym, ap, subst, ◌∙◌, append_assoc, arith, length-append}
use Rattle.std.specs.Int.{w32}
use Rattle.std.specs.List.{flat_map}
use Rattle.std.proofs.lemmas.List.{append-nil}
use Rattle.std.proofs.lemmas.List.Concat.{flat_map-cons}
use Rattle.kp_jute.specs.Form.{IsBytes, Takes, front, Lawful, Place, Form}
use Rattle.kp_jute.specs.Jute.{unsigned, unsigned_at}
use Rattle.kp_jute.proofs.Combined.{bind_ok, ok_is, Takes-then}
use Rattle.kp_jute.proofs.Numbers.{unsigned_ints_lawful}
use Rattle.kp_snapshot.specs.Rows.{rows_at, AreRows, rows_in, rows}

-- all items behind these were read, and stood there
record Found {A : Type 0} (spell : A → List ℕ) (Fits : List A → A → Type 0) (before : List A) (n : ℕ) (p : Place) (v : List A) (q : Place) : Type 0 where
  more : List A
  is : before ++ more ≡ v
  count : length more ≡ n
  took : Takes p (flat_map spell more) q
  fit : AreRows Fits before more

rows_take : {A : Type 0} (spell : A → List ℕ) (row : List A → Form A) → ((before : List A) → (row before).spell ≡ spell) → ((before : List A) → Lawful (row before)) → (n : ℕ) (before : List A) (p : Place) (v : List A) (q : Place) → IsBytes p.rest → rows_at (λ before. (row before).read) n before p ≡ Ok (v, q) → Found spell (λ before. (row before).Fits) before n p v q
unfolding rows_at
rows_take {A} spell row alike lf zero before p v q fits e =
    let same = ok_is (before, p) (v, q) e in
    record {
      more = [];
      is = append-nil before ∙ ap (λ (x : List A × Place). x.0) same;
      count = refl;
      took = subst (λ (x : List A × Place). Takes p [] x.1) same (record { parts = refl; moved = omega arith; rest_fits = fits });
      fit = tt;
    }
rows_take {A} spell row alike lf (suc n) before p v q fits e =
    let a = bind_ok ((row before).read p) (λ x. rows_at (λ before. (row before).read) n (before ++ x.0 ∷ []) x.1) (v, q) e in
    let s = (lf before).takes p a.0.0 a.0.1 fits a.1 in
    let t = rows_take spell row alike lf n (before ++ a.0.0 ∷ []) a.0.1 v q s.0.rest_fits a.2 in
    let first : Takes p (spell a.0.0) a.0.1 = subst (λ (f : A → List ℕ). Takes p (f a.0.0) a.0.1) (alike before) s.0 in
    let both = Takes-then p (spell a.0.0) a.0.1 (flat_map spell t.more) q first t.took in
    record {
      more = a.0.0 ∷ t.more;
      is = sym (append_assoc before (a.0.0 ∷ []) t.more) ∙ t.is;
      count = ap suc t.count;
      took = subst (λ (u : List ℕ). Takes p u q) (sym (flat_map-cons spell a.0.0 t.more)) both;
      fit = (s.1, t.fit);
    }

rows_again : {A : Type 0} (spell : A → List ℕ) (row : List A → Form A) → ((before : List A) → (row before).spell ≡ spell) → ((before : List A) → Lawful (row before)) → (before more : List A) (at : ℕ) (rest : List ℕ) → AreRows (λ before. (row before).Fits) before more → rows_at (λ before. (row before).read) (length more) before (front at (flat_map spell more ++ rest)) ≡ Ok (before ++ more, front (at + length (flat_map spell more)) rest)
unfolding rows_at
rows_again {A} spell row alike lf before [] at rest fits = λ i. Ok (sym (append-nil before) i, front ((let e : at ≡ at + 0 = omega arith in e) i) rest)
rows_again {A} spell row alike lf before (x ∷ xs) at rest fits =
    let regrouped : flat_map spell (x ∷ xs) ++ rest ≡ spell x ++ (flat_map spell xs ++ rest) = ap (λ (u : List ℕ). u ++ rest) (flat_map-cons spell x xs) ∙ append_assoc (spell x) (flat_map spell xs) rest in
    let len : at + length (spell x) + length (flat_map spell xs) ≡ at + length (flat_map spell (x ∷ xs)) = rw flat_map-cons (omega (arith, length-append (spell x) (flat_map spell xs))) in
    let one : (row before).read (front at (spell x ++ (flat_map spell xs ++ rest))) ≡ Ok (x, front (at + length (spell x)) (flat_map spell xs ++ rest)) = subst (λ (f : A → List ℕ). (row before).read (front at (f x ++ (flat_map spell xs ++ rest))) ≡ Ok (x, front (at + length (f x)) (flat_map spell xs ++ rest))) (alike before) ((lf before).again x at (flat_map spell xs ++ rest) fits.0) in
    ap (λ (r : List ℕ). rows_at (λ before. (row before).read) (suc (length xs)) before (front at r)) regrouped
    ∙ rw (one, rows_again spell row alike lf (before ++ x ∷ []) xs (at + length (spell x)) rest fits.1) (λ i. Ok (append_assoc before (x ∷ []) xs i, front (len i) rest))

pub rows_lawful : {A : Type 0} (spell : A → List ℕ) (row : List A → Form A) → ((before : List A) → (row before).spell ≡ spell) → ((before : List A) → Lawful (row before)) → Lawful (rows spell row)
unfolding rows_in
rows_lawful {A} spell row alike lf = record {
  takes = λ p v q fits e.
      let a = bind_ok (unsigned_at w32 p) (λ n. rows_at (λ before. (row before).read) n.0 [] n.1) (v, q) e in
      let s = unsigned_ints_lawful.takes p a.0.0 a.0.1 fits a.1 in
      let t = rows_take spell row alike lf a.0.0 [] a.0.1 v q s.0.rest_fits a.2 in
      let both = Takes-then p (unsigned w32 a.0.0) a.0.1 (flat_map spell t.more) q s.0 t.took in
      subst (λ (xs : List A). Takes p (unsigned w32 (length xs) ++ flat_map spell xs) q × ((length xs < 2 ^ 32) × AreRows (λ before. (row before).Fits) [] xs)) t.is
      (subst (λ (k : ℕ). Takes p (unsigned w32 k ++ flat_map spell t.more) q) (sym t.count) both, (omega (arith, t.count, s.1), t.fit));
  again = λ v at rest fits.
      let head = unsigned w32 (length v) in
      let body = flat_map spell v in
      let len : at + length head + length body ≡ at + length (head ++ body) = omega (arith, length-append head body) in
      ap (λ (r : List ℕ). rows_in (λ before. (row before).read) (front at r)) (append_assoc head body rest) ∙ rw (unsigned_ints_lawful.again (length v) at (body ++ rest) fits.0, rows_again spell row alike lf [] v (at + length head) rest fits.1) (ap (λ (n : ℕ). Ok (v, front n rest)) len);
}
