-- Numbers of paths.
use Rattle.std.proofs.Common.{◌≡◌, ℕ, ◌<◌, ◌+◌, Bool, true, false, cond, nat_eq, List, [], ◌∷◌, Option, Some, None, refl, ap, sym, ◌∙◌, subst, arith}
use Rattle.std.specs.Prelude.{String, string_bytes, Result, Ok, Err, IsOk, OnOk, OnErr, is_err}
use Rattle.std.specs.Str.{bytes_eq}
use Rattle.std.specs.Ordering.{nat_cmp, eq_by_cmp}
use Rattle.std.specs.Map.{lookup}
use Rattle.std.specs.Option.{option_map}
use Rattle.std.specs.Cmp.{nat_cmp_total, unsigned_tied, nat_eq_equiv}
use Rattle.std.specs.Cmp.Lexicographic.{nat_list_cmp_total}
use Rattle.std.specs.FinMap.{get, get-empty, get-insert, same_map, nat_cmp-IsAntisymmetric}
use Rattle.std.proofs.lemmas.Map.Text.{is_eq-slice_cmp}
use Rattle.std.proofs.lemmas.Slice.Eq.{bytes_eq-Decides}
use Rattle.std.proofs.lemmas.Bool.{eqb-true}
use Rattle.kp_model.specs.State.{path_cmp}
use Rattle.kp_cells.specs.Naming.{Naming, IsNaming, AreBelow, Grows, no_names, numbers_in, texts_in}

pub path_tied : (p q : List ℕ) → eq_by_cmp path_cmp p q ≡ bytes_eq p q
path_tied p q = is_eq-slice_cmp p q

module _ {Z : Type 0} where
  pub get-numbers_in : (es : List (String Z × ℕ)) (p : List ℕ) → get (numbers_in es) p ≡ lookup (λ k. bytes_eq p (string_bytes k)) es
  get-numbers_in [] p = get-empty path_cmp p
  get-numbers_in (e ∷ es) p =
      get-insert nat_list_cmp_total (numbers_in es) (string_bytes e.0) e.1 p
      ∙ ap (λ b. cond b (Some e.1) (get (numbers_in es) p)) (path_tied p (string_bytes e.0))
      ∙ ap (cond (bytes_eq p (string_bytes e.0)) (Some e.1)) (get-numbers_in es p)

  text_first : (b : Bool) (s : String Z) (o : Option (String Z)) → cond b (Some (string_bytes s)) (option_map string_bytes o) ≡ option_map string_bytes (cond b (Some s) o)
  text_first true s o = refl
  text_first false s o = refl

  pub get-texts_in : (es : List (ℕ × String Z)) (n : ℕ) → get (texts_in es) n ≡ option_map string_bytes (lookup (nat_eq n) es)
  get-texts_in [] n = get-empty nat_cmp n
  get-texts_in (e ∷ es) n =
      get-insert nat_cmp_total (texts_in es) e.0 (string_bytes e.1) n
      ∙ ap (λ b. cond b (Some (string_bytes e.1)) (get (texts_in es) n)) (unsigned_tied n e.0)
      ∙ ap (cond (nat_eq n e.0) (Some (string_bytes e.1))) (get-texts_in es n)
      ∙ text_first (nat_eq n e.0) e.1 (lookup (nat_eq n) es)

  -- entries with the same look-ups
  pub same_texts : (es fs : List (ℕ × String Z)) → ((n : ℕ) → lookup (nat_eq n) fs ≡ lookup (nat_eq n) es) → texts_in fs ≡ texts_in es
  same_texts es fs h = same_map nat_cmp_total nat_cmp-IsAntisymmetric _ _ (λ n. get-texts_in fs n ∙ ap (option_map string_bytes) (h n) ∙ sym (get-texts_in es n))

  -- a path for a number
  pub texts_put : (es fs : List (ℕ × String Z)) (number : ℕ) (path : String Z) → ((n : ℕ) → lookup (nat_eq n) fs ≡ cond (nat_eq number n) (Some path) (lookup (nat_eq n) es)) → (n : ℕ) → get (texts_in fs) n ≡ cond (nat_eq number n) (Some (string_bytes path)) (get (texts_in es) n)
  texts_put es fs number path h n =
      get-texts_in fs n ∙ ap (option_map string_bytes) (h n)
      ∙ sym (text_first (nat_eq number n) path (lookup (nat_eq n) es))
      ∙ ap (cond (nat_eq number n) (Some (string_bytes path))) (sym (get-texts_in es n))

  -- no path for a number
  no_text_first : (b : Bool) (o : Option (String Z)) → option_map string_bytes (cond b None o) ≡ cond b None (option_map string_bytes o)
  no_text_first true o = refl
  no_text_first false o = refl

  pub texts_removed : (es fs : List (ℕ × String Z)) (number : ℕ) → ((n : ℕ) → lookup (nat_eq n) fs ≡ cond (nat_eq number n) None (lookup (nat_eq n) es)) → (n : ℕ) → get (texts_in fs) n ≡ cond (nat_eq number n) None (get (texts_in es) n)
  texts_removed es fs number h n =
      get-texts_in fs n ∙ ap (option_map string_bytes) (h n)
      ∙ no_text_first (nat_eq number n) (lookup (nat_eq n) es)
      ∙ ap (cond (nat_eq number n) None) (sym (get-texts_in es n))

-- no path has a number
pub empty_naming : (names : Naming) → names ≡ no_names → IsNaming names × AreBelow 0 names
empty_naming names e = let P : Naming → Type 0 = λ n. IsNaming n × AreBelow 0 n in subst P (sym e) (
  record {
    there = λ p n f. absurd (no_entry (sym (get-empty path_cmp p) ∙ f));
    back = λ p n f. absurd (no_text (sym (get-empty nat_cmp n) ∙ f));
  },
  (λ p n f. absurd (no_entry (sym (get-empty path_cmp p) ∙ f))),
)
  where
    no_entry : {n : ℕ} → ◌≡◌ {A = Option ℕ} None (Some n) → ⊥
    no_entry e = (cc)

    no_text : {p : List ℕ} → ◌≡◌ {A = Option (List ℕ)} None (Some p) → ⊥
    no_text e = (cc)

pub no_number : (b : Bool) → b ≡ true → b ≡ false → ⊥
no_number true e h = (cc)
no_number false e h = (cc)

-- a number above all has no path
pub fresh_text : (names : Naming) (number : ℕ) → IsNaming names → AreBelow number names → get names.texts number ≡ None
fresh_text names number h below = here (get names.texts number) refl where
  here : (r : Option (List ℕ)) → get names.texts number ≡ r → r ≡ None
  here None e = refl
  here (Some p) e = absurd (omega (arith, below p number (h.back p number e)))

pub is_error : {T E : Type 0} (r : Result T E) {P : Type 0} → is_err r ≡ true → OnErr r P → P
is_error (Err x) e p = p
is_error (Ok x) e p = absurd (no_number false e refl)

pub on_err : {T E : Type 0} (r : Result T E) {P : Type 0} → P → OnErr r P
on_err (Ok x) p = tt
on_err (Err e) p = p

pub not_err : {T E : Type 0} (r : Result T E) {P : Type 0} → is_err r ≡ false → OnOk r P → P
not_err (Ok x) e p = p
not_err (Err x) e p = absurd (no_number true refl e)

pub on_ok : {T E : Type 0} (r : Result T E) {P : Type 0} → IsOk r → OnOk r P → P
on_ok (Ok x) ok p = p
on_ok (Err e) ok p = absurd (no_number false ok refl)

-- a path more, with a number that no path had
module _ (old new : Naming) (path : List ℕ) (number : ℕ)
    (numbers : (p : List ℕ) → get new.numbers p ≡ cond (bytes_eq path p) (Some number) (get old.numbers p))
    (texts : (n : ℕ) → get new.texts n ≡ cond (nat_eq number n) (Some path) (get old.texts n))
    (free : get old.numbers path ≡ None)
    (h : IsNaming old) (below : AreBelow number old) where
  kept_number : (b : Bool) (p : List ℕ) (n : ℕ) → (b ≡ true → path ≡ p) → get old.numbers p ≡ Some n → cond b (Some number) (get old.numbers p) ≡ Some n
  kept_number false p n same e = e
  kept_number true p n same e = let here : get old.numbers p ≡ None = subst (λ q. get old.numbers q ≡ None) (same refl) free in (cc)

  pub grown : Grows old new
  grown p n e = numbers p ∙ kept_number (bytes_eq path p) p n (bytes_eq-Decides path p).0 e

  there_is : (b c : Bool) (p : List ℕ) (n : ℕ) → (b ≡ true → path ≡ p) → (c ≡ true → number ≡ n) → (number ≡ n → c ≡ true) → cond b (Some number) (get old.numbers p) ≡ Some n → cond c (Some path) (get old.texts n) ≡ Some p
  there_is true true p n same other d e = ap Some (same refl)
  there_is true false p n same other d e = let k : number ≡ n = cc in absurd (no_number false (d k) refl)
  there_is false true p n same other d e =
      let lt : n < number = below p n e in
      let k : number ≡ n = other refl in
      absurd (omega arith)
  there_is false false p n same other d e = h.there p n e

  back_is : (b c : Bool) (p : List ℕ) (n : ℕ) → (b ≡ true → path ≡ p) → (path ≡ p → b ≡ true) → (c ≡ true → number ≡ n) → cond c (Some path) (get old.texts n) ≡ Some p → cond b (Some number) (get old.numbers p) ≡ Some n
  back_is true true p n same d other e = ap Some (other refl)
  back_is true false p n same d other e =
      let there : get old.numbers p ≡ Some n = h.back p n e in
      let here : get old.numbers p ≡ None = subst (λ q. get old.numbers q ≡ None) (same refl) free in
      (cc)
  back_is false true p n same d other e = let k : path ≡ p = cc in absurd (no_number false (d k) refl)
  back_is false false p n same d other e = h.back p n e

  pub naming_grown : IsNaming new
  naming_grown = record {
    there = λ p n e. texts n ∙ there_is (bytes_eq path p) (nat_eq number n) p n (bytes_eq-Decides path p).0 (eqb-true number n) (λ k. ap (nat_eq number) (sym k) ∙ nat_eq_equiv.refl number) (sym (numbers p) ∙ e);
    back = λ p n e. numbers p ∙ back_is (bytes_eq path p) (nat_eq number n) p n (bytes_eq-Decides path p).0 (bytes_eq-Decides path p).1 (eqb-true number n) (sym (texts n) ∙ e);
  }

  below_is : (b : Bool) (p : List ℕ) (n : ℕ) → cond b (Some number) (get old.numbers p) ≡ Some n → n < number + 1
  below_is true p n e = let k : number ≡ n = cc in omega arith
  below_is false p n e = let lt : n < number = below p n e in omega arith

  pub below_grown : AreBelow (number + 1) new
  below_grown p n e = below_is (bytes_eq path p) p n (sym (numbers p) ∙ e)
