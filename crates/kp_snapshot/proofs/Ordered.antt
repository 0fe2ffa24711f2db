-- Rows whose keys rise are those of a finite map.
use Rattle.std.proofs.Common.{◌≡◌, ℕ, Bool, true, false, cond, eqb, T, List, [], ◌∷◌, ◌++◌, refl, sym, subst, ◌∙◌, append_assoc}
use Rattle.std.specs.Prelude.{◌&&◌, nat_lt}
use Rattle.std.specs.List.{list_all}
use Rattle.std.specs.Ordering.{nat_cmp, is_lt}
use Rattle.std.specs.declared.cmp.Ordering.{Ordering}
use Rattle.std.specs.declared.cmp.Ordering.TheVariants.{Less, Equal, Greater}
use Rattle.std.specs.FinMap.{is_sorted}
use Rattle.std.specs.FinMap.Entries.{below_all}
use Rattle.kp_model.specs.Path.{is_well_formed, parent}
use Rattle.kp_model.specs.State.{path_cmp}
use Rattle.kp_snapshot.specs.Rows.{AreRows}
use Rattle.kp_snapshot.specs.Rules.{Numbered, Placed, numbers_of, may_be_number, may_be_path, is_open}

pub left : (a b : Bool) → (a && b) ≡ true → a ≡ true
left true b e = refl
left false b e = absurd cc

pub right : (a b : Bool) → (a && b) ≡ true → b ≡ true
right true b e = e
right false b e = absurd cc

pub both : (a b : Bool) → a ≡ true → b ≡ true → (a && b) ≡ true
both true b e f = f
both false b e f = absurd cc

pub to_T : (b : Bool) → b ≡ true → T b
to_T b e = subst T (sym e) tt

-- what holds of all holds of one in the middle
pub at_one : {A : Type 0} (test : A → Bool) (us vs : List A) (x : A) → list_all test (us ++ x ∷ vs) ≡ true → test x ≡ true
at_one test [] vs x e = left (test x) (list_all test vs) e
at_one test (u ∷ us) vs x e = at_one test us vs x (right (test u) (list_all test (us ++ x ∷ vs)) e)

-- each item's key is above those before it
abbrev pub Rising : {K X : Type 0} → (K → K → Ordering) → (List (K × X) → K × X → Type 0) → Type 0
Rising {K} {X} R Fits = (before : List (K × X)) (x : K × X) → Fits before x → list_all (λ (b : K × X). is_lt (R b.0 x.0)) before ≡ true

module _ {K X : Type 0} (R : K → K → Ordering) (Fits : List (K × X) → K × X → Type 0) (rising : Rising R Fits) where
  rows_above : (us vs xs : List (K × X)) (b : K × X) → AreRows Fits (us ++ b ∷ vs) xs → below_all R b.0 xs ≡ true
  rows_above us vs [] b rows = refl
  rows_above us vs (x ∷ xs) b rows =
      let here = at_one (λ (c : K × X). is_lt (R c.0 x.0)) us vs b (rising (us ++ b ∷ vs) x rows.0) in
      both (is_lt (R b.0 x.0)) (below_all R b.0 xs) here (rows_above us (vs ++ x ∷ []) xs b (subst (λ (zs : List (K × X)). AreRows Fits zs xs) (append_assoc us (b ∷ vs) (x ∷ [])) rows.1))

  pub rows_sorted : (pre xs : List (K × X)) → AreRows Fits pre xs → is_sorted R xs ≡ true
  rows_sorted pre [] rows = refl
  rows_sorted pre (x ∷ xs) rows = both (below_all R x.0 xs) (is_sorted R xs) (rows_above pre [] xs x rows.1) (rows_sorted (pre ++ x ∷ []) xs rows.1)

-- ---- sessions by their numbers, and nodes by their paths

below_by : (b n : ℕ) → nat_lt b n ≡ is_lt (nat_cmp b n)
below_by b n = by (nat_lt b n) (eqb b n)
  where
    by : (s t : Bool) → s ≡ is_lt (cond s Less (cond t Equal Greater))
    by true t = refl
    by false true = refl
    by false false = refl

pub numbers_rise : (before : List Numbered) (n : ℕ) → list_all (λ b. nat_lt b n) (numbers_of before) ≡ list_all (λ (b : Numbered). is_lt (nat_cmp b.0 n)) before
numbers_rise [] n = refl
numbers_rise (b ∷ before) n = λ i. below_by b.0 n i && numbers_rise before n i

pub number_rises : (next : ℕ) (before : List Numbered) (n : ℕ) → may_be_number next (numbers_of before) n ≡ true → list_all (λ (b : Numbered). is_lt (nat_cmp b.0 n)) before ≡ true
number_rises next before n e = sym (numbers_rise before n) ∙ right (nat_lt n next) _ (right _ _ e)

pub path_rises : (before : List Placed) (p : List ℕ) → may_be_path before p ≡ true → list_all (λ (b : Placed). is_lt (path_cmp b.0 p)) before ≡ true
path_rises [] p e = refl
path_rises (x ∷ xs) p e = left (list_all (λ (b : Placed). is_lt (path_cmp b.0 p)) (x ∷ xs)) (is_open (x ∷ xs) (parent p)) (right (is_well_formed p) _ e)
