-- The lengths of the beginnings that pass the test, from one path to the next.
use Rattle.std.proofs.Common.{◌≡◌, ℕ, ◌+◌, ◌≤◌, ◌<◌, Bool, true, false, List, length, take, get_or, Ok, Err, refl, sym, ap, subst, ◌∙◌, arith, inl, inr}
use Rattle.std.specs.Ordering.{nat_cmp, is_lt}
use Rattle.std.specs.List.Sorted.{IsBinarySearchResult}
use Rattle.std.proofs.lemmas.Bool.{cases_lt}
use Rattle.std.proofs.lemmas.List.{length-take, get_or-take}
use Rattle.std.proofs.lemmas.List.Sorted.{searched}
use Rattle.kp_model.specs.State.{path_cmp}
use Rattle.kp_snapshot.specs.Ups.{common, AreRising, ArePartedAt, AreUps, NoneBehind}
use Rattle.kp_snapshot.proofs.Prefixes.{alike, not_longer, beyond}

-- rising numbers do not fall
pub not_falling : (xs : List ℕ) → AreRising xs → (i j : ℕ) → i ≤ j → j < length xs → get_or xs i 0 ≤ get_or xs j 0
not_falling xs up i j le lt =
    elim (cases_lt i j) [
      | inl less ↦ omega (arith, up i j less lt)
      | inr more ↦
          let same : i ≡ j = omega (arith, le, more) in
          omega (arith, ap (λ (k : ℕ). get_or xs k 0) same)
    ]

pub parted_found : (xs : List ℕ) (x at : ℕ) → IsBinarySearchResult (λ y. nat_cmp y x) xs (Ok at) → AreRising xs → ArePartedAt x xs (at + 1)
parted_found xs x at is up =
    let s : (at < length xs) × (get_or xs at 0 ≡ x) = searched xs x (Ok at) is (not_falling xs up) in
    record {
      within = omega (arith, s.0);
      below = λ i lt.
          let le = not_falling xs up i at (omega (arith, lt)) s.0 in
          omega (arith, le, s.1);
      above = λ i le lt.
          let less = up at i (omega (arith, le)) lt in
          omega (arith, less, s.1);
    }

pub parted_missed : (xs : List ℕ) (x at : ℕ) → IsBinarySearchResult (λ y. nat_cmp y x) xs (Err at) → AreRising xs → ArePartedAt x xs at
parted_missed xs x at is up =
    let s : (at ≤ length xs) × ((k : ℕ) → k < at → get_or xs k 0 < x) × ((k : ℕ) → at ≤ k → k < length xs → x < get_or xs k 0) = searched xs x (Err at) is (not_falling xs up) in
    record {
      within = s.0;
      below = λ i lt. let less = s.1 i lt in omega (arith, less);
      above = λ i le lt. s.2 i le lt;
    }

-- a length that was looked for in vain is not that of a beginning that passes the test
pub not_there : (test : List ℕ → Bool) (path xs : List ℕ) (x at : ℕ) → IsBinarySearchResult (λ y. nat_cmp y x) xs (Err at) → AreUps test path xs → x ≤ length path → test (take x path) ≡ false
not_there test path xs x at is ups le = by (test (take x path)) refl
  where
    by : (t : Bool) → test (take x path) ≡ t → t ≡ false
    by false e = refl
    by true e =
        let s : (at ≤ length xs) × ((k : ℕ) → k < at → get_or xs k 0 < x) × ((k : ℕ) → at ≤ k → k < length xs → x < get_or xs k 0) = searched xs x (Err at) is (not_falling xs ups.rising) in
        let w = ups.there x le e in
        elim (cases_lt w.0 at) [
          | inl less ↦ absurd (omega (arith, s.1 w.0 less, w.2))
          | inr more ↦ absurd (omega (arith, s.2 w.0 more w.1, w.2))
        ]

-- what is kept for a path behind the last one
module _ (test : List ℕ → Bool) (last path xs : List ℕ) (n : ℕ) (ups : AreUps test last xs) (none : NoneBehind test last) (less : is_lt (path_cmp last path) ≡ true) (parted : ArePartedAt (common last path) xs n) where
  long : length (take n xs) ≡ n
  long = omega (arith, length-take n xs, parted.within)

  same_at : (i : ℕ) → i < n → get_or (take n xs) i 0 ≡ get_or xs i 0
  same_at i lt = get_or-take n xs i 0 lt

  there_by : (l : ℕ) → l ≤ length path → test (take l path) ≡ true → (i : ℕ) × (i < length (take n xs)) × (get_or (take n xs) i 0 ≡ l)
  there_by l le e =
      elim (cases_lt (common last path) l) [
        | inl far ↦ absurd (let no = none (take l path) (beyond last path l less far) in let bad : true ≡ false = sym e ∙ no in cc)
        | inr near ↦
            let same = alike last path l near in
            let w = ups.there l (omega (arith, near, not_longer last path)) (ap test same ∙ e) in
            elim (cases_lt w.0 n) [
              | inl lt ↦ (w.0, omega (arith, lt, long), same_at w.0 lt ∙ w.2)
              | inr ge ↦ absurd (omega (arith, parted.above w.0 ge w.1, w.2, near))
            ]
      ]

  only_by : (i : ℕ) → i < n → (get_or xs i 0 ≤ length path) × (test (take (get_or xs i 0) path) ≡ true)
  only_by i lt =
      let near = parted.below i lt in
      let s = ups.only i (omega (arith, lt, parted.within)) in
      (omega (arith, near, (not_longer last path).1), ap test (sym (alike last path (get_or xs i 0) near)) ∙ s.1)

  pub kept : AreUps test path (take n xs)
  kept = record {
    rising = λ i j lt lu.
        let below : j < n = omega (arith, lu, long) in
        let a = same_at i (omega (arith, lt, below)) in
        let b = same_at j below in
        let r = ups.rising i j lt (omega (arith, below, parted.within)) in
        omega (arith, a, b, r);
    there = there_by;
    only = λ i lt.
        let below : i < n = omega (arith, lt, long) in
        subst (λ (k : ℕ). (k ≤ length path) × (test (take k path) ≡ true)) (sym (same_at i below)) (only_by i below);
  }
