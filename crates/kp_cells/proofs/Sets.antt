-- The sets of children after a child more or less.
use Rattle.std.proofs.Common.{◌≡◌, ℕ, Bool, true, false, cond, nat_eq, ◌&&◌, ◌||◌, List, [], ◌∷◌, Option, Some, None, refl, ap, sym, ◌∙◌}
use Rattle.std.specs.Prelude.{String, not}
use Rattle.std.specs.List.{list_any}
use Rattle.std.specs.Str.{bytes_eq}
use Rattle.std.specs.Ordering.{nat_cmp, eq_by_cmp}
use Rattle.std.specs.Cmp.{unsigned_tied, nat_eq_equiv}
use Rattle.std.specs.BTreeSet.{BTreeSet, contains}
use Rattle.std.proofs.lemmas.Slice.Eq.{bytes_eq-Decides}
use Rattle.kp_cells.specs.Kin.{kid_in, has_one, filled_in, set_at, is_kid, AreFilled}
use Rattle.kp_cells.proofs.Named.{no_number}

or_none : (b : Bool) → (b || false) ≡ b
or_none true = refl
or_none false = refl

and_all : (b : Bool) → (b && true) ≡ b
and_all true = refl
and_all false = refl

-- a number more in a set
pub put_in : (m n : ℕ) (had : Bool) → cond (eq_by_cmp nat_cmp m n) true had ≡ (had || nat_eq m n)
put_in m n had = ap (λ b. cond b true had) (unsigned_tied m n) ∙ swap (nat_eq m n) had where
  swap : (b c : Bool) → cond b true c ≡ (c || b)
  swap true true = refl
  swap true false = refl
  swap false true = refl
  swap false false = refl

-- a number less
pub taken_out : (m n : ℕ) (had : Bool) → cond (eq_by_cmp nat_cmp m n) false had ≡ (had && not (nat_eq m n))
taken_out m n had = ap (λ b. cond b false had) (unsigned_tied m n) ∙ swap (nat_eq m n) had where
  swap : (b c : Bool) → cond b false c ≡ (c && not b)
  swap true true = refl
  swap true false = refl
  swap false true = refl
  swap false false = refl

-- the two ways to look for a number
pub same_test : (n : ℕ) (ks : List ℕ) → list_any (nat_eq n) ks ≡ list_any (eq_by_cmp nat_cmp n) ks
same_test n [] = refl
same_test n (k ∷ ks) = λ i. sym (unsigned_tied n k) i || same_test n ks i

-- a set that has a number isn't empty
pub has_some : (s : BTreeSet ℕ) (n : ℕ) → contains nat_cmp s n ≡ true → has_one s.keys ≡ true
has_some s n h = go s.keys h where
  go : (ks : List ℕ) → list_any (eq_by_cmp nat_cmp n) ks ≡ true → has_one ks ≡ true
  go [] e = e
  go (k ∷ ks) e = refl

pub itself : (had : Bool) (n : ℕ) → (had || nat_eq n n) ≡ true
itself true n = refl
itself false n = nat_eq_equiv.refl n

module _ {Z : Type 0} (kin kin' : List (String Z × BTreeSet ℕ)) (parent : List ℕ) where
  module _ (w : Option (BTreeSet ℕ)) (sets : (p : List ℕ) → set_at kin' p ≡ cond (bytes_eq parent p) w (set_at kin p)) where
    pub kids_joined : (number : ℕ) → ((n : ℕ) → kid_in w n ≡ (kid_in (set_at kin parent) n || nat_eq number n)) → (p : List ℕ) (n : ℕ) → is_kid kin' p n ≡ (is_kid kin p n || (bytes_eq parent p && nat_eq number n))
    kids_joined number s p n = ap (λ r. kid_in r n) (sets p) ∙ here (bytes_eq parent p) (bytes_eq-Decides parent p).0 where
      here : (b : Bool) → (b ≡ true → parent ≡ p) → kid_in (cond b w (set_at kin p)) n ≡ (is_kid kin p n || (b && nat_eq number n))
      here true same = s n ∙ ap (λ q. is_kid kin q n || nat_eq number n) (same refl)
      here false same = sym (or_none (is_kid kin p n))

    pub kids_left : (number : ℕ) → ((n : ℕ) → kid_in w n ≡ (kid_in (set_at kin parent) n && not (nat_eq number n))) → (p : List ℕ) (n : ℕ) → is_kid kin' p n ≡ (is_kid kin p n && not (bytes_eq parent p && nat_eq number n))
    kids_left number s p n = ap (λ r. kid_in r n) (sets p) ∙ here (bytes_eq parent p) (bytes_eq-Decides parent p).0 where
      here : (b : Bool) → (b ≡ true → parent ≡ p) → kid_in (cond b w (set_at kin p)) n ≡ (is_kid kin p n && not (b && nat_eq number n))
      here true same = s n ∙ ap (λ q. is_kid kin q n && not (nat_eq number n)) (same refl)
      here false same = sym (and_all (is_kid kin p n))

    pub kids_same : ((n : ℕ) → kid_in w n ≡ kid_in (set_at kin parent) n) → (p : List ℕ) (n : ℕ) → is_kid kin' p n ≡ is_kid kin p n
    kids_same s p n = ap (λ r. kid_in r n) (sets p) ∙ here (bytes_eq parent p) (bytes_eq-Decides parent p).0 where
      here : (b : Bool) → (b ≡ true → parent ≡ p) → kid_in (cond b w (set_at kin p)) n ≡ is_kid kin p n
      here true same = s n ∙ ap (λ q. is_kid kin q n) (same refl)
      here false same = refl

    pub filled_so : (p : List ℕ) → filled_in (set_at kin' p) ≡ cond (bytes_eq parent p) (filled_in w) (filled_in (set_at kin p))
    filled_so p = ap filled_in (sets p) ∙ here (bytes_eq parent p) where
      here : (b : Bool) → filled_in (cond b w (set_at kin p)) ≡ cond b (filled_in w) (filled_in (set_at kin p))
      here true = refl
      here false = refl

    pub filled_still : filled_in w ≡ true → AreFilled kin → AreFilled kin'
    filled_still e h p = filled_so p ∙ here (bytes_eq parent p) where
      here : (b : Bool) → cond b (filled_in w) (filled_in (set_at kin p)) ≡ true
      here true = e
      here false = h p

-- a set without numbers
pub no_kids : (r : Option (BTreeSet ℕ)) (n : ℕ) → filled_in r ≡ false → kid_in r n ≡ false
no_kids None n e = absurd (no_number true refl e)
no_kids (Some s) n e = go s.keys e where
  go : (ks : List ℕ) → has_one ks ≡ false → list_any (eq_by_cmp nat_cmp n) ks ≡ false
  go [] f = refl
  go (k ∷ ks) f = absurd (no_number true refl f)

pub cond_or : (b c : Bool) → cond b true c ≡ (b || c)
cond_or true c = refl
cond_or false c = refl

pub cond_second : {X : Type 0} (b : Bool) (x y : X) → b ≡ false → cond b x y ≡ y
cond_second true x y e = absurd (no_number true refl e)
cond_second false x y e = refl
