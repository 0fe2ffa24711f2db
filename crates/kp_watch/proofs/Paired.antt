-- What a spot has: the numbers of the watches of its path and kind.
use Rattle.std.proofs.Common.{◌≡◌, ℕ, Bool, true, false, cond, nat_eq, ◌&&◌, ◌||◌, List, [], ◌∷◌, Option, Some, None, refl, ap, sym, ◌∙◌}
use Rattle.std.specs.Prelude.{map}
use Rattle.std.specs.List.{list_any, AllByRecursion, IsDistinct}
use Rattle.std.specs.Cmp.{nat_eq_equiv}
use Rattle.std.proofs.lemmas.Bool.{eqb-true}
use Rattle.kp_watch.specs.declared.watch.Watch.{Watch}
use Rattle.kp_watch.specs.declared.kind.Kind.{Kind}
use Rattle.kp_watch.specs.Watching.{is_at, same_watch}
use Rattle.kp_watch.specs.Spots.{Pairs, number_among, AreApart}
use Rattle.kp_watch.specs.Indexed.{is_number, passes}
use Rattle.kp_watch.proofs.Beside.{no, left, right}
use Rattle.kp_watch.proofs.Numbering.{IsApart, AreFound, all_found}

flipped : (k : ℕ) (ks : List ℕ) → AllByRecursion (λ y. nat_eq k y ≡ false) ks → AllByRecursion (λ y. nat_eq y k ≡ false) ks
flipped k [] h = tt
flipped k (x ∷ xs) h = (nat_eq_equiv.symm x k ∙ h.0, flipped k xs h.1)

apart : (ps : Pairs) → AreApart ps → IsApart nat_eq nat_eq_equiv.refl ps
unfolding IsDistinct
apart [] h = tt
apart (e ∷ es) h = (flipped e.0 _ h.0, apart es h.1)

all_there : (ps : Pairs) → AreApart ps → AreFound nat_eq nat_eq_equiv.refl ps ps
all_there ps h = all_found nat_eq nat_eq_equiv.refl ps (apart ps h)

-- ---- a pair is there exactly where the connection has the number
none_again : (c n k : ℕ) (ps : Pairs) → nat_eq c k ≡ true → AllByRecursion (λ y. nat_eq k y ≡ false) (map (λ (e : ℕ × ℕ). e.0) ps) → list_any (λ (e : ℕ × ℕ). nat_eq e.0 c && nat_eq e.1 n) ps ≡ false
none_again c n k [] same h = refl
none_again c n k (e ∷ es) same h =
    ap (λ b. (b && nat_eq e.1 n) || list_any (λ (x : ℕ × ℕ). nat_eq x.0 c && nat_eq x.1 n) es) (ap (nat_eq e.0) (eqb-true c k same) ∙ nat_eq_equiv.symm e.0 k ∙ h.0)
    ∙ none_again c n k es same h.1

or_false : (b : Bool) → (b || false) ≡ b
or_false true = refl
or_false false = refl

pub one_pair : (ps : Pairs) → AreApart ps → (c n : ℕ) → list_any (λ (e : ℕ × ℕ). nat_eq e.0 c && nat_eq e.1 n) ps ≡ is_number (number_among ps c) n
unfolding IsDistinct
one_pair [] h c n = refl
one_pair (e ∷ es) h c n =
    ap (λ b. (b && nat_eq e.1 n) || list_any (λ (x : ℕ × ℕ). nat_eq x.0 c && nat_eq x.1 n) es) (nat_eq_equiv.symm e.0 c)
    ∙ go (one_pair es h.1 c n) (nat_eq c e.0) refl
  where
    go : list_any (λ (x : ℕ × ℕ). nat_eq x.0 c && nat_eq x.1 n) es ≡ is_number (number_among es c) n → (b : Bool) → nat_eq c e.0 ≡ b → ((b && nat_eq e.1 n) || list_any (λ (x : ℕ × ℕ). nat_eq x.0 c && nat_eq x.1 n) es) ≡ is_number (cond b (Some e.1) (number_among es c)) n
    go rest true is = ap (λ b. nat_eq e.1 n || b) (none_again c n e.0 es is h.0) ∙ or_false (nat_eq e.1 n)
    go rest false is = rest

-- ---- a number is there exactly where its watch is of this path and kind
and_intro : (a b : Bool) → a ≡ true → b ≡ true → (a && b) ≡ true
and_intro true b e f = f
and_intro false b e f = no false refl e

same_truth : (a b : Bool) → (a ≡ true → b ≡ true) → (b ≡ true → a ≡ true) → a ≡ b
same_truth true true f g = refl
same_truth true false f g = sym (f refl)
same_truth false true f g = g refl
same_truth false false f g = refl

any_pair : (n : ℕ) (ps : Pairs) → list_any (λ (e : ℕ × ℕ). nat_eq e.1 n) ps ≡ true → (c : ℕ) × (list_any (λ (e : ℕ × ℕ). nat_eq e.0 c && nat_eq e.1 n) ps ≡ true)
any_pair n [] h = no false refl h
any_pair n (e ∷ es) h = go (any_pair n es) (nat_eq e.1 n) refl h where
  or_true : (b : Bool) → (b || true) ≡ true
  or_true true = refl
  or_true false = refl

  go : (list_any (λ (x : ℕ × ℕ). nat_eq x.1 n) es ≡ true → (c : ℕ) × (list_any (λ (x : ℕ × ℕ). nat_eq x.0 c && nat_eq x.1 n) es ≡ true))
      → (b : Bool) → nat_eq e.1 n ≡ b → (b || list_any (λ (x : ℕ × ℕ). nat_eq x.1 n) es) ≡ true → (c : ℕ) × (list_any (λ (x : ℕ × ℕ). nat_eq x.0 c && nat_eq x.1 n) (e ∷ es) ≡ true)
  go rest true is h = (e.0, ap (λ b. b || list_any (λ (x : ℕ × ℕ). nat_eq x.0 e.0 && nat_eq x.1 n) es) (and_intro (nat_eq e.0 e.0) (nat_eq e.1 n) (nat_eq_equiv.refl e.0) is))
  go rest false is h = let r = rest h in (r.0, ap (λ b. (nat_eq e.0 r.0 && nat_eq e.1 n) || b) r.1 ∙ or_true _)

any_number : (c n : ℕ) (ps : Pairs) → list_any (λ (e : ℕ × ℕ). nat_eq e.0 c && nat_eq e.1 n) ps ≡ true → list_any (λ (e : ℕ × ℕ). nat_eq e.1 n) ps ≡ true
any_number c n [] h = h
any_number c n (e ∷ es) h = go (any_number c n es) (nat_eq e.0 c) (nat_eq e.1 n) h where
  go : (list_any (λ (x : ℕ × ℕ). nat_eq x.0 c && nat_eq x.1 n) es ≡ true → list_any (λ (x : ℕ × ℕ). nat_eq x.1 n) es ≡ true) → (a b : Bool) → ((a && b) || list_any (λ (x : ℕ × ℕ). nat_eq x.0 c && nat_eq x.1 n) es) ≡ true → (b || list_any (λ (x : ℕ × ℕ). nat_eq x.1 n) es) ≡ true
  go rest a true h = refl
  go rest true false h = rest h
  go rest false false h = rest h

module _ (ps : Pairs) (h : AreApart ps) (path : List ℕ) (kind : Kind) (look : ℕ → Option Watch)
    (beside : (c n : ℕ) → is_number (number_among ps c) n ≡ passes (same_watch (record { path = path; kind = kind; conn = c })) (look n)) where
  -- with the connection
  pub pair_is : (c n : ℕ) → list_any (λ (e : ℕ × ℕ). nat_eq e.0 c && nat_eq e.1 n) ps ≡ passes (same_watch (record { path = path; kind = kind; conn = c })) (look n)
  pair_is c n = one_pair ps h c n ∙ beside c n

  at_it : (c : ℕ) (o : Option Watch) → passes (same_watch (record { path = path; kind = kind; conn = c })) o ≡ true → passes (is_at path kind) o ≡ true
  at_it c None e = e
  at_it c (Some w) e = left (is_at path kind w) _ e

  back : (n : ℕ) (o : Option Watch) → look n ≡ o → passes (is_at path kind) o ≡ true → list_any (λ (e : ℕ × ℕ). nat_eq e.1 n) ps ≡ true
  back n None is e = no false refl e
  back n (Some w) is e = any_number w.conn n ps (pair_is w.conn n ∙ ap (passes (same_watch (record { path = path; kind = kind; conn = w.conn }))) is ∙ and_intro (is_at path kind w) _ e (nat_eq_equiv.refl w.conn))

  pub number_is : (n : ℕ) → list_any (λ (e : ℕ × ℕ). nat_eq e.1 n) ps ≡ passes (is_at path kind) (look n)
  number_is n = same_truth _ _
      (λ e. let r = any_pair n ps e in at_it r.0 (look n) (sym (pair_is r.0 n) ∙ r.1))
      (λ e. back n (look n) refl e)

  -- ---- the numbers differ
  conn_of : Option Watch → ℕ
  conn_of None = 0
  conn_of (Some w) = w.conn

  conn_is : (c : ℕ) (o : Option Watch) → passes (same_watch (record { path = path; kind = kind; conn = c })) o ≡ true → conn_of o ≡ c
  unfolding conn_of
  conn_is c None e = no false refl e
  conn_is c (Some w) e = eqb-true w.conn c (right (is_at path kind w) _ e)

  all_owned : (es : Pairs) → AreFound nat_eq nat_eq_equiv.refl ps es → AllByRecursion (λ (e : ℕ × ℕ). conn_of (look e.1) ≡ e.0) es
  all_owned [] f = tt
  all_owned (e ∷ es) f = (conn_is e.0 (look e.1) (sym (beside e.0 e.1) ∙ ap (λ x. is_number x e.1) f.0 ∙ nat_eq_equiv.refl e.1), all_owned es f.1)

  other_number : (e : ℕ × ℕ) (es : Pairs) → conn_of (look e.1) ≡ e.0 → AllByRecursion (λ (x : ℕ × ℕ). conn_of (look x.1) ≡ x.0) es → AllByRecursion (λ y. nat_eq e.0 y ≡ false) (map (λ (x : ℕ × ℕ). x.0) es) → AllByRecursion (λ y. nat_eq e.1 y ≡ false) (map (λ (x : ℕ × ℕ). x.1) es)
  other_number e [] own f a = tt
  other_number e (x ∷ xs) own f a = (go (nat_eq e.1 x.1) refl, other_number e xs own f.1 a.1) where
    go : (b : Bool) → nat_eq e.1 x.1 ≡ b → nat_eq e.1 x.1 ≡ false
    go true is = no (nat_eq e.0 x.0) a.0 (ap (nat_eq e.0) (sym f.0 ∙ sym (ap (λ n. conn_of (look n)) (eqb-true e.1 x.1 is)) ∙ own) ∙ nat_eq_equiv.refl e.0)
    go false is = is

  distinct : (es : Pairs) → AreApart es → AllByRecursion (λ (e : ℕ × ℕ). conn_of (look e.1) ≡ e.0) es → IsDistinct nat_eq (map (λ (e : ℕ × ℕ). e.1) es)
  unfolding IsDistinct
  distinct [] a f = tt
  distinct (e ∷ es) a f = (other_number e es f.0 f.1 a.0, distinct es a.1 f.1)

  pub numbers_differ : IsDistinct nat_eq (map (λ (e : ℕ × ℕ). e.1) ps)
  numbers_differ = distinct ps h (all_owned ps (all_there ps h))

-- the two ways to look for a number
pub among : (n : ℕ) (ps : Pairs) → list_any (nat_eq n) (map (λ (e : ℕ × ℕ). e.1) ps) ≡ list_any (λ (e : ℕ × ℕ). nat_eq e.1 n) ps
among n [] = refl
among n (e ∷ es) = λ i. nat_eq_equiv.symm n e.1 i || among n es i
