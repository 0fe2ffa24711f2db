-- What was there at the last sync, and bytes that are torn.
use Rattle.std.proofs.Common.{◌≡◌, inl, inr, ℕ, zero, suc, ◌+◌, ◌≤◌, ◌<◌, List, [], ◌∷◌, ◌++◌, length, take, get_or, Option, Some, None, refl, sym, ◌∙◌, ap, subst, arith}
use Rattle.std.specs.Prelude.{slice_get}
use Rattle.std.specs.Option.{option_map}
use Rattle.std.proofs.lemmas.List.{take_all}
use Rattle.std.proofs.lemmas.Bool.Decides.{nat_tests}
use Rattle.kp_io.specs.Crash.{Past, Wear, MayLeave, IsNotedOrNot, wrote, cut_down, worn, shortened}
use Rattle.kp_io.specs.Disks.{written_at, cut_to}
use Rattle.kp_io.proofs.Written.{worn_holds, shortened_holds}
use Rattle.kp_disks.specs.Faulty.{torn, torn_from, torn_byte}

safe_of : Option Past → List ℕ
safe_of None = []
safe_of (Some p) = p.now.safe

pub write_keeps : (p q : Past) (number at n : ℕ) → IsNotedOrNot (wrote number at n) (Some p) (Some q) → q.now.safe ≡ p.now.safe
unfolding safe_of
write_keeps p q number at n (inl was) = ap safe_of was
write_keeps p q number at n (inr same) = ap safe_of same

pub cut_keeps : (p q : Past) (number n : ℕ) → IsNotedOrNot (cut_down number n) (Some p) (Some q) → q.now.safe ≡ p.now.safe
unfolding safe_of
cut_keeps p q number n (inl was) = ap safe_of was
cut_keeps p q number n (inr same) = ap safe_of same

-- one byte more
pub torn_next : (fill : ℕ) (safe : List ℕ) (at : ℕ) (bs : List ℕ) (i : ℕ) → i < length bs → torn_from fill safe at (take (suc i) bs) ≡ torn_from fill safe at (take i bs) ++ torn_byte fill (slice_get safe (at + i)) (get_or bs i 0) ∷ []
torn_next fill safe at [] i lt = absurd (omega (arith, lt))
torn_next fill safe at (b ∷ bs) zero lt = ap (λ (k : ℕ). torn_byte fill (slice_get safe k) b ∷ []) (omega arith)
torn_next fill safe at (b ∷ bs) (suc i) lt =
    ap (λ (l : List ℕ). torn_byte fill (slice_get safe at) b ∷ l)
    (torn_next fill safe (at + 1) bs i (omega (arith, lt)) ∙ ap (λ (k : ℕ). torn_from fill safe (at + 1) (take i bs) ++ torn_byte fill (slice_get safe k) (get_or bs i 0) ∷ []) (omega arith))

plus_none : (i : ℕ) → i ≡ 0 + i
plus_none i = omega arith

next_is : (i : ℕ) → suc i ≡ i + 1
next_is i = omega arith

pub torn_step : (fill x : ℕ) (safe bs left new : List ℕ) (i : ℕ) → i < length bs → left ≡ torn fill safe (take i bs) → x ≡ torn_byte fill (slice_get safe i) (get_or bs i 0) → new ≡ left ++ x ∷ [] → new ≡ torn fill safe (take (i + 1) bs)
torn_step fill x safe bs left new i lt so_far is made =
    made ∙ ap (λ (l : List ℕ). l ++ x ∷ []) so_far ∙ ap (λ (y : ℕ). torn fill safe (take i bs) ++ y ∷ []) is
    ∙ ap (λ (k : ℕ). torn fill safe (take i bs) ++ torn_byte fill (slice_get safe k) (get_or bs i 0) ∷ []) (plus_none i) ∙ sym (torn_next fill safe 0 bs i lt) ∙ ap (λ (k : ℕ). torn fill safe (take k bs)) (next_is i)

pub torn_long : (fill : ℕ) (safe : List ℕ) (at : ℕ) (xs : List ℕ) → length (torn_from fill safe at xs) ≡ length xs
torn_long fill safe at [] = refl
torn_long fill safe at (x ∷ xs) = ap suc (torn_long fill safe (at + 1) xs)

byte_same : (fill x : ℕ) → torn_byte fill (Some x) x ≡ x
byte_same fill x = grind (arith, nat_tests)

-- a byte that is as it was stays
pub torn_same : (fill : ℕ) (safe : List ℕ) (at : ℕ) (xs : List ℕ) (i : ℕ) → i < length xs → slice_get xs i ≡ slice_get safe (at + i) → slice_get (torn_from fill safe at xs) i ≡ slice_get xs i
torn_same fill safe at [] i lt e = absurd (omega (arith, lt))
torn_same fill safe at (x ∷ xs) zero lt e =
    ap Some (ap (λ (o : Option ℕ). torn_byte fill o x) (sym (e ∙ ap (slice_get safe) (omega arith))) ∙ byte_same fill x)
torn_same fill safe at (x ∷ xs) (suc i) lt e = torn_same fill safe (at + 1) xs i (omega (arith, lt)) (e ∙ ap (slice_get safe) (omega arith))

-- what is torn is something that a crash may leave
pub torn_left : (fill : ℕ) (safe held : List ℕ) (w : Wear) → w.safe ≡ safe → MayLeave w held → MayLeave w (torn fill safe held)
torn_left fill safe held w is m = record {
  no_shorter = omega (arith, m.no_shorter, torn_long fill safe 0 held);
  no_longer = omega (arith, m.no_longer, torn_long fill safe 0 held);
  stays = λ i lt out.
      let here = m.stays i lt out ∙ ap (λ (l : List ℕ). slice_get l i) is in
      torn_same fill safe 0 held i (omega (arith, lt, m.no_shorter)) (here ∙ ap (slice_get safe) (omega arith)) ∙ m.stays i lt out;
}

-- ---- after a call that succeeded

item : {A : Type 0} → A → Option A → A
item x None = x
item x (Some y) = y

some_is : {A : Type 0} (x y : A) → Some x ≡ Some y → x ≡ y
unfolding item
some_is x y e = ap (item x) e

pub write_leaves : (p q : Past) (xs ys safe : List ℕ) (number at : ℕ) (bs : List ℕ) → at ≤ length xs → Some ys ≡ option_map (written_at at bs) (Some xs) → Some q ≡ option_map (wrote number at (length bs)) (Some p)
    → MayLeave p.now xs × (p.now.safe ≡ safe) → MayLeave q.now ys × (q.now.safe ≡ safe)
write_leaves p q xs ys safe number at bs le made noted old =
    let is = some_is _ _ noted in (
      subst (λ (r : Past). MayLeave r.now ys) (sym is) (subst (MayLeave (worn at (length bs) p.now)) (sym (some_is _ _ made)) (worn_holds p.now at bs xs le old.0)),
      ap (λ (r : Past). r.now.safe) is ∙ old.1,
    )

pub cut_leaves : (p q : Past) (xs ys safe : List ℕ) (number n : ℕ) → Some ys ≡ option_map (cut_to n) (Some xs) → Some q ≡ option_map (cut_down number n) (Some p)
    → MayLeave p.now xs × (p.now.safe ≡ safe) → MayLeave q.now ys × (q.now.safe ≡ safe)
cut_leaves p q xs ys safe number n made noted old =
    let is = some_is _ _ noted in (
      subst (λ (r : Past). MayLeave r.now ys) (sym is) (subst (MayLeave (shortened n p.now)) (sym (some_is _ _ made)) (shortened_holds p.now n xs old.0)),
      ap (λ (r : Past). r.now.safe) is ∙ old.1,
    )

pub left_after : (fill i : ℕ) (safe bytes held left : List ℕ) (w : Wear) → left ≡ torn fill safe (take i bytes) → length bytes ≤ i → bytes ≡ held → w.safe ≡ safe → MayLeave w held → MayLeave w left
left_after fill i safe bytes held left w is le same was m =
    subst (MayLeave w) (sym (is ∙ ap (torn fill safe) (take_all i bytes le ∙ same))) (torn_left fill safe held w was m)
