-- Counts, buffers, texts and vectors: each form is lawful.
use Rattle.std.proofs.Common.{◌≡◌, ℕ, zero, suc, ◌+◌, ◌^◌, ◌<◌, ℤ, pos, negsuc, cond, List, [], ◌∷◌, ◌++◌, length, Option, Some, None, Ok, Err, refl, sym, ap, subst, ◌∙◌, append_assoc, arith, length-append}
use Rattle.std.specs.Prelude.{IfSome, FitsSigned}
use Rattle.std.specs.Int.{w32}
use Rattle.std.specs.List.{flat_map, AllByRecursion}
use Rattle.std.specs.Str.{is_utf8}
use Rattle.std.proofs.lemmas.List.Concat.{flat_map-cons}
use Rattle.std.proofs.lemmas.Int.{fits_signed_from_abs}
use Rattle.std.proofs.Math.Facts.{sfits_lit}
use Rattle.kp_jute.specs.declared.fault.JuteFail.TheVariants.{BadByte}
use Rattle.kp_jute.specs.Form.{IsBytes, Takes, front, Lawful, Place, ◌>>=◌, Form}
use Rattle.kp_jute.specs.Jute.{number, raw_at, number_at, count, count_of, count_at, counts, bytes_in, buffer, buffer_at, buffers, text_in, text_at, texts, items_at, some_items_at, vector_at, vector, vectors}
use Rattle.kp_jute.proofs.Combined.{bind_ok, guard_in, ok_is, Takes-then}
use Rattle.kp_jute.proofs.Numbers.{wide32, number_takes, number_again, raw_takes, raw_again}

-- ---- counts

small : (n : ℕ) → FitsSigned w32 (pos n) → n < 2 ^ 31
small n fits = fits.sfits

pos_fits : (n : ℕ) → n < 2 ^ 31 → FitsSigned w32 (pos n)
pos_fits n lt = fits_signed_from_abs w32 (pos n) lt

one_fits : FitsSigned w32 (negsuc 0)
one_fits = sfits_lit tt

signed_count : (at : ℕ) (z : ℤ) (o : Option ℕ) → FitsSigned w32 z → count_of at z ≡ Ok o → (count o ≡ number w32 z) × IfSome o (λ n. n < 2 ^ 31)
signed_count at (pos n) o fits e = subst (λ (x : Option ℕ). (count x ≡ number w32 (pos n)) × IfSome x (λ n. n < 2 ^ 31)) (ok_is (Some n) o e) (refl, small n fits)
signed_count at (negsuc zero) o fits e = subst (λ (x : Option ℕ). (count x ≡ number w32 (negsuc 0)) × IfSome x (λ n. n < 2 ^ 31)) (ok_is None o e) (refl, tt)
signed_count at (negsuc (suc n)) o fits e = absurd cc

count_takes : (p : Place) (v : Option ℕ) (q : Place) → IsBytes p.rest → count_at p ≡ Ok (v, q) → Takes p (count v) q × IfSome v (λ n. n < 2 ^ 31)
unfolding count_at
count_takes p v q fits e =
    let a = bind_ok (number_at w32 p) (λ n. count_of p.at n.0 >>= λ c. Ok (c, n.1)) (v, q) e in
    let b = bind_ok (count_of p.at a.0.0) (λ c. Ok (c, a.0.1)) (v, q) a.2 in
    let t = number_takes w32 (2 ^ 32) wide32 p a.0.0 a.0.1 fits a.1 in
    let s = signed_count p.at a.0.0 b.0 t.1 b.1 in
    subst (λ (x : Option ℕ × Place). Takes p (count x.0) x.1 × IfSome x.0 (λ n. n < 2 ^ 31)) (ok_is (b.0, a.0.1) (v, q) b.2) (subst (λ (text : List ℕ). Takes p text a.0.1) (sym s.0) t.0, s.1)

count_again : (v : Option ℕ) (at : ℕ) (rest : List ℕ) → IfSome v (λ n. n < 2 ^ 31) → count_at (front at (count v ++ rest)) ≡ Ok (v, front (at + length (count v)) rest)
unfolding count_at
count_again None at rest fits = rw (number_again w32 (2 ^ 32) wide32 (negsuc 0) at rest one_fits) refl
count_again (Some n) at rest fits = rw (number_again w32 (2 ^ 32) wide32 (pos n) at rest (pos_fits n fits)) refl

pub counts_lawful : Lawful counts
counts_lawful = record { takes = count_takes; again = count_again }

-- ---- buffers

buffer_rest : (p : Place) (n : Option ℕ) (r : Place) (v : Option (List ℕ)) (q : Place) → Takes p (count n) r → IfSome n (λ n. n < 2 ^ 31) → bytes_in p.at n r ≡ Ok (v, q) → Takes p (buffer v) q × buffers.Fits v
buffer_rest p None r v q t fits e = subst (λ (x : Option (List ℕ) × Place). Takes p (buffer x.0) x.1 × buffers.Fits x.0) (ok_is (None, r) (v, q) e) (t, tt)
buffer_rest p (Some n) r v q t fits e =
    let a = bind_ok (raw_at p.at n r) (λ b. Ok (Some b.0, b.1)) (v, q) e in
    let s = raw_takes p.at n r a.0.0 a.0.1 t.rest_fits a.1 in
    let both = Takes-then p (count (Some n)) r a.0.0 a.0.1 t s.0 in
    subst (λ (x : Option (List ℕ) × Place). Takes p (buffer x.0) x.1 × buffers.Fits x.0) (ok_is (Some a.0.0, a.0.1) (v, q) a.2) (subst (λ (k : ℕ). Takes p (count (Some k) ++ a.0.0) a.0.1) (sym s.1) both, omega (arith, s.1, fits))

buffer_takes : (p : Place) (v : Option (List ℕ)) (q : Place) → IsBytes p.rest → buffer_at p ≡ Ok (v, q) → Takes p (buffer v) q × IfSome v (λ bytes. length bytes < 2 ^ 31)
unfolding buffer_at
buffer_takes p v q fits e =
    let a = bind_ok (count_at p) (λ n. bytes_in p.at n.0 n.1) (v, q) e in
    let t = count_takes p a.0.0 a.0.1 fits a.1 in
    buffer_rest p a.0.0 a.0.1 v q t.0 t.1 a.2

buffer_again : (v : Option (List ℕ)) (at : ℕ) (rest : List ℕ) → IfSome v (λ bytes. length bytes < 2 ^ 31) → buffer_at (front at (buffer v ++ rest)) ≡ Ok (v, front (at + length (buffer v)) rest)
unfolding buffer_at
buffer_again None at rest fits = rw (count_again None at rest tt) refl
buffer_again (Some b) at rest fits =
    let regrouped : buffer (Some b) ++ rest ≡ count (Some (length b)) ++ (b ++ rest) = append_assoc (count (Some (length b))) b rest in
    let len : at + length (count (Some (length b))) + length b ≡ at + length (buffer (Some b)) = omega (arith, length-append (count (Some (length b))) b) in
    ap (λ (r : List ℕ). buffer_at (front at r)) regrouped ∙ rw (count_again (Some (length b)) at (b ++ rest) fits, raw_again at (at + length (count (Some (length b)))) (length b) b rest refl) (ap (λ (n : ℕ). Ok (Some b, front n rest)) len)

pub buffers_lawful : Lawful buffers
buffers_lawful = record { takes = buffer_takes; again = buffer_again }

-- ---- texts

text_rest : (p : Place) (b : Option (List ℕ)) (r : Place) (v : Option (List ℕ)) (q : Place) → Takes p (buffer b) r → IfSome b (λ bytes. length bytes < 2 ^ 31) → text_in p.at b r ≡ Ok (v, q) → Takes p (buffer v) q × texts.Fits v
text_rest p None r v q t fits e = subst (λ (x : Option (List ℕ) × Place). Takes p (buffer x.0) x.1 × texts.Fits x.0) (ok_is (None, r) (v, q) e) (t, tt)
text_rest p (Some b) r v q t fits e =
    let a = bind_ok (cond (is_utf8 b) (Ok b) (Err (BadByte p.at))) (λ text. Ok (Some text, r)) (v, q) e in
    let g = guard_in (is_utf8 b) (BadByte p.at) b a.0 a.1 in
    subst (λ (x : Option (List ℕ) × Place). Takes p (buffer x.0) x.1 × texts.Fits x.0) (ap (λ (u : List ℕ). (Some u, r)) g.1 ∙ ok_is (Some a.0, r) (v, q) a.2) (t, (fits, g.0))

text_takes : (p : Place) (v : Option (List ℕ)) (q : Place) → IsBytes p.rest → text_at p ≡ Ok (v, q) → Takes p (buffer v) q × texts.Fits v
unfolding text_at
text_takes p v q fits e =
    let a = bind_ok (buffer_at p) (λ b. text_in p.at b.0 b.1) (v, q) e in
    let t = buffer_takes p a.0.0 a.0.1 fits a.1 in
    text_rest p a.0.0 a.0.1 v q t.0 t.1 a.2

text_again : (v : Option (List ℕ)) (at : ℕ) (rest : List ℕ) → texts.Fits v → text_at (front at (buffer v ++ rest)) ≡ Ok (v, front (at + length (buffer v)) rest)
unfolding text_at
text_again None at rest fits = rw (buffer_again None at rest tt) refl
text_again (Some b) at rest fits = rw (buffer_again (Some b) at rest fits.0, fits.1) refl

pub texts_lawful : Lawful texts
texts_lawful = record { takes = text_takes; again = text_again }

-- ---- vectors

items_take : {A : Type 0} (f : Form A) → Lawful f → (n : ℕ) (p : Place) (v : List A) (q : Place) → IsBytes p.rest → items_at f.read n p ≡ Ok (v, q) → Takes p (flat_map f.spell v) q × (length v ≡ n) × AllByRecursion f.Fits v
unfolding items_at
items_take {A} f lf zero p v q fits e = subst (λ (x : List A × Place). Takes p (flat_map f.spell x.0) x.1 × (length x.0 ≡ 0) × AllByRecursion f.Fits x.0) (ok_is ([], p) (v, q) e) (record { parts = refl; moved = omega arith; rest_fits = fits }, refl, tt)
items_take {A} f lf (suc n) p v q fits e =
    let a = bind_ok (f.read p) (λ first. items_at f.read n first.1 >>= λ others. Ok (first.0 ∷ others.0, others.1)) (v, q) e in
    let b = bind_ok (items_at f.read n a.0.1) (λ others. Ok (a.0.0 ∷ others.0, others.1)) (v, q) a.2 in
    let s = lf.takes p a.0.0 a.0.1 fits a.1 in
    let t = items_take f lf n a.0.1 b.0.0 b.0.1 s.0.rest_fits b.1 in
    let both = Takes-then p (f.spell a.0.0) a.0.1 (flat_map f.spell b.0.0) b.0.1 s.0 t.0 in
    subst (λ (x : List A × Place). Takes p (flat_map f.spell x.0) x.1 × (length x.0 ≡ suc n) × AllByRecursion f.Fits x.0) (ok_is (a.0.0 ∷ b.0.0, b.0.1) (v, q) b.2) (rw flat_map-cons both, ap suc t.1, (s.1, t.2))

items_again : {A : Type 0} (f : Form A) → Lawful f → (v : List A) (at : ℕ) (rest : List ℕ) → AllByRecursion f.Fits v → items_at f.read (length v) (front at (flat_map f.spell v ++ rest)) ≡ Ok (v, front (at + length (flat_map f.spell v)) rest)
unfolding items_at
items_again f lf [] at rest fits = ap (λ (n : ℕ). Ok ([], front n rest)) (omega arith)
items_again {A} f lf (x ∷ xs) at rest fits =
    let regrouped : flat_map f.spell (x ∷ xs) ++ rest ≡ f.spell x ++ (flat_map f.spell xs ++ rest) = ap (λ (u : List ℕ). u ++ rest) (flat_map-cons f.spell x xs) ∙ append_assoc (f.spell x) (flat_map f.spell xs) rest in
    let len : at + length (f.spell x) + length (flat_map f.spell xs) ≡ at + length (flat_map f.spell (x ∷ xs)) = rw flat_map-cons (omega (arith, length-append (f.spell x) (flat_map f.spell xs))) in
    ap (λ (r : List ℕ). items_at f.read (suc (length xs)) (front at r)) regrouped ∙ rw (lf.again x at (flat_map f.spell xs ++ rest) fits.0, items_again f lf xs (at + length (f.spell x)) rest fits.1) (ap (λ (n : ℕ). Ok (x ∷ xs, front n rest)) len)

vector_rest : {A : Type 0} (f : Form A) → Lawful f → (p : Place) (n : Option ℕ) (r : Place) (v : Option (List A)) (q : Place) → Takes p (count n) r → IfSome n (λ n. n < 2 ^ 31) → some_items_at f.read n r ≡ Ok (v, q) → Takes p (vector f.spell v) q × (vectors f).Fits v
vector_rest {A} f lf p None r v q t fits e = subst (λ (x : Option (List A) × Place). Takes p (vector f.spell x.0) x.1 × (vectors f).Fits x.0) (ok_is (None, r) (v, q) e) (t, tt)
vector_rest {A} f lf p (Some n) r v q t fits e =
    let a = bind_ok (items_at f.read n r) (λ xs. Ok (Some xs.0, xs.1)) (v, q) e in
    let s = items_take f lf n r a.0.0 a.0.1 t.rest_fits a.1 in
    let both = Takes-then p (count (Some n)) r (flat_map f.spell a.0.0) a.0.1 t s.0 in
    subst (λ (x : Option (List A) × Place). Takes p (vector f.spell x.0) x.1 × (vectors f).Fits x.0) (ok_is (Some a.0.0, a.0.1) (v, q) a.2) (subst (λ (k : ℕ). Takes p (count (Some k) ++ flat_map f.spell a.0.0) a.0.1) (sym s.1) both, (omega (arith, s.1, fits), s.2))

vector_again : {A : Type 0} (f : Form A) → Lawful f → (v : Option (List A)) (at : ℕ) (rest : List ℕ) → (vectors f).Fits v → vector_at f.read (front at (vector f.spell v ++ rest)) ≡ Ok (v, front (at + length (vector f.spell v)) rest)
unfolding vector_at
vector_again f lf None at rest fits = rw (count_again None at rest tt) refl
vector_again f lf (Some xs) at rest fits =
    let head = count (Some (length xs)) in
    let body = flat_map f.spell xs in
    let len : at + length head + length body ≡ at + length (head ++ body) = omega (arith, length-append head body) in
    ap (λ (r : List ℕ). vector_at f.read (front at r)) (append_assoc head body rest) ∙ rw (count_again (Some (length xs)) at (body ++ rest) fits.0, items_again f lf xs (at + length head) rest fits.1) (ap (λ (n : ℕ). Ok (Some xs, front n rest)) len)

pub vectors_lawful : {A : Type 0} (f : Form A) → Lawful f → Lawful (vectors f)
unfolding vector_at
vectors_lawful f lf = record {
  takes = λ p v q fits e.
      let a = bind_ok (count_at p) (λ n. some_items_at f.read n.0 n.1) (v, q) e in
      let t = count_takes p a.0.0 a.0.1 fits a.1 in
      vector_rest f lf p a.0.0 a.0.1 v q t.0 t.1 a.2;
  again = vector_again f lf;
}
