-- Reading one field after another: what two parts give, and where the first fails.
use Rattle.std.proofs.Common.{◌≡◌, ℕ, List, [], Ok, refl}
use Rattle.std.specs.Int.{w32}
use Rattle.kp_jute.specs.declared.fault.JuteFail.{JuteFail}
use Rattle.kp_jute.specs.Form.{Fails, Form, Place, Reading, ◌⊗◌, tagged}
use Rattle.kp_jute.specs.Jute.{unsigned_at}
use Rattle.kp_jute.proofs.Loops.{failed}
use Rattle.kp_snapshot.specs.Rows.{rows_at, rows_in}

pub both_ok : {A B : Type 0} (f : Form A) (g : Form B) (p q r : Place) (a : A) (b : B) → f.read p ≡ Ok (a, q) → g.read q ≡ Ok (b, r) → (f ⊗ g).read p ≡ Ok ((a, b), r)
both_ok f g p q r a b e h = rw (e, h) refl

pub tagged_ok : {A : Type 0} {B : A → Type 0} (f : Form A) (g : (a : A) → Form (B a)) (p q r : Place) (a : A) (b : B a) → f.read p ≡ Ok (a, q) → (g a).read q ≡ Ok (b, r) → (tagged f g).read p ≡ Ok ((a, b), r)
tagged_ok f g p q r a b e h = rw (e, h) refl

pub tagged_fails : {A : Type 0} {B : A → Type 0} (f : Form A) (g : (a : A) → Form (B a)) (fail : JuteFail) (p q : Place) (a : A) → f.read p ≡ Ok (a, q) → Fails fail ((g a).read q) → Fails fail ((tagged f g).read p)
tagged_fails f g fail p q a e h = failed fail ((g a).read q) ((tagged f g).read p) (λ k is. rw (e, is) refl) h

pub tagged_cut : {A : Type 0} {B : A → Type 0} (f : Form A) (g : (a : A) → Form (B a)) (fail : JuteFail) (p : Place) → Fails fail (f.read p) → Fails fail ((tagged f g).read p)
tagged_cut f g fail p h = failed fail (f.read p) ((tagged f g).read p) (λ k is. rw is refl) h

pub rows_ok : {A : Type 0} (read : List A → Reading A) (p q r : Place) (n : ℕ) (xs : List A) → unsigned_at w32 p ≡ Ok (n, q) → rows_at read n [] q ≡ Ok (xs, r) → rows_in read p ≡ Ok (xs, r)
unfolding rows_in
rows_ok read p q r n xs e h = rw (e, h) refl

pub rows_fails : {A : Type 0} (read : List A → Reading A) (fail : JuteFail) (p q : Place) (n : ℕ) → unsigned_at w32 p ≡ Ok (n, q) → Fails fail (rows_at read n [] q) → Fails fail (rows_in read p)
unfolding rows_in
rows_fails read fail p q n e h = failed fail (rows_at read n [] q) (rows_in read p) (λ k is. rw (e, is) refl) h

pub rows_cut : {A : Type 0} (read : List A → Reading A) (fail : JuteFail) (p : Place) → Fails fail (unsigned_at w32 p) → Fails fail (rows_in read p)
unfolding rows_in
rows_cut read fail p h = failed fail (unsigned_at w32 p) (rows_in read p) (λ k is. rw is refl) h
