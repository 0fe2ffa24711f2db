-- Bytes that are read to their end.
use Rattle.std.proofs.Common.{◌≡◌, ℕ, ◌==◌, List, [], ◌∷◌, ◌++◌, length, Some, Result, Ok, Err, refl, sym, ap, subst, ◌∙◌, arith}
use Rattle.std.specs.Prelude.{IfOk}
use Rattle.std.proofs.lemmas.List.{append-nil}
use Rattle.std.proofs.lemmas.Bool.{eqb-true}
use Rattle.kp_jute.specs.declared.fault.JuteFail.{JuteFail}
use Rattle.kp_jute.specs.declared.fault.JuteFail.TheVariants as jute
use Rattle.kp_jute.specs.Form.{Place, IsBytes, Fails, front, ended, whole, place_of}
use Rattle.kp_jute.proofs.Combined.{guard_in, ok_is}
use Rattle.kp_snapshot.specs.declared.fail.ImageFail.{ImageFail}
use Rattle.kp_snapshot.specs.declared.fail.ImageFail.TheVariants as fail
use Rattle.kp_snapshot.specs.Snapshots.{Snapshot, images, snapshot_in, IsImage, Reads, IsRefusedAt, IsImageOf, fail_of}
use Rattle.kp_snapshot.proofs.ImageLaws.{images_lawful}
use Rattle.kp_snapshot.proofs.Spelled.{read_again, stands_for}

ended_ok : {A : Type 0} (r : Result (A × Place) JuteFail) (v : A) → ended r ≡ Ok v → (q : Place) × (r ≡ Ok (v, q)) × (length q.rest ≡ 0)
ended_ok (Err e) v h = absurd cc
ended_ok (Ok x) v h =
    let g = guard_in (length x.1.rest == 0) (jute.BadByte x.1.at) x.0 v h in
    (x.1, ap (λ y. Ok (y, x.1)) g.1, eqb-true (length x.1.rest) 0 g.0)

none_left : (xs : List ℕ) → length xs ≡ 0 → xs ≡ []
none_left [] e = refl
none_left (x ∷ xs) e = absurd (omega (arith, e))

pub whole_found : (bytes : List ℕ) (s : Snapshot) → IsBytes bytes → whole images bytes ≡ Ok s → images.Fits s × (bytes ≡ images.spell s)
whole_found bytes s is h =
    let e = ended_ok (images.read (front 0 bytes)) s h in
    let t = images_lawful.takes (front 0 bytes) s e.0 is e.1 in
    (t.1, t.0.parts ∙ ap (λ (xs : List ℕ). images.spell s ++ xs) (none_left e.0.rest e.2) ∙ append-nil (images.spell s))

pub whole_again : (bytes : List ℕ) (s : Snapshot) → images.Fits s → bytes ≡ images.spell s → whole images bytes ≡ Ok s
whole_again bytes s fits e = ap ended (read_again s bytes fits e)

pub whole_in : (bytes : List ℕ) (s : Snapshot) → IsBytes bytes → whole images bytes ≡ Ok s → snapshot_in bytes ≡ s
whole_in bytes s is h = let f = whole_found bytes s is h in stands_for s bytes f.0 f.1

pub is_image : (bytes : List ℕ) (s : Snapshot) (index term : ℕ) → IsBytes bytes → whole images bytes ≡ Ok s → s.state.applied ≡ index → s.term ≡ term → IsImage bytes index term
is_image bytes s index term is h i t =
    let f = whole_found bytes s is h in
    let same = whole_in bytes s is h in
    record { spelled = (s, f.0, f.1); index_is = ap (λ (x : Snapshot). x.state.applied) same ∙ i; term_is = ap (λ (x : Snapshot). x.term) same ∙ t }

pub reads_it : (bytes : List ℕ) (s : Snapshot) → IsBytes bytes → whole images bytes ≡ Ok s → whole images bytes ≡ Ok (snapshot_in bytes)
reads_it bytes s is h = h ∙ ap (λ (x : Snapshot). Ok x) (sym (whole_in bytes s is h))

refused_at : (e : JuteFail) (at : ℕ) (r : Result Snapshot JuteFail) → place_of e ≡ Some at → r ≡ Err e → IsRefusedAt at r
refused_at e at r place is = subst (IsRefusedAt at) (sym is) place

pub refused : (e : JuteFail) (r : Result Snapshot JuteFail) → Fails e r → Reads (Err (fail_of e)) r
refused jute.NoMemory r h = tt
refused (jute.Short at) r h = refused_at (jute.Short at) at r refl h
refused (jute.BadLength at) r h = refused_at (jute.BadLength at) at r refl h
refused (jute.BadByte at) r h = refused_at (jute.BadByte at) at r refl h

pub found_in : (bytes : List ℕ) (result : Result Snapshot ImageFail) → IsBytes bytes → Reads result (whole images bytes) → IfOk result (λ s. images.Fits s × (bytes ≡ images.spell s))
found_in bytes (Ok s) is h = whole_found bytes s is h
found_in bytes (Err e) is h = tt

same_of : (s t : Snapshot) (r : Result Snapshot JuteFail) → r ≡ Ok s → r ≡ Ok t → t ≡ s
same_of s t r e f = ok_is t s (sym f ∙ e)

pub only_that : (bytes : List ℕ) (result : Result Snapshot ImageFail) (s : Snapshot) → Reads result (whole images bytes) → images.Fits s → bytes ≡ images.spell s → IsImageOf s result
only_that bytes (Ok t) s h fits e = same_of s t (whole images bytes) (whole_again bytes s fits e) h
only_that bytes (Err fail.NoMemory) s h fits e = tt
only_that bytes (Err (fail.Damaged at)) s h fits e = subst (IsRefusedAt at) (whole_again bytes s fits e) h
