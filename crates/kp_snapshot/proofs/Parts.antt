-- An image read part by part.
use Rattle.std.proofs.Common.{◌≡◌, ◌==◌, ℕ, List, Result, Ok, Err, length, refl, ap, subst, ◌∙◌}
use Rattle.kp_jute.specs.declared.fault.JuteFail.{JuteFail}
use Rattle.kp_jute.specs.declared.fault.JuteFail.TheVariants.{BadByte}
use Rattle.kp_jute.specs.Form.{Place, front, ended, whole, ◌⊗◌, ◌>>=◌, tagged}
use Rattle.kp_jute.proofs.Combined.{guard_in}
use Rattle.kp_entry.specs.Fields.{numbers}
use Rattle.kp_snapshot.specs.Rules.{Numbered, Placed, numbers_of}
use Rattle.kp_snapshot.specs.Images.{marks, mark, nexts, sessions, nodes, tables, Parts, parts}
use Rattle.kp_snapshot.specs.Snapshots.{images, snapshot_of}
use Rattle.kp_snapshot.specs.Knowing.{Finds}
use Rattle.kp_snapshot.proofs.Steps.{both_ok, tagged_ok, tagged_fails}

pub parts_ok : (p q r s u v : Place) (index term next : ℕ) (t : List Numbered × List Placed) → marks.read p ≡ Ok (mark, q) → numbers.read q ≡ Ok (index, r) → numbers.read r ≡ Ok (term, s) → nexts.read s ≡ Ok (next, u) → (tables index next).read u ≡ Ok (t, v)
    → parts.read p ≡ Ok ((mark, (index, (term, (next, t)))), v)
parts_ok p q r s u v index term next t a b c d e =
    both_ok marks (tagged numbers (λ index. numbers ⊗ tagged nexts (tables index))) p q v mark (index, (term, (next, t))) a
    (tagged_ok numbers (λ index. numbers ⊗ tagged nexts (tables index)) q r v index (term, (next, t)) b
    (both_ok numbers (tagged nexts (tables index)) r s v term (next, t) c
    (tagged_ok nexts (tables index) s u v next t d e)))

-- the nodes behind the sessions
pub tables_then : (index next : ℕ) (p q new : Place) (ss : List Numbered) (result : Result (Unit {0}) JuteFail) → (sessions next).read p ≡ Ok (ss, q) → Finds (λ _ (ns : List Placed). Unit {0}) result new ((nodes index (numbers_of ss)).read q)
    → Finds (λ _ (t : List Numbered × List Placed). Unit {0}) result new ((tables index next).read p)
tables_then index next p q new ss (Ok u) e h = ((ss, h.0), tagged_ok (sessions next) (λ ss. nodes index (numbers_of ss)) p q new ss h.0 e h.1, tt)
tables_then index next p q new ss (Err fail) e h = tagged_fails (sessions next) (λ ss. nodes index (numbers_of ss)) fail p q ss e h

pub whole_of : (bytes : List ℕ) (p q : Place) (t : Parts) (u : Unit {0}) → p ≡ front 0 bytes → parts.read p ≡ Ok (t, q) → ended (Ok (u, q)) ≡ Ok u → whole images bytes ≡ Ok (snapshot_of t)
whole_of bytes p q t u at e end =
    let none = (guard_in (length q.rest == 0) (BadByte q.at) u u end).0 in
    let read : images.read (front 0 bytes) ≡ Ok (snapshot_of t, q) = ap (λ r. r >>= λ x. Ok (snapshot_of x.0, x.1)) (subst (λ (z : Place). parts.read z ≡ Ok (t, q)) at e) in
    ap ended read ∙ rw none refl
