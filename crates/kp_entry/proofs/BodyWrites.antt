-- What a body's kind and its fields add.
use Rattle.std.proofs.Common.{◌≡◌, ℕ, List, Some, Result, Ok, Err, refl, sym, subst}
use Rattle.std.specs.Prelude.{OnOk}
use Rattle.kp_jute.specs.Form.{Wrote}
use Rattle.kp_model.specs.declared.memory.NoMemory.{NoMemory}
use Rattle.kp_model.specs.declared.entry.Body.{Body}
use Rattle.kp_model.specs.declared.entry.Body.TheVariants as body
use Rattle.kp_entry.specs.declared.kinds.BodyKind.{BodyKind}
use Rattle.kp_entry.specs.declared.kinds.BodyKind.TheVariants as body_kind
use Rattle.kp_entry.specs.Fields.{u8s, kind_in}
use Rattle.kp_entry.specs.Entries.{body_kinds, body_number, body_fields, body_from, bodies}
use Rattle.kp_entry.proofs.Writes.{kind_written, unit_written}

body_known : (k : BodyKind) → kind_in body_kinds body_number (body_number k) ≡ Some k
body_known body_kind.Noop = refl
body_known body_kind.OpenSession = refl
body_known body_kind.Attach = refl
body_known body_kind.Expire = refl
body_known body_kind.Write = refl

body_written : (o : Body) (r : Result (Unit {0}) NoMemory) (a b c : List ℕ) → Wrote u8s (body_number (body_from o).0) a b → OnOk r (Wrote (body_fields (body_from o).0) (body_from o).1 b c) → OnOk r (Wrote bodies o a c)
body_written o (Ok u) a b c p q = let w = kind_written body_kinds body_number body_fields (body_from o) (Ok u) a b c (body_known (body_from o).0) p q in record { fits = w.fits; added = w.added }
body_written o (Err e) a b c p q = tt

pub noop_written : (r : Result (Unit {0}) NoMemory) (a b : List ℕ) → OnOk r (Wrote u8s 0 a b) → OnOk r (Wrote bodies body.Noop a b)
noop_written (Ok u) a b p = body_written body.Noop (Ok u) a b b p (unit_written b)
noop_written (Err e) a b p = tt

pub body_put : (o v : Body) → o ≡ v → (r : Result (Unit {0}) NoMemory) (a b c : List ℕ) → Wrote u8s (body_number (body_from v).0) a b → OnOk r (Wrote (body_fields (body_from v).0) (body_from v).1 b c) → OnOk r (Wrote bodies o a c)
body_put o v is r a b c p q = subst (λ (x : Body). OnOk r (Wrote bodies x a c)) (sym is) (body_written v r a b c p q)
