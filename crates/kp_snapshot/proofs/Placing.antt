-- Reading nodes as a loop does, and what stands around them.
use Rattle.std.proofs.Common.{◌≡◌, ℕ, Bool, true, false, List, [], ◌∷◌, length, Ok, Err, refl, sym}
use Rattle.std.specs.Int.{w32}
use Rattle.kp_jute.specs.declared.fault.JuteFail.{JuteFail}
use Rattle.kp_jute.specs.declared.fault.JuteFail.TheVariants.{BadByte}
use Rattle.kp_jute.specs.Form.{Fails, Form, Place, Reading}
use Rattle.kp_jute.specs.Jute.{unsigned_at}
use Rattle.kp_jute.proofs.Loops.{failed}
use Rattle.kp_entry.specs.Fields.{limited}
use Rattle.kp_snapshot.specs.Rows.{rows_at, rows_in}
use Rattle.kp_snapshot.specs.Rules.{Placed}
use Rattle.kp_snapshot.specs.Images.{node_behind, nodes, is_some_node}

-- a node behind others
abbrev pub node_at : ℕ → List ℕ → List Placed → Reading Placed
node_at index ids before = (node_behind index ids before).read

-- ---- a field with a test

pub limited_ok : {A : Type 0} (test : A → Bool) (f : Form A) (p q : Place) (x : A) → f.read p ≡ Ok (x, q) → test x ≡ true → (limited test f).read p ≡ Ok (x, q)
limited_ok test f p q x e t = rw (e, t) refl

pub limited_no : {A : Type 0} (test : A → Bool) (f : Form A) (p q : Place) (x : A) → f.read p ≡ Ok (x, q) → test x ≡ false → (limited test f).read p ≡ Err (BadByte p.at)
limited_no test f p q x e t = rw (e, t) refl

pub limited_fails : {A : Type 0} (test : A → Bool) (f : Form A) (fail : JuteFail) (p : Place) → Fails fail (f.read p) → Fails fail ((limited test f).read p)
limited_fails test f fail p h = failed fail (f.read p) ((limited test f).read p) (λ g is. rw is refl) h

-- ---- the nodes behind their number

some_of : (ns : List Placed) (n : ℕ) → length ns ≡ n → ¬ (n ≡ 0) → is_some_node ns ≡ true
some_of [] n e some = absurd (some (sym e))
some_of (x ∷ xs) n e some = refl

pub nodes_ok : (index : ℕ) (ids : List ℕ) (p q r : Place) (n : ℕ) (ns : List Placed) → unsigned_at w32 p ≡ Ok (n, q) → rows_at (node_at index ids) n [] q ≡ Ok (ns, r) → length ns ≡ n → ¬ (n ≡ 0) → (nodes index ids).read p ≡ Ok (ns, r)
unfolding rows_in
nodes_ok index ids p q r n ns e f len some = rw (e, f, some_of ns n len some) refl

pub nodes_none : (index : ℕ) (ids : List ℕ) (p q : Place) (n : ℕ) → unsigned_at w32 p ≡ Ok (n, q) → n ≡ 0 → (nodes index ids).read p ≡ Err (BadByte p.at)
unfolding rows_in rows_at
nodes_none index ids p q n e none = rw (e, none) refl

pub nodes_cut : (index : ℕ) (ids : List ℕ) (fail : JuteFail) (p : Place) → Fails fail (unsigned_at w32 p) → Fails fail ((nodes index ids).read p)
unfolding rows_in
nodes_cut index ids fail p h = failed fail (unsigned_at w32 p) ((nodes index ids).read p) (λ g is. rw is refl) h

pub nodes_fail : (index : ℕ) (ids : List ℕ) (fail : JuteFail) (p q : Place) (n : ℕ) → unsigned_at w32 p ≡ Ok (n, q) → Fails fail (rows_at (node_at index ids) n [] q) → Fails fail ((nodes index ids).read p)
unfolding rows_in
nodes_fail index ids fail p q n e h = failed fail (rows_at (node_at index ids) n [] q) ((nodes index ids).read p) (λ g is. rw (e, is) refl) h
