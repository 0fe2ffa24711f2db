-- An image written part by part.
use Rattle.std.proofs.Common.{◌≡◌, ℕ, ◌+◌, List, [], ◌∷◌, ◌++◌, take, Result, Ok, Err, refl, sym, ap, subst, ◌∙◌, append_assoc}
use Rattle.std.specs.Prelude.{OnOk}
use Rattle.std.specs.FinMap as map
use Rattle.std.specs.Str.{bytes_eq}
use Rattle.kp_jute.specs.Form.{Form, Wrote, ◌⊗◌, tagged}
use Rattle.kp_entry.specs.Fields.{limited, numbers, strings}
use Rattle.kp_model.specs.declared.memory.NoMemory.{NoMemory}
use Rattle.kp_model.specs.declared.node.Acl.{Acl}
use Rattle.kp_model.specs.declared.node.Meta.{Meta}
use Rattle.kp_model.specs.Path.{root}
use Rattle.kp_model.specs.Poured.{node_of}
use Rattle.kp_model.specs.State.{State}
use Rattle.kp_snapshot.specs.Rules.{Numbered, Placed, numbers_of, holders_of, may_be_path, may_own}
use Rattle.kp_snapshot.specs.Images.{session_behind, spell_session, sessions, node_behind, node_fields, spell_node, nodes, marks, mark, nexts, tables, parts}
use Rattle.kp_snapshot.specs.Snapshots.{Snapshot, images, parts_of, snapshot_at, IsImage}
use Rattle.kp_snapshot.specs.Knowing.{Sessions, knowing, knowing_more}
use Rattle.kp_snapshot.specs.Nodes.{figures_of}
use Rattle.kp_snapshot.specs.Written.{WroteRows}
use Rattle.kp_snapshot.proofs.RowWrites.{row_written}
use Rattle.kp_snapshot.proofs.SessionRows.{knowing_on}
use Rattle.kp_snapshot.proofs.Spelled.{stands_for}

-- ---- one field after another

pub pair_written : {A B : Type 0} (f : Form A) (g : Form B) (x : A) (y : B) (a b c : List ℕ) → Wrote f x a b → Wrote g y b c → Wrote (f ⊗ g) (x, y) a c
pair_written f g x y a b c p q = record { fits = (p.fits, q.fits); added = q.added ∙ ap (λ (u : List ℕ). u ++ g.spell y) p.added ∙ append_assoc a (f.spell x) (g.spell y) }

pub tagged_written : {A : Type 0} {B : A → Type 0} (f : Form A) (g : (x : A) → Form (B x)) (x : A) (y : B x) (a b c : List ℕ) → Wrote f x a b → Wrote (g x) y b c → Wrote (tagged f g) (x, y) a c
tagged_written f g x y a b c p q = record { fits = (p.fits, q.fits); added = q.added ∙ ap (λ (u : List ℕ). u ++ (g x).spell y) p.added ∙ append_assoc a (f.spell x) ((g x).spell y) }

-- ---- sessions and nodes

-- a session behind others
abbrev pub session_row : ℕ → List Numbered → Form Numbered
session_row next before = session_behind next (numbers_of before) (holders_of before)

pub session_alike : (next : ℕ) (before : List Numbered) → (session_row next before).spell ≡ spell_session
unfolding spell_session
session_alike next before = refl

pub node_alike : (index : ℕ) (ids : List ℕ) (before : List Placed) → (node_behind index ids before).spell ≡ spell_node
unfolding spell_node
node_alike index ids before = refl

pub session_written : (next i : ℕ) (es : List Numbered) (s : Numbered) (k new : Sessions) (a b c : List ℕ) → take (i + 1) es ≡ take i es ++ s ∷ [] → k ≡ knowing next (take i es) → new ≡ knowing_more k s
    → WroteRows spell_session (session_row next) (take i es) a b → Wrote (session_behind k.next k.ids k.holders) s b c
    → (new ≡ knowing next (take (i + 1) es)) × WroteRows spell_session (session_row next) (take (i + 1) es) a c
session_written next i es s k new a b c more is on p q = (
  knowing_on next (take i es) s k new is on ∙ ap (knowing next) (sym more),
  subst (λ (xs : List Numbered). WroteRows spell_session (session_row next) xs a c) (sym more) (row_written spell_session (session_row next) (session_alike next) (take i es) s a b c p (subst (λ (j : Sessions). Wrote (session_behind j.next j.ids j.holders) s b c) is q)),
)

pub node_written : (index i : ℕ) (ids : List ℕ) (es : List Placed) (x : Placed) (a b c : List ℕ) → take (i + 1) es ≡ take i es ++ x ∷ []
    → WroteRows spell_node (node_behind index ids) (take i es) a b → Wrote (node_behind index ids (take i es)) x b c
    → WroteRows spell_node (node_behind index ids) (take (i + 1) es) a c
node_written index i ids es x a b c more p q = subst (λ (xs : List Placed). WroteRows spell_node (node_behind index ids) xs a c) (sym more) (row_written spell_node (node_behind index ids) (node_alike index ids) (take i es) x a b c p q)

-- a path, and what stands behind it
pub placed_written : (index : ℕ) (ids : List ℕ) (before : List Placed) (path bytes : List ℕ) (acl : List Acl) (m : Meta) (a b c : List ℕ) → Wrote (limited (may_be_path before) strings) path a b
    → Wrote (node_fields index (may_own ids (bytes_eq path root))) (bytes, (acl, figures_of m)) b c → Wrote (node_behind index ids before) (path, node_of bytes acl m) a c
placed_written index ids before path bytes acl m a b c p q =
    let w = tagged_written (limited (may_be_path before) strings) (λ (t : List ℕ). node_fields index (may_own ids (bytes_eq t root))) path (bytes, (acl, figures_of m)) a b c p q in
    record { fits = w.fits; added = w.added }

-- a node is written, and kept in mind where memory is found
pub with_both : (r : Result (Unit {0}) NoMemory) (W S : Type 0) → W → OnOk r S → OnOk r (W × S)
with_both (Ok u) W S w s = (w, s)
with_both (Err e) W S w s = tt

-- ---- the whole

pub tables_written : (index next : ℕ) (ss : List Numbered) (ns : List Placed) (k : Sessions) (ids : List ℕ) (r : Result (Unit {0}) NoMemory) (a b c : List ℕ) → k ≡ knowing next ss → ids ≡ k.ids
    → Wrote (sessions next) ss a b → OnOk r (Wrote (nodes index ids) ns b c) → OnOk r (Wrote (tables index next) (ss, ns) a c)
tables_written index next ss ns k ids (Ok u) a b c is of p q =
    let same : ids ≡ numbers_of ss = of ∙ ap (λ (j : Sessions). j.ids) is in
    tagged_written (sessions next) (λ ss. nodes index (numbers_of ss)) ss ns a b c p (subst (λ (xs : List ℕ). Wrote (nodes index xs) ns b c) same q)
tables_written index next ss ns k ids (Err e) a b c is of p q = tt

pub parts_written : (s : State) (index term next : ℕ) (r : Result (Unit {0}) NoMemory) (a b c d e f : List ℕ) → next ≡ s.next → Wrote marks mark a b → Wrote numbers index b c → Wrote numbers term c d → Wrote nexts next d e
    → OnOk r (Wrote (tables index next) (map.entries s.sessions, map.entries s.nodes) e f) → OnOk r (Wrote parts (parts_of (snapshot_at s index term)) a f)
parts_written s index term next (Ok u) a b c d e f is m i t n rest =
    let ts : List Numbered × List Placed = (map.entries s.sessions, map.entries s.nodes) in
    subst (λ (k : ℕ). Wrote parts (mark, (index, (term, (k, ts)))) a f) is
    (pair_written marks (tagged numbers (λ index. numbers ⊗ tagged nexts (tables index))) mark (index, (term, (next, ts))) a b f m
    (tagged_written numbers (λ index. numbers ⊗ tagged nexts (tables index)) index (term, (next, ts)) b c f i
    (pair_written numbers (tagged nexts (tables index)) term (next, ts) c d f t
    (tagged_written nexts (tables index) next ts d e f n rest))))
parts_written s index term next (Err z) a b c d e f is m i t n rest = tt

pub spelled_by : (s : Snapshot) (old bytes : List ℕ) → old ≡ [] → Wrote parts (parts_of s) old bytes → bytes ≡ images.spell s
spelled_by s old bytes none w = w.added ∙ ap (λ (u : List ℕ). u ++ images.spell s) none

pub is_image_of : (s : Snapshot) (old bytes : List ℕ) → old ≡ [] → Wrote parts (parts_of s) old bytes → IsImage bytes s.state.applied s.term
is_image_of s old bytes none w =
    let e = spelled_by s old bytes none w in
    let same = stands_for s bytes w.fits e in
    record { spelled = (s, w.fits, e); index_is = ap (λ (x : Snapshot). x.state.applied) same; term_is = ap (λ (x : Snapshot). x.term) same }
