-- Commands on nodes keep a good state good.
use Rattle.std.proofs.Common.{◌≡◌, ℕ, ◌+◌, ◌==◌, Bool, true, false, not, cond, length, List, [], Option, Some, None, is_some, IsTrue, IsSome, refl, sym, ap, subst, ◌∙◌, true≢false, zero-le, arith, leb-false, eqb-true}
use Rattle.std.specs.Prelude.{ℤ, nat_le, unwrap_or}
use Rattle.std.specs.List.{list_all}
use Rattle.std.specs.Str.{bytes_eq}
use Rattle.std.specs.Cmp.Lexicographic.{nat_list_cmp_total}
use Rattle.std.specs.FinMap as map
use Rattle.kp_model.specs.declared.node.Acl.{Acl}
use Rattle.kp_model.specs.declared.node.Node.{Node}
use Rattle.kp_model.specs.declared.command.Op.{Op}
use Rattle.kp_model.specs.declared.command.Op.TheVariants as op
use Rattle.kp_model.specs.Errors.{bad_arguments, no_auth, bad_version, node_exists, not_empty}
use Rattle.kp_model.specs.Grammar.{is_number, is_text, fits_op}
use Rattle.kp_model.specs.Path.{root, parent, is_well_formed}
use Rattle.kp_model.specs.State.{State, Nodes, Sessions, children, is_child}
use Rattle.kp_model.specs.Fixed.{fixed}
use Rattle.kp_model.specs.Step.{Outcome, unless, rises, is_ephemeral, owner_of, new_node, with_child, without_child, with_data, with_acl, changed, parent_fails, place_fails, list_fails, create_fails, made_path, grown, created, is_version, may_delete, removal_fails, delete_fails, shrunk, deleted, set, set_acl, act_on}
use Rattle.kp_model.specs.Good.{has_perms, IsCount, IsPersistent, HasParent, HasNumbers, IsGood}
use Rattle.kp_model.proofs.Maps.{Finds, Each, same_value, no_value, get_inserted, each_inserted}
use Rattle.kp_model.proofs.GoodLists.{both, fixed_within}
use Rattle.kp_model.proofs.GoodParts.{path_cmp-IsAntisymmetric, node_set_good, HasNoChild, no_child, node_removed_good}

-- ---- checks that all passed

passes : (b : Bool) (x : ℤ) (o : Option ℤ) → cond b (Some x) o ≡ None → (b ≡ false) × (o ≡ None)
passes true x o e = absurd (no_value x e)
passes false x o e = (refl, e)

last_passes : (b : Bool) (x : ℤ) → cond b None (Some x) ≡ None → b ≡ true
last_passes true x e = refl
last_passes false x e = absurd (no_value x e)

holds : (b : Bool) → not b ≡ false → b ≡ true
holds true e = refl
holds false e = absurd (true≢false e)

-- where a command fails, the state stays, and else it is the outcome's
pub unless_good : (e : Option ℤ) (s : State) (o : Outcome) → IsGood s → (e ≡ None → IsGood o.state) → IsGood (unless e s o).state
unless_good None s o good done = done refl
unless_good (Some e) s o good done = good

-- ---- numbers of nodes

rises_by : (b : Bool) (n : ℕ) → nat_le 2147483647 n ≡ b → IsCount (cond b 0 (n + 1))
rises_by true n e = zero-le
rises_by false n e = omega (arith, leb-false 2147483647 n e)

rises_count : (n : ℕ) → IsCount (rises n)
rises_count n = rises_by _ n refl

with_child_numbers : (i : ℕ) (n : Node) → HasNumbers i n → HasNumbers i (with_child i n)
with_child_numbers i n h = record {
  czxid = h.czxid;
  mzxid = h.mzxid;
  pzxid = omega arith;
  ctime = h.ctime;
  mtime = h.mtime;
  version = h.version;
  cversion = rises_count n.cversion;
  aversion = h.aversion;
  created = rises_count n.created;
  bytes = h.bytes;
  perms = h.perms;
}

without_child_numbers : (i : ℕ) (n : Node) → HasNumbers i n → HasNumbers i (without_child i n)
without_child_numbers i n h = record {
  czxid = h.czxid;
  mzxid = h.mzxid;
  pzxid = omega arith;
  ctime = h.ctime;
  mtime = h.mtime;
  version = h.version;
  cversion = rises_count n.cversion;
  aversion = h.aversion;
  created = h.created;
  bytes = h.bytes;
  perms = h.perms;
}

with_data_numbers : (i t : ℕ) (bytes : List ℕ) → IsTrue (is_number t) → IsTrue (is_text bytes)
    → (n : Node) → HasNumbers i n → HasNumbers i (with_data i t bytes n)
with_data_numbers i t bytes time fits n h = record {
  czxid = h.czxid;
  mzxid = omega arith;
  pzxid = h.pzxid;
  ctime = h.ctime;
  mtime = time;
  version = rises_count n.version;
  cversion = h.cversion;
  aversion = h.aversion;
  created = h.created;
  bytes = fits;
  perms = h.perms;
}

with_acl_numbers : (i : ℕ) (acl : List Acl) → IsTrue (list_all has_perms acl) → (n : Node) → HasNumbers i n → HasNumbers i (with_acl acl n)
with_acl_numbers i acl within n h = record {
  czxid = h.czxid;
  mzxid = h.mzxid;
  pzxid = h.pzxid;
  ctime = h.ctime;
  mtime = h.mtime;
  version = h.version;
  cversion = h.cversion;
  aversion = rises_count n.aversion;
  created = h.created;
  bytes = h.bytes;
  perms = within;
}

new_numbers : (i t : ℕ) (bytes : List ℕ) (acl : List Acl) (owner : ℕ) → IsTrue (is_number t) → IsTrue (is_text bytes) → IsTrue (list_all has_perms acl) → HasNumbers i (new_node i t bytes acl owner)
new_numbers i t bytes acl owner time fits within = record {
  czxid = omega arith;
  mzxid = omega arith;
  pzxid = omega arith;
  ctime = time;
  mtime = time;
  version = zero-le;
  cversion = zero-le;
  aversion = zero-le;
  created = zero-le;
  bytes = fits;
  perms = within;
}

-- ---- a node is changed that keeps its owner

changed_good : (s : State) (f : Node → Node) (p : List ℕ) (o : Option Node) → map.get s.nodes p ≡ o
    → ((n : Node) → (f n).owner ≡ n.owner) → ((n : Node) → HasNumbers s.applied n → HasNumbers s.applied (f n))
    → IsGood s → IsGood (record s { nodes = changed f p o s.nodes })
changed_good s f p None found owner numbers good = good
changed_good s f p (Some n) found owner numbers good = node_set_good s p (f n)
    (λ x there h. owner n ∙ subst IsPersistent (same_value x n (sym there ∙ found)) h)
    (good.places p n found)
    (subst (λ o. (o == 0) ≡ false → IsSome (map.get s.sessions o)) (sym (owner n)) (good.owners p n found))
    (numbers n (good.numbers p n found)) good

-- ---- Create

absent : (o : Option Node) → is_some o ≡ false → o ≡ None
absent None e = refl
absent (Some n) e = absurd (true≢false e)

-- what a creation that doesn't fail knows
pub record MayCreate (nodes : Nodes) (path : List ℕ) : Type 0 where
  pub formed : IsTrue (is_well_formed path)
  pub parent_there : HasParent nodes path
  pub absent : map.get nodes path ≡ None

place_passes : (ids : List (List ℕ)) (up there : Option Node) → parent_fails ids up there ≡ None → ((u : Node) × (up ≡ Some u) × IsPersistent u) × (there ≡ None)
place_passes ids None there e = absurd (no_value _ e)
place_passes ids (Some u) there e =
    let allowed = passes _ _ _ e in
    let persistent = passes _ _ _ allowed.1 in
    let free = passes (is_some there) node_exists None persistent.1 in
    ((u, refl, eqb-true u.owner 0 (holds _ persistent.0)), absent there free.0)

list_passes : (o : Option (List Acl)) (next : Option ℤ) → list_fails o next ≡ None → next ≡ None
list_passes None next e = absurd (no_value _ e)
list_passes (Some kept) next e = e

pub creation_facts : (nodes : Nodes) (ids : List (List ℕ)) (path : List ℕ) (flags : ℕ) (acl : List Acl) → create_fails nodes ids path flags acl ≡ None → MayCreate nodes path
unfolding create_fails
creation_facts nodes ids path flags acl e =
    let formed = passes _ _ _ e in
    let flagged = passes (not (nat_le flags 3)) bad_arguments _ formed.1 in
    let deep = passes (bytes_eq path root) node_exists _ (list_passes (fixed ids acl) (place_fails nodes ids path) flagged.1) in
    let place = place_passes ids (map.get nodes (parent path)) (map.get nodes path) deep.1 in
    record { formed = holds _ formed.0; parent_there = place.0; absent = place.1 }

pub parent_stays : (i : ℕ) (p : List ℕ) (nodes : Nodes) (o : Option Node) (u : Node) → o ≡ Some u → IsPersistent u → Finds IsPersistent (changed (with_child i) p o nodes) p
parent_stays i p nodes None u there h = absurd (no_value u (sym there))
parent_stays i p nodes (Some n) u there h =
    (with_child i n, get_inserted nat_list_cmp_total path_cmp-IsAntisymmetric nodes p (with_child i n), subst IsPersistent (same_value u n (sym there)) h)

-- a changed node has the path that it had, so nothing is found at a path that was free
pub free_changed : (f : Node → Node) (p k : List ℕ) (nodes : Nodes) (o : Option Node) → map.get nodes p ≡ o → map.get nodes k ≡ None → Each (λ q _. q ≡ k → ⊥) (changed f p o nodes)
free_changed f p k nodes None found free = λ q x there e. no_value x (sym there ∙ ap (map.get nodes) e ∙ free)
free_changed f p k nodes (Some n) found free =
    each_inserted nat_list_cmp_total path_cmp-IsAntisymmetric (λ q _. q ≡ k → ⊥) nodes p (f n) (λ e. no_value n (sym found ∙ ap (map.get nodes) e ∙ free))
    (λ q x there e. no_value x (sym there ∙ ap (map.get nodes) e ∙ free))

-- the owner of a new node is the session that makes it, which lives, or 0
owner_lives : (m : Sessions) (session : ℕ) (b : Bool) → IsSome (map.get m session) → (cond b session 0 == 0) ≡ false → IsSome (map.get m (cond b session 0))
owner_lives m session true lives owned = lives
owner_lives m session false lives owned = absurd (true≢false owned)

created_good : (s : State) (t : ℕ) (path bytes : List ℕ) (acl : List Acl) (session flags : ℕ) (with_stat : Bool)
    → IsTrue (is_number t) → IsTrue (is_text bytes) → IsTrue (list_all has_perms acl) → IsSome (map.get s.sessions session) → MayCreate s.nodes path
    → IsGood s → IsGood (created s s.applied t path bytes acl (owner_of session flags) with_stat).state
unfolding created grown
created_good s t path bytes acl session flags with_stat time fits within lives may good =
    node_set_good (record s { nodes = changed (with_child s.applied) (parent path) (map.get s.nodes (parent path)) s.nodes }) path (new_node s.applied t bytes acl (owner_of session flags))
    (λ x there _. absurd (free_changed (with_child s.applied) (parent path) path s.nodes _ refl may.absent path x there refl))
    (λ _. (may.formed, parent_stays s.applied (parent path) s.nodes _ may.parent_there.0 may.parent_there.1 may.parent_there.2))
    (owner_lives s.sessions session (is_ephemeral flags) lives)
    (new_numbers s.applied t bytes acl (owner_of session flags) time fits within)
    (changed_good s (with_child s.applied) (parent path) _ refl (λ _. refl) (with_child_numbers s.applied) good)

-- ---- Delete

childless : (nodes : Nodes) (ids : List (List ℕ)) (path : List ℕ) (version : ℕ) (o : Option Node) → removal_fails nodes ids path version o ≡ None → length (children nodes path) ≡ 0
childless nodes ids path version None e = absurd (no_value _ e)
childless nodes ids path version (Some n) e =
    let allowed = passes (not (may_delete (map.get nodes (parent path)) ids)) no_auth _ e in
    let matches = passes (not (is_version version n.version)) bad_version _ allowed.1 in
    eqb-true _ 0 (last_passes _ not_empty matches.1)

-- what a removal that doesn't fail knows
pub record MayDelete (nodes : Nodes) (path : List ℕ) : Type 0 where
  pub deep : bytes_eq path root ≡ false
  pub childless : HasNoChild nodes path

pub deletion_facts : (nodes : Nodes) (ids : List (List ℕ)) (path : List ℕ) (version : ℕ) → delete_fails nodes ids path version ≡ None → MayDelete nodes path
unfolding delete_fails
deletion_facts nodes ids path version e =
    let formed = passes _ _ _ e in
    let deep = passes _ _ _ formed.1 in
    record { deep = deep.0; childless = no_child nodes path (childless nodes ids path version _ deep.1) }

-- a changed node has the path that it had, so no path has a child more
pub childless_changed : (f : Node → Node) (p k : List ℕ) (nodes : Nodes) (o : Option Node) → map.get nodes p ≡ o → HasNoChild nodes k → HasNoChild (changed f p o nodes) k
childless_changed f p k nodes None found none = none
childless_changed f p k nodes (Some n) found none =
    each_inserted nat_list_cmp_total path_cmp-IsAntisymmetric (λ q _. is_child k q ≡ false) nodes p (f n) (none p n found) none

pub shrunk_good : (s : State) (path : List ℕ) → bytes_eq path root ≡ false → HasNoChild s.nodes path → IsGood s → IsGood (record s { nodes = shrunk s.nodes s.applied path })
unfolding shrunk
shrunk_good s path deep none good =
    node_removed_good (record s { nodes = changed (without_child s.applied) (parent path) (map.get s.nodes (parent path)) s.nodes }) path deep
    (childless_changed (without_child s.applied) (parent path) path s.nodes _ refl none)
    (changed_good s (without_child s.applied) (parent path) _ refl (λ _. refl) (without_child_numbers s.applied) good)

deleted_good : (s : State) (path : List ℕ) → MayDelete s.nodes path → IsGood s → IsGood (deleted s s.applied path).state
unfolding deleted
deleted_good s path may good = shrunk_good s path may.deep may.childless good

-- ---- SetData

set_good : (s : State) (t : ℕ) (path bytes : List ℕ) → IsTrue (is_number t) → IsTrue (is_text bytes) → IsGood s → IsGood (set s s.applied t path bytes).state
unfolding set
set_good s t path bytes time fits good = changed_good s (with_data s.applied t bytes) path _ refl (λ _. refl) (with_data_numbers s.applied t bytes time fits) good

-- ---- SetAcl

pub set_acl_good : (s : State) (path : List ℕ) (acl : List Acl) → IsTrue (list_all has_perms acl) → IsGood s → IsGood (set_acl s path acl).state
unfolding set_acl
set_acl_good s path acl within good = changed_good s (with_acl acl) path _ refl (λ _. refl) (with_acl_numbers s.applied acl within) good

-- ---- operations

-- an operation of a live session keeps a good state good
pub act_on_good : (s : State) (session : ℕ) (ids : List (List ℕ)) (t : ℕ) (o : Op) → IsTrue (is_number t) → IsTrue (fits_op o) → IsSome (map.get s.sessions session)
    → IsGood s → IsGood (act_on s session ids s.applied t o).state
act_on_good s session ids t (op.Create path bytes acl flags with_stat) time fits lives good =
    let parts = both (is_text path) _ fits in
    let rest = both (is_text bytes) _ parts.1 in
    unless_good _ s _ good (λ e. created_good s t (made_path s.nodes path flags) bytes (unwrap_or (fixed ids acl) []) session flags with_stat time rest.0 (fixed_within ids acl) lives
    (creation_facts s.nodes ids (made_path s.nodes path flags) flags acl e) good)
act_on_good s session ids t (op.Delete path version) time fits lives good = unless_good _ s _ good (λ e. deleted_good s path (deletion_facts s.nodes ids path version e) good)
act_on_good s session ids t (op.SetData path bytes version) time fits lives good =
    unless_good _ s _ good (λ _. set_good s t path bytes time (both (is_text path) _ fits).1 good)
act_on_good s session ids t (op.Check path version) time fits lives good = unless_good _ s _ good (λ _. good)
