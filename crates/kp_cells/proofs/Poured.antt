-- The parts behind the pouring of a node, a session and the two numbers.
use Rattle.std.proofs.Common.{◌≡◌, ℕ, ◌+◌, Bool, true, false, cond, not, ◌&&◌, ◌||◌, List, [], ◌∷◌, length, Option, Some, None, IsSome, is_some, refl, ap, sym, ◌∙◌, subst, arith}
use Rattle.std.specs.Prelude.{min, ◌==◌, if◌then◌else◌, unwrap_or, Result, Ok, Err, IfOk, OnOk, OnErr}
use Rattle.std.specs.Option.{option_map}
use Rattle.std.specs.Str.{bytes_eq}
use Rattle.std.specs.Ordering.{nat_cmp, eq_by_cmp}
use Rattle.std.specs.declared.cmp.Ordering.{Ordering}
use Rattle.std.specs.Cmp.{IsTotalOrder, nat_cmp_total}
use Rattle.std.specs.FinMap as map
use Rattle.std.specs.FinMap.{FinMap, nat_cmp-IsAntisymmetric}
use Rattle.kp_layers.specs.Overlay.{put}
use Rattle.kp_model.specs.declared.node.Acl.{Acl}
use Rattle.kp_model.specs.declared.node.Meta.{Meta}
use Rattle.kp_model.specs.declared.node.Node.{Node}
use Rattle.kp_model.specs.declared.session.Session.{Session}
use Rattle.kp_model.specs.Path.{root, parent}
use Rattle.kp_model.specs.Poured.{with_session as session_set, with_node, started}
use Rattle.kp_model.specs.State.{State, Nodes, path_cmp, is_child, children, stat, meta_at, meta_of}
use Rattle.kp_cells.specs.Mapped.{mapped, kept, chosen}
use Rattle.kp_cells.specs.Parts.{Parts, PathSet, parts_of, whole, FitTogether}
use Rattle.kp_cells.specs.Overlays.{Overlays, IsSettled, settled, settled_part, all_begun, taken_in, committed_parts, committed_state, with_meta, with_content, with_acl, with_child, with_owner, with_session}
use Rattle.kp_cells.specs.Pouring.{one_more, grown, with_shown, owner_of, with_parts}
use Rattle.kp_cells.proofs.Kids.{count-over, count-made, count-root, count-beside, const_picked}
use Rattle.kp_cells.proofs.Maps.{no, not_some, tied, picked, passing, get-mapped, get-kept, mapped-insert, mapped-at, mapped-same, chosen-insert, chosen-over}
use Rattle.kp_cells.proofs.Paths.{path_total, path_same, not_own_parent}
use Rattle.kp_cells.proofs.Settled.{next_again, state_is, settled_is}
use Rattle.kp_cells.proofs.Shown.{meta_on, children_on}

-- ---- what is shown of the children
pub kids_of_shown : (nodes : Nodes) (q : List ℕ) (m : Meta) (r : Option Node) → Some m ≡ option_map (stat nodes q) r → m.kids ≡ min (length (children nodes q)) 2147483647
unfolding stat
kids_of_shown nodes q m None e = absurd (not_some e)
kids_of_shown nodes q m (Some n) e = ap (λ (o : Option Meta). unwrap_or (option_map (λ (x : Meta). x.kids) o) 0) e

pub kids_shown : (o : Overlays) (q : List ℕ) (m : Meta) → FitTogether (committed_parts o) → map.get o.metas.base q ≡ Some m → m.kids ≡ min (length (children (committed_state o).nodes q)) 2147483647
unfolding meta_at
kids_shown o q m fits there = kids_of_shown (committed_state o).nodes q m (map.get (committed_state o).nodes q) (sym there ∙ meta_on false o q fits)

-- ---- the parts of the nodes with one more
is_no_child : (q : List ℕ) → is_child q q ≡ false
unfolding is_child
is_no_child q = cases (bytes_eq q root) refl where
  cases : (b : Bool) → bytes_eq q root ≡ b → is_child q q ≡ false
  cases true e = ap (λ b. not b && bytes_eq (parent q) q) e
  cases false e = not_own_parent q e

root_is_no_child : (p q : List ℕ) → bytes_eq q root ≡ true → is_child p q ≡ false
unfolding is_child
root_is_no_child p q e = ap (λ b. not b && bytes_eq (parent q) p) e

same_stat : (nodes nodes' : Nodes) (q : List ℕ) (n : Node) → length (children nodes' q) ≡ length (children nodes q) → stat nodes' q n ≡ stat nodes q n
unfolding stat
same_stat nodes nodes' q n e = ap (λ c. meta_of c n) e

more_stat : (nodes nodes' : Nodes) (q : List ℕ) (n : Node) → length (children nodes' q) ≡ length (children nodes q) + 1 → stat nodes' q n ≡ one_more (stat nodes q n)
unfolding stat
more_stat nodes nodes' q n e =
    let count : min (length (children nodes' q)) 2147483647 ≡ min (min (length (children nodes q)) 2147483647 + 1) 2147483647 = omega (arith, e) in
    ap (λ k. record (meta_of 0 n) { kids = k }) count

-- the parent's numbers in, where they are told
abbrev pub raised : FinMap path_cmp Meta → List ℕ → Option Meta → FinMap path_cmp Meta
raised m q None = m
raised m q (Some u) = map.insert m q u

module _ (nodes : Nodes) (path : List ℕ) (n : Node) where
  abbrev more : Nodes
  more = map.insert nodes path n

  abbrev metas : FinMap path_cmp Meta
  metas = mapped (stat nodes) nodes

  apart : (q : List ℕ) (y : Node) → map.get nodes q ≡ Some y → map.get nodes (parent path) ≡ None → eq_by_cmp path_cmp q (parent path) ≡ false
  apart q y there none = decide (eq_by_cmp path_cmp q (parent path)) refl where
    decide : (b : Bool) → eq_by_cmp path_cmp q (parent path) ≡ b → b ≡ false
    decide false e = refl
    decide true e = absurd (not_some (sym there ∙ ap (map.get nodes) (tied path_same q (parent path) e) ∙ none))

  -- the numbers of all nodes but the new one
  above : (r u : Option Node) (b : Bool) → map.get nodes path ≡ r → bytes_eq path root ≡ b → map.get nodes (parent path) ≡ u
      → mapped (stat more) nodes ≡ raised metas (parent path) (if is_some (option_map (stat nodes path) r) || b then None else option_map one_more (option_map (stat nodes (parent path)) u))
  above (Some x) u b there is up = mapped-same path_total path_same (stat nodes) (stat more) nodes (λ q y _. same_stat nodes more q y (count-over nodes path x n q there))
  above None u true free is up = mapped-same path_total path_same (stat nodes) (stat more) nodes (λ q y _. same_stat nodes more q y (count-root nodes path n q (root_is_no_child q path is)))
  above None None false free is up = mapped-same path_total path_same (stat nodes) (stat more) nodes (λ q y e. same_stat nodes more q y (count-beside nodes path n q (apart q y e up)))
  above None (Some v) false free is up =
      mapped-at path_total path_same (stat nodes) (stat more) nodes (parent path) v up (λ q e y. same_stat nodes more q y (count-beside nodes path n q e))
      ∙ ap (map.insert metas (parent path)) (more_stat nodes more (parent path) v (count-made nodes path n is free))

  grown_is : grown metas path ≡ (if is_some (option_map (stat nodes path) (map.get nodes path)) || bytes_eq path root then None else option_map one_more (option_map (stat nodes (parent path)) (map.get nodes (parent path))))
  grown_is = λ i. if is_some (get-mapped path_total path_same (stat nodes) nodes path i) || bytes_eq path root then None else option_map one_more (get-mapped path_total path_same (stat nodes) nodes (parent path) i)

  pub metas_are : map.insert (raised metas (parent path) (grown metas path)) path (meta_of (length (children nodes path)) n) ≡ mapped (stat more) more
  unfolding stat
  metas_are =
      let own : meta_of (length (children nodes path)) n ≡ stat more path n = sym (same_stat nodes more path n (count-root nodes path n path (is_no_child path))) in
      (λ i. map.insert (raised metas (parent path) (grown_is i)) path (own i))
      ∙ ap (λ z. map.insert z path (stat more path n)) (sym (above (map.get nodes path) (map.get nodes (parent path)) (bytes_eq path root) refl refl refl))
      ∙ sym (mapped-insert path_total path_same (stat more) (stat more) nodes path n (λ q e x. refl))

  contents_are : map.insert (mapped (λ _ (x : Node). x.bytes) nodes) path n.bytes ≡ mapped (λ _ (x : Node). x.bytes) more
  contents_are = sym (mapped-insert path_total path_same (λ _ (x : Node). x.bytes) (λ _ (x : Node). x.bytes) nodes path n (λ q e x. refl))

  acls_are : map.insert (mapped (λ _ (x : Node). x.acl) nodes) path n.acl ≡ mapped (λ _ (x : Node). x.acl) more
  acls_are = sym (mapped-insert path_total path_same (λ _ (x : Node). x.acl) (λ _ (x : Node). x.acl) nodes path n (λ q e x. refl))

  abbrev inner : List ℕ → Node → Bool
  inner q x = not (bytes_eq q root)

  children_are : (b : Bool) → bytes_eq path root ≡ b → (if b then chosen inner nodes else map.insert (chosen inner nodes) path (tt {0})) ≡ chosen inner more
  children_are true e = sym (chosen-over path_total path_same inner nodes path n (const_picked _ (Some n) (ap not e) ∙ sym (const_picked _ (map.get nodes path) (ap not e))))
  children_are false e = sym (chosen-insert path_total path_same inner nodes path n (ap not e))

  abbrev has : List ℕ → Node → Bool
  has q x = not (x.owner == 0)

  abbrev owner : List ℕ → Node → ℕ
  owner q x = x.owner

  one_owner : (r : Option Node) (b t : Bool) → (n.owner == 0) ≡ t → option_map (λ (x : Node). x.owner) (passing (λ (x : Node). not (x.owner == 0)) (cond b (Some n) r)) ≡ cond b (if t then None else Some n.owner) (option_map (λ (x : Node). x.owner) (passing (λ (x : Node). not (x.owner == 0)) r))
  one_owner r true true e = ap (λ z. option_map (λ (x : Node). x.owner) (cond (not z) (Some n) None)) e
  one_owner r true false e = ap (λ z. option_map (λ (x : Node). x.owner) (cond (not z) (Some n) None)) e
  one_owner r false t e = refl

  get-put : (m : FinMap path_cmp ℕ) (o : Option ℕ) (q : List ℕ) → map.get (put m path o) q ≡ cond (eq_by_cmp path_cmp q path) o (map.get m q)
  get-put m None q = map.get-remove path_total m path q
  get-put m (Some v) q = map.get-insert path_total m path v q

  get-owners : (m : Nodes) (q : List ℕ) → map.get (mapped owner (kept has m)) q ≡ option_map (λ (x : Node). x.owner) (passing (λ (x : Node). not (x.owner == 0)) (map.get m q))
  get-owners m q = get-mapped path_total path_same owner (kept has m) q ∙ ap (option_map (λ (x : Node). x.owner)) (get-kept path_total path_same has m q)

  owners_are : put (mapped owner (kept has nodes)) path (if n.owner == 0 then None else Some n.owner) ≡ mapped owner (kept has more)
  owners_are = map.same_map path_total path_same _ _ (λ q.
      get-put (mapped owner (kept has nodes)) (if n.owner == 0 then None else Some n.owner) q
      ∙ ap (cond (eq_by_cmp path_cmp q path) (if n.owner == 0 then None else Some n.owner)) (get-owners nodes q)
      ∙ sym (one_owner (map.get nodes q) (eq_by_cmp path_cmp q path) (n.owner == 0) refl)
      ∙ ap (λ r. option_map (λ (x : Node). x.owner) (passing (λ (x : Node). not (x.owner == 0)) r)) (sym (map.get-insert path_total nodes path n q))
      ∙ sym (get-owners more q))

-- ---- the writes of a node, taken in
shape : (a : ℕ) (p : Parts) (path q : List ℕ) (up : Option Meta) (m : Meta) (bytes : List ℕ) (acl : List Acl) (b : Bool) (owner : Option ℕ)
    → let o : Overlays = with_acl (with_content (with_meta (with_shown (all_begun (settled a p)) q up) path (Some m)) path (Some bytes)) path (Some acl) in
    taken_in (with_owner (if b then o else with_child o path true) path owner)
    ≡ settled a (record { metas = map.insert (raised p.metas q up) path m; contents = map.insert p.contents path bytes; acls = map.insert p.acls path acl; children = if b then p.children else map.insert p.children path (tt {0}); owners = put p.owners path owner; sessions = p.sessions; next = p.next })
shape a p path q None m bytes acl true None = refl
shape a p path q None m bytes acl true (Some w) = refl
shape a p path q None m bytes acl false None = refl
shape a p path q None m bytes acl false (Some w) = refl
shape a p path q (Some u) m bytes acl true None = refl
shape a p path q (Some u) m bytes acl true (Some w) = refl
shape a p path q (Some u) m bytes acl false None = refl
shape a p path q (Some u) m bytes acl false (Some w) = refl

node_parts : (s : State) (path : List ℕ) (n : Node) → let p : Parts = parts_of s in
    record { metas = map.insert (raised p.metas (parent path) (grown p.metas path)) path (meta_of (length (children s.nodes path)) n); contents = map.insert p.contents path n.bytes; acls = map.insert p.acls path n.acl; children = if bytes_eq path root then p.children else map.insert p.children path (tt {0}); owners = put p.owners path (if n.owner == 0 then None else Some n.owner); sessions = p.sessions; next = p.next }
    ≡ parts_of (with_node s path n)
unfolding parts_of
node_parts s path n = λ i. record {
  metas = metas_are s.nodes path n i;
  contents = contents_are s.nodes path n i;
  acls = acls_are s.nodes path n i;
  children = children_are s.nodes path n (bytes_eq path root) refl i;
  owners = owners_are s.nodes path n i;
  sessions = s.sessions;
  next = s.next;
}

-- the index of the state that cells stand for is theirs
index_is : (o : Overlays) → (committed_state o).applied ≡ o.applied
unfolding whole
index_is o = refl

-- settled cells with other parts of the same state's index
module _ (o : Overlays) (h : IsSettled o) where
  abbrev now : State
  now = committed_state o

  settled_now : o ≡ settled now.applied (parts_of now)
  settled_now = h ∙ ap (λ a. settled a (parts_of now)) (sym (index_is o))

  metas_now : o.metas.base ≡ (parts_of now).metas
  metas_now = ap (λ (x : Overlays). x.metas.base) h

  node_in : (path : List ℕ) (n : Node) → taken_in (with_parts (all_begun o) path (grown o.metas.base path) (meta_of (length (children now.nodes path)) n) n.bytes n.acl) ≡ settled (with_node now path n).applied (parts_of (with_node now path n))
  node_in path n =
      (λ i. taken_in (with_parts (all_begun (settled_now i)) path (grown (metas_now i) path) (meta_of (length (children now.nodes path)) n) n.bytes n.acl))
      ∙ shape now.applied (parts_of now) path (parent path) (grown (parts_of now).metas path) (meta_of (length (children now.nodes path)) n) n.bytes n.acl (bytes_eq path root) (owner_of (meta_of (length (children now.nodes path)) n))
      ∙ ap (settled now.applied) (node_parts now path n)

  pub node_poured : (new : Overlays) (path : List ℕ) (n : Node) → new ≡ taken_in (with_parts (all_begun o) path (grown o.metas.base path) (meta_of (length (children now.nodes path)) n) n.bytes n.acl) → committed_state new ≡ with_node now path n
  node_poured new path n e = state_is new (with_node now path n) (e ∙ node_in path n)

  pub node_settled : (new : Overlays) (path : List ℕ) (n : Node) → new ≡ taken_in (with_parts (all_begun o) path (grown o.metas.base path) (meta_of (length (children now.nodes path)) n) n.bytes n.acl) → IsSettled new
  node_settled new path n e = settled_is new (with_node now path n) (e ∙ node_in path n)

  session_in : (id : ℕ) (x : Session) → taken_in (with_session (all_begun o) id (Some x)) ≡ settled (session_set now id x).applied (parts_of (session_set now id x))
  unfolding parts_of
  session_in id x = ap (λ (z : Overlays). taken_in (with_session (all_begun z) id (Some x))) settled_now

  pub session_poured : (new : Overlays) (id : ℕ) (x : Session) → new ≡ taken_in (with_session (all_begun o) id (Some x)) → committed_state new ≡ session_set now id x
  session_poured new id x e = state_is new (session_set now id x) (e ∙ session_in id x)

  pub session_settled : (new : Overlays) (id : ℕ) (x : Session) → new ≡ taken_in (with_session (all_begun o) id (Some x)) → IsSettled new
  session_settled new id x e = settled_is new (session_set now id x) (e ∙ session_in id x)

  -- the two numbers
  one_key : (n k : ℕ) → map.insert (map.insert (map.empty {R = nat_cmp}) 0 n) 0 k ≡ map.insert map.empty 0 k
  one_key n k = map.same_map nat_cmp_total nat_cmp-IsAntisymmetric _ _ (λ q.
      map.get-insert nat_cmp_total (map.insert map.empty 0 n) 0 k q
      ∙ ap (cond (eq_by_cmp nat_cmp q 0) (Some k)) (map.get-insert nat_cmp_total map.empty 0 n q)
      ∙ twice (eq_by_cmp nat_cmp q 0) (map.get (map.empty {R = nat_cmp}) q)
      ∙ sym (map.get-insert nat_cmp_total map.empty 0 k q))
    where
      twice : (b : Bool) (r : Option ℕ) → cond b (Some k) (cond b (Some n) r) ≡ cond b (Some k) r
      twice true r = refl
      twice false r = refl

  abbrev restarted : Overlays → ℕ → ℕ → Overlays
  restarted x applied next = record x { next = record x.next { base = map.insert x.next.base 0 next }; applied = applied }

  numbers_in : (applied next : ℕ) → restarted o applied next ≡ settled (started now applied next).applied (parts_of (started now applied next))
  unfolding parts_of
  numbers_in applied next =
      ap (λ (z : Overlays). restarted z applied next) settled_now
      ∙ ap (λ (m : FinMap nat_cmp ℕ). record (settled applied (parts_of now)) { next = settled_part m }) (one_key now.next next)

  pub numbers_poured : (new : Overlays) (applied next : ℕ) → new ≡ restarted o applied next → committed_state new ≡ started now applied next
  numbers_poured new applied next e = state_is new (started now applied next) (e ∙ numbers_in applied next)

  pub numbers_settled : (new : Overlays) (applied next : ℕ) → new ≡ restarted o applied next → IsSettled new
  numbers_settled new applied next e = settled_is new (started now applied next) (e ∙ numbers_in applied next)

-- what holds where a call was Ok
pub if_poured : {A E P Q : Type 0} (r : Result A E) → (P → Q) → OnOk r P → IfOk r (λ _. Q)
if_poured (Ok x) f p = f p
if_poured (Err e) f p = tt

pub stays_settled : {A E P : Type 0} (r : Result A E) (old new : Overlays) → (P → IsSettled new) → IsSettled old → OnOk r P → OnErr r (new ≡ old) → IsSettled new
stays_settled (Ok x) old new f h p e = f p
stays_settled (Err y) old new f h p e = subst IsSettled (sym e) h

pub on_poured : {A E P Q : Type 0} (r : Result A E) → (P → Q) → OnOk r P → OnOk r Q
on_poured (Ok x) f p = f p
on_poured (Err e) f p = tt
