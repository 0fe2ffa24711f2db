-- What was found to be done is what the commands do.
use Rattle.std.proofs.Common.{◌≡◌, ℕ, ◌+◌, ◌-◌, min, Bool, true, false, not, ◌&&◌, cond, List, [], length, Option, Some, None, is_some, refl, ap, sym, subst, ◌∙◌, arith}
use Rattle.std.specs.Prelude.{ℤ, ◌==◌, nat_le, unwrap_or, if◌then◌else◌, IsTrue, IfOk, Result, Ok, Err}
use Rattle.std.specs.Ordering.{is_eq}
use Rattle.std.proofs.lemmas.Cmp.{tied_itself}
use Rattle.std.specs.FinMap as map
use Rattle.std.proofs.lemmas.List.{length-map}
use Rattle.kp_model.specs.declared.node.Acl.{Acl}
use Rattle.kp_model.specs.declared.node.Meta.{Meta}
use Rattle.kp_model.specs.declared.node.Node.{Node}
use Rattle.kp_model.specs.declared.reply.Reply.{Reply}
use Rattle.kp_model.specs.declared.reply.Reply.TheVariants as reply
use Rattle.kp_model.specs.Errors.{bad_arguments, invalid_acl}
use Rattle.kp_model.specs.Fixed.{fixed}
use Rattle.kp_model.specs.Grammar.{is_length}
use Rattle.std.specs.Str.{bytes_eq}
use Rattle.std.proofs.lemmas.Slice.Eq.{bytes_eq-Decides}
use Rattle.kp_model.specs.Path.{root, parent, name, is_well_formed}
use Rattle.kp_model.specs.Poured.{node_of}
use Rattle.kp_model.specs.State.{State, Nodes, meta_of, meta_at, stat, children, kids}
use Rattle.kp_model.specs.Step.{Outcome, unless, made, owner_of, set_acl_fails, changed, changed_reply, grown, created, shrunk, deleted, set, set_acl, synced, replies, with_child, without_child, with_data, with_acl, new_node, place_fails, version_fails, owner_fails}
use Rattle.kp_cells.specs.Parts.{parts_of}
use Rattle.kp_act.specs.declared.plan.Act.{Act}
use Rattle.kp_act.specs.declared.plan.Found.{Found}
use Rattle.kp_act.specs.declared.plan.Effect.TheVariants as effect
use Rattle.kp_act.specs.Effects.{OwnerIs, MayCreate, IsChildPath, IsFound, IsOwnerFound, IsAct, effected, answered_act, made_act, gone_act, set_act, set_acl_act, with_child_shown, without_child_shown, with_data_shown, with_acl_shown}
use Rattle.kp_act.specs.Looks.{HavePlaces}
use Rattle.kp_cells.proofs.Paths.{path_total}
use Rattle.kp_cells.proofs.Kids.{IsRooted, count-over, count_path-made}
use Rattle.kp_act.proofs.Owners.{owner_in, get-owners}
use Rattle.kp_act.proofs.Outcomes.{stat-count, parts-made, parts-gone, parts-set, parts-relisted}
use Rattle.kp_act.proofs.Seen.{meta_none, meta_some, creation_misnamed, creation_unlisted, creation_listed, list_misnamed, list_refused, list_taken}

-- an equal value has what the other has
pub if_ok : {X E : Type 0} (P : X → Type 0) (r : Result X E) (x : X) → IfOk r (λ y. y ≡ x) → P x → IfOk r P
if_ok P (Ok y) x e p = subst P (sym e) p
if_ok P (Err y) x e p = tt

rooted_in : (nodes : Nodes) → HavePlaces nodes → IsRooted nodes
rooted_in nodes places q n there apart = let h = places q n there apart in ap is_some h.1.1

-- the path of a node is well formed
pub formed : (nodes : Nodes) → HavePlaces nodes → (p : List ℕ) (n : Node) → map.get nodes p ≡ Some n → IsTrue (is_well_formed p)
unfolding is_well_formed
formed nodes places p n there = cases (bytes_eq p root) refl where
  cases : (b : Bool) → bytes_eq p root ≡ b → IsTrue (is_well_formed p)
  cases false e = (places p n there e).0
  cases true e = subst (λ q. IsTrue (is_well_formed q)) (sym ((bytes_eq-Decides p root).0 e)) refl

-- as many names as children
pub kids_counted : (nodes : Nodes) (p : List ℕ) → length (kids nodes p) ≡ length (children nodes p)
unfolding kids
kids_counted nodes p = length-map (children nodes p) name

stat_is : (nodes : Nodes) (p : List ℕ) (n : Node) → stat nodes p n ≡ meta_of (length (children nodes p)) n
stat_is nodes p n = stat-count nodes p n (length (children nodes p)) refl

-- the shown number of children of a path
pub shown_kids : (nodes : Nodes) (p : List ℕ) (m : Meta) → meta_at nodes p ≡ Some m → m.kids ≡ min (length (children nodes p)) 2147483647
shown_kids nodes p m e = let s = meta_some nodes p m (sym e) in ap (λ (x : Meta). x.kids) (s.2 ∙ stat_is nodes p s.0)

one_more : (i c : ℕ) (u : Node) → with_child_shown i (meta_of c u) ≡ meta_of (c + 1) (with_child i u)
one_more i c u =
    let same : min (min c 2147483647 + 1) 2147483647 ≡ min (c + 1) 2147483647 = omega arith in
    ap (λ k. record (meta_of (c + 1) (with_child i u)) { kids = k }) same

pub created_does : (s : State) (ids : List (List ℕ)) (i t : ℕ) (path bytes : List ℕ) (acl : List Acl) (owner : ℕ) (with_stat : Bool) (up : Meta) → IsTrue (is_length (length bytes)) → HavePlaces s.nodes → MayCreate s.nodes ids path up → IsAct path s (unless (place_fails s.nodes ids path) s (created s i t path bytes acl owner with_stat)) (made_act i t path bytes acl owner with_stat up)
unfolding created grown
created_does s ids i t path bytes acl owner with_stat up fits places h =
    let p = meta_some s.nodes (parent path) up (sym h.parent) in
    let free : map.get s.nodes path ≡ None = meta_none s.nodes path (sym h.free) in
    let rooted : IsRooted s.nodes = rooted_in s.nodes places in
    let w : Node = new_node i t bytes acl owner in
    let v : Node = with_child i p.0 in
    let grow : map.insert (changed (with_child i) (parent path) (map.get s.nodes (parent path)) s.nodes) path w ≡ map.insert (map.insert s.nodes (parent path) v) path w = ap (λ o. map.insert (changed (with_child i) (parent path) o s.nodes) path w) p.1 in
    let shown : with_child_shown i up ≡ meta_of (length (children s.nodes (parent path)) + 1) v = ap (with_child_shown i) (p.2 ∙ stat_is s.nodes (parent path) p.0) ∙ one_more i (length (children s.nodes (parent path))) p.0 in
    let stat_new : stat (map.insert (changed (with_child i) (parent path) (map.get s.nodes (parent path)) s.nodes) path w) path w ≡ meta_of 0 w =
    ap (λ z. stat z path w) grow ∙ stat-count (map.insert (map.insert s.nodes (parent path) v) path w) path w 0 (count_path-made s.nodes path p.0 v w p.1 h.child.1 rooted free) in
    subst (λ f. IsAct path s (unless f s (created s i t path bytes acl owner with_stat)) (made_act i t path bytes acl owner with_stat up)) (sym h.passes) (record {
      reply = ap (λ m. if with_stat then reply.PathStat path m else reply.Path path) (sym stat_new);
      events = refl;
      parts = ap (λ m. effected (parts_of s) (effect.Make path bytes acl (meta_of 0 w) m)) shown
          ∙ sym (parts-made s path p.0 v p.1 h.child.1 refl refl refl w rooted free)
          ∙ sym (ap (λ z. parts_of (record s { nodes = z })) grow);
      nodes = ap (λ o. map.insert (changed (λ (n : Node). node_of n.bytes n.acl (with_child_shown i up)) (parent path) o s.nodes) path w) p.1
          ∙ ap (λ m. map.insert (map.insert s.nodes (parent path) (node_of p.0.bytes p.0.acl m)) path w) shown
          ∙ sym grow;
      on = (refl, record { child = h.child; above = formed s.nodes places (parent path) p.0 p.1 });
      suits = (free, ap is_some p.1);
      owner = tt;
      fits = fits;
    })

-- where no check fails, the outcome is that of the command
pub unless_none : (path : List ℕ) (s : State) (f : Option ℤ) (o : Outcome) (a : Act) → f ≡ None → IsAct path s o a → IsAct path s (unless f s o) a
unless_none path s f o a e h = subst (λ f. IsAct path s (unless f s o) a) (sym e) h

-- what a fact about a value leads to
pub if_ok_then : {X E : Type 0} (P Q : X → Type 0) (r : Result X E) → IfOk r P → ((x : X) → P x → Q x) → IfOk r Q
if_ok_then P Q (Ok x) h f = f x h
if_ok_then P Q (Err e) h f = tt

-- the owner that is told is the one that is there
pub owner_told : (s : State) (path : List ℕ) (n : Node) (owner : ℕ) → map.get s.nodes path ≡ Some n → owner ≡ n.owner → OwnerIs (parts_of s).owners owner path
unfolding parts_of
owner_told s path n owner there is apart =
    get-owners s.nodes path
    ∙ ap owner_in there
    ∙ ap (λ o. cond (not (o == 0)) (Some o) None) (sym is)
    ∙ ap (λ b. cond (not b) (Some owner) None) apart

pub deleted_does : (s : State) (i : ℕ) (path : List ℕ) (found : Found) (left : ℕ) → HavePlaces s.nodes → meta_at s.nodes (parent path) ≡ Some found.up → meta_at s.nodes path ≡ Some found.meta → IsChildPath path → left ≡ min (length (children s.nodes (parent path)) - 1) 2147483647 → IsAct path s (deleted s i path) (gone_act i path found left)
unfolding deleted shrunk
deleted_does s i path found left places above there child is_left =
    let p = meta_some s.nodes (parent path) found.up (sym above) in
    let q = meta_some s.nodes path found.meta (sym there) in
    let v : Node = without_child i p.0 in
    let shrink : map.remove (changed (without_child i) (parent path) (map.get s.nodes (parent path)) s.nodes) path ≡ map.remove (map.insert s.nodes (parent path) v) path = ap (λ o. map.remove (changed (without_child i) (parent path) o s.nodes) path) p.1 in
    let c : ℕ = length (children s.nodes (parent path)) in
    let shown : without_child_shown i left found.up ≡ meta_of (c - 1) v = ap (without_child_shown i left) (p.2 ∙ stat_is s.nodes (parent path) p.0) ∙ ap (λ k. without_child_shown i k (meta_of c p.0)) is_left in
    let owner : found.meta.owner ≡ q.0.owner = ap (λ (m : Meta). m.owner) (q.2 ∙ stat_is s.nodes path q.0) in
    record {
      reply = refl;
      events = refl;
      parts = ap (λ m. effected (parts_of s) (effect.Remove path m found.meta.owner)) shown
          ∙ ap (λ o. effected (parts_of s) (effect.Remove path (meta_of (c - 1) v) o)) owner
          ∙ sym (parts-gone s path p.0 v p.1 child.1 refl refl refl q.0 q.1)
          ∙ sym (ap (λ z. parts_of (record s { nodes = z })) shrink);
      nodes = ap (λ o. map.remove (changed (λ (n : Node). node_of n.bytes n.acl (without_child_shown i left found.up)) (parent path) o s.nodes) path) p.1
          ∙ ap (λ m. map.remove (map.insert s.nodes (parent path) (node_of p.0.bytes p.0.acl m)) path) shown
          ∙ sym shrink;
      on = (refl, record { child = child; above = formed s.nodes places (parent path) p.0 p.1 });
      suits = (ap is_some q.1, ap is_some p.1);
      owner = owner_told s path q.0 found.meta.owner q.1 owner;
      fits = tt;
    }

got : (nodes : Nodes) (path : List ℕ) (v : Node) → map.get (map.insert nodes path v) path ≡ Some v
got nodes path v = map.get-insert path_total nodes path v path ∙ ap (λ b. cond b (Some v) (map.get nodes path)) (ap is_eq (tied_itself path_total path))

pub set_does : (s : State) (ids : List (List ℕ)) (perm i t : ℕ) (path bytes : List ℕ) (version : ℕ) (m : Meta) → IsTrue (is_length (length bytes)) → IsFound s.nodes ids perm path version m → IsAct path s (unless (version_fails s.nodes ids perm path version) s (set s i t path bytes)) (set_act i t path bytes m)
unfolding set
set_does s ids perm i t path bytes version m fits h =
    let p = meta_some s.nodes path m (sym h.there) in
    let v : Node = with_data i t bytes p.0 in
    let c : ℕ = length (children s.nodes path) in
    let now : changed (with_data i t bytes) path (map.get s.nodes path) s.nodes ≡ map.insert s.nodes path v = ap (λ o. changed (with_data i t bytes) path o s.nodes) p.1 in
    let shown : with_data_shown i t bytes m ≡ meta_of c v = ap (with_data_shown i t bytes) (p.2 ∙ stat_is s.nodes path p.0) in
    let stat_now : stat (map.insert s.nodes path v) path v ≡ meta_of c v = stat-count (map.insert s.nodes path v) path v c (count-over s.nodes path p.0 v path p.1) in
    subst (λ f. IsAct path s (unless f s (set s i t path bytes)) (set_act i t path bytes m)) (sym h.passes) (record {
      reply = ap reply.Stat (shown ∙ sym stat_now)
          ∙ ap (changed_reply (map.insert s.nodes path v) path) (sym (got s.nodes path v))
          ∙ sym (ap (λ z. changed_reply z path (map.get z path)) now);
      events = refl;
      parts = ap (λ x. effected (parts_of s) (effect.Set path bytes x)) shown
          ∙ sym (parts-set s path p.0 v p.1 refl refl)
          ∙ sym (ap (λ z. parts_of (record s { nodes = z })) now);
      nodes = ap (λ o. changed (λ (n : Node). node_of bytes n.acl (with_data_shown i t bytes m)) path o s.nodes) p.1
          ∙ ap (λ x. map.insert s.nodes path (node_of bytes p.0.acl x)) shown
          ∙ sym now;
      on = (refl, h.well_formed);
      suits = ap is_some p.1;
      owner = tt;
      fits = fits;
    })

pub set_acl_does : (s : State) (ids : List (List ℕ)) (path : List ℕ) (acl : List Acl) (version : ℕ) (m : Meta) → IsTrue (is_well_formed path) → IsOwnerFound s.nodes ids path version m → IsAct path s (unless (owner_fails ids version (map.get s.nodes path)) s (set_acl s path acl)) (set_acl_act path acl m)
unfolding set_acl
set_acl_does s ids path acl version m is_path h =
    let p = meta_some s.nodes path m (sym h.there) in
    let v : Node = with_acl acl p.0 in
    let c : ℕ = length (children s.nodes path) in
    let now : changed (with_acl acl) path (map.get s.nodes path) s.nodes ≡ map.insert s.nodes path v = ap (λ o. changed (with_acl acl) path o s.nodes) p.1 in
    let shown : with_acl_shown m ≡ meta_of c v = ap with_acl_shown (p.2 ∙ stat_is s.nodes path p.0) in
    let stat_now : stat (map.insert s.nodes path v) path v ≡ meta_of c v = stat-count (map.insert s.nodes path v) path v c (count-over s.nodes path p.0 v path p.1) in
    subst (λ f. IsAct path s (unless f s (set_acl s path acl)) (set_acl_act path acl m)) (sym h.passes) (record {
      reply = ap reply.Stat (shown ∙ sym stat_now)
          ∙ ap (changed_reply (map.insert s.nodes path v) path) (sym (got s.nodes path v))
          ∙ sym (ap (λ z. changed_reply z path (map.get z path)) now);
      events = refl;
      parts = ap (λ x. effected (parts_of s) (effect.SetAcl path acl x)) shown
          ∙ sym (parts-relisted s path p.0 v p.1 refl refl)
          ∙ sym (ap (λ z. parts_of (record s { nodes = z })) now);
      nodes = ap (λ o. changed (λ (n : Node). node_of n.bytes acl (with_acl_shown m)) path o s.nodes) p.1
          ∙ ap (λ x. map.insert s.nodes path (node_of p.0.bytes acl x)) shown
          ∙ sym now;
      on = (refl, is_path);
      suits = ap is_some p.1;
      owner = tt;
      fits = tt;
    })

-- an answer alone
pub answers : (path : List ℕ) (s : State) (r : Reply) → IsAct path s (replies s r) (answered_act r)
answers path s r = record { reply = refl; events = refl; parts = refl; nodes = refl; on = tt; suits = tt; owner = tt; fits = tt }

-- a check that fails
pub refused : (path : List ℕ) (s : State) (o : Outcome) (f : Option ℤ) (e : ℤ) → f ≡ Some e → IsAct path s (unless f s o) (answered_act (reply.Err e))
refused path s o f e is = subst (λ f. IsAct path s (unless f s o) (answered_act (reply.Err e))) (sym is) (answers path s (reply.Err e))

-- the same checks with the same outcome
pub unless_same : (path : List ℕ) (s : State) (f g : Option ℤ) (o p : Outcome) (a : Act) → f ≡ g → o ≡ p → IsAct path s (unless g s p) a → IsAct path s (unless f s o) a
unless_same path s f g o p a same is h = subst (λ z. IsAct path s z a) (sym (λ i. unless (same i) s (is i))) h

pub synced_there : (path : List ℕ) (s : State) → is_well_formed path ≡ true → IsAct path s (synced s path) (answered_act (reply.Path path))
synced_there path s h = subst (λ b. IsAct path s (if b then replies s (reply.Path path) else replies s (reply.Err bad_arguments)) (answered_act (reply.Path path))) (sym h) (answers path s (reply.Path path))

pub synced_none : (path : List ℕ) (s : State) → is_well_formed path ≡ false → IsAct path s (synced s path) (answered_act (reply.Err bad_arguments))
synced_none path s h = subst (λ b. IsAct path s (if b then replies s (reply.Path path) else replies s (reply.Err bad_arguments)) (answered_act (reply.Err bad_arguments))) (sym h) (answers path s (reply.Err bad_arguments))

module _ (s : State) (session : ℕ) (ids : List (List ℕ)) (i t : ℕ) (path bytes : List ℕ) (acl : List Acl) (flags : ℕ) (with_stat : Bool) where
  -- a creation without a path or flags that there are
  pub made_misnamed : (is_well_formed path && nat_le flags 3) ≡ false → IsAct path s (made s session ids i t path bytes acl flags with_stat) (answered_act (reply.Err bad_arguments))
  made_misnamed h = refused path s _ _ bad_arguments (creation_misnamed s.nodes ids path acl flags h)

  -- one with a list that is refused
  pub made_unlisted : (is_well_formed path && nat_le flags 3) ≡ true → None ≡ fixed ids acl → IsAct path s (made s session ids i t path bytes acl flags with_stat) (answered_act (reply.Err invalid_acl))
  made_unlisted h none = refused path s _ _ invalid_acl (creation_unlisted s.nodes ids path acl flags h none)

  -- and one with a list that is kept so
  pub made_listed : (kept : List Acl) (a : Act) → (is_well_formed path && nat_le flags 3) ≡ true → Some kept ≡ fixed ids acl → IsAct path s (unless (place_fails s.nodes ids path) s (created s i t path bytes kept (owner_of session flags) with_stat)) a → IsAct path s (made s session ids i t path bytes acl flags with_stat) a
  made_listed kept a h is act = unless_same path s _ _ _ _ a (creation_listed s.nodes ids path acl flags kept h is) (ap (λ o. created s i t path bytes (unwrap_or o []) (owner_of session flags) with_stat) (sym is)) act

module _ (s : State) (ids : List (List ℕ)) (path : List ℕ) (acl : List Acl) (version : ℕ) where
  -- setting a list at what is no path
  pub relisted_misnamed : is_well_formed path ≡ false → IsAct path s (unless (set_acl_fails s.nodes ids path acl version) s (set_acl s path (unwrap_or (fixed ids acl) []))) (answered_act (reply.Err bad_arguments))
  relisted_misnamed h = refused path s _ _ bad_arguments (list_misnamed s.nodes ids path acl version h)

  -- setting a list that is refused
  pub relisted_unlisted : is_well_formed path ≡ true → None ≡ fixed ids acl → IsAct path s (unless (set_acl_fails s.nodes ids path acl version) s (set_acl s path (unwrap_or (fixed ids acl) []))) (answered_act (reply.Err invalid_acl))
  relisted_unlisted h none = refused path s _ _ invalid_acl (list_refused s.nodes ids path acl version h none)

  -- and one that is kept so
  pub relisted_listed : (kept : List Acl) (a : Act) → is_well_formed path ≡ true → Some kept ≡ fixed ids acl → IsAct path s (unless (owner_fails ids version (map.get s.nodes path)) s (set_acl s path kept)) a → IsAct path s (unless (set_acl_fails s.nodes ids path acl version) s (set_acl s path (unwrap_or (fixed ids acl) []))) a
  relisted_listed kept a h is act = unless_same path s _ _ _ _ a (list_taken s.nodes ids path acl version kept h is) (ap (λ o. set_acl s path (unwrap_or o [])) (sym is)) act

-- an equal value is the same as one that is equal to it
pub if_same : {X E : Type 0} (r : Result X E) (x y : X) → x ≡ y → IfOk r (λ v. v ≡ x) → IfOk r (λ v. v ≡ y)
if_same (Ok v) x y e h = h ∙ e
if_same (Err f) x y e h = tt
