-- What the checks of the commands come to, from what a view lends.
use Rattle.std.proofs.Common.{◌≡◌, ℕ, Bool, true, false, not, ◌&&◌, List, length, min, Option, Some, None, is_some, refl, ap, sym, ◌∙◌, arith}
use Rattle.std.specs.Prelude.{ℤ, ◌==◌, nat_le, unwrap_or, if◌then◌else◌}
use Rattle.std.specs.Option.{option_map, option_map_or}
use Rattle.std.specs.Str.{bytes_eq}
use Rattle.std.specs.FinMap as map
use Rattle.std.proofs.lemmas.Bool.Decides.{Decides-eqb}
use Rattle.kp_model.specs.declared.node.Acl.{Acl}
use Rattle.kp_model.specs.declared.node.Meta.{Meta}
use Rattle.kp_model.specs.declared.node.Node.{Node}
use Rattle.kp_model.specs.Errors.{bad_arguments, invalid_acl, no_auth, no_node, bad_version, not_empty, no_children_for_ephemerals, node_exists}
use Rattle.kp_model.specs.Fixed.{fixed}
use Rattle.kp_model.specs.Path.{root, parent, is_well_formed}
use Rattle.kp_model.specs.Rights.{is_allowed}
use Rattle.kp_model.specs.State.{Nodes, stat, meta_at, acl_at, children}
use Rattle.kp_model.specs.Step.{is_version, ever_had, parent_fails, list_fails, place_fails, create_fails, owner_fails, set_acl_fails, removal_fails, delete_fails, node_fails, version_fails}
use Rattle.kp_cells.proofs.Maps.{no, not_some}
use Rattle.kp_act.specs.Effects.{IsChildPath}
use Rattle.kp_act.specs.Looks.{has_right, room_fails, leave_fails, change_fails}

pub absent : {X : Type 0} (f : Node → X) (o : Option Node) → None ≡ option_map f o → o ≡ None
absent f None e = refl
absent f (Some n) e = absurd (not_some (sym e))

pub present : {X : Type 0} (f : Node → X) (o : Option Node) (x : X) → Some x ≡ option_map f o → (n : Node) × (o ≡ Some n) × (x ≡ f n)
present f None x e = absurd (not_some e)
present f (Some n) x e = (n, refl, ap (λ o. unwrap_or o x) e)

-- no numbers are lent where there is no node
pub meta_none : (nodes : Nodes) (p : List ℕ) → None ≡ meta_at nodes p → map.get nodes p ≡ None
unfolding meta_at
meta_none nodes p e = absent (stat nodes p) (map.get nodes p) e

-- the numbers that are lent are those of a node
pub meta_some : (nodes : Nodes) (p : List ℕ) (m : Meta) → Some m ≡ meta_at nodes p → (n : Node) × (map.get nodes p ≡ Some n) × (m ≡ stat nodes p n)
unfolding meta_at
meta_some nodes p m e = present (stat nodes p) (map.get nodes p) m e

-- the numbers of a node are lent
pub meta_there : (nodes : Nodes) (p : List ℕ) (n : Node) → map.get nodes p ≡ Some n → meta_at nodes p ≡ Some (stat nodes p n)
unfolding meta_at
meta_there nodes p n e = ap (option_map (stat nodes p)) e

pub meta_absent : (nodes : Nodes) (p : List ℕ) → is_some (map.get nodes p) ≡ false → meta_at nodes p ≡ None
unfolding meta_at
meta_absent nodes p e = cases (map.get nodes p) e where
  cases : (o : Option Node) → is_some o ≡ false → option_map (stat nodes p) o ≡ None
  cases None e = refl
  cases (Some n) e = no true e refl

-- how many children a node ever had, from the numbers that are lent
pub none_made : (nodes : Nodes) (p : List ℕ) → None ≡ meta_at nodes p → 0 ≡ ever_had (map.get nodes p)
none_made nodes p e = sym (ap ever_had (meta_none nodes p e))

pub some_made : (nodes : Nodes) (p : List ℕ) (m : Meta) → Some m ≡ meta_at nodes p → m.created ≡ ever_had (map.get nodes p)
unfolding stat
some_made nodes p m e = let s = meta_some nodes p m e in ap (λ (x : Meta). x.created) s.2 ∙ sym (ap ever_had s.1)

right_on : (ids : List (List ℕ)) (perm : ℕ) (o : Option Node) → option_map_or (λ (a : List Acl). is_allowed ids a perm) (option_map (λ (n : Node). n.acl) o) false ≡ has_right o ids perm
right_on ids perm None = refl
right_on ids perm (Some n) = refl

-- the right, from the list that is lent
pub right_seen : (nodes : Nodes) (p : List ℕ) (ids : List (List ℕ)) (perm : ℕ) (r : Option (List Acl)) → r ≡ acl_at nodes p → option_map_or (λ (a : List Acl). is_allowed ids a perm) r false ≡ has_right (map.get nodes p) ids perm
unfolding acl_at
right_seen nodes p ids perm r e = ap (λ r. option_map_or (λ (a : List Acl). is_allowed ids a perm) r false) e ∙ right_on ids perm (map.get nodes p)

-- the path is the root's where it has no parent
pub is_root : (b : Bool) (x : List ℕ) → None ≡ (if b then None else Some x) → b ≡ true
is_root true x e = refl
is_root false x e = absurd (not_some (sym e))

module _ (nodes : Nodes) (ids : List (List ℕ)) (path : List ℕ) where
  pub place_root : bytes_eq path root ≡ true → place_fails nodes ids path ≡ Some node_exists
  place_root r = ap (λ b. if b then Some node_exists else parent_fails ids (map.get nodes (parent path)) (map.get nodes path)) r

  place_child : IsChildPath path → place_fails nodes ids path ≡ parent_fails ids (map.get nodes (parent path)) (map.get nodes path)
  place_child h = ap (λ b. if b then Some node_exists else parent_fails ids (map.get nodes (parent path)) (map.get nodes path)) h.1

  pub place_no_parent : IsChildPath path → map.get nodes (parent path) ≡ None → place_fails nodes ids path ≡ Some no_node
  place_no_parent h none = place_child h ∙ ap (λ o. parent_fails ids o (map.get nodes path)) none

  pub place_under : (up : List ℕ) (m : Meta) → up ≡ parent path → IsChildPath path → Some m ≡ meta_at nodes up → place_fails nodes ids path ≡ room_fails (has_right (map.get nodes up) ids 4) m.owner (is_some (map.get nodes path))
  unfolding stat
  place_under up m is h seen =
      let s = meta_some nodes up m seen in
      place_child h
      ∙ ap (λ p. parent_fails ids (map.get nodes p) (map.get nodes path)) (sym is)
      ∙ ap (λ o. parent_fails ids o (map.get nodes path)) s.1
      ∙ ap (λ (x : Meta). room_fails (has_right (Some s.0) ids 4) x.owner (is_some (map.get nodes path))) (sym s.2)
      ∙ ap (λ o. room_fails (has_right o ids 4) m.owner (is_some (map.get nodes path))) (sym s.1)

  pub find_malformed : (perm version : ℕ) → is_well_formed path ≡ false → version_fails nodes ids perm path version ≡ Some bad_arguments
  unfolding version_fails
  find_malformed perm version h = ap (λ b. if not b then Some bad_arguments else node_fails ids perm version (map.get nodes path)) h

  find_formed : (perm version : ℕ) → is_well_formed path ≡ true → version_fails nodes ids perm path version ≡ node_fails ids perm version (map.get nodes path)
  unfolding version_fails
  find_formed perm version h = ap (λ b. if not b then Some bad_arguments else node_fails ids perm version (map.get nodes path)) h

  pub find_none : (perm version : ℕ) → is_well_formed path ≡ true → map.get nodes path ≡ None → version_fails nodes ids perm path version ≡ Some no_node
  find_none perm version h none = find_formed perm version h ∙ ap (node_fails ids perm version) none

  pub find_there : (perm version : ℕ) (m : Meta) → is_well_formed path ≡ true → Some m ≡ meta_at nodes path → version_fails nodes ids perm path version ≡ change_fails (has_right (map.get nodes path) ids perm) version m.version
  unfolding stat
  find_there perm version m h seen =
      let s = meta_some nodes path m seen in
      find_formed perm version h
      ∙ ap (node_fails ids perm version) s.1
      ∙ ap (λ (x : Meta). change_fails (has_right (Some s.0) ids perm) version x.version) (sym s.2)
      ∙ ap (λ o. change_fails (has_right o ids perm) version m.version) (sym s.1)

  pub owner_none : (version : ℕ) → map.get nodes path ≡ None → owner_fails ids version (map.get nodes path) ≡ Some no_node
  owner_none version none = ap (owner_fails ids version) none

  pub owner_there : (version : ℕ) (m : Meta) → Some m ≡ meta_at nodes path → owner_fails ids version (map.get nodes path) ≡ change_fails (has_right (map.get nodes path) ids 16) version m.aversion
  unfolding stat
  owner_there version m seen =
      let s = meta_some nodes path m seen in
      ap (owner_fails ids version) s.1
      ∙ ap (λ (x : Meta). change_fails (has_right (Some s.0) ids 16) version x.aversion) (sym s.2)
      ∙ ap (λ o. change_fails (has_right o ids 16) version m.aversion) (sym s.1)

both : (a b : Bool) → (a && b) ≡ true → (a ≡ true) × (b ≡ true)
both true b h = (refl, h)
both false b h = no true (sym h) refl

-- a path that is none, or flags that are none
misnamed : (a b : Bool) (next : Option ℤ) → (a && b) ≡ false → (if not a then Some bad_arguments else (if not b then Some bad_arguments else next)) ≡ Some bad_arguments
misnamed true b next h = ap (λ b. if not b then Some bad_arguments else next) h
misnamed false b next h = refl

named : (a b : Bool) (next : Option ℤ) → (a && b) ≡ true → (if not a then Some bad_arguments else (if not b then Some bad_arguments else next)) ≡ next
named a b next h = λ i. if not ((both a b h).0 i) then Some bad_arguments else (if not ((both a b h).1 i) then Some bad_arguments else next)

module _ (nodes : Nodes) (ids : List (List ℕ)) (path : List ℕ) (acl : List Acl) where
  pub creation_misnamed : (flags : ℕ) → (is_well_formed path && nat_le flags 3) ≡ false → create_fails nodes ids path flags acl ≡ Some bad_arguments
  unfolding create_fails
  creation_misnamed flags h = misnamed (is_well_formed path) (nat_le flags 3) _ h

  pub creation_unlisted : (flags : ℕ) → (is_well_formed path && nat_le flags 3) ≡ true → None ≡ fixed ids acl → create_fails nodes ids path flags acl ≡ Some invalid_acl
  unfolding create_fails
  creation_unlisted flags h none = named (is_well_formed path) (nat_le flags 3) _ h ∙ ap (λ o. list_fails o (place_fails nodes ids path)) (sym none)

  pub creation_listed : (flags : ℕ) (kept : List Acl) → (is_well_formed path && nat_le flags 3) ≡ true → Some kept ≡ fixed ids acl → create_fails nodes ids path flags acl ≡ place_fails nodes ids path
  unfolding create_fails
  creation_listed flags kept h is = named (is_well_formed path) (nat_le flags 3) _ h ∙ ap (λ o. list_fails o (place_fails nodes ids path)) (sym is)

  pub list_misnamed : (version : ℕ) → is_well_formed path ≡ false → set_acl_fails nodes ids path acl version ≡ Some bad_arguments
  unfolding set_acl_fails
  list_misnamed version h = ap (λ b. if not b then Some bad_arguments else list_fails (fixed ids acl) (owner_fails ids version (map.get nodes path))) h

  list_named : (version : ℕ) → is_well_formed path ≡ true → set_acl_fails nodes ids path acl version ≡ list_fails (fixed ids acl) (owner_fails ids version (map.get nodes path))
  unfolding set_acl_fails
  list_named version h = ap (λ b. if not b then Some bad_arguments else list_fails (fixed ids acl) (owner_fails ids version (map.get nodes path))) h

  pub list_refused : (version : ℕ) → is_well_formed path ≡ true → None ≡ fixed ids acl → set_acl_fails nodes ids path acl version ≡ Some invalid_acl
  list_refused version h none = list_named version h ∙ ap (λ o. list_fails o (owner_fails ids version (map.get nodes path))) (sym none)

  pub list_taken : (version : ℕ) (kept : List Acl) → is_well_formed path ≡ true → Some kept ≡ fixed ids acl → set_acl_fails nodes ids path acl version ≡ owner_fails ids version (map.get nodes path)
  list_taken version kept h is = list_named version h ∙ ap (λ o. list_fails o (owner_fails ids version (map.get nodes path))) (sym is)

alike : (x y : Bool) → (x ≡ true → y ≡ true) → (y ≡ true → x ≡ true) → x ≡ y
alike true true f g = refl
alike true false f g = no false refl (f refl)
alike false true f g = no false refl (g refl)
alike false false f g = refl

-- the shown number of children is 0 where there are none
kids_zero : (c : ℕ) → (min c 2147483647 == 0) ≡ (c == 0)
kids_zero c = alike (min c 2147483647 == 0) (c == 0)
    (λ h. let z : min c 2147483647 ≡ 0 = (Decides-eqb (min c 2147483647) 0).0 h in (Decides-eqb c 0).1 (omega (arith, z)))
    (λ h. let z : c ≡ 0 = (Decides-eqb c 0).0 h in (Decides-eqb (min c 2147483647) 0).1 (omega (arith, z)))

module _ (nodes : Nodes) (ids : List (List ℕ)) (path : List ℕ) (version : ℕ) where
  pub delete_malformed : is_well_formed path ≡ false → delete_fails nodes ids path version ≡ Some bad_arguments
  unfolding delete_fails
  delete_malformed h = ap (λ b. if not b then Some bad_arguments else (if bytes_eq path root then Some bad_arguments else removal_fails nodes ids path version (map.get nodes path))) h

  delete_formed : is_well_formed path ≡ true → delete_fails nodes ids path version ≡ (if bytes_eq path root then Some bad_arguments else removal_fails nodes ids path version (map.get nodes path))
  unfolding delete_fails
  delete_formed h = ap (λ b. if not b then Some bad_arguments else (if bytes_eq path root then Some bad_arguments else removal_fails nodes ids path version (map.get nodes path))) h

  pub delete_root : is_well_formed path ≡ true → bytes_eq path root ≡ true → delete_fails nodes ids path version ≡ Some bad_arguments
  delete_root h r = delete_formed h ∙ ap (λ b. if b then Some bad_arguments else removal_fails nodes ids path version (map.get nodes path)) r

  delete_child : IsChildPath path → delete_fails nodes ids path version ≡ removal_fails nodes ids path version (map.get nodes path)
  delete_child h = delete_formed h.0 ∙ ap (λ b. if b then Some bad_arguments else removal_fails nodes ids path version (map.get nodes path)) h.1

  pub delete_none : IsChildPath path → map.get nodes path ≡ None → delete_fails nodes ids path version ≡ Some no_node
  delete_none h none = delete_child h ∙ ap (removal_fails nodes ids path version) none

  pub delete_there : (up : List ℕ) (m : Meta) → up ≡ parent path → IsChildPath path → Some m ≡ meta_at nodes path → delete_fails nodes ids path version ≡ leave_fails (has_right (map.get nodes up) ids 8) version m.version m.kids
  unfolding stat
  delete_there up m is h seen =
      let s = meta_some nodes path m seen in
      let allowed : Bool = has_right (map.get nodes (parent path)) ids 8 in
      delete_child h
      ∙ ap (removal_fails nodes ids path version) s.1
      ∙ ap (λ b. if not allowed then Some no_auth else (if not (is_version version s.0.version) then Some bad_version else (if b then None else Some not_empty))) (sym (kids_zero (length (children nodes path))))
      ∙ ap (λ (x : Meta). leave_fails allowed version x.version x.kids) (sym s.2)
      ∙ ap (λ p. leave_fails (has_right (map.get nodes p) ids 8) version m.version m.kids) (sym is)

free_on : (z t : Bool) → (if not z then Some no_children_for_ephemerals else (if t then Some node_exists else None)) ≡ None → t ≡ false
free_on true true e = absurd (not_some e)
free_on true false e = refl
free_on false t e = absurd (not_some e)

-- where nothing fails, the path is free
pub room_free : (allowed : Bool) (owner : ℕ) (taken : Bool) → room_fails allowed owner taken ≡ None → taken ≡ false
room_free true owner taken e = free_on (owner == 0) taken e
room_free false owner taken e = absurd (not_some e)
