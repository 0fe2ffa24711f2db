-- The paths that a walk lists are those that pass in the map by paths.
use Rattle.std.proofs.Common.{◌≡◌, nat_eq, Bool, true, false, List, ℕ, Option, Some, None, refl, ap, sym, ◌∙◌}
use Rattle.std.specs.Prelude.{◌==◌}
use Rattle.std.proofs.lemmas.Bool.{eqb-true}
use Rattle.std.specs.List.{filter}
use Rattle.std.specs.Option.{option_map_or, option_and_then}
use Rattle.std.specs.Ordering.{nat_cmp}
use Rattle.std.specs.FinMap as fin
use Rattle.std.specs.FinMap.{get}
use Rattle.kp_layers.specs.Layering.{Layering}
use Rattle.kp_model.specs.declared.node.Meta.{Meta}
use Rattle.kp_model.specs.declared.node.Acl.{Acl}
use Rattle.kp_model.specs.declared.session.Session.{Session}
use Rattle.kp_model.specs.State.{path_cmp}
use Rattle.kp_layers.specs.Listed.{Lists}
use Rattle.kp_cells.specs.Listed.{Test, side_of, takes, passes, AreAmong}
use Rattle.kp_cells.specs.Parts.{Parts, FitTogether}
use Rattle.kp_cells.specs.Sides.{parts_at}
use Rattle.kp_cells.specs.Held.{overlays}
use Rattle.kp_cells.specs.Traced.{is_in}
use Rattle.kp_layers.specs.Grouped.{is_of, is_in as is_member}
use Rattle.std.proofs.lemmas.Map.Views.{any-filter_same}
use Rattle.kp_cells.proofs.Maps.{no}
use Rattle.kp_cells.proofs.Walked.{taken_there, among_keys}
use Rattle.kp_cells.specs.Naming.{Naming, IsNaming, IsNamed, layers_by_path}
use Rattle.kp_cells.proofs.ByPath.{at_latest, get-by_path}
use Rattle.kp_cells.proofs.Listed.{listed}
use Rattle.kp_cells.proofs.Paths.{path_total, path_same}
use Rattle.kp_cells.proofs.Shown.{owner_shown}

module _ {V : Type 0} (names : Naming) (h : IsNaming names) (l : Layering nat_cmp V) (named : IsNamed names l) where
  at_side : (latest : Bool) (q : List ℕ) → option_and_then (get (side_of latest l)) (get names.numbers q) ≡ get (side_of latest (layers_by_path names l)) q
  at_side true q = at_latest names h l q named
  at_side false q = sym (get-by_path names l.base q)

module _ (names : Naming) (h : IsNaming names) (l : Layering nat_cmp Meta) (named : IsNamed names l) where
  pub gathered : (f : Test) (latest : Bool) (paths : List (List ℕ)) → Lists path_cmp (takes f names (side_of latest l)) paths → paths ≡ filter (passes f (side_of latest (layers_by_path names l))) (fin.keys (side_of latest (layers_by_path names l)))
  gathered f latest paths lists =
      let same : (q : List ℕ) → takes f names (side_of latest l) q ≡ passes f (side_of latest (layers_by_path names l)) q = λ q. ap (λ r. option_map_or (f q) r false) (at_side names h l named latest q) in
      listed path_total path_same f (side_of latest (layers_by_path names l)) (takes f names (side_of latest l)) paths lists same
      ∙ ap (λ (g : List ℕ → Bool). filter g (fin.keys (side_of latest (layers_by_path names l)))) (λ i q. same q i)

-- the numbers of the nodes of an owner are the keys of its group
module _ (names : Naming) (h : IsNaming names) (metas : Layering nat_cmp Meta) (contents : Layering nat_cmp (List ℕ)) (acls : Layering nat_cmp (List Acl)) (children : Layering nat_cmp (Unit {0})) (owners : Layering nat_cmp ℕ) (sessions : Layering nat_cmp Session) (next : Layering nat_cmp ℕ) (applied : ℕ)
    (metas_named : IsNamed names metas) (owners_named : IsNamed names owners) (latest : Bool) (fits : FitTogether (parts_at latest (overlays names metas contents acls children owners sessions next applied))) (id : ℕ) (some : (id == 0) ≡ false) where
  abbrev parts : Parts
  parts = parts_at latest (overlays names metas contents acls children owners sessions next applied)

  metas_of : (b : Bool) → (parts_at b (overlays names metas contents acls children owners sessions next applied)).metas ≡ side_of b (layers_by_path names metas)
  metas_of true = refl
  metas_of false = refl

  owners_of : (b : Bool) → (parts_at b (overlays names metas contents acls children owners sessions next applied)).owners ≡ side_of b (layers_by_path names owners)
  owners_of true = refl
  owners_of false = refl

  at : (q : List ℕ) (n : ℕ) (m : Meta) → get names.numbers q ≡ Some n → get (side_of latest metas) n ≡ Some m → (m.owner == id) ≡ true → get (side_of latest owners) n ≡ Some m.owner
  at q n m e there same =
      let shown : get parts.metas q ≡ Some m =
      ap (λ z. get z q) (metas_of latest) ∙ sym (at_side names h metas metas_named latest q) ∙ ap (option_and_then (get (side_of latest metas))) e ∙ there in
      let is : m.owner ≡ id = eqb-true m.owner id same in
      let has : get parts.owners q ≡ Some m.owner = owner_shown parts q m fits shown (ap (λ i. i == 0) is ∙ some) in
      sym (ap (option_and_then (get (side_of latest owners))) e) ∙ at_side names h owners owners_named latest q ∙ sym (ap (λ z. get z q) (owners_of latest)) ∙ has

  abbrev in_group : ℕ → Bool
  in_group = is_member nat_eq (λ (owner : ℕ). Some owner) (side_of latest owners) id

  pub owned_among : AreAmong (λ _ m. m.owner == id) names (side_of latest metas) (filter in_group (fin.keys (side_of latest owners)))
  owned_among q n e t = here (get (side_of latest metas) n) refl (taken_there names h (side_of latest metas) (λ _ m. m.owner == id) q n e t) where
    here : (r : Option Meta) → get (side_of latest metas) n ≡ r → option_map_or (λ (m : Meta). m.owner == id) r false ≡ true → is_in n (filter in_group (fin.keys (side_of latest owners))) ≡ true
    here None g s = no false refl s
    here (Some m) g s =
        let has : get (side_of latest owners) n ≡ Some m.owner = at q n m e g s in
        let mine : in_group n ≡ true = ap (is_of nat_eq (λ (owner : ℕ). Some owner) id) has ∙ s in
        any-filter_same (nat_eq n) in_group true (λ k same. ap in_group (sym (eqb-true n k same)) ∙ mine) (fin.keys (side_of latest owners))
        ∙ among_keys (side_of latest owners) n m.owner has
