-- Layers by numbers of paths, seen by the paths.
use Rattle.std.proofs.Common.{◌≡◌, ℕ, suc, ◌-◌, Bool, true, false, cond, nat_eq, List, [], ◌∷◌, ◌++◌, map, take, drop, length, Option, Some, None, refl, ap, sym, ◌∙◌, subst}
use Rattle.std.specs.Prelude.{unwrap_or}
use Rattle.std.specs.List.{All}
use Rattle.std.specs.Option.{option_map, option_and_then}
use Rattle.std.specs.Str.{bytes_eq}
use Rattle.std.specs.declared.cmp.Ordering.{Ordering}
use Rattle.std.specs.Ordering.{nat_cmp, eq_by_cmp}
use Rattle.std.specs.Cmp.{IsTotalOrder, nat_cmp_total, unsigned_tied, nat_eq_equiv}
use Rattle.std.specs.Cmp.Lexicographic.{nat_list_cmp_total}
use Rattle.std.specs.FinMap as fin
use Rattle.std.specs.FinMap.{FinMap, get, find, get-empty, get-insert, get-remove, get-entries, same_map, nat_cmp-IsAntisymmetric, slice_cmp-IsAntisymmetric}
use Rattle.std.proofs.lemmas.Slice.Eq.{bytes_eq-Decides}
use Rattle.std.proofs.lemmas.Bool.{eqb-true}
use Rattle.std.proofs.lemmas.Bool.Decides.{same_from_decides}
use Rattle.std.proofs.lemmas.List.{map-append, take-map}
use Rattle.std.proofs.lemmas.List.Elements.{All-head, All-tail, All-weaker, All-push, All-nil, All-drop, All-take}
use Rattle.kp_layers.specs.Overlay.{put, overlay}
use Rattle.kp_layers.specs.Layering.{Layering, staged_of, latest_of, overlay_all, first_layer, begun, written, undone, sealed, abandoned, front_committed, back_dropped, empty_layering}
use Rattle.kp_model.specs.State.{path_cmp}
use Rattle.kp_cells.specs.Naming.{Naming, IsNaming, Grows, Knows, path_of, by_path_in, by_path, writes_by_path, layers_by_path, AreKnown, IsNamed}
use Rattle.kp_cells.proofs.Named.{path_tied}

module _ {K V : Type 0} {R : K → K → Ordering} (o : IsTotalOrder R) where
  get-put : (m : FinMap R V) (k : K) (w : Option V) (q : K) → get (put m k w) q ≡ cond (eq_by_cmp R q k) w (get m q)
  get-put m k (Some v) q = get-insert o m k v q
  get-put m k None q = get-remove o m k q

-- the path of a number that is given
pub path_is : (names : Naming) (p : List ℕ) (n : ℕ) → IsNaming names → get names.numbers p ≡ Some n → path_of names n ≡ p
path_is names p n h e = ap (λ r. unwrap_or r []) (h.there p n e)

-- two paths are equal exactly where their numbers are
same_number : (names : Naming) (q p : List ℕ) (k n : ℕ) → IsNaming names → get names.numbers q ≡ Some k → get names.numbers p ≡ Some n → bytes_eq q p ≡ nat_eq k n
same_number names q p k n h e f = same_from_decides (bytes_eq q p) (nat_eq k n) (bytes_eq-Decides q p) (
  (λ t.
      let kn : k ≡ n = eqb-true k n t in
      let a : Some q ≡ get names.texts k = sym (h.there q k e) in
      let b : get names.texts k ≡ Some p = ap (get names.texts) kn ∙ h.there p n f in
      let c : Some q ≡ Some p = a ∙ b in
      (cc)),
  (λ same.
      let a : Some k ≡ get names.numbers q = sym e in
      let b : get names.numbers q ≡ Some n = ap (get names.numbers) same ∙ f in
      let c : Some k ≡ Some n = a ∙ b in
      let kn : k ≡ n = cc in
      ap (λ i. nat_eq i n) kn ∙ nat_eq_equiv.refl n),
)

apart_bools : (b : Bool) → (b ≡ true → ⊥) → b ≡ false
apart_bools true h = absurd (h refl)
apart_bools false h = refl

-- a path without a number is no known one
unnamed : (names : Naming) (q p : List ℕ) (n : ℕ) → get names.numbers q ≡ None → get names.numbers p ≡ Some n → bytes_eq q p ≡ false
unnamed names q p n e f = apart_bools (bytes_eq q p) (λ t.
    let same : q ≡ p = (bytes_eq-Decides q p).0 t in
    let a : None ≡ get names.numbers q = sym e in
    let b : get names.numbers q ≡ Some n = ap (get names.numbers) same ∙ f in
    let c : ◌≡◌ {A = Option ℕ} None (Some n) = a ∙ b in
    (cc))

module _ {V : Type 0} where
  chosen_entry : (b : Bool) (m : FinMap nat_cmp V) (n : ℕ) (o : Option ℕ) → cond b (get m n) (option_and_then (get m) o) ≡ option_and_then (get m) (cond b (Some n) o)
  chosen_entry true m n o = refl
  chosen_entry false m n o = refl

  get-by_path_in : (es : List (List ℕ × ℕ)) (m : FinMap nat_cmp V) (q : List ℕ) → get (by_path_in es m) q ≡ option_and_then (get m) (find path_cmp q es)
  get-by_path_in [] m q = get-empty path_cmp q
  get-by_path_in (e ∷ es) m q =
      get-put nat_list_cmp_total (by_path_in es m) e.0 (get m e.1) q
      ∙ ap (cond (eq_by_cmp path_cmp q e.0) (get m e.1)) (get-by_path_in es m q)
      ∙ chosen_entry (eq_by_cmp path_cmp q e.0) m e.1 (find path_cmp q es)

  -- the map by paths has at a path what the map has at its number
  pub get-by_path : (names : Naming) (m : FinMap nat_cmp V) (q : List ℕ) → get (by_path names m) q ≡ option_and_then (get m) (get names.numbers q)
  get-by_path names m q = get-by_path_in (fin.entries names.numbers) m q ∙ ap (option_and_then (get m)) (sym (get-entries names.numbers q))

at_none : {V : Type 0} (m : FinMap nat_cmp V) → ((n : ℕ) → get m n ≡ None) → (o : Option ℕ) → option_and_then (get m) o ≡ None
at_none m h None = refl
at_none m h (Some n) = h n

-- no entries
pub by_path_empty : {V : Type 0} (names : Naming) → by_path {V = V} names fin.empty ≡ fin.empty
by_path_empty names = same_map nat_list_cmp_total (slice_cmp-IsAntisymmetric nat_cmp-IsAntisymmetric) _ _ (λ q.
    get-by_path names fin.empty q ∙ at_none fin.empty (get-empty nat_cmp) (get names.numbers q) ∙ sym (get-empty path_cmp q))

-- the writes of the open layer, by paths
staged_by_path : {V : Type 0} (names : Naming) (o : Option (List (ℕ × Option V))) → unwrap_or (option_map (writes_by_path names) o) [] ≡ writes_by_path names (unwrap_or o [])
staged_by_path names None = refl
staged_by_path names (Some ws) = refl

map-take : {A B : Type 0} (f : A → B) (n : ℕ) (xs : List A) → map f (take n xs) ≡ take n (map f xs)
map-take f n xs = sym (take-map f n xs)

pub length_mapped : {A B : Type 0} (f : A → B) (xs : List A) → length (map f xs) ≡ length xs
length_mapped f [] = refl
length_mapped f (x ∷ xs) = ap suc (length_mapped f xs)

module _ {V : Type 0} (names : Naming) (h : IsNaming names) where
  -- the map by paths has at each path what the map has at its number
  abbrev Mirrors : FinMap path_cmp V → FinMap nat_cmp V → Type 0
  Mirrors m' m = (q : List ℕ) → get m' q ≡ option_and_then (get m) (get names.numbers q)

  put_mirrors : (m' : FinMap path_cmp V) (m : FinMap nat_cmp V) (k : ℕ) (v : Option V) → Knows names k → Mirrors m' m → Mirrors (put m' (path_of names k) v) (put m k v)
  put_mirrors m' m k v known mirrors q =
      get-put nat_list_cmp_total m' (path_of names k) v q
      ∙ ap (λ b. cond b v (get m' q)) (path_tied q (path_of names k))
      ∙ ap (λ p. cond (bytes_eq q p) v (get m' q)) (path_is names known.0 k h known.1)
      ∙ each (get names.numbers q) refl
    where
      each : (o : Option ℕ) → get names.numbers q ≡ o → cond (bytes_eq q known.0) v (get m' q) ≡ option_and_then (get (put m k v)) o
      each None none =
          ap (λ b. cond b v (get m' q)) (unnamed names q known.0 k none known.1)
          ∙ mirrors q ∙ ap (option_and_then (get m)) none
      each (Some j) is =
          ap (λ b. cond b v (get m' q)) (same_number names q known.0 j k h is known.1)
          ∙ ap (cond (nat_eq j k) v) (mirrors q ∙ ap (option_and_then (get m)) is)
          ∙ sym (get-put nat_cmp_total m k v j ∙ ap (λ b. cond b v (get m j)) (unsigned_tied j k))

  -- a value more, by paths
  pub by_path_insert : (m : FinMap nat_cmp V) (k : ℕ) (v : V) → Knows names k → by_path names (fin.insert m k v) ≡ fin.insert (by_path names m) (path_of names k) v
  by_path_insert m k v known = same_map nat_list_cmp_total (slice_cmp-IsAntisymmetric nat_cmp-IsAntisymmetric) _ _ (λ q.
      get-by_path names (fin.insert m k v) q ∙ sym (put_mirrors (by_path names m) m k (Some v) known (get-by_path names m) q))

  overlay_mirrors : (m' : FinMap path_cmp V) (m : FinMap nat_cmp V) (ws : List (ℕ × Option V)) → AreKnown names ws → Mirrors m' m → Mirrors (overlay m' (writes_by_path names ws)) (overlay m ws)
  overlay_mirrors m' m [] known mirrors = mirrors
  overlay_mirrors m' m (w ∷ ws) known mirrors =
      overlay_mirrors (put m' (path_of names w.0) w.1) (put m w.0 w.1) ws (All-tail (λ x. Knows names x.0) w ws known)
      (put_mirrors m' m w.0 w.1 (All-head (λ x. Knows names x.0) w ws known) mirrors)

  layers_mirror : (m' : FinMap path_cmp V) (m : FinMap nat_cmp V) (layers : List (List (ℕ × Option V))) → All (AreKnown names) layers → Mirrors m' m → Mirrors (overlay_all m' (map (writes_by_path names) layers)) (overlay_all m layers)
  layers_mirror m' m [] known mirrors = mirrors
  layers_mirror m' m (ws ∷ layers) known mirrors =
      layers_mirror (overlay m' (writes_by_path names ws)) (overlay m ws) layers (All-tail (AreKnown names) ws layers known)
      (overlay_mirrors m' m ws (All-head (AreKnown names) ws layers known) mirrors)

  -- the latest value of a path is that of its number
  pub at_latest : (l : Layering nat_cmp V) (q : List ℕ) → IsNamed names l → option_and_then (get (latest_of l)) (get names.numbers q) ≡ get (latest_of (layers_by_path names l)) q
  at_latest l q named =
      sym (overlay_mirrors _ (overlay_all l.base l.layers) (staged_of l) named.staged (layers_mirror (by_path names l.base) l.base l.layers named.layers (get-by_path names l.base)) q)
      ∙ ap (λ ws. get (overlay (overlay_all (by_path names l.base) (map (writes_by_path names) l.layers)) ws) q) (sym (staged_by_path names l.staged))

  -- a map under writes, by paths
  by_path_overlay : (m : FinMap nat_cmp V) (ws : List (ℕ × Option V)) → AreKnown names ws → by_path names (overlay m ws) ≡ overlay (by_path names m) (writes_by_path names ws)
  by_path_overlay m ws known = same_map nat_list_cmp_total (slice_cmp-IsAntisymmetric nat_cmp-IsAntisymmetric) _ _ (λ q.
      get-by_path names (overlay m ws) q ∙ sym (overlay_mirrors (by_path names m) m ws known (get-by_path names m) q))

  -- each change of the layers, by paths
  pub written_by_path : (l : Layering nat_cmp V) (p : List ℕ) (n : ℕ) (v : Option V) → get names.numbers p ≡ Some n → layers_by_path names (written l n v) ≡ written (layers_by_path names l) p v
  written_by_path l p n v e =
      let w : writes_by_path names (staged_of l ++ (n, v) ∷ []) ≡ staged_of (layers_by_path names l) ++ (p, v) ∷ [] =
      map-append (λ (x : ℕ × Option V). (path_of names x.0, x.1)) (staged_of l) ((n, v) ∷ [])
      ∙ ap (λ q. writes_by_path names (staged_of l) ++ (q, v) ∷ []) (path_is names p n h e)
      ∙ ap (λ us. us ++ (p, v) ∷ []) (sym (staged_by_path names l.staged)) in
      λ i. record { base = by_path names l.base; layers = map (writes_by_path names) l.layers; staged = Some (w i) }

  pub sealed_by_path : (l : Layering nat_cmp V) → layers_by_path names (sealed l) ≡ sealed (layers_by_path names l)
  sealed_by_path l =
      let w : map (writes_by_path names) (l.layers ++ staged_of l ∷ []) ≡ map (writes_by_path names) l.layers ++ staged_of (layers_by_path names l) ∷ [] =
      map-append (writes_by_path names) l.layers (staged_of l ∷ [])
      ∙ ap (λ ws. map (writes_by_path names) l.layers ++ ws ∷ []) (sym (staged_by_path names l.staged)) in
      λ i. record { base = by_path names l.base; layers = w i; staged = None }

  pub undone_by_path : (l : Layering nat_cmp V) (mark : ℕ) → layers_by_path names (undone l mark) ≡ undone (layers_by_path names l) mark
  undone_by_path l mark =
      let w : writes_by_path names (take mark (staged_of l)) ≡ take mark (staged_of (layers_by_path names l)) =
      map-take (λ (x : ℕ × Option V). (path_of names x.0, x.1)) mark (staged_of l)
      ∙ ap (take mark) (sym (staged_by_path names l.staged)) in
      λ i. record { base = by_path names l.base; layers = map (writes_by_path names) l.layers; staged = Some (w i) }

  pub back_dropped_by_path : (l : Layering nat_cmp V) → layers_by_path names (back_dropped l) ≡ back_dropped (layers_by_path names l)
  back_dropped_by_path l =
      let w : map (writes_by_path names) (take (length l.layers - 1) l.layers) ≡ take (length (map (writes_by_path names) l.layers) - 1) (map (writes_by_path names) l.layers) =
      map-take (writes_by_path names) (length l.layers - 1) l.layers
      ∙ ap (λ n. take (n - 1) (map (writes_by_path names) l.layers)) (sym (length_mapped (writes_by_path names) l.layers)) in
      λ i. record { base = by_path names l.base; layers = w i; staged = option_map (writes_by_path names) l.staged }

  first_by_path : (m : FinMap nat_cmp V) (layers : List (List (ℕ × Option V))) → All (AreKnown names) layers → by_path names (overlay m (first_layer layers)) ≡ overlay (by_path names m) (first_layer (map (writes_by_path names) layers))
  first_by_path m [] known = refl
  first_by_path m (ws ∷ layers) known = by_path_overlay m ws (All-head (AreKnown names) ws layers known)

  rest_by_path : (layers : List (List (ℕ × Option V))) → map (writes_by_path names) (drop 1 layers) ≡ drop 1 (map (writes_by_path names) layers)
  rest_by_path [] = refl
  rest_by_path (ws ∷ layers) = refl

  pub front_committed_by_path : (l : Layering nat_cmp V) → IsNamed names l → layers_by_path names (front_committed l) ≡ front_committed (layers_by_path names l)
  front_committed_by_path l named =
      let b : by_path names (overlay l.base (first_layer l.layers)) ≡ overlay (by_path names l.base) (first_layer (map (writes_by_path names) l.layers)) = first_by_path l.base l.layers named.layers in
      let r : map (writes_by_path names) (drop 1 l.layers) ≡ drop 1 (map (writes_by_path names) l.layers) = rest_by_path l.layers in
      λ i. record { base = b i; layers = r i; staged = option_map (writes_by_path names) l.staged }

  -- after each change only numbers of paths are in use
  pub named_written : (l : Layering nat_cmp V) (n : ℕ) (v : Option V) → Knows names n → IsNamed names l → IsNamed names (written l n v)
  named_written l n v known named = record { base = named.base; layers = named.layers; staged = All-push (λ w. Knows names w.0) (staged_of l) (n, v) named.staged known }

  pub named_begun : (l : Layering nat_cmp V) → IsNamed names l → IsNamed names (begun l)
  named_begun l named = record { base = named.base; layers = named.layers; staged = All-nil (λ w. Knows names w.0) }

  pub named_abandoned : (l : Layering nat_cmp V) → IsNamed names l → IsNamed names (abandoned l)
  named_abandoned l named = record { base = named.base; layers = named.layers; staged = All-nil (λ w. Knows names w.0) }

  pub named_sealed : (l : Layering nat_cmp V) → IsNamed names l → IsNamed names (sealed l)
  named_sealed l named = record { base = named.base; layers = All-push (AreKnown names) l.layers (staged_of l) named.layers named.staged; staged = All-nil (λ w. Knows names w.0) }

  pub named_undone : (l : Layering nat_cmp V) (mark : ℕ) → IsNamed names l → IsNamed names (undone l mark)
  named_undone l mark named = record { base = named.base; layers = named.layers; staged = All-take (λ w. Knows names w.0) mark (staged_of l) named.staged }

  pub named_back_dropped : (l : Layering nat_cmp V) → IsNamed names l → IsNamed names (back_dropped l)
  named_back_dropped l named = record { base = named.base; layers = All-take (AreKnown names) (length l.layers - 1) l.layers named.layers; staged = named.staged }

  put_known : (b : Bool) (n k : ℕ) (v : V) (w o : Option V) → (b ≡ true → n ≡ k) → Knows names k → (o ≡ Some v → Knows names n) → cond b w o ≡ Some v → Knows names n
  put_known true n k v w o same known base e = subst (Knows names) (sym (same refl)) known
  put_known false n k v w o same known base e = base e

  overlay_known : (m : FinMap nat_cmp V) (ws : List (ℕ × Option V)) → AreKnown names ws → ((n : ℕ) (v : V) → get m n ≡ Some v → Knows names n) → (n : ℕ) (v : V) → get (overlay m ws) n ≡ Some v → Knows names n
  overlay_known m [] known base n v e = base n v e
  overlay_known m (w ∷ ws) known base n v e =
      overlay_known (put m w.0 w.1) ws (All-tail (λ x. Knows names x.0) w ws known)
      (λ i u f. put_known (nat_eq i w.0) i w.0 u w.1 (get m i) (eqb-true i w.0) (All-head (λ x. Knows names x.0) w ws known) (base i u)
      (ap (λ b. cond b w.1 (get m i)) (sym (unsigned_tied i w.0)) ∙ sym (get-put nat_cmp_total m w.0 w.1 i) ∙ f))
      n v e

  first_known : (layers : List (List (ℕ × Option V))) → All (AreKnown names) layers → AreKnown names (first_layer layers)
  first_known [] known = All-nil (λ w. Knows names w.0)
  first_known (ws ∷ layers) known = All-head (AreKnown names) ws layers known

  pub named_front_committed : (l : Layering nat_cmp V) → IsNamed names l → IsNamed names (front_committed l)
  named_front_committed l named = record {
    base = overlay_known l.base (first_layer l.layers) (first_known l.layers named.layers) named.base;
    layers = All-drop (AreKnown names) 1 l.layers named.layers;
    staged = named.staged;
  }

  pub named_empty : IsNamed {V = V} names empty_layering
  named_empty = record {
    base = λ n v e. absurd (no_entry (sym (get-empty nat_cmp n) ∙ e));
    layers = All-nil (AreKnown names);
    staged = All-nil (λ w. Knows names w.0);
  }
    where
      no_entry : {v : V} → ◌≡◌ {A = Option V} None (Some v) → ⊥
      no_entry e = (cc)

-- names that have grown: the same layers by paths
module _ (old new : Naming) (h : IsNaming old) (h' : IsNaming new) (grows : Grows old new) where
  same_path : (n : ℕ) → Knows old n → path_of new n ≡ path_of old n
  same_path n known = path_is new known.0 n h' (grows known.0 n known.1) ∙ sym (path_is old known.0 n h known.1)

  known_still : (n : ℕ) → Knows old n → Knows new n
  known_still n known = (known.0, grows known.0 n known.1)

module _ {V : Type 0} (old new : Naming) (h : IsNaming old) (h' : IsNaming new) (grows : Grows old new) where
  same_writes : (ws : List (ℕ × Option V)) → AreKnown old ws → writes_by_path new ws ≡ writes_by_path old ws
  same_writes [] known = refl
  same_writes (w ∷ ws) known =
      let p : path_of new w.0 ≡ path_of old w.0 = same_path old new h h' grows w.0 (All-head (λ x. Knows old x.0) w ws known) in
      let r : writes_by_path new ws ≡ writes_by_path old ws = same_writes ws (All-tail (λ x. Knows old x.0) w ws known) in
      λ i. (p i, w.1) ∷ r i

  same_layers : (layers : List (List (ℕ × Option V))) → All (AreKnown old) layers → map (writes_by_path new) layers ≡ map (writes_by_path old) layers
  same_layers [] known = refl
  same_layers (ws ∷ layers) known =
      let p : writes_by_path new ws ≡ writes_by_path old ws = same_writes ws (All-head (AreKnown old) ws layers known) in
      let r : map (writes_by_path new) layers ≡ map (writes_by_path old) layers = same_layers layers (All-tail (AreKnown old) ws layers known) in
      λ i. p i ∷ r i

  same_staged : (o : Option (List (ℕ × Option V))) → AreKnown old (unwrap_or o []) → option_map (writes_by_path new) o ≡ option_map (writes_by_path old) o
  same_staged None known = refl
  same_staged (Some ws) known = ap Some (same_writes ws known)

  new_unused : (m : FinMap nat_cmp V) (q : List ℕ) (n : ℕ) → ((k : ℕ) (v : V) → get m k ≡ Some v → Knows old k) → get old.numbers q ≡ None → get new.numbers q ≡ Some n → (o : Option V) → get m n ≡ o → o ≡ None
  new_unused m q n base none is None e = refl
  new_unused m q n base none is (Some v) e =
      let known : Knows old n = base n v e in
      let a : Some q ≡ get new.texts n = sym (h'.there q n is) in
      let b : get new.texts n ≡ Some known.0 = h'.there known.0 n (grows known.0 n known.1) in
      let c : Some q ≡ Some known.0 = a ∙ b in
      let same : q ≡ known.0 = cc in
      let d : get old.numbers q ≡ Some n = ap (get old.numbers) same ∙ known.1 in
      let f : ◌≡◌ {A = Option ℕ} None (Some n) = sym none ∙ d in
      (cc)

  same_base : (m : FinMap nat_cmp V) → ((k : ℕ) (v : V) → get m k ≡ Some v → Knows old k) → by_path new m ≡ by_path old m
  same_base m base = same_map nat_list_cmp_total (slice_cmp-IsAntisymmetric nat_cmp-IsAntisymmetric) _ _ (λ q.
      get-by_path new m q ∙ each q (get old.numbers q) (get new.numbers q) refl refl ∙ sym (get-by_path old m q))
    where
      each : (q : List ℕ) (o r : Option ℕ) → get old.numbers q ≡ o → get new.numbers q ≡ r → option_and_then (get m) (get new.numbers q) ≡ option_and_then (get m) (get old.numbers q)
      each q (Some n) r e f = ap (option_and_then (get m)) (grows q n e ∙ sym e)
      each q None None e f = ap (option_and_then (get m)) (f ∙ sym e)
      each q None (Some n) e f = ap (option_and_then (get m)) f ∙ new_unused m q n base e f (get m n) refl ∙ sym (ap (option_and_then (get m)) e)

  pub grown_by_path : (l : Layering nat_cmp V) → IsNamed old l → layers_by_path new l ≡ layers_by_path old l
  grown_by_path l named =
      let b : by_path new l.base ≡ by_path old l.base = same_base l.base named.base in
      let s : map (writes_by_path new) l.layers ≡ map (writes_by_path old) l.layers = same_layers l.layers named.layers in
      let t : option_map (writes_by_path new) l.staged ≡ option_map (writes_by_path old) l.staged = same_staged l.staged named.staged in
      λ i. record { base = b i; layers = s i; staged = t i }

  pub grown_named : (l : Layering nat_cmp V) → IsNamed old l → IsNamed new l
  grown_named l named = record {
    base = λ n v e. known_still old new h h' grows n (named.base n v e);
    layers = All-weaker (AreKnown old) (AreKnown new) (λ ws k. All-weaker (λ w. Knows old w.0) (λ w. Knows new w.0) (λ w j. known_still old new h h' grows w.0 j) ws k) l.layers named.layers;
    staged = All-weaker (λ w. Knows old w.0) (λ w. Knows new w.0) (λ w j. known_still old new h h' grows w.0 j) (staged_of l) named.staged;
  }
