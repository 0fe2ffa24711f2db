-- A child's path is behind its parent's, and what is shown once a node is set.
use Rattle.std.proofs.Common.{◌≡◌, ℕ, zero, suc, ◌<◌, ◌+◌, ◌≤◌, Bool, true, false, not, cond, ◌||◌, List, [], ◌∷◌, length, take, set, get_or, Option, Some, None, is_some, refl, ap, sym, subst, ◌∙◌, arith}
use Rattle.std.specs.Prelude.{IsTrue, min, ◌==◌, if◌then◌else◌}
use Rattle.std.specs.Option.{option_map}
use Rattle.std.specs.Str.{bytes_eq}
use Rattle.std.specs.Ordering.{is_lt, ordering_then}
use Rattle.std.specs.declared.cmp.Ordering.TheVariants.{Less, Greater}
use Rattle.std.specs.List.{filter}
use Rattle.std.proofs.lemmas.List.Sums.{length-filter}
use Rattle.std.proofs.lemmas.Cmp.{tied_itself, nat_cmp_total}
use Rattle.std.specs.FinMap as map
use Rattle.std.specs.FinMap.{find, put}
use Rattle.kp_model.specs.declared.node.Meta.{Meta}
use Rattle.kp_model.specs.declared.node.Node.{Node}
use Rattle.kp_model.specs.Limits.{longest_field}
use Rattle.kp_model.specs.Path.{root, parent, before_slash, last_slash}
use Rattle.kp_model.specs.State.{Nodes, path_cmp, is_child, children, stat, meta_at, meta_of}
use Rattle.kp_cells.specs.Mapped.{mapped}
use Rattle.kp_cells.specs.Pouring.{one_more, grown}
use Rattle.kp_cells.proofs.Maps.{no, get-mapped}
use Rattle.kp_cells.proofs.Paths.{path_total, path_same, child_parent, IsWithin, slash_in}
use Rattle.kp_cells.proofs.Poured.{raised, metas_are, kids_of_shown}
use Rattle.std.proofs.lemmas.List.{get_or_default}
use Rattle.kp_plain.specs.Place.{StandsFor}
use Rattle.kp_plain.specs.declared.sorted.Place.TheVariants.{At}
use Rattle.kp_plain.specs.Beside.{NodeList, MetaList, as_map, child_count, raised_at, raised_parent, AreOrdered, AreShown}
use Rattle.kp_plain.proofs.SortedMap.{get_sorted, count_sorted, put_sorted, stays_sorted}
use Rattle.kp_plain.proofs.Shows.{ordered_put}

-- a beginning is before the whole
beginning : (q : List ℕ) (i : ℕ) → i < length q → path_cmp (take i q) q ≡ Less
beginning [] i lt = absurd (omega (arith, lt))
beginning (x ∷ xs) zero lt = refl
beginning (x ∷ xs) (suc i) lt = ap (λ o. ordering_then o (path_cmp (take i xs) xs)) (tied_itself nat_cmp_total x) ∙ beginning xs i (omega (arith, lt))

-- a child of a path but the root is behind it
above_parent : (q : List ℕ) (o : Option ℕ) → IsWithin o (length q) → bytes_eq (before_slash q o) root ≡ false → path_cmp (before_slash q o) q ≡ Less
above_parent q None w h = no (bytes_eq root root) h refl
above_parent q (Some i) w h = cases (i == 0) refl h where
  cases : (b : Bool) → (i == 0) ≡ b → bytes_eq (cond b root (take i q)) root ≡ false → path_cmp (cond b root (take i q)) q ≡ Less
  cases true e h = no (bytes_eq root root) h refl
  cases false e h = beginning q i w

pub child_above : (p q : List ℕ) → bytes_eq p root ≡ false → is_child p q ≡ true → path_cmp p q ≡ Less
unfolding parent
child_above p q inner h =
    let up : before_slash q (last_slash q) ≡ p = child_parent p q h in
    ap (λ z. path_cmp z q) (sym up) ∙ above_parent q (last_slash q) (slash_in q) (ap (λ z. bytes_eq z root) up ∙ inner)

-- a path behind another is not its parent, unless it is the root
no_child_here : (p q : List ℕ) → bytes_eq p root ≡ false → path_cmp p q ≡ Greater → is_child p q ≡ false
no_child_here p q inner behind = decide (is_child p q) refl where
  decide : (b : Bool) → is_child p q ≡ b → b ≡ false
  decide false e = refl
  decide true e = no (is_lt (path_cmp p q)) (ap is_lt behind) (ap is_lt (child_above p q inner e))

none_in : (nodes : NodeList) (p : List ℕ) → bytes_eq p root ≡ false → ((j : ℕ) (d : List ℕ × Node) → j < length nodes → path_cmp p (get_or nodes j d).0 ≡ Greater) → filter (λ (e : List ℕ × Node). is_child p e.0) nodes ≡ []
none_in [] p inner behind = refl
none_in (e ∷ es) p inner behind =
    ap (λ b. cond b (e ∷ filter (λ (x : List ℕ × Node). is_child p x.0) es) (filter (λ (x : List ℕ × Node). is_child p x.0) es)) (no_child_here p e.0 inner (behind zero e (omega arith)))
    ∙ none_in es p inner (λ j d lt. behind (suc j) d (omega (arith, lt)))

pub none_behind : (nodes : NodeList) (p : List ℕ) → bytes_eq p root ≡ false → ((j : ℕ) (d : List ℕ × Node) → j < length nodes → path_cmp p (get_or nodes j d).0 ≡ Greater) → child_count nodes p ≡ 0
none_behind nodes p inner behind = sym (length-filter (λ (e : List ℕ × Node). is_child p e.0) nodes) ∙ ap length (none_in nodes p inner behind)

pub isnt : (b : Bool) → not b ≡ true → b ≡ false
isnt true e = no false refl e
isnt false e = refl

-- one child more is shown of the node that stands there
pub raised_here : (metas : MetaList) (q : List ℕ) (i : ℕ) (d e : List ℕ × Meta) (kids : ℕ) → StandsFor path_cmp q metas (At i) → kids ≡ min ((get_or metas i d).1.kids + 1) 2147483647
    → set metas i ((get_or metas i e).0, record (get_or metas i e).1 { kids = kids }) ≡ raised_at q (find path_cmp q metas) metas
raised_here metas q i d e kids h is =
    let u : Meta = (get_or metas i e).1 in
    let more : record u { kids = kids } ≡ one_more u = ap (λ n. record u { kids = n }) (is ∙ ap (λ (x : List ℕ × Meta). min (x.1.kids + 1) 2147483647) (get_or_default metas i d e h.0)) in
    ap (λ m. set metas i ((get_or metas i e).0, m)) more
    ∙ ap (λ (x : List ℕ × Meta). set metas i (x.0, one_more u)) (get_or_default metas i e (q, one_more u) h.0)
    ∙ sym (h.1 (one_more u))
    ∙ ap (λ o. raised_at q o metas) (ap (λ (x : List ℕ × Meta). Some x.1) (get_or_default metas i e (q, e.1) h.0) ∙ sym (h.2 e.1))

-- what is shown, as one map
shown_map : (nodes : NodeList) (metas : MetaList) → AreShown nodes metas → map.from_sorted {R = path_cmp} metas ≡ mapped (stat (as_map nodes)) (as_map nodes)
unfolding meta_at
shown_map nodes metas h = map.same_map path_total path_same _ _ (λ q. h.shown q ∙ sym (get-mapped path_total path_same (stat (as_map nodes)) (as_map nodes) q))

-- the parent's numbers, in the list and in the map
raised_list : (q : List ℕ) (o : Option Meta) (metas : MetaList) → IsTrue (map.is_sorted path_cmp metas) → IsTrue (map.is_sorted path_cmp (raised_at q o metas))
raised_list q None metas s = s
raised_list q (Some u) metas s = stays_sorted path_total q (one_more u) metas s

raised_map : (q : List ℕ) (o : Option Meta) (metas : MetaList) → IsTrue (map.is_sorted path_cmp metas) → map.from_sorted {R = path_cmp} (raised_at q o metas) ≡ raised (map.from_sorted metas) q (option_map one_more o)
raised_map q None metas s = refl
raised_map q (Some u) metas s = put_sorted path_total q (one_more u) metas s

module _ (p : List ℕ) (metas : MetaList) (s : IsTrue (map.is_sorted path_cmp metas)) where
  parent_list : (b : Bool) → IsTrue (map.is_sorted path_cmp (if b then metas else raised_at (parent p) (find path_cmp (parent p) metas) metas))
  parent_list true = s
  parent_list false = raised_list (parent p) (find path_cmp (parent p) metas) metas s

  pub parent_sorted : IsTrue (map.is_sorted path_cmp (raised_parent p metas))
  parent_sorted = parent_list (is_some (find path_cmp p metas) || bytes_eq p root)

  parent_map : (b : Bool) → map.from_sorted {R = path_cmp} (if b then metas else raised_at (parent p) (find path_cmp (parent p) metas) metas) ≡ raised (map.from_sorted metas) (parent p) (if b then None else option_map one_more (find path_cmp (parent p) metas))
  parent_map true = refl
  parent_map false = raised_map (parent p) (find path_cmp (parent p) metas) metas s

  parent_is : map.from_sorted {R = path_cmp} (raised_parent p metas) ≡ raised (map.from_sorted metas) (parent p) (grown (map.from_sorted metas) p)
  parent_is =
      parent_map (is_some (find path_cmp p metas) || bytes_eq p root)
      ∙ (λ i. raised (map.from_sorted metas) (parent p) (if is_some (sym (get_sorted path_cmp metas p s) i) || bytes_eq p root then None else option_map one_more (sym (get_sorted path_cmp metas (parent p) s) i)))

-- ---- a node is set
module _ (nodes : NodeList) (metas : MetaList) (p : List ℕ) (n : Node) (h : AreShown nodes metas) (fits : length n.bytes ≤ longest_field) where
  abbrev all : Nodes
  all = as_map nodes

  abbrev own : Meta
  own = meta_of (length (children all p)) n

  metas_now : map.from_sorted {R = path_cmp} (put path_cmp p own (raised_parent p metas)) ≡ mapped (stat (map.insert all p n)) (map.insert all p n)
  metas_now =
      put_sorted path_total p own (raised_parent p metas) (parent_sorted p metas h.sorted)
      ∙ ap (λ z. map.insert z p own) (parent_is p metas h.sorted ∙ (λ i. raised (shown_map nodes metas h i) (parent p) (grown (shown_map nodes metas h i) p)))
      ∙ metas_are all p n

  set_shown : AreShown (put path_cmp p n nodes) (put path_cmp p own (raised_parent p metas))
  unfolding meta_at
  set_shown = record {
    ordered = ordered_put nodes p n h.ordered fits;
    sorted = stays_sorted path_total p own (raised_parent p metas) (parent_sorted p metas h.sorted);
    shown = λ q.
        ap (λ z. map.get z q) metas_now
        ∙ get-mapped path_total path_same (stat (map.insert all p n)) (map.insert all p n) q
        ∙ ap (λ (z : Nodes). option_map (stat z q) (map.get z q)) (sym (put_sorted path_total p n nodes h.ordered.sorted));
  }

  -- in the words of the call
  pub put_shown : (new : NodeList) (shown : MetaList) (key key' : List ℕ) (kids : ℕ) → key ≡ p → key' ≡ p → kids ≡ min (length (children all p)) 2147483647 → new ≡ put path_cmp key n nodes → shown ≡ put path_cmp key' (record (meta_of 0 n) { kids = kids }) (raised_parent key' metas) → AreShown new shown
  put_shown new shown key key' kids e e' k is is' =
      let set : new ≡ put path_cmp p n nodes = is ∙ ap (λ x. put path_cmp x n nodes) e in
      let show : shown ≡ put path_cmp p own (raised_parent p metas) = is' ∙ (λ i. put path_cmp (e' i) (record (meta_of 0 n) { kids = k i }) (raised_parent (e' i) metas)) in
      subst (λ xs. AreShown xs shown) (sym set) (subst (AreShown (put path_cmp p n nodes)) (sym show) set_shown)

  pub put_is : (new : NodeList) (m : Nodes) (key : List ℕ) → all ≡ m → key ≡ p → new ≡ put path_cmp key n nodes → as_map new ≡ map.insert m p n
  put_is new m key view e is = ap as_map (is ∙ ap (λ x. put path_cmp x n nodes) e) ∙ put_sorted path_total p n nodes h.ordered.sorted ∙ ap (λ z. map.insert z p n) view

-- how many children are shown of a path
pub kids_there : (nodes : Nodes) (p : List ℕ) (m : Meta) → Some m ≡ meta_at nodes p → m.kids ≡ min (length (children nodes p)) 2147483647
unfolding meta_at
kids_there nodes p m e = kids_of_shown nodes p m (map.get nodes p) e

pub kids_new : (nodes : NodeList) (m : Nodes) (p : List ℕ) → AreOrdered nodes → as_map nodes ≡ m → min (child_count nodes p) 2147483647 ≡ min (length (children m p)) 2147483647
unfolding children
kids_new nodes m p o view = ap (λ n. min n 2147483647) (sym (count_sorted path_cmp (is_child p) nodes o.sorted) ∙ ap (λ z. length (children z p)) view)
