-- What is shown beside the nodes stays that of the nodes.
use Rattle.std.proofs.Common.{◌≡◌, ℕ, ◌≤◌, Bool, true, false, not, cond, List, [], length, Option, Some, None, refl, ap, sym, subst, ◌∙◌}
use Rattle.std.specs.Prelude.{IsTrue}
use Rattle.std.specs.Option.{option_map}
use Rattle.std.specs.Ordering.{eq_by_cmp}
use Rattle.std.specs.Str.{bytes_eq}
use Rattle.std.proofs.lemmas.Slice.Eq.{bytes_eq-Decides}
use Rattle.std.specs.FinMap as map
use Rattle.std.specs.FinMap.{FinMap, find, put}
use Rattle.std.specs.FinMap.Entries.{where_key}
use Rattle.kp_model.specs.declared.node.Meta.{Meta}
use Rattle.kp_model.specs.declared.node.Node.{Node}
use Rattle.kp_model.specs.declared.node.Seen.{Seen}
use Rattle.kp_model.specs.Limits.{longest_field}
use Rattle.kp_model.specs.Path.{root, parent, last_slash}
use Rattle.kp_model.specs.State.{Nodes, path_cmp, children, is_child, meta_of, meta_at, stat, seen}
use Rattle.kp_model.proofs.Maps.{no_value, same_value, each_inserted, each_removed}
use Rattle.kp_cells.proofs.Maps.{tied}
use Rattle.kp_cells.proofs.Paths.{path_total, path_same}
use Rattle.kp_cells.proofs.Kids.{count-without}
use Rattle.kp_act.proofs.Seen.{meta_some}
use Rattle.kp_plain.specs.Beside.{NodeList, MetaList, as_map, child_count, with_shown, shown_again, both_again, AreOrdered, AreShown}
use Rattle.kp_plain.proofs.SortedMap.{get_sorted, count_sorted, stays_sorted, put_sorted, stays_sorted_without, remove_sorted}

-- what is shown, as a finite map
abbrev metas_of : MetaList → FinMap path_cmp Meta
metas_of metas = map.from_sorted metas

-- what is shown of a node is told from the list
stat_counted : (nodes : NodeList) (p : List ℕ) (n : Node) → IsTrue (map.is_sorted path_cmp nodes) → meta_of (child_count nodes p) n ≡ stat (as_map nodes) p n
unfolding stat children
stat_counted nodes p n h = ap (λ c. meta_of c n) (sym (count_sorted path_cmp (is_child p) nodes h))

on_key : (q p : List ℕ) (b : Bool) → eq_by_cmp path_cmp q p ≡ b → (x y z : Option Meta) → (q ≡ p → x ≡ y) → cond b x z ≡ cond b y z
on_key q p true e x y z h = h (tied path_same q p e)
on_key q p false e x y z h = refl

-- one path is shown as it is now, and the others as before
get_again : (nodes : NodeList) (p : List ℕ) (metas : MetaList) → AreOrdered nodes → IsTrue (map.is_sorted path_cmp metas) → (q : List ℕ)
    → map.get (metas_of (shown_again nodes p metas)) q ≡ cond (eq_by_cmp path_cmp q p) (meta_at (as_map nodes) q) (map.get (metas_of metas) q)
unfolding meta_at
get_again nodes p metas o s q = cases (find path_cmp p nodes) refl where
  now : (r : Option Node) → find path_cmp p nodes ≡ r → q ≡ p → meta_at (as_map nodes) q ≡ option_map (stat (as_map nodes) p) r
  now r e same = ap (meta_at (as_map nodes)) same ∙ ap (option_map (stat (as_map nodes) p)) (get_sorted path_cmp nodes p o.sorted ∙ e)

  cases : (r : Option Node) → find path_cmp p nodes ≡ r → map.get (metas_of (with_shown nodes p r metas)) q ≡ cond (eq_by_cmp path_cmp q p) (meta_at (as_map nodes) q) (map.get (metas_of metas) q)
  cases None e = ap (λ m. map.get m q) (remove_sorted path_total path_same p metas s)
      ∙ map.get-remove path_total (metas_of metas) p q
      ∙ on_key q p (eq_by_cmp path_cmp q p) refl None (meta_at (as_map nodes) q) (map.get (metas_of metas) q) (λ same. sym (now None e same))
  cases (Some n) e = ap (λ m. map.get m q) (put_sorted path_total p (meta_of (child_count nodes p) n) metas s)
      ∙ map.get-insert path_total (metas_of metas) p (meta_of (child_count nodes p) n) q
      ∙ on_key q p (eq_by_cmp path_cmp q p) refl (Some (meta_of (child_count nodes p) n)) (meta_at (as_map nodes) q) (map.get (metas_of metas) q) (λ same. ap Some (stat_counted nodes p n o.sorted) ∙ sym (now (Some n) e same))

pub again_sorted : (nodes : NodeList) (p : List ℕ) (metas : MetaList) → IsTrue (map.is_sorted path_cmp metas) → IsTrue (map.is_sorted path_cmp (shown_again nodes p metas))
again_sorted nodes p metas s = cases (find path_cmp p nodes) where
  cases : (r : Option Node) → IsTrue (map.is_sorted path_cmp (with_shown nodes p r metas))
  cases None = stays_sorted_without path_total p metas s
  cases (Some n) = stays_sorted path_total p (meta_of (child_count nodes p) n) metas s

-- what was shown of the other paths is still right
shows_both : (nodes : NodeList) (p : List ℕ) (metas : MetaList) → AreOrdered nodes → IsTrue (map.is_sorted path_cmp metas)
    → ((q : List ℕ) → eq_by_cmp path_cmp q p ≡ false → eq_by_cmp path_cmp q (parent p) ≡ false → map.get (metas_of metas) q ≡ meta_at (as_map nodes) q)
    → AreShown nodes (both_again nodes p metas)
shows_both nodes p metas o s rest = record {
  ordered = o;
  sorted = again_sorted nodes (parent p) (shown_again nodes p metas) (again_sorted nodes p metas s);
  shown = λ q.
      get_again nodes (parent p) (shown_again nodes p metas) o (again_sorted nodes p metas s) q
      ∙ ap (cond (eq_by_cmp path_cmp q (parent p)) (meta_at (as_map nodes) q)) (get_again nodes p metas o s q)
      ∙ either q (eq_by_cmp path_cmp q (parent p)) refl (eq_by_cmp path_cmp q p) refl;
} where
  either : (q : List ℕ) (b : Bool) → eq_by_cmp path_cmp q (parent p) ≡ b → (c : Bool) → eq_by_cmp path_cmp q p ≡ c
      → cond b (meta_at (as_map nodes) q) (cond c (meta_at (as_map nodes) q) (map.get (metas_of metas) q)) ≡ meta_at (as_map nodes) q
  either q true e c f = refl
  either q false e true f = refl
  either q false e false f = rest q f e

-- a node that is there as before, with as many children, is shown as before
same_shown : (old new : Nodes) (q : List ℕ) → map.get new q ≡ map.get old q → length (children new q) ≡ length (children old q) → meta_at old q ≡ meta_at new q
unfolding meta_at stat
same_shown old new q there count = cases (map.get old q) ∙ ap (option_map (stat new q)) (sym there) where
  cases : (o : Option Node) → option_map (stat old q) o ≡ option_map (stat new q) o
  cases None = refl
  cases (Some n) = ap (λ c. Some (meta_of c n)) (sym count)

pub ordered_put : (nodes : NodeList) (p : List ℕ) (n : Node) → AreOrdered nodes → length n.bytes ≤ longest_field → AreOrdered (put path_cmp p n nodes)
ordered_put nodes p n o fits = record {
  sorted = stays_sorted path_total p n nodes o.sorted;
  fits = subst (λ (m : Nodes). (q : List ℕ) (x : Node) → map.get m q ≡ Some x → length x.bytes ≤ longest_field) (sym (put_sorted path_total p n nodes o.sorted))
      (each_inserted path_total path_same (λ q (x : Node). length x.bytes ≤ longest_field) (as_map nodes) p n fits o.fits);
}

ordered_without : (nodes : NodeList) (p : List ℕ) → AreOrdered nodes → AreOrdered (where_key path_cmp (λ q. not (eq_by_cmp path_cmp p q)) nodes)
ordered_without nodes p o = record {
  sorted = stays_sorted_without path_total p nodes o.sorted;
  fits = subst (λ (m : Nodes). (q : List ℕ) (x : Node) → map.get m q ≡ Some x → length x.bytes ≤ longest_field) (sym (remove_sorted path_total path_same p nodes o.sorted))
      (each_removed path_total path_same (λ q (x : Node). length x.bytes ≤ longest_field) (as_map nodes) p o.fits);
}

-- a node is taken away
pub shows_without : (nodes : NodeList) (metas : MetaList) (p : List ℕ) → AreShown nodes metas
    → AreShown (where_key path_cmp (λ q. not (eq_by_cmp path_cmp p q)) nodes) (both_again (where_key path_cmp (λ q. not (eq_by_cmp path_cmp p q)) nodes) p metas)
shows_without nodes metas p h = shows_both (where_key path_cmp (λ q. not (eq_by_cmp path_cmp p q)) nodes) p metas (ordered_without nodes p h.ordered) h.sorted (λ q apart above.
    h.shown q
    ∙ same_shown (as_map nodes) (map.remove (as_map nodes) p) q (map.get-remove path_total (as_map nodes) p q ∙ ap (λ b. cond b None (map.get (as_map nodes) q)) apart) (count-without (as_map nodes) p q above)
    ∙ ap (λ m. meta_at m q) (sym (remove_sorted path_total path_same p nodes h.ordered.sorted)))

-- nothing is shown of no nodes
pub shows_none : AreShown [] []
unfolding meta_at
shows_none = record {
  ordered = record { sorted = refl; fits = λ q n found. absurd (no_value n (sym found ∙ get_sorted path_cmp [] q refl)) };
  sorted = refl;
  shown = λ q. get_sorted path_cmp [] q refl ∙ sym (ap (option_map (stat (as_map []) q)) (get_sorted path_cmp [] q refl));
}

-- the nodes without one
abbrev pub others : List ℕ → NodeList → NodeList
others p nodes = where_key path_cmp (λ q. not (eq_by_cmp path_cmp p q)) nodes

pub gone_ordered : (nodes new : NodeList) (k : List ℕ) → AreOrdered nodes → new ≡ others k nodes → AreOrdered new
gone_ordered nodes new k o same = subst AreOrdered (sym same) (ordered_without nodes k o)

pub gone_shown : (nodes new slice : NodeList) (metas shown : MetaList) (k p : List ℕ) → AreShown nodes metas → k ≡ p → new ≡ others k nodes → slice ≡ new → shown ≡ both_again slice p metas → AreShown new shown
gone_shown nodes new slice metas shown k p h key same all again =
    let gone : new ≡ others p nodes = same ∙ ap (λ x. others x nodes) key in
    subst (λ xs. AreShown xs shown) (sym gone) (
    subst (AreShown (others p nodes)) (sym (again ∙ ap (λ xs. both_again xs p metas) (all ∙ gone))) (shows_without nodes metas p h))

pub gone_is : (nodes new : NodeList) (m : Nodes) (k p : List ℕ) → IsTrue (map.is_sorted path_cmp nodes) → as_map nodes ≡ m → k ≡ p → new ≡ others k nodes → as_map new ≡ map.remove m p
gone_is nodes new m k p sorted view key same =
    ap as_map (same ∙ ap (λ x. others x nodes) key) ∙ remove_sorted path_total path_same p nodes sorted ∙ ap (λ z. map.remove z p) view

-- the data of a node that is found fits
pub found_fits : (nodes : NodeList) (p : List ℕ) (n : Node) → AreOrdered nodes → Some n ≡ find path_cmp p nodes → length n.bytes ≤ longest_field
found_fits nodes p n o found = o.fits p n (get_sorted path_cmp nodes p o.sorted ∙ sym found)

-- the root is its own parent
pub root_above : (path : List ℕ) → bytes_eq path root ≡ true → root ≡ parent path
unfolding parent last_slash
root_above path e = sym (ap parent ((bytes_eq-Decides path root).0 e))

-- what is lent of a path
pub meta_shown : (nodes : NodeList) (metas : MetaList) (p : List ℕ) → AreShown nodes metas → find path_cmp p metas ≡ meta_at (as_map nodes) p
meta_shown nodes metas p h = sym (get_sorted path_cmp metas p h.sorted) ∙ h.shown p

-- nothing is seen of a path without a node
pub seen_none : (nodes : Nodes) (p : List ℕ) → map.get nodes p ≡ None → None ≡ seen nodes p
unfolding seen
seen_none nodes p e = sym (ap (option_map (λ (n : Node). let s : Seen = record { bytes = n.bytes; meta = stat nodes p n } in s)) e)

-- what is seen of a node is its data, with what is shown of it
pub seen_some : (nodes : Nodes) (p b : List ℕ) (n : Node) (m : Meta) → Some n ≡ map.get nodes p → Some m ≡ meta_at nodes p → b ≡ n.bytes → Some (record { bytes = b; meta = m }) ≡ seen nodes p
unfolding seen
seen_some nodes p b n m there shown same =
    let x = meta_some nodes p m shown in
    let found : n ≡ x.0 = same_value n x.0 (there ∙ x.1) in
    (λ j. Some (record { bytes = (same ∙ ap (λ (y : Node). y.bytes) found) j; meta = x.2 j }))
    ∙ sym (ap (option_map (λ (y : Node). let s : Seen = record { bytes = y.bytes; meta = stat nodes p y } in s)) x.1)
