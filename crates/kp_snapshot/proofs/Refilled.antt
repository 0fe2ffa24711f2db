-- The parts of a snapshot, put into the empty state, make its state.
use Rattle.std.proofs.Common.{◌≡◌, ℕ, ◌+◌, Bool, true, false, cond, T, List, [], ◌∷◌, length, Option, Some, None, Ok, refl, sym, ap, subst, ◌∙◌}
use Rattle.std.specs.Prelude.{◌&&◌}
use Rattle.std.proofs.lemmas.List.{append-nil}
use Rattle.std.specs.Cmp.{IsTotalOrder, nat_cmp_total}
use Rattle.std.specs.Cmp.Lexicographic.{nat_list_cmp_total}
use Rattle.std.specs.Ordering.{is_lt, is_eq, eq_by_cmp}
use Rattle.std.specs.declared.cmp.Ordering.{Ordering}
use Rattle.std.specs.declared.cmp.Ordering.TheVariants.{Equal}
use Rattle.std.specs.FinMap as map
use Rattle.std.specs.FinMap.{FinMap, IsAntisymmetric, find, is_sorted, slice_cmp-IsAntisymmetric, nat_cmp-IsAntisymmetric}
use Rattle.std.specs.FinMap.Entries.{below_all}
use Rattle.std.proofs.lemmas.Slice.Eq.{bytes_eq-Decides}
use Rattle.kp_jute.specs.Form.{Place, front}
use Rattle.kp_jute.proofs.Combined.{ok_is}
use Rattle.kp_model.specs.Path.{root}
use Rattle.kp_model.specs.State.{State, empty, blank_node}
use Rattle.kp_model.specs.Poured.{started}
use Rattle.kp_snapshot.specs.Rules.{Numbered, Placed, numbers_of}
use Rattle.kp_snapshot.specs.Images.{Parts, parts, nodes}
use Rattle.kp_snapshot.specs.Snapshots.{Snapshot, images, parts_of}
use Rattle.kp_snapshot.specs.Filled.{with_sessions, with_nodes, with_parts}
use Rattle.kp_snapshot.proofs.ImageLaws.{parts_lawful}
use Rattle.kp_snapshot.proofs.Tracked.{less_of, equal_of}

first : (a b : Bool) → T (a && b) → T a
first true b h = tt
first false b h = absurd h

second : (a b : Bool) → T (a && b) → T b
second true b h = h
second false b h = absurd h

from_T : (b : Bool) → T b → b ≡ true
from_T true h = refl
from_T false h = absurd h

-- ---- entries put into a map

module _ {K X : Type 0} {R : K → K → Ordering} (o : IsTotalOrder R) where
  pub inserted : FinMap R X → List (K × X) → FinMap R X
  inserted m [] = m
  inserted m (e ∷ es) = inserted (map.insert m e.0 e.1) es

  or_else : Option X → Option X → Option X
  or_else (Some x) other = Some x
  or_else None other = other

  none_after : (k q : K) (es : List (K × X)) → T (below_all R k es) → R q k ≡ Equal → find R q es ≡ None
  none_after k q [] below tie = refl
  none_after k q (e ∷ es) below tie =
      let less = less_of (R k e.0) (from_T (is_lt (R k e.0)) (first (is_lt (R k e.0)) (below_all R k es) below)) in
      ap (λ (t : Bool). cond t (Some e.1) (find R q es)) (ap is_eq (o.congr q k e.0 tie ∙ less))
      ∙ none_after k q es (second (is_lt (R k e.0)) (below_all R k es) below) tie

  get-inserted : (es : List (K × X)) (m : FinMap R X) (q : K) → T (is_sorted R es) → map.get (inserted m es) q ≡ or_else (find R q es) (map.get m q)
  unfolding inserted or_else
  get-inserted [] m q sorted = refl
  get-inserted (e ∷ es) m q sorted =
      get-inserted es (map.insert m e.0 e.1) q (second (below_all R e.0 es) (is_sorted R es) sorted)
      ∙ ap (or_else (find R q es)) (map.get-insert o m e.0 e.1 q)
      ∙ by (eq_by_cmp R q e.0) refl
    where
      by : (t : Bool) → eq_by_cmp R q e.0 ≡ t → or_else (find R q es) (cond t (Some e.1) (map.get m q)) ≡ or_else (cond t (Some e.1) (find R q es)) (map.get m q)
      by true tie = ap (λ (f : Option X). or_else f (Some e.1)) (none_after e.0 q es (first (below_all R e.0 es) (is_sorted R es) sorted) (equal_of (R q e.0) tie))
      by false tie = refl

  or_none : (f : Option X) → or_else f None ≡ f
  unfolding or_else
  or_none (Some x) = refl
  or_none None = refl

  pub inserted_all : IsAntisymmetric R → (m : FinMap R X) → inserted map.empty (map.entries m) ≡ m
  inserted_all same m = map.same_map o same (inserted map.empty (map.entries m)) m (λ q.
      get-inserted (map.entries m) map.empty q (map.entries_sorted m)
      ∙ ap (or_else (find R q (map.entries m))) (map.get-empty R q)
      ∙ or_none (find R q (map.entries m))
      ∙ sym (map.get-entries m q))

  found_first : (q k : K) (e : K × X) (es : List (K × X)) (x : Option X) → e.0 ≡ k → eq_by_cmp R q k ≡ true → or_else (find R q (e ∷ es)) x ≡ find R q (e ∷ es)
  unfolding or_else
  found_first q k e es x is tie =
      let here : eq_by_cmp R q e.0 ≡ true = ap (eq_by_cmp R q) is ∙ tie in
      ap (λ (t : Bool). or_else (cond t (Some e.1) (find R q es)) x) here ∙ sym (ap (λ (t : Bool). cond t (Some e.1) (find R q es)) here)

  -- what is there already is replaced where the first entry has its key
  pub inserted_over : IsAntisymmetric R → (m : FinMap R X) (k : K) (v : X) (e : K × X) (es : List (K × X)) → map.entries m ≡ e ∷ es → e.0 ≡ k → inserted (map.insert map.empty k v) (map.entries m) ≡ m
  inserted_over same m k v e es is first = map.same_map o same (inserted (map.insert map.empty k v) (map.entries m)) m (λ q.
      get-inserted (map.entries m) (map.insert map.empty k v) q (map.entries_sorted m)
      ∙ ap (or_else (find R q (map.entries m))) (map.get-insert o map.empty k v q ∙ ap (cond (eq_by_cmp R q k) (Some v)) (map.get-empty R q))
      ∙ by q (eq_by_cmp R q k) refl
      ∙ sym (map.get-entries m q))
    where
      by : (q : K) (t : Bool) → eq_by_cmp R q k ≡ t → or_else (find R q (map.entries m)) (cond t (Some v) None) ≡ find R q (map.entries m)
      by q true tie = subst (λ (fs : List (K × X)). or_else (find R q fs) (Some v) ≡ find R q fs) (sym is) (found_first q k e es (Some v) first tie)
      by q false tie = or_none (find R q (map.entries m))

-- ---- the parts of a state

sessions_in : (s : State) (xs : List Numbered) → with_sessions s xs ≡ record s { sessions = inserted nat_cmp_total s.sessions xs }
unfolding inserted
sessions_in s [] = refl
sessions_in s (x ∷ xs) = sessions_in (record s { sessions = map.insert s.sessions x.0 x.1 }) xs

nodes_in : (s : State) (xs : List Placed) → with_nodes s xs ≡ record s { nodes = inserted nat_list_cmp_total s.nodes xs }
unfolding inserted
nodes_in s [] = refl
nodes_in s (x ∷ xs) = nodes_in (record s { nodes = map.insert s.nodes x.0 x.1 }) xs

-- the first node is the root
pub root_first : (index : ℕ) (ids : List ℕ) (ns : List Placed) → (nodes index ids).Fits ns → (e : Placed) × (es : List Placed) × (ns ≡ e ∷ es) × (e.0 ≡ root)
root_first index ids [] fits = absurd (let bad : false ≡ true = fits.1 in cc)
root_first index ids (x ∷ xs) fits = (x, xs, refl, (bytes_eq-Decides x.0 root).0 fits.0.1.0.0.1)

pub refilled : (s : Snapshot) → images.Fits s → with_parts empty (parts_of s) ≡ s.state
unfolding empty
refilled s fits =
    let st = s.state in
    let r = root_first st.applied (numbers_of (map.entries st.sessions)) (map.entries st.nodes) fits.1.1.1.1.1 in
    let begun : State = started empty st.applied st.next in
    let a : with_sessions begun (map.entries st.sessions) ≡ record begun { sessions = st.sessions } = sessions_in begun (map.entries st.sessions) ∙ ap (λ m. record begun { sessions = m }) (inserted_all nat_cmp_total nat_cmp-IsAntisymmetric st.sessions) in
    ap (λ (z : State). with_nodes z (map.entries st.nodes)) a
    ∙ nodes_in (record begun { sessions = st.sessions }) (map.entries st.nodes)
    ∙ ap (λ m. record { nodes = m; sessions = st.sessions; next = st.next; applied = st.applied }) (inserted_over nat_list_cmp_total (slice_cmp-IsAntisymmetric nat_cmp-IsAntisymmetric) st.nodes root blank_node r.0 r.1 r.2 r.3)

parts_again : (s : Snapshot) (bytes : List ℕ) (p q : Place) (t : Parts) → images.Fits s → bytes ≡ images.spell s → p ≡ front 0 bytes → parts.read p ≡ Ok (t, q) → t ≡ parts_of s
parts_again s bytes p q t fits e at read =
    let spelled = parts.spell (parts_of s) in
    let again : parts.read (front 0 bytes) ≡ Ok (parts_of s, front (0 + length spelled) []) = ap (λ (b : List ℕ). parts.read (front 0 b)) (e ∙ sym (append-nil spelled)) ∙ parts_lawful.again (parts_of s) 0 [] fits in
    ap (λ (x : Parts × Place). x.0) (ok_is (t, q) (parts_of s, front (0 + length spelled) []) (sym read ∙ ap (λ (z : Place). parts.read z) at ∙ again))

pub poured_all : (s : Snapshot) (bytes : List ℕ) (p q : Place) (t : Parts) (old new : State) → images.Fits s → bytes ≡ images.spell s → p ≡ front 0 bytes → parts.read p ≡ Ok (t, q) → old ≡ empty → new ≡ with_parts old t → new ≡ s.state
poured_all s bytes p q t old new fits e at read none is =
    is ∙ (λ i. with_parts (none i) (parts_again s bytes p q t fits e at read i)) ∙ refilled s fits
