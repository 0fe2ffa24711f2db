-- What is kept of the nodes before, from one node to the next.
use Rattle.std.proofs.Common.{◌≡◌, ℕ, ◌<◌, Bool, true, false, cond, List, [], ◌∷◌, ◌++◌, length, take, Some, None, refl, sym, ap, ◌∙◌, arith}
use Rattle.std.specs.Prelude.{◌&&◌, ◌==◌}
use Rattle.std.specs.List.{list_all}
use Rattle.std.specs.Option.{option_map_or}
use Rattle.std.specs.Ordering.{is_lt, is_eq, eq_by_cmp, ordering_reverse}
use Rattle.std.specs.Cmp.Lexicographic.{nat_list_cmp_total}
use Rattle.std.specs.declared.cmp.Ordering.{Ordering}
use Rattle.std.specs.declared.cmp.Ordering.TheVariants.{Less, Equal, Greater}
use Rattle.std.specs.FinMap.{find, slice_cmp-IsAntisymmetric, nat_cmp-IsAntisymmetric}
use Rattle.std.proofs.lemmas.Cmp.{tied_itself}
use Rattle.std.proofs.lemmas.List.{length-take}
use Rattle.std.proofs.lemmas.List.Folds.{list_all-append}
use Rattle.std.proofs.lemmas.Slice.Eq.{bytes_eq-Decides}
use Rattle.kp_model.specs.declared.node.Node.{Node}
use Rattle.kp_model.specs.Path.{root, parent, is_well_formed, is_empty}
use Rattle.kp_model.specs.State.{path_cmp}
use Rattle.kp_snapshot.specs.Rules.{Placed, is_open, may_be_path}
use Rattle.kp_snapshot.specs.Ups.{ChangedAt}
use Rattle.kp_snapshot.specs.Knowing.{EndsAt, Tracks}
use Rattle.kp_snapshot.proofs.Ordered.{left, right, path_rises}

pub less_of : (o : Ordering) → is_lt o ≡ true → o ≡ Less
less_of Less e = refl
less_of Equal e = absurd cc
less_of Greater e = absurd cc

pub equal_of : (o : Ordering) → is_eq o ≡ true → o ≡ Equal
equal_of Less e = absurd cc
equal_of Equal e = refl
equal_of Greater e = absurd cc

-- what is behind another doesn't tie with it
pub apart : (a b : List ℕ) → path_cmp a b ≡ Less → eq_by_cmp path_cmp b a ≡ false
apart a b e = ap is_eq (nat_list_cmp_total.antisymm b a ∙ ap ordering_reverse e)

-- the whole doesn't tie with what it begins with
shorter : (l : ℕ) (p : List ℕ) → l < length p → eq_by_cmp path_cmp (take l p) p ≡ false
shorter l p lt = by (eq_by_cmp path_cmp (take l p) p) refl
  where
    by : (t : Bool) → eq_by_cmp path_cmp (take l p) p ≡ t → t ≡ false
    by false e = refl
    by true e =
        let same : take l p ≡ p = slice_cmp-IsAntisymmetric nat_cmp-IsAntisymmetric (take l p) p (equal_of (path_cmp (take l p) p) e) in
        absurd (omega (arith, lt, length-take l p, ap (λ (q : List ℕ). length q) same))

is_open_other : (us : List Placed) (k : List ℕ) (n : Node) (q : List ℕ) → eq_by_cmp path_cmp q k ≡ false → is_open (us ++ (k, n) ∷ []) q ≡ is_open us q
is_open_other [] k n q e = ap (λ (t : Bool). option_map_or (λ (n : Node). n.owner == 0) (cond t (Some n) None) false) e
is_open_other (u ∷ us) k n q e = by (eq_by_cmp path_cmp q u.0) (is_open_other us k n q e)
  where
    by : (t : Bool) → is_open (us ++ (k, n) ∷ []) q ≡ is_open us q → option_map_or (λ (n : Node). n.owner == 0) (cond t (Some u.1) (find path_cmp q (us ++ (k, n) ∷ []))) false ≡ option_map_or (λ (n : Node). n.owner == 0) (cond t (Some u.1) (find path_cmp q us)) false
    by true more = refl
    by false more = more

is_open_here : (us : List Placed) (k : List ℕ) (n : Node) → list_all (λ (u : Placed). is_lt (path_cmp u.0 k)) us ≡ true → is_open (us ++ (k, n) ∷ []) k ≡ (n.owner == 0)
is_open_here [] k n e = ap (λ (t : Bool). option_map_or (λ (n : Node). n.owner == 0) (cond t (Some n) None) false) (ap is_eq (tied_itself nat_list_cmp_total k))
is_open_here (u ∷ us) k n e =
    let below = less_of (path_cmp u.0 k) (left (is_lt (path_cmp u.0 k)) (list_all (λ (u : Placed). is_lt (path_cmp u.0 k)) us) e) in
    ap (λ (t : Bool). option_map_or (λ (n : Node). n.owner == 0) (cond t (Some u.1) (find path_cmp k (us ++ (k, n) ∷ []))) false) (apart u.0 k below)
    ∙ is_open_here us k n (right (is_lt (path_cmp u.0 k)) (list_all (λ (u : Placed). is_lt (path_cmp u.0 k)) us) e)

all_below : (us : List Placed) (k p : List ℕ) → list_all (λ (u : Placed). is_lt (path_cmp u.0 k)) us ≡ true → path_cmp k p ≡ Less → list_all (λ (u : Placed). is_lt (path_cmp u.0 p)) us ≡ true
all_below [] k p e less = refl
all_below (u ∷ us) k p e less =
    let first = nat_list_cmp_total.trans u.0 k p (less_of (path_cmp u.0 k) (left (is_lt (path_cmp u.0 k)) (list_all (λ (u : Placed). is_lt (path_cmp u.0 k)) us) e)) less in
    let more = all_below us k p (right (is_lt (path_cmp u.0 k)) (list_all (λ (u : Placed). is_lt (path_cmp u.0 k)) us) e) less in
    ap (λ (t : Bool). t && list_all (λ (u : Placed). is_lt (path_cmp u.0 p)) us) (ap is_lt first) ∙ more

order_on : (us : List Placed) (x : Placed) (p : List ℕ) → list_all (λ (u : Placed). is_lt (path_cmp u.0 x.0)) us ≡ true → list_all (λ (u : Placed). is_lt (path_cmp u.0 p)) (us ++ x ∷ []) ≡ is_lt (path_cmp x.0 p)
order_on us x p e = list_all-append (λ (u : Placed). is_lt (path_cmp u.0 p)) us (x ∷ []) ∙ by (path_cmp x.0 p) refl
  where
    after : (t : Bool) → (t && false) ≡ false
    after true = refl
    after false = refl

    by : (o : Ordering) → path_cmp x.0 p ≡ o → (list_all (λ (u : Placed). is_lt (path_cmp u.0 p)) us && (is_lt o && true)) ≡ is_lt o
    by Less less = ap (λ (t : Bool). t && true) (all_below us x.0 p e less)
    by Equal same = after (list_all (λ (u : Placed). is_lt (path_cmp u.0 p)) us)
    by Greater more = after (list_all (λ (u : Placed). is_lt (path_cmp u.0 p)) us)

-- no node is open from a path on that may be the next one
none_from : (before : List Placed) (last path q : List ℕ) → Tracks before last → may_be_path before path ≡ true → (path_cmp last path ≡ Less → path_cmp last q ≡ Less) → is_open before q ≡ false
none_from [] last path q at may on = refl
none_from (x ∷ xs) last path q at may on = at.none q (on (less_of (path_cmp last path) (sym (at.order path) ∙ path_rises (x ∷ xs) path may)))

pub fresh_path : (before : List Placed) (last path : List ℕ) → Tracks before last → may_be_path before path ≡ true → is_open before path ≡ false
fresh_path before last path at may = none_from before last path path at may (λ less. less)

-- the path of a node is not empty
not_empty : (before : List Placed) (path : List ℕ) → may_be_path before path ≡ true → is_empty path ≡ false
unfolding is_well_formed
not_empty [] path may = ap is_empty ((bytes_eq-Decides path root).0 may)
not_empty (x ∷ xs) [] may = absurd (let bad : false ≡ true = left (is_well_formed []) (list_all (λ (n : Placed). is_lt (path_cmp n.0 [])) (x ∷ xs) && is_open (x ∷ xs) (parent [])) may in cc)
not_empty (x ∷ xs) (b ∷ bs) may = refl

ends_on : (before : List Placed) (last path : List ℕ) (n : Node) → Tracks before last → may_be_path before path ≡ true → EndsAt (before ++ (path, n) ∷ []) path
ends_on before last path n at may = record {
  some = not_empty before path may;
  order = λ p. order_on before (path, n) p (path_rises before path may);
  none = λ q less. is_open_other before path n q (apart path q less) ∙ none_from before last path q at may (λ first. nat_list_cmp_total.trans last path q first less);
}

tracks_of : (before : List Placed) (x : Placed) (path : List ℕ) → EndsAt (before ++ x ∷ []) path → Tracks (before ++ x ∷ []) path
tracks_of [] x path at = at
tracks_of (y ∷ ys) x path at = at

pub tracks_on : (before : List Placed) (last path : List ℕ) (n : Node) → Tracks before last → may_be_path before path ≡ true → Tracks (before ++ (path, n) ∷ []) path
tracks_on before last path n at may = tracks_of before (path, n) path (ends_on before last path n at may)

pub changed : (before : List Placed) (last path : List ℕ) (n : Node) → Tracks before last → may_be_path before path ≡ true → ChangedAt path (n.owner == 0) (is_open before) (is_open (before ++ (path, n) ∷ []))
changed before last path n at may = record {
  here = is_open_here before path n (path_rises before path may);
  elsewhere = λ l lt. is_open_other before path n (take l path) (shorter l path lt);
  fresh = fresh_path before last path at may;
}
