-- A sound state of which all fits its fields has an image, and no other has.
use Rattle.std.proofs.Common.{◌≡◌, ℕ, ◌≤◌, ◌<◌, Bool, true, false, cond, T, List, [], ◌∷◌, ◌++◌, Option, Some, None, refl, sym, ap, subst, ◌∙◌, append_assoc, arith}
use Rattle.std.specs.Prelude.{◌&&◌, ◌||◌, ◌==◌, not, nat_le, nat_lt, is_some, IsSome}
use Rattle.std.specs.List.{list_all, list_any, AllByRecursion}
use Rattle.std.specs.Option.{option_map_or}
use Rattle.std.specs.Str.{bytes_eq}
use Rattle.std.specs.Cmp.{IsTotalOrder, nat_cmp_total}
use Rattle.std.specs.Cmp.Lexicographic.{nat_list_cmp_total}
use Rattle.std.specs.Ordering.{nat_cmp, is_lt, is_eq, eq_by_cmp, ordering_reverse}
use Rattle.std.specs.declared.cmp.Ordering.{Ordering}
use Rattle.std.specs.declared.cmp.Ordering.TheVariants.{Less, Equal}
use Rattle.std.proofs.lemmas.Bool.Decides.{nat_tests}
use Rattle.std.proofs.lemmas.Cmp.{tied_itself}
use Rattle.std.proofs.lemmas.Slice.Eq.{bytes_eq-Decides}
use Rattle.std.specs.FinMap as map
use Rattle.std.specs.FinMap.{FinMap, find, is_sorted}
use Rattle.std.specs.FinMap.Entries.{below_all}
use Rattle.kp_model.specs.declared.node.Node.{Node}
use Rattle.kp_model.specs.declared.session.Session.{Session}
use Rattle.kp_model.specs.declared.session.Origin.{Origin}
use Rattle.kp_model.specs.Grammar.{is_number}
use Rattle.kp_model.specs.Path.{root, parent, is_well_formed}
use Rattle.kp_model.specs.State.{path_cmp, same_origin}
use Rattle.kp_entry.specs.Fields.{numbers}
use Rattle.kp_snapshot.specs.Rows.{AreRows}
use Rattle.kp_snapshot.specs.Rules.{Numbered, Placed, numbers_of, holders_of, may_be_number, is_new_holder, may_be_path, may_own, is_open}
use Rattle.kp_snapshot.specs.Images.{session_tested, session_behind, node_tested, node_behind, sessions, nodes, is_some_node}
use Rattle.kp_snapshot.specs.Snapshots.{Snapshot, images, HasImage}
use Rattle.kp_snapshot.proofs.Ordered.{both, numbers_rise}
use Rattle.kp_snapshot.proofs.Tracked.{less_of}
use Rattle.kp_snapshot.proofs.Keyed.{first, second, from_T}
use Rattle.kp_snapshot.proofs.Prefixed.{parent_less}
use Rattle.kp_snapshot.proofs.Sound.{sound, key_test}

-- ---- one entry among those of a map

apart_from : {K : Type 0} {R : K → K → Ordering} (o : IsTotalOrder R) (a b : K) → R a b ≡ Less → eq_by_cmp R b a ≡ false
apart_from o a b less = ap is_eq (o.antisymm b a ∙ ap ordering_reverse less)

module _ {K X : Type 0} {R : K → K → Ordering} (o : IsTotalOrder R) where
  below_here : (k : K) (us vs : List (K × X)) (x : K × X) → T (below_all R k (us ++ x ∷ vs)) → R k x.0 ≡ Less
  below_here k [] vs x h = less_of (R k x.0) (from_T (is_lt (R k x.0)) (first (is_lt (R k x.0)) (below_all R k vs) h))
  below_here k (u ∷ us) vs x h = below_here k us vs x (second (is_lt (R k u.0)) (below_all R k (us ++ x ∷ vs)) h)

  -- those before it are below it
  pub all_before : (us vs : List (K × X)) (x : K × X) → T (is_sorted R (us ++ x ∷ vs)) → list_all (λ (u : K × X). is_lt (R u.0 x.0)) us ≡ true
  all_before [] vs x s = refl
  all_before (u ∷ us) vs x s = both (is_lt (R u.0 x.0)) (list_all (λ (v : K × X). is_lt (R v.0 x.0)) us)
      (ap is_lt (below_here u.0 us vs x (first (below_all R u.0 (us ++ x ∷ vs)) (is_sorted R (us ++ x ∷ vs)) s)))
      (all_before us vs x (second (below_all R u.0 (us ++ x ∷ vs)) (is_sorted R (us ++ x ∷ vs)) s))

  -- it is found by its key
  pub found_here : (us vs : List (K × X)) (x : K × X) → T (is_sorted R (us ++ x ∷ vs)) → find R x.0 (us ++ x ∷ vs) ≡ Some x.1
  found_here [] vs x s = ap (λ (t : Bool). cond t (Some x.1) (find R x.0 vs)) (ap is_eq (tied_itself o x.0))
  found_here (u ∷ us) vs x s =
      let less = below_here u.0 us vs x (first (below_all R u.0 (us ++ x ∷ vs)) (is_sorted R (us ++ x ∷ vs)) s) in
      ap (λ (t : Bool). cond t (Some u.1) (find R x.0 (us ++ x ∷ vs))) (apart_from o u.0 x.0 less)
      ∙ found_here us vs x (second (below_all R u.0 (us ++ x ∷ vs)) (is_sorted R (us ++ x ∷ vs)) s)

  not_behind : (q k : K) (vs : List (K × X)) → R q k ≡ Less → T (below_all R k vs) → find R q vs ≡ None
  not_behind q k [] less h = refl
  not_behind q k (v ∷ vs) less h =
      let up = less_of (R k v.0) (from_T (is_lt (R k v.0)) (first (is_lt (R k v.0)) (below_all R k vs) h)) in
      ap (λ (t : Bool). cond t (Some v.1) (find R q vs)) (ap is_eq (o.trans q k v.0 less up)) ∙ not_behind q k vs less (second (is_lt (R k v.0)) (below_all R k vs) h)

  -- what is below it is found before it
  pub found_before : (q : K) (n : X) (us vs : List (K × X)) (x : K × X) → T (is_sorted R (us ++ x ∷ vs)) → R q x.0 ≡ Less → find R q (us ++ x ∷ vs) ≡ Some n → find R q us ≡ Some n
  found_before q n [] vs x s less h =
      let none : find R q (x ∷ vs) ≡ None = ap (λ (t : Bool). cond t (Some x.1) (find R q vs)) (ap is_eq less) ∙ not_behind q x.0 vs less (first (below_all R x.0 vs) (is_sorted R vs) s) in
      absurd (let bad : None ≡ Some n = sym none ∙ h in cc bad)
  found_before q n (u ∷ us) vs x s less h = by (eq_by_cmp R q u.0) h (found_before q n us vs x (second (below_all R u.0 (us ++ x ∷ vs)) (is_sorted R (us ++ x ∷ vs)) s) less)
    where
      by : (t : Bool) → cond t (Some u.1) (find R q (us ++ x ∷ vs)) ≡ Some n → (find R q (us ++ x ∷ vs) ≡ Some n → find R q us ≡ Some n) → cond t (Some u.1) (find R q us) ≡ Some n
      by true e more = e
      by false e more = more e

  sorted_as : (m : FinMap R X) (es : List (K × X)) → map.entries m ≡ es → T (is_sorted R es)
  sorted_as m es e = subst (λ (xs : List (K × X)). T (is_sorted R xs)) e (map.entries_sorted m)

  pub has : (m : FinMap R X) (us vs : List (K × X)) (x : K × X) → map.entries m ≡ us ++ x ∷ vs → map.get m x.0 ≡ Some x.1
  has m us vs x e = map.get-entries m x.0 ∙ ap (find R x.0) e ∙ found_here us vs x (sorted_as m (us ++ x ∷ vs) e)

-- ---- rows of a list whose items fit behind those before them

rows_from : {A : Type 0} (Fits : List A → A → Type 0) (es : List A) → ((us vs : List A) (x : A) → es ≡ us ++ x ∷ vs → Fits us x) → (us xs : List A) → es ≡ us ++ xs → AreRows Fits us xs
rows_from Fits es fit us [] e = tt
rows_from Fits es fit us (x ∷ xs) e = (fit us xs x e, rows_from Fits es fit (us ++ x ∷ []) xs (e ∙ sym (append_assoc us (x ∷ []) xs)))

one_of : {A : Type 0} (P : A → Type 0) (us vs : List A) (x : A) → AllByRecursion P (us ++ x ∷ vs) → P x
one_of P [] vs x all = all.0
one_of P (u ∷ us) vs x all = one_of P us vs x all.1

rows_all : {A : Type 0} (Fits : List A → A → Type 0) (P : A → Type 0) → ((before : List A) (x : A) → Fits before x → P x) → (pre xs : List A) → AreRows Fits pre xs → AllByRecursion P xs
rows_all Fits P each pre [] rows = tt
rows_all Fits P each pre (x ∷ xs) rows = (each pre x rows.0, rows_all Fits P each (pre ++ x ∷ []) xs rows.1)

-- ---- numbers

number_fits : (n : ℕ) → is_number n ≡ true → numbers.Fits n
number_fits n e = ((let lt : n < 18446744073709551616 = grind (arith, nat_tests) in lt), e)

le_true : (a b : ℕ) → a ≤ b → nat_le a b ≡ true
le_true a b h = grind (arith, nat_tests)

lt_true : (a b : ℕ) → a < b → nat_lt a b ≡ true
lt_true a b h = grind (arith, nat_tests)

-- ---- holders

record HeldIn (os : Origin) (us : List Numbered) : Type 0 where
  before : List Numbered
  after : List Numbered
  one : Numbered
  is : us ≡ before ++ one ∷ after
  same : same_origin one.1.holder os ≡ true

held_in : (os : Origin) (us : List Numbered) → list_any (λ b. same_origin b os) (holders_of us) ≡ true → HeldIn os us
held_in os [] e = absurd cc
held_in os (u ∷ us) e = by (same_origin u.1.holder os) refl e (held_in os us)
  where
    by : (t : Bool) → same_origin u.1.holder os ≡ t → (t || list_any (λ b. same_origin b os) (holders_of us)) ≡ true → (list_any (λ b. same_origin b os) (holders_of us) ≡ true → HeldIn os us) → HeldIn os (u ∷ us)
    by true is e more = record { before = []; after = us; one = u; is = refl; same = is }
    by false is e more = let h = more e in record { before = u ∷ h.before; after = h.after; one = h.one; is = ap (λ (xs : List Numbered). u ∷ xs) h.is; same = h.same }

one_below : (us vs : List Numbered) (b : Numbered) (n : ℕ) → list_all (λ (u : Numbered). is_lt (nat_cmp u.0 n)) (us ++ b ∷ vs) ≡ true → nat_cmp b.0 n ≡ Less
one_below [] vs b n e = less_of (nat_cmp b.0 n) (left_of (is_lt (nat_cmp b.0 n)) (list_all (λ (u : Numbered). is_lt (nat_cmp u.0 n)) vs) e)
  where
    left_of : (s t : Bool) → (s && t) ≡ true → s ≡ true
    left_of true t e = refl
    left_of false t e = absurd cc
one_below (u ∷ us) vs b n e = one_below us vs b n (right_of (is_lt (nat_cmp u.0 n)) (list_all (λ (u : Numbered). is_lt (nat_cmp u.0 n)) (us ++ b ∷ vs)) e)
  where
    right_of : (s t : Bool) → (s && t) ≡ true → t ≡ true
    right_of true t e = e
    right_of false t e = absurd cc

-- ---- a sound snapshot

module _ (s : Snapshot) (h : HasImage s) where
  ss : List Numbered
  ss = map.entries s.state.sessions

  ns : List Placed
  ns = map.entries s.state.nodes

  session_there : (us vs : List Numbered) (x : Numbered) → map.entries s.state.sessions ≡ us ++ x ∷ vs → map.get s.state.sessions x.0 ≡ Some x.1
  session_there us vs x e = has nat_cmp_total s.state.sessions us vs x e

  sessions_below : (us vs : List Numbered) (x : Numbered) → map.entries s.state.sessions ≡ us ++ x ∷ vs → list_all (λ (u : Numbered). is_lt (nat_cmp u.0 x.0)) us ≡ true
  sessions_below us vs x e = all_before nat_cmp_total us vs x (sorted_as nat_cmp_total s.state.sessions (us ++ x ∷ vs) e)

  number_may : (us vs : List Numbered) (x : Numbered) → map.entries s.state.sessions ≡ us ++ x ∷ vs → may_be_number s.state.next (numbers_of us) x.0 ≡ true
  number_may us vs x e =
      let g = h.sound.good.sessions x.0 x.1 (session_there us vs x e) in
      both (nat_le 1 x.0) _ (le_true 1 x.0 g.given) (both (nat_lt x.0 s.state.next) _ (lt_true x.0 s.state.next g.below) (numbers_rise us x.0 ∙ sessions_below us vs x e))

  holder_new : (us vs : List Numbered) (x : Numbered) → map.entries s.state.sessions ≡ us ++ x ∷ vs → is_new_holder (holders_of us) x.1.holder ≡ true
  holder_new us vs x e = by (list_any (λ b. same_origin b x.1.holder) (holders_of us)) refl
    where
      by : (t : Bool) → list_any (λ b. same_origin b x.1.holder) (holders_of us) ≡ t → not t ≡ true
      by false is = refl
      by true is =
          let g = held_in x.1.holder us is in
          let less = one_below g.before g.after g.one x.0 (subst (λ (zs : List Numbered). list_all (λ (u : Numbered). is_lt (nat_cmp u.0 x.0)) zs ≡ true) g.is (sessions_below us vs x e)) in
          let there = session_there g.before (g.after ++ x ∷ vs) g.one (e ∙ ap (λ (zs : List Numbered). zs ++ x ∷ vs) g.is ∙ append_assoc g.before (g.one ∷ g.after) (x ∷ vs)) in
          let same : g.one.0 ≡ x.0 = h.sound.holders g.one.0 x.0 g.one.1 x.1 there (session_there us vs x e) g.same in
          let bad : Equal ≡ Less = sym (tied_itself nat_cmp_total x.0) ∙ ap (λ (n : ℕ). nat_cmp n x.0) (sym same) ∙ less in
          absurd (cc bad)

  session_fits : (us vs : List Numbered) (x : Numbered) → map.entries s.state.sessions ≡ us ++ x ∷ vs → (session_behind s.state.next (numbers_of us) (holders_of us)).Fits x
  session_fits us vs x e =
      let f = one_of (session_tested (λ _. true) (λ _. true)).Fits us vs x (subst (AllByRecursion (session_tested (λ _. true) (λ _. true)).Fits) e h.fields.sessions.1) in
      ((f.0.0, number_may us vs x e), (f.1.0, ((f.1.1.0.0, holder_new us vs x e), f.1.1.1)))

  sessions_fit : (sessions s.state.next).Fits (map.entries s.state.sessions)
  sessions_fit = (h.fields.sessions.0, rows_from (λ before. (session_behind s.state.next (numbers_of before) (holders_of before)).Fits) (map.entries s.state.sessions) session_fits [] (map.entries s.state.sessions) refl)

  node_there : (us vs : List Placed) (x : Placed) → map.entries s.state.nodes ≡ us ++ x ∷ vs → map.get s.state.nodes x.0 ≡ Some x.1
  node_there us vs x e = has nat_list_cmp_total s.state.nodes us vs x e

  -- the parent stands before
  record Inner (us : List Placed) (p : List ℕ) : Type 0 where
    formed : is_well_formed p ≡ true
    up : Node
    found : find path_cmp (parent p) us ≡ Some up
    free : up.owner ≡ 0

  inner : (us vs : List Placed) (x : Placed) → map.entries s.state.nodes ≡ us ++ x ∷ vs → bytes_eq x.0 root ≡ false → Inner us x.0
  inner us vs x e apart =
      let p = h.sound.good.places x.0 x.1 (node_there us vs x e) apart in
      let all : find path_cmp (parent x.0) (us ++ x ∷ vs) ≡ Some p.1.0 = ap (find path_cmp (parent x.0)) (sym e) ∙ sym (map.get-entries s.state.nodes (parent x.0)) ∙ p.1.1 in
      record { formed = p.0; up = p.1.0; found = found_before nat_list_cmp_total (parent x.0) p.1.0 us vs x (sorted_as nat_list_cmp_total s.state.nodes (us ++ x ∷ vs) e) (parent_less x.0 p.0 apart) all; free = p.1.2 }

  first_is_root : (vs : List Placed) (x : Placed) → map.entries s.state.nodes ≡ x ∷ vs → bytes_eq x.0 root ≡ true
  first_is_root vs x e = by (bytes_eq x.0 root) refl
    where
      by : (t : Bool) → bytes_eq x.0 root ≡ t → t ≡ true
      by true is = refl
      by false is = let i = inner [] vs x e is in absurd (let bad : None ≡ Some i.up = i.found in cc bad)

  behind_root : (y x : Placed) → bytes_eq y.0 root ≡ true → path_cmp y.0 x.0 ≡ Less → bytes_eq x.0 root ≡ false
  behind_root y x top less = by (bytes_eq x.0 root) refl
    where
      by : (t : Bool) → bytes_eq x.0 root ≡ t → t ≡ false
      by false is = refl
      by true is =
          let same : y.0 ≡ x.0 = (bytes_eq-Decides y.0 root).0 top ∙ sym ((bytes_eq-Decides x.0 root).0 is) in
          let bad : Equal ≡ Less = sym (tied_itself nat_list_cmp_total x.0) ∙ ap (λ (p : List ℕ). path_cmp p x.0) (sym same) ∙ less in
          absurd (cc bad)

  path_may : (us vs : List Placed) (x : Placed) → map.entries s.state.nodes ≡ us ++ x ∷ vs → may_be_path us x.0 ≡ true
  path_may [] vs x e = first_is_root vs x e
  path_may (y ∷ ys) vs x e =
      let sorted = sorted_as nat_list_cmp_total s.state.nodes (y ∷ ys ++ x ∷ vs) e in
      let all = all_before nat_list_cmp_total (y ∷ ys) vs x sorted in
      let less = below_here nat_list_cmp_total y.0 ys vs x (first (below_all path_cmp y.0 (ys ++ x ∷ vs)) (is_sorted path_cmp (ys ++ x ∷ vs)) sorted) in
      let i = inner (y ∷ ys) vs x e (behind_root y x (first_is_root (ys ++ x ∷ vs) y e) less) in
      both (is_well_formed x.0) _ i.formed (both (list_all (λ (n : Placed). is_lt (path_cmp n.0 x.0)) (y ∷ ys)) (is_open (y ∷ ys) (parent x.0)) all
      (ap (λ (o : Option Node). option_map_or (λ (n : Node). n.owner == 0) o false) i.found ∙ ap (λ (n : ℕ). n == 0) i.free))

  owner_may : (us vs : List Placed) (x : Placed) → map.entries s.state.nodes ≡ us ++ x ∷ vs → may_own (numbers_of (map.entries s.state.sessions)) (bytes_eq x.0 root) x.1.owner ≡ true
  owner_may us vs x e = by (x.1.owner == 0) (bytes_eq x.0 root) refl refl
    where
      there : IsSome (map.get s.state.sessions x.1.owner) → is_some (map.get s.state.sessions x.1.owner) ≡ true
      there i = is_there (map.get s.state.sessions x.1.owner) i
        where
          is_there : (o : Option Session) → IsSome o → is_some o ≡ true
          is_there (Some z) i = refl
          is_there None i = absurd cc

      by : (t r : Bool) → (x.1.owner == 0) ≡ t → bytes_eq x.0 root ≡ r → (t || (not r && list_any (λ id. id == x.1.owner) (numbers_of (map.entries s.state.sessions)))) ≡ true
      by true r is top = refl
      by false true is top =
          let g = h.sound.good.root_there in
          let same : x.0 ≡ root = (bytes_eq-Decides x.0 root).0 top in
          let one : Some x.1 ≡ Some g.0 = sym (node_there us vs x e) ∙ ap (map.get s.state.nodes) same ∙ g.1 in
          let node : x.1 ≡ g.0 = cc one in
          let bad : true ≡ false = ap (λ (n : ℕ). n == 0) (sym (ap (λ (n : Node). n.owner) node ∙ g.2)) ∙ is in
          absurd (cc bad)
      by false false is top = sym (key_test s.state.sessions x.1.owner) ∙ there (h.sound.good.owners x.0 x.1 (node_there us vs x e) is)

  node_fits : (us vs : List Placed) (x : Placed) → map.entries s.state.nodes ≡ us ++ x ∷ vs → (node_behind s.state.applied (numbers_of (map.entries s.state.sessions)) us).Fits x
  node_fits us vs x e =
      let f = one_of (node_tested s.state.applied (λ _. true) (λ _ _. true)).Fits us vs x (subst (AllByRecursion (node_tested s.state.applied (λ _. true) (λ _ _. true)).Fits) e h.fields.nodes.1) in
      ((f.0.0, path_may us vs x e), (f.1.0, (f.1.1.0, (f.1.1.1.0, (f.1.1.1.1.0, (f.1.1.1.1.1.0, ((f.1.1.1.1.1.1.0.0, owner_may us vs x e), f.1.1.1.1.1.1.1)))))))

  some_nodes : is_some_node (map.entries s.state.nodes) ≡ true
  some_nodes = by (map.entries s.state.nodes) (sym (map.get-entries s.state.nodes root) ∙ h.sound.good.root_there.1)
    where
      by : (es : List Placed) → find path_cmp root es ≡ Some h.sound.good.root_there.0 → is_some_node es ≡ true
      by [] e = absurd (cc e)
      by (y ∷ ys) e = refl

  nodes_fit : (nodes s.state.applied (numbers_of (map.entries s.state.sessions))).Fits (map.entries s.state.nodes)
  nodes_fit = ((h.fields.nodes.0, rows_from (λ before. (node_behind s.state.applied (numbers_of (map.entries s.state.sessions)) before).Fits) (map.entries s.state.nodes) node_fits [] (map.entries s.state.nodes) refl), some_nodes)

  pub has_image : images.Fits s
  has_image =
      let g = h.sound.good in
      ((refl, refl), (number_fits s.state.applied g.applied, (number_fits s.term h.term, ((number_fits s.state.next g.next, le_true 1 s.state.next g.some), (sessions_fit, nodes_fit)))))

-- ---- what has an image

loose_session : (next : ℕ) (before : List Numbered) (x : Numbered) → (session_behind next (numbers_of before) (holders_of before)).Fits x → (session_tested (λ _. true) (λ _. true)).Fits x
loose_session next before x f = ((f.0.0, refl), (f.1.0, ((f.1.1.0.0, refl), f.1.1.1)))

loose_node : (index : ℕ) (ids : List ℕ) (before : List Placed) (x : Placed) → (node_behind index ids before).Fits x → (node_tested index (λ _. true) (λ _ _. true)).Fits x
loose_node index ids before x f = ((f.0.0, refl), (f.1.0, (f.1.1.0, (f.1.1.1.0, (f.1.1.1.1.0, (f.1.1.1.1.1.0, ((f.1.1.1.1.1.1.0.0, refl), f.1.1.1.1.1.1.1)))))))

pub is_sound : (s : Snapshot) → images.Fits s → HasImage s
is_sound s fits =
    let ss = map.entries s.state.sessions in
    let ns = map.entries s.state.nodes in
    let f = fits.1.1.1.1 in
    record {
      sound = sound s fits;
      term = fits.1.1.0.1;
      fields = record {
        sessions = (f.0.0, rows_all (λ before. (session_behind s.state.next (numbers_of before) (holders_of before)).Fits) (session_tested (λ _. true) (λ _. true)).Fits (loose_session s.state.next) [] ss f.0.1);
        nodes = (f.1.0.0, rows_all (λ before. (node_behind s.state.applied (numbers_of ss) before).Fits) (node_tested s.state.applied (λ _. true) (λ _ _. true)).Fits (loose_node s.state.applied (numbers_of ss)) [] ns f.1.0.1);
      };
    }
