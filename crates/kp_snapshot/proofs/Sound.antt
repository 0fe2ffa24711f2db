-- What is spelled by an image is a sound state.
use Rattle.std.proofs.Common.{◌≡◌, ℕ, ◌≤◌, ◌<◌, Bool, true, false, cond, List, [], ◌∷◌, ◌++◌, length, Option, Some, None, refl, sym, ap, subst, ◌∙◌, append_assoc, arith}
use Rattle.std.specs.Prelude.{◌&&◌, ◌||◌, ◌==◌, not, nat_le, nat_lt, is_some, IsTrue, IsSome}
use Rattle.std.specs.List.{list_all, list_any, AllByRecursion}
use Rattle.std.specs.Option.{option_map_or}
use Rattle.std.specs.Str.{bytes_eq}
use Rattle.std.specs.Cmp.{tied_itself, unsigned_tied}
use Rattle.std.specs.Cmp.Lexicographic.{nat_list_cmp_total}
use Rattle.std.specs.Ordering.{nat_cmp, is_lt, is_eq, eq_by_cmp}
use Rattle.std.specs.declared.cmp.Ordering.{Ordering}
use Rattle.std.proofs.lemmas.Bool.{eqb-true}
use Rattle.std.proofs.lemmas.Bool.Decides.{nat_tests}
use Rattle.std.proofs.lemmas.List.{append-nil}
use Rattle.std.specs.FinMap as fin
use Rattle.std.specs.FinMap.{FinMap, IsAntisymmetric, find, slice_cmp-IsAntisymmetric, nat_cmp-IsAntisymmetric}
use Rattle.kp_model.specs.declared.node.Acl.{Acl}
use Rattle.kp_model.specs.declared.node.Node.{Node}
use Rattle.kp_model.specs.declared.session.Session.{Session}
use Rattle.kp_model.specs.declared.session.Origin.{Origin}
use Rattle.kp_model.specs.Good.{IsSound, IsGoodSession, HasNumbers, HasRoot, has_perms}
use Rattle.kp_model.specs.Grammar.{is_number}
use Rattle.kp_model.specs.Path.{root, parent, is_well_formed}
use Rattle.kp_model.specs.State.{path_cmp, same_origin}
use Rattle.kp_snapshot.specs.Rows.{AreRows}
use Rattle.kp_snapshot.specs.Rules.{Numbered, Placed, numbers_of, holders_of, is_open, may_be_path}
use Rattle.kp_snapshot.specs.Images.{lines, session_behind, node_behind, sessions, nodes}
use Rattle.kp_snapshot.specs.Snapshots.{Snapshot, images}
use Rattle.kp_snapshot.proofs.Ordered.{left, right, both}
use Rattle.kp_snapshot.proofs.Tracked.{equal_of}
use Rattle.kp_snapshot.proofs.Refilled.{root_first}

-- ---- what is found stands somewhere, behind others

pub record FoundAt {K X : Type 0} (R : K → K → Ordering) (Fits : List (K × X) → K × X → Type 0) (pre xs : List (K × X)) (p : K) (n : X) : Type 0 where
  pub before : List (K × X)
  pub after : List (K × X)
  pub is : xs ≡ before ++ (p, n) ∷ after
  pub fits : Fits (pre ++ before) (p, n)

module _ {K X : Type 0} (R : K → K → Ordering) (same : IsAntisymmetric R) (Fits : List (K × X) → K × X → Type 0) where
  pub found : (pre xs : List (K × X)) (p : K) (n : X) → AreRows Fits pre xs → find R p xs ≡ Some n → FoundAt R Fits pre xs p n
  found pre [] p n rows e = absurd cc
  found pre (x ∷ xs) p n rows e = by (eq_by_cmp R p x.0) refl e (found (pre ++ x ∷ []) xs p n rows.1)
    where
      by : (t : Bool) → eq_by_cmp R p x.0 ≡ t → cond t (Some x.1) (find R p xs) ≡ Some n → (find R p xs ≡ Some n → FoundAt R Fits (pre ++ x ∷ []) xs p n) → FoundAt R Fits pre (x ∷ xs) p n
      by true tie e more =
          let node : x.1 ≡ n = cc in
          let key : p ≡ x.0 = same p x.0 (equal_of (R p x.0) tie) in
          let all : x ≡ (p, n) = λ i. (sym key i, node i) in
          record { before = []; after = xs; is = ap (λ (y : K × X). y ∷ xs) all; fits = subst (λ (zs : List (K × X)). Fits zs (p, n)) (sym (append-nil pre)) (subst (λ (y : K × X). Fits pre y) all rows.0) }
      by false apart e more =
          let f = more e in
          record { before = x ∷ f.before; after = f.after; is = ap (λ (zs : List (K × X)). x ∷ zs) f.is; fits = subst (λ (zs : List (K × X)). Fits zs (p, n)) (append_assoc pre (x ∷ []) f.before) f.fits }

  -- what is found among the first is found among all
  pub found_more : (p : K) (n : X) (us vs : List (K × X)) → find R p us ≡ Some n → find R p (us ++ vs) ≡ Some n
  found_more p n [] vs e = absurd cc
  found_more p n (x ∷ us) vs e = by (eq_by_cmp R p x.0) e (found_more p n us vs)
    where
      by : (t : Bool) → cond t (Some x.1) (find R p us) ≡ Some n → (find R p us ≡ Some n → find R p (us ++ vs) ≡ Some n) → cond t (Some x.1) (find R p (us ++ vs)) ≡ Some n
      by true e more = e
      by false e more = more e

-- ---- nodes

module _ (index : ℕ) (ids : List ℕ) (ns : List Placed) (fits : (nodes index ids).Fits ns) where
  at : (p : List ℕ) (n : Node) → find path_cmp p ns ≡ Some n → FoundAt path_cmp (λ before. (node_behind index ids before).Fits) [] ns p n
  at p n e = found path_cmp (slice_cmp-IsAntisymmetric nat_cmp-IsAntisymmetric) (λ before. (node_behind index ids before).Fits) [] ns p n fits.0.1 e

  open_is : (o : Option Node) → option_map_or (λ (n : Node). n.owner == 0) o false ≡ true → (up : Node) × (o ≡ Some up) × (up.owner ≡ 0)
  open_is None e = absurd cc
  open_is (Some n) e = (n, refl, eqb-true n.owner 0 e)

  place_behind : (before after : List Placed) (p : List ℕ) (n : Node) → ns ≡ before ++ (p, n) ∷ after → may_be_path before p ≡ true → bytes_eq p root ≡ false → IsTrue (is_well_formed p) × ((up : Node) × (find path_cmp (parent p) ns ≡ Some up) × (up.owner ≡ 0))
  place_behind [] after p n is may inner = absurd (let bad : true ≡ false = sym may ∙ inner in cc)
  place_behind (x ∷ xs) after p n is may inner =
      let rest = list_all (λ (n : Placed). is_lt (path_cmp n.0 p)) (x ∷ xs) && is_open (x ∷ xs) (parent p) in
      let o = open_is (find path_cmp (parent p) (x ∷ xs)) (right (list_all (λ (n : Placed). is_lt (path_cmp n.0 p)) (x ∷ xs)) (is_open (x ∷ xs) (parent p)) (right (is_well_formed p) rest may)) in
      (left (is_well_formed p) rest may, (o.0, ap (find path_cmp (parent p)) is ∙ found_more path_cmp (slice_cmp-IsAntisymmetric nat_cmp-IsAntisymmetric) (λ before. (node_behind index ids before).Fits) (parent p) o.0 (x ∷ xs) ((p, n) ∷ after) o.1, o.2))

  pub place_of : (p : List ℕ) (n : Node) → find path_cmp p ns ≡ Some n → bytes_eq p root ≡ false → IsTrue (is_well_formed p) × ((up : Node) × (find path_cmp (parent p) ns ≡ Some up) × (up.owner ≡ 0))
  place_of p n e inner = let f = at p n e in place_behind f.before f.after p n f.is f.fits.0.1 inner

  owned_by : (r t : Bool) (owner : ℕ) → ((owner == 0) || (not r && t)) ≡ true → (owner == 0) ≡ false → t ≡ true
  owned_by r t owner e some = by (owner == 0) r t e some
    where
      by : (s r t : Bool) → (s || (not r && t)) ≡ true → s ≡ false → t ≡ true
      by true r t e some = absurd cc
      by false true t e some = absurd cc
      by false false t e some = e

  pub owner_of : (p : List ℕ) (n : Node) → find path_cmp p ns ≡ Some n → (n.owner == 0) ≡ false → list_any (λ id. id == n.owner) ids ≡ true
  owner_of p n e some = let f = at p n e in owned_by (bytes_eq p root) (list_any (λ id. id == n.owner) ids) n.owner f.fits.1.1.1.1.1.1.0.1 some

  rights : (acl : List Acl) → AllByRecursion lines.Fits acl → list_all has_perms acl ≡ true
  rights [] all = refl
  rights (a ∷ acl) all = ap (λ (t : Bool). t && list_all has_perms acl) all.0.0.1 ∙ rights acl all.1

  le_is : (a b : ℕ) → nat_le a b ≡ true → a ≤ b
  le_is a b e = grind (arith, nat_tests)

  is_le : (a b : ℕ) → a ≤ b → nat_le a b ≡ true
  is_le a b e = grind (arith, nat_tests)

  pub numbers_of_node : (p : List ℕ) (n : Node) → find path_cmp p ns ≡ Some n → HasNumbers index n
  numbers_of_node p n e =
      let f = (at p n e).fits.1 in
      let z = f.1.1.0 in
      let t = f.1.1.1.0 in
      let v = f.1.1.1.1.0 in
      record {
        czxid = le_is n.czxid index z.0.1;
        mzxid = le_is n.mzxid index z.1.0.1;
        pzxid = le_is n.pzxid index z.1.1.1;
        ctime = t.0.1;
        mtime = t.1.1;
        version = le_is n.version 2147483647 v.0.1;
        cversion = le_is n.cversion 2147483647 v.1.0.1;
        aversion = le_is n.aversion 2147483647 v.1.1.1;
        created = le_is n.created 2147483647 f.1.1.1.1.1.1.1;
        bytes = is_le (length n.bytes) 4294967295 (let lt : length n.bytes < 4294967296 = f.0 in omega (arith, lt));
        perms = rights n.acl f.1.0.1;
      }

-- ---- sessions

module _ (next : ℕ) (ss : List Numbered) (fits : (sessions next).Fits ss) where
  with_number : (id : ℕ) (x : Session) → find nat_cmp id ss ≡ Some x → FoundAt nat_cmp (λ before. (session_behind next (numbers_of before) (holders_of before)).Fits) [] ss id x
  with_number id x e = found nat_cmp nat_cmp-IsAntisymmetric (λ before. (session_behind next (numbers_of before) (holders_of before)).Fits) [] ss id x fits.1 e

  least : (a b : ℕ) → nat_le a b ≡ true → a ≤ b
  least a b e = grind (arith, nat_tests)

  less : (a b : ℕ) → nat_lt a b ≡ true → a < b
  less a b e = grind (arith, nat_tests)

  pub good_session : (id : ℕ) (x : Session) → find nat_cmp id ss ≡ Some x → IsGoodSession next id x
  good_session id x e =
      let f = with_number id x e in
      let number = f.fits.0.1 in
      let c = f.fits.1.0 in
      let o = f.fits.1.1.0.0 in
      record {
        given = least 1 id (left (nat_le 1 id) _ number);
        below = less id next (left (nat_lt id next) _ (right (nat_le 1 id) _ number));
        timeout = c.0.1;
        passwd = c.1.0;
        epoch = c.1.1.0.1;
        seq = c.1.1.1.1;
        holder = both (is_number x.holder.boot) (is_number x.holder.conn) o.1.0.1 o.1.1.1;
      }

held_before : (us vs : List Numbered) (z : Numbered) (o : Origin) → same_origin z.1.holder o ≡ true → list_any (λ b. same_origin b o) (holders_of ((us ++ z ∷ []) ++ vs)) ≡ true
held_before [] vs z o e = ap (λ (t : Bool). t || list_any (λ b. same_origin b o) (holders_of vs)) e
held_before (u ∷ us) vs z o e = by (same_origin u.1.holder o) (held_before us vs z o e)
  where
    by : (t : Bool) → list_any (λ b. same_origin b o) (holders_of ((us ++ z ∷ []) ++ vs)) ≡ true → (t || list_any (λ b. same_origin b o) (holders_of ((us ++ z ∷ []) ++ vs))) ≡ true
    by true more = refl
    by false more = more

turned : (a b : Origin) → same_origin a b ≡ true → same_origin b a ≡ true
turned a b e = (λ i. swap b.node a.node i && (swap b.boot a.boot i && swap b.conn a.conn i)) ∙ e
  where
    swap : (m n : ℕ) → (m == n) ≡ (n == m)
    swap m n = grind (arith, nat_tests)

module _ (next : ℕ) where
  abbrev Fit : List Numbered → Numbered → Type 0
  Fit before = (session_behind next (numbers_of before) (holders_of before)).Fits

  not_again : (pre zs : List Numbered) (z : Numbered) (b : ℕ) (y : Session) → AreRows Fit (pre ++ z ∷ []) zs → find nat_cmp b zs ≡ Some y → same_origin z.1.holder y.holder ≡ true → ⊥
  not_again pre zs z b y rows e same =
      let f = found nat_cmp nat_cmp-IsAntisymmetric (λ before. (session_behind next (numbers_of before) (holders_of before)).Fits) (pre ++ z ∷ []) zs b y rows e in
      let bad : true ≡ false = sym f.fits.1.1.0.1 ∙ ap not (held_before pre f.before z y.holder same) in
      absurd cc

  pub distinct : (pre xs : List Numbered) (a b : ℕ) (x y : Session) → AreRows Fit pre xs → find nat_cmp a xs ≡ Some x → find nat_cmp b xs ≡ Some y → same_origin x.holder y.holder ≡ true → a ≡ b
  distinct pre [] a b x y rows e f same = absurd cc
  distinct pre (z ∷ zs) a b x y rows e f same = by (eq_by_cmp nat_cmp a z.0) (eq_by_cmp nat_cmp b z.0) refl refl e f (λ e f. distinct (pre ++ z ∷ []) zs a b x y rows.1 e f same)
    where
      by : (s t : Bool) → eq_by_cmp nat_cmp a z.0 ≡ s → eq_by_cmp nat_cmp b z.0 ≡ t → cond s (Some z.1) (find nat_cmp a zs) ≡ Some x → cond t (Some z.1) (find nat_cmp b zs) ≡ Some y → (find nat_cmp a zs ≡ Some x → find nat_cmp b zs ≡ Some y → a ≡ b) → a ≡ b
      by true true m n e f more = nat_cmp-IsAntisymmetric a z.0 (equal_of (nat_cmp a z.0) m) ∙ sym (nat_cmp-IsAntisymmetric b z.0 (equal_of (nat_cmp b z.0) n))
      by true false m n e f more = let held : z.1 ≡ x = cc in absurd (not_again pre zs z b y rows.1 f (ap (λ (u : Session). same_origin u.holder y.holder) held ∙ same))
      by false true m n e f more = let held : z.1 ≡ y = cc in absurd (not_again pre zs z a x rows.1 e (ap (λ (u : Session). same_origin u.holder x.holder) held ∙ turned x.holder y.holder same))
      by false false m n e f more = more e f

-- ---- the state

-- a session is there where its number is among those of the sessions
pub key_test : (m : FinMap nat_cmp Session) (owner : ℕ) → is_some (fin.get m owner) ≡ list_any (λ id. id == owner) (numbers_of (fin.entries m))
key_test m owner = fin.contains_key-keys m owner ∙ sym (alike (numbers_of (fin.entries m)))
  where
    swap : (id : ℕ) → (id == owner) ≡ eq_by_cmp nat_cmp owner id
    swap id = (let turn : (id == owner) ≡ (owner == id) = grind (arith, nat_tests) in turn) ∙ sym (unsigned_tied owner id)

    alike : (ids : List ℕ) → list_any (λ id. id == owner) ids ≡ list_any (eq_by_cmp nat_cmp owner) ids
    alike [] = refl
    alike (id ∷ ids) = λ i. swap id i || alike ids i

some_key : (m : FinMap nat_cmp Session) (owner : ℕ) → list_any (λ id. id == owner) (numbers_of (fin.entries m)) ≡ true → is_some (fin.get m owner) ≡ true
some_key m owner e = key_test m owner ∙ e

is_there : (o : Option Session) → is_some o ≡ true → IsSome o
is_there (Some x) e = refl
is_there None e = absurd cc

root_owner : (owner : ℕ) (t : Bool) → ((owner == 0) || (not (bytes_eq root root) && t)) ≡ true → owner ≡ 0
root_owner owner t e = by (owner == 0) refl e
  where
    by : (s : Bool) → (owner == 0) ≡ s → (s || (not (bytes_eq root root) && t)) ≡ true → owner ≡ 0
    by true is e = eqb-true owner 0 is
    by false is e = absurd (let bad : false ≡ true = e in cc)

module _ (s : Snapshot) (fits : images.Fits s) where
  ns_fit : (nodes s.state.applied (numbers_of (fin.entries s.state.sessions))).Fits (fin.entries s.state.nodes)
  ns_fit = fits.1.1.1.1.1

  ss_fit : (sessions s.state.next).Fits (fin.entries s.state.sessions)
  ss_fit = fits.1.1.1.1.0

  node_in : (p : List ℕ) (n : Node) → fin.get s.state.nodes p ≡ Some n → find path_cmp p (fin.entries s.state.nodes) ≡ Some n
  node_in p n e = sym (fin.get-entries s.state.nodes p) ∙ e

  session_in : (id : ℕ) (x : Session) → fin.get s.state.sessions id ≡ Some x → find nat_cmp id (fin.entries s.state.sessions) ≡ Some x
  session_in id x e = sym (fin.get-entries s.state.sessions id) ∙ e

  root_in : HasRoot s.state.nodes
  root_in =
      let r = root_first s.state.applied (numbers_of (fin.entries s.state.sessions)) (fin.entries s.state.nodes) ns_fit in
      let tie : eq_by_cmp path_cmp root r.0.0 ≡ true = ap (eq_by_cmp path_cmp root) r.3 ∙ ap is_eq (tied_itself nat_list_cmp_total root) in
      let there : find path_cmp root (fin.entries s.state.nodes) ≡ Some r.0.1 = ap (find path_cmp root) r.2 ∙ ap (λ (t : Bool). cond t (Some r.0.1) (find path_cmp root r.1)) tie in
      let f = at s.state.applied (numbers_of (fin.entries s.state.sessions)) (fin.entries s.state.nodes) ns_fit root r.0.1 there in
      (r.0.1, fin.get-entries s.state.nodes root ∙ there, root_owner r.0.1.owner (list_any (λ id. id == r.0.1.owner) (numbers_of (fin.entries s.state.sessions))) f.fits.1.1.1.1.1.1.0.1)

  pub sound : IsSound s.state
  sound = record {
    good = record {
      applied = fits.1.0.1;
      next = fits.1.1.1.0.0.1;
      some = (let one : nat_le 1 s.state.next ≡ true = fits.1.1.1.0.1 in let le : 1 ≤ s.state.next = grind (arith, nat_tests) in le);
      root_there = root_in;
      places = λ p n e inner.
          let w = place_of s.state.applied (numbers_of (fin.entries s.state.sessions)) (fin.entries s.state.nodes) ns_fit p n (node_in p n e) inner in
          (w.0, (w.1.0, fin.get-entries s.state.nodes (parent p) ∙ w.1.1, w.1.2));
      owners = λ p n e some. is_there (fin.get s.state.sessions n.owner) (some_key s.state.sessions n.owner (owner_of s.state.applied (numbers_of (fin.entries s.state.sessions)) (fin.entries s.state.nodes) ns_fit p n (node_in p n e) some));
      numbers = λ p n e. numbers_of_node s.state.applied (numbers_of (fin.entries s.state.sessions)) (fin.entries s.state.nodes) ns_fit p n (node_in p n e);
      sessions = λ id x e. good_session s.state.next (fin.entries s.state.sessions) ss_fit id x (session_in id x e);
    };
    holders = λ a b x y e f same. distinct s.state.next [] (fin.entries s.state.sessions) a b x y ss_fit.1 (session_in a x e) (session_in b y f) same;
  }
