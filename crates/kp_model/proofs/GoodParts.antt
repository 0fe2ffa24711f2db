-- A good state stays good as one of its parts changes.
use Rattle.std.proofs.Common.{◌≡◌, ℕ, ◌+◌, ◌≤◌, ◌<◌, ◌==◌, false, not, ◌&&◌, length, List, Some, IsTrue, sym, ap, ◌∙◌, true≢false, le_trans, lt_of_lt_of_le, arith, le-leb}
use Rattle.std.specs.Str.{bytes_eq}
use Rattle.std.specs.Cmp.{nat_cmp_total, nat_eq_equiv}
use Rattle.std.specs.Cmp.Lexicographic.{nat_list_cmp_total}
use Rattle.std.specs.FinMap as map
use Rattle.std.specs.FinMap.{IsAntisymmetric, nat_cmp-IsAntisymmetric, slice_cmp-IsAntisymmetric}
use Rattle.std.proofs.lemmas.Slice.Eq.{bytes_eq-Decides}
use Rattle.kp_model.specs.declared.node.Node.{Node}
use Rattle.kp_model.specs.declared.session.Session.{Session}
use Rattle.kp_model.specs.Grammar.{is_number}
use Rattle.kp_model.specs.Path.{root, parent}
use Rattle.kp_model.specs.State.{State, Nodes, path_cmp, is_child, children}
use Rattle.kp_model.specs.Good.{HasOwner, IsPersistent, HasPlace, HasNumbers, IsGoodSession, IsGood}
use Rattle.kp_model.proofs.Maps.{Each, each_inserted, each_removed, finds_inserted, finds_removed, some_inserted, some_removed, no_key_passes}

pub path_cmp-IsAntisymmetric : IsAntisymmetric path_cmp
path_cmp-IsAntisymmetric = slice_cmp-IsAntisymmetric nat_cmp-IsAntisymmetric

-- ---- the applied index

pub numbers_raised : (a b : ℕ) (n : Node) → a ≤ b → HasNumbers a n → HasNumbers b n
numbers_raised a b n le h = record {
  czxid = le_trans h.czxid le;
  mzxid = le_trans h.mzxid le;
  pzxid = le_trans h.pzxid le;
  ctime = h.ctime;
  mtime = h.mtime;
  version = h.version;
  cversion = h.cversion;
  aversion = h.aversion;
  created = h.created;
  bytes = h.bytes;
  perms = h.perms;
}

pub raised_good : (s : State) → s.applied < 4611686018427387904 → IsGood s → IsGood (record s { applied = s.applied + 1 })
raised_good s room good = record {
  applied = le-leb _ _ (omega (arith, room));
  next = good.next;
  some = good.some;
  root_there = good.root_there;
  places = good.places;
  owners = good.owners;
  numbers = λ p n found. numbers_raised s.applied _ n (omega arith) (good.numbers p n found);
  sessions = good.sessions;
}

-- ---- the nodes

place_inserted : (m : Nodes) (k : List ℕ) (v : Node) (p : List ℕ)
    → ((x : Node) → map.get m k ≡ Some x → IsPersistent x → IsPersistent v) → HasPlace m p → HasPlace (map.insert m k v) p
place_inserted m k v p upkeep place deep =
    let h = place deep in
    (h.0, finds_inserted nat_list_cmp_total path_cmp-IsAntisymmetric IsPersistent m k v (parent p) upkeep h.1)

-- a node is set that has its place, whose owner lives, whose numbers are good, and which may have children if the one before might
pub node_set_good : (s : State) (k : List ℕ) (v : Node)
    → ((x : Node) → map.get s.nodes k ≡ Some x → IsPersistent x → IsPersistent v)
    → HasPlace s.nodes k → HasOwner s.sessions v → HasNumbers s.applied v
    → IsGood s → IsGood (record s { nodes = map.insert s.nodes k v })
node_set_good s k v upkeep place owner numbers good = record {
  applied = good.applied;
  next = good.next;
  some = good.some;
  root_there = finds_inserted nat_list_cmp_total path_cmp-IsAntisymmetric IsPersistent s.nodes k v root upkeep good.root_there;
  places = each_inserted nat_list_cmp_total path_cmp-IsAntisymmetric (λ p _. HasPlace (map.insert s.nodes k v) p) s.nodes k v
      (place_inserted s.nodes k v k upkeep place) (λ p n found. place_inserted s.nodes k v p upkeep (good.places p n found));
  owners = each_inserted nat_list_cmp_total path_cmp-IsAntisymmetric (λ _ n. HasOwner s.sessions n) s.nodes k v owner good.owners;
  numbers = each_inserted nat_list_cmp_total path_cmp-IsAntisymmetric (λ _ n. HasNumbers s.applied n) s.nodes k v numbers good.numbers;
  sessions = good.sessions;
}

-- no node is a child of this path
abbrev pub HasNoChild : Nodes → List ℕ → Type 0
HasNoChild m k = Each (λ q _. is_child k q ≡ false) m

pub no_child : (m : Nodes) (k : List ℕ) → length (children m k) ≡ 0 → HasNoChild m k
unfolding children
no_child m k none = no_key_passes nat_list_cmp_total path_cmp-IsAntisymmetric (is_child k) m none

pub other_path : (p q : List ℕ) → bytes_eq p q ≡ false → p ≡ q → ⊥
other_path p q apart e = true≢false (sym ((bytes_eq-Decides p q).1 e) ∙ apart)

-- the parent of a node that is no child is another path
other_parent : (k q : List ℕ) → is_child k q ≡ false → bytes_eq q root ≡ false → parent q ≡ k → ⊥
unfolding is_child
other_parent k q none deep e = true≢false (sym ((bytes_eq-Decides (parent q) k).1 e) ∙ sym (ap (λ b. not b && bytes_eq (parent q) k) deep) ∙ none)

place_removed : (m : Nodes) (k q : List ℕ) → is_child k q ≡ false → HasPlace m q → HasPlace (map.remove m k) q
place_removed m k q none place deep =
    let h = place deep in
    (h.0, finds_removed nat_list_cmp_total path_cmp-IsAntisymmetric IsPersistent m k (parent q) (other_parent k q none deep) h.1)

-- a node is removed that isn't the root and has no child
pub node_removed_good : (s : State) (k : List ℕ) → bytes_eq k root ≡ false → HasNoChild s.nodes k
    → IsGood s → IsGood (record s { nodes = map.remove s.nodes k })
node_removed_good s k deep none good = record {
  applied = good.applied;
  next = good.next;
  some = good.some;
  root_there = finds_removed nat_list_cmp_total path_cmp-IsAntisymmetric IsPersistent s.nodes k root (λ e. other_path k root deep (sym e)) good.root_there;
  places = each_removed nat_list_cmp_total path_cmp-IsAntisymmetric (λ p _. HasPlace (map.remove s.nodes k) p) s.nodes k
      (λ p n found. place_removed s.nodes k p (none p n found) (good.places p n found));
  owners = each_removed nat_list_cmp_total path_cmp-IsAntisymmetric (λ _ n. HasOwner s.sessions n) s.nodes k good.owners;
  numbers = each_removed nat_list_cmp_total path_cmp-IsAntisymmetric (λ _ n. HasNumbers s.applied n) s.nodes k good.numbers;
  sessions = good.sessions;
}

-- ---- the sessions

-- a session is set that is good; the next number doesn't fall
pub session_set_good : (s : State) (next id : ℕ) (x : Session) → IsTrue (is_number next) → s.next ≤ next → IsGoodSession next id x
    → IsGood s → IsGood (record s { sessions = map.insert s.sessions id x; next = next })
session_set_good s next id x number le fine good = record {
  applied = good.applied;
  next = number;
  some = le_trans good.some le;
  root_there = good.root_there;
  places = good.places;
  owners = λ p n found owned. some_inserted nat_cmp_total nat_cmp-IsAntisymmetric s.sessions id x n.owner (good.owners p n found owned);
  numbers = good.numbers;
  sessions = each_inserted nat_cmp_total nat_cmp-IsAntisymmetric (IsGoodSession next) s.sessions id x fine
      (λ q y found. let h = good.sessions q y found in record {
        given = h.given;
        below = lt_of_lt_of_le h.below le;
        timeout = h.timeout;
        passwd = h.passwd;
        epoch = h.epoch;
        seq = h.seq;
        holder = h.holder;
      });
}

other_number : (a b : ℕ) → (a == b) ≡ false → a ≡ b → ⊥
other_number a b apart e = true≢false (sym (nat_eq_equiv.refl a) ∙ ap (λ x. a == x) e ∙ apart)

-- a session is removed that owns no node
pub session_removed_good : (s : State) (id : ℕ) → Each (λ _ n. (n.owner == id) ≡ false) s.nodes → IsGood s → IsGood (record s { sessions = map.remove s.sessions id })
session_removed_good s id none good = record {
  applied = good.applied;
  next = good.next;
  some = good.some;
  root_there = good.root_there;
  places = good.places;
  owners = λ p n found owned. some_removed nat_cmp_total nat_cmp-IsAntisymmetric s.sessions id n.owner (other_number n.owner id (none p n found)) (good.owners p n found owned);
  numbers = good.numbers;
  sessions = each_removed nat_cmp_total nat_cmp-IsAntisymmetric (IsGoodSession s.next) s.sessions id good.sessions;
}
