-- What is known of the sessions and the tree of deadlines, when a session comes, is heard again or goes.
use Rattle.std.proofs.Common.{◌≡◌, ◌≢◌, ℕ, zero, suc, ◌+◌, ◌-◌, ◌<◌, ◌≤◌, inl, inr, Bool, true, false, cond, nat_eq, List, [], ◌∷◌, ◌++◌, length, slice_get, Option, Some, None, is_some, Result, Ok, Err, OnErr, refl, ap, sym, ◌∙◌, arith}
use Rattle.std.proofs.Math.ListN.{set}
use Rattle.std.specs.Map.{lookup, keys_of}
use Rattle.std.specs.List.{AllByRecursion, IsDistinct}
use Rattle.std.specs.Ordering.{nat_cmp, eq_by_cmp}
use Rattle.std.specs.Cmp.{nat_cmp_total, unsigned_tied, nat_eq_equiv}
use Rattle.std.specs.FinMap as map
use Rattle.std.specs.FinMap.{FinMap, get, get-insert, get-remove, get-empty, same_map, nat_cmp-IsAntisymmetric}
use Rattle.std.proofs.lemmas.Option.{same_Some, none-some, slice_get_within}
use Rattle.std.proofs.lemmas.Bool.{lt-ltb, le-ltb}
use Rattle.std.proofs.lemmas.Bool.Decides.{eqb_tells}
use Rattle.kp_expiry.specs.declared.heard.Heard.{Heard}
use Rattle.kp_expiry.specs.declared.expiry.Known.{Known}
use Rattle.kp_expiry.specs.Deadline.{deadline}
use Rattle.kp_expiry.specs.Index.{heard_in, node_in, heard_at, moved_to, session_in, taken_out, mover, base_of, IsIndex}
use Rattle.kp_expiry.proofs.Places.{at_set_here, at_set_other, at_push_here, at_push_other}
use Rattle.kp_expiry.proofs.Mended.{le_or}

-- what holds, holds where there is an error
pub on_err : {T E : Type 0} (r : Result T E) {P : Type 0} → P → OnErr r P
on_err (Ok x) p = tt
on_err (Err e) p = p

-- ---- the map
heard_split : (b : Bool) (c : Known) (o : Option Known) → cond b (Some c.heard) (heard_in o) ≡ heard_in (cond b (Some c) o)
heard_split true c o = refl
heard_split false c o = refl

pub get-base_of : (es : List (ℕ × Known)) (q : ℕ) → get (base_of es) q ≡ heard_in (lookup (nat_eq q) es)
get-base_of [] q = get-empty nat_cmp q
get-base_of (e ∷ es) q =
    get-insert nat_cmp_total (base_of es) e.0 e.1.heard q
    ∙ ap (λ b. cond b (Some e.1.heard) (get (base_of es) q)) (unsigned_tied q e.0)
    ∙ ap (cond (nat_eq q e.0) (Some e.1.heard)) (get-base_of es q)
    ∙ heard_split (nat_eq q e.0) e.1 (lookup (nat_eq q) es)

same : (m n : FinMap nat_cmp Heard) → ((q : ℕ) → get m q ≡ get n q) → m ≡ n
same m n h = same_map nat_cmp_total nat_cmp-IsAntisymmetric m n h

pub base_kept_heard : (old new : List (ℕ × Known)) → ((k : ℕ) → heard_in (lookup (nat_eq k) new) ≡ heard_in (lookup (nat_eq k) old)) → base_of new ≡ base_of old
base_kept_heard old new h = same _ _ (λ q. get-base_of new q ∙ h q ∙ sym (get-base_of old q))

pub base_kept : (old new : List (ℕ × Known)) → ((k : ℕ) → lookup (nat_eq k) new ≡ lookup (nat_eq k) old) → base_of new ≡ base_of old
base_kept old new h = base_kept_heard old new (λ k. ap heard_in (h k))

-- as many as there are entries
no_other : (k : ℕ) (es : List (ℕ × Known)) → AllByRecursion (λ y. nat_eq k y ≡ false) (keys_of es) → lookup (nat_eq k) es ≡ None
no_other k [] h = refl
no_other k (e ∷ es) h = ap (λ b. cond b (Some e.1) (lookup (nat_eq k) es)) h.0 ∙ no_other k es h.1

pub len-base_of : (es : List (ℕ × Known)) → IsDistinct nat_eq (keys_of es) → map.len (base_of es) ≡ length es
unfolding IsDistinct
len-base_of [] h = map.len-empty nat_cmp Heard
len-base_of (e ∷ es) h =
    let none : get (base_of es) e.0 ≡ None = get-base_of es e.0 ∙ ap heard_in (no_other e.0 es h.0) in
    map.len-insert nat_cmp_total (base_of es) e.0 e.1.heard
    ∙ ap (λ b. cond b (map.len (base_of es)) (map.len (base_of es) + 1)) (ap is_some none)
    ∙ ap (λ n. n + 1) (len-base_of es h.1)
    ∙ omega arith

-- a session that isn't in the map isn't known
pub unknown : (es : List (ℕ × Known)) (q : ℕ) → get (base_of es) q ≡ None → lookup (nat_eq q) es ≡ None
unknown es q e = none_of (lookup (nat_eq q) es) (sym (get-base_of es q) ∙ e) where
  none_of : (o : Option Known) → heard_in o ≡ None → o ≡ None
  none_of None e = refl
  none_of (Some c) e = absurd (none-some c.heard (sym e))

pub base_insert : (old new : List (ℕ × Known)) (key : ℕ) (value : Heard) → ((k : ℕ) → heard_in (lookup (nat_eq k) new) ≡ cond (nat_eq key k) (Some value) (heard_in (lookup (nat_eq k) old))) → base_of new ≡ map.insert (base_of old) key value
base_insert old new key value h = same _ _ (λ q.
    get-base_of new q ∙ h q
    ∙ ap (λ b. cond b (Some value) (heard_in (lookup (nat_eq q) old))) (nat_eq_equiv.symm key q ∙ sym (unsigned_tied q key))
    ∙ ap (cond (eq_by_cmp nat_cmp q key) (Some value)) (sym (get-base_of old q))
    ∙ sym (get-insert nat_cmp_total (base_of old) key value q))

pub base_remove : (old new : List (ℕ × Known)) (key : ℕ) → ((k : ℕ) → heard_in (lookup (nat_eq k) new) ≡ cond (nat_eq key k) None (heard_in (lookup (nat_eq k) old))) → base_of new ≡ map.remove (base_of old) key
base_remove old new key h = same _ _ (λ q.
    get-base_of new q ∙ h q
    ∙ ap (λ b. cond b None (heard_in (lookup (nat_eq q) old))) (nat_eq_equiv.symm key q ∙ sym (unsigned_tied q key))
    ∙ ap (cond (eq_by_cmp nat_cmp q key) None) (sym (get-base_of old q))
    ∙ sym (get-remove nat_cmp_total (base_of old) key q))

-- ---- a look-up in changed entries
pub here : {A : Type 0} (key k : ℕ) (x y : A) → key ≡ k → cond (nat_eq key k) x y ≡ x
here key k x y e = ap (λ b. cond b x y) (ap (nat_eq key) (sym e) ∙ nat_eq_equiv.refl key)

pub apart : {A : Type 0} (key k : ℕ) (x y : A) → key ≢ k → cond (nat_eq key k) x y ≡ y
apart key k x y h = elim (eqb_tells key k) [ inl p ↦ absurd (h p.1) | inr p ↦ ap (λ b. cond b x y) p.0 ]

-- the map without a session
pub map_forgotten : (known known' : List (ℕ × Known)) (session : ℕ) → ((k : ℕ) → lookup (nat_eq k) known' ≡ cond (nat_eq session k) None (lookup (nat_eq k) known)) → base_of known' ≡ map.remove (base_of known) session
map_forgotten known known' session change = base_remove known known' session (λ k. ap heard_in (change k) ∙ elim (eqb_tells session k) [
  | inl p ↦ ap heard_in (here session k None (lookup (nat_eq k) known) p.1) ∙ sym (here session k None (heard_in (lookup (nat_eq k) known)) p.1)
  | inr p ↦ ap heard_in (apart session k None (lookup (nat_eq k) known) p.1) ∙ sym (apart session k None (heard_in (lookup (nat_eq k) known)) p.1)
])

-- the node of a known session
node_of : (o : Option Known) (c : Known) (i : ℕ) → o ≡ Some c → node_in o ≡ Some i → c.node ≡ i
node_of o c i e h = same_Some c.node i (sym (ap node_in e) ∙ h)

module _ (known : List (ℕ × Known)) (ts : List (ℕ × ℕ)) (h : IsIndex known ts) where
  -- no two nodes have one session
  pub one_node : (k i j d e : ℕ) → slice_get ts i ≡ Some (d, k) → slice_get ts j ≡ Some (e, k) → i ≡ j
  one_node k i j d e a b = same_Some i j (sym (h.back i (d, k) a) ∙ h.back j (e, k) b)

  -- ---- a session that is heard again
  module _ (known' : List (ℕ × Known)) (session node : ℕ) (value : Heard) (change : (k : ℕ) → lookup (nat_eq k) known' ≡ cond (nat_eq session k) (heard_at value (lookup (nat_eq k) known)) (lookup (nat_eq k) known)) (at : node_in (lookup (nat_eq session) known) ≡ Some node) where
    entry : (c : Known) × (lookup (nat_eq session) known ≡ Some c) × (c.node ≡ node)
    entry = found (lookup (nat_eq session) known) refl at where
      found : (o : Option Known) → lookup (nat_eq session) known ≡ o → node_in o ≡ Some node → (c : Known) × (lookup (nat_eq session) known ≡ Some c) × (c.node ≡ node)
      found None e n = absurd (none-some node n)
      found (Some c) e n = (c, e, same_Some c.node node n)

    heard_place : slice_get ts node ≡ Some (deadline entry.0.heard, session)
    heard_place = ap (slice_get ts) (sym entry.2) ∙ h.there session entry.0 entry.1

    heard_now : lookup (nat_eq session) known' ≡ Some (record { heard = value; node = node })
    heard_now = change session ∙ here session session _ _ refl ∙ ap (heard_at value) entry.1 ∙ ap (λ n. Some (record { heard = value; node = n })) entry.2

    pub heard_inside : node < length ts
    heard_inside = slice_get_within ts node (deadline entry.0.heard, session) heard_place

    pub index_heard : (ts' : List (ℕ × ℕ)) → ts' ≡ set ts node (deadline value, session) → IsIndex known' ts'
    index_heard ts' is = record {
      there = λ k c e. elim (eqb_tells session k) [
        | inl p ↦
            let mine : c ≡ record { heard = value; node = node } = same_Some c (record { heard = value; node = node }) (sym e ∙ ap (λ q. lookup (nat_eq q) known') (sym p.1) ∙ heard_now) in
            ap (slice_get ts') (ap (λ (x : Known). x.node) mine)
            ∙ ap (λ l. slice_get l node) is ∙ at_set_here ts node (deadline value, session) heard_inside
            ∙ ap (λ (x : Known). Some (deadline x.heard, session)) (sym mine) ∙ ap (λ q. Some (deadline c.heard, q)) p.1
        | inr p ↦
            let was : slice_get ts c.node ≡ Some (deadline c.heard, k) = h.there k c (sym (change k ∙ apart session k _ _ p.1) ∙ e) in
            ap (λ l. slice_get l c.node) is ∙ at_set_other ts node c.node (deadline value, session) (λ n. p.1 (ap (λ (t : ℕ × ℕ). t.1) (same_Some _ _ (sym heard_place ∙ ap (slice_get ts) (sym n) ∙ was)))) ∙ was
      ];
      back = λ i t e. elim (eqb_tells i node) [
        | inl p ↦
            let mine : t ≡ (deadline value, session) = same_Some t (deadline value, session) (sym e ∙ ap (slice_get ts') p.1 ∙ ap (λ l. slice_get l node) is ∙ at_set_here ts node (deadline value, session) heard_inside) in
            ap (λ (x : ℕ × ℕ). node_in (lookup (nat_eq x.1) known')) mine ∙ ap node_in heard_now ∙ ap Some (sym p.1)
        | inr p ↦
            let was : slice_get ts i ≡ Some t = sym (ap (λ l. slice_get l i) is ∙ at_set_other ts node i (deadline value, session) p.1) ∙ e in
            let other : session ≢ t.1 = λ q. p.1 (one_node session i node t.0 (deadline entry.0.heard) (was ∙ ap (λ x. Some (t.0, x)) (sym q)) heard_place) in
            ap node_in (change t.1 ∙ apart session t.1 _ _ other) ∙ h.back i t was
      ];
    }

    pub map_heard : base_of known' ≡ map.insert (base_of known) session value
    map_heard = base_insert known known' session value (λ k. ap heard_in (change k) ∙ elim (eqb_tells session k) [
      | inl p ↦
          ap heard_in (here session k _ _ p.1 ∙ ap (heard_at value) (ap (λ q. lookup (nat_eq q) known) (sym p.1) ∙ entry.1))
          ∙ sym (here session k (Some value) (heard_in (lookup (nat_eq k) known)) p.1)
      | inr p ↦ ap heard_in (apart session k _ _ p.1) ∙ sym (apart session k (Some value) (heard_in (lookup (nat_eq k) known)) p.1)
    ])

  -- ---- a session that isn't there is heard
  module _ (known' : List (ℕ × Known)) (session : ℕ) (value : Heard) (change : (k : ℕ) → lookup (nat_eq k) known' ≡ cond (nat_eq session k) (heard_at value (lookup (nat_eq k) known)) (lookup (nat_eq k) known)) (at : None ≡ node_in (lookup (nat_eq session) known)) where
    pub not_there : lookup (nat_eq session) known ≡ None
    not_there = none_of (lookup (nat_eq session) known) (sym at) where
      none_of : (o : Option Known) → node_in o ≡ None → o ≡ None
      none_of None e = refl
      none_of (Some c) e = absurd (none-some c.node (sym e))

    pub not_heard : (k : ℕ) → lookup (nat_eq k) known' ≡ lookup (nat_eq k) known
    not_heard k = change k ∙ elim (eqb_tells session k) [
      | inl p ↦
          let none : lookup (nat_eq k) known ≡ None = ap (λ q. lookup (nat_eq q) known) (sym p.1) ∙ not_there in
          here session k (heard_at value (lookup (nat_eq k) known)) (lookup (nat_eq k) known) p.1 ∙ ap (heard_at value) none ∙ sym none
      | inr p ↦ apart session k (heard_at value (lookup (nat_eq k) known)) (lookup (nat_eq k) known) p.1
    ]

  -- the same look-ups
  pub index_kept : (known' : List (ℕ × Known)) → ((k : ℕ) → lookup (nat_eq k) known' ≡ lookup (nat_eq k) known) → IsIndex known' ts
  index_kept known' same_as = record {
    there = λ k c e. h.there k c (sym (same_as k) ∙ e);
    back = λ i t e. ap node_in (same_as t.1) ∙ h.back i t e;
  }

  -- ---- a session more
  module _ (known' : List (ℕ × Known)) (session : ℕ) (value : Heard) (none : lookup (nat_eq session) known ≡ None) (change : (k : ℕ) → lookup (nat_eq k) known' ≡ cond (nat_eq session k) (Some (record { heard = value; node = length ts })) (lookup (nat_eq k) known)) where
    added_now : lookup (nat_eq session) known' ≡ Some (record { heard = value; node = length ts })
    added_now = change session ∙ here session session _ _ refl

    pub index_added : (ts' : List (ℕ × ℕ)) → ts' ≡ ts ++ (deadline value, session) ∷ [] → IsIndex known' ts'
    index_added ts' is = record {
      there = λ k c e. elim (eqb_tells session k) [
        | inl p ↦
            let mine : c ≡ record { heard = value; node = length ts } = same_Some c (record { heard = value; node = length ts }) (sym e ∙ ap (λ q. lookup (nat_eq q) known') (sym p.1) ∙ added_now) in
            ap (slice_get ts') (ap (λ (x : Known). x.node) mine)
            ∙ ap (λ l. slice_get l (length ts)) is ∙ at_push_here ts (deadline value, session)
            ∙ ap (λ (x : Known). Some (deadline x.heard, session)) (sym mine) ∙ ap (λ q. Some (deadline c.heard, q)) p.1
        | inr p ↦
            let was : slice_get ts c.node ≡ Some (deadline c.heard, k) = h.there k c (sym (change k ∙ apart session k _ _ p.1) ∙ e) in
            let inside : c.node < length ts = slice_get_within ts c.node (deadline c.heard, k) was in
            ap (λ l. slice_get l c.node) is ∙ at_push_other ts c.node (deadline value, session) (λ n. omega (arith, n, inside)) ∙ was
      ];
      back = λ i t e. elim (eqb_tells i (length ts)) [
        | inl p ↦
            let mine : t ≡ (deadline value, session) = same_Some t (deadline value, session) (sym e ∙ ap (slice_get ts') p.1 ∙ ap (λ l. slice_get l (length ts)) is ∙ at_push_here ts (deadline value, session)) in
            ap (λ (x : ℕ × ℕ). node_in (lookup (nat_eq x.1) known')) mine ∙ ap node_in added_now ∙ ap Some (sym p.1)
        | inr p ↦
            let was : slice_get ts i ≡ Some t = sym (ap (λ l. slice_get l i) is ∙ at_push_other ts i (deadline value, session) p.1) ∙ e in
            let other : session ≢ t.1 = λ q. none-some i (sym (ap node_in none) ∙ ap (λ x. node_in (lookup (nat_eq x) known)) q ∙ h.back i t was) in
            ap node_in (change t.1 ∙ apart session t.1 _ _ other) ∙ h.back i t was
      ];
    }

    pub map_added : base_of known' ≡ map.insert (base_of known) session value
    map_added = base_insert known known' session value (λ k. ap heard_in (change k) ∙ elim (eqb_tells session k) [
      | inl p ↦ ap heard_in (here session k _ _ p.1) ∙ sym (here session k (Some value) (heard_in (lookup (nat_eq k) known)) p.1)
      | inr p ↦ ap heard_in (apart session k _ _ p.1) ∙ sym (apart session k (Some value) (heard_in (lookup (nat_eq k) known)) p.1)
    ])

  -- what was known of a session that has a node
  pub entry_of : (session node : ℕ) → Some node ≡ node_in (lookup (nat_eq session) known) → (c : Known) × (lookup (nat_eq session) known ≡ Some c) × (c.node ≡ node)
  entry_of session node at = found (lookup (nat_eq session) known) refl (sym at) where
    found : (o : Option Known) → lookup (nat_eq session) known ≡ o → node_in o ≡ Some node → (c : Known) × (lookup (nat_eq session) known ≡ Some c) × (c.node ≡ node)
    found None e n = absurd (none-some node n)
    found (Some c) e n = (c, e, same_Some c.node node n)

  -- ---- a session less
  module _ (known' : List (ℕ × Known)) (session : ℕ) (gone : Known) (was : lookup (nat_eq session) known ≡ Some gone) (change : (k : ℕ) → lookup (nat_eq k) known' ≡ cond (nat_eq session k) None (lookup (nat_eq k) known)) where
    its_place : slice_get ts gone.node ≡ Some (deadline gone.heard, session)
    its_place = h.there session gone was

    pub gone_inside : gone.node < length ts
    gone_inside = slice_get_within ts gone.node (deadline gone.heard, session) its_place

    map_removed : base_of known' ≡ map.remove (base_of known) session
    map_removed = map_forgotten known known' session change

    -- a session that is still there is another, and so is its node
    other_session : (k : ℕ) (c : Known) → lookup (nat_eq k) known' ≡ Some c → session ≢ k
    other_session k c e = λ q. none-some c (sym (here session k None (lookup (nat_eq k) known) q) ∙ sym (change k) ∙ e)

    place_was : (k : ℕ) (c : Known) → lookup (nat_eq k) known' ≡ Some c → slice_get ts c.node ≡ Some (deadline c.heard, k)
    place_was k c e = h.there k c (sym (change k ∙ apart session k None (lookup (nat_eq k) known) (other_session k c e)) ∙ e)

    other_node : (k i d : ℕ) → session ≢ k → slice_get ts i ≡ Some (d, k) → i ≢ gone.node
    other_node k i d q e = λ n. q (ap (λ (t : ℕ × ℕ). t.1) (same_Some _ _ (sym its_place ∙ ap (slice_get ts) (sym n) ∙ e)))

    -- a node but the session's has another session
    node_stays : (i : ℕ) (t : ℕ × ℕ) → i ≢ gone.node → slice_get ts i ≡ Some t → node_in (lookup (nat_eq t.1) known') ≡ Some i
    node_stays i t q e =
        let other : session ≢ t.1 = λ s. q (one_node session i gone.node t.0 (deadline gone.heard) (e ∙ ap (λ x. Some (t.0, x)) (sym s)) its_place) in
        ap node_in (change t.1 ∙ apart session t.1 None (lookup (nat_eq t.1) known) other) ∙ h.back i t e

    out_inside : (i : ℕ) → i < length ts - 1 → i ≢ gone.node → taken_out ts gone.node i ≡ slice_get ts i
    out_inside i l q =
        ap (λ b. cond b (cond (nat_eq i gone.node) (slice_get ts (length ts - 1)) (slice_get ts i)) None) (lt-ltb i (length ts - 1) l)
        ∙ apart i gone.node (slice_get ts (length ts - 1)) (slice_get ts i) q

    out_node : gone.node < length ts - 1 → taken_out ts gone.node gone.node ≡ slice_get ts (length ts - 1)
    out_node l =
        ap (λ b. cond b (cond (nat_eq gone.node gone.node) (slice_get ts (length ts - 1)) (slice_get ts gone.node)) None) (lt-ltb gone.node (length ts - 1) l)
        ∙ here gone.node gone.node (slice_get ts (length ts - 1)) (slice_get ts gone.node) refl

    out_past : (i : ℕ) → length ts - 1 ≤ i → taken_out ts gone.node i ≡ None
    out_past i l = ap (λ b. cond b (cond (nat_eq i gone.node) (slice_get ts (length ts - 1)) (slice_get ts i)) None) (le-ltb i (length ts - 1) l)

    last_there : (t : ℕ × ℕ) × (slice_get ts (length ts - 1) ≡ Some t)
    last_there = found (slice_get ts (length ts - 1)) refl where
      found : (o : Option (ℕ × ℕ)) → slice_get ts (length ts - 1) ≡ o → (t : ℕ × ℕ) × (slice_get ts (length ts - 1) ≡ Some t)
      found (Some t) e = (t, e)
      found None e = absurd (omega (arith, gone_inside, past ts (length ts - 1) e)) where
        past : (xs : List (ℕ × ℕ)) (i : ℕ) → slice_get xs i ≡ None → length xs ≤ i
        past [] i e = omega arith
        past (x ∷ xs) zero e = absurd (none-some x (sym e))
        past (x ∷ xs) (suc i) e = omega (arith, past xs i e)

    mover_below : gone.node < length ts - 1 → mover ts gone.node ≡ Some last_there.0.1
    mover_below l =
        ap (λ b. cond b (session_in (slice_get ts (length ts - 1))) None) (lt-ltb gone.node (length ts - 1) l)
        ∙ ap session_in last_there.1

    mover_last : length ts - 1 ≤ gone.node → mover ts gone.node ≡ None
    mover_last l = ap (λ b. cond b (session_in (slice_get ts (length ts - 1))) None) (le-ltb gone.node (length ts - 1) l)

    module _ (ts' : List (ℕ × ℕ)) (out : (i : ℕ) → slice_get ts' i ≡ taken_out ts gone.node i) where
      -- the last node was the session's
      pub index_last_gone : mover ts gone.node ≡ None → IsIndex known' ts'
      index_last_gone e =
          let last : length ts - 1 ≤ gone.node = elim (le_or gone.node (length ts - 1)) [ inl l ↦ absurd (none-some last_there.0.1 (sym e ∙ mover_below l)) | inr l ↦ l ] in
          record {
            there = λ k c is.
                let place : slice_get ts c.node ≡ Some (deadline c.heard, k) = place_was k c is in
                let q : c.node ≢ gone.node = other_node k c.node (deadline c.heard) (other_session k c is) place in
                out c.node ∙ out_inside c.node (omega (arith, q, last, gone_inside, slice_get_within ts c.node (deadline c.heard, k) place)) q ∙ place;
            back = λ i t is. elim (le_or i (length ts - 1)) [
              | inl l ↦
                  let q : i ≢ gone.node = λ n. omega (arith, n, l, last) in
                  node_stays i t q (sym (out i ∙ out_inside i l q) ∙ is)
              | inr l ↦ absurd (none-some t (sym (out i ∙ out_past i l) ∙ is))
            ];
          }

      -- the last node's session moves to the session's node
      module _ (moved : ℕ) (e : mover ts gone.node ≡ Some moved) (known'' : List (ℕ × Known)) (moves : (k : ℕ) → lookup (nat_eq k) known'' ≡ cond (nat_eq moved k) (moved_to gone.node (lookup (nat_eq k) known')) (lookup (nat_eq k) known')) where
        before_last : gone.node < length ts - 1
        before_last = elim (le_or gone.node (length ts - 1)) [ inl l ↦ l | inr l ↦ absurd (none-some moved (sym (mover_last l) ∙ e)) ]

        last_is : slice_get ts (length ts - 1) ≡ Some (last_there.0.0, moved)
        last_is = last_there.1 ∙ ap (λ m. Some (last_there.0.0, m)) (same_Some last_there.0.1 moved (sym (mover_below before_last) ∙ e))

        moved_at : node_in (lookup (nat_eq moved) known') ≡ Some (length ts - 1)
        moved_at = node_stays (length ts - 1) (last_there.0.0, moved) (λ n. omega (arith, n, before_last)) last_is

        pub index_moved : IsIndex known'' ts'
        index_moved = record {
          there = λ k c is. elim (eqb_tells moved k) [
            | inl p ↦ mine k c p.1 (lookup (nat_eq k) known') refl (sym (moves k ∙ here moved k (moved_to gone.node (lookup (nat_eq k) known')) (lookup (nat_eq k) known') p.1) ∙ is)
            | inr p ↦
                let still : lookup (nat_eq k) known' ≡ Some c = sym (moves k ∙ apart moved k (moved_to gone.node (lookup (nat_eq k) known')) (lookup (nat_eq k) known') p.1) ∙ is in
                let place : slice_get ts c.node ≡ Some (deadline c.heard, k) = place_was k c still in
                let q : c.node ≢ gone.node = other_node k c.node (deadline c.heard) (other_session k c still) place in
                let r : c.node ≢ length ts - 1 = λ n. p.1 (ap (λ (t : ℕ × ℕ). t.1) (same_Some _ _ (sym last_is ∙ ap (slice_get ts) (sym n) ∙ place))) in
                out c.node ∙ out_inside c.node (omega (arith, r, slice_get_within ts c.node (deadline c.heard, k) place)) q ∙ place
          ];
          back = λ i t is. elim (le_or i (length ts - 1)) [
            | inl l ↦ elim (eqb_tells i gone.node) [
              | inl p ↦
                  let last : t ≡ (last_there.0.0, moved) = same_Some t (last_there.0.0, moved) (sym is ∙ ap (slice_get ts') p.1 ∙ out gone.node ∙ out_node before_last ∙ last_is) in
                  ap (λ (x : ℕ × ℕ). node_in (lookup (nat_eq x.1) known'')) last
                  ∙ ap node_in (moves moved ∙ here moved moved (moved_to gone.node (lookup (nat_eq moved) known')) (lookup (nat_eq moved) known') refl)
                  ∙ at_node (lookup (nat_eq moved) known') (length ts - 1) moved_at ∙ ap Some (sym p.1)
              | inr p ↦
                  let place : slice_get ts i ≡ Some t = sym (out i ∙ out_inside i l p.1) ∙ is in
                  let other : moved ≢ t.1 = λ m. omega (arith, l, one_node moved i (length ts - 1) t.0 last_there.0.0 (place ∙ ap (λ x. Some (t.0, x)) (sym m)) last_is) in
                  ap node_in (moves t.1 ∙ apart moved t.1 (moved_to gone.node (lookup (nat_eq t.1) known')) (lookup (nat_eq t.1) known') other) ∙ node_stays i t p.1 place
            ]
            | inr l ↦ absurd (none-some t (sym (out i ∙ out_past i l) ∙ is))
          ];
        } where
          at_node : (o : Option Known) (i : ℕ) → node_in o ≡ Some i → node_in (moved_to gone.node o) ≡ Some gone.node
          at_node None i e = absurd (none-some i e)
          at_node (Some c) i e = refl

          mine : (k : ℕ) (c : Known) → moved ≡ k → (o : Option Known) → lookup (nat_eq k) known' ≡ o → moved_to gone.node o ≡ Some c → slice_get ts' c.node ≡ Some (deadline c.heard, k)
          mine k c p None o e = absurd (none-some c e)
          mine k c p (Some b) o e =
              let to : record { heard = b.heard; node = gone.node } ≡ c = same_Some (record { heard = b.heard; node = gone.node }) c e in
              let place : slice_get ts b.node ≡ Some (deadline b.heard, k) = place_was k b o in
              let b_last : b.node ≡ length ts - 1 = node_of (lookup (nat_eq k) known') b (length ts - 1) o (ap (λ q. node_in (lookup (nat_eq q) known')) (sym p) ∙ moved_at) in
              ap (slice_get ts') (sym (ap (λ (x : Known). x.node) to)) ∙ out gone.node ∙ out_node before_last
              ∙ ap (slice_get ts) (sym b_last) ∙ place ∙ ap (λ (x : Known). Some (deadline x.heard, k)) to

        pub map_moved : base_of known'' ≡ map.remove (base_of known) session
        map_moved = base_kept_heard known' known'' (λ k. ap heard_in (moves k) ∙ elim (eqb_tells moved k) [
          | inl p ↦ ap heard_in (here moved k (moved_to gone.node (lookup (nat_eq k) known')) (lookup (nat_eq k) known') p.1) ∙ same_heard (lookup (nat_eq k) known')
          | inr p ↦ ap heard_in (apart moved k (moved_to gone.node (lookup (nat_eq k) known')) (lookup (nat_eq k) known') p.1)
        ]) ∙ map_removed where
          same_heard : (o : Option Known) → heard_in (moved_to gone.node o) ≡ heard_in o
          same_heard None = refl
          same_heard (Some c) = refl
