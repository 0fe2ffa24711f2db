-- The walk over the nodes at or below which a deadline has come: it finds all of these deadlines.
use Rattle.std.proofs.Common.{◌≡◌, ℕ, zero, suc, ◌+◌, ◌-◌, ◌*◌, ◌/◌, ◌<◌, ◌≤◌, inl, inr, Bool, true, false, true≢false, cond, nat_le, List, [], ◌∷◌, ◌++◌, length, take, slice_get, get_or, Option, Some, None, option_map, refl, ap, sym, ◌∙◌, subst, arith, append-nil, length-append}
use Rattle.std.specs.List.{filter}
use Rattle.std.proofs.lemmas.List.{take_all, length-map}
use Rattle.std.proofs.lemmas.Option.{same_Some, none-some, slice_get_past, slice_get-map, slice_get-get_or}
use Rattle.std.proofs.lemmas.Bool.{leb-false, lt-leb}
use Rattle.std.proofs.lemmas.Bool.Decides.{eqb_tells}
use Rattle.kp_expiry.specs.declared.tree.Slot.{Slot}
use Rattle.kp_expiry.specs.Nodes.{tag, tags, leasts, earlier, least_of, AreRight}
use Rattle.kp_expiry.specs.Walk.{warm_in, is_warm, warm_at, has_come, come_in, come_at}
use Rattle.kp_expiry.proofs.Mended.{le_or, parent_of}

-- the numbers that pass the test, among so many from one on
abbrev pub passing : (ℕ → Bool) → ℕ → ℕ → List ℕ
passing w from zero = []
passing w from (suc c) = cond (w from) (from ∷ passing w (suc from) c) (passing w (suc from) c)

-- none of the numbers from a below b passes
abbrev pub Gap : (ℕ → Bool) → ℕ → ℕ → Type 0
Gap w a b = (j : ℕ) → a ≤ j → j < b → w j ≡ false

-- where a node doesn't pass its children don't
pub record IsClosed (w : ℕ → Bool) : Type 0 where
  pub left : (p : ℕ) → w p ≡ false → w (2 * p + 1) ≡ false
  pub right : (p : ℕ) → w p ≡ false → w (2 * p + 2) ≡ false

split : (w : ℕ → Bool) (a b n from next : ℕ) → n ≡ a + b → next ≡ from + a → passing w from n ≡ passing w from a ++ passing w next b
split w zero b n from next e f =
    let p : n ≡ b = omega arith in
    let q : from ≡ next = omega arith in
    ap (passing w from) p ∙ ap (λ m. passing w m b) q
split w (suc a) b zero from next e f = absurd (omega arith)
split w (suc a) b (suc n) from next e f = step (w from) (split w a b n (suc from) next (omega arith) (omega arith)) where
  step : (c : Bool) → passing w (suc from) n ≡ passing w (suc from) a ++ passing w next b → cond c (from ∷ passing w (suc from) n) (passing w (suc from) n) ≡ cond c (from ∷ passing w (suc from) a) (passing w (suc from) a) ++ passing w next b
  step true h = ap (◌∷◌ from) h
  step false h = h

snoc : (w : ℕ → Bool) (k n : ℕ) → n ≡ k + 1 → passing w 0 n ≡ passing w 0 k ++ cond (w k) (k ∷ []) []
snoc w k n e = split w k (suc zero) n 0 k (omega arith) (omega arith)

empty : (w : ℕ → Bool) (c m : ℕ) → Gap w m (m + c) → passing w m c ≡ []
empty w zero m g = refl
empty w (suc c) m g =
    ap (λ b. cond b (m ∷ passing w (suc m) c) (passing w (suc m) c)) (g m (omega arith) (omega arith))
    ∙ empty w c (suc m) (λ j l k. g j (omega arith) (omega arith))

over_gap : (w : ℕ → Bool) (m i : ℕ) → m ≤ i → Gap w m i → passing w 0 i ≡ passing w 0 m
over_gap w m i h g =
    split w m (i - m) i 0 m (omega arith) (omega arith)
    ∙ ap (λ l. passing w 0 m ++ l) (empty w (i - m) m (λ j l k. g j l (omega arith)))
    ∙ append-nil (passing w 0 m)

-- the first that passes
record Head (w : ℕ → Bool) (c m i : ℕ) : Type 0 where
  least : m ≤ i
  below : i < m + c
  before : Gap w m i
  here : w i ≡ true

head : (w : ℕ → Bool) (c m i : ℕ) → slice_get (passing w m c) 0 ≡ Some i → Head w c m i
head w zero m i e = absurd (none-some i e)
head w (suc c) m i e = cases (head w c (suc m) i) (w m) refl e where
  cases : (slice_get (passing w (suc m) c) 0 ≡ Some i → Head w c (suc m) i) → (b : Bool) → w m ≡ b → slice_get (cond b (m ∷ passing w (suc m) c) (passing w (suc m) c)) 0 ≡ Some i → Head w (suc c) m i
  cases rest true is e =
      let same : m ≡ i = same_Some m i e in
      record { least = omega arith; below = omega arith; before = λ j l h. absurd (omega arith); here = ap w (sym same) ∙ is }
  cases rest false is e =
      let h : Head w c (suc m) i = rest e in
      record {
        least = omega (arith, h.least);
        below = omega (arith, h.below);
        before = λ j l k. elim (eqb_tells j m) [ inl p ↦ ap w p.1 ∙ is | inr p ↦ h.before j (omega (arith, p.1)) k ];
        here = h.here;
      }

none : (w : ℕ → Bool) (c m : ℕ) → slice_get (passing w m c) 0 ≡ None → Gap w m (m + c)
none w zero m e = λ j l k. absurd (omega arith)
none w (suc c) m e = cases (none w c (suc m)) (w m) refl e where
  cases : (slice_get (passing w (suc m) c) 0 ≡ None → Gap w (suc m) (suc m + c)) → (b : Bool) → w m ≡ b → slice_get (cond b (m ∷ passing w (suc m) c) (passing w (suc m) c)) 0 ≡ None → Gap w m (m + suc c)
  cases rest true is e = absurd (none-some m (sym e))
  cases rest false is e = λ j l k. elim (eqb_tells j m) [ inl p ↦ ap w p.1 ∙ is | inr p ↦ rest e j (omega (arith, p.1)) (omega arith) ]

few : (w : ℕ → Bool) (c m : ℕ) → length (passing w m c) ≤ c
few w zero m = omega arith
few w (suc c) m = step (w m) (few w c (suc m)) where
  step : (b : Bool) → length (passing w (suc m) c) ≤ c → length (cond b (m ∷ passing w (suc m) c) (passing w (suc m) c)) ≤ suc c
  step true h = omega arith
  step false h = omega arith

gap_below : (w : ℕ → Bool) (m i : ℕ) → IsClosed w → Gap w m i → Gap w (2 * m + 1) (2 * i + 1)
gap_below w m i closed g = λ j l k. elim (parent_of j (omega arith)) [
  | inl e ↦ ap w e ∙ closed.left ((j - 1) / 2) (g ((j - 1) / 2) (omega (arith, e)) (omega (arith, e)))
  | inr e ↦ ap w e ∙ closed.right ((j - 1) / 2) (g ((j - 1) / 2) (omega (arith, e)) (omega (arith, e)))
]

gap_on : (w : ℕ → Bool) (m : ℕ) → IsClosed w → Gap w m (2 * m + 1) → (fuel j : ℕ) → j ≤ fuel → m ≤ j → w j ≡ false
gap_on w m closed g zero j f l = g j l (omega arith)
gap_on w m closed g (suc fuel) j f l = elim (le_or j (2 * m + 1)) [
  | inl below ↦ g j l below
  | inr above ↦ elim (parent_of j (omega arith)) [
    | inl e ↦ ap w e ∙ closed.left ((j - 1) / 2) (gap_on w m closed g fuel ((j - 1) / 2) (omega (arith, e)) (omega (arith, e)))
    | inr e ↦ ap w e ∙ closed.right ((j - 1) / 2) (gap_on w m closed g fuel ((j - 1) / 2) (omega (arith, e)) (omega (arith, e)))
  ]
]

-- ---- what has come among the first so many
more : (now : ℕ) (ts : List (ℕ × ℕ)) (j : ℕ) → filter (has_come now) (take (suc j) ts) ≡ filter (has_come now) (take j ts) ++ come_in now (slice_get ts j)
more now [] zero = refl
more now [] (suc j) = refl
more now (t ∷ ts) zero = refl
more now (t ∷ ts) (suc j) = step (has_come now t) (more now ts j) where
  step : (b : Bool) → filter (has_come now) (take (suc j) ts) ≡ filter (has_come now) (take j ts) ++ come_in now (slice_get ts j) → cond b (t ∷ filter (has_come now) (take (suc j) ts)) (filter (has_come now) (take (suc j) ts)) ≡ cond b (t ∷ filter (has_come now) (take j ts)) (filter (has_come now) (take j ts)) ++ come_in now (slice_get ts j)
  step true h = ap (◌∷◌ t) h
  step false h = h

none_come : (now : ℕ) (ts : List (ℕ × ℕ)) (d m k : ℕ) → k ≡ m + d → ((j : ℕ) → m ≤ j → come_in now (slice_get ts j) ≡ []) → filter (has_come now) (take k ts) ≡ filter (has_come now) (take m ts)
none_come now ts zero m k e cold = let p : k ≡ m = omega arith in ap (λ n. filter (has_come now) (take n ts)) p
none_come now ts (suc d) m zero e cold = absurd (omega arith)
none_come now ts (suc d) m (suc k) e cold =
    more now ts k
    ∙ ap (λ l. filter (has_come now) (take k ts) ++ l) (cold k (omega arith))
    ∙ append-nil (filter (has_come now) (take k ts))
    ∙ none_come now ts d m k (omega arith) cold

none_between : (now : ℕ) (ts : List (ℕ × ℕ)) (d m k : ℕ) → k ≡ m + d → ((j : ℕ) → m ≤ j → j < k → come_in now (slice_get ts j) ≡ []) → filter (has_come now) (take k ts) ≡ filter (has_come now) (take m ts)
none_between now ts zero m k e cold = let p : k ≡ m = omega arith in ap (λ n. filter (has_come now) (take n ts)) p
none_between now ts (suc d) m zero e cold = absurd (omega arith)
none_between now ts (suc d) m (suc k) e cold =
    more now ts k
    ∙ ap (λ l. filter (has_come now) (take k ts) ++ l) (cold k (omega arith) (omega arith))
    ∙ append-nil (filter (has_come now) (take k ts))
    ∙ none_between now ts d m k (omega arith) (λ j l h. cold j l (omega arith))

-- ---- what is right of the tree
earlier_le : (d : ℕ) (o : Option ℕ) → earlier d o ≤ d
earlier_le d None = omega arith
earlier_le d (Some l) = omega arith

earlier_child : (d l : ℕ) (o : Option ℕ) → o ≡ Some l → earlier d o ≤ l
earlier_child d l o e = subst (λ x. earlier d x ≤ l) (sym e) (omega arith)

least_le : (ls : List ℕ) (j d : ℕ) → least_of ls j d ≤ d
least_le ls j d = omega (arith, earlier_le (earlier d (slice_get ls (2 * j + 1))) (slice_get ls (2 * j + 2)), earlier_le d (slice_get ls (2 * j + 1)))

least_left : (ls : List ℕ) (j d l : ℕ) → slice_get ls (2 * j + 1) ≡ Some l → least_of ls j d ≤ l
least_left ls j d l e = omega (arith, earlier_le (earlier d (slice_get ls (2 * j + 1))) (slice_get ls (2 * j + 2)), earlier_child d l (slice_get ls (2 * j + 1)) e)

least_right : (ls : List ℕ) (j d l : ℕ) → slice_get ls (2 * j + 2) ≡ Some l → least_of ls j d ≤ l
least_right ls j d l e = earlier_child (earlier d (slice_get ls (2 * j + 1))) l (slice_get ls (2 * j + 2)) e

-- the node's deadline and session, and what it says, of one slot
at_slot : (slots : List Slot) (j : ℕ) (s : Slot) → slice_get slots j ≡ Some s → (slice_get (tags slots) j ≡ Some (tag s)) × (slice_get (leasts slots) j ≡ Some s.least)
at_slot slots j s e = (slice_get-map tag slots j ∙ ap (option_map tag) e, slice_get-map (λ (x : Slot). x.least) slots j ∙ ap (option_map (λ (x : Slot). x.least)) e)

later_cold : (now l : ℕ) (o : Option ℕ) → ((k : ℕ) → o ≡ Some k → l ≤ k) → nat_le l now ≡ false → warm_in now o ≡ false
later_cold now l None h cold = refl
later_cold now l (Some k) h cold = lt-leb k now (omega (arith, leb-false l now cold, h k refl))

past_cold : (now : ℕ) (slots : List Slot) (j k : ℕ) → slice_get slots j ≡ None → j ≤ k → warm_in now (slice_get (leasts slots) k) ≡ false
past_cold now slots j k e h = ap (warm_in now) (slice_get-map (λ (x : Slot). x.least) slots k ∙ ap (option_map (λ (x : Slot). x.least)) (slice_get_past slots k (omega (arith, past slots j e)))) where
  past : (xs : List Slot) (i : ℕ) → slice_get xs i ≡ None → length xs ≤ i
  past [] i e = omega arith
  past (x ∷ xs) zero e = absurd (none-some x (sym e))
  past (x ∷ xs) (suc i) e = omega (arith, past xs i e)

module _ (slots : List Slot) (now : ℕ) (right : AreRight slots) where
  says : (j : ℕ) (s : Slot) → slice_get slots j ≡ Some s → s.least ≡ least_of (leasts slots) j s.deadline
  says j s e = let at = at_slot slots j s e in right j (tag s) s.least at.0 at.1

  cold_is : (j : ℕ) (s : Slot) → slice_get slots j ≡ Some s → is_warm slots now j ≡ false → nat_le s.least now ≡ false
  cold_is j s e cold = sym (ap (warm_in now) (at_slot slots j s e).1) ∙ cold

  left_cold : (o : Option Slot) (p : ℕ) → slice_get slots p ≡ o → is_warm slots now p ≡ false → is_warm slots now (2 * p + 1) ≡ false
  left_cold None p e cold = past_cold now slots p (2 * p + 1) e (omega arith)
  left_cold (Some s) p e cold = later_cold now s.least (slice_get (leasts slots) (2 * p + 1)) (λ k is. omega (arith, says p s e, least_left (leasts slots) p s.deadline k is)) (cold_is p s e cold)

  right_cold : (o : Option Slot) (p : ℕ) → slice_get slots p ≡ o → is_warm slots now p ≡ false → is_warm slots now (2 * p + 2) ≡ false
  right_cold None p e cold = past_cold now slots p (2 * p + 2) e (omega arith)
  right_cold (Some s) p e cold = later_cold now s.least (slice_get (leasts slots) (2 * p + 2)) (λ k is. omega (arith, says p s e, least_right (leasts slots) p s.deadline k is)) (cold_is p s e cold)

  closed : IsClosed (is_warm slots now)
  closed = record { left = λ p. left_cold (slice_get slots p) p refl; right = λ p. right_cold (slice_get slots p) p refl }

  none_of : (o : Option Slot) (j : ℕ) → slice_get slots j ≡ o → is_warm slots now j ≡ false → come_at slots now j ≡ []
  none_of None j e cold = ap (come_in now) (slice_get-map tag slots j ∙ ap (option_map tag) e)
  none_of (Some s) j e cold =
      ap (come_in now) (at_slot slots j s e).0
      ∙ ap (λ b. cond b (tag s ∷ []) []) (lt-leb s.deadline now (omega (arith, leb-false s.least now (cold_is j s e cold), says j s e, least_le (leasts slots) j s.deadline)))

  cold_none : (j : ℕ) → is_warm slots now j ≡ false → come_at slots now j ≡ []
  cold_none j = none_of (slice_get slots j) j refl

-- ---- the walk
-- the first `at` of the warm nodes are those below m; all below 2 * m + 1 are known, and what has come of the first m is found
pub record IsWalked (slots : List Slot) (now at : ℕ) (nodes : List ℕ) (found : List (ℕ × ℕ)) : Type 0 where
  pub m : ℕ
  pub seen : at ≡ length (passing (is_warm slots now) 0 m)
  pub ahead : nodes ≡ passing (is_warm slots now) 0 (2 * m + 1)
  pub come : found ≡ filter (has_come now) (take m (tags slots))

at_end : {A : Type 0} (xs ys : List A) → slice_get (xs ++ ys) (length xs) ≡ slice_get ys 0
at_end [] ys = refl
at_end (x ∷ xs) ys = at_end xs ys

pub walk_starts : (slots : List Slot) (now : ℕ) (nodes : List ℕ) → nodes ≡ [] ++ warm_at slots now 0 → IsWalked slots now 0 nodes []
walk_starts slots now nodes e = record { m = 0; seen = refl; ahead = e ∙ sym (snoc (is_warm slots now) 0 1 refl); come = refl }

module _ (slots : List Slot) (now at : ℕ) (nodes : List ℕ) (found : List (ℕ × ℕ)) (h : IsWalked slots now at nodes found) where
  w : ℕ → Bool
  w = is_warm slots now

  ahead_at : slice_get nodes at ≡ slice_get (passing (is_warm slots now) h.m (h.m + 1)) 0
  ahead_at =
      ap (λ l. slice_get l at) (h.ahead ∙ split (is_warm slots now) h.m (h.m + 1) (2 * h.m + 1) 0 h.m (omega arith) (omega arith))
      ∙ ap (slice_get (passing (is_warm slots now) 0 h.m ++ passing (is_warm slots now) h.m (h.m + 1))) h.seen
      ∙ at_end (passing (is_warm slots now) 0 h.m) (passing (is_warm slots now) h.m (h.m + 1))

  first_of_rest : (node : ℕ) → slice_get nodes at ≡ Some node → Head (is_warm slots now) (h.m + 1) h.m node
  first_of_rest node e = head (is_warm slots now) (h.m + 1) h.m node (sym ahead_at ∙ e)

  pub walk_inside : (node : ℕ) → slice_get nodes at ≡ Some node → node < length slots
  walk_inside node e = elim (le_or node (length slots)) [
    | inl inside ↦ inside
    | inr past ↦ absurd (true≢false (sym (first_of_rest node e).here ∙ ap (warm_in now) (slice_get_past (leasts slots) node (omega (arith, length-map slots (λ (x : Slot). x.least))))))
  ]

  module _ (right : AreRight slots) where
    pub walk_goes_on : (node : ℕ) (nodes' : List ℕ) (found' : List (ℕ × ℕ)) → slice_get nodes at ≡ Some node → found' ≡ found ++ come_at slots now node → nodes' ≡ (nodes ++ warm_at slots now (2 * node + 1)) ++ warm_at slots now (2 * node + 2) → IsWalked slots now (at + 1) nodes' found'
    walk_goes_on node nodes' found' e f n =
        let first : Head (is_warm slots now) (h.m + 1) h.m node = first_of_rest node e in
        let known : passing (is_warm slots now) 0 (2 * node + 1) ≡ nodes = over_gap (is_warm slots now) (2 * h.m + 1) (2 * node + 1) (omega (arith, first.least)) (gap_below (is_warm slots now) h.m node (closed slots now right) first.before) ∙ sym h.ahead in
        record {
          m = node + 1;
          seen =
              let all : passing (is_warm slots now) 0 (node + 1) ≡ passing (is_warm slots now) 0 h.m ++ node ∷ [] =
              snoc (is_warm slots now) node (node + 1) refl
              ∙ ap (λ b. passing (is_warm slots now) 0 node ++ cond b (node ∷ []) []) first.here
              ∙ ap (λ l. l ++ node ∷ []) (over_gap (is_warm slots now) h.m node first.least first.before) in
              omega (arith, h.seen, ap length all, length-append (passing (is_warm slots now) 0 h.m) (node ∷ []));
          ahead =
              n
              ∙ ap (λ l. (l ++ warm_at slots now (2 * node + 1)) ++ warm_at slots now (2 * node + 2)) (sym known)
              ∙ ap (λ l. l ++ warm_at slots now (2 * node + 2)) (sym (snoc (is_warm slots now) (2 * node + 1) (2 * node + 2) (omega arith)))
              ∙ sym (snoc (is_warm slots now) (2 * node + 2) (2 * (node + 1) + 1) (omega arith));
          come =
              let next : suc node ≡ node + 1 = omega arith in
              f
              ∙ ap (λ l. l ++ come_at slots now node) (h.come ∙ sym (none_between now (tags slots) (node - h.m) h.m node (omega (arith, first.least)) (λ j l k. cold_none slots now right j (first.before j l k))))
              ∙ sym (more now (tags slots) node)
              ∙ ap (λ k. filter (has_come now) (take k (tags slots))) next;
        }

    cold_on : slice_get nodes at ≡ None → (j : ℕ) → h.m ≤ j → is_warm slots now j ≡ false
    cold_on e j l = gap_on (is_warm slots now) h.m (closed slots now right) (λ i a b. none (is_warm slots now) (h.m + 1) h.m (sym ahead_at ∙ e) i a (omega arith)) j j (omega arith) l

    pub walk_ends : slice_get nodes at ≡ None → found ≡ filter (has_come now) (tags slots)
    walk_ends e = h.come ∙ elim (le_or h.m (length (tags slots))) [
      | inl inside ↦
          sym (none_come now (tags slots) (length (tags slots) - h.m) h.m (length (tags slots)) (omega arith) (λ j l. cold_none slots now right j (cold_on e j l)))
          ∙ ap (filter (has_come now)) (take_all (length (tags slots)) (tags slots) (omega arith))
      | inr past ↦ ap (filter (has_come now)) (take_all h.m (tags slots) past)
    ]

    pub walk_was_whole : at ≡ length slots → found ≡ filter (has_come now) (tags slots)
    walk_was_whole e = h.come ∙ ap (filter (has_come now)) (take_all h.m (tags slots) (omega (arith, h.seen, few (is_warm slots now) h.m 0, length-map slots tag)))

-- a node whose own deadline has not come
pub not_come : (slots : List Slot) (now node : ℕ) (d : Slot) → node < length slots → now < (get_or slots node d).deadline → come_at slots now node ≡ []
not_come slots now node d inside late =
    ap (come_in now) (at_slot slots node (get_or slots node d) (slice_get-get_or slots node d inside)).0
    ∙ ap (λ b. cond b (tag (get_or slots node d) ∷ []) []) (lt-leb (get_or slots node d).deadline now late)
