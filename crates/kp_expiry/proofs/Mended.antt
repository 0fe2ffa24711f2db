-- Which nodes stay right when one node, its deadline or the number of nodes changes.
use Rattle.std.proofs.Common.{◌≡◌, ◌≢◌, ℕ, zero, suc, ◌+◌, ◌-◌, ◌*◌, ◌<◌, ◌≤◌, ◌/◌, ◌%◌, ◌⊎◌, inl, inr, List, [], ◌∷◌, ◌++◌, length, take, drop, slice_get, get_or, Some, None, refl, ap, sym, ◌∙◌, subst, arith}
use Rattle.std.proofs.Math.ListN.{set}
use Rattle.std.proofs.lemmas.List.{set-get_or, map-set, length-map, map-append, take_all, take-append-le}
use Rattle.std.proofs.Math.Seq.{map-set_same}
use Rattle.std.proofs.lemmas.Option.{same_Some, none-some, slice_get_past}
use Rattle.std.proofs.lemmas.Bool.Decides.{eqb_tells}
use Rattle.std.proofs.Math.Nat.{div-add-mod}
use Rattle.std.proofs.lemmas.Nat.{mod_below}
use Rattle.kp_expiry.specs.declared.tree.Slot.{Slot}
use Rattle.kp_expiry.specs.Nodes.{tag, tags, leasts, earlier, least_of, IsRightIn, IsRight, AreRight, AreRightBut, AreRightAbove}
use Rattle.kp_expiry.proofs.Places.{at_set_here, at_set_other, at_push_here, at_push_other}

-- below, or not
pub le_or : (j n : ℕ) → (j < n) ⊎ (n ≤ j)
le_or zero zero = inr (omega arith)
le_or zero (suc n) = inl (omega arith)
le_or (suc j) zero = inr (omega arith)
le_or (suc j) (suc n) = elim (le_or j n) [ inl h ↦ inl (omega arith) | inr h ↦ inr (omega arith) ]

same_least : (ls ls' : List ℕ) (j d : ℕ) → slice_get ls' (2 * j + 1) ≡ slice_get ls (2 * j + 1) → slice_get ls' (2 * j + 2) ≡ slice_get ls (2 * j + 2) → least_of ls' j d ≡ least_of ls j d
same_least ls ls' j d e f = ap (earlier (earlier d (slice_get ls' (2 * j + 1)))) f ∙ ap (λ o. earlier (earlier d o) (slice_get ls (2 * j + 2))) e

still_right : (ts ts' : List (ℕ × ℕ)) (ls ls' : List ℕ) (j : ℕ) → slice_get ts' j ≡ slice_get ts j → slice_get ls' j ≡ slice_get ls j → slice_get ls' (2 * j + 1) ≡ slice_get ls (2 * j + 1) → slice_get ls' (2 * j + 2) ≡ slice_get ls (2 * j + 2) → IsRightIn ts ls j → IsRightIn ts' ls' j
still_right ts ts' ls ls' j s l e f h = λ t m at is. h t m (sym s ∙ at) (sym l ∙ is) ∙ sym (same_least ls ls' j t.0 e f)

-- ---- a node that says another least deadline
module _ (old new : List Slot) (node least : ℕ) (d : Slot) (inside : node < length old) (is : new ≡ set old node (record { session = (get_or old node d).session; deadline = (get_or old node d).deadline; least = least })) where
  pub renewed_tags : tags new ≡ tags old
  renewed_tags = ap tags is ∙ map-set_same tag old node (record { session = (get_or old node d).session; deadline = (get_or old node d).deadline; least = least }) d refl

  renewed_leasts : leasts new ≡ set (leasts old) node least
  renewed_leasts = ap leasts is ∙ map-set (λ (x : Slot). x.least) old node (record { session = (get_or old node d).session; deadline = (get_or old node d).deadline; least = least })

  elsewhere : (j : ℕ) → j ≢ node → slice_get (leasts new) j ≡ slice_get (leasts old) j
  elsewhere j apart = ap (λ l. slice_get l j) renewed_leasts ∙ at_set_other (leasts old) node j least apart

  pub renewed_here : ((t : ℕ × ℕ) → slice_get (tags old) node ≡ Some t → least ≡ least_of (leasts old) node t.0) → IsRight new node
  renewed_here right = λ t m stands says.
      let mine : Some m ≡ Some least = sym says ∙ ap (λ l. slice_get l node) renewed_leasts ∙ at_set_here (leasts old) node least (subst (λ n. node < n) (sym (length-map old (λ (x : Slot). x.least))) inside) in
      same_Some m least mine
      ∙ right t (sym (ap (λ l. slice_get l node) renewed_tags) ∙ stands)
      ∙ sym (same_least (leasts old) (leasts new) node t.0 (elsewhere (2 * node + 1) (λ e. omega arith)) (elsewhere (2 * node + 2) (λ e. omega arith)))

  pub renewed_others : (j : ℕ) → j ≢ node → 2 * j + 1 ≢ node → 2 * j + 2 ≢ node → IsRight old j → IsRight new j
  renewed_others j apart left right h =
      still_right (tags old) (tags new) (leasts old) (leasts new) j (ap (λ l. slice_get l j) renewed_tags) (elsewhere j apart) (elsewhere (2 * j + 1) left) (elsewhere (2 * j + 2) right) h

-- a node whose least deadline is as it should be
pub right_already : (old : List Slot) (node least : ℕ) (d : Slot) → node < length old → (get_or old node d).least ≡ least → ((t : ℕ × ℕ) → slice_get (tags old) node ≡ Some t → least ≡ least_of (leasts old) node t.0) → IsRight old node
right_already old node least d inside is right = renewed_here old old node least d inside (sym (same ∙ set-get_or old node d)) right where
  same : set old node (record { session = (get_or old node d).session; deadline = (get_or old node d).deadline; least = least }) ≡ set old node (get_or old node d)
  same = ap (λ (l : ℕ). set old node (record { session = (get_or old node d).session; deadline = (get_or old node d).deadline; least = l })) (sym is)

-- ---- one step up
left_is : (j p c : ℕ) → (c ≡ 2 * p + 1) ⊎ (c ≡ 2 * p + 2) → 2 * j + 1 ≡ c → j ≡ p
left_is j p c (inl h) e = omega arith
left_is j p c (inr h) e = omega arith

right_is : (j p c : ℕ) → (c ≡ 2 * p + 1) ⊎ (c ≡ 2 * p + 2) → 2 * j + 2 ≡ c → j ≡ p
right_is j p c (inl h) e = omega arith
right_is j p c (inr h) e = omega arith

pub step_up : (old new : List Slot) (child parent : ℕ) → (child ≡ 2 * parent + 1) ⊎ (child ≡ 2 * parent + 2) → AreRightAbove old child → IsRight new parent → ((j : ℕ) → j ≢ parent → 2 * j + 1 ≢ parent → 2 * j + 2 ≢ parent → IsRight old j → IsRight new j) → AreRightAbove new parent
step_up old new child parent is h here others = λ j left right. elim (eqb_tells j parent) [
  | inl p ↦ subst (IsRight new) (sym p.1) here
  | inr p ↦ others j p.1 left right (h j (λ e. p.1 (left_is j parent child is e)) (λ e. p.1 (right_is j parent child is e)))
]

pub step_done : (old : List Slot) (child parent : ℕ) → (child ≡ 2 * parent + 1) ⊎ (child ≡ 2 * parent + 2) → AreRightAbove old child → IsRight old parent → AreRight old
step_done old child parent is h here = λ j. elim (eqb_tells j parent) [
  | inl p ↦ subst (IsRight old) (sym p.1) here
  | inr p ↦ h j (λ e. p.1 (left_is j parent child is e)) (λ e. p.1 (right_is j parent child is e))
]

pub from_here : (old new : List Slot) (node : ℕ) → AreRightBut old node → IsRight new node → ((j : ℕ) → j ≢ node → 2 * j + 1 ≢ node → 2 * j + 2 ≢ node → IsRight old j → IsRight new j) → AreRightAbove new node
from_here old new node h here others = λ j left right. elim (eqb_tells j node) [
  | inl p ↦ subst (IsRight new) (sym p.1) here
  | inr p ↦ others j p.1 left right (h j p.1)
]

pub all_right : (slots : List Slot) (node : ℕ) → AreRightBut slots node → IsRight slots node → AreRight slots
all_right slots node h here = λ j. elim (eqb_tells j node) [
  | inl p ↦ subst (IsRight slots) (sym p.1) here
  | inr p ↦ h j p.1
]

pub at_root : (slots : List Slot) (child : ℕ) → child ≡ 0 → AreRightAbove slots child → AreRight slots
at_root slots child is h = λ j. h j (λ e. omega arith) (λ e. omega arith)

-- the parent of a node
pub parent_of : (child : ℕ) → 0 < child → (child ≡ 2 * ((child - 1) / 2) + 1) ⊎ (child ≡ 2 * ((child - 1) / 2) + 2)
parent_of child h = parts ((child - 1) / 2) ((child - 1) % 2) child (mod_below (child - 1) 2 (omega arith)) (omega (arith, div-add-mod (child - 1) 2)) where
  parts : (p r c : ℕ) → r < 2 → 2 * p + r + 1 ≡ c → (c ≡ 2 * p + 1) ⊎ (c ≡ 2 * p + 2)
  parts p zero c h is = inl (omega arith)
  parts p (suc zero) c h is = inr (omega arith)
  parts p (suc (suc r)) c h is = absurd (omega arith)

-- ---- another session and deadline at a node
module _ (old new : List Slot) (node session deadline : ℕ) (d : Slot) (is : new ≡ set old node (record { session = session; deadline = deadline; least = (get_or old node d).least })) where
  pub put_tags : tags new ≡ set (tags old) node (deadline, session)
  put_tags = ap tags is ∙ map-set tag old node (record { session = session; deadline = deadline; least = (get_or old node d).least })

  put_leasts : leasts new ≡ leasts old
  put_leasts = ap leasts is ∙ map-set_same (λ (x : Slot). x.least) old node (record { session = session; deadline = deadline; least = (get_or old node d).least }) d refl

  pub put_others : AreRight old → AreRightBut new node
  put_others h = λ j apart.
      let l : (i : ℕ) → slice_get (leasts new) i ≡ slice_get (leasts old) i = λ i. ap (λ l. slice_get l i) put_leasts in
      still_right (tags old) (tags new) (leasts old) (leasts new) j (ap (λ l. slice_get l j) put_tags ∙ at_set_other (tags old) node j (deadline, session) apart) (l j) (l (2 * j + 1)) (l (2 * j + 2)) (h j)

-- ---- one node more
module _ (old new : List Slot) (session deadline : ℕ) (is : new ≡ old ++ record { session = session; deadline = deadline; least = deadline } ∷ []) where
  pub added_tags : tags new ≡ tags old ++ (deadline, session) ∷ []
  added_tags = ap tags is ∙ map-append tag old (record { session = session; deadline = deadline; least = deadline } ∷ [])

  added_leasts : leasts new ≡ leasts old ++ deadline ∷ []
  added_leasts = ap leasts is ∙ map-append (λ (x : Slot). x.least) old (record { session = session; deadline = deadline; least = deadline } ∷ [])

  many : length (leasts old) ≡ length old
  many = length-map old (λ (x : Slot). x.least)

  tags_many : length (tags old) ≡ length old
  tags_many = length-map old tag

  other : (j : ℕ) → j ≢ length old → slice_get (leasts new) j ≡ slice_get (leasts old) j
  other j apart = ap (λ l. slice_get l j) added_leasts ∙ at_push_other (leasts old) j deadline (λ e. apart (e ∙ many))

  past : (j : ℕ) → length old < j → slice_get (leasts new) j ≡ None
  past j far = other j (λ e. omega arith) ∙ slice_get_past (leasts old) j (omega (arith, many))

  last_right : IsRight new (length old)
  last_right = λ t m stands says.
      let mine : m ≡ deadline = same_Some m deadline (sym says ∙ ap (λ l. slice_get l (length old)) added_leasts ∙ ap (slice_get (leasts old ++ deadline ∷ [])) (sym many) ∙ at_push_here (leasts old) deadline) in
      let own : t ≡ (deadline, session) = same_Some t (deadline, session) (sym stands ∙ ap (λ l. slice_get l (length old)) added_tags ∙ ap (slice_get (tags old ++ (deadline, session) ∷ [])) (sym tags_many) ∙ at_push_here (tags old) (deadline, session)) in
      let none : least_of (leasts new) (length old) t.0 ≡ t.0 = ap (earlier (earlier t.0 (slice_get (leasts new) (2 * length old + 1)))) (past (2 * length old + 2) (omega arith)) ∙ ap (earlier t.0) (past (2 * length old + 1) (omega arith)) in
      mine ∙ sym (ap (λ (x : ℕ × ℕ). x.0) own) ∙ sym none

  pub added_right : AreRight old → AreRightAbove new (length old)
  added_right h = λ j left right. elim (eqb_tells j (length old)) [
    | inl p ↦ subst (IsRight new) (sym p.1) last_right
    | inr p ↦
        still_right (tags old) (tags new) (leasts old) (leasts new) j
        (ap (λ l. slice_get l j) added_tags ∙ at_push_other (tags old) j (deadline, session) (λ e. p.1 (e ∙ tags_many)))
        (other j p.1) (other (2 * j + 1) left) (other (2 * j + 2) right) (h j)
  ]

-- ---- one node less
module _ (old new : List Slot) (last : Slot) (is : old ≡ new ++ last ∷ []) where
  pub cut_tags : tags old ≡ tags new ++ tag last ∷ []
  cut_tags = ap tags is ∙ map-append tag new (last ∷ [])

  cut_leasts : leasts old ≡ leasts new ++ last.least ∷ []
  cut_leasts = ap leasts is ∙ map-append (λ (x : Slot). x.least) new (last ∷ [])

  kept : (j : ℕ) → j ≢ length new → slice_get (leasts new) j ≡ slice_get (leasts old) j
  kept j apart = sym (ap (λ l. slice_get l j) cut_leasts ∙ at_push_other (leasts new) j last.least (λ e. apart (e ∙ length-map new (λ (x : Slot). x.least))))

  pub cut_right : AreRight old → AreRightAbove new (length new)
  cut_right h = λ j left right. elim (eqb_tells j (length new)) [
    | inl p ↦ λ t m stands says. absurd (none-some t (sym (slice_get_past (tags new) j (omega (arith, p.1, length-map new tag))) ∙ stands))
    | inr p ↦
        still_right (tags old) (tags new) (leasts old) (leasts new) j
        (sym (ap (λ l. slice_get l j) cut_tags ∙ at_push_other (tags new) j (tag last) (λ e. p.1 (e ∙ length-map new tag))))
        (kept j p.1) (kept (2 * j + 1) left) (kept (2 * j + 2) right) (h j)
  ]

-- a slice written back into its vector
pub written_back : (n : ℕ) (xs ys : List Slot) → length xs ≡ n → take n (xs ++ drop (length xs) ys) ≡ xs
written_back n xs ys e = take-append-le n xs (drop (length xs) ys) (omega arith) ∙ take_all n xs (omega arith)
