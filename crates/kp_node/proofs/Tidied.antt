-- A walk over the connections that changed leaves the index right.
use Rattle.std.proofs.Common.{◌≡◌, ℕ, Bool, true, false, cond, ◌||◌, List, [], ◌∷◌, Option, Some, None, is_some, refl, ap, sym, subst, ◌∙◌}
use Rattle.std.specs.Prelude.{nat_eq, if◌then◌else◌}
use Rattle.std.specs.List.{list_any}
use Rattle.std.specs.Cmp.{nat_eq_equiv}
use Rattle.std.specs.FinMap as map
use Rattle.kp_seats.specs.Seating.{Seating, left}
use Rattle.kp_step.specs.declared.seat.Seat.{Seat}
use Rattle.kp_node.specs.Holding.{served_at}
use Rattle.kp_node.specs.Indexing.{is_live, IsServedBut, tidied, SameBesideIndex, TidySoFar}
use Rattle.kp_node.specs.Meaning.{IsIndexed}
use Rattle.kp_node.proofs.Maps.{no, get-taken, same_number}

module _ (t : Seating Seat) (k : ℕ) where
  -- one that is live is in the index
  live_in : (x : Option ℕ) → served_at (map.get t.seats k) ≡ x → is_some x ≡ true → IsIndexed t → map.get t.sessions k ≡ served_at (map.get t.seats k)
  live_in None e live h = no false refl live
  live_in (Some s) e live h = h k s e ∙ sym e

  none_is : (x : Option ℕ) → is_some x ≡ false → None ≡ x
  none_is None h = refl
  none_is (Some s) h = no true h refl

  by_place : (rest : List ℕ) (q : ℕ) (b : Bool) → nat_eq q k ≡ b → IsServedBut (k ∷ rest) t → map.get t.sessions k ≡ served_at (map.get t.seats k) → list_any (nat_eq q) rest ≡ false → map.get t.sessions q ≡ served_at (map.get t.seats q)
  by_place rest q true e h own out = subst (λ j. map.get t.sessions j ≡ served_at (map.get t.seats j)) (sym (same_number q k e)) own
  by_place rest q false e h own out = h q (ap (λ b. b || list_any (nat_eq q) rest) e ∙ out)

  left_place : (rest : List ℕ) (q : ℕ) (b : Bool) → nat_eq k q ≡ b → IsServedBut (k ∷ rest) t → is_live (map.get t.seats k) ≡ false → list_any (nat_eq q) rest ≡ false → cond b None (map.get t.sessions q) ≡ served_at (map.get t.seats q)
  left_place rest q true e h dead out = subst (λ j. None ≡ served_at (map.get t.seats j)) (same_number k q e) (none_is (served_at (map.get t.seats k)) dead)
  left_place rest q false e h dead out = h q (ap (λ b. b || list_any (nat_eq q) rest) (nat_eq_equiv.symm q k ∙ e) ∙ out)

  left_indexed : (q s : ℕ) (b : Bool) → nat_eq k q ≡ b → is_live (map.get t.seats k) ≡ false → IsIndexed t → served_at (map.get t.seats q) ≡ Some s → cond b None (map.get t.sessions q) ≡ Some s
  left_indexed q s true e dead h at = no false refl (sym dead ∙ ap (λ j. is_live (map.get t.seats j)) (same_number k q e) ∙ ap is_some at)
  left_indexed q s false e dead h at = h q s at

  module _ (first : Seating Seat) (rest : List ℕ) where
    tidies : (b : Bool) → is_live (map.get t.seats k) ≡ b → TidySoFar (k ∷ rest) first t → TidySoFar rest first (tidied b t k)
    tidies true live h = (h.0, (λ q out. by_place rest q (nat_eq q k) refl h.1.0 (live_in (served_at (map.get t.seats k)) refl live h.0) out, h.1.1))
    tidies false dead h = (
      λ q s at. get-taken t.sessions k q ∙ left_indexed q s (nat_eq k q) refl dead h.0 at,
      (λ q out. get-taken t.sessions k q ∙ left_place rest q (nat_eq k q) refl h.1.0 dead out, h.1.1),
    )

pub tidies_on : (first t u : Seating Seat) (k : ℕ) (from rest : List ℕ) → from ≡ k ∷ rest → u ≡ tidied (is_live (map.get t.seats k)) t k → TidySoFar from first t → TidySoFar rest first u
tidies_on first t u k from rest at is h = subst (TidySoFar rest first) (sym is) (tidies t k first rest (is_live (map.get t.seats k)) refl (subst (λ ks. TidySoFar ks first t) at h))

pub tidy_ends : (first t : Seating Seat) (rest : List ℕ) → rest ≡ [] → TidySoFar rest first t → (q : ℕ) → map.get t.sessions q ≡ served_at (map.get t.seats q)
tidy_ends first t rest at h q = h.1.0 q (ap (list_any (nat_eq q)) at)
