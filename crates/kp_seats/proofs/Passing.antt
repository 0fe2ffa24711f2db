-- A walk over the connections, step by step.
use Rattle.std.proofs.Common.{◌≡◌, ℕ, zero, suc, ◌<◌, ◌≤◌, ◌⊎◌, inl, inr, Bool, true, false, cond, nat_eq, Option, Some, None, refl, ap, sym, subst, ◌∙◌, arith}
use Rattle.std.specs.Cmp.{nat_eq_equiv}
use Rattle.std.specs.FinMap as map
use Rattle.std.proofs.lemmas.Bool.{eqb-true, cases_lt}
use Rattle.kp_seats.specs.Seating.{Seating, holding, IsNext}
use Rattle.kp_seats.specs.Walked.{Becomes, IsStep, IsPart, IsWalk}
use Rattle.kp_seats.proofs.Maps.{get-put}

module _ {S : Type 0} (R : ℕ → S → S → Type 0) where
  apart : (k q : ℕ) (b : Bool) (x : S) (o : Option S) → nat_eq k q ≡ b → (q ≡ k → ⊥) → cond b (Some x) o ≡ o
  apart k q true x o e f = absurd (f (sym (eqb-true k q e)))
  apart k q false x o e f = refl

  pub stepped : (k : ℕ) (t : Seating S) (x y : S) → Some x ≡ map.get t.seats k → R k x y → IsStep R k t (holding t k y)
  stepped k t x y there r = record {
    here = subst (λ o. Becomes (R k) o (map.get (map.insert t.seats k y) k)) there (y, here, r);
    others = λ q f. get-put t.seats k y q ∙ apart k q (nat_eq k q) y (map.get t.seats q) refl f;
    beside = (refl, refl, refl);
  } where
    here : map.get (map.insert t.seats k y) k ≡ Some y
    here = get-put t.seats k y k ∙ ap (λ b. cond b (Some y) (map.get t.seats k)) (nat_eq_equiv.refl k)

  becomes : (q : ℕ) (a a' b b' : Option S) → a ≡ a' → b ≡ b' → Becomes (R q) a b → Becomes (R q) a' b'
  becomes q a a' b b' e f h = subst (λ o. Becomes (R q) o b') e (subst (Becomes (R q) a) f h)

  none : (q : ℕ) (a b : Option S) → a ≡ None → b ≡ None → Becomes (R q) a b
  none q a b e f = becomes q None a None b (sym e) (sym f) refl

  begins : (t : Seating S) → IsPart R 0 t t
  begins t = record { done = λ q a b. absurd (omega (arith, a, b)); others = λ q l. refl; zero = refl; beside = (refl, refl, refl) }

  module _ (k : ℕ) (t u : Seating S) (p : IsPart R k t u) where
    module _ (n : ℕ) (v : Seating S) (next : IsNext u.seats k (Some n)) (s : IsStep R n u v) where
      passed : (q : ℕ) → 0 < q → (q < n) ⊎ (n ≤ q) → (k < q) ⊎ (q ≤ k) → q ≤ n → Becomes (R q) (map.get t.seats q) (map.get v.seats q)
      passed q a (inl l) (inr m) b = becomes q _ _ _ _ refl (sym (s.others q (λ e. omega (arith, l, e)))) (p.done q a m)
      passed q a (inl l) (inl m) b = none q _ _ (sym (p.others q m) ∙ next.2 q m l) (s.others q (λ e. omega (arith, l, e)) ∙ next.2 q m l)
      passed q a (inr l) c b =
          let e : n ≡ q = omega (arith, l, b) in
          subst (λ j. Becomes (R j) (map.get t.seats j) (map.get v.seats j)) e (becomes n _ _ _ _ (p.others n next.0) refl s.here)

      pub goes_on : IsPart R n t v
      goes_on = record {
        done = λ q a b. passed q a (cases_lt q n) (cases_lt k q) b;
        others = λ q l. s.others q (λ e. omega (arith, l, e)) ∙ p.others q (omega (arith, l, next.0));
        zero = s.others 0 (λ e. omega (arith, next.0, e)) ∙ p.zero;
        beside = (s.beside.0 ∙ p.beside.0, s.beside.1 ∙ p.beside.1, s.beside.2 ∙ p.beside.2);
      }

    at_end : (q : ℕ) → map.get u.seats 0 ≡ None → IsNext u.seats k None → (k < q) ⊎ (q ≤ k) → Becomes (R q) (map.get t.seats q) (map.get u.seats q)
    at_end zero z e c = none 0 _ _ (sym p.zero ∙ z) z
    at_end (suc q) z e (inr l) = p.done (suc q) (omega arith) l
    at_end (suc q) z e (inl l) = none (suc q) _ _ (sym (p.others (suc q) l) ∙ e (suc q) l) (e (suc q) l)

    pub ends : map.get u.seats 0 ≡ None → IsNext u.seats k None → IsWalk R t u
    ends z e = record { each = λ q. at_end q z e (cases_lt k q); beside = p.beside }
