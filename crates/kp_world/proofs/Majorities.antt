-- Majorities by counting: two have a member in common, and a wider test has one where a narrower has.
use Rattle.std.proofs.Common.{◌≡◌, ℕ, zero, suc, ◌+◌, ◌<◌, ◌≤◌, Bool, true, false, cond, refl, sym, arith, inl, inr, ◌⊎◌, ⊎_elim, subst}
use Rattle.kp_model.specs.Majority.{count, IsMajority}

-- a member that passes f and g
abbrev pub InBoth : ℕ → (ℕ → Bool) → (ℕ → Bool) → Type 0
InBoth n f g = (k : ℕ) × (0 < k) × (k ≤ n) × (f k ≡ true) × (g k ≡ true)

-- a member that passes f and not g
abbrev pub InFirst : ℕ → (ℕ → Bool) → (ℕ → Bool) → Type 0
InFirst n f g = (k : ℕ) × (0 < k) × (k ≤ n) × (f k ≡ true) × (g k ≡ false)

-- each member that passes f passes g
abbrev pub Covers : ℕ → (ℕ → Bool) → (ℕ → Bool) → Type 0
Covers n f g = (k : ℕ) → 0 < k → k ≤ n → f k ≡ true → g k ≡ true

both_wider : (n : ℕ) (f g : ℕ → Bool) → InBoth n f g → InBoth (suc n) f g
both_wider n f g m = (m.0, m.1, omega arith, m.3, m.4)

-- two sets that count more than all together have a member in common
pub counts_meet : (n : ℕ) (f g : ℕ → Bool) → n < count n f + count n g → InBoth n f g
counts_meet zero f g h = absurd (omega arith)
counts_meet (suc n) f g h = here (counts_meet n f g) (f (suc n)) (g (suc n)) refl refl h
  where
    here : (n < count n f + count n g → InBoth n f g) → (a b : Bool) → f (suc n) ≡ a → g (suc n) ≡ b → suc n < (cond a 1 0 + count n f) + (cond b 1 0 + count n g) → InBoth (suc n) f g
    here rest true true p q l = (suc n, omega arith, omega arith, p, q)
    here rest true false p q l = both_wider n f g (rest (omega arith))
    here rest false true p q l = both_wider n f g (rest (omega arith))
    here rest false false p q l = both_wider n f g (rest (omega arith))

pub count_covers : (n : ℕ) (f g : ℕ → Bool) → Covers n f g → count n f ≤ count n g
count_covers zero f g h = omega arith
count_covers (suc n) f g h = here (count_covers n f g (λ k p q. h k p (omega arith))) (f (suc n)) (g (suc n)) refl refl
  where
    here : count n f ≤ count n g → (a b : Bool) → f (suc n) ≡ a → g (suc n) ≡ b → cond a 1 0 + count n f ≤ cond b 1 0 + count n g
    here below true true p q = omega arith
    here below true false p q = absurd (cc (h (suc n) (omega arith) (omega arith) p))
    here below false true p q = omega arith
    here below false false p q = omega arith

pub majority_covers : (n : ℕ) (f g : ℕ → Bool) → Covers n f g → IsMajority n f → IsMajority n g
majority_covers n f g h q = record { most = omega (arith, count_covers n f g h, q.most) }

pub majorities_meet : (n : ℕ) (f g : ℕ → Bool) → IsMajority n f → IsMajority n g → InBoth n f g
majorities_meet n f g p q = counts_meet n f g (omega (arith, p.most, q.most))

-- all that pass f pass g, or one passes f alone
pub covers_or_not : (n : ℕ) (f g : ℕ → Bool) → Covers n f g ⊎ InFirst n f g
covers_or_not zero f g = inl (λ k p q e. absurd (omega arith))
covers_or_not (suc n) f g = here (covers_or_not n f g) (f (suc n)) (g (suc n)) refl refl
  where
    last : (k : ℕ) → 0 < k → k ≤ suc n → (k ≤ n) ⊎ (k ≡ suc n)
    last k p q = grind arith

    joined : Covers n f g → (f (suc n) ≡ true → g (suc n) ≡ true) → Covers (suc n) f g
    joined c l k p q e = ⊎_elim (λ (r : k ≤ n). c k p r e) (λ (r : k ≡ suc n). subst (λ j. g j ≡ true) (sym r) (l (subst (λ j. f j ≡ true) r e))) (last k p q)

    here : Covers n f g ⊎ InFirst n f g → (a b : Bool) → f (suc n) ≡ a → g (suc n) ≡ b → Covers (suc n) f g ⊎ InFirst (suc n) f g
    here (inr m) a b p q = inr (m.0, m.1, omega arith, m.3, m.4)
    here (inl c) true true p q = inl (joined c (λ e. q))
    here (inl c) true false p q = inr (suc n, omega arith, omega arith, p, q)
    here (inl c) false true p q = inl (joined c (λ e. q))
    here (inl c) false false p q = inl (joined c (λ e. absurd (cc (p, e))))
