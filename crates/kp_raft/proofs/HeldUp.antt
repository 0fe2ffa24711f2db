-- How far more than half of the members have the leader's log.
use Rattle.std.proofs.Common.{◌≡◌, ℕ, zero, suc, ◌+◌, ◌*◌, ◌<◌, ◌≤◌, Bool, true, false, refl, sym, ◌∙◌, ap, arith}
use Rattle.std.specs.Prelude.{cond, nat_eq, nat_lt, nat_le, ◌&&◌, ◌||◌}
use Rattle.std.proofs.lemmas.Bool.Decides.{nat_tests}
use Rattle.kp_model.specs.Majority.{count, is_majority}
use Rattle.kp_raft.specs.Numbers.{greatest}
use Rattle.kp_raft.specs.Rules.{has_up_to}

-- no match number stands between
test_same : (m i index below : ℕ) (b : Bool) → nat_le index m ≡ b → below < i → i ≤ index → (m < index → m ≤ below) → nat_le i m ≡ b
test_same m i index below true is lt le none = let high : index ≤ m = grind (arith, nat_tests) in let ge : i ≤ m = omega (arith, high, le) in grind (arith, nat_tests)
test_same m i index below false is lt le none = let low : m < index = grind (arith, nat_tests) in let ge : m < i = omega (arith, none low, lt) in grind (arith, nat_tests)

count_same : (n me : ℕ) (m : ℕ → ℕ) (i index below : ℕ) → below < i → i ≤ index → ((k : ℕ) → 1 ≤ k → k ≤ n → m k < index → m k ≤ below) → count n (has_up_to me m i) ≡ count n (has_up_to me m index)
count_same zero me m i index below lt le none = refl
count_same (suc n) me m i index below lt le none =
    let rest = count_same n me m i index below lt le (λ (k : ℕ) (low : 1 ≤ k) (high : k ≤ n). none k low (omega (arith, high))) in
    let own : nat_le i (m (suc n)) ≡ nat_le index (m (suc n)) = test_same (m (suc n)) i index below (nat_le index (m (suc n))) refl lt le (none (suc n) (omega arith) (omega arith)) in
    ap (λ (b : Bool). cond (nat_eq (suc n) me || b) 1 0 + count n (has_up_to me m i)) own ∙ ap (λ (c : ℕ). cond (nat_eq (suc n) me || nat_le index (m (suc n))) 1 0 + c) rest

-- what isn't held at an index isn't held above the next match number below it
pub not_held : (n me : ℕ) (m : ℕ → ℕ) (i index below : ℕ) → below < i → i ≤ index → ((k : ℕ) → 1 ≤ k → k ≤ n → m k < index → m k ≤ below) → is_majority n (has_up_to me m index) ≡ false → is_majority n (has_up_to me m i) ≡ false
not_held n me m i index below lt le none is = ap (λ (c : ℕ). nat_lt n (2 * c)) (count_same n me m i index below lt le none) ∙ is

passed_by : (i : ℕ) (f : ℕ → Bool) (old whole : ℕ) (b : Bool) → nat_lt old (suc i) ≡ b → f (suc i) ≡ false → greatest i f old ≡ whole → greatest (suc i) f old ≡ whole
passed_by i f old whole true lt not is = rw (lt, not) is
passed_by i f old whole false lt not is = rw lt is

below_by : (last held : ℕ) (f : ℕ → Bool) (old : ℕ) (b : Bool) → nat_le held last ≡ b → held ≤ suc last → ((i : ℕ) → held < i → i ≤ suc last → f i ≡ false) → (held ≤ last → greatest last f old ≡ greatest held f old) → greatest (suc last) f old ≡ greatest held f old
below_by last held f old true is le none rest =
    let in_ : held ≤ last = grind (arith, nat_tests) in
    passed_by last f old (greatest held f old) (nat_lt old (suc last)) refl (none (suc last) (omega (arith, in_)) (omega arith)) (rest in_)
below_by last held f old false is le none rest =
    let out : last < held = grind (arith, nat_tests) in
    let same : suc last ≡ held = omega (arith, le, out) in
    ap (λ (n : ℕ). greatest n f old) same

-- the greatest index that passes stands where all above fail
pub greatest_below : (last held : ℕ) (f : ℕ → Bool) (old : ℕ) → held ≤ last → ((i : ℕ) → held < i → i ≤ last → f i ≡ false) → greatest last f old ≡ greatest held f old
greatest_below zero held f old le none = let same : 0 ≡ held = omega (arith, le) in ap (λ (n : ℕ). greatest n f old) same
greatest_below (suc last) held f old le none =
    below_by last held f old (nat_le held last) refl le none (λ (in_ : held ≤ last). greatest_below last held f old in_ (λ (i : ℕ) (low : held < i) (high : i ≤ last). none i low (omega (arith, high))))

none_by : (n me : ℕ) (m : ℕ → ℕ) (last index below i : ℕ) (b : Bool) → nat_lt index i ≡ b → (index < i → i ≤ last → is_majority n (has_up_to me m i) ≡ false) → is_majority n (has_up_to me m index) ≡ false → ((k : ℕ) → 1 ≤ k → k ≤ n → m k < index → m k ≤ below) → below < i → i ≤ last → is_majority n (has_up_to me m i) ≡ false
none_by n me m last index below i true is so_far not most low high = let lt : index < i = grind (arith, nat_tests) in so_far lt high
none_by n me m last index below i false is so_far not most low high = let le : i ≤ index = grind (arith, nat_tests) in not_held n me m i index below low le most not

-- the next lower index of a search
pub none_on : (n me : ℕ) (m : ℕ → ℕ) (last index below : ℕ) → ((i : ℕ) → index < i → i ≤ last → is_majority n (has_up_to me m i) ≡ false) → is_majority n (has_up_to me m index) ≡ false → ((k : ℕ) → 1 ≤ k → k ≤ n → m k < index → m k ≤ below) → (i : ℕ) → below < i → i ≤ last → is_majority n (has_up_to me m i) ≡ false
none_on n me m last index below so_far not most i low high = none_by n me m last index below i (nat_lt index i) refl (so_far i) not most low high

-- what isn't held isn't committed
pub may_not : (a b : Bool) → b ≡ false → (a && b) ≡ false
may_not true b is = is
may_not false b is = refl
