-- How what a crash may leave goes on from call to call.
use Rattle.std.proofs.Common.{◌≡◌, inl, inr, ℕ, ◌+◌, ◌-◌, ◌^◌, ◌≤◌, ◌<◌, List, [], ◌∷◌, refl, subst, arith}
use Rattle.std.proofs.lemmas.Bool.Decides.{nat_tests, leb_tells}
use Rattle.kp_io.specs.Crash.{Wear, Note, Past, MayLeave, LeftAt, AreUpTo, Leaves, noted, wear_at}
use Rattle.kp_io.specs.Faults.{one_more}

pub up_to_more : (m m' : ℕ) (ns : List Note) → m ≤ m' → AreUpTo m ns → AreUpTo m' ns
up_to_more m m' [] le all = tt
up_to_more m m' (n ∷ ns) le all = (omega (arith, le, all.0), up_to_more m m' ns le all.1)

pub next_moment : (m : ℕ) → m < 2 ^ 64 - 1 → one_more m ≡ m + 1
next_moment m room = omega (arith, room)

-- behind all calls so far a crash leaves what it may leave now
pub wear_now : (m n : ℕ) (now : Wear) (ns : List Note) → AreUpTo m ns → m < n → wear_at now ns n ≡ now
wear_now m n now [] all lt = refl
wear_now m n now (k ∷ ns) all lt = let le = all.0 in grind (arith, nat_tests)

-- before anything is called
pub start : (m : ℕ) (Q : List ℕ → Type 0) (p : Past) → AreUpTo m p.notes → ((c : List ℕ) → MayLeave p.now c → Q c) → Leaves m m Q p p
start m Q p all here = record {
  later = omega arith;
  since = λ n c lt left. here c (subst (λ w. MayLeave w c) (wear_now m n p.now p.notes all lt) left);
  before = λ n c le left. left;
  up_to = all;
}

noted_later : (n m : ℕ) (within now : Wear) (p : Past) → m < n → wear_at (noted m within now p).now (noted m within now p).notes n ≡ now
noted_later n m within now p lt = grind (arith, nat_tests)

noted_within : (n m : ℕ) (within now : Wear) (p : Past) → n ≡ m → wear_at (noted m within now p).now (noted m within now p).notes n ≡ within
noted_within n m within now p same = grind (arith, nat_tests)

noted_before : (n m : ℕ) (within now : Wear) (p : Past) → n < m → wear_at (noted m within now p).now (noted m within now p).notes n ≡ wear_at p.now p.notes n
noted_before n m within now p lt = grind (arith, nat_tests)

data Side (n m : ℕ) : Type 0 where
  Lower : n < m → Side n m
  Same : n ≡ m → Side n m
  Higher : m < n → Side n m

side : (n m : ℕ) → Side n m
side n m = elim (leb_tells n m) [
  | inl small ↦ elim (leb_tells m n) [
    | inl big ↦ Same (omega (arith, small.1, big.1))
    | inr less ↦ Lower (omega (arith, less.1))
  ]
  | inr more ↦ Higher (omega (arith, more.1))
]

-- one call more
pub goes_on : (m0 m : ℕ) (Q : List ℕ → Type 0) (old mid : Past) (within now : Wear) → Leaves m0 m Q old mid
    → ((c : List ℕ) → MayLeave within c → Q c) → ((c : List ℕ) → MayLeave now c → Q c) → Leaves m0 (m + 1) Q old (noted (m + 1) within now mid)
goes_on m0 m Q old mid within now so_far in_call behind = record {
  later = omega (arith, so_far.later);
  since = λ n c lt left. since_side n c lt left (side n (m + 1));
  before = λ n c le left. so_far.before n c le (subst (λ w. MayLeave w c) (noted_before n (m + 1) within now mid (omega (arith, le, so_far.later))) left);
  up_to = (omega arith, up_to_more m (m + 1) mid.notes (omega arith) so_far.up_to);
}
  where
    since_side : (n : ℕ) (c : List ℕ) → m0 < n → LeftAt (noted (m + 1) within now mid) n c → Side n (m + 1) → Q c
    since_side n c lt left (Lower less) = so_far.since n c lt (subst (λ w. MayLeave w c) (noted_before n (m + 1) within now mid less) left)
    since_side n c lt left (Same is) = in_call c (subst (λ w. MayLeave w c) (noted_within n (m + 1) within now mid is) left)
    since_side n c lt left (Higher more) = behind c (subst (λ w. MayLeave w c) (noted_later n (m + 1) within now mid more) left)

-- two runs, one behind the other
pub joined : (m0 m m' : ℕ) (Q : List ℕ → Type 0) (old mid new : Past) → Leaves m0 m Q old mid → Leaves m m' Q mid new → Leaves m0 m' Q old new
joined m0 m m' Q old mid new first second = record {
  later = omega (arith, first.later, second.later);
  since = λ n c lt left. since_side n c lt left (side n m);
  before = λ n c le left. first.before n c le (second.before n c (omega (arith, le, first.later)) left);
  up_to = second.up_to;
}
  where
    since_side : (n : ℕ) (c : List ℕ) → m0 < n → LeftAt new n c → Side n m → Q c
    since_side n c lt left (Lower less) = first.since n c lt (second.before n c (omega (arith, less)) left)
    since_side n c lt left (Same is) = first.since n c lt (second.before n c (omega (arith, is)) left)
    since_side n c lt left (Higher more) = second.since n c more left

pub weakened : (m0 m : ℕ) (Q Q' : List ℕ → Type 0) (old new : Past) → ((c : List ℕ) → Q c → Q' c) → Leaves m0 m Q old new → Leaves m0 m Q' old new
weakened m0 m Q Q' old new wider run = record { later = run.later; since = λ n c lt left. wider c (run.since n c lt left); before = run.before; up_to = run.up_to }
