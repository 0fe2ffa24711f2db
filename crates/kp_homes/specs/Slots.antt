-- The slots of a home: a journal and an image each. The one whose journal has an open head, with the greater generation, is live.
use Rattle.std.specs.Prelude.{◌≡◌, ◌⊎◌, ℕ, ◌≤◌, ◌<◌, nat_eq, not, Bool, true, false, cond, List, [], ◌∷◌, drop, Option, Some, None}
use Rattle.kp_io.specs.Crash.{Past, LeftAt, AreUpTo, IsSettled}
use Rattle.kp_journal.specs.declared.head.Head.{Head}
use Rattle.kp_journal.specs.Gates.{opened, appended}
use Rattle.kp_journal.specs.Heads.{is_open, generation, headed}

-- a journal that is not the live one, beside a live one of this generation, or of one less, which wins a tie
abbrev pub Loses : ℕ → List ℕ → Type 0
Loses bound c = is_open c ≡ true → generation c < bound

-- whether the first byte is there, and the head is not open
abbrev pub is_shut : List ℕ → Bool
is_shut [] = false
is_shut (x ∷ xs) = not (nat_eq x 1)

-- the journal with its head closed
abbrev pub closed_head : List ℕ → List ℕ
closed_head xs = cond (is_shut xs) xs (0 ∷ drop 1 xs)

-- the journal of a new slot: a head and one batch, over what stood there before
abbrev pub filled : Head → List ℕ → List ℕ → List ℕ
filled head body xs = opened 0 (appended 22 body (headed head xs))

-- ---- two disks of a home

-- a crash since the count was m0 leaves only what has Q on both, one before it what it could leave then, and the calls are
-- numbered up to m
pub record LeavesTwo (m0 m : ℕ) (Q : List ℕ → List ℕ → Type 0) (oj oi nj ni : Past) : Type 0 where
  pub later : m0 ≤ m
  pub since : (n : ℕ) (cj ci : List ℕ) → m0 < n → LeftAt nj n cj → LeftAt ni n ci → Q cj ci
  pub before_j : (n : ℕ) (c : List ℕ) → n ≤ m0 → LeftAt nj n c → LeftAt oj n c
  pub before_i : (n : ℕ) (c : List ℕ) → n ≤ m0 → LeftAt ni n c → LeftAt oi n c
  pub up_to_j : AreUpTo m nj.notes
  pub up_to_i : AreUpTo m ni.notes

-- the same of disks that may not tell
abbrev pub LeavesTwoIf : ℕ → ℕ → (List ℕ → List ℕ → Type 0) → Option Past → Option Past → Option Past → Option Past → Type 0
LeavesTwoIf m0 m Q None oi nj ni = Unit {0}
LeavesTwoIf m0 m Q (Some oj) None nj ni = Unit {0}
LeavesTwoIf m0 m Q (Some oj) (Some oi) None ni = ⊥
LeavesTwoIf m0 m Q (Some oj) (Some oi) (Some nj) None = ⊥
LeavesTwoIf m0 m Q (Some oj) (Some oi) (Some nj) (Some ni) = LeavesTwo m0 m Q oj oi nj ni

-- a slot that is not live: its journal loses, or it is the new one, whole, with its image
abbrev pub IsOldOrNew : ℕ → List ℕ → List ℕ → List ℕ → List ℕ → Type 0
IsOldOrNew bound journal image cj ci = Loses bound cj ⊎ ((cj ≡ journal) × (ci ≡ image))

-- a disk holds these bytes, and nothing is unsynced
pub record IsDone (m : ℕ) (xs : List ℕ) (held : Option (List ℕ)) (past : Option Past) : Type 0 where
  pub holds : held ≡ Some xs
  pub rests : IsSettled m xs past
