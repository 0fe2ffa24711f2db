-- What a crash may leave on a disk (this project's own).
-- Between two syncs each written range, and the part past the least length since the first of them, may hold any bytes.
-- The length is between that least length and the greatest that the disk had or was asked to have. Bytes outside stay.
use Rattle.std.specs.Prelude.{◌≡◌, ◌⊎◌, ℕ, ◌+◌, ◌≤◌, ◌<◌, ◌-◌, ◌^◌, max, min, Bool, false, nat_le, nat_lt, ◌==◌, ◌&&◌, ◌||◌, if◌then◌else◌, List, [], ◌∷◌, ◌++◌, length, take, drop, Option, Some, None, slice_get}
use Rattle.std.specs.Option.{option_map}

-- what was done to a disk since its last sync: the bytes that outlasted that sync, the ranges written since as place
-- and length, and the least and the greatest length since
pub record Wear : Type 0 where
  pub safe : List ℕ
  pub spans : List (ℕ × ℕ)
  pub least : ℕ
  pub most : ℕ

-- whether a place is in one of these ranges
abbrev pub is_within : List (ℕ × ℕ) → ℕ → Bool
is_within [] i = false
is_within (s ∷ ss) i = (nat_le s.0 i && nat_lt i (s.0 + s.1)) || is_within ss i

-- a crash may leave these bytes
pub record MayLeave (w : Wear) (c : List ℕ) : Type 0 where
  pub no_shorter : w.least ≤ length c
  pub no_longer : length c ≤ w.most
  pub stays : (i : ℕ) → i < w.least → is_within w.spans i ≡ false → slice_get c i ≡ slice_get w.safe i

-- nothing is unsynced
abbrev pub settled : List ℕ → Wear
settled held = record { safe = held; spans = []; least = length held; most = length held }

-- a write of n bytes at a place was begun
abbrev pub worn : ℕ → ℕ → Wear → Wear
worn at n w = record w { spans = (at, n) ∷ w.spans; most = max w.most (at + n) }

-- a cut to n bytes was begun
abbrev pub shortened : ℕ → Wear → Wear
shortened n w = record w { least = min w.least n }

-- ---- the calls of a disk, each with its number in the home's count of moments

-- a call: its number, what a crash before it may leave, and what one within it may leave
pub record Note : Type 0 where
  pub number : ℕ
  pub before : Wear
  pub within : Wear

-- what a crash may leave now, and the calls so far, the latest first
pub record Past : Type 0 where
  pub now : Wear
  pub notes : List Note

-- what a crash at this number may leave: within the call of that number, or between the calls before and behind it
abbrev pub wear_at : Wear → List Note → ℕ → Wear
wear_at now [] m = now
wear_at now (n ∷ ns) m = if nat_lt n.number m then now else if m == n.number then n.within else wear_at n.before ns m

-- a crash at number m may leave these bytes
abbrev pub LeftAt : Past → ℕ → List ℕ → Type 0
LeftAt p m c = MayLeave (wear_at p.now p.notes m) c

-- each call so far has a number of at most m
abbrev pub AreUpTo : ℕ → List Note → Type 0
AreUpTo m [] = Unit {0}
AreUpTo m (n ∷ ns) = (n.number ≤ m) × AreUpTo m ns

-- a call was made, within which a crash may leave this, and behind it that
abbrev pub noted : ℕ → Wear → Wear → Past → Past
noted number within now p = record { now = now; notes = record { number = number; before = p.now; within = within } ∷ p.notes }

-- a write, whatever it answered
abbrev pub wrote : ℕ → ℕ → ℕ → Past → Past
wrote number at n p = noted number (worn at n p.now) (worn at n p.now) p

-- a cut, whatever it answered
abbrev pub cut_down : ℕ → ℕ → Past → Past
cut_down number n p = noted number (shortened n p.now) (shortened n p.now) p

-- a sync that succeeded on a disk that holds these bytes
abbrev pub synced : ℕ → List ℕ → Past → Past
synced number held p = noted number p.now (settled held) p

-- a sync that failed
abbrev pub unsynced : ℕ → Past → Past
unsynced number p = noted number p.now p.now p

-- a call that failed was noted, or it never began
abbrev pub IsNotedOrNot : (Past → Past) → Option Past → Option Past → Type 0
IsNotedOrNot f old new = (new ≡ option_map f old) ⊎ (new ≡ old)

-- what a disk holds is something that a crash may leave, where it tells both
abbrev pub IsLeft : Option Past → Option (List ℕ) → Type 0
IsLeft None held = Unit {0}
IsLeft (Some p) None = Unit {0}
IsLeft (Some p) (Some xs) = MayLeave p.now xs

-- ---- what the calls between two counts of moments may have left

-- a crash since the count was m0 leaves only what has Q, one before it what it could leave then, and the calls are
-- numbered up to m
pub record Leaves (m0 m : ℕ) (Q : List ℕ → Type 0) (old new : Past) : Type 0 where
  pub later : m0 ≤ m
  pub since : (n : ℕ) (c : List ℕ) → m0 < n → LeftAt new n c → Q c
  pub before : (n : ℕ) (c : List ℕ) → n ≤ m0 → LeftAt new n c → LeftAt old n c
  pub up_to : AreUpTo m new.notes

-- the same of a disk that may not tell
abbrev pub LeavesIf : ℕ → ℕ → (List ℕ → Type 0) → Option Past → Option Past → Type 0
LeavesIf m0 m Q (Some old) (Some new) = Leaves m0 m Q old new
LeavesIf m0 m Q (Some old) None = ⊥
LeavesIf m0 m Q None (Some new) = ⊥
LeavesIf m0 m Q None None = Unit {0}

-- nothing is unsynced on a disk that holds these bytes, and its calls are numbered up to m
abbrev pub IsSettled : ℕ → List ℕ → Option Past → Type 0
IsSettled m held None = Unit {0}
IsSettled m held (Some p) = (p.now ≡ settled held) × AreUpTo m p.notes

-- the count of moments has not come to the end of its type
abbrev pub HasRoom : ℕ → Type 0
HasRoom m = m < 2 ^ 64 - 1

-- the first k bytes are those of these
abbrev pub HasFront : ℕ → List ℕ → List ℕ → Type 0
HasFront k xs c = take k c ≡ take k xs

-- these bytes, but that any number may stand at one place
abbrev pub IsButFor : ℕ → List ℕ → List ℕ → Type 0
IsButFor at xs c = (x : ℕ) × (c ≡ take at xs ++ x ∷ drop (at + 1) xs)
