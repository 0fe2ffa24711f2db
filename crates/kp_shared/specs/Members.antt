-- What a node has for each member of its cluster.
use Rattle.std.specs.Prelude.{◌≡◌, ◌+◌, ℕ, ◌==◌, ◌&&◌, not, nat_lt, Bool, true, false, Option, Some, None, if◌then◌else◌}
use Rattle.kp_shared.specs.declared.peers.Peers.{Peers}

-- the member of this number, counted from 1, is a peer of the node
abbrev pub is_peer : ℕ → ℕ → ℕ → Bool
is_peer number members p = nat_lt p (members + 1) && not (p == number)

-- the number is that of a peer that a node can have a link to: a member of the numbers 1 to 7, and not the node itself
abbrev pub is_linked : ℕ → ℕ → ℕ → Bool
is_linked number members p = (nat_lt 0 p && nat_lt p 8) && is_peer number members p

abbrev pub is_there : {A : Type 0} → Option A → Bool
is_there None = false
is_there (Some a) = true

-- there is something exactly for each peer
abbrev pub HasPeers : {A : Type 0} → ℕ → ℕ → Peers A → Type 0
HasPeers number members peers = (is_there peers.one ≡ is_peer number members 1) × (is_there peers.two ≡ is_peer number members 2) × (is_there peers.three ≡ is_peer number members 3)
    × (is_there peers.four ≡ is_peer number members 4) × (is_there peers.five ≡ is_peer number members 5) × (is_there peers.six ≡ is_peer number members 6) × (is_there peers.seven ≡ is_peer number members 7)

module _ {A : Type 0} where
  -- the thing of the member of this number, counted from 1
  unfoldable pub of_member : ℕ → Peers A → Option A
  of_member n p =
      if n == 1 then p.one
      else (if n == 2 then p.two
      else (if n == 3 then p.three
      else (if n == 4 then p.four
      else (if n == 5 then p.five
      else (if n == 6 then p.six
      else (if n == 7 then p.seven
      else None))))))

  -- those of all other members are as they were
  abbrev pub OthersKeep : ℕ → Peers A → Peers A → Type 0
  OthersKeep n a b = (q : ℕ) → (q == n) ≡ false → of_member q b ≡ of_member q a
