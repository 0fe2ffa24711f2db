-- What was sent on the links of a node (this project's own).
use Rattle.std.specs.Prelude.{◌≡◌, ◌⊎◌, ◌+◌, ◌<◌, ◌≤◌, ◌^◌, ◌==◌, ℕ, List, [], ◌∷◌, ◌++◌, length, filter, map, Option, Some, None, ⊤}
use Rattle.kp_links.specs.declared.link.Links.{Links}
use Rattle.kp_links.specs.declared.link.LinkSeat.{LinkSeat}
use Rattle.kp_links.specs.LinkSeats.{IsLinkSeatOf, link_view, refused_of}
use Rattle.kp_shared.specs.declared.peers.Peers.{Peers}
use Rattle.kp_shared.specs.Letters.{Letter}

-- the first list is the second with some left out
abbrev pub IsSome-of : {B : Type 0} → List B → List B → Type 0
IsSome-of [] ys = ⊤
IsSome-of (x ∷ xs) [] = ⊥
IsSome-of (x ∷ xs) (y ∷ ys) = ((x ≡ y) × IsSome-of xs ys) ⊎ IsSome-of (x ∷ xs) ys

module _ {M : Type 0} where
  -- these messages were sent in their order, less as many as were lost; nothing was taken, and no seat was split off
  pub record Sent (mails : List M) (a b : LinkSeat M) : Type 0 where
    pub sent : List M
    pub some_of : IsSome-of sent mails
    pub grows : (link_view b).sent ≡ (link_view a).sent ++ sent
    pub taken : (link_view b).taken ≡ (link_view a).taken
    pub splits : (link_view b).splits ≡ (link_view a).splits
    pub rises : refused_of a ≤ refused_of b
    pub lost : refused_of b < 2 ^ 62 → length mails + refused_of a ≡ length sent + refused_of b

  -- the same where there may be no link
  abbrev pub SentTo : List M → Option (LinkSeat M) → Option (LinkSeat M) → Type 0
  SentTo mails None None = ⊤
  SentTo mails None (Some b) = ⊥
  SentTo mails (Some a) None = ⊥
  SentTo mails (Some a) (Some b) = Sent mails a b

  -- a seat exactly where there is a link
  abbrev pub HasSeat : Option (Links M) → Option (LinkSeat M) → Type 0
  HasSeat None None = ⊤
  HasSeat None (Some s) = ⊥
  HasSeat (Some l) None = ⊥
  HasSeat (Some l) (Some s) = IsLinkSeatOf l s

  pub record HasSeats (links : Peers (Links M)) (seats : Peers (LinkSeat M)) : Type 0 where
    pub one : HasSeat links.one seats.one
    pub two : HasSeat links.two seats.two
    pub three : HasSeat links.three seats.three
    pub four : HasSeat links.four seats.four
    pub five : HasSeat links.five seats.five
    pub six : HasSeat links.six seats.six
    pub seven : HasSeat links.seven seats.seven

  -- the messages for one node
  abbrev pub to_peer : ℕ → List (Letter M) → List M
  to_peer p mails = map (λ x. x.1) (filter (λ x. x.0 == p) mails)

  -- of these messages each was sent on the link to its receiver
  pub record Posts (mails : List (Letter M)) (a b : Peers (LinkSeat M)) : Type 0 where
    pub one : SentTo (to_peer 1 mails) a.one b.one
    pub two : SentTo (to_peer 2 mails) a.two b.two
    pub three : SentTo (to_peer 3 mails) a.three b.three
    pub four : SentTo (to_peer 4 mails) a.four b.four
    pub five : SentTo (to_peer 5 mails) a.five b.five
    pub six : SentTo (to_peer 6 mails) a.six b.six
    pub seven : SentTo (to_peer 7 mails) a.seven b.seven
