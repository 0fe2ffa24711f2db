-- A seat of a node that threads share, and seats that are split off it (this project's own).
use Rattle.std.specs.Prelude.{◌≡◌, Option, Some, None, ⊤}
use Rattle.std.specs.declared.snapshot.Snapshot.{Snapshot}
use Rattle.kp_turn.specs.declared.turn.TurnOf.{TurnOf}
use Rattle.kp_turn.specs.declared.view.TurnSlot.{TurnSlot}
use Rattle.kp_turn.specs.TurnSeats.{view}
use Rattle.kp_turn.specs.TurnView.{first_view, split_off, with_split}
use Rattle.kp_turn.specs.StopSeats.{IsStopSeatOf, stop_view}
use Rattle.kp_turn.specs.StopRule.{no_stop, with_stop_split}
use Rattle.kp_links.specs.declared.link.Links.{Links}
use Rattle.kp_links.specs.declared.link.LinkSeat.{LinkSeat}
use Rattle.kp_links.specs.LinkSeats.{link_view, refused_of}
use Rattle.kp_links.specs.LinkView as link
use Rattle.kp_shared.specs.declared.kept.Life.{Life}
use Rattle.kp_shared.specs.declared.node.NodeOf.{NodeOf}
use Rattle.kp_shared.specs.declared.node.NodeSeatOf.{NodeSeatOf}
use Rattle.kp_shared.specs.declared.peers.Peers.{Peers}
use Rattle.kp_shared.specs.declared.task.Task.{Task}
use Rattle.kp_shared.specs.TaskSteps.{Answered}
use Rattle.kp_shared.specs.Posts.{HasSeats}
use Rattle.kp_shared.specs.Nodes.{IsNodeTurn, TurnSeatIn, ViewIn}

-- there is nothing for any member
pub record AreBlank {A : Type 0} (peers : Peers A) : Type 0 where
  pub one : peers.one ≡ None
  pub two : peers.two ≡ None
  pub three : peers.three ≡ None
  pub four : peers.four ≡ None
  pub five : peers.five ≡ None
  pub six : peers.six ≡ None
  pub seven : peers.seven ≡ None

module _ {M : Type 0} where
  -- a seat that has sent and taken nothing, where there is one
  abbrev pub IsNewSeat : Option (LinkSeat M) → Type 0
  IsNewSeat None = ⊤
  IsNewSeat (Some s) = (link_view s ≡ link.no_mail) × (refused_of s ≡ 0)

  pub record IsBlank (seats : Peers (LinkSeat M)) : Type 0 where
    pub one : IsNewSeat seats.one
    pub two : IsNewSeat seats.two
    pub three : IsNewSeat seats.three
    pub four : IsNewSeat seats.four
    pub five : IsNewSeat seats.five
    pub six : IsNewSeat seats.six
    pub seven : IsNewSeat seats.seven

  -- a seat of a link was split off, where there is one
  abbrev pub Splits : Option (LinkSeat M) → Option (LinkSeat M) → Option (LinkSeat M) → Type 0
  Splits None None None = ⊤
  Splits None None (Some c) = ⊥
  Splits None (Some b) c = ⊥
  Splits (Some a) None c = ⊥
  Splits (Some a) (Some b) None = ⊥
  Splits (Some a) (Some b) (Some c) = (link_view b ≡ link.with_split (link_view a)) × (refused_of b ≡ refused_of a) × (link_view c ≡ link.no_mail) × (refused_of c ≡ 0)

  pub record SplitSeats (a b c : Peers (LinkSeat M)) : Type 0 where
    pub one : Splits a.one b.one c.one
    pub two : Splits a.two b.two c.two
    pub three : Splits a.three b.three c.three
    pub four : Splits a.four b.four c.four
    pub five : Splits a.five b.five c.five
    pub six : Splits a.six b.six c.six
    pub seven : Splits a.seven b.seven c.seven

-- a seat of a shared node
abbrev pub NodeSeatIn : Type 0 → Type 0 → Type 0
NodeSeatIn S M = NodeSeatOf (TurnSeatIn S M) (LinkSeat M)

module _ {S M : Type 0} where
  -- the seat is one of this node, which was alive at the beginning
  pub record IsNodeSeatOf {Q : Type 0} (life : S → Life) (node : NodeOf (TurnOf (TurnSlot S (Task M) (Answered M)) (ViewIn S M) (Snapshot S) Q) (Links M)) (seat : NodeSeatIn S M) : Type 0 where
    pub of_turn : IsNodeTurn life node.turn seat.turn
    pub of_stop : IsStopSeatOf node.stop seat.stop
    pub of_links : HasSeats node.links seat.links

  -- a seat was split off: it has seen as much, and did, set, sent and took nothing
  pub record HasSplit (s s' new : NodeSeatIn S M) : Type 0 where
    pub turn : (view s'.turn ≡ with_split (view s.turn)) × (view new.turn ≡ split_off (view s.turn))
    pub stop : (stop_view s'.stop ≡ with_stop_split (stop_view s.stop)) × (stop_view new.stop ≡ no_stop)
    pub links : SplitSeats s.links s'.links new.links

  -- the first seat of a node: it has seen and done nothing, and the node is the one that was shared
  pub record IsFirstSeat (is : S → Type 0) (s : NodeSeatIn S M) : Type 0 where
    pub value : S
    pub same : is value
    pub turn : view s.turn ≡ first_view value
    pub stop : stop_view s.stop ≡ no_stop
    pub links : IsBlank s.links
