-- A seat of a link.
use Rattle.std.specs.Prelude.{ℕ, ◌^◌, ◌+◌, ◌≤◌, Result, Ok, Err, min}
use Rattle.crossbeam_queue.specs.Passes.{view, IsPassOf}
use Rattle.kp_links.specs.declared.view.LinkView.{LinkView}
use Rattle.kp_links.specs.declared.link.Links.{Links}
use Rattle.kp_links.specs.declared.link.LinkSeat.{LinkSeat}

module _ {M : Type 0} where
  -- the seat is one of this link
  pub record IsLinkSeatOf (link : Links M) (seat : LinkSeat M) : Type 0 where
    pub same_queue : IsPassOf link.queue seat.pass
    pub few : seat.refused ≤ 2 ^ 62

  -- what a seat knows
  abbrev pub link_view : LinkSeat M → LinkView M
  link_view seat = view seat.pass

  -- how many messages it found no room for
  abbrev pub refused_of : LinkSeat M → ℕ
  refused_of seat = seat.refused

-- the count after a send: one more where there was no room, up to 2^62
abbrev pub refused_after : {A E : Type 0} → Result A E → ℕ → ℕ
refused_after (Ok _) n = n
refused_after (Err _) n = min (n + 1) (2 ^ 62)
