-- What is told of a home without a change (this project's own).
use Rattle.std.specs.Prelude.{◌≡◌, ℕ, Bool, true, false, List, Option, Some, None, Result, Ok, Err}
use Rattle.kp_journal.specs.Heads.{generation}
use Rattle.kp_homes.specs.declared.fail.HomeFail.{HomeFail}
use Rattle.kp_homes.specs.declared.inspecting.LiveSlot.{LiveSlot}
use Rattle.kp_homes.specs.Stands.{Bytes4, choice}
use Rattle.kp_homes.specs.Opening.{Found, Fails, found}
use Rattle.kp_homes.specs.Homes.{IsKept}

-- the bytes of a slot's journal
abbrev pub journal_in : Bool → Bytes4 → List ℕ
journal_in false b = b.j0
journal_in true b = b.j1

-- the live slot of this node's home, the generation of its journal, and what opening finds
pub record IsLiveSlot (node : ℕ) (b : Bytes4) (s : LiveSlot) : Type 0 where
  pub live : choice b.j0 b.j1 ≡ Some s.second
  pub generation : s.generation ≡ generation (journal_in s.second b)
  pub finds : Found
  pub found : found node b ≡ Ok finds
  pub kept : IsKept s.kept finds

-- the answer tells the live slot, or that the home is blank, or the refusal of what is found, unless a disk failed or memory ran out
abbrev pub Inspects : ℕ → Bytes4 → Result (Option LiveSlot) HomeFail → Type 0
Inspects node b (Ok None) = choice b.j0 b.j1 ≡ None
Inspects node b (Ok (Some s)) = IsLiveSlot node b s
Inspects node b (Err e) = Fails e (found node b)
