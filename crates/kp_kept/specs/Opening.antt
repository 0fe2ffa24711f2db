-- What opening a node with its home answers.
use Rattle.std.specs.Prelude.{◌≡◌, ℕ, Option, Some, None, Result, Ok, Err}
use Rattle.kp_io.specs.declared.disk.Disk.{Ghosts}
use Rattle.kp_io.specs.declared.home.Four.{Four}
use Rattle.kp_step.specs.Node.{Node}
use Rattle.kp_step.specs.Runs.{begun}
use Rattle.kp_homes.specs.declared.fail.HomeFail.{HomeFail}
use Rattle.kp_homes.specs.declared.kept.Kept0.{Kept0}
use Rattle.kp_homes.specs.Homes.{IsRefused}
use Rattle.kp_homes.specs.Opening.{Found, booted}
use Rattle.kp_node.specs.Parts.{Parts, node_of}
use Rattle.kp_node.specs.Starting.{Starts, state_in}
use Rattle.kp_kept.specs.declared.kept.Kept.{Kept}

abbrev pub Opened : (H : Type 0) → Ghosts H → Type 0
Opened H G = Result (Kept H G) (HomeFail × Four H)

-- the disks behind an opening
abbrev pub disks_of : {H : Type 0} {G : Ghosts H} → Opened H G → Four H
disks_of (Ok k) = k.home.disks
disks_of (Err x) = x.1

-- why nothing was opened
abbrev pub fail_of : {H : Type 0} {G : Ghosts H} → Opened H G → Option HomeFail
fail_of (Ok k) = None
fail_of (Err x) = Some x.0

-- the node starts with what its home kept
abbrev pub StartsWith : ℕ → ℕ → ℕ → Kept0 → Parts → Type 0
StartsWith me members now k p = Starts me members now (record { boot = k.boot; term = k.term; vote = k.vote; image = k.image; entries = k.rest.items }) p

-- the node is this member of a cluster of so many, and has taken no event
pub record IsNew (me members : ℕ) (p : Parts) : Type 0 where
  pub number : (node_of p).me ≡ me
  pub cluster : (node_of p).members ≡ members
  pub events : p.events ≡ 0

-- the node that starts with what was found
abbrev pub begun_with : ℕ → ℕ → ℕ → Found → Node
begun_with me members now f = begun me members f.start.boot now f.start.held (state_in f.image)

-- the node starts with what was found and one start more, or the refusal is that of what was found
abbrev pub OpensNode : {H : Type 0} {G : Ghosts H} → ℕ → ℕ → ℕ → Opened H G → Result Found HomeFail → Type 0
OpensNode me members now (Ok k) is = (f : Found) × (is ≡ Ok f) × (node_of k.node ≡ begun_with me members now (booted f))
OpensNode me members now (Err x) is = IsRefused x.0 is
