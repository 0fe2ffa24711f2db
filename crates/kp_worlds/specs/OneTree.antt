-- The members of a stage are one tree: what a script leaves, and what it leaves after more lines.
use Rattle.std.specs.Prelude.{◌≡◌, ◌<◌, ◌+◌, ◌^◌, ◌⊎◌, ℕ, List, ◌++◌, length, None, Some, Ok}
use mathlib.Core.List.{IsPrefix}
use Rattle.kp_model.specs.LogEntry.{LogEntry}
use Rattle.kp_model.specs.State.{empty}
use Rattle.kp_model.specs.Store.{after}
use Rattle.kp_snapshot.specs.Snapshots.{Snapshot}
use Rattle.kp_script.specs.declared.line.ScriptLine.{ScriptLine}
use Rattle.kp_step.specs.Node.{Node, Images, unapplied, latest}
use Rattle.kp_step.specs.Asking.{Words}
use Rattle.kp_cluster.specs.Laws.{AreFaithful}
use Rattle.kp_play.specs.Stage.{Member, Stage, blank, member_at}
use Rattle.kp_play.specs.Playing.{Done, plays}
use Rattle.kp_worlds.specs.Standing.{ShowsItsState}

-- what each member has applied: the committed state of each node that holds nothing back is the empty tree behind that, and its uncommitted state is that behind the unapplied entries of its log too
pub record AreFolds (st : Stage) (applied : ℕ → List LogEntry) : Type 0 where
  pub committed : (k : ℕ) (m : Member) (x : Node) → member_at st k ≡ Some m → m.held ≡ None → m.node ≡ Some x → x.state ≡ after empty (applied k)
  pub uncommitted : (k : ℕ) (m : Member) (x : Node) → member_at st k ≡ Some m → m.held ≡ None → m.node ≡ Some x → latest x ≡ after empty (applied k ++ unapplied x)

-- of any two lists one begins the other
abbrev pub BeginAlike : (ℕ → List LogEntry) → (ℕ → List LogEntry) → Type 0
BeginAlike f g = (j k : ℕ) → IsPrefix (f j) (g k) ⊎ IsPrefix (g k) (f j)

-- at two moments of a script: of what any members have applied, at the one moment or at the other, one begins the other
pub record AreOneTree (st later : Stage) : Type 0 where
  pub before : ℕ → List LogEntry
  pub behind : ℕ → List LogEntry
  pub folds_before : AreFolds st before
  pub folds_behind : AreFolds later behind
  pub first : BeginAlike before before
  pub second : BeginAlike behind behind
  pub across : BeginAlike before behind

-- whatever lines are played
abbrev pub ScriptsAreOneTree : Type 0
ScriptsAreOneTree = (words : Words) (im : Images Snapshot) → ShowsItsState im → AreFaithful im → (n : ℕ) (ls more : List ScriptLine) (d e : Done) → length ls + length more < 2 ^ 62
    → plays words im (blank n) ls ≡ Ok d → plays words im d.next more ≡ Ok e → AreOneTree d.next e.next
