-- What is said of each world: the members apply one list of entries, and their states are those of one tree that takes it.
use Rattle.std.specs.Prelude.{◌≡◌, ◌≤◌, ◌⊎◌, ℕ, List, ◌++◌, length, take, Some}
use mathlib.Core.List.{IsPrefix}
use Rattle.kp_model.specs.State.{State, empty}
use Rattle.kp_model.specs.Store.{after}
use Rattle.kp_step.specs.Node.{Node, Images, unapplied, latest}
use Rattle.kp_step.specs.Asking.{Words}
use Rattle.kp_world.specs.Acted.{numbers, row_behind}
use Rattle.kp_cluster.specs.World.{Member, World, Event, run, world_after}

-- an image shows the state of which it was made
pub record AreFaithful {I : Type 0} (im : Images I) : Type 0 where
  pub shows : (s : State) (t : ℕ) → im.shows (im.made s t) ≡ s

-- what holds of each world, with faithful images
abbrev pub OfWorlds : (I : Type 0) → (ℕ → World I → Type 0) → Type 0
OfWorlds I P = (words : Words) (im : Images I) → AreFaithful im → (n : ℕ) (events : List (Event I)) → P n (world_after words im n events)

-- of what two members have applied, at one moment and at another, one begins the other
abbrev pub HaveOneList : {I : Type 0} → World I → World I → Type 0
HaveOneList v w = (j k : ℕ) → IsPrefix (v.members j).done (w.members k).done ⊎ IsPrefix (w.members k).done (v.members j).done

abbrev pub OneList : Type 0 → Type 0
OneList I = (words : Words) (im : Images I) → AreFaithful im → (n : ℕ) (events later : List (Event I))
    → HaveOneList (world_after words im n events) (run words im n later (world_after words im n events))

-- the world behind the first i events
abbrev pub world_at : {I : Type 0} → Words → Images I → ℕ → List (Event I) → ℕ → World I
world_at words im n events i = world_after words im n (take i events)

-- what one member has applied at one moment is begun by all that any member has applied at any moment
pub record IsLongest {I : Type 0} (words : Words) (im : Images I) (n : ℕ) (events : List (Event I)) : Type 0 where
  pub moment : ℕ
  pub member : ℕ
  pub all : (i k : ℕ) → i ≤ length events → k ≤ n → IsPrefix ((world_at words im n events i).members k).done ((world_at words im n events moment).members member).done

abbrev pub HasLongest : Type 0 → Type 0
HasLongest I = (words : Words) (im : Images I) → AreFaithful im → (n : ℕ) (events : List (Event I)) → IsLongest words im n events

-- the committed state is that of the empty tree behind all that was applied, and the uncommitted one that behind the unapplied entries too
pub record Folds (m : Member) (x : Node) : Type 0 where
  pub committed : x.state ≡ after empty m.done
  pub uncommitted : latest x ≡ after empty (m.done ++ unapplied x)

abbrev pub StatesFold : Type 0 → Type 0
StatesFold I = OfWorlds I (λ n w. (k : ℕ) (x : Node) → (w.members k).node ≡ Some x → Folds (w.members k) x)

-- of each session and epoch, the writes that act among those that a member has applied are numbered 1, 2, 3 and so on
abbrev pub WritesCount : Type 0 → Type 0
WritesCount I = OfWorlds I (λ n w. (k session epoch : ℕ) → numbers empty session epoch (w.members k).done ≡ row_behind 0 (length (numbers empty session epoch (w.members k).done)))
