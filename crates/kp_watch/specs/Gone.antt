-- The paths whose watches have fired, while the events of a list fire one after another.
use Rattle.std.specs.Prelude.{◌≡◌, ℕ, Bool, cond, List, [], String}
use Rattle.std.specs.HashSet.{HashSet, contains_text}
use Rattle.kp_watch.specs.declared.kind.Kind.{Kind}
use Rattle.kp_watch.specs.declared.kind.Kind.TheVariants as kind
use Rattle.kp_watch.specs.declared.gone.Gone.{Gone}
use Rattle.kp_watch.specs.declared.watch.Watch.{Watch}
use Rattle.kp_watch.specs.Watching.{watching}

-- whether the path is among the texts
abbrev pub has_text : {Z S : Type 0} → HashSet (String Z) S → List ℕ → Bool
has_text s p = contains_text s p

-- whether the watches of the path and the kind have fired
abbrev pub has_gone : Gone → Kind → List ℕ → Bool
has_gone g kind.Data p = has_text g.data p
has_gone g kind.Child p = has_text g.child p

-- of the watches ws those that are left are at the paths that aren't gone
abbrev pub Leaves : List Watch → Gone → List Watch → Type 0
Leaves ws g left = (k : Kind) (p : List ℕ) → watching left p k ≡ cond (has_gone g k p) [] (watching ws p k)
