-- What a storage keeps: its layers are the replay of its entries.
use Rattle.std.specs.Prelude.{◌≡◌, ℕ, ◌+◌, ◌≤◌, ◌^◌, List, [], ◌∷◌, ◌++◌, length, take, slice_get, Some, None, All}
use Rattle.std.specs.declared.cmp.Ordering.{Ordering}
use Rattle.kp_layers.specs.Layering.{Layering}
use Rattle.kp_model.specs.LogEntry.{LogEntry}
use Rattle.kp_model.specs.State.{State}
use Rattle.kp_model.specs.Step.{apply}
use Rattle.kp_model.specs.Store.{Store, after, committed_as}
use Rattle.kp_model.specs.Good.{IsSound}
use Rattle.kp_model.specs.Touched.{touched}
use Rattle.kp_model.specs.declared.reply.Committed.{Committed}
use Rattle.kp_cells.specs.Parts.{parts_of}
use Rattle.kp_cells.specs.Overlays.{Overlays, committed_state, parts_under}
use Rattle.kp_model.specs.Grammar.{IsEntry}
use Rattle.kp_prep.specs.Touching.{AreWithin, layer_keys}

-- what the entries are answered, each on the state behind those before it
unfoldable pub answers_of : State → List LogEntry → List Committed
answers_of s [] = []
answers_of s (e ∷ es) = committed_as (s.applied + 1) (apply s e) ∷ answers_of (apply s e).state es

-- so many sealed layers, and no open one
pub record HasLayers {K : Type 0} {R : K → K → Ordering} {V : Type 0} (n : ℕ) (l : Layering R V) : Type 0 where
  pub sealed : length l.layers ≡ n
  pub closed : l.staged ≡ None

-- so many sealed layers in each part, and no open one
pub record IsLayered (n : ℕ) (o : Overlays) : Type 0 where
  pub metas : HasLayers n o.metas
  pub contents : HasLayers n o.contents
  pub acls : HasLayers n o.acls
  pub children : HasLayers n o.children
  pub owners : HasLayers n o.owners
  pub sessions : HasLayers n o.sessions
  pub next : HasLayers n o.next

-- what lies under the layers up to each entry is the replay of the entries up to there
abbrev pub StandsFor : Overlays → List LogEntry → Type 0
StandsFor o es = (k : ℕ) → k ≤ length es → parts_under k o ≡ parts_of (after (committed_state o) (take k es))

-- the layer of each entry writes alone at what the entry touches, on the state behind those before it
abbrev pub TouchesOnly : Overlays → List LogEntry → Type 0
TouchesOnly o es = (k : ℕ) (e : LogEntry) → slice_get es k ≡ Some e → AreWithin (touched (after (committed_state o) (take k es)) e) (layer_keys k o)

-- what a storage keeps: a sound committed state, indexes within their limit, entries that can be written down, one layer for each of them, and their answers
pub record Keeps (o : Overlays) (es : List LogEntry) (answers : List Committed) : Type 0 where
  pub sound : IsSound (committed_state o)
  pub room : o.applied + length es ≤ 2 ^ 62
  pub taken : All IsEntry es
  pub layered : IsLayered (length es) o
  pub stands : StandsFor o es
  pub touches : TouchesOnly o es
  pub answered : answers ≡ answers_of (committed_state o) es

-- the committed state under the entries
abbrev pub store : Overlays → List LogEntry → Store
store o es = record { state = committed_state o; unapplied = es }

-- the store with these entries behind its own
abbrev pub with_all : Store → List LogEntry → Store
with_all x es = record x { unapplied = x.unapplied ++ es }
