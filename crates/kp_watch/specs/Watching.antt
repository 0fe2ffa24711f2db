-- Watches: which connection hears of which path, and what events make of them.
use Rattle.std.specs.Prelude.{◌≡◌, ℕ, Bool, true, false, not, ◌&&◌, nat_eq, nat_lt, if◌then◌else◌, List, [], ◌∷◌, ◌++◌, map, Option, Some, None, slice_get}
use Rattle.std.specs.List.{list_any, filter}
use Rattle.std.specs.Str.{bytes_eq}
use Rattle.kp_model.specs.declared.reply.Event.{Event}
use Rattle.kp_model.specs.declared.reply.Event.TheVariants as event
use Rattle.kp_model.specs.declared.node.Meta.{Meta}
use Rattle.kp_model.specs.State.{Nodes, meta_at}
use Rattle.kp_watch.specs.declared.watch.Watch.{Watch}
use Rattle.kp_watch.specs.declared.watch.Fired.{Fired}
use Rattle.kp_watch.specs.declared.again.Line.{Line}
use Rattle.kp_watch.specs.declared.again.Line.TheVariants as line
use Rattle.kp_watch.specs.declared.kind.Kind.{Kind}
use Rattle.kp_watch.specs.declared.kind.Kind.TheVariants as kind

abbrev pub same_kind : Kind → Kind → Bool
same_kind kind.Data kind.Data = true
same_kind kind.Child kind.Child = true
same_kind a b = false

-- whether a watch is of this path and kind
abbrev pub is_at : List ℕ → Kind → Watch → Bool
is_at path k w = same_kind w.kind k && bytes_eq w.path path

abbrev pub same_watch : Watch → Watch → Bool
same_watch a b = is_at a.path a.kind b && nat_eq b.conn a.conn

-- a watch is there once, at its first place
unfoldable pub added : List Watch → Watch → List Watch
added ws w = if list_any (same_watch w) ws then ws else ws ++ w ∷ []

-- whether a watch is the connection's
abbrev pub is_of : ℕ → Watch → Bool
is_of c w = nat_eq w.conn c

-- without those of a connection
abbrev pub dropped : List Watch → ℕ → List Watch
dropped ws c = filter (λ (w : Watch). not (is_of c w)) ws

-- ---- firing: each watch fires once

-- the connections that watch a path so, in order of registration
abbrev pub watching : List Watch → List ℕ → Kind → List ℕ
watching ws path k = map (λ (w : Watch). w.conn) (filter (is_at path k) ws)

-- those of the second list that aren't in the first
abbrev pub others : List ℕ → List ℕ → List ℕ
others first second = filter (λ c. not (list_any (nat_eq c) first)) second

-- the connections that hear of an event, in their order
abbrev pub hearing : List Watch → Event → List ℕ
hearing ws (event.Created p) = watching ws p kind.Data
hearing ws (event.DataChanged p) = watching ws p kind.Data
hearing ws (event.Deleted p) = watching ws p kind.Data ++ others (watching ws p kind.Data) (watching ws p kind.Child)
hearing ws (event.ChildrenChanged p) = watching ws p kind.Child

-- the watches that stay
abbrev pub unfired : List Watch → Event → List Watch
unfired ws (event.Created p) = filter (λ w. not (is_at p kind.Data w)) ws
unfired ws (event.DataChanged p) = filter (λ w. not (is_at p kind.Data w)) ws
unfired ws (event.Deleted p) = filter (λ w. not (is_at p kind.Child w)) (filter (λ w. not (is_at p kind.Data w)) ws)
unfired ws (event.ChildrenChanged p) = filter (λ w. not (is_at p kind.Child w)) ws

-- what was fired, each event at its connection, and the watches that are left
pub record Firing : Type 0 where
  pub pairs : List (ℕ × Event)
  pub left : List Watch

abbrev pub pairs_of : List Watch → Event → List (ℕ × Event)
pairs_of ws e = map (λ c. (c, e)) (hearing ws e)

-- the events one after another
unfoldable pub fired : List Watch → List Event → Firing
fired ws [] = record { pairs = []; left = ws }
fired ws (e ∷ es) = let rest = fired (unfired ws e) es in record { pairs = pairs_of ws e ++ rest.pairs; left = rest.left }

-- the connection hears of the event at the place
unfoldable pub heard_at : ℕ → ℕ → Fired
heard_at at c = record { conn = c; at = at }

-- who hears of which event, by the places of the events, as pairs
abbrev pub shown : List Event → List Fired → List (ℕ × Option Event)
shown es fs = map (λ (f : Fired). (f.conn, slice_get es f.at)) fs

abbrev pub somes : List (ℕ × Event) → List (ℕ × Option Event)
somes ps = map (λ (p : ℕ × Event). (p.0, Some p.1)) ps

-- ---- watches that are set anew: what changed since an index fires at once, other watches are set

-- the kind of the watches of a list
abbrev pub line_kind : Line → Kind
line_kind line.Data = kind.Data
line_kind line.Exist = kind.Data
line_kind line.Child = kind.Child

-- the event that a path owes, where a node with these numbers is there or none; None where the watch is set
abbrev pub owed : Line → ℕ → List ℕ → Option Meta → Option Event
owed line.Data since p None = Some (event.Deleted p)
owed line.Data since p (Some m) = if nat_lt since m.mzxid then Some (event.DataChanged p) else None
owed line.Exist since p None = None
owed line.Exist since p (Some m) = Some (event.Created p)
owed line.Child since p None = Some (event.Deleted p)
owed line.Child since p (Some m) = if nat_lt since m.pzxid then Some (event.ChildrenChanged p) else None

-- one path: it fires, or the watch is set
abbrev pub set_one : ℕ → Line → List ℕ → Option Event → Firing → Firing
set_one c l p (Some e) f = record { pairs = f.pairs ++ (c, e) ∷ []; left = f.left }
set_one c l p None f = record { pairs = f.pairs; left = added f.left (record { path = p; kind = line_kind l; conn = c }) }

-- the paths of a list one after another
unfoldable pub set_line : Nodes → ℕ → ℕ → Line → List (List ℕ) → Firing → Firing
set_line nodes c since l [] f = f
set_line nodes c since l (p ∷ ps) f = set_line nodes c since l ps (set_one c l p (owed l since p (meta_at nodes p)) f)

-- the three lists one after another
abbrev pub set_again : List Watch → Nodes → ℕ → ℕ → List (List ℕ) → List (List ℕ) → List (List ℕ) → Firing
set_again ws nodes c since contents exist child =
    set_line nodes c since line.Child child
    (set_line nodes c since line.Exist exist
    (set_line nodes c since line.Data contents
    (record { pairs = []; left = ws })))

-- the events as those of one connection, and the watches that are left
abbrev pub shows : ℕ → List Event → List Watch → Firing
shows c es ws = record { pairs = map (λ (e : Event). (c, e)) es; left = ws }

-- no watch went, and each kept its place
abbrev pub Grown : List Watch → List Watch → Type 0
Grown old new = (more : List Watch) × (new ≡ old ++ more)
