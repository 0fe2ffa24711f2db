-- What a node knows of itself, of which the four-letter words tell.
use Rattle.std.specs.Prelude.{ℕ, ◌==◌, not, List, [], ◌∷◌, length, map, Option, Some, None}
use Rattle.std.specs.List.{filter}
use Rattle.std.specs.FinMap as map
use Rattle.kp_model.specs.declared.node.Node as tree
use Rattle.kp_entry.specs.Log.{term_of}
use Rattle.kp_words.specs.declared.facts.Facts.{Facts}
use Rattle.kp_words.specs.declared.facts.LogFacts.{LogFacts}
use Rattle.kp_words.specs.declared.facts.Counts.{Counts}
use Rattle.kp_words.specs.declared.facts.ConnFacts.{ConnFacts}
use Rattle.kp_words.specs.declared.facts.SessionPaths.{SessionPaths}
use Rattle.kp_words.specs.declared.facts.WatchedPath.{WatchedPath}
use Rattle.kp_watch.specs.declared.watch.Watch.{Watch}
use Rattle.kp_step.specs.declared.seat.Seat.{Seat}
use Rattle.kp_step.specs.Node.{Node, Seats, last}
use Rattle.kp_step.specs.Settling.{session_in}
use Rattle.kp_facts.specs.Tree.{owner_facts, is_owner, size_in}
use Rattle.kp_facts.specs.Watched.{paths_of, conns_of, watched_by, watched_at}

abbrev pub log_facts : Node → LogFacts
log_facts x = record { base = x.held.log.base; last = last x; last_term = term_of x.held.log (last x); commit = x.running.commit; applied = x.state.applied }

-- ---- connections

-- a connection, the session that it serves, or 0, and how many of its requests wait
abbrev pub conn_facts : ℕ → Seat → ConnFacts
conn_facts k s = record { number = k; session = session_in s.connection.phase; waiting = length s.connection.queue }

-- those of one that may be there
abbrev pub facts_at : ℕ → Option Seat → List ConnFacts
facts_at k None = []
facts_at k (Some s) = conn_facts k s ∷ []

abbrev pub conns_facts : Seats → List ConnFacts
conns_facts seats = map (λ (e : ℕ × Seat). conn_facts e.0 e.1) (map.entries seats)

-- the session that connection k serves, or 0
abbrev pub session_of_seat : Option Seat → ℕ
session_of_seat None = 0
session_of_seat (Some s) = session_in s.connection.phase

abbrev pub session_at : Seats → ℕ → ℕ
session_at seats k = session_of_seat (map.get seats k)

-- what connection k watches, and who watches a path
abbrev pub watcher_facts : Seats → List Watch → ℕ → SessionPaths
watcher_facts seats ws k = record { session = session_at seats k; paths = paths_of (watched_by k ws) }

abbrev pub path_facts : Seats → List Watch → List ℕ → WatchedPath
path_facts seats ws p = record { path = p; sessions = map (session_at seats) (conns_of (watched_at p ws)) }

abbrev pub watchers_facts : Seats → List Watch → List SessionPaths
watchers_facts seats ws = map (watcher_facts seats ws) (conns_of ws)

abbrev pub watched_facts : Seats → List Watch → List WatchedPath
watched_facts seats ws = map (path_facts seats ws) (paths_of ws)

-- ---- all of it

abbrev pub counts : Node → Counts
counts x = record {
  nodes = map.len x.state.nodes;
  ephemerals = length (filter (λ (n : tree.Node). not (n.owner == 0)) (map.values x.state.nodes));
  size = size_in x.state;
  connections = map.len x.seats;
  sessions = map.len x.state.sessions;
  watches = length x.watches;
  watching = length (conns_of x.watches);
  watched = length (paths_of x.watches);
}

abbrev pub facts_of : Node → Facts
facts_of x = record {
  members = x.members;
  role = x.running.role;
  log = log_facts x;
  counts = counts x;
  conns = conns_facts x.seats;
  watchers = watchers_facts x.seats x.watches;
  watched = watched_facts x.seats x.watches;
  sessions = map.keys x.state.sessions;
  owners = map (owner_facts x.state) (filter (is_owner x.state) (map.keys x.state.sessions));
}
