-- Who watches what.
use Rattle.std.specs.Prelude.{ℕ, ◌==◌, List, map}
use Rattle.std.specs.List.{filter}
use Rattle.std.specs.Str.{bytes_eq}
use Rattle.std.specs.Ordering.{nat_cmp}
use Rattle.std.specs.FinMap as map
use Rattle.kp_model.specs.State.{path_cmp}
use Rattle.kp_watch.specs.declared.watch.Watch.{Watch}

abbrev pub conn_of : Watch → ℕ
conn_of w = w.conn

abbrev pub path_of : Watch → List ℕ
path_of w = w.path

-- the paths of watches, ascending, each once
abbrev pub paths_of : List Watch → List (List ℕ)
paths_of ws = map.keys (map.from_entries {R = path_cmp} (map (λ (w : Watch). (w.path, w.conn)) ws))

-- the connections with a watch among them, ascending, each once
abbrev pub conns_of : List Watch → List ℕ
conns_of ws = map.keys (map.from_entries {R = nat_cmp} (map (λ (w : Watch). (w.conn, w.path)) ws))

abbrev pub watched_by : ℕ → List Watch → List Watch
watched_by k ws = filter (λ (w : Watch). w.conn == k) ws

abbrev pub watched_at : List ℕ → List Watch → List Watch
watched_at path ws = filter (λ (w : Watch). bytes_eq w.path path) ws

-- each connection with a watch and what it watches, and each watched path and who watches it
abbrev pub paths_each : List Watch → List (ℕ × List (List ℕ))
paths_each ws = map (λ k. (k, paths_of (watched_by k ws))) (conns_of ws)

abbrev pub conns_each : List Watch → List (List ℕ × List ℕ)
conns_each ws = map (λ p. (p, conns_of (watched_at p ws))) (paths_of ws)
