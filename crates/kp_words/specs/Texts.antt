-- The texts that answer the words.
use Rattle.std.specs.Prelude.{ℕ, false, List, [], ◌∷◌, ◌++◌, ◌+◌, ◌==◌, length, if◌then◌else◌}
use Rattle.std.specs.List.{flat_map}
use Rattle.std.specs.Fmt.{decimal, digits}
use Rattle.kp_model.specs.declared.read.Role.{Role}
use Rattle.kp_model.specs.declared.read.Role.TheVariants as role
use Rattle.kp_words.specs.declared.facts.Facts.{Facts}
use Rattle.kp_words.specs.declared.facts.LogFacts.{LogFacts}
use Rattle.kp_words.specs.declared.facts.Counts.{Counts}
use Rattle.kp_words.specs.declared.facts.ConnFacts.{ConnFacts}
use Rattle.kp_words.specs.declared.facts.SessionPaths.{SessionPaths}
use Rattle.kp_words.specs.declared.facts.WatchedPath.{WatchedPath}
use lib.Chars.{codes}

-- a text and the end of its line, 10
unfoldable pub line : List ℕ → List ℕ
line text = text ++ (10 ∷ [])

unfoldable pub number_line : ℕ → List ℕ
number_line n = line (decimal n)

-- a number with lower-case digits of 16, without zeros before it
unfoldable pub hex_text : ℕ → List ℕ
hex_text n = codes "0x" ++ digits 16 false n

unfoldable pub hex_line : ℕ → List ℕ
hex_line n = line (hex_text n)

-- a path behind a tab, 9
unfoldable pub path_line : List ℕ → List ℕ
path_line path = (9 ∷ []) ++ line path

-- a connection by its number
unfoldable pub conn_line : ConnFacts → List ℕ
conn_line c = codes " " ++ (decimal c.number ++ (codes " session=" ++ (hex_text c.session ++ (codes " waiting=" ++ number_line c.waiting))))

unfoldable pub session_line : List ℕ → ℕ → List ℕ
session_line before session = before ++ hex_line session

-- a session, and under it its paths
unfoldable pub session_paths : SessionPaths → List ℕ
session_paths s = hex_line s.session ++ flat_map path_line s.paths

-- a path, and under it the sessions that watch it, each behind a tab
unfoldable pub watched_path : WatchedPath → List ℕ
watched_path w = line w.path ++ flat_map (session_line (9 ∷ [])) w.sessions

-- a name, a tab and a number
unfoldable pub tabbed : List ℕ → ℕ → List ℕ
tabbed name n = name ++ ((9 ∷ []) ++ number_line n)

-- a name, and how many of it stand under it
unfoldable pub headed : List ℕ → ℕ → List ℕ
headed name n = name ++ (codes " (" ++ (decimal n ++ line (codes "):")))

abbrev pub role_text : Role → List ℕ
role_text role.Leader = codes "leader"
role_text role.Follower = codes "follower"
role_text role.Candidate = codes "candidate"

unfoldable pub mode_text : ℕ → Role → List ℕ
mode_text members r = if members == 1 then codes "standalone" else role_text r

unfoldable pub count_lines : Counts → List ℕ
count_lines n =
    (codes "Node count: " ++ number_line n.nodes) ++
    ((codes "Connections: " ++ number_line n.connections) ++
    ((codes "Sessions: " ++ number_line n.sessions) ++
    (codes "Watches: " ++ number_line n.watches)))

unfoldable pub server_text : Facts → List ℕ
server_text f =
    line (codes "Keeper version: 1") ++
    ((codes "Mode: " ++ line (mode_text f.members f.role)) ++
    (codes "Zxid: " ++ (hex_line f.log.applied ++
    count_lines f.counts)))

unfoldable pub stat_text : Facts → List ℕ
stat_text f = line (codes "Clients:") ++ (flat_map conn_line f.conns ++ (line [] ++ server_text f))

unfoldable pub monitored : Counts → List ℕ
monitored n =
    tabbed (codes "zk_znode_count") n.nodes ++
    (tabbed (codes "zk_ephemerals_count") n.ephemerals ++
    (tabbed (codes "zk_watch_count") n.watches ++
    (tabbed (codes "zk_num_alive_connections") n.connections ++
    tabbed (codes "zk_approximate_data_size") n.size)))

unfoldable pub monitor_text : Facts → List ℕ
monitor_text f = ((codes "zk_server_state" ++ (9 ∷ [])) ++ line (mode_text f.members f.role)) ++ monitored f.counts

unfoldable pub watch_sums : Counts → List ℕ
watch_sums n =
    decimal n.watching ++ (codes " connections watching " ++ (decimal n.watched ++ (line (codes " paths") ++
    (codes "Total watches:" ++ number_line n.watches))))

unfoldable pub dump_text : Facts → List ℕ
dump_text f =
    headed (codes "Sessions") (length f.sessions) ++ (flat_map (session_line []) f.sessions ++
    (headed (codes "Ephemerals") (length f.owners) ++ flat_map session_paths f.owners))

unfoldable pub log_text : LogFacts → List ℕ
log_text l =
    tabbed (codes "first_log_idx") (l.base + 1) ++
    (tabbed (codes "last_log_idx") l.last ++
    (tabbed (codes "last_log_term") l.last_term ++
    tabbed (codes "last_committed_log_idx") l.commit))
