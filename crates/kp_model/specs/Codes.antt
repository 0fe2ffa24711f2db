-- Codes of the values that stand in finite maps.
use Rattle.std.specs.Prelude.{ℕ, List, refl}
use Rattle.std.specs.Coded.{Coded, code_by, coded×, coded_ℕ, coded_list}
use Rattle.std.specs.FinMap as map
use Rattle.kp_model.specs.declared.node.Acl.{Acl}
use Rattle.kp_model.specs.declared.node.Node.{Node}
use Rattle.kp_model.specs.declared.session.Session.{Session}
use Rattle.kp_model.specs.declared.session.Origin.{Origin}
use Rattle.kp_model.specs.State.{State, Nodes, Sessions}
use Rattle.kp_model.specs.Store.{Store}
use Rattle.kp_model.specs.LogEntry.{LogEntry}
use Rattle.kp_model.specs.contracts.entry.Entry as entry

abbrev pub bytes_code : Coded (List ℕ)
bytes_code = coded_list coded_ℕ

abbrev pub acl_code : Coded Acl
acl_code = code_by (ℕ × (List ℕ × List ℕ)) (coded× coded_ℕ (coded× bytes_code bytes_code)) (λ a. (a.perms, (a.scheme, a.id))) (λ p. record { perms = p.0; scheme = p.1.0; id = p.1.1 }) (λ _. refl)

abbrev pub origin_code : Coded Origin
origin_code = code_by (ℕ × (ℕ × ℕ)) (coded× coded_ℕ (coded× coded_ℕ coded_ℕ)) (λ o. (o.node, (o.boot, o.conn))) (λ p. record { node = p.0; boot = p.1.0; conn = p.1.1 }) (λ _. refl)

abbrev pub session_code : Coded Session
session_code = code_by (ℕ × (List ℕ × (ℕ × (ℕ × (List (List ℕ) × Origin))))) (coded× coded_ℕ (coded× bytes_code (coded× coded_ℕ (coded× coded_ℕ (coded× (coded_list bytes_code) origin_code)))))
    (λ s. (s.timeout, (s.passwd, (s.epoch, (s.seq, (s.ids, s.holder)))))) (λ p. record { timeout = p.0; passwd = p.1.0; epoch = p.1.1.0; seq = p.1.1.1.0; ids = p.1.1.1.1.0; holder = p.1.1.1.1.1 }) (λ _. refl)

abbrev pub Numbers : Type 0
Numbers = ℕ × (ℕ × (ℕ × (ℕ × (ℕ × (ℕ × (ℕ × (ℕ × (ℕ × ℕ))))))))

abbrev pub numbers_code : Coded Numbers
numbers_code = let c = coded_ℕ in coded× c (coded× c (coded× c (coded× c (coded× c (coded× c (coded× c (coded× c (coded× c c))))))))

abbrev pub node_code : Coded Node
node_code = code_by (List ℕ × (List Acl × Numbers)) (coded× bytes_code (coded× (coded_list acl_code) numbers_code))
    (λ n. (n.bytes, (n.acl, (n.czxid, (n.mzxid, (n.pzxid, (n.ctime, (n.mtime, (n.version, (n.cversion, (n.aversion, (n.owner, n.created))))))))))))
    (λ p. record { bytes = p.0; acl = p.1.0; czxid = p.1.1.0; mzxid = p.1.1.1.0; pzxid = p.1.1.1.1.0; ctime = p.1.1.1.1.1.0; mtime = p.1.1.1.1.1.1.0; version = p.1.1.1.1.1.1.1.0; cversion = p.1.1.1.1.1.1.1.1.0; aversion = p.1.1.1.1.1.1.1.1.1.0; owner = p.1.1.1.1.1.1.1.1.1.1.0; created = p.1.1.1.1.1.1.1.1.1.1.1 }) (λ _. refl)

abbrev pub nodes_code : Coded Nodes
nodes_code = map.code bytes_code node_code

abbrev pub sessions_code : Coded Sessions
sessions_code = map.code coded_ℕ session_code

abbrev pub state_code : Coded State
state_code = code_by (Nodes × (Sessions × (ℕ × ℕ))) (coded× nodes_code (coded× sessions_code (coded× coded_ℕ coded_ℕ)))
    (λ s. (s.nodes, (s.sessions, (s.next, s.applied)))) (λ p. record { nodes = p.0; sessions = p.1.0; next = p.1.1.0; applied = p.1.1.1 }) (λ _. refl)

abbrev pub store_code : Coded Store
store_code = code_by (State × List LogEntry) (coded× state_code (coded_list entry.the_row.coded)) (λ x. (x.state, x.unapplied)) (λ p. record { state = p.0; unapplied = p.1 }) (λ _. refl)
