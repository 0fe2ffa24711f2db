-- The code of a connection's value.
use Rattle.std.specs.Prelude.{ℕ, List, refl}
use Rattle.std.specs.Coded.{Coded, code_by, coded×, coded_ℕ, coded_list}
use Rattle.kp_conn.specs.declared.phase.Phase.{Phase}
use Rattle.kp_conn.specs.declared.waiting.Waiting.{Waiting}
use Rattle.kp_conn.specs.contracts.phase.Phase as phase_row
use Rattle.kp_conn.specs.contracts.waiting.Waiting as waiting_row
use Rattle.kp_conn.specs.Connection.{Connection}

abbrev pub connection_code : Coded Connection
connection_code = code_by (Phase × (List ℕ × (ℕ × (List Waiting × List (List ℕ))))) (coded× phase_row.the_row.coded (coded× (coded_list coded_ℕ) (coded× coded_ℕ (coded× (coded_list waiting_row.the_row.coded) (coded_list (coded_list coded_ℕ))))))
    (λ c. (c.phase, (c.kept, (c.place, (c.queue, c.outbox))))) (λ p. record { phase = p.0; kept = p.1.0; place = p.1.1.0; queue = p.1.1.1.0; outbox = p.1.1.1.1 }) (λ _. refl)

-- the code of what a new connection begins with
abbrev pub beginning_code : Coded (List ℕ × ℕ)
beginning_code = coded× (coded_list coded_ℕ) coded_ℕ
