-- One connection by itself (this project's own).
use Rattle.std.specs.Prelude.{◌≡◌, ℕ, ◌==◌, List, [], ◌∷◌}
use Rattle.kp_event.specs.declared.event.NodeEventKind.{NodeEventKind}
use Rattle.kp_event.specs.declared.event.NodeEventKind.TheVariants as kind
use Rattle.kp_worker.specs.declared.heard.Heard.{Heard}
use Rattle.kp_worker.specs.Lists.{joined, where_true}
use Rattle.kp_worker.specs.Events.{asked, fed}

-- a Client or a Hangup of one connection
abbrev pub own_in : {M : Type 0} → ℕ → NodeEventKind M → List (NodeEventKind M)
own_in c (kind.Client n b) = where_true (n == c) (kind.Client n b ∷ [])
own_in c (kind.Hangup n) = where_true (n == c) (kind.Hangup n ∷ [])
own_in c (kind.Drain n) = []
own_in c (kind.Accept d) = []
own_in c (kind.Deliver m) = []
own_in c kind.Timeout = []
own_in c kind.Beat = []
own_in c kind.CommitOne = []
own_in c kind.ExpireDue = []
own_in c kind.Snapshot = []

-- the Clients and the Hangups of one connection
abbrev pub fed_to : {M : Type 0} → ℕ → List (NodeEventKind M) → List (NodeEventKind M)
fed_to c ks = joined (own_in c) ks

-- the answers of one connection's stream, with its number
abbrev pub answers_of : ℕ → List (ℕ × Heard) → List (ℕ × Heard)
answers_of c as0 = joined (λ a. where_true (a.0 == c) (a ∷ [])) as0

-- where all Clients and Hangups are what all streams ask for, those of each connection are what its own stream asks for
abbrev pub EachByItself : Type 0 → Type 0
EachByItself M = (taken : List (ℕ × Heard)) (ks : List (NodeEventKind M)) → fed ks ≡ asked taken → (c : ℕ) → fed_to c ks ≡ asked (answers_of c taken)
