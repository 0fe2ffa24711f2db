-- Which writes of a list of entries act, and their numbers.
use Rattle.std.specs.Prelude.{◌≡◌, ℕ, zero, suc, ◌+◌, ◌==◌, ◌&&◌, Bool, false, cond, List, [], ◌∷◌, ◌++◌, length}
use Rattle.std.specs.FinMap as map
use Rattle.kp_model.specs.LogEntry.{LogEntry}
use Rattle.kp_model.specs.declared.entry.Body.{Body}
use Rattle.kp_model.specs.declared.entry.Body.TheVariants as body
use Rattle.kp_model.specs.declared.command.Cmd.{Cmd}
use Rattle.kp_model.specs.State.{State, empty}
use Rattle.kp_model.specs.Step.{apply}
use Rattle.kp_model.specs.Taken.{is_next}

-- whether a write acts on a state: its session lives and is in its epoch, and its number comes next
abbrev pub acts : State → ℕ → ℕ → ℕ → Bool
acts s session epoch seq = is_next epoch seq (map.get s.sessions session)

-- the number of a write of this session and epoch that acts; nothing of any other entry
abbrev pub number_in : State → ℕ → ℕ → Body → List ℕ
number_in s session epoch (body.Write of in_ seq c) = cond (session == of && (epoch == in_ && acts s of in_ seq)) (seq ∷ []) []
number_in s session epoch body.Noop = []
number_in s session epoch (body.OpenSession timeout passwd origin) = []
number_in s session epoch (body.Attach of passwd origin) = []
number_in s session epoch (body.Expire of) = []

-- the numbers of the writes of this session and epoch that act, where the entries are taken in order
unfoldable pub numbers : State → ℕ → ℕ → List LogEntry → List ℕ
numbers s session epoch [] = []
numbers s session epoch (e ∷ es) = number_in s session epoch e.body ++ numbers (apply s e).state session epoch es

-- so many numbers in a row behind k
abbrev pub row_behind : ℕ → ℕ → List ℕ
row_behind k zero = []
row_behind k (suc n) = (k + 1) ∷ row_behind (k + 1) n

-- they are 1, 2, 3 and so on
abbrev pub WritesAreCounted : Type 0
WritesAreCounted = (es : List LogEntry) (session epoch : ℕ) → numbers empty session epoch es ≡ row_behind 0 (length (numbers empty session epoch es))

abbrev pub OthersChangeNothing : Type 0
OthersChangeNothing = (s : State) (term time session epoch seq : ℕ) (c : Cmd) → acts s session epoch seq ≡ false
    → (apply s (record { term = term; time = time; body = body.Write session epoch seq c })).state ≡ record s { applied = s.applied + 1 }
