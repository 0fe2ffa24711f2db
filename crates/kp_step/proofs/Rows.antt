-- What each event is answered.
use Rattle.std.proofs.Common.{◌≡◌, ℕ, suc, Bool, true, false, List, [], ◌∷◌, ◌++◌, length, Option, Some, None, refl, ap}
use Rattle.std.specs.Prelude.{if◌then◌else◌, map}
use Rattle.std.specs.FinMap as map
use Rattle.kp_model.specs.LogEntry.{LogEntry}
use Rattle.kp_model.proofs.Applied.{applied-apply}
use Rattle.kp_raft.specs.declared.mail.Mail.{Mail}
use Rattle.kp_event.specs.declared.event.NodeEventKind.{NodeEventKind}
use Rattle.kp_event.specs.declared.event.NodeEventKind.TheVariants as kind
use Rattle.kp_event.specs.declared.said.Said.TheVariants as says
use Rattle.kp_event.specs.Kinds.{row_of_kind, row_of_said}
use Rattle.kp_conn.specs.Connection.{is_over}
use Rattle.kp_step.specs.declared.seat.Seat.{Seat}
use Rattle.kp_step.specs.Choices.{Choices}
use Rattle.kp_step.specs.Node.{Node, Images}
use Rattle.kp_step.specs.Applying.{upcoming}
use Rattle.kp_step.specs.Asking.{Words, reacted, asked, fed_end, client_served}
use Rattle.kp_step.specs.Step.{Stepped, step, together, turned, turn, client_turn, fed_turn, drain_turn, commit_turn, fed_word, filled, forwarded}
use Rattle.kp_step.specs.Rows.{word_for, piece_for, index_for, IsSaidTo, StepsSay, AnswersFit}

pick_word : (words : Words) (ch : Choices) (x : Node) (now k : ℕ) (bytes : List ℕ) (s : Seat) (b : Bool)
    → (if b then turn x (says.Fed (word_for bytes None)) else fed_turn x now k s (fed_end s bytes) (client_served words ch x now k bytes s)).said ≡ says.Fed (if b then word_for bytes None else fed_word (fed_end s bytes))
pick_word words ch x now k bytes s true = refl
pick_word words ch x now k bytes s false = refl

client_says : (words : Words) (ch : Choices) (x : Node) (now k : ℕ) (bytes : List ℕ) (o : Option Seat) → (client_turn words ch x now k bytes o).said ≡ says.Fed (word_for bytes o)
client_says words ch x now k bytes None = refl
client_says words ch x now k bytes (Some s) = pick_word words ch x now k bytes s (is_over s.connection.phase)

drain_says : (x : Node) (k : ℕ) (o : Option Seat) → (drain_turn x k o).said ≡ says.Out (piece_for o)
drain_says x k None = refl
drain_says x k (Some s) = refl

commit_says : (ch : Choices) (x : Node) (now : ℕ) (o : Option LogEntry) → (commit_turn ch x now o).said ≡ says.Done (index_for x o)
commit_says ch x now None = refl
commit_says ch x now (Some e) = ap (λ n. says.Done (Some n)) (applied-apply x.state e)

same_length : {A B C : Type 0} (f : A → B) (g : C → B) (xs : List A) → length xs ≡ length (map f xs ++ map g [])
same_length f g [] = refl
same_length f g (x ∷ xs) = ap suc (same_length f g xs)

module _ (I : Type 0) where
  said_by : (words : Words) (im : Images I) (ch : Choices) (x : Node) (now : ℕ) (v : NodeEventKind (Mail I)) → IsSaidTo x now v (step words im ch x (record { now = now; kind = v }))
  unfolding step together turned asked reacted
  said_by words im ch x now (kind.Accept draw) = refl
  said_by words im ch x now (kind.Client k bytes) = client_says words ch x now k bytes (map.get x.seats k)
  said_by words im ch x now (kind.Hangup k) = refl
  said_by words im ch x now (kind.Drain k) = drain_says x k (map.get x.seats k)
  said_by words im ch x now (kind.Deliver m) = refl
  said_by words im ch x now kind.Timeout = refl
  said_by words im ch x now kind.Beat = ap says.Beat (same_length (filled x.spoken) (forwarded x) _)
  said_by words im ch x now kind.CommitOne = commit_says ch x now (upcoming x)
  said_by words im ch x now kind.ExpireDue = refl
  said_by words im ch x now kind.Snapshot = refl

  pub steps_say : StepsSay I
  steps_say words im ch x v = said_by words im ch x v.now v.kind

  fits_row : (x : Node) (now : ℕ) (v : NodeEventKind (Mail I)) (o : Stepped I) → IsSaidTo x now v o → row_of_said o.said ≡ row_of_kind v
  fits_row x now (kind.Accept draw) o e = ap row_of_said e
  fits_row x now (kind.Client k bytes) o e = ap row_of_said e
  fits_row x now (kind.Hangup k) o e = ap row_of_said e
  fits_row x now (kind.Drain k) o e = ap row_of_said e
  fits_row x now (kind.Deliver m) o e = ap row_of_said e
  fits_row x now kind.Timeout o e = ap row_of_said e
  fits_row x now kind.Beat o e = ap row_of_said e
  fits_row x now kind.CommitOne o e = ap row_of_said e
  fits_row x now kind.ExpireDue o e = ap row_of_said e
  fits_row x now kind.Snapshot o e = ap row_of_said e

  pub answers_fit : AnswersFit I
  answers_fit words im ch x v = fits_row x v.now v.kind (step words im ch x v) (steps_say words im ch x v)
