-- An event that finds nothing to do asks nothing of Raft.
use Rattle.std.proofs.Common.{◌≡◌, ℕ, Bool, true, false, cond, List, Option, Some, None, refl}
use Rattle.std.specs.FinMap as map
use Rattle.kp_model.specs.LogEntry.{LogEntry}
use Rattle.kp_raft.specs.declared.mail.Mail.{Mail}
use Rattle.kp_event.specs.declared.event.NodeEventKind.{NodeEventKind}
use Rattle.kp_event.specs.declared.event.NodeEventKind.TheVariants as kind
use Rattle.kp_conn.specs.declared.fed.FedEnd.{FedEnd}
use Rattle.kp_conn.specs.declared.fed.FedEnd.TheVariants as ends
use Rattle.kp_conn.specs.Connection.{is_over}
use Rattle.kp_raft.specs.Parts.{Outcome}
use Rattle.kp_step.specs.declared.seat.Seat.{Seat}
use Rattle.kp_step.specs.Choices.{Choices}
use Rattle.kp_step.specs.Node.{Node, Images}
use Rattle.kp_step.specs.Applying.{upcoming}
use Rattle.kp_step.specs.Asking.{Words, Input, idle, asked, client_input, commit_input, fed_end}
use Rattle.kp_step.specs.Step.{Turn, client_turn, commit_turn, fed_word, turned}
use Rattle.kp_kept.specs.Tearing.{says_none, is_unknown}

known : (P : Type 0) (end : FedEnd) → is_unknown (fed_word end) ≡ true → P
known P ends.Ok e = absurd (cc e)
known P (ends.Bad at) e = absurd (cc e)
known P (ends.Word w) e = absurd (cc e)

module _ {I : Type 0} where
  over_idle : (b : Bool) (t u : Turn) (i : Input I) → (says_none u.said ≡ true → i ≡ idle) → says_none (cond b t u).said ≡ true → ◌≡◌ {A = Input I} (cond b idle i) idle
  over_idle true t u i else_idle e = refl
  over_idle false t u i else_idle e = else_idle e

  client_idle : (words : Words) (ch : Choices) (x : Node) (now k : ℕ) (bytes : List ℕ) (o : Option Seat) → says_none (client_turn words ch x now k bytes o).said ≡ true → ◌≡◌ {A = Input I} (client_input words ch x now k bytes o) idle
  client_idle words ch x now k bytes None e = refl
  client_idle words ch x now k bytes (Some s) e = over_idle (is_over s.connection.phase) _ _ _ (λ f. known _ (fed_end s bytes) f) e

  commit_idle : (ch : Choices) (x : Node) (now : ℕ) (o : Option LogEntry) → says_none (commit_turn ch x now o).said ≡ true → ◌≡◌ {A = Input I} (commit_input ch x now o) idle
  commit_idle ch x now None e = refl
  commit_idle ch x now (Some n) e = absurd (cc e)

  pub asks_none : (words : Words) (im : Images I) (ch : Choices) (x : Node) (now : ℕ) (o : Outcome I) (image : Option I) (v : NodeEventKind (Mail I)) → says_none (turned words im ch x now o image v).said ≡ true → asked words im ch x now v ≡ idle
  unfolding turned asked
  asks_none words im ch x now o image (kind.Accept draw) e = refl
  asks_none words im ch x now o image (kind.Client k bytes) e = client_idle words ch x now k bytes (map.get x.seats k) e
  asks_none words im ch x now o image (kind.Hangup k) e = refl
  asks_none words im ch x now o image (kind.Drain k) e = refl
  asks_none words im ch x now o image (kind.Deliver m) e = absurd (cc e)
  asks_none words im ch x now o image kind.Timeout e = absurd (cc e)
  asks_none words im ch x now o image kind.Beat e = absurd (cc e)
  asks_none words im ch x now o image kind.CommitOne e = commit_idle ch x now (upcoming x) e
  asks_none words im ch x now o image kind.ExpireDue e = absurd (cc e)
  asks_none words im ch x now o image kind.Snapshot e = absurd (cc e)
