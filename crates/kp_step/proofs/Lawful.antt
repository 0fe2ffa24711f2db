-- The laws of a node's runs.
use Rattle.std.proofs.Common.{◌≡◌, ℕ, List}
use Rattle.kp_model.specs.State.{State}
use Rattle.kp_entry.specs.Held.{Held}
use Rattle.kp_raft.specs.declared.mail.Mail.{Mail}
use Rattle.kp_event.specs.declared.event.NodeEvent.{NodeEvent}
use Rattle.kp_step.specs.Choices.{Choices}
use Rattle.kp_step.specs.Node.{Images}
use Rattle.kp_step.specs.Asking.{Words}
use Rattle.kp_step.specs.Runs.{begun, at_start, run, RepliesAreInOrder, AnswersAreOfOneState, StatesAreReplays, ConnectionsRest}
use Rattle.kp_step.proofs.Runs.{Holds, start_holds, run_holds, in_order, is_replay, one_state}

module _ (I : Type 0) where
  holds : (words : Words) (im : Images I) (me members boot now : ℕ) (held : Held) (s : State) → s.applied ≡ held.log.base → (es : List (Choices × NodeEvent (Mail I))) → Holds (run words im (at_start (begun me members boot now held s)) es)
  holds words im me members boot now held s e es = run_holds words im (at_start (begun me members boot now held s)) es (start_holds me members boot now held s e)

  pub replies_are_in_order : RepliesAreInOrder I
  replies_are_in_order words im me members boot now held s e es = in_order (run words im (at_start (begun me members boot now held s)) es) (holds words im me members boot now held s e es)

  pub answers_are_of_one_state : AnswersAreOfOneState I
  answers_are_of_one_state words im me members boot now held s e es ch v = one_state words im (run words im (at_start (begun me members boot now held s)) es) ch v (holds words im me members boot now held s e es)

  pub states_are_replays : StatesAreReplays I
  states_are_replays words im me members boot now held s e es = is_replay (run words im (at_start (begun me members boot now held s)) es) (holds words im me members boot now held s e es)

  pub connections_rest : ConnectionsRest I
  connections_rest words im me members boot now held s e es = (holds words im me members boot now held s e es).quiet
