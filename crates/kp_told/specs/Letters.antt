-- A message on a line of its own.
use Rattle.std.specs.Prelude.{ℕ, List, [], ◌∷◌, ◌++◌}
use Rattle.kp_raft.specs.declared.mail.Mail.{Mail}
use Rattle.kp_script.specs.Messages.{message_text}
use Rattle.kp_play.specs.Texts.{line_of}

-- a message of this member with this number and its receiver, and a line feed
abbrev pub letter_line : {I : Type 0} → ℕ → ℕ → ℕ × Mail I → List ℕ
letter_line from number m = message_text number from m.0 (line_of m.1) ++ 10 ∷ []
