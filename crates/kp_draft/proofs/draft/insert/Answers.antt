use Rattle.std.proofs.Common.{Some}
use Rattle.std.specs.Prelude.{string_bytes}
use Rattle.std.proofs.lemmas.Map.Text.{hash_map_updates_text}
use Rattle.kp_draft.proofs.draft.insert.Goals as goal

pub returns : goal.returns
returns c = λ p. hash_map_updates_text (string_bytes c.args.path) c.args.kept.now c.insert.new.self (Some c.args.known) c.in_ok-insert.ensures.updates p
