use Rattle.std.proofs.Common.{Some}
use Rattle.std.specs.Prelude.{string_bytes}
use Rattle.std.proofs.lemmas.Map.Text.{hash_map_updates_text}
use Rattle.kp_draft.proofs.behind.insert_list.Goals as goal

pub returns : goal.returns
returns c = λ p. hash_map_updates_text (string_bytes c.args.path) c.args.lists.now c.insert.new.self (Some c.args.acl) c.in_ok-insert.ensures.updates p
