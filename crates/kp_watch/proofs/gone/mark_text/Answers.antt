use Rattle.std.proofs.Common.{ap, ◌∙◌, cond, true}
use Rattle.std.specs.Prelude.{string_bytes}
use Rattle.std.specs.Str.{bytes_eq}
use Rattle.std.proofs.lemmas.Map.Text.{hash_set_updates_text}
use Rattle.kp_watch.specs.Gone.{has_text}
use Rattle.kp_watch.proofs.gone.mark_text.Goals as goal

pub returns-clause-change : goal.returns-clause-change
returns-clause-change c = λ p.
    hash_set_updates_text (string_bytes c.in_ok-key.key) c.args.paths.now c.insert.new.self true c.in_ok-insert.ensures.updates p
    ∙ ap (λ q. cond (bytes_eq q p) true (has_text c.args.paths.now p)) c.in_ok-key.ensures.ok
