use Rattle.std.proofs.Common.{ap, sym, ◌∙◌, cond, Some, nat_eq}
use Rattle.std.specs.Map.{lookup}
use Rattle.std.specs.Str.{bytes_eq}
use Rattle.std.specs.Prelude.{string_bytes}
use Rattle.std.proofs.lemmas.Map.Text.{hash_map_updates_text}
use Rattle.kp_watch.specs.Spots.{spot_at, number_in}
use Rattle.kp_watch.proofs.Spotted.{number_set}
use Rattle.kp_watch.proofs.spots.put_first.Goals as goal

pub returns-clause-ok : goal.returns-clause-ok
returns-clause-ok c =
    let s = c.note.new.spot in
    number_set c.args.spots.now.entries c.insert.new.self.entries c.args.path.now (Some s)
    (λ p. hash_map_updates_text (string_bytes c.in_ok-key.key) c.args.spots.now c.insert.new.self (Some s) c.in_ok-insert.ensures.updates p ∙ ap (λ q. cond (bytes_eq q p) (Some s) (spot_at c.args.spots.now.entries p)) c.in_ok-key.ensures.ok)
    c.args.conn (Some c.args.number)
    (λ k. c.in_ok-note.ensures.ok k ∙ ap (λ r. cond (nat_eq c.args.conn k) (Some c.args.number) r) (ap (lookup (nat_eq k)) c.new-spot.ensures.empty ∙ ap (λ r. number_in r k) (sym c.requires)))
