use Rattle.std.proofs.Common.{None, refl}
use Rattle.std.proofs.lemmas.Map.Text.{hash_map_updates_text}
use Rattle.kp_watch.proofs.Spotted.{numbers_gone}
use Rattle.kp_watch.proofs.spots.take_spot.Goals as goal

pub returns-clause-change : goal.returns-clause-change
returns-clause-change c =
    numbers_gone c.args.spots.now.entries c.remove.new.self.entries c.args.path.now None
    (λ p. hash_map_updates_text c.args.path.now c.args.spots.now c.remove.new.self None c.remove.ensures.updates p)
    (λ k. refl)
