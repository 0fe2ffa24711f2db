use Rattle.std.proofs.Common.{ap, ◌∙◌, cond, Some, None, nat_eq, rules}
use Rattle.std.proofs.lemmas.Map.Text.{hash_map_updates_text}
use Rattle.kp_watch.specs.Spots.{number_in}
use Rattle.kp_watch.proofs.Spotted.{number_set}
use Rattle.kp_watch.proofs.spots.take_one.Goals as goal

pub returns-in-Some-clause-change : goal.returns-in-Some-clause-change
returns-in-Some-clause-change c =
    let w = c.forget.new.spot in
    number_set c.args.spots.now.entries (c.get_mut.follows.lender w).entries c.args.path.now (Some w)
    (λ p. hash_map_updates_text c.args.path.now c.args.spots.now (c.get_mut.follows.lender w) (Some w) ((c.get_mut.follows.holds w).3 (search rules)) p)
    c.args.conn None
    (λ k. c.forget.ensures.change k ∙ ap (λ r. cond (nat_eq c.args.conn k) None (number_in r k)) c.in-Some.ensures.value)

pub returns-in-Some-clause-emptied : goal.returns-in-Some-clause-emptied
returns-in-Some-clause-emptied c so k =
    let w = c.forget.new.spot in
    ap (λ r. number_in r k) ((c.get_mut.follows.holds w).3 (search rules)).1 ∙ c.forget.ensures.emptied so k
