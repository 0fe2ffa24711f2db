use Rattle.std.proofs.Common.{ap, ◌∙◌, cond, Some, nat_eq, rules}
use Rattle.std.proofs.lemmas.Map.Text.{hash_map_updates_text}
use Rattle.std.proofs.lemmas.Result.{on_ok_weaker, on_err_weaker}
use Rattle.kp_watch.specs.Spots.{number_in}
use Rattle.kp_watch.proofs.Spotted.{number_set, numbers_same}
use Rattle.kp_watch.proofs.spots.put.Goals as goal

pub returns-in-Some-clause-ok : goal.returns-in-Some-clause-ok
returns-in-Some-clause-ok c =
    let w = c.note.new.spot in
    on_ok_weaker c.note.result
    (λ f. number_set c.args.spots.now.entries (c.get_mut.follows.lender w).entries c.args.path.now (Some w)
    (λ p. hash_map_updates_text c.args.path.now c.args.spots.now (c.get_mut.follows.lender w) (Some w) ((c.get_mut.follows.holds w).3 (search rules)) p)
    c.args.conn (Some c.args.number)
    (λ k. f k ∙ ap (λ r. cond (nat_eq c.args.conn k) (Some c.args.number) (number_in r k)) c.in-Some.ensures.value))
    c.note.ensures.ok

pub returns-in-Some-clause-err : goal.returns-in-Some-clause-err
returns-in-Some-clause-err c =
    let w = c.note.new.spot in
    on_err_weaker c.note.result
    (λ f. numbers_same c.args.spots.now.entries (c.get_mut.follows.lender w).entries c.args.path.now (Some w)
    (λ p. hash_map_updates_text c.args.path.now c.args.spots.now (c.get_mut.follows.lender w) (Some w) ((c.get_mut.follows.holds w).3 (search rules)) p)
    (λ k. f k ∙ ap (λ r. number_in r k) c.in-Some.ensures.value))
    c.note.ensures.err
