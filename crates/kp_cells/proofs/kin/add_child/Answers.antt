use Rattle.std.proofs.Common.{◌≡◌, ap, ◌∙◌, true, nat_eq, ◌||◌, Some, rules}
use Rattle.std.specs.Ordering.{nat_cmp, eq_by_cmp}
use Rattle.std.specs.BTreeSet.{contains}
use Rattle.std.specs.List.{list_any}
use Rattle.std.proofs.lemmas.Map.Text.{hash_map_updates_text}
use Rattle.kp_cells.specs.Kin.{kid_in, has_one, filled_in}
use Rattle.kp_cells.proofs.Named.{on_err}
use Rattle.kp_cells.proofs.Sets.{put_in, has_some, itself, kids_joined, kids_same, filled_still}
use Rattle.kp_cells.proofs.kin.add_child.Goals as goal

pub returns-in_err-insert-in-Some-clause-err : goal.returns-in_err-insert-in-Some-clause-err
returns-in_err-insert-in-Some-clause-err c =
    let w = c.insert.new.self in
    on_err _ (
    kids_same _ _ c.args.parent.now (Some w)
    (λ p. hash_map_updates_text c.args.parent.now c.args.kin.now (c.get_mut.follows.lender w) (Some w) ((c.get_mut.follows.holds w).3 (search rules)) p)
    (λ n. ap (list_any (eq_by_cmp nat_cmp n)) c.in_err-insert-in-Some.ensures.err ∙ ap (λ r. kid_in r n) c.in-Some.ensures.value))

pub returns-in_err-insert-in-Some-clause-filled : goal.returns-in_err-insert-in-Some-clause-filled
returns-in_err-insert-in-Some-clause-filled c h =
    let w = c.insert.new.self in
    filled_still c.args.kin.now.entries (c.get_mut.follows.lender w).entries c.args.parent.now (Some w)
    (λ p. hash_map_updates_text c.args.parent.now c.args.kin.now (c.get_mut.follows.lender w) (Some w) ((c.get_mut.follows.holds w).3 (search rules)) p)
    (ap has_one c.in_err-insert-in-Some.ensures.err ∙ ap filled_in c.in-Some.ensures.value ∙ h c.args.parent.now)
    h

pub returns-in_ok-insert-in-Some-clause-ok : goal.returns-in_ok-insert-in-Some-clause-ok
returns-in_ok-insert-in-Some-clause-ok c =
    let w = c.insert.new.self in
    kids_joined _ _ c.args.parent.now (Some w)
    (λ p. hash_map_updates_text c.args.parent.now c.args.kin.now (c.get_mut.follows.lender w) (Some w) ((c.get_mut.follows.holds w).3 (search rules)) p)
    c.args.number
    (λ n. c.in_ok-insert-in-Some.ensures.updates.0 n ∙ put_in c.args.number n (contains nat_cmp c.in-Some.set.now n) ∙ ap (λ r. kid_in r n || nat_eq c.args.number n) c.in-Some.ensures.value)

pub returns-in_ok-insert-in-Some-clause-filled : goal.returns-in_ok-insert-in-Some-clause-filled
returns-in_ok-insert-in-Some-clause-filled c =
    let w = c.insert.new.self in
    let one : has_one w.keys ≡ true = has_some w c.args.number (c.in_ok-insert-in-Some.ensures.updates.0 c.args.number ∙ put_in c.args.number c.args.number (contains nat_cmp c.in-Some.set.now c.args.number) ∙ itself (contains nat_cmp c.in-Some.set.now c.args.number) c.args.number) in
    filled_still c.args.kin.now.entries (c.get_mut.follows.lender w).entries c.args.parent.now (Some w)
    (λ p. hash_map_updates_text c.args.parent.now c.args.kin.now (c.get_mut.follows.lender w) (Some w) ((c.get_mut.follows.holds w).3 (search rules)) p)
    one
