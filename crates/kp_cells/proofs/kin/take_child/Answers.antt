use Rattle.std.proofs.Common.{ap, ◌∙◌, ◌&&◌, nat_eq, Some, rules}
use Rattle.std.specs.Prelude.{not}
use Rattle.std.specs.Str.{bytes_eq}
use Rattle.std.specs.Ordering.{nat_cmp}
use Rattle.std.specs.BTreeSet.{contains}
use Rattle.std.proofs.lemmas.Map.Text.{hash_map_updates_text}
use Rattle.kp_cells.specs.Kin.{kid_in, filled_in, set_at}
use Rattle.kp_cells.proofs.Sets.{taken_out, kids_left, filled_so, cond_second}
use Rattle.kp_cells.proofs.kin.take_child.Goals as goal

pub returns-in-Some-clause-kids : goal.returns-in-Some-clause-kids
returns-in-Some-clause-kids c =
    let w = c.remove.new.self in
    kids_left _ _ c.args.parent.now (Some w)
    (λ p. hash_map_updates_text c.args.parent.now c.args.kin.now (c.get_mut.follows.lender w) (Some w) ((c.get_mut.follows.holds w).3 (search rules)) p)
    c.args.number
    (λ n. c.remove.ensures.updates.0 n ∙ taken_out c.args.number n (contains nat_cmp c.in-Some.set.now n) ∙ ap (λ r. kid_in r n && not (nat_eq c.args.number n)) c.in-Some.ensures.value)

pub returns-in-Some-clause-others : goal.returns-in-Some-clause-others
returns-in-Some-clause-others c p other =
    let w = c.remove.new.self in
    filled_so c.args.kin.now.entries (c.get_mut.follows.lender w).entries c.args.parent.now (Some w)
    (λ q. hash_map_updates_text c.args.parent.now c.args.kin.now (c.get_mut.follows.lender w) (Some w) ((c.get_mut.follows.holds w).3 (search rules)) q)
    p
    ∙ cond_second (bytes_eq c.args.parent.now p) (filled_in (Some w)) (filled_in (set_at c.args.kin.now.entries p)) other
