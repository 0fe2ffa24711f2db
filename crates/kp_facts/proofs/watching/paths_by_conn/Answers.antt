use Rattle.std.proofs.Common.{◌≡◌, ◌&&◌, ◌||◌, map, ap, ◌∙◌}
use Rattle.std.specs.Ordering.{nat_cmp, eq_by_cmp}
use Rattle.kp_model.specs.State.{path_cmp}
use Rattle.kp_watch.specs.declared.watch.Watch.{Watch}
use Rattle.kp_facts.specs.Groups.{is_in}
use Rattle.kp_facts.specs.Watched.{conn_of, path_of}
use Rattle.kp_facts.proofs.Gathered.{popped, gathers_one}
use Rattle.kp_facts.proofs.watching.paths_by_conn.Goals as goal

pub walk-preserved : goal.walk-preserved
walk-preserved c =
    let w : Watch = c.in-Some.watch.now in
    let same : c.in_ok-path.path ≡ w.path = c.in_ok-path.ensures ∙ c.as_str.ensures in
    gathers_one nat_cmp path_cmp conn_of path_of c.args.watches.now (map (λ x. x.now) c.walk.list.items) (map (λ x. x.now) c.pop.new.self.items) w c.walk.groups.entries c.enter.new.groups.entries
    c.walk.invariant
    (popped (λ x. x.now) c.walk.list.items c.pop.new.self.items c.in-Some.watch c.in-Some.ensures.items)
    c.in_ok-enter.ensures.groups
    (λ k v. c.in_ok-enter.ensures.values k v ∙ ap (λ p. (eq_by_cmp nat_cmp w.conn k && eq_by_cmp path_cmp p v) || is_in nat_cmp path_cmp c.walk.groups.entries k v) same)
