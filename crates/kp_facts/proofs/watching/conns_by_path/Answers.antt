use Rattle.std.proofs.Common.{◌≡◌, ◌&&◌, ◌||◌, map, ap, ◌∙◌}
use Rattle.std.specs.Ordering.{nat_cmp, eq_by_cmp}
use Rattle.kp_model.specs.State.{path_cmp}
use Rattle.kp_watch.specs.declared.watch.Watch.{Watch}
use Rattle.kp_facts.specs.Groups.{has_group, is_in}
use Rattle.kp_facts.specs.Watched.{conn_of, path_of}
use Rattle.kp_facts.proofs.Gathered.{popped, gathers_one}
use Rattle.kp_facts.proofs.watching.conns_by_path.Goals as goal

pub walk-preserved : goal.walk-preserved
walk-preserved c =
    let w : Watch = c.in-Some.watch.now in
    let same : c.in_ok-path.path ≡ w.path = c.in_ok-path.ensures ∙ c.as_str.ensures in
    gathers_one path_cmp nat_cmp path_of conn_of c.args.watches.now (map (λ x. x.now) c.walk.list.items) (map (λ x. x.now) c.pop.new.self.items) w c.walk.groups.entries c.enter.new.groups.entries
    c.walk.invariant
    (popped (λ x. x.now) c.walk.list.items c.pop.new.self.items c.in-Some.watch c.in-Some.ensures.items)
    (λ k. c.in_ok-enter.ensures.groups k ∙ ap (λ p. eq_by_cmp path_cmp p k || has_group path_cmp c.walk.groups.entries k) same)
    (λ k v. c.in_ok-enter.ensures.values k v ∙ ap (λ p. (eq_by_cmp path_cmp p k && eq_by_cmp nat_cmp w.conn v) || is_in path_cmp nat_cmp c.walk.groups.entries k v) same)
