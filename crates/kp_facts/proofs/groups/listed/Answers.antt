use Rattle.kp_facts.proofs.Grouped.{none_left, leads_to, keys_list, values_list}
use Rattle.kp_facts.proofs.groups.listed.Goals as goal

pub returns-clause-keys : goal.returns-clause-keys
returns-clause-keys g c =
    keys_list g.K.Ord.cmp g.V.Ord.cmp (λ w. w.items) g.met.K.Ord.total c.args.groups.entries c.drain.list.items c.len.ensures.ordered
    (leads_to g.K.Ord.cmp g.V.Ord.cmp (λ w. w.items) c.args.groups.entries c.drain.groups.entries c.drain.list.items c.drain.invariant (none_left _ c.in_default.ensures.variant.1))

pub returns-clause-values : goal.returns-clause-values
returns-clause-values g c =
    values_list g.K.Ord.cmp g.V.Ord.cmp (λ w. w.items) g.met.K.Ord.total c.args.groups.entries c.drain.list.items c.len.ensures.ordered
    (leads_to g.K.Ord.cmp g.V.Ord.cmp (λ w. w.items) c.args.groups.entries c.drain.groups.entries c.drain.list.items c.drain.invariant (none_left _ c.in_default.ensures.variant.1))
