use Rattle.kp_facts.proofs.Listing.{both_ok}
use Rattle.kp_facts.proofs.Watches.{by_path}
use Rattle.kp_facts.proofs.watching.by_path.Goals as goal

pub returns : goal.returns
returns c =
    both_ok _ _ _ c.listed.result
    (λ list keys values. by_path (λ v. v.items) c.args.watches.now c.in_ok-conns_by_path.field-0.entries c.in_ok-conns_by_path.ensures list.items keys values)
    c.listed.ensures.keys c.listed.ensures.values
