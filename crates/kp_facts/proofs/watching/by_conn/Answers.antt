use Rattle.kp_facts.proofs.Listing.{both_ok}
use Rattle.kp_facts.proofs.Watches.{by_conn}
use Rattle.kp_facts.proofs.watching.by_conn.Goals as goal

pub returns : goal.returns
returns c =
    both_ok _ _ _ c.listed.result
    (λ list keys values. by_conn (λ v. v.items) c.args.watches.now c.in_ok-paths_by_conn.field-0.entries c.in_ok-paths_by_conn.ensures list.items keys values)
    c.listed.ensures.keys c.listed.ensures.values
