use Rattle.std.proofs.Common.{Some, cond, ◌∙◌}
use Rattle.std.specs.Str.{bytes_eq}
use Rattle.kp_prep.specs.Ledgers.{place_of}
use Rattle.kp_prep.proofs.Ledgered.{on_ok_then, ledger_more}
use Rattle.kp_prep.proofs.ledger.change.Goals as goal

pub returns-clause-ledger : goal.returns-clause-ledger
returns-clause-ledger c = on_ok_then c.push.result c.push.ensures.ok (λ pushed s h.
    ledger_more s c.args.ledger.now.changes c.push.new.self c.args.ledger.now.places.entries c.note.new.places.entries c.args.path c.args.node pushed
    (λ q. c.in_ok-note.ensures q ∙ (λ j. cond (bytes_eq (c.as_str.ensures j) q) (Some (c.len-place.ensures j)) (place_of c.args.ledger.now.places.entries q)))
    h)
