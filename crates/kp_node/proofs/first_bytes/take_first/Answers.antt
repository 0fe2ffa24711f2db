use Rattle.std.proofs.Common.{refl, ap, sym, ◌∙◌}
use Rattle.kp_conn.specs.declared.fed.Fed.{Fed}
use Rattle.kp_conn.specs.Connection.{Connection}
use Rattle.kp_node.proofs.Firsts.{begins_again, first_open, is_first, no_word, takes_first, word_is}
use Rattle.kp_node.proofs.first_bytes.take_first.Goals as goal

pub returns-in-Some-clause-ok : goal.returns-in-Some-clause-ok
returns-in-Some-clause-ok c = (
  ap (λ (z : Connection × Fed). z.1.end) c.in-Ok.ensures.ok ∙ word_is c.in-Ok.fed.end c.in-Some.word (sym c.in-Some.ensures),
  (refl, (refl, begins_again c.args.conn.now c.args.bytes.now c.requires c.feed.new.self c.in-Ok.fed c.in-Ok.ensures.ok c.in_ok-beginning.beginning c.feed.new.self c.begin_again.new.self c.in_ok-beginning.ensures refl c.begin_again.ensures)),
)

pub returns-in-Ok-served-clause-ok : goal.returns-in-Ok-served-clause-ok
returns-in-Ok-served-clause-ok c = (
  sym (ap (λ (z : Connection × Fed). z.1.end) c.in-Ok.ensures.ok),
  (
    no_word c.in-Ok.fed.end (sym c.in-None.ensures),
    λ text ws. takes_first c.args.ground c.args.number c.args.draw text c.args.bytes.now c.args.raft.now c.serve_first-served.new.raft c.args.storage.now c.serve_first-served.new.storage ws c.args.conn.now c.serve_first-served.new.conn c.in-Ok-served.handed
        c.feed.new.self c.in-Ok.fed c.in-Ok.ensures.ok (is_first c.args.conn.now.phase c.requires) (first_open c.args.conn.now c.args.bytes.now c.requires c.feed.new.self c.in-Ok.fed c.in-Ok.ensures.ok) (c.in-Ok-served.ensures.ok text ws),
  ),
)

pub returns-in-Err-served-clause-conn : goal.returns-in-Err-served-clause-conn
returns-in-Err-served-clause-conn c = begins_again c.args.conn.now c.args.bytes.now c.requires c.feed.new.self c.in-Ok.fed c.in-Ok.ensures.ok c.in_ok-beginning.beginning c.serve_first-served.new.conn c.begin_again-in-Err-served.new.self c.in_ok-beginning.ensures c.in-Err-served.ensures.conn c.begin_again-in-Err-served.ensures
