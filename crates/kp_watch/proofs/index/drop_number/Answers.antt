use Rattle.std.proofs.Common.{ap, sym, ◌∙◌, cond, None}
use Rattle.std.specs.Cmp.{unsigned_tied}
use Rattle.kp_watch.specs.Numbered.{watch_at}
use Rattle.kp_watch.specs.Watching.{same_watch}
use Rattle.kp_watch.specs.Spots.{number_of}
use Rattle.kp_watch.proofs.Beside.{beside_less}
use Rattle.kp_watch.proofs.index.drop_number.Goals as goal

pub returns-in-Some-clause-beside : goal.returns-in-Some-clause-beside
returns-in-Some-clause-beside c =
    beside_less c.args.sides.now c.take_watch.new.sides (watch_at c.args.book.now.entries) (watch_at c.remove.new.self.entries) c.args.number c.in-Some.watch
    c.requires.beside
    (sym c.in-Some.ensures.value)
    (λ n. c.in-Some.ensures.updates.0 n ∙ ap (λ b. cond b None (watch_at c.args.book.now.entries n)) (unsigned_tied c.args.number n))
    (λ k p q. c.take_watch.ensures k p q ∙ ap (λ t. cond (same_watch (record { path = p; kind = k; conn = q }) (record { path = t; kind = c.in-Some.watch.kind; conn = c.in-Some.watch.conn })) None (number_of c.args.sides.now k p q)) c.as_str.ensures)
