use Rattle.std.proofs.Common.{◌∙◌, sym, refl, ap, cond, Some, None}
use Rattle.std.specs.Cmp.{unsigned_tied}
use Rattle.kp_watch.specs.Numbered.{watch_at}
use Rattle.kp_watch.proofs.Cleared.{conn_watches, conn_cleared}
use Rattle.kp_watch.proofs.Listed.{any_same}
use Rattle.kp_watch.proofs.index.clear_conn.Goals as goal

pub returns-in-Some-clause-indexed : goal.returns-in-Some-clause-indexed
returns-in-Some-clause-indexed c =
    conn_cleared c.args.book.now.entries c.drop_numbers.new.book.entries c.args.sides.now c.drop_numbers.new.sides c.args.own.now.entries c.take_set.new.own.entries c.requires c.drop_numbers.ensures.ordered
    c.args.conn (Some c.in-Some.numbers) c.in-Some.ensures.set
    (λ n. c.drop_numbers.ensures.book n ∙ ap (λ b. cond b None (watch_at c.args.book.now.entries n)) (sym (any_same _ _ (unsigned_tied n) c.in-Some.numbers.keys)))
    c.drop_numbers.ensures.beside c.in-Some.ensures.change

pub returns-in-Some-clause-watches : goal.returns-in-Some-clause-watches
returns-in-Some-clause-watches c =
    conn_watches c.args.book.now.entries c.drop_numbers.new.book.entries c.args.sides.now c.drop_numbers.new.sides c.args.own.now.entries c.take_set.new.own.entries c.requires c.drop_numbers.ensures.ordered
    c.args.conn (Some c.in-Some.numbers) c.in-Some.ensures.set
    (λ n. c.drop_numbers.ensures.book n ∙ ap (λ b. cond b None (watch_at c.args.book.now.entries n)) (sym (any_same _ _ (unsigned_tied n) c.in-Some.numbers.keys)))

pub returns-in_default-clause-watches : goal.returns-in_default-clause-watches
returns-in_default-clause-watches c =
    conn_watches c.args.book.now.entries c.args.book.now.entries c.args.sides.now c.args.sides.now c.args.own.now.entries c.args.own.now.entries c.requires c.requires.ordered
    c.args.conn None c.in_default.ensures.set (λ n. refl)
