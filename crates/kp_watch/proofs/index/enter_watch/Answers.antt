use Rattle.std.proofs.Common.{◌∙◌, sym, ap, cond, Some, nat_eq}
use Rattle.std.specs.BTreeMap.{insert_entry}
use Rattle.std.specs.Ordering.{nat_cmp}
use Rattle.kp_watch.specs.declared.watch.Watch.{Watch}
use Rattle.kp_watch.specs.Numbered.{watch_at}
use Rattle.kp_watch.proofs.Cleared.{not_err, an_err, not_there, entered, taken_back, inserted_last, below_more, below_still}
use Rattle.kp_watch.proofs.index.enter_watch.Goals as goal

pub enter-requires : goal.enter-requires
enter-requires c = not_there c.args.book.now.entries c.args.sides.now (record { path = c.args.path.now; kind = c.args.kind; conn = c.args.conn }) c.requires.indexed.ordered c.requires.indexed.beside c.requires.fresh

pub returns-clause-ok : goal.returns-clause-ok
returns-clause-ok c =
    let w : Watch = record { path = c.args.path.now; kind = c.args.kind; conn = c.args.conn } in
    not_err c.put_in.result (sym c.is_err.ensures.value ∙ c.if-is_err.false) c.put_in.ensures.entries
    ∙ ap (λ p. insert_entry nat_cmp c.args.book.now.entries c.args.number (record { path = p; kind = c.args.kind; conn = c.args.conn })) c.in_ok-text.ensures
    ∙ inserted_last c.args.book.now.entries c.args.number w c.requires.indexed.ordered c.requires.below

pub returns-clause-indexed : goal.returns-clause-indexed
returns-clause-indexed c =
    let w : Watch = record { path = c.args.path.now; kind = c.args.kind; conn = c.args.conn } in
    entered c.args.book.now.entries c.put_in.new.book.entries c.args.sides.now c.enter.new.sides c.args.own.now.entries c.enter.new.own.entries c.requires.indexed c.put_in.ensures.ordered c.args.number w c.requires.below c.requires.fresh
    (λ n. not_err c.put_in.result (sym c.is_err.ensures.value ∙ c.if-is_err.false) c.put_in.ensures.book n
    ∙ ap (λ p. cond (nat_eq c.args.number n) (Some (record { path = p; kind = c.args.kind; conn = c.args.conn })) (watch_at c.args.book.now.entries n)) c.in_ok-text.ensures)
    c.in_ok-enter.ensures.sides
    c.in_ok-enter.ensures.own

pub returns-then-is_err-clause-indexed : goal.returns-then-is_err-clause-indexed
returns-then-is_err-clause-indexed c =
    let w : Watch = record { path = c.args.path.now; kind = c.args.kind; conn = c.args.conn } in
    taken_back c.args.book.now.entries c.put_in.new.book.entries c.args.sides.now c.enter.new.sides c.args.own.now.entries c.enter.new.own.entries c.requires.indexed c.put_in.ensures.ordered c.args.number w c.requires.below c.requires.fresh
    c.take_watch.new.sides c.leave.new.own.entries
    (λ n. ap (λ es. watch_at es n) (an_err c.put_in.result (sym c.is_err.ensures.value ∙ c.if-is_err.true) c.put_in.ensures.err))
    c.in_ok-enter.ensures.sides
    c.in_ok-enter.ensures.own
    c.take_watch.ensures
    c.leave.ensures

pub returns-clause-below : goal.returns-clause-below
returns-clause-below c =
    below_more c.args.book.now.entries c.put_in.new.book.entries c.args.number (record { path = c.in_ok-text.text; kind = c.args.kind; conn = c.args.conn }) c.requires.below
    (not_err c.put_in.result (sym c.is_err.ensures.value ∙ c.if-is_err.false) c.put_in.ensures.book)

pub returns-then-is_err-clause-below : goal.returns-then-is_err-clause-below
returns-then-is_err-clause-below c =
    below_still c.args.book.now.entries c.put_in.new.book.entries c.args.number c.requires.below
    (an_err c.put_in.result (sym c.is_err.ensures.value ∙ c.if-is_err.true) c.put_in.ensures.err)
