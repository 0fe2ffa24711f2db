use Rattle.std.proofs.Common.{◌≡◌, ℕ, ◌∙◌, ap, cond, nat_eq, None}
use Rattle.std.specs.Cmp.{unsigned_tied}
use Rattle.kp_watch.specs.Watching.{same_watch}
use Rattle.kp_watch.specs.Spots.{number_of}
use Rattle.kp_watch.specs.Numbered.{watch_at}
use Rattle.kp_watch.proofs.Beside.{beside_less}
use Rattle.kp_watch.proofs.Owned.{owned_less}
use Rattle.kp_watch.proofs.index.clear_last.Goals as goal

pub returns-in-Some-clause-indexed : goal.returns-in-Some-clause-indexed
returns-in-Some-clause-indexed c =
    let gone : (n : ℕ) → watch_at c.pop_last.new.self.entries n ≡ cond (nat_eq c.in-Some.number n) None (watch_at c.args.book.now.entries n) = λ n. c.in-Some.ensures.updates.0 n ∙ ap (λ b. cond b None (watch_at c.args.book.now.entries n)) (unsigned_tied c.in-Some.number n) in
    record {
      ordered = c.in-Some.ensures.ordered;
      beside = beside_less c.args.sides.now c.take_watch.new.sides (watch_at c.args.book.now.entries) (watch_at c.pop_last.new.self.entries) c.in-Some.number c.in-Some.watch c.requires.beside c.in-Some.ensures.value gone
          (λ k p q. c.take_watch.ensures k p q ∙ ap (λ t. cond (same_watch (record { path = p; kind = k; conn = q }) (record { path = t; kind = c.in-Some.watch.kind; conn = c.in-Some.watch.conn })) None (number_of c.args.sides.now k p q)) c.as_str.ensures);
      owned = owned_less c.args.own.now.entries c.leave.new.own.entries (watch_at c.args.book.now.entries) (watch_at c.pop_last.new.self.entries) c.requires.owned c.in-Some.number c.in-Some.watch c.in-Some.ensures.value gone c.leave.ensures;
    }
