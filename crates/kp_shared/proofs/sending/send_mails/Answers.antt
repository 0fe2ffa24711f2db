use Rattle.std.proofs.Common.{◌≡◌, [], ◌∷◌, ◌++◌, sym, ◌∙◌, ap, append_assoc, rules}
use Rattle.std.specs.Vec.Iter.{into_iter_items}
use Rattle.kp_shared.proofs.Mailing.{posts_more, posts_none}
use Rattle.kp_shared.proofs.sending.send_mails.Goals as goal

pub loop-letter-init : goal.loop-letter-init
loop-letter-init g c = record { next = tt; finite = tt; left = search rules; seats = c.requires.seats; posts = ([], search rules, posts_none c.args.seats.now) }

pub loop-letter-preserved : goal.loop-letter-preserved
loop-letter-preserved g c = let p = c.loop-letter.invariant.posts in
    let step : into_iter_items c.loop-letter.letter-iterator ≡ c.in-Some.letter ∷ into_iter_items c.next.new.self = search rules in record {
      next = tt;
      finite = tt;
      left = search rules;
      seats = c.send_one.ensures.seats;
      posts = (
        p.0 ++ c.in-Some.letter ∷ [],
        append_assoc p.0 (c.in-Some.letter ∷ []) (into_iter_items c.next.new.self) ∙ ap (λ l. p.0 ++ l) (sym step) ∙ p.1,
        posts_more p.0 (c.in-Some.letter ∷ []) c.args.seats.now c.loop-letter.seats c.send_one.new.seats p.2 c.send_one.ensures.posts,
      );
    }
