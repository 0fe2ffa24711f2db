use Rattle.std.proofs.Common.{◌≡◌, [], ◌∷◌, ◌++◌, sym, ◌∙◌, ap, append_assoc, rules}
use Rattle.std.specs.Vec.Iter.{into_iter_items}
use Rattle.kp_shared.proofs.Mailing.{posts_none}
use Rattle.kp_shared.proofs.MailsOf.{posts_thought}
use Rattle.kp_shared.proofs.sending.post_all.Goals as goal

pub loop-thought-init : goal.loop-thought-init
loop-thought-init g c = record { next = tt; finite = tt; left = search rules; seats = c.requires.seats; posts = ([], search rules, posts_none c.args.seats.now) }

pub loop-thought-preserved : goal.loop-thought-preserved
loop-thought-preserved g c = let p = c.loop-thought.invariant.posts in
    let step : into_iter_items c.loop-thought.thought-iterator ≡ c.in-Some.thought ∷ into_iter_items c.next.new.self = search rules in record {
      next = tt;
      finite = tt;
      left = search rules;
      seats = c.post_thought.ensures.seats;
      posts = (
        p.0 ++ c.in-Some.thought ∷ [],
        append_assoc p.0 (c.in-Some.thought ∷ []) (into_iter_items c.next.new.self) ∙ ap (λ l. p.0 ++ l) (sym step) ∙ p.1,
        posts_thought p.0 c.in-Some.thought c.args.seats.now c.loop-thought.seats c.post_thought.new.seats p.2 c.post_thought.ensures.posts,
      );
    }
