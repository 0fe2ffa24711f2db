use Rattle.std.proofs.Common.{◌≡◌, [], ◌∷◌, ◌++◌, refl, sym, ◌∙◌, ap, append_assoc, rules}
use Rattle.std.specs.Vec.Iter.{into_iter_items}
use Rattle.kp_shared.specs.Tasks.{bad_of}
use Rattle.kp_shared.proofs.Mailing.{posts_none}
use Rattle.kp_shared.proofs.MailsOf.{posts_thought}
use Rattle.kp_dispatch.specs.Rounds.{first_bad, first_of}
use Rattle.kp_dispatch.proofs.Leaving.{bad_more}
use Rattle.kp_dispatch.proofs.rounds.post_front.Goals as goal

pub loop-thought-init : goal.loop-thought-init
loop-thought-init g c = record { next = tt; finite = tt; left = search rules; seats = c.requires.seats; posts = ([], search rules, posts_none c.args.seats.now, refl) }

pub loop-thought-preserved : goal.loop-thought-preserved
loop-thought-preserved g c = let p = c.loop-thought.invariant.posts in
    let step : into_iter_items c.loop-thought.thought-iterator ≡ c.in-Some.thought ∷ into_iter_items c.next.new.self = search rules in
    let place : bad_of c.post_thought-said.result ≡ bad_of c.in-Some.thought.said = ap bad_of c.post_thought-said.ensures.said in
    let found : c.first_place-bad.result ≡ first_of c.loop-thought.bad (bad_of c.post_thought-said.result) = search rules in record {
      next = tt;
      finite = tt;
      left = search rules;
      seats = c.post_thought-said.ensures.seats;
      posts = (
        p.0 ++ c.in-Some.thought ∷ [],
        append_assoc p.0 (c.in-Some.thought ∷ []) (into_iter_items c.next.new.self) ∙ ap (λ l. p.0 ++ l) (sym step) ∙ p.1,
        posts_thought p.0 c.in-Some.thought c.args.seats.now c.loop-thought.seats c.post_thought-said.new.seats p.2 c.post_thought-said.ensures.posts,
        found ∙ ap (λ o. first_of o (bad_of c.post_thought-said.result)) p.3 ∙ ap (λ o. first_of (first_bad p.0) o) place ∙ sym (bad_more p.0 c.in-Some.thought),
      );
    }
