use Rattle.std.proofs.Common.{◌≡◌, [], ◌∷◌, ◌++◌, sym, ◌∙◌, ap, append_assoc, rules}
use Rattle.std.specs.Vec.Iter.{into_iter_items}
use Rattle.kp_shared.proofs.Mailing.{posts_none}
use Rattle.kp_worker.proofs.Drained.{next_there}
use Rattle.kp_worker.proofs.Released.{posts_note, releases_more, releases_none, waits_left}
use Rattle.kp_worker.proofs.releasing.release.Goals as goal

pub loop-note-init : goal.loop-note-init
loop-note-init g c = record { next = tt; finite = tt; left = search rules; seats = c.requires.seats; all = ([], search rules, releases_none (g.L.Lines.sees c.args.lines.now), posts_none c.args.seats.now) }

pub release_one-requires-clause-waits : goal.release_one-requires-clause-waits
release_one-requires-clause-waits g c = let p = c.loop-note.invariant.all in
    let next : into_iter_items c.loop-note.note-iterator ≡ c.in-Some.note ∷ into_iter_items c.next.new.self = search rules in
    waits_left (g.L.Lines.sees c.args.lines.now) (g.L.Lines.sees c.loop-note.lines) p.0 (into_iter_items c.next.new.self) c.args.notes.items c.in-Some.note (ap (λ l. p.0 ++ l) (sym next) ∙ p.1) p.2 c.requires.waits

pub release_one-requires-clause-there : goal.release_one-requires-clause-there
release_one-requires-clause-there g c = let p = c.loop-note.invariant.all in
    let next : into_iter_items c.loop-note.note-iterator ≡ c.in-Some.note ∷ into_iter_items c.next.new.self = search rules in
    next_there (g.L.Lines.sees c.args.lines.now) (g.L.Lines.sees c.loop-note.lines) p.0 (into_iter_items c.next.new.self) c.args.notes.items c.in-Some.note (ap (λ l. p.0 ++ l) (sym next) ∙ p.1) p.2 c.requires.there

pub loop-note-preserved : goal.loop-note-preserved
loop-note-preserved g c = let p = c.loop-note.invariant.all in
    let next : into_iter_items c.loop-note.note-iterator ≡ c.in-Some.note ∷ into_iter_items c.next.new.self = search rules in record {
      next = tt;
      finite = tt;
      left = search rules;
      seats = c.release_one.ensures.seats;
      all = (
        p.0 ++ c.in-Some.note ∷ [],
        append_assoc p.0 (c.in-Some.note ∷ []) (into_iter_items c.next.new.self) ∙ ap (λ l. p.0 ++ l) (sym next) ∙ p.1,
        releases_more (g.L.Lines.sees c.args.lines.now) (g.L.Lines.sees c.loop-note.lines) (g.L.Lines.sees c.release_one.new.lines) p.0 c.in-Some.note p.2 c.release_one.ensures.releases,
        posts_note p.0 c.in-Some.note c.args.seats.now c.loop-note.seats c.release_one.new.seats p.3 c.release_one.ensures.posts,
      );
    }
