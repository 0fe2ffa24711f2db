use Rattle.std.proofs.Common.{ap, sym, ◌∙◌, ◌++◌, ◌∷◌, [], length, length-append, arith, List, ℕ}
use Rattle.kp_entry.proofs.Runs.{vote_string}
use Rattle.kp_entry.proofs.room.push_vote.Goals as goal

pub returns-clause-added : goal.returns-clause-added
returns-clause-added c =
    let is = vote_string c.head_of.result c.args.term c.args.vote c.head_of.ensures.bytes c.ranges.vote.fits in
    c.push_reserved.ensures.added ∙ ap (λ (x : List ℕ). c.args.pieces.now.strings ++ x ∷ []) is

pub returns-clause-len : goal.returns-clause-len
returns-clause-len c =
    let is = vote_string c.head_of.result c.args.term c.args.vote c.head_of.ensures.bytes c.ranges.vote.fits in
    sym (ap (λ (x : List ℕ). length x) is) ∙ omega (arith, length-append c.head_of.result (c.args.vote ∷ []), c.head_of.ensures.len)
