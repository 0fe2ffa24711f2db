use Rattle.std.proofs.Common.{sym, ◌≤◌, ◌≡◌, subst, List, ℕ, length, take}
use Rattle.kp_model.specs.Path as paths
use Rattle.kp_snapshot.proofs.Parents.{parent_begins, in_root, some_is}
use Rattle.kp_snapshot.proofs.trail.parent_len.Goals as goal

pub returns-in-None-clause-begins : goal.returns-in-None-clause-begins
returns-in-None-clause-begins c = in_root c.args.path.now c.in-None.ensures

pub returns-in-Some-clause-within : goal.returns-in-Some-clause-within
returns-in-Some-clause-within c = subst (λ (q : List ℕ). length q ≤ length c.args.path.now) (sym (some_is c.args.path.now c.in-Some.up.now c.in-Some.ensures)) (parent_begins c.args.path.now c.requires).within

pub returns-in-Some-clause-begins : goal.returns-in-Some-clause-begins
returns-in-Some-clause-begins c = subst (λ (q : List ℕ). take (length q) c.args.path.now ≡ paths.parent c.args.path.now) (sym (some_is c.args.path.now c.in-Some.up.now c.in-Some.ensures)) (parent_begins c.args.path.now c.requires).is
