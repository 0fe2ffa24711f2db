use Rattle.std.proofs.Common.{ap, sym, ◌∙◌, ◌≡◌, ◌++◌, ◌∷◌, [], length, append_assoc, List, ℕ}
use Rattle.kp_entry.specs.Pieces.{Texts, pieces}
use Rattle.kp_entry.proofs.Cuts.{pushed, is_of, holds}
use Rattle.kp_entry.proofs.pieces.Pieces.push_reserved.Goals as goal

pub invariant_of-self : goal.invariant_of-self
invariant_of-self c =
    let added : c.add-2.new.bytes.items ≡ c.self.inside.bytes.items ++ (c.args.head.now ++ c.args.tail.now) = c.add-2.ensures.items ∙ ap (λ (x : List ℕ). x ++ c.args.tail.now) c.add.ensures.items ∙ append_assoc c.self.inside.bytes.items c.args.head.now c.args.tail.now in
    let all = pushed c.self.inside.bytes.items c.self.inside.ends.items c.add-2.new.bytes.items c.push_reserved.new.self.items (pieces 0 c.self.inside.bytes.items c.self.inside.ends.items) (c.args.head.now ++ c.args.tail.now) (length c.as_slice-end.result.now) c.self.invariant added c.push_reserved.ensures.items (ap (λ (x : List ℕ). length x) c.as_slice-end.ensures.value) in
    holds c.add-2.new.bytes.items c.push_reserved.new.self.items _ all

pub returns-clause-added : goal.returns-clause-added
returns-clause-added c =
    let added : c.add-2.new.bytes.items ≡ c.self.inside.bytes.items ++ (c.args.head.now ++ c.args.tail.now) = c.add-2.ensures.items ∙ ap (λ (x : List ℕ). x ++ c.args.tail.now) c.add.ensures.items ∙ append_assoc c.self.inside.bytes.items c.args.head.now c.args.tail.now in
    let all = pushed c.self.inside.bytes.items c.self.inside.ends.items c.add-2.new.bytes.items c.push_reserved.new.self.items (pieces 0 c.self.inside.bytes.items c.self.inside.ends.items) (c.args.head.now ++ c.args.tail.now) (length c.as_slice-end.result.now) c.self.invariant added c.push_reserved.ensures.items (ap (λ (x : List ℕ). length x) c.as_slice-end.ensures.value) in
    is_of c.add-2.new.bytes.items c.push_reserved.new.self.items _ all ∙ ap (λ (t : Texts). t.strings ++ (c.args.head.now ++ c.args.tail.now) ∷ []) c.self.view_is
