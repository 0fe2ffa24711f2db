use Rattle.std.proofs.Common.{ap, sym, ◌∙◌, arith, ◌≡◌, ◌≤◌, length, take, List, ℕ}
use Rattle.kp_entry.specs.Pieces.{Texts, pieces, begin_of}
use Rattle.kp_entry.proofs.Cuts.{cut, is_of, holds, pieces_len}
use Rattle.kp_entry.proofs.pieces.Pieces.truncate.Goals as goal

pub begin_of-end-requires : goal.begin_of-end-requires
begin_of-end-requires c =
    let count : length (pieces 0 c.self.inside.bytes.items c.self.inside.ends.items) ≡ length c.self.inside.ends.items = pieces_len 0 c.self.inside.bytes.items c.self.inside.ends.items in
    let same : length (pieces 0 c.self.inside.bytes.items c.self.inside.ends.items) ≡ length c.args.self.now.strings = ap (λ (t : Texts). length t.strings) c.self.view_is in
    let len : length c.deref.result.now ≡ length c.self.inside.ends.items = ap (λ (x : List ℕ). length x) c.deref.ensures.value in
    omega (arith, count, same, len, c.requires)

pub invariant_of-self : goal.invariant_of-self
invariant_of-self c =
    let same : length (pieces 0 c.self.inside.bytes.items c.self.inside.ends.items) ≡ length c.args.self.now.strings = ap (λ (t : Texts). length t.strings) c.self.view_is in
    let all = cut c.self.inside.bytes.items c.self.inside.ends.items c.truncate.new.self.items c.truncate-2.new.self.items (pieces 0 c.self.inside.bytes.items c.self.inside.ends.items) c.args.count c.begin_of-end.result c.self.invariant (omega (arith, same, c.requires)) (c.begin_of-end.ensures ∙ ap (λ (x : List ℕ). begin_of x c.args.count) c.deref.ensures.value) c.truncate.ensures.items c.truncate-2.ensures.items in
    holds c.truncate.new.self.items c.truncate-2.new.self.items _ all

pub returns : goal.returns
returns c =
    let same : length (pieces 0 c.self.inside.bytes.items c.self.inside.ends.items) ≡ length c.args.self.now.strings = ap (λ (t : Texts). length t.strings) c.self.view_is in
    let all = cut c.self.inside.bytes.items c.self.inside.ends.items c.truncate.new.self.items c.truncate-2.new.self.items (pieces 0 c.self.inside.bytes.items c.self.inside.ends.items) c.args.count c.begin_of-end.result c.self.invariant (omega (arith, same, c.requires)) (c.begin_of-end.ensures ∙ ap (λ (x : List ℕ). begin_of x c.args.count) c.deref.ensures.value) c.truncate.ensures.items c.truncate-2.ensures.items in
    is_of c.truncate.new.self.items c.truncate-2.new.self.items _ all ∙ ap (λ (t : Texts). take c.args.count t.strings) c.self.view_is
