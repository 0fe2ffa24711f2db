use Rattle.std.proofs.Common.{ap, sym, ◌∙◌, arith, ◌≡◌, ◌-◌, ◌<◌, ◌≤◌, length, take, drop, Some, List, ℕ}
use Rattle.std.specs.Prelude.{slice_get}
use Rattle.std.proofs.lemmas.Option.{slice_get_past}
use Rattle.kp_entry.specs.Pieces.{Texts, pieces, begin_of}
use Rattle.kp_entry.proofs.Cuts.{found, pieces_len}
use Rattle.kp_entry.proofs.pieces.Pieces.get.Goals as goal

pub cut-requires-clause-from : goal.cut-requires-clause-from
cut-requires-clause-from c =
    let count : length (pieces 0 c.self.inside.bytes.items c.self.inside.ends.items) ≡ length c.self.inside.ends.items = pieces_len 0 c.self.inside.bytes.items c.self.inside.ends.items in
    let len : length c.deref.result.now ≡ length c.self.inside.ends.items = ap (λ (x : List ℕ). length x) c.deref.ensures.value in
    let lt : c.args.index < length (pieces 0 c.self.inside.bytes.items c.self.inside.ends.items) = omega (arith, count, len, c.deref.ensures.len, c.len.ensures, c.if-index-len.true) in
    (found c.self.inside.bytes.items c.self.inside.ends.items (pieces 0 c.self.inside.bytes.items c.self.inside.ends.items) c.args.index c.begin_of-start.result c.index-end.result.now c.self.invariant lt (c.begin_of-start.ensures ∙ ap (λ (x : List ℕ). begin_of x c.args.index) c.deref.ensures.value) c.index-end.ensures).1

pub cut-requires-clause-to : goal.cut-requires-clause-to
cut-requires-clause-to c =
    let count : length (pieces 0 c.self.inside.bytes.items c.self.inside.ends.items) ≡ length c.self.inside.ends.items = pieces_len 0 c.self.inside.bytes.items c.self.inside.ends.items in
    let len : length c.deref.result.now ≡ length c.self.inside.ends.items = ap (λ (x : List ℕ). length x) c.deref.ensures.value in
    let lt : c.args.index < length (pieces 0 c.self.inside.bytes.items c.self.inside.ends.items) = omega (arith, count, len, c.deref.ensures.len, c.len.ensures, c.if-index-len.true) in
    let within : c.index-end.result.now ≤ length c.self.inside.bytes.items = (found c.self.inside.bytes.items c.self.inside.ends.items (pieces 0 c.self.inside.bytes.items c.self.inside.ends.items) c.args.index c.begin_of-start.result c.index-end.result.now c.self.invariant lt (c.begin_of-start.ensures ∙ ap (λ (x : List ℕ). begin_of x c.args.index) c.deref.ensures.value) c.index-end.ensures).2 in
    omega (arith, within, ap (λ (x : List ℕ). length x) c.deref-then-index-len.ensures.value)

pub returns-then-index-len : goal.returns-then-index-len
returns-then-index-len c =
    let count : length (pieces 0 c.self.inside.bytes.items c.self.inside.ends.items) ≡ length c.self.inside.ends.items = pieces_len 0 c.self.inside.bytes.items c.self.inside.ends.items in
    let len : length c.deref.result.now ≡ length c.self.inside.ends.items = ap (λ (x : List ℕ). length x) c.deref.ensures.value in
    let lt : c.args.index < length (pieces 0 c.self.inside.bytes.items c.self.inside.ends.items) = omega (arith, count, len, c.deref.ensures.len, c.len.ensures, c.if-index-len.true) in
    let f = found c.self.inside.bytes.items c.self.inside.ends.items (pieces 0 c.self.inside.bytes.items c.self.inside.ends.items) c.args.index c.begin_of-start.result c.index-end.result.now c.self.invariant lt (c.begin_of-start.ensures ∙ ap (λ (x : List ℕ). begin_of x c.args.index) c.deref.ensures.value) c.index-end.ensures in
    ap Some (c.cut.ensures ∙ ap (λ (x : List ℕ). take (c.index-end.result.now - c.begin_of-start.result) (drop c.begin_of-start.result x)) c.deref-then-index-len.ensures.value) ∙ sym f.0 ∙ ap (λ (t : Texts). slice_get t.strings c.args.index) c.self.view_is

pub returns-else-index-len : goal.returns-else-index-len
returns-else-index-len c =
    let count : length (pieces 0 c.self.inside.bytes.items c.self.inside.ends.items) ≡ length c.self.inside.ends.items = pieces_len 0 c.self.inside.bytes.items c.self.inside.ends.items in
    let same : length (pieces 0 c.self.inside.bytes.items c.self.inside.ends.items) ≡ length c.args.self.now.strings = ap (λ (t : Texts). length t.strings) c.self.view_is in
    let past : length c.args.self.now.strings ≤ c.args.index = omega (arith, count, same, c.len.ensures, c.if-index-len.false) in
    sym (slice_get_past c.args.self.now.strings c.args.index past)
