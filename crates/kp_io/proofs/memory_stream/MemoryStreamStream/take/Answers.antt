use Rattle.std.proofs.Common.{rules, ◌≡◌, ◌+◌, ℕ, List, [], ◌∷◌, ◌++◌, length, drop, sym, ap, ◌∙◌, arith}
use Rattle.std.proofs.lemmas.List.{drop-drop}
use Rattle.kp_io.specs.Streams.{Flow, Piece, left_of, piece_of, pieces_of, size_of}
use Rattle.kp_io.proofs.Pieces.{left_more, pieces_more}
use Rattle.kp_io.proofs.memory_stream.MemoryStreamStream.take.Goals as goal

pub invariant_of-self-2 : goal.invariant_of-self-2
invariant_of-self-2 c =
    let t = c.next_took-took.result in
    let bytes = c.self.inside.bytes.items in
    let kept : c.push.new.self.items ≡ c.self.inside.given.items ++ t ∷ [] = search rules in
    let count : c.give.result ≡ size_of t = c.give.ensures.count in (
      search rules,
      c.self.invariant.1,
      ap (λ (l : List _). left_of bytes l) kept ∙ left_more bytes c.self.inside.given.items t ∙ ap (λ (l : List ℕ). drop (size_of t) l) c.self.invariant.2
          ∙ drop-drop (size_of t) c.self.inside.at bytes ∙ ap (λ (n : ℕ). drop (c.self.inside.at + n) bytes) (sym count),
    )

pub returns-clause-told : goal.returns-clause-told
returns-clause-told c =
    let t = c.next_took-took.result in
    let bytes = c.self.inside.bytes.items in
    let kept : c.push.new.self.items ≡ c.self.inside.given.items ++ t ∷ [] = search rules in
    let same : piece_of t (left_of bytes c.self.inside.given.items) ≡ piece_of t c.give.new.into = ap (λ (l : List ℕ). piece_of t l) c.self.invariant.2 ∙ search rules in
    ap (λ (l : List _). pieces_of bytes l) kept ∙ pieces_more bytes c.self.inside.given.items t
    ∙ ap (λ (l : List Piece). l ++ piece_of t (left_of bytes c.self.inside.given.items) ∷ []) (ap (λ (f : Flow). f.told) c.self.view_is)
    ∙ ap (λ (p : Piece). c.args.self.now.told ++ p ∷ []) same

pub returns-clause-later : goal.returns-clause-later
returns-clause-later c = rw (← c.self.view_is) (search rules)
