-- What a line answers that is asked for what comes next (this project's own).
use Rattle.std.specs.Prelude.{◌≡◌, ◌∷◌, [], ℕ, List, Option, Some, None, Result, Ok, Err}
use Rattle.kp_io.specs.declared.stream.Took.{Took}
use Rattle.kp_io.specs.Streams.{Piece, Tells, piece_of}
use Rattle.kp_io.specs.Faults.{one_more}
use Rattle.kp_outlet.specs.declared.outlet.OutletEnd.{OutletEnd}
use Rattle.kp_reactor.specs.declared.line.LineEnd.{LineEnd}
use Rattle.kp_reactor.specs.declared.line.LineEnd.TheVariants as end

module _ {R : Type 0} where
  -- the stream was asked once: it gave this answer, or it failed and told of none
  abbrev pub Asks : (R → Option (List Piece)) → (R → ℕ) → R → R → Result Took LineEnd → List ℕ → Type 0
  Asks told faults r r' (Ok t) into = Tells (told r) (told r') (piece_of t into ∷ []) × (faults r' ≡ faults r)
  Asks told faults r r' (Err end.Stream) into = Tells (told r) (told r') [] × (faults r' ≡ one_more (faults r))
  Asks told faults r r' (Err (end.Outlet e)) into = ⊥

  -- the stream was asked, or, where nothing goes out any more, nobody
  abbrev pub LineTakes : (R → Option (List Piece)) → (R → ℕ) → Option OutletEnd → R → R → Result Took LineEnd → List ℕ → Type 0
  LineTakes told faults None r r' result into = Asks told faults r r' result into
  LineTakes told faults (Some e) r r' result into = (result ≡ Err (end.Outlet e)) × (r' ≡ r)
