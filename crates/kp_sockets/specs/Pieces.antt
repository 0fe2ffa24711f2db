-- A piece of a line as bytes of its own (this project's own).
use Rattle.std.specs.Prelude.{◌≡◌, ◌⊎◌, ◌∷◌, [], ℕ, Bool, true, false, List, Option, Some, None, ⊤}
use Rattle.kp_io.specs.Streams.{Piece, Tells}
use Rattle.kp_io.specs.Streams as stream
use Rattle.kp_io.specs.Faults.{one_more}
use Rattle.kp_outlet.specs.declared.outlet.OutletEnd.{OutletEnd}
use Rattle.kp_worker.specs.declared.heard.Heard.{Heard}
use Rattle.kp_worker.specs.declared.heard.Heard.TheVariants as heard

-- these bytes were heard, or there was no memory for them
abbrev pub IsHeard : List ℕ → Heard → Type 0
IsHeard bytes (heard.Bytes b) = b ≡ bytes
IsHeard bytes heard.Later = ⊥
IsHeard bytes heard.End = ⊥
IsHeard bytes heard.Fault = ⊤

module _ {R : Type 0} where
  -- the stream of a line to which something may go out was asked once: it answered what was heard; a fault is its own, or there was
  -- no memory for the bytes that it gave
  abbrev pub Answers : (R → Option (List Piece)) → (R → ℕ) → R → R → Heard → Type 0
  Answers told faults r r' (heard.Bytes b) = Tells (told r) (told r') (stream.Bytes b ∷ []) × (faults r' ≡ faults r)
  Answers told faults r r' heard.Later = Tells (told r) (told r') (stream.Later ∷ []) × (faults r' ≡ faults r)
  Answers told faults r r' heard.End = Tells (told r) (told r') (stream.End ∷ []) × (faults r' ≡ faults r)
  Answers told faults r r' heard.Fault = (Tells (told r) (told r') [] × (faults r' ≡ one_more (faults r))) ⊎ ((b : List ℕ) × Tells (told r) (told r') (stream.Bytes b ∷ []) × (faults r' ≡ faults r))

  -- a line to which nothing goes out any more is told as a fault, and its stream isn't asked
  abbrev pub Hears : (R → Option (List Piece)) → (R → ℕ) → Option OutletEnd → R → R → Heard → Type 0
  Hears told faults None r r' h = Answers told faults r r' h
  Hears told faults (Some e) r r' h = (h ≡ heard.Fault) × (r' ≡ r)

abbrev pub one_where : Bool → ℕ
one_where true = 1
one_where false = 0
