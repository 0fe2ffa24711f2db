-- How the strings of a region lie in its window.
use Rattle.std.specs.Prelude.{◌≡◌, ℕ, ◌+◌, ◌-◌, ◌^◌, ◌≤◌, List, [], ◌∷◌, length, take, drop, map, Option, Some, None, slice_get}
use Rattle.kp_region.specs.declared.region.Span.{Span}
use Rattle.kp_region.specs.Stretch.{Stretch, end_of}
use Rattle.kp_region.specs.Marked.{Marked}

-- the bytes of the span, where the byte at the place start is the first of these
abbrev pub bytes_of : ℕ → List ℕ → Span → List ℕ
bytes_of start bytes span = take span.len (drop (span.start - start) bytes)

-- the strings that the spans cut from the window, with their marks and the room that is promised
abbrev pub shown : Stretch → List Span → ℕ → ℕ → ℕ → Marked
shown window spans first spare_records spare_bytes = record { first = first; strings = map (bytes_of window.start window.bytes) spans; spare_records = spare_records; spare_bytes = spare_bytes }

-- each span begins where the one before it ends, the first at the place start and the last ends at the place end
abbrev pub IsRun : ℕ → List Span → ℕ → Type 0
IsRun start [] end = start ≡ end
IsRun start (span ∷ spans) end = (span.start ≡ start) × IsRun (start + span.len) spans end

-- where a span begins, or where there is none, the place end
abbrev pub start_or : ℕ → Option Span → ℕ
start_or end None = end
start_or end (Some span) = span.start

-- where the span of this place in the list begins, or where there is none, where the window ends
abbrev pub begin_of : Stretch → List Span → ℕ → ℕ
begin_of window spans index = start_or (end_of window) (slice_get spans index)

-- what holds of the parts of a region
pub record HoldsTogether (window : Stretch) (spans : List Span) (first spare_records spare_bytes span_room : ℕ) : Type 0 where
  -- the spans cover the window
  pub run : IsRun window.start spans (end_of window)
  -- there is room for the spare records and bytes
  pub records_fit : spare_records ≤ span_room
  pub bytes_fit : spare_bytes ≤ window.room
  -- marks begin at 1, and neither marks nor places pass 2^62
  pub begins : 1 ≤ first
  pub marks_fit : first + length spans + spare_records ≤ 2 ^ 62 + 1
  pub places_fit : end_of window + spare_bytes ≤ 2 ^ 62
