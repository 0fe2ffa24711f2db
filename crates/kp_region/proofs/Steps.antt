-- What each change of the parts of a region makes of what a caller sees, and that they go on holding together.
use Rattle.std.proofs.Common.{◌≡◌, ℕ, suc, ◌+◌, ◌-◌, ◌≤◌, List, [], ◌∷◌, ◌++◌, length, take, drop, map, min, refl, sym, ◌∙◌, ap, arith, length-append, Option, Some, None, option_map, slice_get, nat_lt, Bool, false, if◌then◌else◌}
use Rattle.std.specs.List.{flat_map}
use Rattle.std.proofs.lemmas.List.{map-append, length-map, length-drop, length-take-le}
use Rattle.std.proofs.lemmas.Bool.{le-ltb}
use Rattle.std.proofs.lemmas.Option.{slice_get-map}
use Rattle.std.proofs.Math.Seq.{take-append_seam}
use Rattle.kp_region.specs.declared.region.Span.{Span}
use Rattle.kp_region.specs.Marked.{Marked, with_string, without_first, without_last, string_at, run_at}
use Rattle.kp_region.specs.Spans.{bytes_of, shown, IsRun, HoldsTogether}
use Rattle.kp_region.specs.Stretch.{Stretch, end_of}
use Rattle.kp_region.proofs.Runs.{run_le, run_push, run_cut, run_along, texts_cut, texts_more, texts_moved, text_last}

-- what a caller sees at equal lists of strings
seen_along : (first records bytes : ℕ) (xs ys : List (List ℕ)) → xs ≡ ys → let before : Marked = record { first = first; strings = xs; spare_records = records; spare_bytes = bytes } in let after : Marked = record { first = first; strings = ys; spare_records = records; spare_bytes = bytes } in before ≡ after
seen_along first records bytes xs ys e = ap (λ (l : List (List ℕ)). record { first = first; strings = l; spare_records = records; spare_bytes = bytes }) e

-- the strings of spans in an equal window
strings_along : (w v : Stretch) (start : ℕ) (bytes : List ℕ) (ss ts : List Span) → v.start ≡ start → v.bytes ≡ bytes → ts ≡ ss → map (bytes_of v.start v.bytes) ts ≡ map (bytes_of start bytes) ss
strings_along w v start bytes ss ts p q r = λ i. map (bytes_of (p i) (q i)) (r i)

-- ---- a push

module _ (w v : Stretch) (ss ts : List Span) (s : Span) (more : List ℕ) (start_is : v.start ≡ w.start) (bytes_is : v.bytes ≡ w.bytes ++ more) (spans_is : ts ≡ ss ++ s ∷ []) (at : s.start ≡ end_of w) (len : s.len ≡ length more) where
  longer : length v.bytes ≡ length w.bytes + length more
  longer = ap length bytes_is ∙ length-append w.bytes more

  pub pushed : (first records bytes : ℕ) → IsRun w.start ss (end_of w) → shown v ts first (records - 1) (bytes - length more) ≡ with_string (shown w ss first records bytes) more
  pushed first records bytes h =
      let last : bytes_of w.start (w.bytes ++ more) s ≡ more = text_last w.start s w.bytes more at len in
      let texts : map (bytes_of w.start (w.bytes ++ more)) ss ≡ map (bytes_of w.start w.bytes) ss = texts_more w.start ss w.bytes more h in
      seen_along first (records - 1) (bytes - length more) _ _ (strings_along w v w.start (w.bytes ++ more) (ss ++ s ∷ []) ts start_is bytes_is spans_is ∙ map-append (bytes_of w.start (w.bytes ++ more)) ss (s ∷ []) ∙ (λ i. texts i ++ last i ∷ []))

  pub pushed_holds : (first records bytes room next : ℕ) → HoldsTogether w ss first records bytes room → 1 ≤ records → length more ≤ bytes → room ≤ next + 1 → w.room - length more ≤ v.room → HoldsTogether v ts first (records - 1) (bytes - length more) next
  pushed_holds first records bytes room next h some fits less room_is = record {
    run = run_along w.start v.start (ss ++ s ∷ []) ts (end_of w + s.len) (end_of v) (sym start_is) (sym spans_is) (omega (arith, longer, start_is, len)) (run_push w.start ss (end_of w) s at h.run);
    records_fit = omega (arith, h.records_fit, some, less);
    bytes_fit = omega (arith, h.bytes_fit, fits, room_is);
    begins = h.begins;
    marks_fit = let n : length ts ≡ length ss + 1 = ap length spans_is ∙ length-append ss (s ∷ []) in omega (arith, h.marks_fit, n, some);
    places_fit = omega (arith, h.places_fit, longer, start_is, fits);
  }

-- ---- a pop at the front

run_behind : (w : Stretch) (ss ts : List Span) (s : Span) → ss ≡ s ∷ ts → IsRun w.start ss (end_of w) → IsRun (w.start + s.len) ts (end_of w)
run_behind w ss ts s spans_is h = let r : IsRun w.start (s ∷ ts) (end_of w) = run_along w.start w.start ss (s ∷ ts) (end_of w) (end_of w) refl spans_is refl h in r.1

pub front_fits : (w : Stretch) (ss ts : List Span) (s : Span) → ss ≡ s ∷ ts → IsRun w.start ss (end_of w) → s.len ≤ length w.bytes
front_fits w ss ts s spans_is h = let on : w.start + s.len ≤ end_of w = run_le (w.start + s.len) ts (end_of w) (run_behind w ss ts s spans_is h) in omega (arith, on)

module _ (w v : Stretch) (ss ts : List Span) (s : Span) (start_is : v.start ≡ w.start + s.len) (bytes_is : v.bytes ≡ drop s.len w.bytes) (spans_is : ss ≡ s ∷ ts) where
  pub popped_front : (first records bytes : ℕ) → IsRun w.start ss (end_of w) → shown v ts (first + 1) records bytes ≡ without_first (shown w ss first records bytes)
  popped_front first records bytes h =
      let moved : map (bytes_of (w.start + s.len) (drop s.len w.bytes)) ts ≡ map (bytes_of w.start w.bytes) ts = texts_moved (w.start + s.len) ts (end_of w) w.start s.len w.bytes (omega arith) (run_behind w ss ts s spans_is h) in
      let some : suc (length (map (bytes_of w.start w.bytes) ts)) ≡ length (map (bytes_of w.start w.bytes) ss) = λ i. length (map (bytes_of w.start w.bytes) (sym spans_is i)) in
      let mark : first + 1 ≡ first + min 1 (length (map (bytes_of w.start w.bytes) ss)) = omega (arith, some) in
      let strings : map (bytes_of v.start v.bytes) ts ≡ drop 1 (map (bytes_of w.start w.bytes) ss) = strings_along w v (w.start + s.len) (drop s.len w.bytes) ts ts start_is bytes_is refl ∙ moved ∙ (λ i. drop 1 (map (bytes_of w.start w.bytes) (sym spans_is i))) in
      λ i. record { first = mark i; strings = strings i; spare_records = records; spare_bytes = bytes }

  pub popped_front_holds : (first records bytes room next : ℕ) → HoldsTogether w ss first records bytes room → room ≤ next → v.room ≡ w.room → HoldsTogether v ts (first + 1) records bytes next
  popped_front_holds first records bytes room next h more room_is =
      let shorter : length v.bytes ≡ length w.bytes - s.len = ap length bytes_is ∙ length-drop s.len w.bytes in
      let fits : s.len ≤ length w.bytes = front_fits w ss ts s spans_is h.run in
      let n : length ss ≡ suc (length ts) = ap length spans_is in
      record {
        run = run_along (w.start + s.len) v.start ts ts (end_of w) (end_of v) (sym start_is) refl (omega (arith, shorter, start_is, fits)) (run_behind w ss ts s spans_is h.run);
        records_fit = omega (arith, h.records_fit, more);
        bytes_fit = omega (arith, h.bytes_fit, room_is);
        begins = omega (arith, h.begins);
        marks_fit = omega (arith, h.marks_fit, n);
        places_fit = omega (arith, h.places_fit, shorter, start_is, fits);
      }

-- ---- a pop at the back

cut_at : (w : Stretch) (ss ts : List Span) (s : Span) → ss ≡ ts ++ s ∷ [] → IsRun w.start ss (end_of w) → IsRun w.start ts s.start × (s.start + s.len ≡ end_of w)
cut_at w ss ts s spans_is h = run_cut w.start ts (end_of w) s (run_along w.start w.start ss (ts ++ s ∷ []) (end_of w) (end_of w) refl spans_is refl h)

pub back_fits : (w : Stretch) (ss ts : List Span) (s : Span) → ss ≡ ts ++ s ∷ [] → IsRun w.start ss (end_of w) → s.len ≤ length w.bytes
back_fits w ss ts s spans_is h =
    let r : IsRun w.start ts s.start × (s.start + s.len ≡ end_of w) = cut_at w ss ts s spans_is h in
    let on : w.start ≤ s.start = run_le w.start ts s.start r.0 in
    omega (arith, on, r.1)

module _ (w v : Stretch) (ss ts : List Span) (s : Span) (start_is : v.start ≡ w.start) (bytes_is : v.bytes ≡ take (length w.bytes - s.len) w.bytes) (spans_is : ss ≡ ts ++ s ∷ []) where
  pub popped_back : (first records bytes : ℕ) → IsRun w.start ss (end_of w) → shown v ts first records bytes ≡ without_last (shown w ss first records bytes)
  popped_back first records bytes h =
      let f : Span → List ℕ = bytes_of w.start w.bytes in
      let r : IsRun w.start ts s.start × (s.start + s.len ≡ end_of w) = cut_at w ss ts s spans_is h in
      let kept : map (bytes_of w.start (take (length w.bytes - s.len) w.bytes)) ts ≡ map (bytes_of w.start w.bytes) ts = texts_cut w.start ts s.start w.start (length w.bytes - s.len) w.bytes (omega arith) r.0 (omega (arith, r.1)) in
      let whole : map (bytes_of w.start w.bytes) ss ≡ map (bytes_of w.start w.bytes) ts ++ bytes_of w.start w.bytes s ∷ [] = ap (map (bytes_of w.start w.bytes)) spans_is ∙ map-append (bytes_of w.start w.bytes) ts (s ∷ []) in
      let n : length (map (bytes_of w.start w.bytes) ss) - 1 ≡ length (map (bytes_of w.start w.bytes) ts) = omega (arith, ap length whole, length-append (map (bytes_of w.start w.bytes) ts) (bytes_of w.start w.bytes s ∷ [])) in
      let back : take (length (map (bytes_of w.start w.bytes) ss) - 1) (map (bytes_of w.start w.bytes) ss) ≡ map (bytes_of w.start w.bytes) ts = (λ i. take (n i) (whole i)) ∙ take-append_seam (map (bytes_of w.start w.bytes) ts) (bytes_of w.start w.bytes s ∷ []) in
      seen_along first records bytes _ _ (strings_along w v w.start (take (length w.bytes - s.len) w.bytes) ts ts start_is bytes_is refl ∙ kept ∙ sym back)

  pub popped_back_holds : (first records bytes room next : ℕ) → HoldsTogether w ss first records bytes room → room ≤ next → w.room ≤ v.room → HoldsTogether v ts first records bytes next
  popped_back_holds first records bytes room next h more room_is =
      let fits : s.len ≤ length w.bytes = back_fits w ss ts s spans_is h.run in
      let shorter : length v.bytes ≡ length w.bytes - s.len = ap length bytes_is ∙ length-take-le (length w.bytes - s.len) w.bytes (omega arith) in
      let r : IsRun w.start ts s.start × (s.start + s.len ≡ end_of w) = cut_at w ss ts s spans_is h.run in
      let n : length ss ≡ length ts + 1 = ap length spans_is ∙ length-append ts (s ∷ []) in
      record {
        run = run_along w.start v.start ts ts s.start (end_of v) (sym start_is) refl (omega (arith, shorter, start_is, fits, r.1)) r.0;
        records_fit = omega (arith, h.records_fit, more);
        bytes_fit = omega (arith, h.bytes_fit, room_is);
        begins = h.begins;
        marks_fit = omega (arith, h.marks_fit, n);
        places_fit = omega (arith, h.places_fit, shorter, start_is, fits);
      }

-- ---- a look

-- the string of a mark from the first on
pub found : (w : Stretch) (ss : List Span) (first records bytes mark : ℕ) (o : Option Span) → first ≤ mark → o ≡ slice_get ss (mark - first) → option_map (bytes_of w.start w.bytes) o ≡ string_at (shown w ss first records bytes) mark
found w ss first records bytes mark o from e =
    let late : nat_lt mark first ≡ false = le-ltb mark first from in
    ap (option_map (bytes_of w.start w.bytes)) e ∙ sym (slice_get-map (bytes_of w.start w.bytes) ss (mark - first)) ∙ sym (ap (λ (b : Bool). if b then None else slice_get (map (bytes_of w.start w.bytes) ss) (mark - first)) late)

-- the strings of marks from the first on
pub lent : (w : Stretch) (ss : List Span) (first records bytes mark count : ℕ) → first ≤ mark → (mark - first) + count ≤ length ss → Some (flat_map (λ s. s) (take count (drop (mark - first) (map (bytes_of w.start w.bytes) ss)))) ≡ run_at (shown w ss first records bytes) mark count
lent w ss first records bytes mark count from fits =
    let texts : List (List ℕ) = map (bytes_of w.start w.bytes) ss in
    let late : nat_lt mark first ≡ false = le-ltb mark first from in
    let there : nat_lt (first + length texts) (mark + count) ≡ false = le-ltb (first + length texts) (mark + count) (omega (arith, from, fits, length-map ss (bytes_of w.start w.bytes))) in
    sym ((λ i. if late i then None else if nat_lt (first + length texts) (mark + count) then None else Some (flat_map (λ s. s) (take count (drop (mark - first) texts)))) ∙ ap (λ (b : Bool). if b then None else Some (flat_map (λ s. s) (take count (drop (mark - first) texts)))) there)
