-- Runs of spans: where each lies, and what stays of its bytes when the window changes.
use Rattle.std.proofs.Common.{◌≡◌, ℕ, zero, suc, ◌+◌, ◌-◌, ◌≤◌, List, [], ◌∷◌, ◌++◌, length, take, drop, map, refl, sym, ◌∙◌, ap, subst, arith, Option, Some, slice_get}
use Rattle.std.specs.List.{flat_map}
use Rattle.std.proofs.lemmas.List.{drop-drop, drop-map, drop-take, drop_all, length-drop, take-append-drop}
use Rattle.std.proofs.Math.Seq.{take-append_seam, take-take, take-add, drop-append_seam, take-length}
use Rattle.kp_region.specs.declared.region.Span.{Span}
use Rattle.kp_region.specs.Spans.{bytes_of, start_or, IsRun}

pub run_le : (a : ℕ) (ss : List Span) (e : ℕ) → IsRun a ss e → a ≤ e
run_le a [] e h = omega (arith, h)
run_le a (s ∷ ss) e h = let on : a + s.len ≤ e = run_le (a + s.len) ss e h.1 in omega (arith, on)

-- a span at the end
pub run_push : (a : ℕ) (ss : List Span) (e : ℕ) (s : Span) → s.start ≡ e → IsRun a ss e → IsRun a (ss ++ s ∷ []) (e + s.len)
run_push a [] e s p h = (p ∙ sym h, ap (λ x. x + s.len) h)
run_push a (t ∷ ss) e s p h = (h.0, run_push (a + t.len) ss e s p h.1)

-- without the span at the end
pub run_cut : (a : ℕ) (ss : List Span) (e : ℕ) (s : Span) → IsRun a (ss ++ s ∷ []) e → IsRun a ss s.start × (s.start + s.len ≡ e)
run_cut a [] e s h = (sym h.0, ap (λ x. x + s.len) h.0 ∙ h.1)
run_cut a (t ∷ ss) e s h = let r = run_cut (a + t.len) ss e s h.1 in ((h.0, r.0), r.1)

-- each span lies between the ends
pub run_at : (a : ℕ) (ss : List Span) (e i : ℕ) (s : Span) → IsRun a ss e → slice_get ss i ≡ Some s → (a ≤ s.start) × (s.start + s.len ≤ e)
run_at a [] e i s h g = absurd (cc g)
run_at a (t ∷ ss) e zero s h g =
    let same : t ≡ s = cc g in
    let on : a + t.len ≤ e = run_le (a + t.len) ss e h.1 in
    let at : t.start ≡ a = h.0 in
    let here : (a ≤ t.start) × (t.start + t.len ≤ e) = (omega (arith, at), omega (arith, at, on)) in
    subst (λ (x : Span). (a ≤ x.start) × (x.start + x.len ≤ e)) same here
run_at a (t ∷ ss) e (suc i) s h g = let r = run_at (a + t.len) ss e i s h.1 g in (omega (arith, r.0), r.1)

-- the bytes of a span in a window that is cut behind it
part_of_take : (p n k : ℕ) (bytes : List ℕ) → p + n ≤ k → take n (drop p (take k bytes)) ≡ take n (drop p bytes)
part_of_take p n k bytes le =
    let e : k ≡ p + (k - p) = omega (arith, le) in
    let fits : n ≤ k - p = omega (arith, le) in
    ap (λ m. take n (drop p (take m bytes))) e ∙ ap (take n) (drop-take p (k - p) bytes) ∙ take-take n (k - p) (drop p bytes) fits

pub texts_cut : (a : ℕ) (ss : List Span) (e start k : ℕ) (bytes : List ℕ) → start ≤ a → IsRun a ss e → e ≤ start + k → map (bytes_of start (take k bytes)) ss ≡ map (bytes_of start bytes) ss
texts_cut a [] e start k bytes le h fits = refl
texts_cut a (s ∷ ss) e start k bytes le h fits =
    let on : a + s.len ≤ e = run_le (a + s.len) ss e h.1 in
    let at : s.start ≡ a = h.0 in
    let within : (s.start - start) + s.len ≤ k = omega (arith, on, at, le, fits) in
    let later : start ≤ a + s.len = omega (arith, le) in
    λ i. part_of_take (s.start - start) s.len k bytes within i ∷ texts_cut (a + s.len) ss e start k bytes later h.1 fits i

-- the bytes of the spans in a window that goes on
pub texts_more : (a : ℕ) (ss : List Span) (bytes more : List ℕ) → IsRun a ss (a + length bytes) → map (bytes_of a (bytes ++ more)) ss ≡ map (bytes_of a bytes) ss
texts_more a ss bytes more h =
    let le : a ≤ a = omega arith in
    let fits : a + length bytes ≤ a + length bytes = omega arith in
    sym (texts_cut a ss (a + length bytes) a (length bytes) (bytes ++ more) le h fits) ∙ ap (λ l. map (bytes_of a l) ss) (take-append_seam bytes more)

-- the bytes of the spans in a window that has lost its first bytes
pub texts_moved : (a : ℕ) (ss : List Span) (e start n : ℕ) (bytes : List ℕ) → start + n ≤ a → IsRun a ss e → map (bytes_of (start + n) (drop n bytes)) ss ≡ map (bytes_of start bytes) ss
texts_moved a [] e start n bytes le h = refl
texts_moved a (s ∷ ss) e start n bytes le h =
    let at : s.start ≡ a = h.0 in
    let on : n + (s.start - (start + n)) ≡ s.start - start = omega (arith, at, le) in
    let later : start + n ≤ a + s.len = omega (arith, le) in
    λ i. take s.len ((drop-drop (s.start - (start + n)) n bytes ∙ ap (λ m. drop m bytes) on) i) ∷ texts_moved (a + s.len) ss e start n bytes later h.1 i

-- the bytes of a span at the end of the window
pub text_last : (a : ℕ) (s : Span) (bytes more : List ℕ) → s.start ≡ a + length bytes → s.len ≡ length more → bytes_of a (bytes ++ more) s ≡ more
text_last a s bytes more p q =
    let on : s.start - a ≡ length bytes = omega (arith, p) in
    ap (λ m. take s.len (drop m (bytes ++ more))) on ∙ ap (take s.len) (drop-append_seam bytes more) ∙ ap (λ m. take m more) q ∙ take-length more

-- a run, at equal ends and of an equal list
pub run_along : (a b : ℕ) (ss ts : List Span) (e f : ℕ) → a ≡ b → ss ≡ ts → e ≡ f → IsRun a ss e → IsRun b ts f
run_along a b ss ts e f p q r h = subst (λ (x : ℕ). IsRun x ts f) p (subst (λ (x : List Span). IsRun a x f) q (subst (λ (x : ℕ). IsRun a ss x) r h))

-- the strings of a run, one behind the other, are the bytes that it covers
pub joined : (start a : ℕ) (ss : List Span) (e : ℕ) (bytes : List ℕ) → start ≤ a → e ≡ start + length bytes → IsRun a ss e → flat_map (λ s. s) (map (bytes_of start bytes) ss) ≡ drop (a - start) bytes
joined start a [] e bytes le end h =
    let all : length bytes ≤ a - start = omega (arith, end, h) in
    sym (drop_all (a - start) bytes all)
joined start a (s ∷ ss) e bytes le end h =
    let at : s.start - start ≡ a - start = ap (λ x. x - start) h.0 in
    let later : start ≤ a + s.len = omega (arith, le) in
    let on : (a - start) + s.len ≡ (a + s.len) - start = omega (arith, le) in
    (λ i. take s.len (drop (at i) bytes) ++ joined start (a + s.len) ss e bytes later end h.1 i)
    ∙ ap (λ n. take s.len (drop (a - start) bytes) ++ drop n bytes) (sym on)
    ∙ ap (λ l. take s.len (drop (a - start) bytes) ++ l) (sym (drop-drop s.len (a - start) bytes) ∙ λ i. drop s.len (drop (a - start) bytes))
    ∙ take-append-drop s.len (drop (a - start) bytes)

-- ---- adjacent strings

-- a run from one of its spans on
pub run_from : (a : ℕ) (ss : List Span) (e i : ℕ) → i ≤ length ss → IsRun a ss e → IsRun (start_or e (slice_get ss i)) (drop i ss) e
run_from a [] e zero le h = refl
run_from a (s ∷ ss) e zero le h = (refl, subst (λ (x : ℕ). IsRun (x + s.len) ss e) (sym h.0) h.1)
run_from a [] e (suc i) le h = refl
run_from a (s ∷ ss) e (suc i) le h = run_from (a + s.len) ss e i (omega (arith, le)) h.1

-- each span begins within the run
pub begins_within : (a : ℕ) (ss : List Span) (e i : ℕ) → i ≤ length ss → IsRun a ss e → (a ≤ start_or e (slice_get ss i)) × (start_or e (slice_get ss i) ≤ e)
begins_within a [] e zero le h = (omega (arith, h), omega arith)
begins_within a (s ∷ ss) e zero le h = let on : a ≤ e = run_le a (s ∷ ss) e h in (omega (arith, h.0), omega (arith, h.0, on))
begins_within a [] e (suc i) le h = (omega (arith, h), omega arith)
begins_within a (s ∷ ss) e (suc i) le h = let r = begins_within (a + s.len) ss e i (omega (arith, le)) h.1 in (omega (arith, r.0), r.1)

-- the first strings of a run, one behind the other
first_joined : (start a : ℕ) (ss : List Span) (e n : ℕ) (bytes : List ℕ) → start ≤ a → n ≤ length ss → IsRun a ss e → flat_map (λ s. s) (take n (map (bytes_of start bytes) ss)) ≡ take (start_or e (slice_get ss n) - a) (drop (a - start) bytes)
first_joined start a [] e zero bytes le few h = let none : e - a ≡ 0 = omega (arith, h) in ap (λ n. take n (drop (a - start) bytes)) (sym none)
first_joined start a (s ∷ ss) e zero bytes le few h = let none : s.start - a ≡ 0 = omega (arith, h.0) in ap (λ n. take n (drop (a - start) bytes)) (sym none)
first_joined start a [] e (suc n) bytes le few h = absurd (omega (arith, few))
first_joined start a (s ∷ ss) e (suc n) bytes le few h =
    let less : n ≤ length ss = omega (arith, few) in
    let later : start ≤ a + s.len = omega (arith, le) in
    let at : s.start - start ≡ a - start = ap (λ x. x - start) h.0 in
    let on : (a - start) + s.len ≡ (a + s.len) - start = omega (arith, le) in
    let rest = first_joined start (a + s.len) ss e n bytes later less h.1 in
    let within = begins_within (a + s.len) ss e n less h.1 in
    let all : s.len + (start_or e (slice_get ss n) - (a + s.len)) ≡ start_or e (slice_get ss n) - a = omega (arith, within.0) in
    (λ i. take s.len (drop (at i) bytes) ++ rest i)
    ∙ ap (λ l. take s.len (drop (a - start) bytes) ++ take (start_or e (slice_get ss n) - (a + s.len)) l) (sym (drop-drop s.len (a - start) bytes ∙ ap (λ m. drop m bytes) on))
    ∙ sym (take-add s.len (start_or e (slice_get ss n) - (a + s.len)) (drop (a - start) bytes))
    ∙ ap (λ n. take n (drop (a - start) bytes)) all

get_behind : (i n : ℕ) (ss : List Span) → slice_get (drop i ss) n ≡ slice_get ss (i + n)
get_behind zero n ss = let same : n ≡ 0 + n = omega arith in ap (slice_get ss) same
get_behind (suc i) n [] = refl
get_behind (suc i) n (s ∷ ss) = let next : suc (i + n) ≡ suc i + n = omega arith in get_behind i n ss ∙ ap (slice_get (s ∷ ss)) next

-- a later span begins no earlier
pub begins_rise : (a : ℕ) (ss : List Span) (e i n : ℕ) → i + n ≤ length ss → IsRun a ss e → start_or e (slice_get ss i) ≤ start_or e (slice_get ss (i + n))
begins_rise a ss e i n fits h =
    let le : i ≤ length ss = omega (arith, fits) in
    let few : n ≤ length (drop i ss) = omega (arith, length-drop i ss, fits) in
    let within = begins_within (start_or e (slice_get ss i)) (drop i ss) e n few (run_from a ss e i le h) in
    subst (λ (o : Option Span). start_or e (slice_get ss i) ≤ start_or e o) (get_behind i n ss) within.0

-- adjacent strings of a run, one behind the other
pub part_joined : (a : ℕ) (ss : List Span) (e i n : ℕ) (bytes : List ℕ) → i + n ≤ length ss → IsRun a ss e → flat_map (λ s. s) (take n (drop i (map (bytes_of a bytes) ss))) ≡ take (start_or e (slice_get ss (i + n)) - start_or e (slice_get ss i)) (drop (start_or e (slice_get ss i) - a) bytes)
part_joined a ss e i n bytes fits h =
    let le : i ≤ length ss = omega (arith, fits) in
    let few : n ≤ length (drop i ss) = omega (arith, length-drop i ss, fits) in
    let within = begins_within a ss e i le h in
    (λ k. flat_map (λ s. s) (take n (drop-map (bytes_of a bytes) i ss k)))
    ∙ first_joined a (start_or e (slice_get ss i)) (drop i ss) e n bytes within.0 few (run_from a ss e i le h)
    ∙ ap (λ o. take (start_or e o - start_or e (slice_get ss i)) (drop (start_or e (slice_get ss i) - a) bytes)) (get_behind i n ss)
