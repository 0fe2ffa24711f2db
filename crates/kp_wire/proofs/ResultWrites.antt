-- What is written for the results of a multi is their spelling.
use Rattle.std.proofs.Common.{◌≡◌, ℕ, ◌<◌, ℤ, pos, false, List, [], ◌∷◌, ◌++◌, length, Option, Some, None, option_map, refl, sym, ap, subst, ◌∙◌, append_assoc, arith}
use Rattle.std.specs.Prelude.{FitsSigned}
use Rattle.std.specs.Int.{w32}
use Rattle.std.specs.List.{flat_map}
use Rattle.std.proofs.lemmas.List.{append-nil}
use Rattle.std.proofs.lemmas.List.Concat.{flat_map-cons}
use Rattle.std.proofs.Math.Facts.{sfits_lit}
use Rattle.kp_jute.specs.Form.{Form, Wrote, tagged, spelled_if}
use Rattle.kp_jute.specs.Jute.{number, boolean, ints, booleans, untils}
use Rattle.kp_wire.specs.declared.result.OpResult.{OpResult}
use Rattle.kp_wire.specs.declared.op_kind.OpKind.{OpKind}
use Rattle.kp_wire.specs.declared.op_kind.OpKind.TheVariants as kinds
use Rattle.kp_wire.specs.declared.result.Lead.TheVariants as leads
use Rattle.kp_wire.specs.declared.result.Mark.TheVariants as marks
use Rattle.kp_wire.specs.OpKinds.{op_number, op_named}
use Rattle.kp_wire.specs.OpResults.{Answered, OpHeld, op_held, op_bodies, op_replies, op_rests, lead_named, all_marks, codes, result_marks, ResultHeld, result_rests, result_as, result_in, result_steps, failure_steps, mark_rests, begun_as, multis, held, failed}
use Rattle.kp_wire.specs.Partly.{fits_if}
use Rattle.kp_wire.proofs.ResultLaws.{op_own}

-- ---- one result

lead_own : (k : OpKind) → lead_named (op_number k) ≡ Some (leads.Listed k)
unfolding lead_named op_named
lead_own kinds.Create = refl
lead_own kinds.Delete = refl
lead_own kinds.SetData = refl
lead_own kinds.Check = refl
lead_own kinds.Create2 = refl

replies_fit : (k : OpKind) (r : OpResult) → (op_replies k).Fits r → fits_if (op_bodies k) (op_held k r)
replies_fit kinds.Create r fits = fits
replies_fit kinds.Delete r fits = fits
replies_fit kinds.SetData r fits = fits
replies_fit kinds.Check r fits = fits
replies_fit kinds.Create2 r fits = fits

replies_spelled : (k : OpKind) (r : OpResult) → (op_replies k).spell r ≡ spelled_if (op_bodies k) (op_held k r)
replies_spelled kinds.Create r = refl
replies_spelled kinds.Delete r = refl
replies_spelled kinds.SetData r = refl
replies_spelled kinds.Check r = refl
replies_spelled kinds.Create2 r = refl

zero_fits : FitsSigned w32 (pos 0)
zero_fits = sfits_lit tt

-- the mark and the numbers before an operation's reply
abbrev before : OpKind → List ℕ → List ℕ
before k body = number w32 (op_number k) ++ (boolean false ++ (number w32 (pos 0) ++ body))

result_written : (k : OpKind) (r : OpResult) (old new : List ℕ) (o : Option (OpHeld k)) → op_held k r ≡ o → fits_if (op_bodies k) o → FitsSigned w32 (op_number k) → new ≡ old ++ before k (spelled_if (op_bodies k) o) → Wrote result_steps (Some (op_number k, r)) old new
result_written k r old new None is fits number_fits added = absurd fits
result_written k r old new (Some h) is fits number_fits added =
    let form = tagged result_marks result_rests in
    let shown : result_in (Some (op_number k, r)) ≡ Some (Some k, h) = ap (λ (n : Option OpKind). result_as n r) (op_own k) ∙ ap (λ (o : Option (OpHeld k)). option_map (λ h. (Some k, h)) o) is in
    let whole : before k ((op_bodies k).spell h) ≡ form.spell (Some k, h) = ap (λ (u : List ℕ). u ++ (boolean false ++ (number w32 (pos 0) ++ (op_bodies k).spell h))) (sym (append-nil (number w32 (op_number k)))) in
    record {
      fits = subst (λ (o : Option ((o : Option OpKind) × ResultHeld o)). fits_if form o) (sym shown) (((((number_fits, lead_own k), tt), refl), ((tt, refl), ((zero_fits, refl), fits))));
      added = added ∙ ap (λ (u : List ℕ). old ++ u) (whole ∙ ap (λ (o : Option ((o : Option OpKind) × ResultHeld o)). spelled_if form o) (sym shown));
    }

pub wrote_result : (k : OpKind) (r : OpResult) (a b c d e : List ℕ) → Wrote ints (op_number k) a b → Wrote booleans false b c → Wrote ints (pos 0) c d → Wrote (op_replies k) r d e → Wrote result_steps (Some (op_number k, r)) a e
wrote_result k r a b c d e first flag zero body =
    let n = number w32 (op_number k) in
    let z = number w32 (pos 0) in
    let text = spelled_if (op_bodies k) (op_held k r) in
    let last : e ≡ d ++ text = body.added ∙ ap (λ (u : List ℕ). d ++ u) (replies_spelled k r) in
    let third : e ≡ c ++ (z ++ text) = last ∙ ap (λ (u : List ℕ). u ++ text) zero.added ∙ append_assoc c z text in
    let second : e ≡ b ++ (boolean false ++ (z ++ text)) = third ∙ ap (λ (u : List ℕ). u ++ (z ++ text)) flag.added ∙ append_assoc b (boolean false) (z ++ text) in
    let all : e ≡ a ++ before k text = second ∙ ap (λ (u : List ℕ). u ++ (boolean false ++ (z ++ text))) first.added ∙ append_assoc a n (boolean false ++ (z ++ text)) in
    result_written k r a e (op_held k r) refl (replies_fit k r body.fits) first.fits all

-- ---- all results

-- one value behind another, up to the end
abbrev more : {A : Type 0} → Form (Option A) → List A → List ℕ
more f xs = (untils f).spell xs

more_of : {A : Type 0} (f : Form (Option A)) (x : A) (xs : List A) → more f (x ∷ xs) ≡ f.spell (Some x) ++ more f xs
more_of f x xs = ap (λ (u : List ℕ). u ++ f.spell None) (flat_map-cons (λ x. f.spell (Some x)) x xs) ∙ append_assoc (f.spell (Some x)) (flat_map (λ x. f.spell (Some x)) xs) (f.spell None)

begun : (k : OpKind) (xs : List Answered) (o : Option (OpHeld k)) → fits_if (tagged result_marks result_rests) (option_map (λ h. (Some k, h)) o) → (untils result_steps).Fits xs → fits_if (tagged all_marks mark_rests) (option_map (λ h. (marks.Listed k, (h, xs))) o) × (spelled_if (tagged result_marks result_rests) (option_map (λ h. (Some k, h)) o) ++ more result_steps xs ≡ spelled_if (tagged all_marks mark_rests) (option_map (λ h. (marks.Listed k, (h, xs))) o))
begun k xs None fits others = absurd fits
begun k xs (Some h) fits others = ((fits.0.0, (fits.1, others)), append_assoc (all_marks.spell (marks.Listed k)) ((op_rests k).spell h) (more result_steps xs))

begun_with : (n : Option OpKind) (r : OpResult) (xs : List Answered) → fits_if (tagged result_marks result_rests) (result_as n r) → (untils result_steps).Fits xs → fits_if (tagged all_marks mark_rests) (begun_as n r xs) × (spelled_if (tagged result_marks result_rests) (result_as n r) ++ more result_steps xs ≡ spelled_if (tagged all_marks mark_rests) (begun_as n r xs))
begun_with None r xs fits others = absurd fits
begun_with (Some k) r xs fits others = begun k xs (op_held k r) fits others

pub wrote_held : (xs : List Answered) (a c : List ℕ) → Wrote (untils result_steps) xs a c → Wrote multis (held xs) a c
wrote_held [] a c w = record { fits = (w.fits.1.0.0, w.fits.1.1); added = w.added }
wrote_held (x ∷ xs) a c w =
    let s = begun_with (op_named x.0) x.1 xs w.fits.0.0 (w.fits.0.1, w.fits.1) in
    record { fits = s.0; added = w.added ∙ ap (λ (u : List ℕ). a ++ u) (more_of result_steps x xs ∙ s.1) }

pub wrote_failed : (zs : List ℤ) (a c : List ℕ) → 0 < length zs → Wrote (untils failure_steps) zs a c → Wrote multis (failed zs) a c
wrote_failed [] a c lt w = absurd (omega (arith, lt))
wrote_failed (z ∷ zs) a c lt w = record {
  fits = (w.fits.0.0.0.0, (w.fits.0.0.1, (w.fits.0.1, w.fits.1)));
  added = w.added ∙ ap (λ (u : List ℕ). a ++ u) (more_of failure_steps z zs ∙ append_assoc (all_marks.spell marks.Failing) (codes.spell z) (more failure_steps zs));
}
