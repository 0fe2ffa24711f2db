-- The forms of a multi's results are lawful.
use Rattle.std.proofs.Common.{◌≡◌, ℕ, ◌<◌, ℤ, pos, negsuc, Bool, true, false, List, [], ◌∷◌, length, Option, Some, None, option_map, refl, sym, ap, ◌∙◌, arith}
use Rattle.kp_jute.specs.Form.{Lawful, ◌⊗◌, tagged, spelled_if}
use Rattle.kp_jute.specs.Jute.{ints, texts, fixed_ints, fixed_booleans, number}
use Rattle.kp_jute.proofs.Cases.{narrowed_lawful, present_lawful, fixed_ints_lawful, fixed_booleans_lawful, tagged_lawful}
use Rattle.kp_jute.proofs.Combined.{◌&◌, seen_lawful}
use Rattle.kp_jute.proofs.EndMarks.{spelled_untils_lawful}
use Rattle.kp_jute.proofs.Numbers.{ints_lawful, booleans_lawful}
use Rattle.kp_jute.proofs.Lengths.{texts_lawful}
use Rattle.kp_wire.specs.declared.result.OpResult.{OpResult}
use Rattle.kp_wire.specs.declared.result.OpResult.TheVariants as result
use Rattle.kp_wire.specs.declared.op_kind.OpKind.{OpKind}
use Rattle.kp_wire.specs.declared.op_kind.OpKind.TheVariants as kinds
use Rattle.kp_wire.specs.declared.result.Mark.{Mark}
use Rattle.kp_wire.specs.declared.result.Mark.TheVariants as marks
use Rattle.kp_wire.specs.declared.result.Lead.{Lead}
use Rattle.kp_wire.specs.declared.result.Lead.TheVariants as leads
use Rattle.kp_wire.specs.OpKinds.{op_number, op_named}
use Rattle.kp_wire.specs.OpResults.{MultiReply, held, failed, OpHeld, op_bodies, Answered, op_result, op_held, lead_number, lead_named, LeadHeld, lead_forms, lead_bodies, mark_of, lead_in, all_marks, result_mark, mark_of_result, result_marks, failure_mark, mark_of_failure, failure_marks, op_rests, codes, ends, ResultHeld, result_rests, result_of, result_as, result_in, result_steps, FailureHeld, failure_rests, failure_of, failure_in, failure_steps, MarkHeld, mark_rests, multi_of, begun_as, multi_in, multis}
use Rattle.kp_wire.specs.Partly.{fits_if}
use Rattle.kp_wire.proofs.KindLaws.{op_back}
use Rattle.kp_wire.proofs.PartLaws.{next_name, partly_lawful, nothing_lawful, some_is}
use Rattle.kp_wire.proofs.CommonLaws.{stats_lawful}

-- ---- numbers and types

pub op_own : (k : OpKind) → op_named (op_number k) ≡ Some k
unfolding op_named
op_own kinds.Create = refl
op_own kinds.Delete = refl
op_own kinds.SetData = refl
op_own kinds.Check = refl
op_own kinds.Create2 = refl

listed_back : (z : ℤ) (o : Option OpKind) (l : Lead) → op_named z ≡ o → option_map (λ k. leads.Listed k) o ≡ Some l → lead_number l ≡ z
listed_back z None l is e = absurd cc
listed_back z (Some k) l is e = ap lead_number (sym (some_is (leads.Listed k) l e)) ∙ op_back z k is

lead_back : (z : ℤ) (l : Lead) → lead_named z ≡ Some l → lead_number l ≡ z
unfolding lead_named
lead_back z l e = next_name lead_number z (negsuc 0) leads.Closing l (option_map (λ k. leads.Listed k) (op_named z)) refl e (λ e. listed_back z (op_named z) l refl e)

-- ---- marks

leads_lawful : Lawful lead_forms
leads_lawful = narrowed_lawful lead_named lead_number ints lead_back ints_lawful

lead_bodies_lawful : (l : Lead) → Lawful (lead_bodies l)
lead_bodies_lawful (leads.Listed k) = nothing_lawful
lead_bodies_lawful leads.Closing = booleans_lawful

mark_there : (t : (l : Lead) × LeadHeld l) → lead_in (mark_of t) ≡ t
mark_there (leads.Listed k, u) = refl
mark_there (leads.Closing, true) = refl
mark_there (leads.Closing, false) = refl

mark_again : (m : Mark) → mark_of (lead_in m) ≡ m
mark_again (marks.Listed k) = refl
mark_again marks.Last = refl
mark_again marks.Failing = refl

marks_lawful : Lawful all_marks
marks_lawful = seen_lawful mark_of lead_in (tagged lead_forms lead_bodies) mark_there mark_again (tagged_lawful lead_forms lead_bodies leads_lawful lead_bodies_lawful)

result_mark_back : (m : Mark) (o : Option OpKind) → result_mark m ≡ Some o → mark_of_result o ≡ m
result_mark_back (marks.Listed k) o e = ap mark_of_result (sym (some_is (Some k) o e))
result_mark_back marks.Last o e = ap mark_of_result (sym (some_is None o e))
result_mark_back marks.Failing o e = absurd cc

failure_mark_back : (m : Mark) (b : Bool) → failure_mark m ≡ Some b → mark_of_failure b ≡ m
failure_mark_back (marks.Listed k) b e = absurd cc
failure_mark_back marks.Last b e = ap mark_of_failure (sym (some_is true b e))
failure_mark_back marks.Failing b e = ap mark_of_failure (sym (some_is false b e))

-- ---- what follows a mark

op_bodies_lawful : (k : OpKind) → Lawful (op_bodies k)
op_bodies_lawful kinds.Create = present_lawful texts texts_lawful
op_bodies_lawful kinds.Delete = nothing_lawful
op_bodies_lawful kinds.SetData = stats_lawful
op_bodies_lawful kinds.Check = nothing_lawful
op_bodies_lawful kinds.Create2 = present_lawful texts texts_lawful & stats_lawful

op_rests_lawful : (k : OpKind) → Lawful (op_rests k)
op_rests_lawful k = seen_lawful _ _ (fixed_booleans false ⊗ (fixed_ints (pos 0) ⊗ op_bodies k)) (λ _. refl) (λ _. refl) (fixed_booleans_lawful false & (fixed_ints_lawful (pos 0) & op_bodies_lawful k))

codes_lawful : Lawful codes
codes_lawful = seen_lawful _ _ (tagged ints (λ z. fixed_ints z)) (λ _. refl) (λ _. refl) (tagged_lawful ints (λ z. fixed_ints z) ints_lawful fixed_ints_lawful)

ends_lawful : Lawful ends
ends_lawful = fixed_ints_lawful (negsuc 0)

-- ---- one result after another

result_rests_lawful : (o : Option OpKind) → Lawful (result_rests o)
result_rests_lawful None = ends_lawful
result_rests_lawful (Some k) = op_rests_lawful k

held_own : (k : OpKind) (h : OpHeld k) → op_held k (op_result k h) ≡ Some h
held_own kinds.Create h = refl
held_own kinds.Delete h = refl
held_own kinds.SetData h = refl
held_own kinds.Check h = refl
held_own kinds.Create2 h = refl

held_back : (k : OpKind) (r : OpResult) (h : OpHeld k) → op_held k r ≡ Some h → op_result k h ≡ r
held_back kinds.Create (result.Path path) h e = ap (λ (x : List ℕ). result.Path x) (sym (some_is path h e))
held_back kinds.Create r h e = absurd cc
held_back kinds.Delete result.Empty h e = refl
held_back kinds.Delete r h e = absurd cc
held_back kinds.SetData (result.Stat stat) h e = ap (op_result kinds.SetData) (sym (some_is stat h e))
held_back kinds.SetData r h e = absurd cc
held_back kinds.Check result.Empty h e = refl
held_back kinds.Check r h e = absurd cc
held_back kinds.Create2 (result.PathStat path stat) h e = ap (op_result kinds.Create2) (sym (some_is (path, stat) h e))
held_back kinds.Create2 r h e = absurd cc

result_there : (t : (o : Option OpKind) × ResultHeld o) → result_in (result_of t) ≡ Some t
result_there (None, u) = refl
result_there (Some k, h) = ap (λ (o : Option OpKind). result_as o (op_result k h)) (op_own k) ∙ ap (λ (o : Option (OpHeld k)). option_map (λ h. (Some k, h)) o) (held_own k h)

as_back : (z : ℤ) (k : OpKind) (r : OpResult) (o : Option (OpHeld k)) (t : (o : Option OpKind) × ResultHeld o) → op_number k ≡ z → op_held k r ≡ o → option_map (λ h. (Some k, h)) o ≡ Some t → result_of t ≡ Some (z, r)
as_back z k r None t own is e = absurd cc
as_back z k r (Some h) t own is e = ap result_of (sym (some_is (Some k, h) t e)) ∙ ap (λ (x : OpResult). Some (op_number k, x)) (held_back k r h is) ∙ ap (λ (n : ℤ). Some (n, r)) own

named_back : (z : ℤ) (n : Option OpKind) (r : OpResult) (t : (o : Option OpKind) × ResultHeld o) → op_named z ≡ n → result_as n r ≡ Some t → result_of t ≡ Some (z, r)
named_back z None r t is e = absurd cc
named_back z (Some k) r t is e = as_back z k r (op_held k r) t (op_back z k is) refl e

result_back : (v : Option Answered) (t : (o : Option OpKind) × ResultHeld o) → result_in v ≡ Some t → result_of t ≡ v
result_back None t e = ap result_of (sym (some_is (None, tt) t e))
result_back (Some v) t e = named_back v.0 (op_named v.0) v.1 t refl e

result_steps_lawful : Lawful result_steps
result_steps_lawful = partly_lawful result_of result_in (tagged result_marks result_rests) result_there result_back (tagged_lawful result_marks result_rests (narrowed_lawful result_mark mark_of_result all_marks result_mark_back marks_lawful) result_rests_lawful)

failure_rests_lawful : (b : Bool) → Lawful (failure_rests b)
failure_rests_lawful true = ends_lawful
failure_rests_lawful false = codes_lawful

failure_there : (t : (b : Bool) × FailureHeld b) → failure_in (failure_of t) ≡ t
failure_there (true, u) = refl
failure_there (false, z) = refl

failure_back : (o : Option ℤ) → failure_of (failure_in o) ≡ o
failure_back None = refl
failure_back (Some z) = refl

failure_steps_lawful : Lawful failure_steps
failure_steps_lawful = seen_lawful failure_of failure_in (tagged failure_marks failure_rests) failure_there failure_back (tagged_lawful failure_marks failure_rests (narrowed_lawful failure_mark mark_of_failure all_marks failure_mark_back marks_lawful) failure_rests_lawful)

-- ---- all of them

failures_long : (z : ℤ) → failure_steps.Fits (Some z) → 0 < length (failure_steps.spell (Some z))
unfolding number
failures_long z fits = omega arith

shown_long : (o : Option ((o : Option OpKind) × ResultHeld o)) → fits_if (tagged result_marks result_rests) o → 0 < length (spelled_if (tagged result_marks result_rests) o)
unfolding number
shown_long None fits = absurd fits
shown_long (Some (None, u)) fits = omega arith
shown_long (Some (Some k, h)) fits = omega arith

results_long : (v : Answered) → result_steps.Fits (Some v) → 0 < length (result_steps.spell (Some v))
results_long v fits = shown_long (result_in (Some v)) fits

mark_rests_lawful : (m : Mark) → Lawful (mark_rests m)
mark_rests_lawful (marks.Listed k) = op_rests_lawful k & spelled_untils_lawful result_steps results_long result_steps_lawful
mark_rests_lawful marks.Last = ends_lawful
mark_rests_lawful marks.Failing = codes_lawful & spelled_untils_lawful failure_steps failures_long failure_steps_lawful

multi_there : (t : (m : Mark) × MarkHeld m) → multi_in (multi_of t) ≡ Some t
multi_there (marks.Listed k, h) = ap (λ (o : Option OpKind). begun_as o (op_result k h.0) h.1) (op_own k) ∙ ap (λ (o : Option (OpHeld k)). option_map (λ x. (marks.Listed k, (x, h.1))) o) (held_own k h.0)
multi_there (marks.Last, u) = refl
multi_there (marks.Failing, h) = refl

begun_back : (z : ℤ) (k : OpKind) (r : OpResult) (xs : List Answered) (o : Option (OpHeld k)) (t : (m : Mark) × MarkHeld m) → op_number k ≡ z → op_held k r ≡ o → option_map (λ h. (marks.Listed k, (h, xs))) o ≡ Some t → multi_of t ≡ held ((z, r) ∷ xs)
begun_back z k r xs None t own is e = absurd cc
begun_back z k r xs (Some h) t own is e = ap multi_of (sym (some_is (marks.Listed k, (h, xs)) t e)) ∙ ap (λ (x : OpResult). held ((op_number k, x) ∷ xs)) (held_back k r h is) ∙ ap (λ (n : ℤ). held ((n, r) ∷ xs)) own

started_back : (z : ℤ) (n : Option OpKind) (r : OpResult) (xs : List Answered) (t : (m : Mark) × MarkHeld m) → op_named z ≡ n → begun_as n r xs ≡ Some t → multi_of t ≡ held ((z, r) ∷ xs)
started_back z None r xs t is e = absurd cc
started_back z (Some k) r xs t is e = begun_back z k r xs (op_held k r) t (op_back z k is) refl e

multi_back : (v : MultiReply) (t : (m : Mark) × MarkHeld m) → multi_in v ≡ Some t → multi_of t ≡ v
multi_back (held []) t e = ap multi_of (sym (some_is (marks.Last, tt) t e))
multi_back (held (x ∷ xs)) t e = started_back x.0 (op_named x.0) x.1 xs t refl e
multi_back (failed []) t e = absurd cc
multi_back (failed (z ∷ zs)) t e = ap multi_of (sym (some_is (marks.Failing, (z, zs)) t e))

pub multis_lawful : Lawful multis
multis_lawful = partly_lawful multi_of multi_in (tagged all_marks mark_rests) multi_there multi_back (tagged_lawful all_marks mark_rests marks_lawful mark_rests_lawful)
