-- How a result is read behind its mark.
use Rattle.std.proofs.Common.{◌≡◌, Bool, Option, Some, Result, Ok, Err, refl, sym, ap, ◌∙◌}
use Rattle.kp_jute.specs.declared.fault.JuteFail.{JuteFail}
use Rattle.kp_jute.specs.Form.{Place, ◌>>=◌, Fails}
use Rattle.kp_jute.specs.Jute.{booleans}
use Rattle.kp_jute.proofs.Loops.{failed}
use Rattle.kp_wire.specs.declared.result.OpResult.{OpResult}
use Rattle.kp_wire.specs.declared.op_kind.OpKind.{OpKind}
use Rattle.kp_wire.specs.declared.op_kind.OpKind.TheVariants as kinds
use Rattle.kp_wire.specs.declared.result.Mark.{Mark}
use Rattle.kp_wire.specs.declared.result.Mark.TheVariants as marks
use Rattle.kp_wire.specs.declared.result.Lead.{Lead}
use Rattle.kp_wire.specs.declared.result.Lead.TheVariants as leads
use Rattle.kp_wire.specs.OpKinds.{op_number}
use Rattle.kp_wire.specs.OpResults.{Answered, OpHeld, op_result, op_read, op_results, op_rests, lead_forms, LeadHeld, mark_of, closed, all_marks, ResultHeld, result_of, result_steps}

-- ---- marks

pub listed_mark : (p q : Place) (k : OpKind) → lead_forms.read p ≡ Ok (leads.Listed k, q) → all_marks.read p ≡ Ok (marks.Listed k, q)
listed_mark p q k h = rw h refl

abbrev closing : Bool × Place → Result (((l : Lead) × LeadHeld l) × Place) JuteFail
closing y = Ok ((leads.Closing, y.0), y.1)

abbrev marked : Result (Bool × Place) JuteFail → Result (Mark × Place) JuteFail
marked read = read >>= λ b. Ok (closed b.0, b.1)

closing_regroup : (m : Result (Bool × Place) JuteFail) → (m >>= closing >>= λ x. Ok (mark_of x.0, x.1)) ≡ marked m
closing_regroup (Ok x) = refl
closing_regroup (Err e) = refl

-- behind -1 a boolean is read
closing_is : (p q : Place) → lead_forms.read p ≡ Ok (leads.Closing, q) → all_marks.read p ≡ marked (booleans.read q)
closing_is p q h = rw h (closing_regroup (booleans.read q))

pub closing_ok : (p q r : Place) (b : Bool) → lead_forms.read p ≡ Ok (leads.Closing, q) → booleans.read q ≡ Ok (b, r) → all_marks.read p ≡ Ok (closed b, r)
closing_ok p q r b h is = closing_is p q h ∙ ap marked is

pub closing_fails : (p q : Place) (e : JuteFail) → lead_forms.read p ≡ Ok (leads.Closing, q) → Fails e (booleans.read q) → Fails e (all_marks.read p)
closing_fails p q e h is = failed e (booleans.read q) (all_marks.read p) (λ f is_f. closing_is p q h ∙ ap marked is_f) is

-- ---- results

pub op_results_is : (k : OpKind) (p : Place) → op_results k p ≡ op_read k p
op_results_is kinds.Create p = refl
op_results_is kinds.Delete p = refl
op_results_is kinds.SetData p = refl
op_results_is kinds.Check p = refl
op_results_is kinds.Create2 p = refl

abbrev numbered : OpKind → Result (OpResult × Place) JuteFail → Result (Option Answered × Place) JuteFail
numbered k read = read >>= λ r. Ok (Some (op_number k, r.0), r.1)

abbrev paired : (k : OpKind) → OpHeld k × Place → Result (((o : Option OpKind) × ResultHeld o) × Place) JuteFail
paired k y = Ok ((Some k, y.0), y.1)

regroup : (k : OpKind) (m : Result (OpHeld k × Place) JuteFail) → (m >>= paired k >>= λ x. Ok (result_of x.0, x.1)) ≡ numbered k (m >>= λ h. Ok (op_result k h.0, h.1))
regroup k (Ok x) = refl
regroup k (Err e) = refl

-- behind the mark of an operation its result is read
pub listed_is : (p q : Place) (k : OpKind) → all_marks.read p ≡ Ok (marks.Listed k, q) → result_steps.read p ≡ numbered k (op_results k q)
listed_is p q k h = rw h (regroup k ((op_rests k).read q)) ∙ ap (numbered k) (sym (op_results_is k q))

pub listed_ok : (p q r : Place) (k : OpKind) (v : OpResult) → all_marks.read p ≡ Ok (marks.Listed k, q) → op_results k q ≡ Ok (v, r) → result_steps.read p ≡ Ok (Some (op_number k, v), r)
listed_ok p q r k v h is = listed_is p q k h ∙ ap (numbered k) is

pub listed_fails : (p q : Place) (k : OpKind) (e : JuteFail) → all_marks.read p ≡ Ok (marks.Listed k, q) → Fails e (op_results k q) → Fails e (result_steps.read p)
listed_fails p q k e h is = failed e (op_results k q) (result_steps.read p) (λ f is_f. listed_is p q k h ∙ ap (numbered k) is_f) is
