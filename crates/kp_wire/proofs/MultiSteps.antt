-- How the results of a multi are read behind the first mark.
use Rattle.std.proofs.Common.{◌≡◌, ℤ, List, [], ◌∷◌, Result, Ok, Err, refl, sym, ap, ◌∙◌}
use Rattle.kp_jute.specs.declared.fault.JuteFail.{JuteFail}
use Rattle.kp_jute.specs.Form.{Place, Reading, ◌>>=◌, Fails}
use Rattle.kp_jute.specs.Jute.{untils}
use Rattle.kp_jute.proofs.Loops.{failed}
use Rattle.kp_wire.specs.declared.reply.WireReply.{WireReply}
use Rattle.kp_wire.specs.declared.reply.WireReply.TheVariants as reply
use Rattle.kp_wire.specs.declared.reply.Shape.TheVariants as shapes
use Rattle.kp_wire.specs.declared.op_kind.OpKind.{OpKind}
use Rattle.kp_wire.specs.declared.result.OpResult.{OpResult}
use Rattle.kp_wire.specs.declared.result.Mark.{Mark}
use Rattle.kp_wire.specs.declared.result.Mark.TheVariants as marks
use Rattle.kp_wire.specs.Common.{behind_all}
use Rattle.kp_wire.specs.OpKinds.{op_number}
use Rattle.kp_wire.specs.OpResults.{Answered, OpHeld, op_result, op_rests, codes, ends, all_marks, MarkHeld, multi_of, MultiReply, result_steps, failure_steps, failure_lists, result_lists}
use Rattle.kp_wire.specs.Replies.{Outcome, granted_as, OutcomeHeld, reply_of, multi_replies}
use Rattle.kp_wire.proofs.ResultSteps.{op_results_is}

-- what is behind a mark, as a reply
abbrev shown : (m : Mark) → Result (MarkHeld m × Place) JuteFail → Result (WireReply × Place) JuteFail
shown m read =
    let marked : MarkHeld m × Place → Result (((m : Mark) × MarkHeld m) × Place) JuteFail = λ y. Ok ((m, y.0), y.1) in
    let paired : MultiReply × Place → Result (((o : Outcome) × OutcomeHeld o) × Place) JuteFail = λ y. Ok ((granted_as shapes.Multi, y.0), y.1) in
    read >>= marked >>= (λ x. Ok (multi_of x.0, x.1)) >>= paired >>= λ x. Ok (reply_of x.0, x.1)

abbrev as_multi : Result (List Answered × Place) JuteFail → Result (WireReply × Place) JuteFail
as_multi read = read >>= λ x. Ok (reply.Multi x.0, x.1)

abbrev as_failed : Result (List ℤ × Place) JuteFail → Result (WireReply × Place) JuteFail
as_failed read = read >>= λ x. Ok (reply.Failed x.0, x.1)

-- one value and the values behind it
abbrev both : {A B : Type 0} → Result (A × Place) JuteFail → Reading B → Result ((A × B) × Place) JuteFail
both m n = m >>= λ x. n x.1 >>= λ y. Ok ((x.0, y.0), y.1)

rest_results : (k : OpKind) (h : OpHeld k) (m : Result (List Answered × Place) JuteFail) → shown (marks.Listed k) (m >>= λ y. Ok ((h, y.0), y.1)) ≡ as_multi (behind_all ((op_number k, op_result k h) ∷ []) m)
rest_results k h (Ok x) = refl
rest_results k h (Err e) = refl

abbrev told : (k : OpKind) → Result (OpHeld k × Place) JuteFail → Result (OpResult × Place) JuteFail
told k m = m >>= λ h. Ok (op_result k h.0, h.1)

abbrev listed : OpKind → Result (OpResult × Place) JuteFail → Reading (List Answered) → Result (List Answered × Place) JuteFail
listed k m n = m >>= λ r. behind_all ((op_number k, r.0) ∷ []) (n r.1)

results_regroup : (k : OpKind) (m : Result (OpHeld k × Place) JuteFail) (n : Reading (List Answered)) → shown (marks.Listed k) (both m n) ≡ as_multi (listed k (told k m) n)
results_regroup k (Ok x) n = rest_results k x.0 (n x.1)
results_regroup k (Err e) n = refl

rest_failures : (z : ℤ) (m : Result (List ℤ × Place) JuteFail) → shown marks.Failing (m >>= λ y. Ok ((z, y.0), y.1)) ≡ as_failed (behind_all (z ∷ []) m)
rest_failures z (Ok x) = refl
rest_failures z (Err e) = refl

failures_regroup : (m : Result (ℤ × Place) JuteFail) (n : Reading (List ℤ)) → shown marks.Failing (both m n) ≡ as_failed (m >>= λ z. behind_all (z.0 ∷ []) (n z.1))
failures_regroup (Ok x) n = rest_failures x.0 (n x.1)
failures_regroup (Err e) n = refl

listed_is : (p q : Place) (k : OpKind) → all_marks.read p ≡ Ok (marks.Listed k, q) → multi_replies p ≡ as_multi (result_lists k q)
listed_is p q k h = rw h (results_regroup k ((op_rests k).read q) (untils result_steps).read) ∙ ap (λ m. as_multi (listed k m (untils result_steps).read)) (sym (op_results_is k q))

failing_is : (p q : Place) → all_marks.read p ≡ Ok (marks.Failing, q) → multi_replies p ≡ as_failed (failure_lists q)
failing_is p q h = rw h (failures_regroup (codes.read q) (untils failure_steps).read)

end_regroup : (m : Result (Unit {0} × Place) JuteFail) → shown marks.Last m ≡ (m >>= λ u. Ok (reply.Multi [], u.1))
end_regroup (Ok x) = refl
end_regroup (Err e) = refl

last_is : (p q : Place) → all_marks.read p ≡ Ok (marks.Last, q) → multi_replies p ≡ (ends.read q >>= λ u. Ok (reply.Multi [], u.1))
last_is p q h = rw h (end_regroup (ends.read q))

-- ---- as the calls need them

pub listed_ok : (p q r : Place) (k : OpKind) (xs : List Answered) → all_marks.read p ≡ Ok (marks.Listed k, q) → result_lists k q ≡ Ok (xs, r) → multi_replies p ≡ Ok (reply.Multi xs, r)
listed_ok p q r k xs h is = listed_is p q k h ∙ ap as_multi is

pub listed_fails : (p q : Place) (k : OpKind) (e : JuteFail) → all_marks.read p ≡ Ok (marks.Listed k, q) → Fails e (result_lists k q) → Fails e (multi_replies p)
listed_fails p q k e h is = failed e (result_lists k q) (multi_replies p) (λ f is_f. listed_is p q k h ∙ ap as_multi is_f) is

pub failing_ok : (p q r : Place) (zs : List ℤ) → all_marks.read p ≡ Ok (marks.Failing, q) → failure_lists q ≡ Ok (zs, r) → multi_replies p ≡ Ok (reply.Failed zs, r)
failing_ok p q r zs h is = failing_is p q h ∙ ap as_failed is

pub failing_fails : (p q : Place) (e : JuteFail) → all_marks.read p ≡ Ok (marks.Failing, q) → Fails e (failure_lists q) → Fails e (multi_replies p)
failing_fails p q e h is = failed e (failure_lists q) (multi_replies p) (λ f is_f. failing_is p q h ∙ ap as_failed is_f) is

abbrev ended_with : Result (Unit {0} × Place) JuteFail → Result (WireReply × Place) JuteFail
ended_with read = read >>= λ u. Ok (reply.Multi [], u.1)

pub last_ok : (p q r : Place) → all_marks.read p ≡ Ok (marks.Last, q) → ends.read q ≡ Ok (tt, r) → multi_replies p ≡ Ok (reply.Multi [], r)
last_ok p q r h is = last_is p q h ∙ ap ended_with is

pub last_fails : (p q : Place) (e : JuteFail) → all_marks.read p ≡ Ok (marks.Last, q) → Fails e (ends.read q) → Fails e (multi_replies p)
last_fails p q e h is = failed e (ends.read q) (multi_replies p) (λ f is_f. last_is p q h ∙ ap ended_with is_f) is
