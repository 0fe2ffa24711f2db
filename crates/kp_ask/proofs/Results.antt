-- The results of a multi, one by one.
use Rattle.std.proofs.Common.{◌≡◌, ℤ, List, [], ◌∷◌, ◌++◌, length, refl, sym, ap, ◌∙◌, ◌⊎◌, inl, inr, append_assoc, append-nil, arith}
use Rattle.kp_model.specs.declared.reply.OpReply.{OpReply}
use Rattle.kp_wire.specs.declared.request.WireOp.{WireOp}
use Rattle.kp_wire.specs.declared.result.OpResult.{OpResult}
use Rattle.kp_wire.specs.OpKinds.{op_number}
use Rattle.kp_wire.specs.Request.{op_kind}
use Rattle.kp_ask.specs.Answers.{result_of, results_of}

-- the results of operations and replies that begin so
one_more : (o : WireOp) (r : OpReply) (ops : List WireOp) (replies : List OpReply) → results_of (o ∷ ops) (r ∷ replies) ≡ (op_number (op_kind o), result_of r) ∷ results_of ops replies
unfolding results_of
one_more o r ops replies = refl

-- one result further: what was left begins with this operation and this reply
pub results_more : (made new all : List (ℤ × OpResult)) (ops left : List WireOp) (replies behind : List OpReply) (o : WireOp) (r : OpReply)
    → ops ≡ o ∷ left → replies ≡ r ∷ behind → new ≡ made ++ (op_number (op_kind o), result_of r) ∷ []
    → made ++ results_of ops replies ≡ all → new ++ results_of left behind ≡ all
results_more made new all ops left replies behind o r at_op at_reply e so_far =
    ap (λ l. l ++ results_of left behind) e
    ∙ append_assoc made ((op_number (op_kind o), result_of r) ∷ []) (results_of left behind)
    ∙ ap (λ l. made ++ l) (sym (one_more o r left behind))
    ∙ ap (λ l. made ++ results_of l (r ∷ behind)) (sym at_op)
    ∙ ap (λ l. made ++ results_of ops l) (sym at_reply)
    ∙ so_far

-- no operation is left, or no reply
none_left : (ops : List WireOp) (replies : List OpReply) → (length ops ≡ 0) ⊎ (length replies ≡ 0) → results_of ops replies ≡ []
unfolding results_of
none_left [] replies h = refl
none_left (o ∷ ops) [] h = refl
none_left (o ∷ ops) (r ∷ replies) (inl e) = absurd (omega (arith, e))
none_left (o ∷ ops) (r ∷ replies) (inr e) = absurd (omega (arith, e))

-- nothing is to come behind the shorter of the two
pub results_all : (made all : List (ℤ × OpResult)) (ops : List WireOp) (replies : List OpReply) → (length ops ≡ 0) ⊎ (length replies ≡ 0) → made ++ results_of ops replies ≡ all → made ≡ all
results_all made all ops replies h so_far = sym (append-nil made) ∙ ap (λ l. made ++ l) (sym (none_left ops replies h)) ∙ so_far
