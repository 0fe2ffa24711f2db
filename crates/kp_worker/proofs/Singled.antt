-- One connection by itself.
use Rattle.std.proofs.Common.{◌≡◌, ℕ, Bool, true, false, List, [], ◌∷◌, ◌++◌, sym, refl, ap, ◌∙◌}
use Rattle.std.specs.Prelude.{◌==◌}
use Rattle.kp_event.specs.declared.event.NodeEventKind.{NodeEventKind}
use Rattle.kp_event.specs.declared.event.NodeEventKind.TheVariants as kind
use Rattle.kp_shared.proofs.Lists.{append_nil}
use Rattle.kp_worker.specs.declared.heard.Heard.{Heard}
use Rattle.kp_worker.specs.declared.heard.Heard.TheVariants as heard
use Rattle.kp_worker.specs.Lists.{where_true}
use Rattle.kp_worker.specs.Events.{asked, asked_by, fed, fed_in}
use Rattle.kp_worker.specs.Singles.{EachByItself, answers_of, fed_to, own_in}
use Rattle.kp_worker.proofs.Lists.{joined_both}

module _ {M : Type 0} where
  own_fed : (c : ℕ) (k : NodeEventKind M) → fed_to c (fed_in k) ≡ own_in c k
  own_fed c (kind.Client n b) = append_nil (own_in c (kind.Client n b))
  own_fed c (kind.Hangup n) = append_nil (own_in c (kind.Hangup n))
  own_fed c (kind.Drain n) = refl
  own_fed c (kind.Accept d) = refl
  own_fed c (kind.Deliver m) = refl
  own_fed c kind.Timeout = refl
  own_fed c kind.Beat = refl
  own_fed c kind.CommitOne = refl
  own_fed c kind.ExpireDue = refl
  own_fed c kind.Snapshot = refl

  fed_to_fed : (c : ℕ) (ks : List (NodeEventKind M)) → fed_to c (fed ks) ≡ fed_to c ks
  fed_to_fed c [] = refl
  fed_to_fed c (k ∷ ks) = joined_both (own_in c) (fed_in k) (fed ks) ∙ ap (λ (l : List (NodeEventKind M)). l ++ fed_to c (fed ks)) (own_fed c k) ∙ ap (λ (l : List (NodeEventKind M)). own_in c k ++ l) (fed_to_fed c ks)

  asked_both : (xs ys : List (ℕ × Heard)) → asked {M = M} (xs ++ ys) ≡ asked xs ++ asked ys
  asked_both xs ys = joined_both (λ (a : ℕ × Heard). asked_by a.0 a.1) xs ys

  asked_where : (b : Bool) (a : ℕ × Heard) → asked {M = M} (where_true b (a ∷ [])) ≡ where_true b (asked_by a.0 a.1)
  asked_where true a = append_nil (asked_by a.0 a.1)
  asked_where false a = refl

  where_none : (b : Bool) → where_true {B = NodeEventKind M} b [] ≡ []
  where_none true = refl
  where_none false = refl

  own_asked : (c n : ℕ) (h : Heard) → fed_to {M = M} c (asked_by n h) ≡ where_true (n == c) (asked_by n h)
  own_asked c n (heard.Bytes b) = append_nil (own_in c (kind.Client n b))
  own_asked c n heard.Later = sym (where_none (n == c))
  own_asked c n heard.End = append_nil (own_in c (kind.Hangup n))
  own_asked c n heard.Fault = append_nil (own_in c (kind.Hangup n))

  asked_about : (c : ℕ) (as0 : List (ℕ × Heard)) → fed_to {M = M} c (asked as0) ≡ asked (answers_of c as0)
  asked_about c [] = refl
  asked_about c (a ∷ as0) = joined_both (own_in c) (asked_by a.0 a.1) (asked as0) ∙ ap (λ (l : List (NodeEventKind M)). l ++ fed_to c (asked as0)) (own_asked c a.0 a.1 ∙ sym (asked_where (a.0 == c) a))
      ∙ ap (λ (l : List (NodeEventKind M)). asked (where_true (a.0 == c) (a ∷ [])) ++ l) (asked_about c as0) ∙ sym (asked_both (where_true (a.0 == c) (a ∷ [])) (answers_of c as0))

  pub each_by_itself : EachByItself M
  each_by_itself taken ks e c = sym (fed_to_fed c ks) ∙ ap (λ (l : List (NodeEventKind M)). fed_to c l) e ∙ asked_about c taken
