-- What several tasks do is what each of them does, in order.
use Rattle.std.proofs.Common.{◌≡◌, ℕ, List, [], ◌∷◌, ◌++◌, map, sym, refl, ap, ◌∙◌, append_assoc}
use Rattle.std.specs.Prelude.{Ok, Err}
use Rattle.std.proofs.lemmas.List.{map-append}
use mathlib.Core.Option.{some}
use mathlib.Core.Option as maybe
use Rattle.kp_turn.specs.TurnView.{own}
use Rattle.kp_event.specs.declared.thought.Thought.{Thought}
use Rattle.kp_shared.specs.Letters.{Letter}
use Rattle.kp_shared.specs.declared.task.Answer.TheVariants as answer
use Rattle.kp_shared.specs.Tasks.{Did, Each, bytes_of, flushed, leaves_at, mails_of, out_of, thoughts_in, waiting, waits_after}
use Rattle.kp_shared.specs.Nodes.{Does, ViewIn}

pub append_nil : {B : Type 0} (xs : List B) → xs ++ [] ≡ xs
append_nil [] = refl
append_nil {B} (x ∷ xs) = ap (λ (l : List B). x ∷ l) (append_nil xs)

pub each_both : {B : Type 0} (P : B → Type 0) (xs ys : List B) → Each P xs → Each P ys → Each P (xs ++ ys)
each_both P [] ys a b = b
each_both P (x ∷ xs) ys a b = (a.0, each_both P xs ys a.1 b)

module _ {M : Type 0} where
  pub flushed_both : (p : List (Thought (Letter M))) (xs ys : List (Did M)) → flushed p (xs ++ ys) ≡ flushed p xs ++ flushed (waiting p xs) ys
  flushed_both p [] ys = refl
  flushed_both p (d ∷ ds) ys = ap (λ (l : List (Thought (Letter M))). leaves_at p d.1 ++ l) (flushed_both (waits_after p d.1) ds ys)
      ∙ sym (append_assoc (leaves_at p d.1) (flushed (waits_after p d.1) ds) (flushed (waiting (waits_after p d.1) ds) ys))

  pub waiting_both : (p : List (Thought (Letter M))) (xs ys : List (Did M)) → waiting p (xs ++ ys) ≡ waiting (waiting p xs) ys
  waiting_both p [] ys = refl
  waiting_both p (d ∷ ds) ys = waiting_both (waits_after p d.1) ds ys

  -- where nothing waits after the first
  pub flushed_after : (xs ys : List (Did M)) → waiting [] xs ≡ [] → flushed [] (xs ++ ys) ≡ flushed [] xs ++ flushed [] ys
  flushed_after xs ys e = flushed_both [] xs ys ∙ ap (λ (l : List (Thought (Letter M))). flushed [] xs ++ flushed l ys) e

  pub thoughts_both : (xs ys : List (Did M)) → thoughts_in (xs ++ ys) ≡ thoughts_in xs ++ thoughts_in ys
  thoughts_both [] ys = refl
  thoughts_both ((t, Ok (answer.Thought u)) ∷ ds) ys = ap (λ (l : List (Thought (Letter M))). u ∷ l) (thoughts_both ds ys)
  thoughts_both ((t, Ok (answer.Kept n)) ∷ ds) ys = thoughts_both ds ys
  thoughts_both ((t, Err f) ∷ ds) ys = thoughts_both ds ys

  pub bytes_both : (ts us : List (Thought (Letter M))) → bytes_of (ts ++ us) ≡ bytes_of ts ++ bytes_of us
  bytes_both [] us = refl
  bytes_both (t ∷ ts) us = ap (λ (l : List ℕ). out_of t.said ++ l) (bytes_both ts us) ∙ sym (append_assoc (out_of t.said) (bytes_of ts) (bytes_of us))

  pub mails_both : (ts us : List (Thought (Letter M))) → mails_of (ts ++ us) ≡ mails_of ts ++ mails_of us
  mails_both [] us = refl
  mails_both (t ∷ ts) us = ap (λ (l : List (Letter M)). t.mail ++ l) (mails_both ts us) ∙ sym (append_assoc t.mail (mails_of ts) (mails_of us))

module _ {S M : Type 0} where
  pub does_none : (v : ViewIn S M) → Does v v []
  does_none v = record { own = sym (append_nil (own v)); start = refl; splits = refl }

  pub does_both : (u v w : ViewIn S M) (xs ys : List (Did M)) → Does u v xs → Does v w ys → Does u w (xs ++ ys)
  does_both u v w xs ys a b = record {
    own = b.own ∙ ap (λ (l : List (maybe.Option (Did M))). l ++ map some ys) a.own ∙ append_assoc (own u) (map some xs) (map some ys)
        ∙ ap (λ (l : List (maybe.Option (Did M))). own u ++ l) (sym (map-append (λ (d : Did M). some d) xs ys));
    start = b.start ∙ a.start;
    splits = b.splits ∙ a.splits;
  }
