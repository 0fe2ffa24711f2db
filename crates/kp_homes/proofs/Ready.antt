-- The live journal after a batch was added to it.
use Rattle.std.proofs.Common.{◌≡◌, ℕ, ◌+◌, Bool, true, false, List, length, Option, Some, None, Result, Ok, Err, refl, sym, ◌∙◌, ap, subst}
use Rattle.std.specs.Prelude.{OnOk, IfSome}
use Rattle.std.specs.Option.{option_map}
use Rattle.kp_entry.specs.declared.record.Record.{Record}
use Rattle.kp_entry.specs.Records.{spelled}
use Rattle.kp_journal.specs.Gates.{appended}
use Rattle.kp_journal.specs.Journals.{Journaled, journal_of, with_batch, up_to, StandsFor}
use Rattle.kp_journal.proofs.Staging.{some_of}
use Rattle.kp_homes.specs.Stands.{IsReady}

pub on_ok_four : {T E : Type 0} {A B C D X : Type 0} (r : Result T E) → (A → B → C → D → X) → OnOk r A → OnOk r B → OnOk r C → OnOk r D → OnOk r X
on_ok_four (Ok x) f a b c d = f a b c d
on_ok_four (Err e) f a b c d = tt

pub ready_true : (second : Bool) (a b : Option (List ℕ)) (j : Journaled) → second ≡ true → IfSome b (StandsFor j) → IsReady second a b j
ready_true second a b j is ready = subst (λ (k : Bool). IsReady k a b j) (sym is) ready

pub ready_false : (second : Bool) (a b : Option (List ℕ)) (j : Journaled) → second ≡ false → IfSome a (StandsFor j) → IsReady second a b j
ready_false second a b j is ready = subst (λ (k : Bool). IsReady k a b j) (sym is) ready

pub is_ready_true : (second : Bool) (a b : Option (List ℕ)) (j : Journaled) → second ≡ true → IsReady second a b j → IfSome b (StandsFor j)
is_ready_true second a b j is ready = subst (λ (k : Bool). IsReady k a b j) is ready

pub is_ready_false : (second : Bool) (a b : Option (List ℕ)) (j : Journaled) → second ≡ false → IsReady second a b j → IfSome a (StandsFor j)
is_ready_false second a b j is ready = subst (λ (k : Bool). IsReady k a b j) is ready

ready_after : (j k : Journaled) (rs : List Record) (old new : Option (List ℕ)) → IfSome old (StandsFor j) → new ≡ option_map (appended j.gate (spelled rs)) old
    → ((xs : List ℕ) (v : Journaled) → old ≡ Some xs → journal_of j.head.node xs ≡ Ok v → v.gate ≡ j.gate → IfSome new (λ ys. journal_of j.head.node ys ≡ Ok (with_batch rs v)))
    → k ≡ up_to (j.gate + 5 + length (spelled rs)) j → IfSome new (StandsFor k)
ready_after j k rs None new ready was done made = subst (λ (o : Option (List ℕ)). IfSome o (StandsFor k)) (sym was) tt
ready_after j k rs (Some xs) new ready was done made =
    let ys = appended j.gate (spelled rs) xs in
    let v = ready.0 in
    let more = some_of _ (λ zs. journal_of j.head.node zs ≡ Ok (with_batch rs v)) ys (done xs v refl ready.1 ready.2) was in
    let here : StandsFor k ys = (
      with_batch rs v,
      subst (λ (n : ℕ). journal_of n ys ≡ Ok (with_batch rs v)) (sym (ap (λ (i : Journaled). i.head.node) made)) more,
      ap (λ (n : ℕ). n + 5 + length (spelled rs)) ready.2 ∙ ap (λ (i : Journaled). i.gate) (sym made),
    ) in
    subst (λ (o : Option (List ℕ)). IfSome o (StandsFor k)) (sym was) here

pub ready_ok : {T E : Type 0} (r : Result T E) (j k : Journaled) (rs : List Record) (old new : Option (List ℕ)) → IfSome old (StandsFor j) → OnOk r (new ≡ option_map (appended j.gate (spelled rs)) old)
    → ((xs : List ℕ) (v : Journaled) → old ≡ Some xs → journal_of j.head.node xs ≡ Ok v → v.gate ≡ j.gate → OnOk r (IfSome new (λ ys. journal_of j.head.node ys ≡ Ok (with_batch rs v))))
    → OnOk r (k ≡ up_to (j.gate + 5 + length (spelled rs)) j) → OnOk r (IfSome new (StandsFor k))
ready_ok (Ok x) j k rs old new ready was done made = ready_after j k rs old new ready was done made
ready_ok (Err e) j k rs old new ready was done made = tt
