-- What goes out of an outlet.
use Rattle.std.proofs.Common.{◌≡◌, ◌-◌, ◌<◌, ℕ, false, List, [], ◌∷◌, ◌++◌, refl, ap, sym, ◌∙◌, subst, length, take, drop, arith}
use Rattle.std.proofs.lemmas.List.{take-append-drop}
use Rattle.std.proofs.lemmas.Grind.{common_steps}
use Rattle.std.specs.Prelude.{Option, Some, None, nat_lt, ⊤}
use Rattle.std.specs.Io.KnownBytes as known
use Rattle.kp_outlet.specs.declared.outlet.Outlet.{Outlet}
use Rattle.kp_outlet.specs.declared.outlet.OutletEnd.{OutletEnd}
use Rattle.kp_outlet.specs.declared.outlet.OutletEnd.TheVariants as end
use Rattle.kp_io.specs.Faults.{one_more}
use Rattle.kp_outlet.specs.Outlets.{Caused, GoesOut, Keeps, Settles, kept}

pub tail_whole : (bs : List ℕ) (k : ℕ) → take (length bs - k) (drop k bs) ≡ drop k bs
tail_whole bs k = grind (arith, common_steps)

pub none_left : (bs : List ℕ) (k : ℕ) → nat_lt k (length bs) ≡ false → drop k bs ≡ []
none_left bs k few = grind (arith, common_steps)

append_nil : {B : Type 0} (xs : List B) → xs ++ [] ≡ xs
append_nil [] = refl
append_nil (x ∷ xs) = ap (λ l. x ∷ l) (append_nil xs)

appends_none : (a b : Option (List ℕ)) → known.Keeps a b → known.Appends a b []
appends_none None b k = tt
appends_none (Some xs) None k = absurd k
appends_none (Some xs) (Some ys) k = k ∙ sym (append_nil xs)

appends_same : (a : Option (List ℕ)) → known.Appends a a []
appends_same None = tt
appends_same (Some xs) = sym (append_nil xs)

abbrev is_open : Option OutletEnd → Type 0
is_open None = ⊤
is_open (Some e) = ⊥

not_none : {e : OutletEnd} → None ≡ Some e → ⊥
not_none e = subst is_open e tt

abbrev met_fault : Option OutletEnd → Type 0
met_fault None = ⊥
met_fault (Some end.Fault) = ⊤
met_fault (Some end.Full) = ⊥
met_fault (Some end.NoMemory) = ⊥

not_full : Some end.Fault ≡ Some end.Full → ⊥
not_full e = subst met_fault e tt

-- an end that is no fault leaves the count of faults
no_cause : (e : Option OutletEnd) (f f' : ℕ) → (e ≡ Some end.Fault → ⊥) → f' ≡ f → Caused e f f'
no_cause None f f' never same = same
no_cause (Some end.Fault) f f' never same = absurd (never refl)
no_cause (Some end.Full) f f' never same = same
no_cause (Some end.NoMemory) f f' never same = same

module _ {W : Type 0} (held : W → Option (List ℕ)) (faults : W → ℕ) where
  -- the bytes were kept, and none went out
  pub hand_behind : (o p : Outlet W) (bytes : List ℕ) → Keeps o p bytes → GoesOut held faults o p bytes
  hand_behind o p bytes k = record {
    gone = [];
    behind = kept o ++ bytes;
    whole = refl;
    writes = subst (λ (s : W). known.Appends (held o.sink) (held s) []) (sym k.sink) (appends_same (held o.sink));
    rest = k.kept_too;
    full = k.full;
    cause = no_cause p.end (faults o.sink) (faults p.sink) k.no_fault (ap faults k.sink);
  }

  -- the sink took the first of them, and the others were kept
  pub hand_first : (o m p : Outlet W) (bytes : List ℕ) (n : ℕ) → kept o ≡ [] → kept m ≡ [] → faults m.sink ≡ faults o.sink → known.Appends (held o.sink) (held m.sink) (take n bytes) → Keeps m p (drop n bytes) → GoesOut held faults o p bytes
  hand_first o m p bytes n empty none met w k = record {
    gone = take n bytes;
    behind = drop n bytes;
    whole = ap (λ (l : List ℕ). l ++ bytes) empty ∙ sym (take-append-drop n bytes);
    writes = subst (λ (s : W). known.Appends (held o.sink) (held s) (take n bytes)) (sym k.sink) w;
    rest = λ open_. k.kept_too open_ ∙ ap (λ (l : List ℕ). l ++ drop n bytes) none;
    full = λ many. subst (λ (l : List ℕ). 4194304 < length (l ++ drop n bytes)) none (k.full many);
    cause = no_cause p.end (faults o.sink) (faults p.sink) k.no_fault (ap faults k.sink ∙ met);
  }

  -- the sink took the first of what is kept
  pub push_first : (o m p : Outlet W) (n : ℕ) → m.end ≡ None → faults m.sink ≡ faults o.sink → known.Appends (held o.sink) (held m.sink) (take n (kept o)) → kept m ≡ drop n (kept o) → Settles m p → GoesOut held faults o p []
  push_first o m p n open_ met w left k = record {
    gone = take n (kept o);
    behind = drop n (kept o);
    whole = append_nil (kept o) ∙ sym (take-append-drop n (kept o));
    writes = subst (λ (s : W). known.Appends (held o.sink) (held s) (take n (kept o))) (sym k.sink) w;
    rest = λ none. k.same ∙ left;
    full = λ many. absurd (not_none (sym (k.end_ ∙ open_) ∙ many));
    cause = subst (λ (e : Option OutletEnd). Caused e (faults o.sink) (faults p.sink)) (sym (k.end_ ∙ open_)) (ap faults k.sink ∙ met);
  }

  -- the sink failed
  pub hand_none : (o p : Outlet W) (bytes : List ℕ) → p.end ≡ Some end.Fault → faults p.sink ≡ one_more (faults o.sink) → known.Keeps (held o.sink) (held p.sink) → GoesOut held faults o p bytes
  hand_none o p bytes met more k = record {
    gone = [];
    behind = kept o ++ bytes;
    whole = refl;
    writes = appends_none (held o.sink) (held p.sink) k;
    rest = λ none. absurd (not_none (sym none ∙ met));
    full = λ many. absurd (not_full (sym met ∙ many));
    cause = subst (λ (e : Option OutletEnd). Caused e (faults o.sink) (faults p.sink)) (sym met) more;
  }
