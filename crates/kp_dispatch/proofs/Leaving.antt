-- What a turn lets leave.
use Rattle.std.proofs.Common.{◌≡◌, ℕ, List, [], ◌∷◌, ◌++◌, sym, refl, ap, ◌∙◌, subst, append_assoc}
use Rattle.std.specs.Prelude.{Option, Some, None, Result, Ok, Err}
use Rattle.kp_event.specs.declared.said.OutPiece.{OutPiece}
use Rattle.kp_event.specs.declared.said.Said.TheVariants as said
use Rattle.kp_event.specs.declared.thought.Thought.{Thought}
use Rattle.kp_shared.specs.Letters.{Letter}
use Rattle.kp_shared.specs.Tasks.{Each, IsOver, bad_of, bytes_of, out_of}
use Rattle.kp_shared.proofs.Lists.{append_nil, bytes_both, each_both}
use Rattle.kp_dispatch.specs.declared.ends.ConnEnd.{ConnEnd}
use Rattle.kp_dispatch.specs.declared.ends.ConnEnd.TheVariants as end
use Rattle.kp_dispatch.specs.Output.{OutTells, WroteAll, WrotePart}
use Rattle.kp_dispatch.specs.Rounds.{IsQuiet, LeaveTells, SaysBad, SaysNoneBad, SaysOver, first_bad, first_of, judged}
use Rattle.kp_dispatch.proofs.Quiet.{quiet_bytes}

first_of_none : (a : Option ℕ) → first_of a None ≡ a
first_of_none (Some at) = refl
first_of_none None = refl

first_of_three : (a b c : Option ℕ) → first_of a (first_of b c) ≡ first_of (first_of a b) c
first_of_three (Some at) b c = refl
first_of_three None b c = refl

abbrev is_none : Option ℕ → Type 0
is_none None = Unit {0}
is_none (Some n) = ⊥

none_some : (n : ℕ) → None ≡ Some n → ⊥
none_some n e = subst is_none e tt

none_of : (a : Option ℕ) (b : Option ℕ) → first_of a b ≡ None → (a ≡ None) × (b ≡ None)
none_of None b e = (refl, e)
none_of (Some at) b e = absurd (none_some at (sym e))

module _ {M : Type 0} where
  pub bad_more : (ts : List (Thought (Letter M))) (t : Thought (Letter M)) → first_bad (ts ++ t ∷ []) ≡ first_of (first_bad ts) (bad_of t.said)
  bad_more [] t = first_of_none (bad_of t.said)
  bad_more (u ∷ us) t = ap (λ (o : Option ℕ). first_of (bad_of u.said) o) (bad_more us t) ∙ first_of_three (bad_of u.said) (first_bad us) (bad_of t.said)

  none_bad : (ts : List (Thought (Letter M))) → first_bad ts ≡ None → SaysNoneBad ts
  none_bad [] e = tt
  none_bad (t ∷ ts) e = let x = none_of (bad_of t.said) (first_bad ts) e in (x.0, none_bad ts x.1)

  bad_here : (a : Option ℕ) (at : ℕ) (ts : List (Thought (Letter M))) (t : Thought (Letter M)) → bad_of t.said ≡ a → first_of a (first_bad ts) ≡ Some at → (first_bad ts ≡ Some at → SaysBad at ts) → SaysBad at (t ∷ ts)
  bad_here (Some b) at ts t is e rest = ([], t, ts, refl, is ∙ e)
  bad_here None at ts t is e rest = let x = rest e in (t ∷ x.0, x.1, x.2, ap (λ (l : List (Thought (Letter M))). t ∷ l) x.3, x.4)

  says_bad : (at : ℕ) (ts : List (Thought (Letter M))) → first_bad ts ≡ Some at → SaysBad at ts
  says_bad at [] e = absurd (none_some at e)
  says_bad at (t ∷ ts) e = bad_here (bad_of t.said) at ts t refl e (says_bad at ts)

  pub bad_before : (at : ℕ) (ts us : List (Thought (Letter M))) → SaysBad at ts → SaysBad at (ts ++ us)
  bad_before at ts us s = (s.0, s.1, s.2 ++ us, ap (λ (l : List (Thought (Letter M))). l ++ us) s.3 ∙ append_assoc s.0 (s.1 ∷ s.2) us, s.4)

module _ {M : Type 0} (held held' : Option (List ℕ)) (faults faults' : ℕ) where
  leave_with : (ts : List (Thought (Letter M))) (out : Option OutPiece) (b : Option ℕ) (r : Result (Unit {0}) ConnEnd) → bytes_of ts ≡ out_of (said.Out out) → (b ≡ None → SaysNoneBad ts)
      → ((at : ℕ) → b ≡ Some at → SaysBad at ts) → (IsOver (said.Out out) → SaysOver ts) → OutTells held held' faults faults' out r → LeaveTells held held' faults faults' ts (judged b r)
  leave_with ts out None (Ok u) e none bad over o = (subst (λ (l : List ℕ). WroteAll held held' l) (sym e) o.0, o.1, none refl)
  leave_with ts out None (Err end.Ended) e none bad over o = (subst (λ (l : List ℕ). WroteAll held held' l) (sym e) o.0, o.1, none refl, over o.2)
  leave_with ts out None (Err end.NoMemory) e none bad over o = (subst (λ (l : List ℕ). WroteAll held held' l) (sym e) o.0, o.1)
  leave_with ts out None (Err end.WriteFault) e none bad over o = (subst (λ (l : List ℕ). WrotePart held held' l) (sym e) o.0, o.1)
  leave_with ts out None (Err (end.BadFrame at)) e none bad over o = absurd o
  leave_with ts out None (Err end.ReadFault) e none bad over o = absurd o
  leave_with ts out None (Err end.Stopped) e none bad over o = absurd o
  leave_with ts out None (Err end.DiskFault) e none bad over o = absurd o
  leave_with ts out None (Err (end.Full k n)) e none bad over o = absurd o
  leave_with ts out None (Err end.Worn) e none bad over o = absurd o
  leave_with ts out (Some at) (Ok u) e none bad over o = (subst (λ (l : List ℕ). WroteAll held held' l) (sym e) o.0, o.1, bad at refl)
  leave_with ts out (Some at) (Err end.Ended) e none bad over o = (subst (λ (l : List ℕ). WroteAll held held' l) (sym e) o.0, o.1, bad at refl)
  leave_with ts out (Some at) (Err end.NoMemory) e none bad over o = (subst (λ (l : List ℕ). WroteAll held held' l) (sym e) o.0, o.1, bad at refl)
  leave_with ts out (Some at) (Err end.WriteFault) e none bad over o = (subst (λ (l : List ℕ). WrotePart held held' l) (sym e) o.0, o.1)
  leave_with ts out (Some at) (Err (end.BadFrame b)) e none bad over o = absurd o
  leave_with ts out (Some at) (Err end.ReadFault) e none bad over o = absurd o
  leave_with ts out (Some at) (Err end.Stopped) e none bad over o = absurd o
  leave_with ts out (Some at) (Err end.DiskFault) e none bad over o = absurd o
  leave_with ts out (Some at) (Err (end.Full k n)) e none bad over o = absurd o
  leave_with ts out (Some at) (Err end.Worn) e none bad over o = absurd o

  pub leave_tells : (front : List (Thought (Letter M))) (d : Thought (Letter M)) (out : Option OutPiece) (r : Result (Unit {0}) ConnEnd) → Each IsQuiet front → d.said ≡ said.Out out → OutTells held held' faults faults' out r
      → LeaveTells held held' faults faults' (front ++ d ∷ []) (judged (first_bad front) r)
  leave_tells front d out r quiet e o = leave_with (front ++ d ∷ []) out (first_bad front) r
      (bytes_both front (d ∷ []) ∙ ap (λ (l : List ℕ). l ++ (out_of d.said ++ [])) (quiet_bytes front quiet) ∙ append_nil (out_of d.said) ∙ ap out_of e)
      (λ none. each_both (λ (t : Thought (Letter M)). bad_of t.said ≡ None) front (d ∷ []) (none_bad front none) (ap bad_of e, tt))
      (λ at bad. bad_before at front (d ∷ []) (says_bad at front bad))
      (λ over. (front, d, [], refl, subst IsOver (sym e) over)) o
