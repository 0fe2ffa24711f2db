-- Of all that was ever applied in a world, one list is begun by all others.
use Rattle.std.proofs.Common.{◌≡◌, ℕ, ◌≤◌, refl, sym, ap, ◌∙◌, arith, List, [], ◌∷◌, ◌++◌, length, take, subst, ⊎_elim}
use Rattle.kp_model.specs.LogEntry.{LogEntry}
use Rattle.kp_step.specs.Node.{Images}
use Rattle.kp_step.specs.Asking.{Words}
use Rattle.kp_world.proofs.Longest.{Alike, Longest, longest, turn}
use Rattle.kp_world.proofs.Prefixes.{prefix_trans}
use Rattle.kp_world.proofs.Takes.{take_shorter}
use Rattle.kp_cluster.specs.World.{World, Event, happens, run, blank}
use Rattle.kp_cluster.specs.Laws.{AreFaithful, OneList, IsLongest, HasLongest, world_at}

module _ {I : Type 0} (words : Words) (im : Images I) (faithful : AreFaithful im) (n : ℕ) (one : OneList I) where
  run_append : (es fs : List (Event I)) (w : World I) → run words im n (es ++ fs) w ≡ run words im n fs (run words im n es w)
  run_append [] fs w = refl
  run_append (e ∷ es) fs w = run_append es fs (happens words im n w e)

  abbrev applied : List (Event I) → ℕ → ℕ → List LogEntry
  applied es i k = ((world_at words im n es i).members k).done

  moments : (es : List (Event I)) (i m j k : ℕ) → i ≤ m → Alike (applied es i j) (applied es m k)
  moments es i m j k l =
      let w = take_shorter i m es l in
      let e : run words im n (take m es) (blank n) ≡ run words im n w.0 (run words im n (take i es) (blank n)) = ap (λ xs. run words im n xs (blank n)) (sym w.1) ∙ run_append (take i es) w.0 (blank n) in
      subst (λ v. Alike (applied es i j) (v.members k).done) (sym e) (one words im faithful n (take i es) w.0 j k)

  any_moments : (es : List (Event I)) (i m j k : ℕ) → Alike (applied es i j) (applied es m k)
  any_moments es i m j k = ⊎_elim
      (λ (l : i ≤ m). moments es i m j k l)
      (λ (l : m ≤ i). turn _ _ (moments es m i k j l))
      (grind arith)

  has_longest : (es : List (Event I)) → IsLongest words im n es
  has_longest es =
      let at : (i : ℕ) → Longest (applied es i) n = λ i. longest (applied es i) (λ j k. any_moments es i i j k) n in
      let over : Longest (λ i. applied es i (at i).at) (length es) = longest (λ i. applied es i (at i).at) (λ i m. any_moments es i m (at i).at (at m).at) (length es) in
      record {
        moment = over.at;
        member = (at over.at).at;
        all = λ i k l m. prefix_trans _ _ _ ((at i).all k m) (over.all i l);
      }

pub longest_holds : (I : Type 0) → OneList I → HasLongest I
longest_holds I one words im faithful n es = has_longest words im faithful n one es
