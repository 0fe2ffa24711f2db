-- Of finitely many lists, of which each two begin alike, one is begun by all.
use Rattle.std.proofs.Common.{◌≡◌, ℕ, zero, suc, ◌≤◌, refl, sym, ap, ◌∙◌, arith, List, [], ◌∷◌, ◌++◌, length, take, subst, inl, inr, ◌⊎◌, ⊎_elim}
use mathlib.Core.List.{IsPrefix}
use Rattle.kp_model.specs.LogEntry.{LogEntry}
use Rattle.kp_world.proofs.Prefixes.{prefix_self, prefix_trans}
use Rattle.kp_world.specs.Net.{Net, Event, happens, run, blank}
use Rattle.kp_world.specs.Net.{moment, OneList}
use Rattle.kp_world.proofs.Takes.{take_shorter}
use Rattle.kp_world.proofs.Worlds.{one_log_holds}

-- one of them begins the other
abbrev pub Alike : List LogEntry → List LogEntry → Type 0
Alike xs ys = IsPrefix xs ys ⊎ IsPrefix ys xs

pub record Longest (f : ℕ → List LogEntry) (n : ℕ) : Type 0 where
  pub at : ℕ
  pub within : at ≤ n
  pub all : (j : ℕ) → j ≤ n → IsPrefix (f j) (f at)

pub longest : (f : ℕ → List LogEntry) → ((i j : ℕ) → Alike (f i) (f j)) → (n : ℕ) → Longest f n
longest f h zero = record { at = 0; within = omega arith; all = λ j l. let e : j ≡ 0 = omega arith in rw e (prefix_self (f 0)) }
longest f h (suc n) = here (longest f h n)
  where
    here : Longest f n → Longest f (suc n)
    here r = ⊎_elim
        (λ (w : IsPrefix (f r.at) (f (suc n))). record {
          at = suc n;
          within = omega arith;
          all = λ j l. ⊎_elim
              (λ (le : j ≤ n). prefix_trans (f j) (f r.at) (f (suc n)) (r.all j le) w)
              (λ (e : j ≡ suc n). rw e (prefix_self (f (suc n))))
              (grind arith);
        })
        (λ (w : IsPrefix (f (suc n)) (f r.at)). record {
          at = r.at;
          within = omega (arith, r.within);
          all = λ j l. ⊎_elim
              (λ (le : j ≤ n). r.all j le)
              (λ (e : j ≡ suc n). rw e w)
              (grind arith);
        })
        (h r.at (suc n))

pub run_append : {I : Type 0} (n : ℕ) (es fs : List (Event I)) (w : Net I) → run n (es ++ fs) w ≡ run n fs (run n es w)
run_append n [] fs w = refl
run_append n (e ∷ es) fs w = run_append n es fs (happens n w e)

moments : {I : Type 0} (n : ℕ) (es : List (Event I)) (i m j k : ℕ) → i ≤ m → Alike ((moment n es i).nodes j).done ((moment n es m).nodes k).done
moments {I = I} n es i m j k l =
    let w = take_shorter i m es l in
    let e : run n (take m es) blank ≡ run n w.0 (run n (take i es) blank) = ap (λ xs. run n xs blank) (sym w.1) ∙ run_append n (take i es) w.0 blank in
    subst (λ v. Alike ((moment n es i).nodes j).done (v.nodes k).done) (sym e) (one_log_holds I n (take i es) w.0 j k)

pub turn : (xs ys : List LogEntry) → Alike xs ys → Alike ys xs
turn xs ys (inl w) = inr w
turn xs ys (inr w) = inl w

any_moments : {I : Type 0} (n : ℕ) (es : List (Event I)) (i m j k : ℕ) → Alike ((moment n es i).nodes j).done ((moment n es m).nodes k).done
any_moments n es i m j k = ⊎_elim
    (λ (l : i ≤ m). moments n es i m j k l)
    (λ (l : m ≤ i). turn _ _ (moments n es m i k j l))
    (grind arith)

pub one_list_holds : (I : Type 0) → OneList I
one_list_holds I n es =
    let at : (i : ℕ) → Longest (λ k. ((moment n es i).nodes k).done) n = λ i. longest (λ k. ((moment n es i).nodes k).done) (λ j k. any_moments n es i i j k) n in
    let over : Longest (λ i. ((moment n es i).nodes (at i).at).done) (length es) = longest (λ i. ((moment n es i).nodes (at i).at).done) (λ i m. any_moments n es i m (at i).at (at m).at) (length es) in
    record {
      moment = over.at;
      member = (at over.at).at;
      all = λ i k l m. prefix_trans _ _ _ ((at i).all k m) (over.all i l);
    }
