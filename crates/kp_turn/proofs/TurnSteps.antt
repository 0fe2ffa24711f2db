-- Each kind of step of a turn keeps the rule of its table, and tells what it says.
use Rattle.std.proofs.Common.{◌≡◌, ℕ, ◌+◌, ◌%◌, ◌^◌, ◌<◌, ◌≤◌, ◌≢◌, IsTrue, true, false, List, [], ◌∷◌, ◌++◌, length, get_or, set, sym, refl, ap, ◌∙◌, subst, inl, inr, ⊎_elim, arith, length-set, length-append, get_or-set_same, get_or-set_other}
use Rattle.std.proofs.lemmas.Bool.{false≢true}
use mathlib.Core.Option.{Option, some, none, some-ne-none}
use mathlib.Core.Logic.{dite}
use native.Mathlib.Decide.{ℕ_discrete}
use lib.ListN.{get_elem?}
use Rattle.atomic_table.specs.Table.{State, keeps, takes, gives, opening, Allows, Splits}
use Rattle.atomic_table.proofs.Lists.{set_here}
use Rattle.kp_turn.specs.declared.view.TurnView.{TurnView}
use Rattle.kp_turn.specs.declared.view.TurnSlot.{TurnSlot}
use Rattle.kp_turn.specs.History.{Runs, Leads, IsPrefix}
use Rattle.kp_turn.specs.TurnView.{first_view, split_off, with_met, with_split}
use Rattle.kp_turn.specs.TurnRule.{Fits, Home, IsOneHistory}
use Rattle.kp_turn.specs.TurnPlays.{Sitting, Tells, asked, gave_up, given_up, loaded, raised, with_event}
use Rattle.kp_turn.proofs.Histories.{IsPrefix-self, IsPrefix-append, same_told}
use Rattle.kp_turn.proofs.Views.{KeepsApart, KeepsApart-same, Apart-set, Apart-append, HasTurnAt, HasTurnAt-set, HasTurnAt-append, at_set_here, at_append, each_set}

module _ {T E A : Type 0} (events : T → ℕ) (steps : T → E → A → T → Type 0) (start : T) where
  abbrev S : Type 0
  S = State (TurnSlot T E A) (TurnView T E A)

  abbrev V : Type 0
  V = TurnView T E A

  abbrev H : Type 0
  H = List (E × A × T)

  abbrev R : S → Type 0
  R = IsOneHistory events steps start

  -- a step on the turn word, at which the history stays
  turn_step : (s : S) (t : R s) (id : ℕ) (v w : V) (n holder : ℕ) (homes : List (Option (TurnSlot T E A))) → get_elem? s.views id ≡ some v → w.mine ≡ v.mine
      → Fits start t.log n holder id w
      → ((j : ℕ) (u : V) → j ≢ id → Fits start t.log (get_or s.words 1 0) t.holder j u → Fits start t.log n holder j u)
      → (0 < n → HasTurnAt (set s.views id w) holder)
      → (n ≡ 0 → Home events steps start t.log homes)
      → R record { words = set s.words 1 n; homes = homes; views = set s.views id w }
  turn_step s t id v w n holder homes me mine fits others held home =
      let is : get_or (set s.words 1 n) 1 0 ≡ n = get_or-set_same s.words 1 n 0 (let l = t.wide in omega arith) in record {
        log = t.log;
        holder = holder;
        wide = length-set s.words 1 n ∙ t.wide;
        bounded = t.bounded;
        counted = get_or-set_other s.words 1 0 n 0 (λ e. omega arith) ∙ t.counted;
        runs = t.runs;
        each = each_set s.views id w (λ j u. Fits start t.log (get_or (set s.words 1 n) 1 0) holder j u) (subst (λ (k : ℕ). Fits start t.log k holder id w) (sym is) fits)
            (λ j u ne at. subst (λ (k : ℕ). Fits start t.log k holder j u) (sym is) (others j u ne (t.each j u at)));
        held = λ some-turn. held (subst (λ (k : ℕ). 0 < k) is some-turn);
        apart = Apart-set s.views id v w me (KeepsApart-same s.views v w mine) t.apart;
        home = λ free. home (sym is ∙ free);
      }

  -- a step on the count, at which the turn stays
  count_step : (s : S) (t : R s) (id : ℕ) (v w : V) (n : ℕ) (log : H) → get_elem? s.views id ≡ some v → n ≡ length log → length log ≤ 2 ^ 62 → Runs steps start log → KeepsApart s.views v w
      → Fits start log (get_or s.words 1 0) t.holder id w
      → ((j : ℕ) (u : V) → j ≢ id → Fits start t.log (get_or s.words 1 0) t.holder j u → Fits start log (get_or s.words 1 0) t.holder j u)
      → (IsTrue v.has_turn → IsTrue w.has_turn)
      → (get_or s.words 1 0 ≡ 0 → Home events steps start log s.homes)
      → R record { words = set s.words 0 n; homes = s.homes; views = set s.views id w }
  count_step s t id v w n log me len within runs distinct fits others stays home =
      let is : get_or (set s.words 0 n) 1 0 ≡ get_or s.words 1 0 = get_or-set_other s.words 0 1 n 0 (λ e. omega arith) in record {
        log = log;
        holder = t.holder;
        wide = length-set s.words 0 n ∙ t.wide;
        bounded = within;
        counted = get_or-set_same s.words 0 n 0 (let l = t.wide in omega arith) ∙ len;
        runs = runs;
        each = each_set s.views id w (λ j u. Fits start log (get_or (set s.words 0 n) 1 0) t.holder j u) (subst (λ (k : ℕ). Fits start log k t.holder id w) (sym is) fits)
            (λ j u ne at. subst (λ (k : ℕ). Fits start log k t.holder j u) (sym is) (others j u ne (t.each j u at)));
        held = λ some-turn. HasTurnAt-set s.views id t.holder v w me stays (t.held (subst (λ (k : ℕ). 0 < k) is some-turn));
        apart = Apart-set s.views id v w me distinct t.apart;
        home = λ free. home (sym is ∙ free);
      }

  -- Asking. It leaves a free turn taken, and a taken one taken, as a compare-exchange and a swap both do.
  pub asks : (slots id : ℕ) (m : Sitting T E A) (f : ℕ → ℕ) → m.1 ≡ [] → m.0.has_turn ≡ false → 0 < f 0 → ((x : ℕ) → 0 < x → 0 < f x)
      → Allows R slots id m 1 f (asked events steps m)
  asks slots id m f empty out takes-it keeps-it s t long me small =
      let x : ℕ = get_or s.words 1 0 in let fit = t.each id m.0 me in
      dite (ℕ_discrete x 0)
      (λ free. let h = t.home free in let w : V = record m.0 { seen = t.log; has_turn = true } in let pos : 0 < f x = subst (λ (k : ℕ). 0 < f k) (sym free) takes-it in (
        w,
        takes 0 h.0,
        h.1,
        turn_step s t id m.0 w (f x) id (set s.homes 0 none) me refl
            record { began = fit.began; prefix = IsPrefix-self t.log; owns = λ _. (refl, refl, pos); places = fit.places }
            (λ j u ne old. record { began = old.began; prefix = old.prefix; owns = λ has. absurd (let taken = (old.owns has).2 in omega arith); places = old.places })
            (λ _. (w, at_set_here s.views id w m.0 me, refl))
            (λ e. absurd (omega arith)),
        ((λ _. ((fit.prefix, refl), (h.0, ap (λ (l : List (ℕ × TurnSlot T E A)). (0, h.0) ∷ l) empty, subst (λ (y : T). Leads events steps y t.log h.0.value) (sym fit.began) h.2))), λ taken. absurd (omega arith)),
      ))
      (λ taken. let w : V = with_met m.0 in let some-turn : 0 < x = omega arith in let pos : 0 < f x = keeps-it x some-turn in (
        w,
        keeps,
        tt,
        turn_step s t id m.0 w (f x) t.holder s.homes me refl
            record { began = fit.began; prefix = fit.prefix; owns = λ has. absurd (false≢true (sym out ∙ has)); places = fit.places }
            (λ j u ne old. record { began = old.began; prefix = old.prefix; owns = λ has. let o = old.owns has in (o.0, o.1, pos); places = old.places })
            (λ _. HasTurnAt-set s.views id t.holder m.0 w me (λ has. has) (t.held some-turn))
            (λ e. absurd (omega arith)),
        ((λ free. absurd (taken free)), λ _. refl),
      ))

  -- Loading the count.
  pub loads : (slots id : ℕ) (m : Sitting T E A) → Allows R slots id m 0 (λ n. n) (loaded steps m)
  loads slots id m s t long me small = let fit = t.each id m.0 me in let w : V = record m.0 { seen = t.log } in (
    w,
    keeps,
    tt,
    count_step s t id m.0 w (get_or s.words 0 0) t.log me t.counted t.bounded t.runs (KeepsApart-same s.views m.0 w refl)
        record { began = fit.began; prefix = IsPrefix-self t.log; owns = λ has. let o = fit.owns has in (o.0, refl, o.2); places = fit.places }
        (λ j u ne old. old)
        (λ has. has)
        t.home,
    (record { seen = fit.prefix; same = refl }, refl, sym t.counted, (let b = t.bounded in let e = t.counted in omega arith), subst (λ (y : T). Runs steps y t.log) (sym fit.began) t.runs, λ has. ap (λ (l : H). record m.0 { seen = l }) (sym (fit.owns has).1)),
  )

  -- Raising the count, by a seat that has the turn and a value that has taken the event.
  pub raises : (slots id : ℕ) (m : Sitting T E A) (x : TurnSlot T E A) (e : E) (a : A) → IsTrue m.0.has_turn → m.1 ≡ (0, x) ∷ [] → Tells x e a → length m.0.seen < 2 ^ 62
      → Runs steps m.0.start (m.0.seen ++ (e, a, x.value) ∷ []) → Allows R slots id m 0 (λ n. (n + 1) % 2 ^ 64) (raised m)
  raises slots id m x e a has carries tells room runs s t long me small =
      let fit = t.each id m.0 me in let o = fit.owns has in let w : V = with_event m.0 e a x.value in let log : H = t.log ++ (e, a, x.value) ∷ [] in
      let longer : length log ≡ length t.log + 1 = length-append t.log ((e, a, x.value) ∷ []) in
      let whole : w.seen ≡ log = ap (λ (l : H). l ++ (e, a, x.value) ∷ []) o.1 in
      let same-length : length m.0.seen ≡ length t.log = ap length o.1 in
      let count : get_or s.words 0 0 ≡ length t.log = t.counted in
      let some-turn = o.2 in (
        w,
        keeps,
        tt,
        count_step s t id m.0 w ((get_or s.words 0 0 + 1) % 2 ^ 64) log me (omega arith) (omega arith)
            (subst (λ (l : H). Runs steps start l) whole (subst (λ (y : T). Runs steps y w.seen) fit.began runs))
            (λ n k at. ⊎_elim (λ old. inl (n, old)) (λ new. inr (λ j u q there am. let below = (t.each j u there).places q k am in let is = new.1 in omega arith)) (at_append m.0.mine (length m.0.seen) k n at))
            record {
              began = fit.began;
              prefix = subst (λ (l : H). IsPrefix l log) (sym whole) (IsPrefix-self log);
              owns = λ _. (o.0, whole, o.2);
              places = λ n k at. ⊎_elim (λ old. let below = fit.places n k old in omega arith) (λ new. let is = new.1 in omega arith) (at_append m.0.mine (length m.0.seen) k n at);
            }
            (λ j u ne old. record {
              began = old.began;
              prefix = IsPrefix-append u.seen t.log ((e, a, x.value) ∷ []) old.prefix;
              owns = λ theirs. absurd (ne ((old.owns theirs).0 ∙ sym o.0));
              places = λ n k at. let below = old.places n k at in omega arith;
            })
            (λ h. h)
            (λ free. absurd (omega arith)),
        λ y d b there told. let same : x ≡ y = ap (λ (l : List (ℕ × TurnSlot T E A)). (get_or l 0 (0, x)).1) (sym carries ∙ there) in
            let p = same_told y.last e a d b (subst (λ (k : TurnSlot T E A). Tells k e a) same tells) told in
            λ i. (with_event m.0 (p.0 i) (p.1 i) (same i).value, m.1),
      )

  -- Giving the turn up, with the value.
  pub gives_up : (slots id : ℕ) (m : Sitting T E A) (x : TurnSlot T E A) → slots ≡ 1 → IsTrue m.0.has_turn → m.1 ≡ (0, x) ∷ [] → Leads events steps m.0.start m.0.seen x.value
      → Allows R slots id m 1 (λ _. 0) (gave_up m)
  gives_up slots id m x one has carries leads =
      subst (λ (c : List (ℕ × TurnSlot T E A)). Allows R slots id (m.0, c) 1 (λ _. 0) (gave_up (m.0, c))) (sym carries)
      (λ s t long me small. let fit = t.each id m.0 me in let o = fit.owns has in let w : V = given_up m.0 in (
        w,
        gives,
        tt,
        turn_step s t id m.0 w 0 t.holder (set s.homes 0 (some x)) me refl
            record { began = fit.began; prefix = fit.prefix; owns = λ none-has. absurd (false≢true none-has); places = fit.places }
            (λ j u ne old. record { began = old.began; prefix = old.prefix; owns = λ theirs. absurd (ne ((old.owns theirs).0 ∙ sym o.0)); places = old.places })
            (λ none-has. absurd (omega arith))
            (λ _. (x, set_here s.homes 0 (some x) (omega arith), subst (λ (l : H). Leads events steps start l x.value) o.1 (subst (λ (y : T). Leads events steps y m.0.seen x.value) fit.began leads))),
        refl,
      ))

  -- Splitting a seat off.
  pub splits : (id : ℕ) (v : V) → Splits R id v (with_split v) (split_off v)
  splits id v s t me = let fit = t.each id v me in let left : V = with_split v in let turn : ℕ = get_or s.words 1 0 in let views : List V = set s.views id left in record {
    log = t.log;
    holder = t.holder;
    wide = t.wide;
    bounded = t.bounded;
    counted = t.counted;
    runs = t.runs;
    each = λ j u at. ⊎_elim
        (λ old. each_set s.views id left (λ k y. Fits start t.log turn t.holder k y)
        record { began = fit.began; prefix = fit.prefix; owns = fit.owns; places = fit.places }
        (λ k y ne there. t.each k y there) j u old)
        (λ new. subst (λ (y : V). Fits start t.log turn t.holder j y) new.1
        record { began = fit.began; prefix = fit.prefix; owns = λ none-has. absurd (false≢true none-has); places = λ n k there. absurd (some-ne-none k (sym there)) })
        (at_append views (split_off v) u j at);
    held = λ some-turn. HasTurnAt-append views (split_off v) t.holder (HasTurnAt-set s.views id t.holder v left me (λ has. has) (t.held some-turn));
    apart = Apart-append views (split_off v) refl (Apart-set s.views id v left me (KeepsApart-same s.views v left refl) t.apart);
    home = t.home;
  }

  -- The table at the start.
  pub opens : (xs : List (TurnSlot T E A)) (x : TurnSlot T E A) → xs ≡ x ∷ [] → x.value ≡ start → events start ≡ 0 → R (opening (0 ∷ 0 ∷ []) xs (first_view start))
  opens xs x one same none-yet = subst (λ (l : List (TurnSlot T E A)). R (opening (0 ∷ 0 ∷ []) l (first_view start))) (sym one) record {
    log = [];
    holder = 0;
    wide = refl;
    bounded = omega arith;
    counted = refl;
    runs = tt;
    each = λ j u at. ⊎_elim (λ old. absurd (some-ne-none u (sym old)))
        (λ new. subst (λ (y : V). Fits start [] 0 0 j y) new.1 record { began = refl; prefix = ([], refl); owns = λ none-has. absurd (false≢true none-has); places = λ n k there. absurd (some-ne-none k (sym there)) })
        (at_append [] (first_view start) u j at);
    held = λ some-turn. absurd (omega arith);
    apart = λ i j v w m n k ai aj am an. ⊎_elim (λ old. absurd (some-ne-none v (sym old))) (λ new. absurd (some-ne-none k (sym (subst (λ (y : V). get_elem? y.mine m ≡ some k) (sym new.1) am)))) (at_append [] (first_view start) v i ai);
    home = λ _. (x, refl, (tt, same, ap events same ∙ none-yet));
  }
