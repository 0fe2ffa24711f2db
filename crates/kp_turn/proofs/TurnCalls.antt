-- What the steps of one call tell together.
use Rattle.std.proofs.Common.{◌≡◌, ℕ, ◌+◌, ◌^◌, ◌<◌, ◌≤◌, IsTrue, true, false, List, [], ◌∷◌, ◌++◌, length, get_or, Some, sym, refl, ap, ◌∙◌, subst, arith, length-append}
use Rattle.std.specs.declared.snapshot.Snapshot.{Snapshot}
use Rattle.atomic_table.specs.Table.{rest}
use Rattle.kp_turn.specs.declared.view.TurnView.{TurnView}
use Rattle.kp_turn.specs.declared.view.TurnSlot.{TurnSlot}
use Rattle.kp_turn.specs.History.{Leads, Answers, IsPrefix, value_after}
use Rattle.kp_turn.specs.TurnView.{Adds, IsFull, SeesMore, WaitsOnly, with_met}
use Rattle.kp_turn.specs.TurnMoves.{HasStepped, HasValue, IsOut, SparesEvent, TakesEvent, WaitsForTurn}
use Rattle.kp_turn.specs.TurnPlays.{Carries, GetsTurn, Sitting, asked, given_up, loaded, raised, with_event}
use Rattle.kp_turn.proofs.Histories.{IsPrefix-trans, Runs-append, value_after-append}

module _ {T E A : Type 0} (events : T → ℕ) (steps : T → E → A → T → Type 0) where
  -- a seat that found the turn free has it and the value
  pub got : (m n : Sitting T E A) (r : ℕ) → asked events steps m r n → r ≡ 0 → HasValue events steps n × GetsTurn m.0 n.0
  got m n r told free = let h = told.0 free in ((ap (λ (v : TurnView T E A). v.has_turn) h.0.1, h.1), h.0)

  -- the value that took the event is one that the history with this event leads to
  pub stepped : (m : Sitting T E A) (now : TurnSlot T E A) (y : T) (e : E) (a : A) (told : Snapshot E) (says : Snapshot A) → HasValue events steps m → m.1 ≡ (0, now) ∷ rest m.1
      → steps now.value e a y → events y ≡ events now.value + 1 → told.value ≡ e → says.value ≡ a
      → HasStepped events steps (m.0, (0, record { value = y; last = Some (told, says) }) ∷ rest m.1) e a
  stepped m now y e a told says h here step count te sa =
      let x : TurnSlot T E A = h.1.0 in
      let same : x ≡ now = ap (λ (l : List (ℕ × TurnSlot T E A)). (get_or l 0 (0, x)).1) (sym h.1.1 ∙ here) in
      let alone : rest m.1 ≡ [] = ap rest h.1.1 in
      let leads : Leads events steps m.0.start m.0.seen now.value = subst (λ (k : TurnSlot T E A). Leads events steps m.0.start m.0.seen k.value) same h.1.2 in
      let after : TurnSlot T E A = record { value = y; last = Some (told, says) } in
      let longer = length-append m.0.seen ((e, a, y) ∷ []) in
      let counts = leads.2 in
      let from : steps (value_after m.0.start m.0.seen) e a y = subst (λ (v : T). steps v e a y) leads.1 step in (
        h.0,
        (
          after,
          ap (λ (l : List (ℕ × TurnSlot T E A)). (0, after) ∷ l) alone,
          (te, sa),
          (Runs-append steps m.0.start m.0.seen e a y leads.0 from, sym (value_after-append m.0.start m.0.seen e a y), omega arith),
          (leads.0, from),
        ),
      )

  -- in its turn a seat learns nothing new from the count
  pub stays : (m n : Sitting T E A) (r : ℕ) → loaded steps m r n → HasValue events steps m → HasValue events steps n × (n.0 ≡ m.0)
  stays m n r told has =
      let same : n.0 ≡ m.0 = told.5 has.0 in
      let whole : m ≡ n = λ i. (sym same i, sym told.1 i) in
      (subst (HasValue events steps) whole has, same)

  -- after the event has joined the history, the seat still has the turn and the value
  pub may_end : (m n : Sitting T E A) (r : ℕ) (e : E) (a : A) → HasStepped events steps m e a → raised m r n → IsTrue n.0.has_turn × Carries events steps n
  may_end m n r e a h told = let t = h.1 in let is : n ≡ (with_event m.0 e a t.0.value, m.1) = told t.0 e a t.1 t.2 in
      subst (λ (z : Sitting T E A). IsTrue z.0.has_turn × Carries events steps z) (sym is) (h.0, (t.0, t.1, t.3))

  -- the count, the step, the raise and the giving up
  pub took : (m n p q z : Sitting T E A) (r k : ℕ) (e : E) (a : A) → loaded steps m k n → k < 2 ^ 62 → IsTrue m.0.has_turn → p.0 ≡ n.0 → HasStepped events steps p e a → raised p r q → z ≡ (given_up q.0, [])
      → TakesEvent steps m.0 z.0 e a
  took m n p q z r k e a load room has same-step h told ends =
      let t = h.1 in let is : q ≡ (with_event p.0 e a t.0.value, p.1) = told t.0 e a t.1 t.2 in let back : p.0 ≡ m.0 = same-step ∙ load.5 has in
      let count : length n.0.seen ≡ k = load.2 in let same-count : length n.0.seen ≡ length m.0.seen = ap (λ (v : TurnView T E A). length v.seen) (load.5 has) in (
        t.0.value,
        ap (λ (x : Sitting T E A). x.0) ends ∙ ap (λ (x : Sitting T E A). given_up x.0) is ∙ ap (λ (v : TurnView T E A). given_up (with_event v e a t.0.value)) back,
        omega arith,
        subst (λ (v : TurnView T E A). Answers steps v.start v.seen e a t.0.value) back t.4,
      )

  -- the count of a full history and the giving up
  pub spared : (m n z : Sitting T E A) (k : ℕ) → IsTrue m.0.has_turn → loaded steps m k n → 2 ^ 62 ≤ k → z ≡ (given_up n.0, []) → SparesEvent m.0 z.0
  spared m n z k has load full ends =
      let same : n.0 ≡ m.0 = load.5 has in
      let count : length n.0.seen ≡ k = load.2 in
      let most = load.3 in
      let same-count : length n.0.seen ≡ length m.0.seen = ap (λ (v : TurnView T E A). length v.seen) same in
      (ap (λ (x : Sitting T E A). x.0) ends ∙ ap given_up same, omega arith)

module _ {T E A : Type 0} where
  -- the seat has asked, since its view was v, and not got the turn
  abbrev pub Asks : TurnView T E A → Sitting T E A → Type 0
  Asks v m = IsOut m × (v.met ≤ m.0.met) × (m.0 ≡ record v { met = m.0.met })

  pub Asks-first : (m : Sitting T E A) → IsOut m → Asks m.0 m
  Asks-first m out = (out, omega arith, refl)

  pub Asks-more : (v : TurnView T E A) (m n : Sitting T E A) → Asks v m → n ≡ (with_met m.0, []) → Asks v n
  Asks-more v m n asks is = subst (Asks v) (sym is) ((refl, asks.0.1), (let met = asks.1 in omega arith), ap with_met asks.2)

  -- it got the turn at last
  pub waited : (v w : TurnView T E A) (m : Sitting T E A) → Asks v m → GetsTurn m.0 w → WaitsForTurn v w
  waited v w m asks got =
      let seen : m.0.seen ≡ v.seen = ap (λ (u : TurnView T E A). u.seen) asks.2 in
      let met : w.met ≡ m.0.met = ap (λ (u : TurnView T E A). u.met) got.1 in (
        subst (λ (l : List (E × A × T)). IsPrefix l w.seen) seen got.0,
        (let more = asks.1 in omega arith),
        got.1 ∙ ap (λ (u : TurnView T E A). record u { seen = w.seen; has_turn = true }) asks.2 ∙ ap (λ (k : ℕ). record v { seen = w.seen; met = k; has_turn = true }) (sym met),
      )

  -- it asked once
  pub got_once : (v w : TurnView T E A) → GetsTurn v w → WaitsForTurn v w × (w.met ≡ v.met)
  got_once v w got =
      let met : w.met ≡ v.met = ap (λ (u : TurnView T E A). u.met) got.1 in
      ((got.0, omega arith, got.1 ∙ ap (λ (k : ℕ). record v { seen = w.seen; met = k; has_turn = true }) (sym met)), met)

  -- looking at the count first
  pub looked : (u v w : TurnView T E A) → SeesMore u v → WaitsForTurn v w → WaitsForTurn u w
  looked u v w sees waits =
      let met : v.met ≡ u.met = ap (λ (x : TurnView T E A). x.met) sees.same in (
        IsPrefix-trans u.seen v.seen w.seen sees.seen waits.0,
        (let more = waits.1 in omega arith),
        waits.2 ∙ ap (λ (x : TurnView T E A). record x { seen = w.seen; met = w.met; has_turn = true }) sees.same,
      )

  -- it only looked
  pub only_looked : (u v : TurnView T E A) → SeesMore u v → WaitsOnly u v
  only_looked u v sees =
      let met : v.met ≡ u.met = ap (λ (x : TurnView T E A). x.met) sees.same in
      record { seen = sees.seen; met = omega arith; same = sees.same ∙ ap (λ (k : ℕ). record u { seen = v.seen; met = k }) (sym met) }

  -- it got the turn and gave it up unused
  pub only_waited : (u w z : TurnView T E A) → u.has_turn ≡ false → WaitsForTurn u w → SparesEvent w z → WaitsOnly u z × IsFull z
  only_waited u w z out waits spares =
      let back : given_up w ≡ record u { seen = w.seen; met = w.met } = ap given_up waits.2 ∙ ap (λ b. record u { seen = w.seen; met = w.met; has_turn = b }) (sym out) in
      subst (λ (x : TurnView T E A). WaitsOnly u x × IsFull x) (sym spares.0) (record { seen = waits.0; met = waits.1; same = back }, spares.1)

  pub only_saw : (u w z : TurnView T E A) → u.has_turn ≡ false → GetsTurn u w → SparesEvent w z → SeesMore u z × IsFull z
  only_saw u w z out got spares =
      let back : given_up w ≡ record u { seen = w.seen } = ap given_up got.1 ∙ ap (λ b. record u { seen = w.seen; has_turn = b }) (sym out) in
      subst (λ (x : TurnView T E A). SeesMore u x × IsFull x) (sym spares.0) (record { seen = got.0; same = back }, spares.1)

  -- the event was added in the turn that the seat got
  pub added : (steps : T → E → A → T → Type 0) (u w z : TurnView T E A) (e : E) (a : A) → u.has_turn ≡ false → WaitsForTurn u w → TakesEvent steps w z e a → Adds steps u z e a
  added steps u w z e a out waits takes =
      let y : T = takes.0 in let ends : z ≡ given_up (with_event w e a y) = takes.1 in
      let start : w.start ≡ u.start = ap (λ (x : TurnView T E A). x.start) waits.2 in
      let met : z.met ≡ w.met = ap (λ (x : TurnView T E A). x.met) ends in record {
        before = w.seen;
        after = y;
        seen = waits.0;
        room = takes.2;
        answer = subst (λ (x : T). Answers steps x w.seen e a y) start takes.3;
        met = (let more = waits.1 in omega arith);
        same = ends ∙ ap (λ (x : TurnView T E A). record x { seen = w.seen ++ (e, a, y) ∷ []; mine = x.mine ++ length w.seen ∷ []; has_turn = false }) waits.2
            ∙ ap (λ b. record u { seen = w.seen ++ (e, a, y) ∷ []; mine = u.mine ++ length w.seen ∷ []; met = w.met; has_turn = b }) (sym out)
            ∙ ap (λ (k : ℕ). record u { seen = w.seen ++ (e, a, y) ∷ []; mine = u.mine ++ length w.seen ∷ []; met = k }) (sym met);
      }
