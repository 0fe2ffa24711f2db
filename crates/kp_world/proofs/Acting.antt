-- Each write that acts carries the next number.
use Rattle.std.proofs.Common.{◌≡◌, ℕ, ◌+◌, ◌==◌, Bool, true, false, not, ◌&&◌, cond, ◌⊎◌, inl, inr, List, [], ◌∷◌, ◌++◌, length, Option, Some, None, refl, sym, ap, subst, ◌∙◌, true≢false, arith, eqb-true}
use Rattle.std.proofs.lemmas.Bool.{eq-eqb}
use Rattle.std.specs.Ordering.{nat_cmp}
use Rattle.std.specs.Cmp.{unsigned_tied}
use Rattle.std.specs.FinMap as map
use Rattle.kp_model.specs.LogEntry.{LogEntry}
use Rattle.kp_model.specs.declared.session.Session.{Session}
use Rattle.kp_model.specs.declared.entry.Body.{Body}
use Rattle.kp_model.specs.declared.entry.Body.TheVariants as body
use Rattle.kp_model.specs.declared.command.Cmd.{Cmd}
use Rattle.kp_model.specs.declared.reply.Reply.TheVariants as reply
use Rattle.kp_model.specs.State.{State, empty}
use Rattle.kp_model.specs.Step.{Outcome, replies, act, with_seq, written_by, take_body, apply}
use Rattle.kp_model.specs.Taken.{is_next}
use Rattle.kp_world.specs.Acted.{number_in, numbers, row_behind, WritesAreCounted, OthersChangeNothing}
use Rattle.kp_world.proofs.Standing.{Stands, StandsIn, set_stands, act_stands, opened_stands, attached_stands, expired_stands}

-- no number, and as many are used as before; or the next number
abbrev Moves : ℕ → ℕ → ℕ → List ℕ → State → Type 0
Moves id ep k l t = ((l ≡ []) × StandsIn id ep k t) ⊎ ((l ≡ (k + 1) ∷ []) × StandsIn id ep (k + 1) t)

true-eqb : (a b : ℕ) → a ≡ b → (a == b) ≡ true
true-eqb = eq-eqb

-- ---- a write

-- the number of a write that acts where it is the session's and of the epoch
abbrev number_if : Bool → Bool → Bool → ℕ → List ℕ
number_if a b c seq = cond (a && (b && c)) (seq ∷ []) []

none_dead : (a b : Bool) (seq : ℕ) → number_if a b false seq ≡ []
none_dead true true seq = refl
none_dead true false seq = refl
none_dead false b seq = refl

both_true : (a b : Bool) → (a && b) ≡ true → (a ≡ true) × (b ≡ true)
both_true true b e = (refl, e)
both_true false b e = absurd (true≢false (sym e))

-- the running number rises, of this session or of another
raised_stands : (id ep k session : ℕ) (s : State) (x : Session) (seq : ℕ) → map.get s.sessions session ≡ Some x → seq ≡ x.seq + 1 → StandsIn id ep k s → (a b : Bool)
    → (id == session) ≡ a → (ep == x.epoch) ≡ b
    → Moves id ep k (number_if a b true seq) (record s { sessions = map.insert s.sessions session (with_seq seq x) })
raised_stands id ep k session s x seq found next st true true mine now =
    let e = eqb-true id session mine in
    let old = subst (Stands s.next id ep k) (ap (map.get s.sessions) e ∙ found) st in
    let is = eqb-true ep x.epoch now in
    let counts = next ∙ ap (λ n. n + 1) (sym (old.1 is)) in
    inr (
      ap (λ n. n ∷ []) counts,
      set_stands s.next id ep (k + 1) s.sessions session (with_seq seq x)
          (λ _. (old.0, λ _. sym counts, λ later. absurd (omega (arith, later, is))))
          (λ other. absurd (true≢false (sym (unsigned_tied id session ∙ mine) ∙ other))),
    )
raised_stands id ep k session s x seq found next st true false mine now =
    let e = eqb-true id session mine in
    let old = subst (Stands s.next id ep k) (ap (map.get s.sessions) e ∙ found) st in
    inl (
      refl,
      set_stands s.next id ep k s.sessions session (with_seq seq x)
          (λ _. (old.0, λ is. absurd (true≢false (sym (true-eqb ep x.epoch is) ∙ now)), old.2)) (λ _. st),
    )
raised_stands id ep k session s x seq found next st false b mine now =
    inl (
      refl,
      set_stands s.next id ep k s.sessions session (with_seq seq x)
          (λ e. absurd (true≢false (sym (true-eqb id session e) ∙ mine))) (λ _. st),
    )

-- and the command changes nothing of it
moved_on : (id ep k : ℕ) (l : List ℕ) (t : State) (session : ℕ) (ids : List (List ℕ)) (i time : ℕ) (c : Cmd) → Moves id ep k l t → Moves id ep k l (act t session ids i time c).state
moved_on id ep k l t session ids i time c (inl m) = inl (m.0, act_stands id ep k t session ids i time c m.1)
moved_on id ep k l t session ids i time c (inr m) = inr (m.0, act_stands id ep (k + 1) t session ids i time c m.1)

chosen_moves : (id ep k : ℕ) (l : List ℕ) (b : Bool) (x y : Outcome) → (b ≡ true → Moves id ep k l x.state) → (b ≡ false → Moves id ep k l y.state) → Moves id ep k l (cond b x y).state
chosen_moves id ep k l true x y p q = p refl
chosen_moves id ep k l false x y p q = q refl

not_true : (b : Bool) → not b ≡ true → b ≡ false
not_true true e = absurd (true≢false (sym e))
not_true false e = refl

not_false : (b : Bool) → not b ≡ false → b ≡ true
not_false true e = refl
not_false false e = absurd (true≢false e)

written_moves : (id ep k : ℕ) (o : Option Session) (s : State) (i t session epoch seq : ℕ) (c : Cmd) → map.get s.sessions session ≡ o → StandsIn id ep k s
    → Moves id ep k (number_if (id == session) (ep == epoch) (is_next epoch seq o) seq) (written_by o s i t session epoch seq c).state
written_moves id ep k None s i t session epoch seq c found st = inl (none_dead (id == session) (ep == epoch) seq, st)
written_moves id ep k (Some x) s i t session epoch seq c found st =
    let next = epoch == x.epoch && seq == x.seq + 1 in
    chosen_moves id ep k _ (not next) _ _
    (λ late. inl (ap (λ b. number_if (id == session) (ep == epoch) b seq) (not_true next late) ∙ none_dead (id == session) (ep == epoch) seq, st))
    (λ yes. let two = both_true (epoch == x.epoch) (seq == x.seq + 1) (not_false next yes) in
    let same = eqb-true epoch x.epoch two.0 in
    subst (λ l. Moves id ep k l (act (record s { sessions = map.insert s.sessions session (with_seq seq x) }) session x.ids i t c).state)
    (ap (λ n. number_if (id == session) (ep == n) true seq) (sym same) ∙ ap (λ b. number_if (id == session) (ep == epoch) b seq) (sym (not_false next yes)))
    (moved_on id ep k _ (record s { sessions = map.insert s.sessions session (with_seq seq x) }) session x.ids i t c
    (raised_stands id ep k session s x seq found (eqb-true seq (x.seq + 1) two.1) st (id == session) (ep == x.epoch) refl refl)))

-- ---- an entry, and a list of them

taken_moves : (id ep k : ℕ) (s : State) (i t : ℕ) (b : Body) → StandsIn id ep k s → Moves id ep k (number_in s id ep b) (take_body s i t b).state
unfolding take_body
taken_moves id ep k s i t body.Noop st = inl (refl, st)
taken_moves id ep k s i t (body.OpenSession timeout passwd origin) st = inl (refl, opened_stands id ep k s timeout passwd origin st)
taken_moves id ep k s i t (body.Attach session passwd origin) st = inl (refl, attached_stands id ep k _ s session passwd origin refl st)
taken_moves id ep k s i t (body.Expire session) st = inl (refl, expired_stands id ep k _ s i session st)
taken_moves id ep k s i t (body.Write session epoch seq c) st = written_moves id ep k _ s i t session epoch seq c refl st

same_number_in : (s : State) (id ep : ℕ) (b : Body) → number_in (record s { applied = s.applied + 1 }) id ep b ≡ number_in s id ep b
same_number_in s id ep body.Noop = refl
same_number_in s id ep (body.OpenSession timeout passwd origin) = refl
same_number_in s id ep (body.Attach session passwd origin) = refl
same_number_in s id ep (body.Expire session) = refl
same_number_in s id ep (body.Write session epoch seq c) = refl

applied_moves : (id ep k : ℕ) (s : State) (e : LogEntry) → StandsIn id ep k s → Moves id ep k (number_in s id ep e.body) (apply s e).state
unfolding apply
applied_moves id ep k s e st =
    subst (λ l. Moves id ep k l (apply s e).state) (same_number_in s id ep e.body) (taken_moves id ep k (record s { applied = s.applied + 1 }) _ _ e.body st)

-- numbers in a row behind k
abbrev IsRow : ℕ → List ℕ → Type 0
IsRow k l = l ≡ row_behind k (length l)

row_on : (k : ℕ) (l rest : List ℕ) → l ≡ (k + 1) ∷ [] → IsRow (k + 1) rest → IsRow k (l ++ rest)
row_on k l rest one row = subst (λ x. IsRow k (x ++ rest)) (sym one) (ap (λ r. (k + 1) ∷ r) row)

row_same : (k : ℕ) (l rest : List ℕ) → l ≡ [] → IsRow k rest → IsRow k (l ++ rest)
row_same k l rest none row = subst (λ x. IsRow k (x ++ rest)) (sym none) row

row_of : (id ep k : ℕ) (l rest : List ℕ) (t : State) → Moves id ep k l t → ((j : ℕ) → StandsIn id ep j t → IsRow j rest) → IsRow k (l ++ rest)
row_of id ep k l rest t (inl m) behind = row_same k l rest m.0 (behind k m.1)
row_of id ep k l rest t (inr m) behind = row_on k l rest m.0 (behind (k + 1) m.1)

pub numbers_row : (id ep k : ℕ) (s : State) (es : List LogEntry) → StandsIn id ep k s → IsRow k (numbers s id ep es)
unfolding numbers
numbers_row id ep k s [] st = refl
numbers_row id ep k s (e ∷ es) st = row_of id ep k _ _ (apply s e).state (applied_moves id ep k s e st) (λ j. numbers_row id ep j (apply s e).state es)

-- on the empty tree nothing was used
none_yet : (id ep : ℕ) → StandsIn id ep 0 empty
unfolding empty
none_yet id ep = subst (Stands 1 id ep 0) (sym (map.get-empty nat_cmp id)) (λ _. refl)

pub writes_counted : WritesAreCounted
writes_counted es id ep = numbers_row id ep 0 empty es (none_yet id ep)

-- ---- what doesn't act

idle : (o : Option Session) (s : State) (i t session epoch seq : ℕ) (c : Cmd) → is_next epoch seq o ≡ false → (written_by o s i t session epoch seq c).state ≡ s
idle None s i t session epoch seq c late = refl
idle (Some x) s i t session epoch seq c late = ap (λ b. (cond (not b) (replies s reply.Stale) (act (record s { sessions = map.insert s.sessions session (with_seq seq x) }) session x.ids i t c)).state) late

pub others_change_nothing : OthersChangeNothing
unfolding apply take_body
others_change_nothing s term time session epoch seq c late = idle _ (record s { applied = s.applied + 1 }) _ time session epoch seq c late
