-- How many connections were given up, and which.
use Rattle.std.proofs.Common.{◌≡◌, ℕ, Bool, true, false, cond, ◌&&◌, List, [], ◌∷◌, length, Option, Some, None, refl, ap, sym, subst, ◌∙◌, arith}
use Rattle.std.proofs.lemmas.Cmp.{eq_by_cmp_equiv}
use Rattle.std.specs.Prelude.{map, T}
use Rattle.std.specs.List.{filter}
use Rattle.std.specs.declared.cmp.Ordering.{Ordering}
use Rattle.std.specs.declared.cmp.Ordering.TheVariants.{Less, Equal, Greater}
use Rattle.std.specs.Ordering.{nat_cmp, eq_by_cmp, is_eq, is_lt}
use Rattle.std.specs.Cmp.{nat_cmp_total}
use Rattle.std.specs.FinMap as map
use Rattle.std.specs.FinMap.{find, is_sorted}
use Rattle.std.specs.FinMap.Entries.{below_all}
use Rattle.kp_conn.specs.Connection.{Connection, is_lost}
use Rattle.kp_step.specs.declared.seat.Seat.{Seat}
use Rattle.kp_step.specs.Node.{Seats}
use Rattle.kp_step.proofs.Tables.{no, tied}
use Rattle.kp_ample.specs.Ample.{NoneIsLost}
use Rattle.kp_ample.proofs.Gone.{given_up}

-- a test of a connection that is there
abbrev pub test_at : (Connection → Bool) → Option Seat → Bool
test_at p None = false
test_at p (Some s) = p s.connection

abbrev pub NoneAre : (Connection → Bool) → Seats → Type 0
NoneAre p m = (k : ℕ) → test_at p (map.get m k) ≡ false

pub own_key : (k : ℕ) → eq_by_cmp nat_cmp k k ≡ true
own_key k = (eq_by_cmp_equiv nat_cmp_total).refl k

abbrev lost_in : List (ℕ × Seat) → ℕ
lost_in es = length (filter (λ (s : Seat). is_lost s.connection.phase) (map (λ e. e.1) es))

-- ---- from the count to each

found_by : (a b : Bool) (v : Seat) (fs : List Seat) (o : Option Seat) → given_up v.connection ≡ b → length (cond b (v ∷ fs) fs) ≡ 0 → (length fs ≡ 0 → test_at given_up o ≡ false) → test_at given_up (cond a (Some v) o) ≡ false
found_by a true v fs o e h f = absurd (omega (arith, h))
found_by true false v fs o e h f = e
found_by false false v fs o e h f = f h

found : (k : ℕ) (es : List (ℕ × Seat)) → lost_in es ≡ 0 → test_at given_up (find nat_cmp k es) ≡ false
found k [] h = refl
found k (e ∷ es) h = found_by (eq_by_cmp nat_cmp k e.0) (given_up e.1.connection) e.1 _ (find nat_cmp k es) refl h (found k es)

pub none_up : (m : Seats) → NoneIsLost m → NoneAre given_up m
none_up m h k = subst (λ o. test_at given_up o ≡ false) (sym (map.get-entries m k)) (found k (map.entries m) h)

-- ---- from each to the count

below_by : (r : Ordering) (rest : Bool) (v : Seat) (o : Option Seat) → (is_lt r && rest) ≡ true → (rest ≡ true → o ≡ None) → cond (is_eq r) (Some v) o ≡ None
below_by Less rest v o h f = f h
below_by Equal rest v o h f = no false refl h
below_by Greater rest v o h f = no false refl h

below_none : (k : ℕ) (es : List (ℕ × Seat)) → below_all nat_cmp k es ≡ true → find nat_cmp k es ≡ None
below_none k [] h = refl
below_none k (e ∷ es) h = below_by (nat_cmp k e.0) (below_all nat_cmp k es) e.1 (find nat_cmp k es) h (below_none k es)

left_holds : (a b : Bool) → (a && b) ≡ true → a ≡ true
left_holds true b h = refl
left_holds false b h = h

right_holds : (a b : Bool) → (a && b) ≡ true → b ≡ true
right_holds true b h = h
right_holds false b h = no false refl h

-- what is so of all but the first key is so of all, since the first is none of the others
past_by : (k q : ℕ) (v : Seat) (es : List (ℕ × Seat)) (b : Bool) → eq_by_cmp nat_cmp q k ≡ b → find nat_cmp k es ≡ None → test_at given_up (cond b (Some v) (find nat_cmp q es)) ≡ false → test_at given_up (find nat_cmp q es) ≡ false
past_by k q v es true e none h = subst (λ z. test_at given_up (find nat_cmp z es) ≡ false) (sym (tied q k e)) (ap (test_at given_up) none)
past_by k q v es false e none h = h

head_of : (k : ℕ) (v : Seat) (o : Option Seat) → test_at given_up (cond (eq_by_cmp nat_cmp k k) (Some v) o) ≡ false → given_up v.connection ≡ false
head_of k v o h = ap (λ b. test_at given_up (cond b (Some v) o)) (sym (own_key k)) ∙ h

counted : (es : List (ℕ × Seat)) → is_sorted nat_cmp es ≡ true → ((k : ℕ) → test_at given_up (find nat_cmp k es) ≡ false) → lost_in es ≡ 0
counted [] sorted h = refl
counted (e ∷ es) sorted h = ap (λ b. length (cond b (e.1 ∷ filter (λ (s : Seat). is_lost s.connection.phase) (map (λ d. d.1) es)) (filter (λ (s : Seat). is_lost s.connection.phase) (map (λ d. d.1) es)))) (head_of e.0 e.1 (find nat_cmp e.0 es) (h e.0))
    ∙ counted es (right_holds (below_all nat_cmp e.0 es) (is_sorted nat_cmp es) sorted)
    (λ q. past_by e.0 q e.1 es (eq_by_cmp nat_cmp q e.0) refl (below_none e.0 es (left_holds (below_all nat_cmp e.0 es) (is_sorted nat_cmp es) sorted)) (h q))

so_true : (b : Bool) → T b → b ≡ true
so_true true h = refl
so_true false h = absurd h

pub none_lost : (m : Seats) → NoneAre given_up m → NoneIsLost m
none_lost m h = counted (map.entries m) (so_true _ (map.entries_sorted m)) (λ k. subst (λ o. test_at given_up o ≡ false) (map.get-entries m k) (h k))
