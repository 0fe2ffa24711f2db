-- What a connect request is answered.
use Rattle.std.proofs.Common.{◌≡◌, ℕ, zero, suc, ◌<◌, Bool, true, false, cond, ◌||◌, not, inl, inr, List, Option, Some, None, is_some, refl, ap, ◌∙◌, arith}
use Rattle.std.proofs.lemmas.Bool.Decides.{nat_tests}
use Rattle.std.specs.Prelude.{ℤ, pos, negsuc, ◌↔◌, ◌⊎◌, nat_lt, if◌then◌else◌}
use Rattle.std.specs.Cmp.{eq_by_cmp_equiv, nat_cmp_total}
use Rattle.std.specs.FinMap as map
use Rattle.kp_model.specs.Limits.{last_number}
use Rattle.kp_wire.specs.declared.connect.ConnectRequest.{ConnectRequest}
use Rattle.kp_watch.specs.declared.watch.Watch.{Watch}
use Rattle.kp_conn.specs.Connection.{Connection, closed, put, is_over}
use Rattle.kp_conn.specs.Fed.{fed}
use Rattle.kp_conn.specs.Packets.{connect_packet}
use Rattle.kp_step.specs.Handing.{Ground, Desk, Served, serves, refusal, is_passwd, is_refused_number, is_refused, is_led, connects, first_served, served_as, ground, desk}
use Rattle.kp_step.specs.Tables.{seated}
use Rattle.kp_step.specs.Asking.{fed_end, client_served}
use Rattle.kp_step.specs.Step.{client_turn, fed_turn, step, together, turned}
use Rattle.kp_step.proofs.Tables.{no, get-insert}
use Rattle.kp_answers.specs.Connects.{IsNoNumber, RefusedByNumber, behind_connect, ConnectsAreAnswered}

either : (a b : Bool) → (a || not b) ≡ true → (a ≡ true) ⊎ (b ≡ false)
either true b h = inl refl
either false true h = no false refl h
either false false h = inr refl

by_either : (a b : Bool) → (a ≡ true) ⊎ (b ≡ false) → (a || not b) ≡ true
by_either true b h = refl
by_either false b (inl h) = no false refl h
by_either false b (inr h) = ap not h

above : (n : ℕ) → nat_lt last_number n ≡ true → last_number < n
above n h = grind (arith, nat_tests)

is_above : (n : ℕ) → last_number < n → nat_lt last_number n ≡ true
is_above n h = grind (arith, nat_tests)

to_number : (n : ℕ) (p : Bool) → (nat_lt last_number n ≡ true) ⊎ (p ≡ false) → (last_number < n) ⊎ (p ≡ false)
to_number n p (inl h) = inl (above n h)
to_number n p (inr h) = inr h

of_number : (n : ℕ) (p : Bool) → (last_number < n) ⊎ (p ≡ false) → (nat_lt last_number n ≡ true) ⊎ (p ≡ false)
of_number n p (inl h) = inl (is_above n h)
of_number n p (inr h) = inr h

number_refused : (passwd : Option (List ℕ)) (z : ℤ) → (is_refused_number passwd z ≡ true) ↔ IsNoNumber passwd z
number_refused passwd (negsuc n) = (λ h. tt, λ h. refl)
number_refused passwd (pos zero) = (λ h. no false refl h, λ h. absurd h)
number_refused passwd (pos (suc n)) = (λ h. to_number (suc n) (is_passwd passwd) (either (nat_lt last_number (suc n)) (is_passwd passwd) h), λ h. by_either (nat_lt last_number (suc n)) (is_passwd passwd) (of_number (suc n) (is_passwd passwd) h))

pub refused_by_number : RefusedByNumber
refused_by_number q = number_refused q.passwd q.session

-- ---- at the event

if_pushes : (P : Served → Connection) (a : Bool) (y z : Served) → P (if a then y else z) ≡ (if a then P y else P z)
if_pushes P true y z = refl
if_pushes P false y z = refl

connect_is : (g : Ground) (k : ℕ) (draw : List ℕ) (c : Connection) (d : Desk) (ws : List Watch) (q : ConnectRequest) → (connects g k draw c d ws q).connection ≡ behind_connect (is_refused q) (is_led g d) q c
connect_is g k draw c d ws q = if_pushes (λ w. w.connection) (is_refused q) _ _ ∙ ap (λ y. if is_refused q then closed false (put (connect_packet (refusal (is_some q.read_only))) c) else y) (if_pushes (λ w. w.connection) (is_led g d) _ _)

pub connects_are_answered : (I : Type 0) → ConnectsAreAnswered I
unfolding step together turned client_served serves
connects_are_answered I words im ch x now k bytes s q there fresh asks = let w = client_served words ch x now k bytes s in
    ap (λ o. map.get (client_turn words ch x now k bytes o).node.seats k) there
    ∙ ap (λ b. map.get (if b then client_turn words ch x now k bytes None else fed_turn x now k s (fed_end s bytes) w).node.seats k) (ap is_over fresh)
    ∙ get-insert x.seats k (seated s w.connection) k
    ∙ ap (λ b. cond b (Some (seated s w.connection)) (map.get x.seats k)) ((eq_by_cmp_equiv nat_cmp_total).refl k)
    ∙ ap (λ p. Some (seated s (served_as (ground now x.state x) (ch.luck k) k s.draw (words x) (desk x) x.watches p (fed s.connection bytes).0 (fed s.connection bytes).1).connection)) fresh
    ∙ ap (λ o. Some (seated s (first_served (ground now x.state x) k s.draw (words x) (fed s.connection bytes).0 (desk x) x.watches o (fed s.connection bytes).1.end).connection)) asks
    ∙ ap (λ c. Some (seated s c)) (connect_is (ground now x.state x) k s.draw (fed s.connection bytes).0 (desk x) x.watches q)
