-- Requests join one after another.
use Rattle.std.proofs.Common.{◌≡◌, ℕ, zero, ◌+◌, Bool, true, false, List, [], ◌∷◌, ◌++◌, Option, Some, None, Result, Ok, Err, refl, ap, sym, subst, ◌∙◌, length, arith}
use Rattle.std.specs.Prelude.{if◌then◌else◌, nat_le, nat_lt, ◌&&◌, ◌-◌, OnOk}
use Rattle.kp_model.specs.declared.command.Cmd.{Cmd}
use Rattle.kp_model.specs.declared.entry.Body.{Body}
use Rattle.kp_model.specs.declared.entry.Body.TheVariants as body
use Rattle.kp_model.specs.Limits.{last_number}
use Rattle.kp_model.specs.State.{State}
use Rattle.kp_model.specs.Store.{Store}
use Rattle.kp_model.specs.Step.{apply}
use Rattle.kp_model.specs.Taken.{would_take}
use Rattle.kp_ask.specs.Asks.{command}
use Rattle.kp_wire.specs.declared.request.Request.{Request}
use Rattle.kp_conn.specs.declared.phase.Phase.{Phase}
use Rattle.kp_conn.specs.declared.phase.Phase.TheVariants as phase
use Rattle.kp_conn.specs.declared.waiting.Mark.{Mark}
use Rattle.kp_conn.specs.Connection as conn
use Rattle.kp_conn.specs.Connection.{Connection, closed, joined, is_lost}
use Rattle.kp_step.specs.Choices.{is_out, less}
use Rattle.kp_step.specs.Handing as step
use Rattle.kp_step.specs.Handing.{Joined, joined_so, joined_all, joined_one, joined_as, joined_write, taking, numbered, unnumbered, handed, proposed, is_led}
use Rattle.kp_step.proofs.Tables.{no}
use Rattle.kp_node.specs.declared.joining.Ground.{Ground}
use Rattle.kp_node.specs.declared.joining.Place.{Place}
use Rattle.kp_node.specs.Deciding.{one_more}
use Rattle.kp_node.specs.Serving.{IsEmptied}
use Rattle.kp_node.specs.Proposing.{AtDesk}
use Rattle.kp_node.specs.Joining.{joined_with, joined_by, ground_in, desk_of, led, IsBehind, IsHanded, SameBeside, write_number, IsJoinedWrite, IsJoinedOne, AreJoined, JoinSoFar, EndAlike}

-- ---- a body is handed in

forwards_stay : (term now : ℕ) (d : step.Desk) (b : Body) → (proposed term now d b).forwards ≡ d.forwards
unfolding proposed
forwards_stay term now d b = by (nat_lt 0 d.room && would_take d.latest b) where
  by : (c : Bool) → (if c then record d { latest = (apply d.latest (record { term = term; time = now; body = b })).state; room = d.room - 1; bodies = d.bodies ++ b ∷ [] } else d).forwards ≡ d.forwards
  by true = refl
  by false = refl

-- the desk of a storage is the one that it is at
desk_is : (first : Store) (term now : ℕ) (x : Store) (bs fs : List Body) (d : step.Desk) → AtDesk first term now x bs d → d.forwards ≡ fs → desk_of x bs fs ≡ d
desk_is first term now x bs fs d h e = λ i. record { latest = h.latest i; room = h.room i; bodies = h.bodies i; forwards = sym e i }

module _ (g : Ground) (x y : Store) (bs fs cs : List Body) (b : Body) where
  abbrev leading : Bool → step.Ground → step.Desk → step.Desk
  leading l h d = if l then proposed h.term h.now d b else record d { forwards = d.forwards ++ b ∷ [] }

  led_so : (l : Bool) (s : State) → g.leads ≡ l → handed (ground_in g s) (desk_of x bs fs) b ≡ leading l (ground_in g s) (desk_of x bs fs)
  unfolding handed
  led_so l s e = ap (λ z. leading z (ground_in g s) (desk_of x bs fs)) e

  pub handed_in : g.leads ≡ true → ((first : Store) (d : step.Desk) → AtDesk first g.term g.now x bs d → AtDesk first g.term g.now y cs (proposed g.term g.now d b)) → IsHanded g x bs fs b y cs fs
  handed_in e h first s behind =
      let d = desk_of x bs fs in
      let now : AtDesk first g.term g.now y cs (proposed g.term g.now d b) = h first d behind in
      let same : desk_of y cs fs ≡ proposed g.term g.now d b = desk_is first g.term g.now y cs fs (proposed g.term g.now d b) now (forwards_stay g.term g.now d b) in
      (subst (AtDesk first g.term g.now y cs) (sym same) now, same ∙ sym (led_so true s e))

  pub sent_on : g.leads ≡ false → IsHanded g x bs fs b x bs (fs ++ b ∷ [])
  sent_on e first s behind = (record { store = behind.store; latest = refl; room = refl; bodies = refl; within = behind.within; numbers = behind.numbers }, sym (led_so false s e))

-- ---- a request joins

module _ (g : Ground) (x : Store) (bs fs : List Body) (c c' : Connection) (q : Request) (w : Cmd) where
  written_by : (s : State) (p : Phase) (b : Bool) → Joined
  written_by s p b = joined_write (ground_in g s) c (desk_of x bs fs) q w p

  abbrev plain : Joined
  plain = joined_so (joined (unnumbered q) c) (desk_of x bs fs)

  abbrev with_number : State → Place → Joined
  with_number s p = joined_so (joined (numbered q p.seq g.term) c) (handed (ground_in g s) (desk_of x bs fs) (body.Write p.session p.epoch p.seq w))

  abbrev by_place : State → Option Place → Joined
  by_place s None = plain
  by_place s (Some p) = with_number s p

  by_led : (s : State) (a e n : ℕ) (b : Bool) → (if b then with_number s (record { session = a; epoch = e; seq = n }) else plain) ≡ by_place s (if b then Some (record { session = a; epoch = e; seq = n }) else None)
  by_led s a e n true = refl
  by_led s a e n false = refl

  write_is : (s : State) (p : Phase) → joined_write (ground_in g s) c (desk_of x bs fs) q w p ≡ by_place s (write_number (led g x) p)
  write_is s phase.Fresh = refl
  write_is s (phase.Connecting ro) = refl
  write_is s (phase.Live a e n) = by_led s a e n (led g x && nat_le n last_number)
  write_is s (phase.Closing l) = refl

  pub plain_write : write_number (led g x) c.phase ≡ None → c' ≡ joined (unnumbered q) c → IsJoinedWrite g q w x bs fs c x bs fs c'
  plain_write e is first s behind = (behind, ap joined_by (write_is s c.phase ∙ ap (by_place s) e) ∙ ap (λ (z : Connection). (z, desk_of x bs fs)) (sym is))

  pub numbered_write : (p : Place) (y : Store) (cs gs : List Body) → write_number (led g x) c.phase ≡ Some p → c' ≡ joined (numbered q p.seq g.term) c → IsHanded g x bs fs (body.Write p.session p.epoch p.seq w) y cs gs → IsJoinedWrite g q w x bs fs c y cs gs c'
  numbered_write p y cs gs e is h first s behind = let r = h first s behind in (
    r.0,
    ap joined_by (write_is s c.phase ∙ ap (by_place s) e) ∙ λ i. (sym is i, sym r.1 i),
  )

module _ (g : Ground) (q : Request) (x : Store) (bs fs : List Body) (c : Connection) where
  pub as_plain : (c' : Connection) → command q.ask ≡ None → c' ≡ joined (unnumbered q) c → IsJoinedOne g q x bs fs c x bs fs c'
  unfolding joined_one
  as_plain c' e is first s behind = (behind, ap (λ o. joined_by (joined_as (ground_in g s) c (desk_of x bs fs) q o)) e ∙ ap (λ (z : Connection). (z, desk_of x bs fs)) (sym is))

  pub as_write : (w : Cmd) (y : Store) (cs gs : List Body) (c' : Connection) → command q.ask ≡ Some w → IsJoinedWrite g q w x bs fs c y cs gs c' → IsJoinedOne g q x bs fs c y cs gs c'
  unfolding joined_one
  as_write w y cs gs c' e h first s behind = let r = h first s behind in (r.0, ap (λ o. joined_by (joined_as (ground_in g s) c (desk_of x bs fs) q o)) e ∙ r.1)

-- ---- all requests join

less_more : (n : Option ℕ) → less (one_more n) ≡ n
less_more None = refl
less_more (Some n) = refl

more_in : (n : Option ℕ) → is_out (one_more n) ≡ false
more_in None = refl
more_in (Some n) = refl

module _ (h : step.Ground) (c : Connection) (d : step.Desk) where
  abbrev shown : Joined → Connection × step.Desk
  shown j = joined_by j

  one_joins : (n : Option ℕ) (q : Request) (qs : List Request) → joined_with h (one_more n) c d (q ∷ qs) ≡ joined_with h n (joined_one h c d q).connection (joined_one h c d q).desk qs
  unfolding joined_all
  one_joins n q qs =
      ap (λ b. joined_by (if b then joined_so (closed true c) d else taking q (joined_all h (less (one_more n)) (joined_one h c d q).connection (joined_one h c d q).desk qs))) (more_in n)
      ∙ ap (λ m. joined_with h m (joined_one h c d q).connection (joined_one h c d q).desk qs) (less_more n)

  out_joins : (q : Request) (qs : List Request) → joined_with h (Some zero) c d (q ∷ qs) ≡ (closed true c, d)
  unfolding joined_all
  out_joins q qs = refl

  none_joins : (n : Option ℕ) → joined_with h n c d [] ≡ (c, d)
  unfolding joined_all
  none_joins n = refl

-- a connection that was not given up isn't by a request that joins
live_number : (p : Phase) (m : Option Mark) → is_lost (conn.numbered p m) ≡ is_lost p
live_number phase.Fresh m = refl
live_number (phase.Connecting ro) m = refl
live_number (phase.Live s e n) None = refl
live_number (phase.Live s e n) (Some m) = refl
live_number (phase.Closing l) m = refl

abbrev LivesOn : Connection → Joined → Type 0
LivesOn c j = is_lost j.connection.phase ≡ is_lost c.phase

either_lives : (b : Bool) (x y : Joined) (c : Connection) → LivesOn c x → LivesOn c y → LivesOn c (if b then x else y)
either_lives true x y c p q = p
either_lives false x y c p q = q

write_lives : (h : step.Ground) (c : Connection) (d : step.Desk) (q : Request) (w : Cmd) (p : Phase) → LivesOn c (joined_write h c d q w p)
write_lives h c d q w phase.Fresh = live_number c.phase None
write_lives h c d q w (phase.Connecting ro) = live_number c.phase None
write_lives h c d q w (phase.Live s e n) = either_lives (is_led h d && nat_le n last_number) (joined_so (joined (numbered q n h.term) c) (handed h d (body.Write s e n w))) (joined_so (joined (unnumbered q) c) d) c
    (live_number c.phase (Some (record { seq = n; term = h.term }))) (live_number c.phase None)
write_lives h c d q w (phase.Closing l) = live_number c.phase None

as_lives : (h : step.Ground) (c : Connection) (d : step.Desk) (q : Request) (o : Option Cmd) → LivesOn c (joined_as h c d q o)
as_lives h c d q None = live_number c.phase None
as_lives h c d q (Some w) = write_lives h c d q w c.phase

one_lives : (h : step.Ground) (c : Connection) (d : step.Desk) (q : Request) → LivesOn c (joined_one h c d q)
unfolding joined_one
one_lives h c d q = as_lives h c d q (command q.ask)

empties_by : (b : Bool) (x y : Joined) → IsEmptied x.connection → IsEmptied y.connection → IsEmptied (if b then x else y).connection
empties_by true x y p q = p
empties_by false x y p q = q

-- a live connection whose requests joined keeps nothing that waits where it was given up
pub joined_empties : (h : step.Ground) (n : Option ℕ) (c : Connection) (d : step.Desk) (qs : List Request) → is_lost c.phase ≡ false → IsEmptied (joined_all h n c d qs).connection
unfolding joined_all
joined_empties h n c d [] l = λ e. no (is_lost c.phase) l e
joined_empties h n c d (q ∷ qs) l = empties_by (is_out n) (joined_so (closed true c) d) (taking q (joined_all h (less n) (joined_one h c d q).connection (joined_one h c d q).desk qs)) (λ e. refl)
    (joined_empties h (less n) (joined_one h c d q).connection (joined_one h c d q).desk qs (one_lives h c d q ∙ l))

module _ (g : Ground) (qs : List Request) (x₀ : Store) (bs₀ fs₀ : List Body) (c₀ : Connection) where
  pub begins : JoinSoFar g qs x₀ bs₀ fs₀ c₀ x₀ bs₀ fs₀ c₀ qs
  begins first s behind = (behind, λ n. (n, refl))

  module _ (x : Store) (bs fs : List Body) (c : Connection) (rest : List Request) (so_far : JoinSoFar g qs x₀ bs₀ fs₀ c₀ x bs fs c rest) where
    module _ (q : Request) (more : List Request) (left : rest ≡ q ∷ more) where
      pub goes_on : (y : Store) (cs gs : List Body) (c' : Connection) → IsJoinedOne g q x bs fs c y cs gs c' → JoinSoFar g qs x₀ bs₀ fs₀ c₀ y cs gs c' more
      goes_on y cs gs c' h first s behind =
          let r = so_far first s behind in
          let t = h first s r.0 in (
            t.0,
            λ n. let m = r.1 (one_more n) in (
              m.0,
              m.1 ∙ ap (joined_with (ground_in g s) (one_more n) c (desk_of x bs fs)) left ∙ one_joins (ground_in g s) c (desk_of x bs fs) n q more
                  ∙ ap (λ (z : Connection × step.Desk). joined_with (ground_in g s) n z.0 z.1 more) t.1,
            ),
          )

      pub ends_lost : (y : Store) (cs gs : List Body) (mid c' : Connection) → SameBeside x bs fs y cs gs → EndAlike c mid → c' ≡ closed true mid → AreJoined g qs x₀ bs₀ fs₀ c₀ y cs gs c'
      ends_lost y cs gs mid c' same alike is first s behind =
          let r = so_far first s behind in
          let m = r.1 (Some zero) in (
            subst (λ (z : Store × (List Body × List Body)). IsBehind first g z.0 z.1.0 z.1.1) (λ i. (sym same.0 i, (sym same.1.0 i, sym same.1.1 i))) r.0,
            (
              m.0,
              m.1 ∙ ap (joined_with (ground_in g s) (Some zero) c (desk_of x bs fs)) left ∙ out_joins (ground_in g s) c (desk_of x bs fs) q more
                  ∙ λ i. (sym (is ∙ alike) i, desk_of (sym same.0 i) (sym same.1.0 i) (sym same.1.1 i)),
            ),
          )

    pub all_joined : rest ≡ [] → AreJoined g qs x₀ bs₀ fs₀ c₀ x bs fs c
    all_joined left first s behind =
        let r = so_far first s behind in
        let m = r.1 None in (
          r.0,
          (m.0, m.1 ∙ ap (joined_with (ground_in g s) None c (desk_of x bs fs)) left ∙ none_joins (ground_in g s) c (desk_of x bs fs) None),
        )

-- what is left of an iterator behind one more
pub more_left : {A : Type 0} {x : A} {xs rest : List A} {n m : ℕ} → n ≡ length xs → xs ≡ x ∷ rest → m + 1 ≡ n → m ≡ length rest
more_left {x = x} {xs = xs} {rest = rest} {n = n} {m = m} h e g = let same : length xs ≡ length (x ∷ rest) = ap length e in omega (arith, h, same, g)

pub none_left : {A : Type 0} (xs : List A) → length xs ≡ 0 → xs ≡ []
none_left [] h = refl
none_left (x ∷ xs) h = absurd (omega (arith, h))

-- a fact where a call was right, from another
pub on_ok : {A E : Type 0} {P Q : Type 0} (r : Result A E) → (P → Q) → OnOk r P → OnOk r Q
on_ok (Ok x) f h = f h
on_ok (Err e) f h = tt
