-- A guest that stood aside and is back at its place, among those that were told, is greeted as the definition has it.
use Rattle.std.proofs.Common.{◌≡◌, ℕ, Bool, true, false, cond, List, [], ◌∷◌, Option, Some, None, is_some, refl, ap, sym, subst, ◌∙◌}
use Rattle.std.specs.Prelude.{nat_eq, map, ◌||◌, if◌then◌else◌}
use Rattle.std.specs.Option.{option_map}
use Rattle.std.specs.List.{list_any}
use Rattle.std.specs.Cmp.{nat_eq_equiv}
use Rattle.std.specs.FinMap as map
use Rattle.kp_model.specs.declared.entry.Body.{Body}
use Rattle.kp_model.specs.declared.entry.Body.TheVariants as body
use Rattle.kp_model.specs.declared.reply.Event.{Event}
use Rattle.kp_model.specs.Step.{Outcome}
use Rattle.kp_model.specs.Taken.{is_stale}
use Rattle.kp_watch.specs.declared.watch.Fired.{Fired}
use Rattle.kp_watch.specs.declared.watch.Watch.{Watch}
use Rattle.kp_watch.specs.Watching.{fired, shown, somes}
use Rattle.kp_conn.specs.declared.fed.Fed.{Fed}
use Rattle.kp_conn.specs.declared.fed.FedEnd.{FedEnd}
use Rattle.kp_conn.specs.declared.fed.FedEnd.TheVariants as ends
use Rattle.kp_conn.specs.declared.phase.Phase.{Phase}
use Rattle.kp_conn.specs.declared.phase.Phase.TheVariants as phase
use Rattle.kp_conn.specs.Connection.{Connection, blank, closed, is_over}
use Rattle.kp_step.specs.declared.seat.Seat.{Seat}
use Rattle.kp_step.specs.Choices.{Choices, Luck}
use Rattle.kp_step.specs.Handing as step
use Rattle.kp_step.specs.Handing.{Served, served, ended_by, joined_all, refusal, greeted_as}
use Rattle.kp_step.specs.Node.{Seats}
use Rattle.kp_step.specs.Settling.{is_at_rest}
use Rattle.kp_step.specs.Step.{swept}
use Rattle.kp_step.specs.Tables.{Table, seated, with_row, with_served}
use Rattle.kp_step.specs.Committing.{Greeting, packets_for, newcomer, session_of, session_at, number_in, greeted, greeted_by, greeted_at, greeted_in as greeted_by_phase, meaning, settled_behind}
use Rattle.kp_step.proofs.Serves.{choose}
use Rattle.kp_step.proofs.Settles.{settled-rests}
use Rattle.kp_node.specs.declared.welcoming.Welcome.{Welcome}
use Rattle.kp_node.specs.Applied.{told_in, greeted_in, made_in}
use Rattle.kp_node.specs.Deciding.{kept_watches}
use Rattle.kp_node.specs.Greeting.{Greets, served_if}
use Rattle.kp_node.specs.Informing.{AreInformed}
use Rattle.kp_node.specs.Prospects.{newcomer_by, is_connecting, is_write, waits_at, guest_in, hears_in}
use Rattle.kp_node.specs.Resting.{IsResting}
use Rattle.kp_node.specs.Serving.{IsServed}
use Rattle.kp_node.specs.Touching.{concerns}
use Rattle.kp_node.specs.Welcoming.{welcome_in}
use Rattle.kp_node.proofs.Concerns.{hears_none, unheard}
use Rattle.kp_node.proofs.Greets.{greeting_law}
use Rattle.kp_node.proofs.Maps.{no, get-put, same}
use Rattle.kp_node.proofs.Tabled.{rows, at_rows, by_luck, told_rests, none_settled, kept_sweeps}
use Rattle.kp_node.proofs.Touched.{others_stay}

-- ---- the guest of an entry

-- the newcomer, which waits
pub guest_waits : (seats : Seats) (c : Option ℕ) (k : ℕ) → Some k ≡ guest_in seats c → (c ≡ Some k) × (waits_at (map.get seats k) ≡ true)
guest_waits seats None k h = no true (ap is_some h) refl
guest_waits seats (Some j) k h = at (waits_at (map.get seats j)) refl h where
  at : (b : Bool) → waits_at (map.get seats j) ≡ b → Some k ≡ (if b then Some j else None) → (Some j ≡ Some k) × (waits_at (map.get seats k) ≡ true)
  at true e i = (sym i, subst (λ n. waits_at (map.get seats n) ≡ true) (ap (value j) (sym i)) e) where
    value : ℕ → Option ℕ → ℕ
    value d None = d
    value d (Some n) = n
  at false e i = no true (ap is_some i) refl

pub is_waiting : (p : Phase) → is_connecting p ≡ true → (ro : Bool) × (p ≡ phase.Connecting ro)
is_waiting phase.Fresh h = no false refl h
is_waiting (phase.Connecting ro) h = (ro, refl)
is_waiting (phase.Live s e n) h = no false refl h
is_waiting (phase.Closing lost) h = no false refl h

-- nobody waits for a write
pub no_write : (me boot : ℕ) (b : Body) (late : Bool) (k : ℕ) → (if late then None else newcomer me boot b) ≡ Some k → is_write b ≡ false
no_write me boot b true k h = no true (sym (ap is_some h)) refl
no_write me boot body.Noop false k h = refl
no_write me boot (body.OpenSession timeout passwd o) false k h = refl
no_write me boot (body.Attach session passwd o) false k h = refl
no_write me boot (body.Expire session) false k h = refl
no_write me boot (body.Write session epoch seq c) false k h = no true (sym (ap is_some h)) refl

connecting_free : (b : Body) (ro : Bool) → concerns b (phase.Connecting ro) ≡ false
connecting_free body.Noop ro = refl
connecting_free (body.OpenSession timeout passwd o) ro = refl
connecting_free (body.Attach session passwd o) ro = refl
connecting_free (body.Expire session) ro = refl
connecting_free (body.Write session epoch seq c) ro = refl

hears_listed : (k : ℕ) (fs : List Fired) → list_any (nat_eq k) (map (λ (f : Fired). f.conn) fs) ≡ hears_in (Some k) fs
hears_listed k [] = refl
hears_listed k (f ∷ fs) = ap (λ b. nat_eq k f.conn || b) (hears_listed k fs)

-- it hears nothing
pub no_packets : (es : List Event) (fs : List Fired) (pairs : List (ℕ × Event)) (k : ℕ) → shown es fs ≡ somes pairs → hears_in (Some k) fs ≡ false → packets_for k pairs ≡ []
no_packets es fs pairs k shows h = unheard es fs pairs shows k (hears_listed k fs ∙ h)

-- ---- what was read of it is served

end_rests : (e : FedEnd) (c : Connection) → is_at_rest c.queue ≡ true → is_at_rest (ended_by e c).queue ≡ true
end_rests ends.Ok c h = h
end_rests (ends.Word w) c h = h
end_rests (ends.Bad at) c h = choose (λ (x : Connection). is_at_rest x.queue ≡ true) (is_over c.phase) c (closed false c) h refl

-- what was read of it, or nothing: by this luck
abbrev pub ServedBy : step.Ground → Luck → ℕ → List Watch → Connection → step.Desk → Option Fed → List Watch → Connection → step.Desk → Type 0
ServedBy g luck k ws c d f ws' c' d' = let w = served_if g luck k ws c d f in (c' ≡ w.connection) × (d' ≡ w.desk) × ((m : Seats) (s : Seat) → map.get m k ≡ Some s → s.connection ≡ c' → swept m ws' ≡ swept m w.watches)

pub served_by_luck : (g : step.Ground) (k : ℕ) (ws : List Watch) (c : Connection) (d : step.Desk) (f : Fed) (ws' : List Watch) (c' : Connection) (d' : step.Desk) (h : IsServed g k ws c d f ws' c' d') → ServedBy g h.0 k ws c d (Some f) ws' c' d'
served_by_luck g k ws c d f ws' c' d' h = (
  h.1.0,
  h.1.1,
  λ m s there is. ap (swept m) (h.1.2 ∙ ap (λ (x : Connection). kept_watches k x.phase (served g h.0 k ws c d f).watches) (sym is)) ∙ kept_sweeps m k s (served g h.0 k ws c d f).watches there,
)

pub any_luck : Luck
any_luck = record { events = None; requests = None; answers = None }

pub unserved_by_luck : (g : step.Ground) (k : ℕ) (ws : List Watch) (c : Connection) (d : step.Desk) (ws' : List Watch) (c' : Connection) → ws' ≡ ws → c' ≡ c → ServedBy g any_luck k ws c d None ws' c' d
unserved_by_luck g k ws c d ws' c' kept is = (is, refl, λ m s there e. ap (swept m) kept)

-- one that was greeted rests once it is served
module _ (g : step.Ground) (luck : Luck) (k : ℕ) (ws : List Watch) (c c' : Connection) (d : step.Desk) (ro : Bool) where
  served_rests : (f : Fed) → is_at_rest (served g luck k ws c' d f).connection.queue ≡ true
  unfolding served
  served_rests f = let j = joined_all g luck.requests c' d f.requests in end_rests f.end _ (settled-rests g.state k luck.answers ws j.connection j.connection.queue)

  pub guest_rests : (w : Option Welcome) (f : Option Fed) → Greets (phase.Connecting ro) w f c c' → is_at_rest (served_if g luck k ws c' d f).connection.queue ≡ true
  guest_rests w (Some f) h = served_rests f
  guest_rests None None h = ap (λ (x : Connection). is_at_rest x.queue) h.0
  guest_rests (Some w) None h = no true (sym (ap is_some h.1.0)) refl

-- ---- the table

module _ (g : step.Ground) (d : step.Desk) (me boot : ℕ) (b : Body) (o : Outcome) (ws : List Watch) (seats : Seats) (k : ℕ) (s : Seat) (ro : Bool) (there : map.get seats k ≡ Some s) (waits : s.connection.phase ≡ phase.Connecting ro)
    (new : newcomer_by me boot b o.reply ≡ Some k) (silent : packets_for k (fired ws o.events).pairs ≡ []) (aside here : Seats) (is_aside : aside ≡ map.insert seats k (seated s blank))
    (told : AreInformed me boot o.state.applied b o.reply (fired ws o.events).pairs aside here) (rest : (q : ℕ) → IsResting (map.get seats q)) where
  abbrev pairs : List (ℕ × Event)
  pairs = (fired ws o.events).pairs

  -- each connection has the luck with which it was told, and the guest this one
  abbrev pub with_guest : Luck → Choices
  with_guest luck = record { room = None; luck = λ q. cond (nat_eq k q) luck (record { events = (told q).0; requests = None; answers = (told q).1 }) }

  own_luck : (luck : Luck) → (with_guest luck).luck k ≡ luck
  own_luck luck = ap (λ z. cond z luck (record { events = (told k).0; requests = None; answers = (told k).1 })) (nat_eq_equiv.refl k)

  aside_at : (q : ℕ) → nat_eq k q ≡ false → map.get aside q ≡ map.get seats q
  aside_at q e = ap (λ m. map.get m q) is_aside ∙ get-put seats k (seated s blank) q ∙ ap (λ z. cond z (Some (seated s blank)) (map.get seats q)) e

  module _ (luck : Luck) where
    abbrev ch : Choices
    ch = with_guest luck

    abbrev table : Table
    table = told_in ch me boot seats ws b o

    abbrev row_of : ℕ → Seat → Seat
    row_of q = rows me boot o.state.applied b o.reply pairs ch q

    table_at : (q : ℕ) → map.get table.seats q ≡ option_map (row_of q) (map.get seats q)
    unfolding with_row
    table_at q = at_rows me boot o.state.applied b o.reply pairs ch seats q

    -- the others are as they were told
    others_are : (q : ℕ) → nat_eq k q ≡ false → map.get table.seats q ≡ map.get here q
    others_are q e = table_at q ∙ ap (option_map (row_of q)) (sym (aside_at q e))
        ∙ by_luck me boot o.state.applied b o.reply pairs aside here told ch q (ap (λ z. (cond z luck (record { events = (told q).0; requests = None; answers = (told q).1 })).events) e) (ap (λ z. (cond z luck (record { events = (told q).0; requests = None; answers = (told q).1 })).answers) e)

    -- the guest waits still
    guest_stays : row_of k s ≡ s
    guest_stays =
        ap (λ c. seated s (meaning ch me boot o.state.applied b o.reply k c).connection) (hears_none ch pairs k silent s.connection)
        ∙ ap (seated s) (others_stay ch me boot o.state.applied b o.reply k s.connection (ap (concerns b) waits ∙ connecting_free b ro))

    guest_is : map.get table.seats k ≡ Some s
    guest_is = table_at k ∙ ap (option_map (row_of k)) there ∙ ap Some guest_stays

    module _ (w : Option Welcome) (f : Option Fed) (conn : Connection) (agrees : w ≡ welcome_in (session_of b o.reply) (session_at g.state (session_of b o.reply))) (greets : Greets (phase.Connecting ro) w f s.connection conn) where
      abbrev made : Served
      made = served_if g luck k table.watches conn d f

      abbrev greeting : Greeting
      greeting = record { table = with_served k s made table; desk = made.desk }

      made_is : greeted_as g (ch.luck k) k table.watches d s.connection ro (number_in (session_of b o.reply)) (session_at g.state (session_of b o.reply)) ≡ made
      made_is = greeting_law g (ch.luck k) k table.watches d s.connection conn ro g.state (session_of b o.reply) f (subst (λ z. Greets (phase.Connecting ro) z f s.connection conn) agrees greets)
          ∙ ap (λ l. served_if g l k table.watches conn d f) (own_luck luck)

      pub guest_greeted : greeted_in ch g d me boot seats ws b o ≡ greeting
      unfolding greeted
      guest_greeted =
          ap (greeted_by ch g d table (session_of b o.reply)) new
          ∙ ap (greeted_at ch g d table (session_of b o.reply) k) guest_is
          ∙ ap (greeted_by_phase ch g d table (session_of b o.reply) k s) waits
          ∙ ap (λ (z : Served). let x : Greeting = record { table = with_served k s z table; desk = z.desk } in x) made_is

      seat_now : Seat
      seat_now = seated s made.connection

      others_rest : (q : ℕ) → IsResting (map.get here q)
      others_rest = told_rests me boot o.state.applied b o.reply pairs aside here told (no_write me boot b (is_stale o.reply) k new)
          (λ q. subst (λ m. IsResting (map.get m q)) (sym is_aside) (subst IsResting (sym (get-put seats k (seated s blank) q)) (aside_rests q (nat_eq k q)))) where
            aside_rests : (q : ℕ) (z : Bool) → IsResting (cond z (Some (seated s blank)) (map.get seats q))
            aside_rests q true = refl
            aside_rests q false = rest q

      greeting_rests : (q : ℕ) → IsResting (map.get greeting.table.seats q)
      greeting_rests q = subst IsResting (sym (get-put table.seats k (seated s made.connection) q)) (at (nat_eq k q) refl) where
        at : (z : Bool) → nat_eq k q ≡ z → IsResting (cond z (Some (seated s made.connection)) (map.get table.seats q))
        at true e = guest_rests g luck k table.watches s.connection conn d ro w f greets
        at false e = subst IsResting (sym (others_are q e)) (others_rest q)

      -- all is settled
      pub guest_made : made_in ch g d me boot seats ws b o ≡ greeting
      guest_made = ap (settled_behind ch o.state) guest_greeted ∙ none_settled ch o.state greeting greeting_rests

      module _ (v : Seats) (ws' : List Watch) (c' : Connection) (d' : step.Desk) (put : v ≡ map.insert here k (seated s c')) (by : ServedBy g luck k table.watches conn d f ws' c' d') where
        placed : v ≡ map.insert table.seats k (seated s made.connection)
        placed = put ∙ same _ _ (λ q. get-put here k (seated s c') q ∙ at q (nat_eq k q) refl ∙ sym (get-put table.seats k (seated s made.connection) q)) where
          at : (q : ℕ) (z : Bool) → nat_eq k q ≡ z → cond z (Some (seated s c')) (map.get here q) ≡ cond z (Some (seated s made.connection)) (map.get table.seats q)
          at q true e = ap (λ c. Some (seated s c)) by.0
          at q false e = sym (others_are q e)

        own_place : map.get v k ≡ Some (seated s c')
        own_place = ap (λ m. map.get m k) put ∙ get-put here k (seated s c') k ∙ ap (λ z. cond z (Some (seated s c')) (map.get here k)) (nat_eq_equiv.refl k)

        pub guest_seats : v ≡ (made_in ch g d me boot seats ws b o).table.seats
        guest_seats = placed ∙ ap (λ (x : Greeting). x.table.seats) (sym guest_made)

        pub guest_watches : swept v ws' ≡ swept v (made_in ch g d me boot seats ws b o).table.watches
        guest_watches = by.2 v (seated s c') own_place refl ∙ ap (λ (x : Greeting). swept v x.table.watches) (sym guest_made)

        pub guest_desk : d' ≡ (made_in ch g d me boot seats ws b o).desk
        guest_desk = by.1 ∙ ap (λ (x : Greeting). x.desk) (sym guest_made)
